-- Reads are answered one after another: what is written, with the text of what is still to be read, stays the text of the whole input.
use Rattle.std.proofs.Common.{ℕ, ◌+◌, ◌≤◌, ◌≡◌, refl, Bool, true, false, List, [], ◌++◌, length, take, drop, None, Some, IfSome, sym, ap, ap₂, subst, ◌∙◌, append_assoc}
use Rattle.std.specs.declared.option.Option.{Option}
use Rattle.std.specs.Io.KnownBytes.{Appends, Consumes, IsAtEnd}
use Rattle.book.specs.declared.Book.{Book}
use Rattle.book.specs.declared.Line.{Line}
use Rattle.model.specs.Run.{run_text, run_lines}
use Rattle.report.specs.Report.{taken_lines}
use Rattle.turn.specs.Turn.{answered_of, book_after, lines_after, written_after, out_after, kept_after, input_after}
use Rattle.turn.specs.Loop.{Between, Read, turn_on, next-book, next-lends, next-text, next-held, split_text, all-answered}

-- ## Bytes that are known

-- what is written now, and then f of what is left to read, is what was written at first, and then f₀ of what was left to read then
abbrev pub Goes : (r₀ w₀ r w : Option (List ℕ)) (f₀ f : List ℕ → List ℕ) → Type 0
Goes None w₀ r w f₀ f = Unit {0}
Goes (Some xs) None r w f₀ f = Unit {0}
Goes (Some xs) (Some o) None w f₀ f = ⊥
Goes (Some xs) (Some o) (Some ys) None f₀ f = ⊥
Goes (Some xs) (Some o) (Some ys) (Some z) f₀ f = z ++ f ys ≡ o ++ f₀ xs

pub goes_first : (r w : Option (List ℕ)) (f : List ℕ → List ℕ) → Goes r w r w f f
goes_first None w f = tt
goes_first (Some xs) None f = tt
goes_first (Some xs) (Some o) f = refl

goes_more : (r₀ w₀ r w r' w' : Option (List ℕ)) (f₀ f f' : List ℕ → List ℕ) (bs text : List ℕ)
    → ((ys : List ℕ) → f (bs ++ ys) ≡ text ++ f' ys) → Goes r₀ w₀ r w f₀ f → Consumes r r' bs → Appends w w' text → Goes r₀ w₀ r' w' f₀ f'
goes_more None w₀ r w r' w' f₀ f f' bs text law g c a = tt
goes_more (Some xs) None r w r' w' f₀ f f' bs text law g c a = tt
goes_more (Some xs) (Some o) None w r' w' f₀ f f' bs text law g c a = absurd g
goes_more (Some xs) (Some o) (Some ys) None r' w' f₀ f f' bs text law g c a = absurd g
goes_more (Some xs) (Some o) (Some ys) (Some z) None w' f₀ f f' bs text law g c a = absurd c
goes_more (Some xs) (Some o) (Some ys) (Some z) (Some ys') None f₀ f f' bs text law g c a = absurd a
goes_more (Some xs) (Some o) (Some ys) (Some z) (Some ys') (Some z') f₀ f f' bs text law g c a =
    ap (λ q. q ++ f' ys') a ∙ append_assoc z text (f' ys') ∙ ap (λ q. z ++ q) (sym (law ys') ∙ ap f (sym c)) ∙ g

goes_end : (r₀ w₀ r w r' w' : Option (List ℕ)) (f₀ f : List ℕ → List ℕ) (text : List ℕ)
    → f [] ≡ text → Goes r₀ w₀ r w f₀ f → Consumes r r' [] → IsAtEnd r' → Appends w w' text → IfSome r₀ (λ xs. Appends w₀ w' (f₀ xs))
goes_end None w₀ r w r' w' f₀ f text law g c e a = tt
goes_end (Some xs) None r w r' w' f₀ f text law g c e a = tt
goes_end (Some xs) (Some o) None w r' w' f₀ f text law g c e a = absurd g
goes_end (Some xs) (Some o) (Some ys) None r' w' f₀ f text law g c e a = absurd g
goes_end (Some xs) (Some o) (Some ys) (Some z) None w' f₀ f text law g c e a = absurd c
goes_end (Some xs) (Some o) (Some ys) (Some z) (Some ys') None f₀ f text law g c e a = absurd a
goes_end (Some xs) (Some o) (Some ys) (Some z) (Some ys') (Some z') f₀ f text law g c e a =
    a ∙ ap (λ q. z ++ q) (sym law ∙ ap f (sym (c ∙ e))) ∙ g

-- ## Between two reads

-- the book and the lines are those after what is answered, and the kept bytes come before what is still to be read
abbrev pub Reading : Book → List Line → Book → List Line → ℕ → List ℕ → (r₀ w₀ r w : Option (List ℕ)) → Type 0
Reading b₀ ls b lines lent kept r₀ w₀ r w =
    (ms : List Line) × (lines ≡ taken_lines ms) × (lent ≡ length ms) × Goes r₀ w₀ r w (run_text b₀ ls) (λ ys. run_text b ms (kept ++ ys))

module _ (b : Book) (lines ms : List Line) (lent : ℕ) (old buf out : List ℕ) (kept got : ℕ) (of : (lines ≡ taken_lines ms) × (lent ≡ length ms))
    (same : take kept buf ≡ take kept old) (fits : kept + got ≤ length buf) where
  abbrev l : Between
  l = record { book = b; lines = lines; count = lent; input = old; kept = kept; out = out; text = [] }

  abbrev r : Read
  r = record { buffer = buf; got = got }

  abbrev there : List ℕ
  there = take kept old ++ take got (drop kept buf)

  abbrev now : List ℕ
  now = answered_of false there

  law : (ys : List ℕ) → run_text b ms (take kept old ++ (take got (drop kept buf) ++ ys))
      ≡ take (written_after b lines lent buf (kept + got) false) (out_after b lines lent buf (kept + got) false out)
      ++ run_text (book_after b lines lent buf (kept + got) false) (run_lines b ms now)
      (take (kept_after buf (kept + got) false) (input_after buf (kept + got) false) ++ ys)
  unfolding turn_on
  law ys =
      ap (run_text b ms) (sym (append_assoc (take kept old) (take got (drop kept buf)) ys))
      ∙ split_text there ys b ms
      ∙ ap₂ (λ (x y : List ℕ). x ++ y) (sym (next-text false l ms of r (same, fits)))
      (ap₂ (λ (c : Book) (k : List ℕ). run_text c (run_lines b ms now) (k ++ ys)) (sym (next-book false l ms of r (same, fits)))
      (sym (next-held false l ms of r (same, fits))))

  lends : (lines_after b lines lent buf (kept + got) false ≡ taken_lines (run_lines b ms now)) × (lent ≡ length (run_lines b ms now))
  unfolding turn_on
  lends = next-lends false l ms of r (same, fits)

  last : got ≡ 0 → run_text b ms (take kept old ++ [])
      ≡ take (written_after b lines lent buf (kept + got) true) (out_after b lines lent buf (kept + got) true out)
  unfolding turn_on
  last e =
      ap (λ n. run_text b ms (take kept old ++ take n (drop kept buf))) (sym e)
      ∙ ap (run_text b ms) (sym (all-answered there))
      ∙ sym (next-text true l ms of r (same, fits))

-- a read that is answered while more may come
pub goes_on : (b₀ : Book) (ls : List Line) (b : Book) (lines : List Line) (lent : ℕ) (old buf out : List ℕ) (kept got n : ℕ)
    (r₀ w₀ r w r' w' : Option (List ℕ)) → n ≡ kept + got → take kept buf ≡ take kept old → kept + got ≤ length buf
    → Reading b₀ ls b lines lent (take kept old) r₀ w₀ r w → Consumes r r' (take got (drop kept buf))
    → Appends w w' (take (written_after b lines lent buf n false) (out_after b lines lent buf n false out))
    → Reading b₀ ls (book_after b lines lent buf n false) (lines_after b lines lent buf n false) lent
    (take (kept_after buf n false) (input_after buf n false)) r₀ w₀ r' w'
goes_on b₀ ls b lines lent old buf out kept got n r₀ w₀ r w r' w' e same fits (ms, taken, all, goes) c =
    subst
    (λ (m : ℕ). Appends w w' (take (written_after b lines lent buf m false) (out_after b lines lent buf m false out))
    → Reading b₀ ls (book_after b lines lent buf m false) (lines_after b lines lent buf m false) lent
    (take (kept_after buf m false) (input_after buf m false)) r₀ w₀ r' w')
    (sym e)
    (λ a.
    let next = lends b lines ms lent old buf out kept got (taken, all) same fits in (
      run_lines b ms (answered_of false (take kept old ++ take got (drop kept buf))),
      next.0,
      next.1,
      goes_more r₀ w₀ r w r' w' _ _ _ _ _ (law b lines ms lent old buf out kept got (taken, all) same fits) goes c a,
    ))

-- the last one, at which the input ends
pub ends : (b₀ : Book) (ls : List Line) (b : Book) (lines : List Line) (lent : ℕ) (old buf out : List ℕ) (kept got n : ℕ)
    (r₀ w₀ r w r' w' : Option (List ℕ)) → n ≡ kept + got → take kept buf ≡ take kept old → kept + got ≤ length buf → got ≡ 0
    → Reading b₀ ls b lines lent (take kept old) r₀ w₀ r w → Consumes r r' (take got (drop kept buf)) → IsAtEnd r'
    → Appends w w' (take (written_after b lines lent buf n true) (out_after b lines lent buf n true out))
    → IfSome r₀ (λ xs. Appends w₀ w' (run_text b₀ ls xs))
ends b₀ ls b lines lent old buf out kept got n r₀ w₀ r w r' w' e same fits none (ms, taken, all, goes) c end a =
    goes_end r₀ w₀ r w r' w' (run_text b₀ ls) (λ ys. run_text b ms (take kept old ++ ys)) _
    (last b lines ms lent old buf out kept got (taken, all) same fits none)
    goes
    (subst (λ (k : ℕ). Consumes r r' (take k (drop kept buf))) none c)
    end
    (subst (λ (m : ℕ). Appends w w' (take (written_after b lines lent buf m true) (out_after b lines lent buf m true out))) e a)

-- ## What the contract of a turn says, with its values by name

module _ (b₀ : Book) (ls : List Line) (b : Book) (lines : List Line) (lent : ℕ) (old buf out : List ℕ) (kept got n : ℕ) (ended : Bool)
    (r₀ w₀ r w r' w' : Option (List ℕ)) (written : ℕ) (outs : List ℕ) (there : n ≡ kept + got) (same : take kept buf ≡ take kept old)
    (fits : kept + got ≤ length buf) (written_value : written ≡ written_after b lines lent buf n ended)
    (outs_value : outs ≡ out_after b lines lent buf n ended out) (before : Reading b₀ ls b lines lent (take kept old) r₀ w₀ r w)
    (taken : Consumes r r' (take got (drop kept buf))) (put : Appends w w' (take written outs)) where
  pub turn_goes_on : (b' : Book) (lines' : List Line) (lent' kept' : ℕ) (input' : List ℕ) → ended ≡ false → b' ≡ book_after b lines lent buf n ended
      → lines' ≡ lines_after b lines lent buf n ended → lent' ≡ lent → kept' ≡ kept_after buf n ended → input' ≡ input_after buf n ended
      → Reading b₀ ls b' lines' lent' (take kept' input') r₀ w₀ r' w'
  turn_goes_on b' lines' lent' kept' input' e eb el en ek ei =
      rw (eb, el, en, ek, ei, e)
      (goes_on b₀ ls b lines lent old buf out kept got n r₀ w₀ r w r' w' there same fits before taken (rw (written_value, outs_value, e) at put))

  pub turn_ends : ended ≡ true → got ≡ 0 → IsAtEnd r' → IfSome r₀ (λ xs. Appends w₀ w' (run_text b₀ ls xs))
  turn_ends e none end =
      ends b₀ ls b lines lent old buf out kept got n r₀ w₀ r w r' w' there same fits none before taken end (rw (written_value, outs_value, e) at put)
