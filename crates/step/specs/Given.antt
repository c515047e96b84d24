-- The list that an event is lent, through the lines by value: taken, stepped on, and stored back, it is what the model leaves.
use Rattle.std.specs.Prelude.{ℕ, zero, suc, ◌<◌, ◌≤◌, min, ◌≡◌, Bool, true, false, cond, get_or, replicate}
use Rattle.std.proofs.Common.{arith, ◌∙◌, length-set, ext_get_or, get_or-set_same, get_or-set_other}
use Rattle.std.proofs.Math.Path.{refl, sym, ap}
use mathlib.Core.List.{List, [], ◌∷◌}
use Rattle.std.proofs.Math.ListN.{length, set}
use Rattle.std.proofs.lemmas.List.{length-replicate}
use Rattle.numbers.proofs.Tests.{on_test, on_same}
use Rattle.book.specs.declared.Line.{Line}
use Rattle.book.specs.declared.Book.{Book}
use Rattle.book.specs.Decoded.{Decoded, Invalid, Valid}
use Rattle.book.specs.declared.Event.{Event}
use Rattle.book.specs.Gate.{Gate, Refuse, Resend, Take}
use Rattle.book.specs.declared.Reported.{Reported}
use Rattle.book.specs.Blank.{no_line}
use Rattle.model.specs.Book.{limits_at, assets_in}
use Rattle.model.specs.Gate.{gate}
use Rattle.model.specs.Step.{last_at, arrive}
use Rattle.model.specs.Report.{good, Ended, raised, counted, line_of, recorded, recorded_all, endings, lines_by, lines_read, Arrival, admitted}
use Rattle.model.specs.Report.{receive, lines_left}
use Rattle.model.proofs.Demand3.Lines.{good-list, counted-in, recorded-size, all-size}
use Rattle.model.proofs.Demand3.Suitable.{in-book}
use Rattle.metering.specs.Good.{good_lines, taken-line, good-taken}
use Rattle.report.specs.Report.{copied, copied-length, taken_lines, given_lines, given-taken}
use Rattle.step.specs.Lines.{reported_on, outcome_of}

-- answer and book are those of the event with its list
pub reported-outcome : (b : Book) (d : Decoded) (ls : List Line)
    → outcome_of (reported_on b d (taken_lines ls) (length ls)) ≡ receive b (record { event = d; lines = ls })
unfolding reported_on receive admitted arrive
reported-outcome b d ls =
    rw (good-taken b ls) (on_test (good b ls) (λ q. rw q refl) (λ q. rw q refl))

-- ## The lines

copied-whole : (n : ℕ) (ms dst ls : List Line) → length ms ≡ n → length ls ≡ n → n ≤ length dst → copied n (copied n ms dst) ls ≡ ms
unfolding copied
copied-whole zero [] dst [] p q r = refl
copied-whole zero [] dst (l ∷ ls) p q r = absurd (omega (arith, q))
copied-whole zero (m ∷ ms) dst ls p q r = absurd (omega (arith, p))
copied-whole (suc n) [] dst ls p q r = absurd (omega (arith, p))
copied-whole (suc n) (m ∷ ms) dst [] p q r = absurd (omega (arith, q))
copied-whole (suc n) (m ∷ ms) [] (l ∷ ls) p q r = absurd (omega (arith, r))
copied-whole (suc n) (m ∷ ms) (d ∷ dst) (l ∷ ls) p q r =
    ap (λ (x : List Line). m ∷ x) (copied-whole n ms dst ls (omega (arith, p)) (omega (arith, q)) (omega (arith, r)))

-- lines by value are stored back as they are, as many as the list has
pub given_back : (ms ls : List Line) → length ms ≡ length ls → length ls ≤ 64 → given_lines (taken_lines ms) ls ≡ ms
unfolding given_lines taken_lines
given_back ms ls p h =
    let n : min (length ms) 64 ≡ length ls = omega (arith, p, h) in
    let m : min (length ls) 64 ≡ length ls = omega (arith, h) in
    rw (n, m) (copied-whole (length ls) ms (replicate 64 no_line) ls p refl (omega (arith, h, length-replicate 64 no_line)))

taken-length : (ls : List Line) → length (taken_lines ls) ≡ 64
unfolding taken_lines
taken-length ls = copied-length (min (length ls) 64) ls (replicate 64 no_line) ∙ length-replicate 64 no_line

-- a line changed in the list, or by value
taken-set : (ls : List Line) (p : ℕ) (y : Line) → p < length ls → length ls ≤ 64 → taken_lines (set ls p y) ≡ set (taken_lines ls) p y
taken-set ls p y h m =
    ext_get_or no_line (taken_lines (set ls p y)) (set (taken_lines ls) p y)
    (taken-length (set ls p y) ∙ sym (length-set (taken_lines ls) p y ∙ taken-length ls))
    (λ k l.
    let k64 : k < 64 = omega (arith, l, taken-length (set ls p y)) in
    taken-line k (set ls p y) k64 ∙
    on_same k p
    (λ e. rw e (get_or-set_same ls p y no_line h ∙ sym (get_or-set_same (taken_lines ls) p y no_line (omega (arith, h, m, taken-length ls)))))
    (λ e. get_or-set_other ls p k y no_line e ∙ sym (taken-line k ls k64) ∙ sym (get_or-set_other (taken_lines ls) p k y no_line e)))

module _ (b : Book) where
  taken-recorded : (ls : List Line) (x : Ended) → assets_in b ≤ length ls → length ls ≤ 64
      → recorded b (taken_lines ls) x ≡ taken_lines (recorded b ls x)
  unfolding recorded
  taken-recorded ls x h m =
      on_test (counted b x)
      (λ q.
      let p = line_of b x.content in
      let below : p < assets_in b = (in-book b x.content (counted-in b x q)).0 in
      rw q
      (ap (λ (y : Line). set (taken_lines ls) p (raised (limits_at b.entries x.entry) x.seconds y))
      (taken-line p ls (omega (arith, below, h, m)))
      ∙ sym (taken-set ls p _ (omega (arith, below, h)) m)))
      (λ q. rw q)

  taken-all : (xs : List Ended) (ls : List Line) → assets_in b ≤ length ls → length ls ≤ 64
      → recorded_all b (taken_lines ls) xs ≡ taken_lines (recorded_all b ls xs)
  unfolding recorded_all
  taken-all [] ls h m = refl
  taken-all (x ∷ xs) ls h m =
      let s = recorded-size b ls x in
      ap (λ (y : List Line). recorded_all b y xs) (taken-recorded ls x h m)
      ∙ taken-all xs (recorded b ls x) (omega (arith, h, s)) (omega (arith, m, s))

  taken-read : (d : Decoded) (ls : List Line) → assets_in b ≤ length ls → length ls ≤ 64
      → (lines_read b d (taken_lines ls) ≡ taken_lines (lines_read b d ls)) × (length (lines_read b d ls) ≡ length ls)
  unfolding lines_read lines_by
  taken-read (Invalid code) ls h m = (refl, refl)
  taken-read (Valid e) ls h m = go (gate b.time (last_at b.players e.player) e)
    where
      go : (g : Gate) → (lines_by g b e (taken_lines ls) ≡ taken_lines (lines_by g b e ls)) × (length (lines_by g b e ls) ≡ length ls)
      go (Refuse code) = (refl, refl)
      go Resend = (refl, refl)
      go Take = (taken-all (endings b e) ls h m, all-size b (endings b e) ls)

-- what is stored back is the model's list
pub reported-lines : (b : Book) (d : Decoded) (ls : List Line)
    → given_lines (reported_on b d (taken_lines ls) (length ls)).lines ls ≡ lines_left b (record { event = d; lines = ls })
unfolding reported_on lines_left admitted lines_read
reported-lines b d ls =
    rw (good-taken b ls)
    (on_test (good b ls)
    (λ q.
    let g = good-list b ls q in
    let r = taken-read b d ls g.enough g.most in
    rw q (ap (λ (x : List Line). given_lines x ls) r.0 ∙ given_back (lines_read b d ls) ls r.1 g.most))
    (λ q. rw q (given-taken ls)))

-- ## The lines by value, handed on

left-size : (b : Book) (d : Decoded) (ls : List Line) → assets_in b ≤ length ls → length ls ≤ 64 → length (lines_read b d ls) ≡ length ls
left-size b d ls h m = (taken-read b d ls h m).1

pub left-length : (b : Book) (d : Decoded) (ls : List Line) → length (lines_left b (record { event = d; lines = ls })) ≡ length ls
unfolding lines_left admitted lines_read
left-length b d ls =
    on_test (good b ls)
    (λ q. let g = good-list b ls q in rw q (left-size b d ls g.enough g.most))
    (λ q. rw q refl)

pub reported-taken : (b : Book) (d : Decoded) (ls : List Line)
    → (reported_on b d (taken_lines ls) (length ls)).lines ≡ taken_lines (lines_left b (record { event = d; lines = ls }))
unfolding reported_on lines_left admitted lines_read
reported-taken b d ls =
    rw (good-taken b ls)
    (on_test (good b ls)
    (λ q. let g = good-list b ls q in rw q (taken-read b d ls g.enough g.most).0)
    (λ q. rw q refl))
