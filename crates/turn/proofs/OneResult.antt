-- Two results of `turn` that meet its contract are equal, with what they leave in both buffers, for all arguments; likewise of `load`.
use Rattle.std.specs.Prelude.{ℕ, ◌≡◌, Bool, true, false, List, length, take, Option, None, Some, Result, MatchOption, IfSome, MatchResult}
use Rattle.std.proofs.Common.{refl, sym, ap, ◌∙◌, arith, length-take, take_all}
use Rattle.numbers.proofs.OneResult.{one_result}
use Rattle.book.specs.Blank.{no_book}
use Rattle.book.specs.Codes.{image_code}
use Rattle.book.specs.declared.Book.{Book}
use Rattle.book.specs.declared.ImageError.{ImageError}
use Rattle.book.specs.declared.Line.{Line}
use Rattle.book.proofs.OneNumber.{one-image, image-some}
use Rattle.model.specs.Image.{read_code, read_book}
use Rattle.report.specs.declared.Report.{Report}
use Rattle.turn.specs.declared.Turned.{Turned}
use Rattle.turn.specs.Turn.{inside, book_after, lines_after, written_after, out_after, kept_after, input_after, Begins}

turned : Book → List Line → ℕ → ℕ → ℕ → Turned
turned b lines lent written kept = record { book = b; report = record { lines = lines; lent = lent }; written = written; kept = kept }

same_parts : (b b' : Book) (ls ls' : List Line) (l l' w w' k k' : ℕ) → b ≡ b' → ls ≡ ls' → l ≡ l' → w ≡ w' → k ≡ k'
    → turned b ls l w k ≡ turned b' ls' l' w' k'
same_parts b b' ls ls' l l' w w' k k' p q r s t = cc

one-turned : (t u : Turned) → t.book ≡ u.book → t.report.lines ≡ u.report.lines → t.report.lent ≡ u.report.lent → t.written ≡ u.written
    → t.kept ≡ u.kept → t ≡ u
unfolding turned
one-turned t u = same_parts t.book u.book t.report.lines u.report.lines t.report.lent u.report.lent t.written u.written t.kept u.kept

module _ (b : Book) (report : Report) (input : List ℕ) (n : ℕ) (ended : Bool) (out : List ℕ) where
  -- the clauses of the contract; `input` and `out` are the buffers before the call
  abbrev pub Turns : Option Turned → List ℕ → List ℕ → Type 0
  Turns result input' out' =
      MatchOption result (inside input n ≡ false) (λ _. inside input n ≡ true)
      × IfSome result (λ t. t.book ≡ book_after b report.lines report.lent input n ended)
      × IfSome result (λ t. t.report.lines ≡ lines_after b report.lines report.lent input n ended)
      × IfSome result (λ t. t.report.lent ≡ report.lent)
      × IfSome result (λ t. t.written ≡ written_after b report.lines report.lent input n ended)
      × IfSome result (λ t. t.kept ≡ kept_after input n ended)
      × (input' ≡ input_after input n ended)
      × (out' ≡ out_after b report.lines report.lent input n ended out)

  same-turned : (r r' : Option Turned) (i i' o o' : List ℕ) → Turns r i o → Turns r' i' o' → r ≡ r'
  same-turned (Some t) (Some u) i i' o o' h k =
      ap Some (one-turned t u (h.1 ∙ sym k.1) (h.2 ∙ sym k.2) (h.3 ∙ sym k.3) (h.4 ∙ sym k.4) (h.5 ∙ sym k.5))
  same-turned (Some t) None i i' o o' h k = cc
  same-turned None (Some u) i i' o o' h k = cc
  same-turned None None i i' o o' h k = refl

  pub turn : (r r' : Option Turned) (i i' o o' : List ℕ) → Turns r i o → Turns r' i' o' → (r ≡ r') × (i ≡ i') × (o ≡ o')
  turn r r' i i' o o' h k = (same-turned r r' i i' o o' h k, h.6 ∙ sym k.6, h.7 ∙ sym k.7)

module _ (image : List ℕ) (n : ℕ) where
  -- the clause of the contract
  abbrev pub Loads : Result Book ImageError → Type 0
  Loads result =
      (f : List ℕ) → Begins image n f
      → MatchResult result (λ b. (read_code f ≡ 0) × (b ≡ read_book no_book f)) (λ e. read_code f ≡ image_code e)

  -- those bytes are themselves a file that begins with them
  abbrev file : List ℕ
  file = take n image

  begins : Begins image n file
  begins = take_all (length image) file (omega (arith, length-take n image))

  pub load : (r r' : Result Book ImageError) → Loads r → Loads r' → r ≡ r'
  load r r' h k =
      one_result (λ b. (read_code file ≡ 0) × (b ≡ read_book no_book file)) (λ e. read_code file ≡ image_code e)
      (λ a b p q. p.1 ∙ sym q.1)
      (λ d e p q. one-image d e (sym p ∙ q))
      (λ b e p q. image-some e (sym q ∙ p.0))
      r r' (h file begins) (k file begins)
