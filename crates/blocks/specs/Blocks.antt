-- Answering in blocks: whole records first, and then what follows them with the lines that these left, print the same text and leave
-- the same book and the same lines as all at once.
-- So the run program's text does not depend on how its input is split.
use Rattle.std.specs.Prelude.{ℕ, zero, suc, ◌+◌, ◌*◌, ◌-◌, ◌<◌, ◌≡◌, refl, take, drop}
use Rattle.std.proofs.Common.{sym, ◌∙◌, add-zero}
use Rattle.std.proofs.Math.Path.{ap, ap₂}
use mathlib.Core.List.{List, [], ◌∷◌, ◌++◌, append_assoc, append-nil}
use native.Mathlib.Omega.{arith}
use Rattle.std.proofs.Math.ListN.{length, length-append, length-drop}
use Rattle.std.proofs.Math.Seq.{take-append-le, drop-append-add}
use Rattle.std.proofs.lemmas.List.{drop-append-le}
use Rattle.numbers.specs.Count.{listed}
use Rattle.numbers.proofs.TableLaws.{listed_same}
use Rattle.book.specs.declared.Answer.{Answer}
use Rattle.book.specs.declared.Line.{Line}
use Rattle.book.specs.declared.Book.{Book}
use Rattle.model.specs.Report.{receive, lines_left, lent}
use Rattle.model.specs.History.{record_answers, record_final, record_lines}
use Rattle.model.specs.Record.{record_size}
use Rattle.model.specs.Run.{line, lines, record_count, record_at, records_in, run_text, run_book, run_lines}

-- ## Lists of records

final-joined : (b : Book) (ls : List Line) (rs qs : List (List ℕ))
    → record_final b ls (rs ++ qs) ≡ record_final (record_final b ls rs) (record_lines b ls rs) qs
unfolding record_final record_lines
final-joined b ls [] qs = refl
final-joined b ls (r ∷ rs) qs = final-joined (receive b (lent ls r)).book (lines_left b (lent ls r)) rs qs

left-joined : (b : Book) (ls : List Line) (rs qs : List (List ℕ))
    → record_lines b ls (rs ++ qs) ≡ record_lines (record_final b ls rs) (record_lines b ls rs) qs
unfolding record_final record_lines
left-joined b ls [] qs = refl
left-joined b ls (r ∷ rs) qs = left-joined (receive b (lent ls r)).book (lines_left b (lent ls r)) rs qs

answers-joined : (b : Book) (ls : List Line) (rs qs : List (List ℕ))
    → record_answers b ls (rs ++ qs) ≡ record_answers b ls rs ++ record_answers (record_final b ls rs) (record_lines b ls rs) qs
unfolding record_final record_lines record_answers
answers-joined b ls [] qs = refl
answers-joined b ls (r ∷ rs) qs =
    let y = receive b (lent ls r) in
    ap (λ (as' : List Answer). y.answer ∷ as') (answers-joined y.book (lines_left b (lent ls r)) rs qs)

lines-joined : (as' bs : List Answer) → lines (as' ++ bs) ≡ lines as' ++ lines bs
unfolding lines
lines-joined [] bs = refl
lines-joined (a ∷ as') bs = ap (λ (t : List ℕ). line a ++ t) (lines-joined as' bs) ∙ sym (append_assoc (line a) (lines as') (lines bs))

listed-joined : (f : ℕ → List ℕ) (k n : ℕ) → listed f (k + n) ≡ listed f k ++ listed (λ (i : ℕ). f (k + i)) n
unfolding listed
listed-joined f k zero = rw add-zero (sym (append-nil (listed f k)))
listed-joined f k (suc n) =
    let e : k + suc n ≡ suc (k + n) = omega arith in
    rw e
    (ap (λ (l : List (List ℕ)). l ++ (f (k + n) ∷ [])) (listed-joined f k n)
    ∙ append_assoc (listed f k) (listed (λ (i : ℕ). f (k + i)) n) (f (k + n) ∷ []))

-- ## Bytes of whole records, and any bytes after them

module _ (s t : List ℕ) (k : ℕ) (whole : length s ≡ record_size * k) where
  record-before : (i : ℕ) → i < k → record_at (s ++ t) i ≡ record_at s i
  unfolding record_at
  record-before i h =
      let l : length (drop (record_size * i) s) ≡ length s - record_size * i = length-drop (record_size * i) s in
      ap (take record_size) (drop-append-le (record_size * i) s t (omega arith)) ∙ take-append-le record_size (drop (record_size * i) s) t
      (omega arith)

  record-behind : (i : ℕ) → record_at (s ++ t) (k + i) ≡ record_at t i
  unfolding record_at
  record-behind i =
      let e : record_size * (k + i) ≡ length s + record_size * i = omega arith in
      rw e (ap (take record_size) (drop-append-add s t (record_size * i)))

  count-joined : record_count (s ++ t) ≡ k + record_count t
  unfolding record_count
  count-joined = rw length-append (omega arith)

  count-whole : record_count s ≡ k
  unfolding record_count
  count-whole = omega arith

  records-joined : records_in (s ++ t) ≡ records_in s ++ records_in t
  unfolding records_in
  records-joined =
      ap (listed (record_at (s ++ t))) count-joined
      ∙ listed-joined (record_at (s ++ t)) k (record_count t)
      ∙ ap₂ (λ (x y : List (List ℕ)). x ++ y)
      (listed_same (record_at (s ++ t)) (record_at s) k record-before ∙ ap (listed (record_at s)) (sym count-whole))
      (listed_same (λ (i : ℕ). record_at (s ++ t) (k + i)) (record_at t) (record_count t) (λ i h. record-behind i))

  module _ (b : Book) (ls : List Line) where
    pub block-book : run_book b ls (s ++ t) ≡ run_book (run_book b ls s) (run_lines b ls s) t
    unfolding run_book run_lines
    block-book = ap (record_final b ls) records-joined ∙ final-joined b ls (records_in s) (records_in t)

    pub block-lines : run_lines b ls (s ++ t) ≡ run_lines (run_book b ls s) (run_lines b ls s) t
    unfolding run_book run_lines
    block-lines = ap (record_lines b ls) records-joined ∙ left-joined b ls (records_in s) (records_in t)

    pub block-text : run_text b ls (s ++ t) ≡ run_text b ls s ++ run_text (run_book b ls s) (run_lines b ls s) t
    unfolding run_book run_lines run_text
    block-text =
        ap (λ (rs : List (List ℕ)). lines (record_answers b ls rs)) records-joined
        ∙ ap lines (answers-joined b ls (records_in s) (records_in t))
        ∙ lines-joined (record_answers b ls (records_in s)) (record_answers (record_final b ls (records_in s))
        (record_lines b ls (records_in s)) (records_in t))
