-- What answering a block of records leaves: everything if the buffer has room for 19 bytes per record, otherwise nothing.
-- The lines of the report are held by value, in 64 places; `count` of them were lent.
use Rattle.std.specs.Prelude.{ℕ, ◌*◌, ◌<◌, ◌≤◌, Bool, true, false, cond, ◌≡◌, refl, List, [], ◌∷◌, ◌++◌, length, drop, leb}
use Rattle.std.proofs.Common.{sym, ◌∙◌}
use Rattle.std.proofs.Math.Path.{ap}
use Rattle.book.specs.declared.Answer.{Answer}
use Rattle.book.specs.declared.Line.{Line}
use Rattle.book.specs.declared.Book.{Book}
use Rattle.book.specs.declared.Outcome.{Outcome}
use Rattle.book.specs.declared.Reported.{Reported}
use Rattle.model.specs.Record.{decoded}
use Rattle.model.specs.Report.{receive, lines_left, lent}
use Rattle.model.specs.History.{record_answers, record_final, record_lines}
use Rattle.model.specs.Run.{lines, record_count, records_in, run_text, run_book, run_lines}
use Rattle.report.specs.Report.{taken_lines}
use Rattle.step.specs.Lines.{reported_on, outcome_of}
use Rattle.step.specs.Given.{reported-outcome, reported-taken, left-length}

-- a record on a book, with lines by value
abbrev pub step_on : Book → List Line → ℕ → List ℕ → Reported
step_on b ls count r = reported_on b (decoded r) ls count

-- one record after another, the lines handed on
unfoldable pub answers_on : Book → List Line → ℕ → List (List ℕ) → List Answer
answers_on b ls count [] = []
answers_on b ls count (r ∷ rs) = let x = step_on b ls count r in x.answer ∷ answers_on x.book x.lines count rs

unfoldable pub book_on : Book → List Line → ℕ → List (List ℕ) → Book
book_on b ls count [] = b
book_on b ls count (r ∷ rs) = let x = step_on b ls count r in book_on x.book x.lines count rs

unfoldable pub lines_on : Book → List Line → ℕ → List (List ℕ) → List Line
lines_on b ls count [] = ls
lines_on b ls count (r ∷ rs) = let x = step_on b ls count r in lines_on x.book x.lines count rs

-- ## The block

unfoldable pub fits : List ℕ → ℕ → Bool
fits s room = leb (19 * record_count s) room

abbrev pub block_text : Book → List Line → ℕ → List ℕ → List ℕ
block_text b ls count s = lines (answers_on b ls count (records_in s))

unfoldable pub block_book : Book → List Line → ℕ → List ℕ → ℕ → Book
block_book b ls count s room = cond (fits s room) (book_on b ls count (records_in s)) b

unfoldable pub block_lines : Book → List Line → ℕ → List ℕ → ℕ → List Line
block_lines b ls count s room = cond (fits s room) (lines_on b ls count (records_in s)) ls

unfoldable pub block_written : Book → List Line → ℕ → List ℕ → ℕ → ℕ
block_written b ls count s room = cond (fits s room) (length (block_text b ls count s)) 0

unfoldable pub block_buffer : Book → List Line → ℕ → List ℕ → List ℕ → List ℕ
block_buffer b ls count s old =
    cond (fits s (length old)) (block_text b ls count s ++ drop (length (block_text b ls count s)) old) old

-- all of it: the next book, the lines and how many of them were lent, how many bytes are written, and the buffer
abbrev pub Answered : Book → List Line → ℕ → List ℕ → List ℕ → Book → List Line → ℕ → ℕ → List ℕ → Type 0
Answered b ls count s old book after lent written out =
    (book ≡ block_book b ls count s (length old)) × (after ≡ block_lines b ls count s (length old)) × (lent ≡ count)
    × (written ≡ block_written b ls count s (length old)) × (out ≡ block_buffer b ls count s old)

-- ## By the list that was taken by value, it is the model's

pub answers-taken : (rs : List (List ℕ)) (b : Book) (ls : List Line)
    → answers_on b (taken_lines ls) (length ls) rs ≡ record_answers b ls rs
unfolding answers_on record_answers
answers-taken [] b ls = refl
answers-taken (r ∷ rs) b ls =
    let x = step_on b (taken_lines ls) (length ls) r in
    let y = receive b (lent ls r) in
    let e : outcome_of x ≡ y = reported-outcome b (decoded r) ls in
    ap (λ (o : Outcome). o.answer ∷ answers_on o.book x.lines (length ls) rs) e
    ∙ ap (λ (m : List Line). y.answer ∷ answers_on y.book m (length ls) rs) (reported-taken b (decoded r) ls)
    ∙ ap (λ (n : ℕ). y.answer ∷ answers_on y.book (taken_lines (lines_left b (lent ls r))) n rs) (sym (left-length b (decoded r) ls))
    ∙ ap (λ (as' : List Answer). y.answer ∷ as') (answers-taken rs y.book (lines_left b (lent ls r)))

pub book-taken : (rs : List (List ℕ)) (b : Book) (ls : List Line) → book_on b (taken_lines ls) (length ls) rs ≡ record_final b ls rs
unfolding book_on record_final
book-taken [] b ls = refl
book-taken (r ∷ rs) b ls =
    let x = step_on b (taken_lines ls) (length ls) r in
    let y = receive b (lent ls r) in
    ap (λ (o : Outcome). book_on o.book x.lines (length ls) rs) (reported-outcome b (decoded r) ls)
    ∙ ap (λ (m : List Line). book_on y.book m (length ls) rs) (reported-taken b (decoded r) ls)
    ∙ ap (λ (n : ℕ). book_on y.book (taken_lines (lines_left b (lent ls r))) n rs) (sym (left-length b (decoded r) ls))
    ∙ book-taken rs y.book (lines_left b (lent ls r))

pub lines-taken : (rs : List (List ℕ)) (b : Book) (ls : List Line)
    → lines_on b (taken_lines ls) (length ls) rs ≡ taken_lines (record_lines b ls rs)
unfolding lines_on record_lines
lines-taken [] b ls = refl
lines-taken (r ∷ rs) b ls =
    let x = step_on b (taken_lines ls) (length ls) r in
    let y = receive b (lent ls r) in
    ap (λ (o : Outcome). lines_on o.book x.lines (length ls) rs) (reported-outcome b (decoded r) ls)
    ∙ ap (λ (m : List Line). lines_on y.book m (length ls) rs) (reported-taken b (decoded r) ls)
    ∙ ap (λ (n : ℕ). lines_on y.book (taken_lines (lines_left b (lent ls r))) n rs) (sym (left-length b (decoded r) ls))
    ∙ lines-taken rs y.book (lines_left b (lent ls r))

-- with room, the block is the run of its records
module _ (b : Book) (ls : List Line) (s : List ℕ) (room : ℕ) (h : fits s room ≡ true) where
  pub block-text : block_text b (taken_lines ls) (length ls) s ≡ run_text b ls s
  unfolding run_text
  block-text = ap lines (answers-taken (records_in s) b ls)

  pub block-book : block_book b (taken_lines ls) (length ls) s room ≡ run_book b ls s
  unfolding block_book run_book
  block-book = rw h (book-taken (records_in s) b ls)

  pub block-lines : block_lines b (taken_lines ls) (length ls) s room ≡ taken_lines (run_lines b ls s)
  unfolding block_lines run_lines
  block-lines = rw h (lines-taken (records_in s) b ls)
