-- The two calls that answer, with the lines by value in 64 places: `count` of them were lent. What they leave is in the words of the
-- block and of the step by value; with the lines of a list it is what `Calls` and `One` say of that list.
use Rattle.std.specs.Prelude.{ℕ, ◌≡◌, true, List, length}
use Rattle.book.specs.declared.Line.{Line}
use Rattle.book.specs.declared.Book.{Book}
use Rattle.book.specs.declared.Reported.{Reported}
use Rattle.model.specs.Image.{length_of, write_buffer}
use Rattle.model.specs.Record.{decoded}
use Rattle.batch.specs.Block.{fits, block_book, block_lines, block_written, block_buffer}
use Rattle.step.specs.Lines.{reported_on}
use Rattle.embed.specs.Calls.{lent_book, call_code, if_answered}

-- what is returned and lent after the records: the result, the image and its length, the text and its length, the lines
module _ (buffer : List ℕ) (size : ℕ) (records old : List ℕ) (before : ℕ) (ls : List Line) (count : ℕ) where
  abbrev pub book_by : Book
  book_by = block_book (lent_book buffer size) ls count records (length old)

  abbrev pub code_by : ℕ
  code_by = call_code buffer size (fits records (length old)) book_by

  abbrev pub AnsweredBy : ℕ → List ℕ → ℕ → List ℕ → ℕ → List Line → Type 0
  AnsweredBy code buffer' size' out written after =
      (code ≡ code_by)
      × ((buffer' ≡ if_answered code_by (write_buffer book_by buffer) buffer)
      × ((size' ≡ if_answered code_by (length_of book_by) size)
      × ((out ≡ if_answered code_by (block_buffer (lent_book buffer size) ls count records old) old)
      × ((written ≡ if_answered code_by (block_written (lent_book buffer size) ls count records (length old)) before)
      × (after ≡ if_answered code_by (block_lines (lent_book buffer size) ls count records (length old)) ls)))))

-- the same after one record: the result, the image and its length, the three numbers of the answer, the lines
module _ (buffer : List ℕ) (size : ℕ) (r : List ℕ) (code₀ entry₀ until₀ : ℕ) (ls : List Line) (count : ℕ) where
  abbrev pub step_by : Reported
  step_by = reported_on (lent_book buffer size) (decoded r) ls count

  abbrev pub result_by : ℕ
  result_by = call_code buffer size true step_by.book

  abbrev pub OneBy : ℕ → List ℕ → ℕ → ℕ → ℕ → ℕ → List Line → Type 0
  OneBy result buffer' size' code entry until after =
      (result ≡ result_by)
      × ((buffer' ≡ if_answered result_by (write_buffer step_by.book buffer) buffer)
      × ((size' ≡ if_answered result_by (length_of step_by.book) size)
      × ((code ≡ if_answered result_by step_by.answer.code code₀)
      × ((entry ≡ if_answered result_by step_by.answer.entry entry₀)
      × ((until ≡ if_answered result_by step_by.answer.until until₀)
      × (after ≡ if_answered result_by step_by.lines ls))))))
