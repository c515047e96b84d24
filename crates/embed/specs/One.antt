-- What a call of `rights_answer_one` returns and leaves: the step of one record, with numbers in place of text. buffer is what is
-- lent for the image, size how many of its bytes are the image, ls the list of lines that is lent, r the record that holds the event's
-- numbers (`record_bytes` of `encode`).
use Rattle.std.specs.Prelude.{ℕ, true, List}
use Rattle.book.specs.declared.Line.{Line}
use Rattle.book.specs.declared.Outcome.{Outcome}
use Rattle.model.specs.Image.{length_of, write_buffer}
use Rattle.model.specs.Report.{receive, lines_left, lent}
use Rattle.embed.specs.Calls.{lent_book, call_code, if_answered}

-- the record with its list on the book in the image
unfoldable pub one_step : List ℕ → ℕ → List Line → List ℕ → Outcome
one_step buffer size ls r = receive (lent_book buffer size) (lent ls r)

-- "20 to 27 | image refused"; 30: no room for the next image; 0: answered
unfoldable pub one_result : List ℕ → ℕ → List Line → List ℕ → ℕ
one_result buffer size ls r = call_code buffer size true (one_step buffer size ls r).book

-- the image of the book after it, and behind it what was there before
unfoldable pub one_image : List ℕ → ℕ → List Line → List ℕ → List ℕ
one_image buffer size ls r = if_answered (one_result buffer size ls r) (write_buffer (one_step buffer size ls r).book buffer) buffer

-- its length
unfoldable pub one_size : List ℕ → ℕ → List Line → List ℕ → ℕ
one_size buffer size ls r = if_answered (one_result buffer size ls r) (length_of (one_step buffer size ls r).book) size

-- the three numbers of the answer
unfoldable pub one_code : List ℕ → ℕ → List Line → List ℕ → ℕ → ℕ
one_code buffer size ls r before = if_answered (one_result buffer size ls r) (one_step buffer size ls r).answer.code before

unfoldable pub one_entry : List ℕ → ℕ → List Line → List ℕ → ℕ → ℕ
one_entry buffer size ls r before = if_answered (one_result buffer size ls r) (one_step buffer size ls r).answer.entry before

unfoldable pub one_until : List ℕ → ℕ → List Line → List ℕ → ℕ → ℕ
one_until buffer size ls r before = if_answered (one_result buffer size ls r) (one_step buffer size ls r).answer.until before

-- the lines after it
unfoldable pub one_report : List ℕ → ℕ → List Line → List ℕ → List Line
one_report buffer size ls r = if_answered (one_result buffer size ls r) (lines_left (lent_book buffer size) (lent ls r)) ls
