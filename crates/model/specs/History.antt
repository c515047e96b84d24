-- A list of events, or of records, run on a book: the answers, the book after it, the lines of the report after it.
use Rattle.std.specs.Prelude.{ℕ, List, [], ◌∷◌}
use Rattle.book.specs.declared.Answer.{Answer}
use Rattle.book.specs.declared.Line.{Line}
use Rattle.book.specs.declared.Book.{Book}
use Rattle.book.specs.Decoded.{Decoded}
use Rattle.model.specs.Report.{Arrival, receive, lines_left, lent}

-- the answers to a list of events, each with the list it is lent, and the book after it
unfoldable pub answers : Book → List Arrival → List Answer
answers b [] = []
answers b (x ∷ xs) = (receive b x).answer ∷ answers (receive b x).book xs

unfoldable pub final : Book → List Arrival → Book
final b [] = b
final b (x ∷ xs) = final (receive b x).book xs

-- order 3 of document 02: "each event lent the lines the last one left", the first one `ls`
unfoldable pub handed : Book → List Line → List Decoded → List Arrival
handed b ls [] = []
handed b ls (d ∷ ds) =
    let x : Arrival = record { event = d; lines = ls } in
    x ∷ handed (receive b x).book (lines_left b x) ds

-- and the lines that the last of them leaves
unfoldable pub handed_lines : Book → List Line → List Decoded → List Line
handed_lines b ls [] = ls
handed_lines b ls (d ∷ ds) =
    let x : Arrival = record { event = d; lines = ls } in
    handed_lines (receive b x).book (lines_left b x) ds

-- the same for records of bytes, the lines handed on
unfoldable pub record_answers : Book → List Line → List (List ℕ) → List Answer
record_answers b ls [] = []
record_answers b ls (r ∷ rs) =
    (receive b (lent ls r)).answer ∷ record_answers (receive b (lent ls r)).book (lines_left b (lent ls r)) rs

unfoldable pub record_final : Book → List Line → List (List ℕ) → Book
record_final b ls [] = b
record_final b ls (r ∷ rs) = record_final (receive b (lent ls r)).book (lines_left b (lent ls r)) rs

unfoldable pub record_lines : Book → List Line → List (List ℕ) → List Line
record_lines b ls [] = ls
record_lines b ls (r ∷ rs) = record_lines (receive b (lent ls r)).book (lines_left b (lent ls r)) rs
