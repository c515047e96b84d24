-- What the run program writes for what it reads, of an input and an output whose bytes are known.
use Rattle.std.specs.Prelude.{ℕ, ◌≡◌, List, length, Option, IfSome}
use Rattle.std.specs.Io.KnownBytes.{Appends}
use Rattle.book.specs.declared.Book.{Book}
use Rattle.book.specs.declared.Line.{Line}
use Rattle.model.specs.Run.{run_text}
use Rattle.report.specs.Report.{taken_lines}

-- All that was left to read is answered behind what was written, by the book b and a list of lines for the report, which is lent by
-- value: `first` are its lines in 64 places, `lent` is how many there are.
abbrev pub Answers : Book → List Line → ℕ → Option (List ℕ) → Option (List ℕ) → Option (List ℕ) → Type 0
Answers b first lent left old new =
    (ls : List Line) → first ≡ taken_lines ls → lent ≡ length ls → IfSome left (λ xs. Appends old new (run_text b ls xs))
