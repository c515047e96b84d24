-- A turn of the run program, from one read of its input to the next: what is answered, what is kept, what is left in the buffers.
-- input is the input buffer, n how many bytes it holds, ended whether no more will come. The lines of the report are by value, in 64
-- places; `count` of them are lent to each record.
use Rattle.std.specs.Prelude.{ℕ, ◌-◌, ◌%◌, Bool, cond, ◌≡◌, List, ◌++◌, length, take, drop, leb}
use Rattle.book.specs.declared.Line.{Line}
use Rattle.book.specs.declared.Book.{Book}
use Rattle.model.specs.Record.{record_size}
use Rattle.model.specs.Run.{records_in}
use Rattle.batch.specs.Block.{book_on, lines_on, block_text}

-- How many of n bytes are kept for the next turn: those of a record that is not complete yet. At the end none: "a last record cut
-- short" is answered too.
unfoldable pub kept_count : Bool → ℕ → ℕ
kept_count ended n = cond ended 0 (n % record_size)

-- of the bytes in the buffer, those that are answered now, and those that are kept
unfoldable pub answered_of : Bool → List ℕ → List ℕ
answered_of ended s = take (length s - kept_count ended (length s)) s

unfoldable pub kept_of : Bool → List ℕ → List ℕ
kept_of ended s = drop (length s - kept_count ended (length s)) s

-- the buffer cannot hold more bytes than its length
abbrev pub inside : List ℕ → ℕ → Bool
inside input n = leb n (length input)

unfoldable pub book_after : Book → List Line → ℕ → List ℕ → ℕ → Bool → Book
book_after b ls count input n ended = cond (inside input n) (book_on b ls count (records_in (answered_of ended (take n input)))) b

unfoldable pub lines_after : Book → List Line → ℕ → List ℕ → ℕ → Bool → List Line
lines_after b ls count input n ended = cond (inside input n) (lines_on b ls count (records_in (answered_of ended (take n input)))) ls

unfoldable pub text_after : Book → List Line → ℕ → List ℕ → ℕ → Bool → List ℕ
text_after b ls count input n ended = block_text b ls count (answered_of ended (take n input))

unfoldable pub written_after : Book → List Line → ℕ → List ℕ → ℕ → Bool → ℕ
written_after b ls count input n ended = cond (inside input n) (length (text_after b ls count input n ended)) 0

-- the text, and after it what was there before
unfoldable pub out_after : Book → List Line → ℕ → List ℕ → ℕ → Bool → List ℕ → List ℕ
out_after b ls count input n ended out =
    cond (inside input n) (text_after b ls count input n ended ++ drop (length (text_after b ls count input n ended)) out) out

unfoldable pub kept_after : List ℕ → ℕ → Bool → ℕ
kept_after input n ended = cond (inside input n) (kept_count ended n) 0

-- the kept bytes, and after them what was there before
unfoldable pub input_after : List ℕ → ℕ → Bool → List ℕ
input_after input n ended = cond (inside input n) (kept_of ended (take n input) ++ drop (kept_count ended n) input) input

-- the file f begins with the first n bytes of image: they are all of it, or as many as image holds
abbrev pub Begins : List ℕ → ℕ → List ℕ → Type 0
Begins image n f = take (length image) f ≡ take n image
