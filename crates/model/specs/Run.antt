-- The run program's text: document 01, section "Image", last part. Quotations are that document's.
use Rattle.std.specs.Prelude.{ℕ, zero, suc, ◌+◌, ◌*◌, ◌/◌, ◌%◌, ◌-◌, cond, List, [], ◌∷◌, ◌++◌, length, take, drop, ltb}
use Rattle.numbers.specs.Count.{listed}
use Rattle.book.specs.declared.Answer.{Answer}
use Rattle.book.specs.declared.Line.{Line}
use Rattle.book.specs.declared.Book.{Book}
use Rattle.model.specs.Book.{asset_at, assets_in}
use Rattle.model.specs.Record.{record_size}
use Rattle.model.specs.History.{record_answers, record_final, record_lines}

-- a number below 10 to the k in decimal digits, with no leading zeros
unfoldable pub decimal_in : ℕ → ℕ → List ℕ
decimal_in zero n = []
decimal_in (suc k) n = cond (ltb n 10) ((48 + n) ∷ []) (decimal_in k (n / 10) ++ ((48 + n % 10) ∷ []))

-- no number here has more than 10 digits
unfoldable pub decimal : ℕ → List ℕ
decimal n = decimal_in 10 n

-- "prints code, entry, until in decimal, spaces between, one line each"
unfoldable pub line : Answer → List ℕ
line a = decimal a.code ++ (32 ∷ []) ++ decimal a.entry ++ (32 ∷ []) ++ decimal a.until ++ (10 ∷ [])

-- one line after another
unfoldable pub lines : List Answer → List ℕ
lines [] = []
lines (a ∷ as') = line a ++ lines as'

-- "13-byte events ... from standard input", in order 4 of 17 bytes: how many there are in some bytes, the last perhaps cut short
unfoldable pub record_count : List ℕ → ℕ
record_count s = (length s + (record_size - 1)) / record_size

-- record i; "a last record cut short" is shorter than 17
unfoldable pub record_at : List ℕ → ℕ → List ℕ
record_at s i = take record_size (drop (record_size * i) s)

unfoldable pub records_in : List ℕ → List (List ℕ)
records_in s = listed (record_at s) (record_count s)

-- what is printed for the bytes of events, the book after them, and the report after them; the first event is lent `ls`
unfoldable pub run_text : Book → List Line → List ℕ → List ℕ
run_text b ls s = lines (record_answers b ls (records_in s))

unfoldable pub run_book : Book → List Line → List ℕ → Book
run_book b ls s = record_final b ls (records_in s)

unfoldable pub run_lines : Book → List Line → List ℕ → List Line
run_lines b ls s = record_lines b ls (records_in s)

-- the list that the run program begins with: a line of zeros for each asset of the book
unfoldable pub zero_lines : Book → List Line
zero_lines b = listed (λ k. record { content = (asset_at b.assets k).number; times = 0; seconds = 0 }) (assets_in b)
