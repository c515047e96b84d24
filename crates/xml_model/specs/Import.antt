-- Order 1 of document 02 once more, in other words than the definitions. Statements only; proved in `proofs/Import`.
use Rattle.std.specs.Prelude.{ℕ, ◌+◌, ◌<◌, ◌≤◌, ◌≡◌, ◌&&◌, List, ◌++◌, length, take, eqb, ltb}
use Rattle.numbers.specs.Count.{sum, one}
use Rattle.book.specs.declared.Limits.{Limits}
use Rattle.book.specs.declared.Book.{Book}
use Rattle.book.specs.Blank.{no_book}
use Rattle.model.specs.Book.{limits_at, Legal, Fresh}
use Rattle.model.specs.Image.{Typed, Bytes, image, read_code, read_book}
use Rattle.model.specs.Demand3.{Demand3}
use Rattle.xml_model.specs.Bytes.{byte_at}
use Rattle.xml_model.specs.Text.{progress_of, reading_of}

-- "Answers: 40 not well formed, 41 element, depth, value or book rule not accepted, 42 over 256 elements, 64 assets or 64 entries"
pub data Code (c : ℕ) : Type 0 where
  accepted : c ≡ 0 → Code c
  not-formed : c ≡ 40 → Code c
  not-accepted : c ≡ 41 → Code c
  too_much : c ≡ 42 → Code c

-- The first n places of two texts hold the same: one byte, or the end of both. Of texts of bytes, the bytes say where they end
-- (`agreeing` below).
pub record Agree (s z : List ℕ) (n : ℕ) : Type 0 where
  pub bytes : (i : ℕ) → i < n → byte_at s i ≡ byte_at z i
  pub ends : (i : ℕ) → i < n → ltb i (length s) ≡ ltb i (length z)

-- A text tells nothing of order 3: an entry is not tracked, and the switch is off.
abbrev pub Untracked : Limits → Type 0
Untracked l = (l.tracked ≡ 0) × (l.timedvalue ≡ 0) × (l.mark ≡ 0)

pub record Unmetered (b : Book) : Type 0 where
  pub switch : b.switch ≡ 0
  pub entries : (i : ℕ) → Untracked (limits_at b.entries i)

-- Nor of order 7: an entry has no threshold.
abbrev pub Ungrouped : Limits → Type 0
Ungrouped l = l.threshold ≡ 0

pub record Import : Type 0 where
  -- no other answer
  pub answers : (s : List ℕ) → Code (reading_of s).code
  -- "The reader reports the number of elements it opened, the same as in the text": the `<` of an accepted text are as many as its
  -- elements and its `</` together
  pub counts : (s : List ℕ) → (reading_of s).code ≡ 0
      → sum (λ i. one (eqb (byte_at s i) 60)) (length s)
      ≡ (reading_of s).elements + sum (λ i. one (eqb (byte_at s i) 60 && eqb (byte_at s (i + 1)) 47)) (length s)
  -- "at most 256"
  pub most : (s : List ℕ) → (reading_of s).elements ≤ 256
  -- "Its book is fresh, so demand 3 starts from it." It is legal, and its numbers fit the fields of an image
  pub fresh : (s : List ℕ) → Fresh (reading_of s).book
  pub legal : (s : List ℕ) → Legal (reading_of s).book
  pub typed : (s : List ℕ) → Typed (reading_of s).book
  pub demand3 : (s : List ℕ) → Demand3 (reading_of s).book
  -- with the switch off and no entry tracked, order 3 changes nothing of what is read
  pub unmetered : (s : List ℕ) → Unmetered (reading_of s).book
  -- order 7 adds no element, so every text's entries have threshold 0
  pub ungrouped : (s : List ℕ) (i : ℕ) → Ungrouped (limits_at (reading_of s).book.entries i)
  -- its image is accepted and read back as the same book, whatever book was held before
  pub reads_back : (held : Book) (s : List ℕ)
      → (read_code (image (reading_of s).book) ≡ 0) × (read_book held (image (reading_of s).book) ≡ (reading_of s).book)
  -- "nothing is stored, 0 elements reported"
  pub refused : (s : List ℕ) → ((reading_of s).code ≡ 0 → ⊥) → ((reading_of s).elements ≡ 0) × ((reading_of s).book ≡ no_book)
  -- "the first tag at fault decides": a text that agrees with a refused one up to the end of its first unit at fault (or up to the byte
  -- where the scan is stuck) gets the same answer
  pub decides : (s z : List ℕ) → ((reading_of s).code ≡ 0 → ⊥) → Agree s z (progress_of s).at → reading_of z ≡ reading_of s
  -- so a refused text may be cut behind that, and anything may follow
  pub cut : (s rest : List ℕ) → ((reading_of s).code ≡ 0 → ⊥) → (progress_of s).at ≤ length s
      → reading_of (take (progress_of s).at s ++ rest) ≡ reading_of s
  -- of texts of bytes, equal places are all that is asked
  pub agreeing : (s z : List ℕ) (n : ℕ) → Bytes s → Bytes z → ((i : ℕ) → i < n → byte_at s i ≡ byte_at z i) → Agree s z n
