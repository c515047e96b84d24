-- Demand 2, on images: "a book written and read back is the same book, and an accepted image writes the same bytes."
-- Statements only, in terms of `Book` and `Image`; proved in `proofs/Image/RoundTrip`.
use Rattle.std.specs.Prelude.{ℕ, ◌≤◌, ◌<◌, ◌≡◌, List, length, take, drop}
use Rattle.book.specs.declared.Book.{Book}
use Rattle.model.specs.Book.{Legal}
use Rattle.model.specs.Image.{newest, version_in, image, image_as, length_of, write_answer, write_buffer, read_code, read_book, SaidBy, Typed}
use Rattle.model.specs.Image.{Bytes}

pub record Demand2 : Type 0 where
  -- "a book written and read back is the same book", whatever book was held before
  pub reads_back : (held b : Book) → Legal b → Typed b → (read_code (image b) ≡ 0) × (read_book held (image b) ≡ b)
  -- what is written consists of bytes, so the statements below apply to it too
  pub image_bytes : (b : Book) → Legal b → Typed b → Bytes (image b)
  -- what is written has the newest version
  pub newest_written : (b : Book) → Legal b → version_in (image b) ≡ newest
  -- "an accepted image writes the same bytes"; "equal bytes are wanted of the newest only"
  pub writes_back : (held : Book) (s : List ℕ) → Bytes s → read_code s ≡ 0 → version_in s ≡ newest → image (read_book held s) ≡ s
  -- an accepted image of any version is the book that it reads as, laid out by that version: no number is misread
  pub laid_again : (held : Book) (s : List ℕ) → Bytes s → read_code s ≡ 0 → image_as (version_in s) (read_book held s) ≡ s
  -- "Older images .. reading as the same book": laid out by any version that can say it, a book reads as itself. Order 4: "Numbers in older
  -- images keep their value."
  pub reads_as : (held b : Book) (v : ℕ) → 1 ≤ v → v ≤ newest → Legal b → SaidBy v b
      → (read_code (image_as v b) ≡ 0) × (read_book held (image_as v b) ≡ b)
  -- "Older images have those fields 0": what is read from one is what its version can say. One of version 1 gives no switch, no entry a
  -- track and no open use a content, one of version 1 or 2 no number above 4,294,967,295, one of versions 1 to 3 no threshold, and
  -- one of versions 1 to 4 no event taken last.
  pub said : (held : Book) (s : List ℕ) → Bytes s → read_code s ≡ 0 → SaidBy (version_in s) (read_book held s)
  -- "Older images .. are written back as the newest version, reading as the same book": true of every accepted image
  pub older_same : (held next : Book) (s : List ℕ) → Bytes s → read_code s ≡ 0
      → (read_code (image (read_book held s)) ≡ 0)
      × (version_in (image (read_book held s)) ≡ newest)
      × (read_book next (image (read_book held s)) ≡ read_book held s)
  -- what is accepted is a legal book, so it can be written and read back in turn
  pub accepted_legal : (held : Book) (s : List ℕ) → Bytes s → read_code s ≡ 0 → Legal (read_book held s) × Typed (read_book held s)
  -- "20 to 27 | image refused | the book held before, unchanged"
  pub refused_keeps : (held : Book) (s : List ℕ) → (read_code s ≡ 0 → ⊥) → read_book held s ≡ held
  -- "The writer fills that many bytes, no more, and returns the length."
  pub written_length : (b : Book) → length (image b) ≡ length_of b
  -- "Length 11 + 5A + 51P + 384, at most 3,979", with 12, 20 and 8 bytes more in header, entry and player: never the 30 of a refusal
  pub length_bounds : (b : Book) → (535 ≤ length_of b) × (length_of b ≤ 5399)
  -- the bytes filled are the image, and those after them are unchanged
  pub written : (b : Book) (old : List ℕ) → length_of b ≤ length old → take (write_answer b (length old)) (write_buffer b old) ≡ image b
  pub behind_kept : (b : Book) (old : List ℕ) → length_of b ≤ length old
      → drop (write_answer b (length old)) (write_buffer b old) ≡ drop (length_of b) old
  -- "30 | writer's buffer too short | buffer untouched"
  pub too_short : (b : Book) (old : List ℕ) → length old < length_of b → (write_answer b (length old) ≡ 30) × (write_buffer b old ≡ old)
