-- Why the room for the next image is known before the records are answered: no event changes its length. And that what each exit
-- of `answer_image` leaves is what `ByValue` says.
use Prim.Native.Nat.{ℕ, ◌+◌, ◌*◌, ◌/◌, ◌%◌, ◌≤◌, ◌<◌, min}
use mathlib.Core.Path.{◌≡◌, refl, sym, ap, ◌∙◌}
use mathlib.Core.Bool.{true, false}
use mathlib.Core.List.{List, [], ◌∷◌}
use native.Mathlib.Omega.{arith}
use lib.ListN.{length}
use lib.Dec.{leb, eqb}
use borrow.Author.Tests.{ne_eqb, le-leb, lt-leb}
use Rattle.std.specs.Int.{div_ceil}
use Rattle.numbers.proofs.Tests.{on_test, on_same}
use Rattle.book.specs.declared.Line.{Line}
use Rattle.book.specs.declared.Book.{Book}
use Rattle.book.specs.Decoded.{Decoded}
use Rattle.model.specs.Book.{assets_in, entries_in}
use Rattle.model.specs.Image.{length_of, write_answer, write_buffer, read_code}
use Rattle.model.specs.Record.{decoded}
use Rattle.model.specs.Step.{arrive}
use Rattle.model.specs.Report.{receive, lines_left, lent, admitted}
use Rattle.model.specs.History.{record_final}
use Rattle.model.specs.Run.{record_count, records_in, run_book}
use Rattle.model.proofs.Ledger.WellFormed.{arrive-static}
use Rattle.fill.specs.Fill.{no_room}
use Rattle.metering.specs.Good.{good_lines}
use Rattle.step.specs.Lines.{reported_on}
use Rattle.batch.specs.Block.{step_on, book_on, fits, block_book, block_lines, block_written, block_buffer, Answered}
use Rattle.embed.specs.Calls.{image_in, held_book, room_code, call_code}
use Rattle.embed.specs.ByValue.{book_by, code_by, AnsweredBy}

-- ## The length

event-length : (b : Book) (d : Decoded) → length_of (arrive b d).book ≡ length_of b
unfolding length_of assets_in entries_in
event-length b d = rw ((arrive-static b d).assetcount, (arrive-static b d).entrycount) refl

records-length : (b : Book) (ls : List Line) (rs : List (List ℕ)) → length_of (record_final b ls rs) ≡ length_of b
unfolding record_final receive
records-length b ls [] = refl
records-length b ls (r ∷ rs) =
    records-length (receive b (lent ls r)).book (lines_left b (lent ls r)) rs ∙ event-length b (admitted b (lent ls r))

pub run_length : (b : Book) (ls : List Line) (records : List ℕ) → length_of (run_book b ls records) ≡ length_of b
unfolding run_book
run_length b ls records = records-length b ls (records_in records)

-- the same by value
pub step-length : (b : Book) (d : Decoded) (ls : List Line) (count : ℕ) → length_of (reported_on b d ls count).book ≡ length_of b
unfolding reported_on
step-length b d ls count =
    on_test (good_lines b.assets b.assetcount ls count) (λ q. rw q (event-length b d)) (λ q. rw q refl)

book-length : (b : Book) (ls : List Line) (count : ℕ) (rs : List (List ℕ)) → length_of (book_on b ls count rs) ≡ length_of b
unfolding book_on
book-length b ls count [] = refl
book-length b ls count (r ∷ rs) =
    book-length (step_on b ls count r).book (step_on b ls count r).lines count rs ∙ step-length b (decoded r) ls count

pub block-length : (b : Book) (ls : List Line) (count : ℕ) (s : List ℕ) (room : ℕ) → length_of (block_book b ls count s room) ≡ length_of b
unfolding block_book
block-length b ls count s room =
    on_test (fits s room) (λ q. rw q (book-length b ls count (records_in s))) (λ q. rw q refl)

-- ## Room

-- how many records there are, a last one cut short among them
pub ceil : (n : ℕ) → div_ceil n 17 ≡ (n + 16) / 17
ceil n = on_same (n % 17) 0 (λ z. rw z (omega arith)) (λ z. let w : min 1 (n % 17) ≡ 1 = omega arith in rw w (omega arith))

pub room-there : (b : Book) (buffer : List ℕ) → length_of b ≤ length buffer → room_code b buffer ≡ 0
unfolding room_code
room-there b buffer h = rw (le-leb (length_of b) (length buffer) h) refl

pub room-short : (b : Book) (buffer : List ℕ) → length buffer < length_of b → room_code b buffer ≡ no_room
unfolding room_code
room-short b buffer h = rw (lt-leb (length_of b) (length buffer) h) refl

pub written-length : (b : Book) (buffer : List ℕ) (n : ℕ) → length_of b ≤ length buffer → write_answer b (length buffer) ≡ n
    → n ≡ length_of b
unfolding write_answer
written-length b buffer n h e = sym e ∙ rw (le-leb (length_of b) (length buffer) h) refl

-- ## What is left

module _ (buffer : List ℕ) (size : ℕ) (records old : List ℕ) (before : ℕ) (ls : List Line) (count : ℕ) where
  abbrev s : List ℕ
  s = image_in buffer size

  abbrev next : Book
  next = book_by buffer size records old before ls count

  abbrev code_is : ℕ
  code_is = code_by buffer size records old before ls count

  abbrev pub Left : ℕ → List ℕ → ℕ → List ℕ → ℕ → List Line → Type 0
  Left = AnsweredBy buffer size records old before ls count

  kept : (code : ℕ) → code ≡ code_is → (code ≡ 0 → ⊥) → Left code buffer size old before ls
  kept code e n =
      let w : eqb code_is 0 ≡ false = ap (λ (k : ℕ). eqb k 0) (sym e) ∙ ne_eqb code 0 n in
      (e, (rw w refl, (rw w refl, (rw w refl, (rw w refl, rw w refl)))))

  refused-code : (code : ℕ) → code ≡ read_code s → (code ≡ 0 → ⊥) → code ≡ code_is
  unfolding call_code
  refused-code code e n = e ∙ rw (ne_eqb (read_code s) 0 (λ z. n (e ∙ z))) refl

  pub left-refused : (code : ℕ) → code ≡ read_code s → (code ≡ 0 → ⊥) → Left code buffer size old before ls
  left-refused code e n = kept code (refused-code code e n) n

  short-code : read_code s ≡ 0 → length old < 19 * record_count records → no_room ≡ code_is
  unfolding call_code fits
  short-code e h = rw (e, lt-leb (19 * record_count records) (length old) h) refl

  pub left-short : read_code s ≡ 0 → length old < 19 * record_count records → Left no_room buffer size old before ls
  left-short e h = kept no_room (short-code e h) (λ z. omega arith)

  -- the image is accepted, its book is `book`, and out has room
  module _ (book : Book) (needed : ℕ) (e : read_code s ≡ 0) (h : 19 * record_count records ≤ length old)
      (same : book ≡ held_book s) (n : needed ≡ length_of book) where
    next-length : needed ≡ length_of next
    next-length = n ∙ ap length_of same ∙ sym (block-length (held_book s) ls count records (length old))

    room-is : leb (19 * record_count records) (length old) ≡ true
    room-is = le-leb (19 * record_count records) (length old) h

    next-code : (x : ℕ) → room_code next buffer ≡ x → x ≡ code_is
    unfolding call_code fits
    next-code x q = sym (rw (e, room-is) q)

    pub left-unwritten : length buffer < needed → Left no_room buffer size old before ls
    left-unwritten k = kept no_room (next-code no_room (room-short next buffer (rw (next-length) at k))) (λ z. omega arith)

    pub left-answered :
        (b : Book) (after : List Line) (lent : ℕ) (buffer' out : List ℕ) (written : ℕ) →
        needed ≤ length buffer →
        Answered book ls count records old b after lent written out →
        buffer' ≡ write_buffer b buffer →
        Left 0 buffer' needed out written after
    left-answered b after lent buffer' out written k p q =
        let c = next-code 0 (room-there next buffer (rw (next-length) at k)) in
        let w : eqb code_is 0 ≡ true = ap (λ (x : ℕ). eqb x 0) (sym c) in (
          c,
          (
            rw w (q ∙ ap (λ (x : Book). write_buffer x buffer) (p.0 ∙ ap (λ (x : Book). block_book x ls count records (length old)) same)),
            (
              rw w next-length,
              (
                rw w (p.4 ∙ ap (λ (x : Book). block_buffer x ls count records old) same),
                (
                  rw w (p.3 ∙ ap (λ (x : Book). block_written x ls count records (length old)) same),
                  rw w (p.1 ∙ ap (λ (x : Book). block_lines x ls count records (length old)) same),
                ),
              ),
            ),
          ),
        )
