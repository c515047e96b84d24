-- A call's next image is accepted by the next call and holds the book after the records, so calls on the records piece by
-- piece, each lent the lines that the one before it left, answer what one call on all of them would, and leave the same lines.
use Rattle.std.specs.Prelude.{ℕ, zero, suc, ◌*◌, ◌≤◌, ◌<◌, ◌≡◌, true, cond, List, [], ◌∷◌, ◌++◌, take, drop, leb}
use Rattle.std.proofs.Math.Path.{refl, sym, ap}
use Rattle.std.proofs.Common.{ap₂, ◌∙◌, arith, length-drop, take_at, length-take-le}
use Rattle.std.proofs.Math.ListN.{length, length-append}
use borrow.Author.Tests.{le-leb, lt-leb, leb-true}
use Rattle.numbers.specs.Count.{listed}
use Rattle.numbers.proofs.FieldLaws.{drop-bytes}
use Rattle.numbers.proofs.Tests.{on_test, both_zero}
use Rattle.book.specs.declared.Line.{Line}
use Rattle.book.specs.declared.Book.{Book}
use Rattle.book.specs.Blank.{no_book}
use Rattle.model.specs.Book.{Legal}
use Rattle.model.specs.Image.{newest, version_in, Typed, Bytes, image, length_of, write_buffer, header_broken, read_code}
use Rattle.model.specs.Record.{record_size}
use Rattle.model.specs.Report.{receive, lines_left, lent}
use Rattle.model.specs.History.{record_final}
use Rattle.model.specs.Run.{record_at, record_count, records_in, run_text, run_book, run_lines}
use Rattle.model.proofs.Image.RoundTrip.{demand2}
use Rattle.model.proofs.Legal.Step.{saved, receive-legal, receive-typed}
use Rattle.fill.specs.Fill.{no_room}
use Rattle.batch.specs.Block.{fits}
use Rattle.blocks.specs.Blocks.{block-book, block-text, block-lines}
use Rattle.embed.specs.Calls.{image_in, held_book, room_code, call_code, answer_code, image_after, size_after, report_after}
use Rattle.embed.proofs.Left.{run_length, room-there}

-- ## A book stays legal through a block of records

abbrev AllBytes : List (List ℕ) → Type 0
AllBytes [] = Unit {0}
AllBytes (r ∷ rs) = Bytes r × AllBytes rs

one_more : (rs : List (List ℕ)) (r : List ℕ) → AllBytes rs → Bytes r → AllBytes (rs ++ (r ∷ []))
one_more [] r h b = (b, tt)
one_more (x ∷ rs) r (h, hs) b = (h, one_more rs r hs b)

take-bytes : (n : ℕ) (s : List ℕ) → Bytes s → Bytes (take n s)
take-bytes zero s b k = omega arith
take-bytes (suc n) [] b k = b k
take-bytes (suc n) (x ∷ s) b zero = b 0
take-bytes (suc n) (x ∷ s) b (suc k) = take-bytes n s (λ j. b (suc j)) k

records-bytes : (s : List ℕ) → Bytes s → (n : ℕ) → AllBytes (listed (record_at s) n)
unfolding listed record_at
records-bytes s b zero = tt
records-bytes s b (suc n) =
    one_more (listed (record_at s) n) (record_at s n) (records-bytes s b n) (take-bytes record_size (drop (record_size * n) s) (drop-bytes
    (record_size * n) s b))

final-kept : (b : Book) (ls : List Line) (rs : List (List ℕ)) → Legal b → Typed b → AllBytes rs
    → Legal (record_final b ls rs) × Typed (record_final b ls rs)
unfolding record_final
final-kept b ls [] l y h = (l, y)
final-kept b ls (r ∷ rs) l y (h, hs) =
    final-kept (receive b (lent ls r)).book (lines_left b (lent ls r)) rs (receive-legal b (lent ls r) l)
    (receive-typed b (lent ls r) l y (saved.decoded_fits r h)) hs

run-kept : (b : Book) (ls : List Line) (s : List ℕ) → Legal b → Typed b → Bytes s → Legal (run_book b ls s) × Typed (run_book b ls s)
unfolding run_book records_in
run-kept b ls s l y h = final-kept b ls (records_in s) l y (records-bytes s h (record_count s))

-- ## The next call

-- the image written to the start of a buffer that has room is the image found there, by its length
pub image-back : (b : Book) (buffer : List ℕ) → length_of b ≤ length buffer → image_in (write_buffer b buffer) (length_of b) ≡ image b
unfolding image_in write_buffer
image-back b buffer h =
    let long : length_of b ≤ length (image b ++ drop (length_of b) buffer) =
    rw (length-append, demand2.written_length b) (omega arith) in
    rw (le-leb (length_of b) (length buffer) h, le-leb (length_of b) (length (image b ++ drop (length_of b) buffer)) long)
    (take_at (image b) (drop (length_of b) buffer) (length_of b) (demand2.written_length b))

image-bytes : (buffer : List ℕ) (size : ℕ) → Bytes buffer → Bytes (image_in buffer size)
unfolding image_in
image-bytes buffer size b =
    on_test (leb size (length buffer)) (λ w. rw w (take-bytes size buffer b)) (λ w. rw w (take-bytes 0 buffer b))

-- a length above the room is refused as no image at all is
pub above-room : (buffer : List ℕ) (size : ℕ) (ls : List Line) (records : List ℕ) (room : ℕ) → length buffer < size
    → answer_code buffer size ls records room ≡ 20
unfolding answer_code call_code image_in read_code header_broken
above-room buffer size ls records room h = rw (lt-leb size (length buffer) h) refl

-- a buffer of 5,399 bytes has room for every next image
pub room-enough : (b : Book) (buffer : List ℕ) → 5399 ≤ length buffer → room_code b buffer ≡ 0
room-enough b buffer h = let most = (demand2.length_bounds b).1 in room-there b buffer (omega arith)

-- of an accepted image of the newest version the next one has the same length ("an accepted image writes the same bytes", and no
-- event adds to a book), so a call lacks room for its text alone
module _ (buffer : List ℕ) (size : ℕ) (ls : List Line) (records : List ℕ) (bytes : Bytes buffer)
    (accepted : read_code (image_in buffer size) ≡ 0) (latest : version_in (image_in buffer size) ≡ newest) where
  abbrev lent_image : List ℕ
  lent_image = image_in buffer size

  within : size ≤ length buffer
  unfolding image_in read_code header_broken
  within =
      on_test (leb size (length buffer))
      (λ w. leb-true size (length buffer) w)
      (λ w. let z = rw w at accepted in omega (arith, z))

  lent_length : length lent_image ≡ size
  unfolding image_in
  lent_length = rw (le-leb size (length buffer) within) (length-take-le size buffer within)

  pub next-length : length_of (run_book (held_book lent_image) ls records) ≡ size
  unfolding held_book
  next-length =
      run_length (held_book lent_image) ls records
      ∙ sym (demand2.written_length (held_book lent_image))
      ∙ ap length (demand2.writes_back no_book lent_image (image-bytes buffer size bytes) accepted latest)
      ∙ lent_length

  pub text-room-enough : (room : ℕ) → fits records room ≡ true → answer_code buffer size ls records room ≡ 0
  unfolding answer_code call_code
  text-room-enough room f =
      rw (accepted, f) (room-there (run_book (held_book lent_image) ls records) buffer (rw (next-length) within))

module _ (buffer : List ℕ) (size : ℕ) (ls : List Line) (records : List ℕ) (room : ℕ) (bytes : Bytes buffer) (bytes' : Bytes records)
    (answered : answer_code buffer size ls records room ≡ 0) where
  abbrev s : List ℕ
  s = image_in buffer size

  abbrev next : Book
  next = run_book (held_book s) ls records

  -- what the next call finds
  abbrev pub next_image : List ℕ
  next_image = image_in (image_after buffer size ls records room) (size_after buffer size ls records room)

  -- and what it is lent
  abbrev pub next_lines : List Line
  next_lines = report_after buffer size ls records room

  next-lines : next_lines ≡ run_lines (held_book s) ls records
  unfolding report_after
  next-lines = rw answered refl

  passed : (read_code s ≡ 0) × (cond (fits records room) (room_code next buffer) no_room ≡ 0)
  unfolding answer_code call_code
  passed = both_zero (read_code s) (cond (fits records room) (room_code next buffer) no_room) answered

  has_room : length_of next ≤ length buffer
  unfolding room_code
  has_room =
      on_test (leb (length_of next) (length buffer))
      (λ w. leb-true (length_of next) (length buffer) w)
      (λ w. on_test (fits records room)
      (λ f. let z = rw (f, w) at passed.1 in omega (arith, z))
      (λ f. let z = rw f at passed.1 in omega (arith, z)))

  next-is : next_image ≡ image next
  unfolding image_after size_after
  next-is = rw answered (image-back next buffer has_room)

  kept : Legal next × Typed next
  unfolding held_book
  kept =
      let h = demand2.accepted_legal no_book s (image-bytes buffer size bytes) passed.0 in
      run-kept (held_book s) ls records h.0 h.1 bytes'

  pub next-accepted : read_code next_image ≡ 0
  next-accepted = ap read_code next-is ∙ (demand2.reads_back no_book next kept.0 kept.1).0

  pub next-book : held_book next_image ≡ next
  unfolding held_book
  next-book = ap held_book next-is ∙ (demand2.reads_back no_book next kept.0 kept.1).1

  -- the next call has room for its image too, so it answers, if there is room for its text
  same-room : length (image_after buffer size ls records room) ≡ length buffer
  unfolding image_after write_buffer
  same-room =
      rw (answered, le-leb (length_of next) (length buffer) has_room, length-append, demand2.written_length next, length-drop)
      (omega (arith, has_room))

  pub next-answered : (ms : List Line) (more : List ℕ) (room' : ℕ) → fits more room' ≡ true
      → answer_code (image_after buffer size ls records room) (size_after buffer size ls records room) ms more room' ≡ 0
  unfolding answer_code call_code
  next-answered ms more room' f =
      let long : length_of (run_book (held_book next_image) ms more) ≡ length_of next =
      run_length (held_book next_image) ms more ∙ ap length_of next-book in
      let there : length_of (run_book (held_book next_image) ms more) ≤ length (image_after buffer size ls records room) =
      rw (long, same-room) has_room in
      rw (next-accepted, f) (room-there (run_book (held_book next_image) ms more) (image_after buffer size ls records room) there)

  -- whole records, and then any more bytes
  module _ (more : List ℕ) (k : ℕ) (whole : length records ≡ record_size * k) where
    pub pieces-text :
        run_text (held_book s) ls records ++ run_text (held_book next_image) next_lines more ≡ run_text (held_book s) ls (records ++ more)
    pieces-text =
        ap₂ (λ (b : Book). λ (m : List Line). run_text (held_book s) ls records ++ run_text b m more) next-book next-lines
        ∙ sym (block-text records more k whole (held_book s) ls)

    pub pieces-book : run_book (held_book next_image) next_lines more ≡ run_book (held_book s) ls (records ++ more)
    pieces-book = ap₂ (λ (b : Book). λ (m : List Line). run_book b m more) next-book next-lines
        ∙ sym (block-book records more k whole (held_book s) ls)

    pub pieces-lines : run_lines (held_book next_image) next_lines more ≡ run_lines (held_book s) ls (records ++ more)
    pieces-lines = ap₂ (λ (b : Book). λ (m : List Line). run_lines b m more) next-book next-lines
        ∙ sym (block-lines records more k whole (held_book s) ls)
