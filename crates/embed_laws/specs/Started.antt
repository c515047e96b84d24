-- What `rights_from_xml` leaves if it returns 0 is an image that every other call accepts, of the text's book.
use Rattle.std.specs.Prelude.{ℕ, ◌≤◌, ◌≡◌, refl, List, length, eqb, leb}
use Rattle.std.proofs.Common.{sym, ◌∙◌, arith}
use Rattle.std.proofs.Math.Path.{ap}
use borrow.Author.Tests.{le-leb, leb-true, eqb-true}
use Rattle.numbers.proofs.Tests.{on_test, both_zero}
use Rattle.book.specs.declared.Book.{Book}
use Rattle.book.specs.Blank.{no_book}
use Rattle.model.specs.Image.{image, length_of, read_code}
use Rattle.xml_model.specs.Text.{reading_of}
use Rattle.xml_model.proofs.Import.{import}
use Rattle.xml_image.specs.Imported.{import_code, imported_from, buffer_from, imported, import_buffer}
use Rattle.embed.specs.Calls.{image_in, held_book, room_code}
use Rattle.embed.specs.FromXml.{xml_code, xml_image, xml_size}
use Rattle.embed_laws.specs.Pieces.{image-back, room-enough}

-- a buffer of 5,399 bytes has room for every text's image: the code is the text's own
pub text-code : (text buffer : List ℕ) → 5399 ≤ length buffer → xml_code text buffer ≡ (reading_of text).code
unfolding xml_code imported imported_from import_code room_code
text-code text buffer h =
    on_test (eqb (reading_of text).code 0)
    (λ w. rw w (room-enough (reading_of text).book buffer h ∙ sym (eqb-true (reading_of text).code 0 w)))
    (λ w. rw w refl)

module _ (text buffer : List ℕ) (size : ℕ) (made : xml_code text buffer ≡ 0) where
  abbrev book : Book
  book = (reading_of text).book

  -- what the next call finds
  abbrev pub first_image : List ℕ
  first_image = image_in (xml_image text buffer) (xml_size text buffer size)

  passed : ((reading_of text).code ≡ 0) × (room_code book buffer ≡ 0)
  unfolding xml_code imported imported_from import_code room_code
  passed = both_zero (reading_of text).code (room_code book buffer) made

  has_room : length_of book ≤ length buffer
  unfolding room_code
  has_room =
      on_test (leb (length_of book) (length buffer))
      (λ w. leb-true (length_of book) (length buffer) w)
      (λ w. let z = rw w at passed.1 in omega (arith, z))

  first-is : first_image ≡ image book
  unfolding xml_image xml_size import_buffer buffer_from imported imported_from import_code
  first-is = rw (made, passed.0, le-leb (length_of book) (length buffer) has_room) (image-back book buffer has_room)

  pub first-accepted : read_code first_image ≡ 0
  first-accepted = ap read_code first-is ∙ (import.reads_back no_book text).0

  pub first-book : held_book first_image ≡ book
  unfolding held_book
  first-book = ap held_book first-is ∙ (import.reads_back no_book text).1
