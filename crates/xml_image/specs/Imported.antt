-- What becomes of a text and a buffer lent for the image of its book.
use Rattle.std.specs.Prelude.{ℕ, cond, List, eqb, leb}
use Rattle.model.specs.Image.{length_of, write_buffer}
use Rattle.fill.specs.Fill.{no_room}
use Rattle.xml_model.specs.Text.{Reading, reading_of}

-- the code with the number of elements and the length of the image
pub record Imported : Type 0 where
  pub code : ℕ
  pub elements : ℕ
  pub length : ℕ

-- the code of the text; 30 if that is 0 and the buffer has too little room for the image
unfoldable pub import_code : Reading → ℕ → ℕ
import_code r room = cond (eqb r.code 0) (cond (leb (length_of r.book) room) 0 no_room) r.code

-- the code with the number of elements and the image's length; no numbers with another code than 0
unfoldable pub imported_from : Reading → ℕ → Imported
imported_from r room = record {
  code = import_code r room;
  elements = cond (eqb (import_code r room) 0) r.elements 0;
  length = cond (eqb (import_code r room) 0) (length_of r.book) 0;
}

-- the buffer: the image and what was behind it; as it was if the code is not 0
unfoldable pub buffer_from : Reading → List ℕ → List ℕ
buffer_from r old = cond (eqb r.code 0) (write_buffer r.book old) old

unfoldable pub imported : List ℕ → ℕ → Imported
imported s room = imported_from (reading_of s) room

unfoldable pub import_buffer : List ℕ → List ℕ → List ℕ
import_buffer s old = buffer_from (reading_of s) old
