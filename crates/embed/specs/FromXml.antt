-- What a call of `rights_from_xml` returns and leaves in the caller's buffers: definitions only, in terms of the import of a text.
-- buffer is what is lent for the image.
use Rattle.std.specs.Prelude.{ℕ, cond, List, length, eqb}
use Rattle.xml_image.specs.Imported.{imported, import_buffer}

-- "40 to 42 | the text is refused"; 30: no room for the image; 0: it is there
unfoldable pub xml_code : List ℕ → List ℕ → ℕ
xml_code text buffer = (imported text (length buffer)).code

-- the image of the text's book, and behind it what was there before; all as it was if the code is not 0
unfoldable pub xml_image : List ℕ → List ℕ → List ℕ
xml_image text buffer = cond (eqb (xml_code text buffer) 0) (import_buffer text buffer) buffer

-- its length, and how many elements the text has; what was there before if the code is not 0
unfoldable pub xml_size : List ℕ → List ℕ → ℕ → ℕ
xml_size text buffer size = cond (eqb (xml_code text buffer) 0) (imported text (length buffer)).length size

unfoldable pub xml_elements : List ℕ → List ℕ → ℕ → ℕ
xml_elements text buffer elements = cond (eqb (xml_code text buffer) 0) (imported text (length buffer)).elements elements
