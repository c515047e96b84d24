-- What `import_text` returns, in the shape of the definitions.
use Rattle.std.specs.Prelude.{ℕ, Result, Ok, Err}
use Rattle.fill.specs.Fill.{no_room}
use Rattle.xml_model.specs.Codes.{text_code}
use Rattle.xml_image.specs.declared.ImportError.{ImportError}
use Rattle.xml_image.specs.declared.Imported as I
use Rattle.xml_image.specs.Imported.{Imported}

abbrev pub import_error : ImportError → ℕ
import_error (ImportError.Text e) = text_code e
import_error (ImportError.NoRoom e) = no_room

abbrev pub as_imported : Result I.Imported ImportError → Imported
as_imported (Ok r) = record { code = 0; elements = r.elements; length = r.length }
as_imported (Err e) = record { code = import_error e; elements = 0; length = 0 }
