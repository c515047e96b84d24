-- What the functions return, in the shapes of the definitions.
use Rattle.std.specs.Prelude.{ℕ, true, Result, Ok, Err}
use Rattle.book.specs.Blank.{no_book}
use Rattle.xml_model.specs.declared.TextError.{TextError}
use Rattle.xml_model.specs.declared.Fault.{Fault}
use Rattle.xml_model.specs.declared.State.{State}
use Rattle.xml_model.specs.Codes.{text_code}
use Rattle.xml_model.specs.Text.{Progress, Reading, refusal}
use Rattle.xml_read.specs.declared.Progress as P
use Rattle.xml_read.specs.declared.Reading as R
use Rattle.xml_read.specs.Nesting.{Child}

-- a child that is accepted
abbrev pub accepts : ℕ → ℕ → Child
accepts role state = record { accepted = true; role = role; state = state }

-- the place up to which is read, with the state where it was lent; or a fault, whatever stands there
abbrev pub as_place : Result ℕ Fault → State → Progress
as_place (Ok at) st = record { code = 0; at = at; state = st }
as_place (Err f) st = refusal (text_code f.error) f.at

abbrev pub as_progress : Result P.Progress Fault → Progress
as_progress (Ok r) = record { code = 0; at = r.at; state = r.state }
as_progress (Err f) = refusal (text_code f.error) f.at

abbrev pub as_reading : Result R.Reading TextError → Reading
as_reading (Ok r) = record { code = 0; elements = r.elements; book = r.book }
as_reading (Err e) = record { code = text_code e; elements = 0; book = no_book }
