-- What the types of the code say, in the numbers and shapes of the definitions.
use Rattle.std.specs.Prelude.{ℕ, ◌≡◌, Option, is_some, unwrap_or, Result, MatchResult}
use Rattle.xml_model.specs.declared.TextError.{TextError}
use Rattle.xml_model.specs.declared.Fault.{Fault}
use Rattle.xml_model.specs.declared.Form.{Form}
use Rattle.xml_model.specs.declared.Attribute as A
use Rattle.xml_model.specs.declared.Tail as L
use Rattle.xml_model.specs.declared.Tag as T
use Rattle.xml_model.specs.declared.Range.{Range}
use Rattle.xml_model.specs.declared.Piece as P
use Rattle.xml_model.specs.Shapes.{Attribute, Tail, Tag, Value, Piece}

-- "Answers: 40 not well formed, 41 element, depth, value or book rule not accepted, 42 over 256 elements, 64 assets or 64 entries"
abbrev pub text_code : TextError → ℕ
text_code TextError.Malformed = 40
text_code TextError.Unaccepted = 41
text_code TextError.TooMany = 42

abbrev pub form_code : Form → ℕ
form_code Form.Open = 0
form_code Form.Empty = 1
form_code Form.End = 2

-- a fault with that code, told at that place
abbrev pub IsFault : Fault → ℕ → ℕ → Type 0
IsFault f code at = (text_code f.error ≡ code) × (f.at ≡ at)

abbrev pub as_attribute : A.Attribute → Attribute
as_attribute a = record { code = 0; name = a.name; end = a.end; from = a.from; to = a.to }

-- that attribute, or the fault that it tells
abbrev pub IsAttribute : Result A.Attribute Fault → Attribute → Type 0
IsAttribute r x = MatchResult r (λ a. as_attribute a ≡ x) (λ f. IsFault f x.code x.to)

abbrev pub as_tail : L.Tail → Tail
as_tail x = record { code = 0; form = form_code x.form; next = x.next }

abbrev pub IsTail : Result L.Tail Fault → Tail → Type 0
IsTail r x = MatchResult r (λ t. as_tail t ≡ x) (λ f. IsFault f x.code x.next)

abbrev pub as_tag : T.Tag → Tag
as_tag t = record { code = 0; form = form_code t.form; from = t.from; at = t.at; name = t.name; end = t.end; next = t.next }

abbrev pub IsTag : Result T.Tag Fault → Tag → Type 0
IsTag r x = MatchResult r (λ t. as_tag t ≡ x) (λ f. IsFault f x.code x.next)

-- the tag has no attribute of that name: no value starts a text
abbrev pub no_range : Range
no_range = record { from = 0; to = 0 }

abbrev pub as_range : Option Range → Range
as_range o = unwrap_or o no_range

abbrev pub as_value : Option ℕ → Value
as_value o = record { valid = is_some o; number = unwrap_or o 0 }

abbrev pub as_piece : P.Piece → Piece
as_piece p = record { there = is_some p.number; number = unwrap_or p.number 0; next = p.next }
