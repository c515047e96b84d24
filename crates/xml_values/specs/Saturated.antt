-- Numbers as the code holds them. A text can have any number of digits; a number stays at 10^12, which is above every bound.
use Rattle.std.specs.Prelude.{ℕ, min}
use Rattle.xml_model.specs.Shapes.{Piece}

abbrev pub ceiling : ℕ
ceiling = 1000000000000

-- one part of a duration
unfoldable pub saturated : Piece → Piece
saturated p = record { there = p.there; number = min p.number ceiling; next = p.next }
