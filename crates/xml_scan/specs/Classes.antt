-- The numbers by which the definitions know the classes of bytes, and the bits of the code's table.
use Rattle.std.specs.Prelude.{ℕ, Bool, ◌||◌, eqb}
use Rattle.xml_model.specs.Bytes.{spaces, names, texts, digits}
use Rattle.xml_scan.specs.declared.Class.{Class}
use Rattle.xml_scan.specs.declared.class_table.TheConstants.{SPACE, NAME, TEXT, DIGIT, DOUBLE, SINGLE}

abbrev pub class_code : Class → ℕ
class_code Class.Spaces = spaces
class_code Class.Names = names
class_code Class.Texts = texts
class_code Class.Digits = digits
class_code Class.Double = 34
class_code Class.Single = 39

-- the bit of a class in the code's table
abbrev pub class_bit : Class → ℕ
class_bit Class.Spaces = SPACE
class_bit Class.Names = NAME
class_bit Class.Texts = TEXT
class_bit Class.Digits = DIGIT
class_bit Class.Double = DOUBLE
class_bit Class.Single = SINGLE

abbrev pub is_quote : ℕ → Bool
is_quote c = eqb c 34 || eqb c 39
