-- The forms of tags, and their numbers in the definitions.
use mathlib.Core.Path.{◌≡◌, refl, ap}
use mathlib.Core.Bool.{true, false, not}
use native.Mathlib.Omega.{arith}
use borrow.Author.Rules.{rules}
use denote.Enum.Bare.{sameb, same_true, same_false, differs_true, differs_false}
use Rattle.xml_model.specs.declared.Form.{Form}
use Rattle.xml_model.specs.contracts.Form.{the_type}
use Rattle.xml_model.specs.Codes.{form_code}

code-open : (f : Form) → form_code f ≡ 0 → f ≡ Form.Open
code-open Form.Open e = refl
code-open Form.Empty e = absurd (omega arith)
code-open Form.End e = absurd (omega arith)

code-end : (f : Form) → form_code f ≡ 2 → f ≡ Form.End
code-end Form.Open e = absurd (omega arith)
code-end Form.Empty e = absurd (omega arith)
code-end Form.End e = refl

pub is_open : (f : Form) → not (sameb the_type f Form.Open) ≡ false → form_code f ≡ 0
is_open f e = ap form_code (differs_false the_type (search rules) f Form.Open e)

pub not_open : (f : Form) → not (sameb the_type f Form.Open) ≡ true → form_code f ≡ 0 → ⊥
not_open f e q = differs_true the_type f Form.Open e (code-open f q)

pub is_end : (f : Form) → sameb the_type f Form.End ≡ true → form_code f ≡ 2
is_end f e = ap form_code (same_true the_type (search rules) f Form.End e)

pub not_end : (f : Form) → sameb the_type f Form.End ≡ false → form_code f ≡ 2 → ⊥
not_end f e q = same_false the_type f Form.End e (code-end f q)
