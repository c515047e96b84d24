-- Two results that meet the contract of `child_of` are equal, for every role, state and name, and likewise of `kind_of`.
use Rattle.std.specs.Prelude.{ℕ, ◌≡◌, Option}
use Rattle.std.proofs.Common.{sym, ap₂, ◌∙◌, arith}
use Rattle.numbers.proofs.OneResult.{one_option}
use Rattle.book.specs.declared.Kind.{Kind}
use Rattle.book.specs.Codes.{kind_code}
use Rattle.book.proofs.OneNumber.{one-kind}
use Rattle.xml_model.specs.Elements.{row_of}
use Rattle.xml_table.specs.declared.Role.{Role}
use Rattle.xml_table.specs.declared.Name.{Name}
use Rattle.xml_table.specs.declared.Child.{Child}
use Rattle.xml_table.specs.Codes.{role_code, name_number}
use Rattle.xml_table.specs.Rows.{IsChild, IsKind}
use Rattle.xml_table.proofs.Numbers.{role-of}

one-child : (k : ℕ) (r r' : Option Child) → IsChild r k → IsChild r' k → r ≡ r'
one-child k =
    one_option _ _
    (λ c d h i. ap₂ (λ (x : Role) (n : ℕ). record { role = x; state = n }) (role-of c.role d.role (h.1 ∙ sym i.1)) (h.2 ∙ sym i.2))
    (λ c e h. omega (arith, e, h))

module _ (role : Role) (state : ℕ) (name : Option Name) where
  -- the clause of the contract
  abbrev pub Accepts : Option Child → Type 0
  Accepts result = IsChild result (row_of (role_code role) state (name_number name))

  pub child_of : (r r' : Option Child) → Accepts r → Accepts r' → r ≡ r'
  child_of = one-child (row_of (role_code role) state (name_number name))

module _ (role : Role) where
  -- the clause of the contract
  abbrev pub Stands : Option Kind → Type 0
  Stands result = IsKind result (role_code role)

  pub kind_of : (r r' : Option Kind) → Stands r → Stands r' → r ≡ r'
  kind_of =
      one_option _ _
      (λ x y h k. let e : kind_code x ≡ kind_code y = omega (arith, h.1, k.1) in one-kind x y e)
      (λ x h k. cc)
