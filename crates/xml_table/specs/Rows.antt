-- The rows of the table as the code has them, and what they make of a child.
use Rattle.std.specs.Prelude.{ℕ, ◌≡◌, ◌+◌, ◌<◌, Bool, true, false, ◌&&◌, eqb, leb, Option, MatchOption}
use Rattle.xml_model.specs.Elements.{row_count, child_role, next_state, is_kind, kinds_from}
use Rattle.book.specs.declared.Kind.{Kind}
use Rattle.book.specs.Codes.{kind_code}
use Rattle.xml_table.specs.declared.Row.{Row}
use Rattle.xml_table.specs.declared.Child.{Child}
use Rattle.xml_table.specs.Codes.{role_code, name_code}

abbrev pub row_fits : Row → ℕ → ℕ → ℕ → Bool
row_fits r role state name =
    eqb (role_code r.holder) role && leb r.lowest state && leb state r.highest && eqb (name_code r.name) name

-- what row k accepts; nothing past the last row
abbrev pub IsChild : Option Child → ℕ → Type 0
IsChild r k =
    MatchOption r (k ≡ row_count) (λ c. (k < row_count) × (role_code c.role ≡ child_role k) × (c.state ≡ next_state k))

-- the kind that an element of that role stands for
abbrev pub IsKind : Option Kind → ℕ → Type 0
IsKind r role = MatchOption r (is_kind role ≡ false) (λ k. (is_kind role ≡ true) × (role ≡ kinds_from + kind_code k))
