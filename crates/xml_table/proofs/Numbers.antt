-- Two roles are the same if their numbers are, and two names likewise.
use Rattle.std.specs.Prelude.{◌≡◌, ℕ, ◌-◌, false, List, [], ◌∷◌, get_or, eqb}
use Rattle.std.proofs.Math.Path.{refl, sym, ap}
use Rattle.std.proofs.Common.{◌∙◌, rules}
use borrow.Author.Tests.{eqb-true, eqb-false}
use denote.Enum.Bare.{sameb, true_same, false_same}
use Rattle.numbers.proofs.Tests.{on_test}
use Rattle.xml_table.specs.contracts.Role as R
use Rattle.xml_table.specs.contracts.Name as N
use Rattle.xml_table.specs.declared.Role.{Role}
use Rattle.xml_table.specs.declared.Name.{Name}
use Rattle.xml_table.specs.Codes.{role_code, name_code}

unfoldable roles : List Role
roles =
    Role.Rights ∷
    Role.RightsContext ∷
    Role.AssetContext ∷
    Role.InheritContext ∷
    Role.Version ∷
    Role.ObjectUid ∷
    Role.AssetUid ∷
    Role.InheritUid ∷
    Role.Agreement ∷
    Role.Asset ∷
    Role.Inherit ∷
    Role.KeyInfo ∷
    Role.Skipped ∷
    Role.Permission ∷
    Role.Reference ∷
    Role.Play ∷
    Role.Display ∷
    Role.Execute ∷
    Role.Print ∷
    Role.Export ∷
    Role.Constraint ∷
    Role.Count ∷
    Role.TimedCount ∷
    Role.Datetime ∷
    Role.Start ∷
    Role.End ∷
    Role.Interval ∷
    Role.Accumulated ∷
    []

unfoldable names : List Name
names =
    Name.Rights ∷
    Name.Context ∷
    Name.Version ∷
    Name.Uid ∷
    Name.Agreement ∷
    Name.Asset ∷
    Name.Inherit ∷
    Name.KeyInfo ∷
    Name.Permission ∷
    Name.Play ∷
    Name.Display ∷
    Name.Execute ∷
    Name.Print ∷
    Name.Export ∷
    Name.Constraint ∷
    Name.Count ∷
    Name.TimedCount ∷
    Name.Datetime ∷
    Name.Start ∷
    Name.End ∷
    Name.Interval ∷
    Name.Accumulated ∷
    []

role-at : (x : Role) → get_or roles (role_code x - 1) Role.Rights ≡ x
unfolding roles
role-at Role.Rights = refl
role-at Role.RightsContext = refl
role-at Role.AssetContext = refl
role-at Role.InheritContext = refl
role-at Role.Version = refl
role-at Role.ObjectUid = refl
role-at Role.AssetUid = refl
role-at Role.InheritUid = refl
role-at Role.Agreement = refl
role-at Role.Asset = refl
role-at Role.Inherit = refl
role-at Role.KeyInfo = refl
role-at Role.Skipped = refl
role-at Role.Permission = refl
role-at Role.Reference = refl
role-at Role.Play = refl
role-at Role.Display = refl
role-at Role.Execute = refl
role-at Role.Print = refl
role-at Role.Export = refl
role-at Role.Constraint = refl
role-at Role.Count = refl
role-at Role.TimedCount = refl
role-at Role.Datetime = refl
role-at Role.Start = refl
role-at Role.End = refl
role-at Role.Interval = refl
role-at Role.Accumulated = refl

name-at : (x : Name) → get_or names (name_code x - 1) Name.Rights ≡ x
unfolding names
name-at Name.Rights = refl
name-at Name.Context = refl
name-at Name.Version = refl
name-at Name.Uid = refl
name-at Name.Agreement = refl
name-at Name.Asset = refl
name-at Name.Inherit = refl
name-at Name.KeyInfo = refl
name-at Name.Permission = refl
name-at Name.Play = refl
name-at Name.Display = refl
name-at Name.Execute = refl
name-at Name.Print = refl
name-at Name.Export = refl
name-at Name.Constraint = refl
name-at Name.Count = refl
name-at Name.TimedCount = refl
name-at Name.Datetime = refl
name-at Name.Start = refl
name-at Name.End = refl
name-at Name.Interval = refl
name-at Name.Accumulated = refl

pub role-of : (x y : Role) → role_code x ≡ role_code y → x ≡ y
role-of x y e = sym (role-at x) ∙ ap (λ (n : ℕ). get_or roles (n - 1) Role.Rights) e ∙ role-at y

name-like : (x y : Name) → name_code x ≡ name_code y → x ≡ y
name-like x y e = sym (name-at x) ∙ ap (λ (n : ℕ). get_or names (n - 1) Name.Rights) e ∙ name-at y

pub same-role : (x y : Role) → sameb R.the_type x y ≡ eqb (role_code x) (role_code y)
same-role x y =
    on_test (eqb (role_code x) (role_code y))
    (λ q. true_same R.the_type x y (role-of x y (eqb-true _ _ q)) ∙ sym q)
    (λ q. false_same R.the_type (search rules) x y (λ e. eqb-false _ _ q (ap role_code e)) ∙ sym q)

pub same-name : (x y : Name) → sameb N.the_type x y ≡ eqb (name_code x) (name_code y)
same-name x y =
    on_test (eqb (name_code x) (name_code y))
    (λ q. true_same N.the_type x y (name-like x y (eqb-true _ _ q)) ∙ sym q)
    (λ q. false_same N.the_type (search rules) x y (λ e. eqb-false _ _ q (ap name_code e)) ∙ sym q)

-- no name has the number 0
pub some-name : (x : Name) → eqb (name_code x) 0 ≡ false
some-name Name.Rights = refl
some-name Name.Context = refl
some-name Name.Version = refl
some-name Name.Uid = refl
some-name Name.Agreement = refl
some-name Name.Asset = refl
some-name Name.Inherit = refl
some-name Name.KeyInfo = refl
some-name Name.Permission = refl
some-name Name.Play = refl
some-name Name.Display = refl
some-name Name.Execute = refl
some-name Name.Print = refl
some-name Name.Export = refl
some-name Name.Constraint = refl
some-name Name.Count = refl
some-name Name.TimedCount = refl
some-name Name.Datetime = refl
some-name Name.Start = refl
some-name Name.End = refl
some-name Name.Interval = refl
some-name Name.Accumulated = refl
