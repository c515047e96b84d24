-- `xml_state::text_done` meets its contract. What a uid stands for fits its field.
use mathlib.Core.List.{List}
use mathlib.Core.Path.{◌≡◌, ap}
use Rattle.std.specs.Prelude.{Some}
use Prim.Native.Nat.{ℕ, ◌≤◌}
use native.Mathlib.Omega.{arith}
use Rattle.numbers.proofs.Tests.{on_same}
use Rattle.xml_model.specs.Elements.{object_uid_role, asset_uid_role, inherit_uid_role}
use Rattle.xml_model.specs.Shapes.{Value}
use Rattle.xml_model.specs.Values.{value_of}
use Rattle.xml_model.proofs.LegalState.{number-most, uid-small}
use Rattle.xml_table.specs.Codes.{role_code}
use Rattle.xml_state.proofs.text_done.Goals as goal

value-fits : (role : ℕ) (v : List ℕ) → object_uid_role ≤ role → role ≤ inherit_uid_role → (value_of role v).number ≤ 65535
unfolding value_of
value-fits role v lo hi = on_same role object_uid_role (λ e. rw e (number-most 1 65535 v)) (λ a.
    on_same role asset_uid_role (λ e. rw e (omega (arith, uid-small v))) (λ b.
    let e : role ≡ inherit_uid_role = omega (arith, a, b) in
    rw e (omega (arith, uid-small v))))

pub stored-requires : goal.stored-requires
stored-requires c =
    let a = c.args in
    let o : c.value_of.result ≡ Some c.in_ok-x.x = grind arith in
    let e : c.in_ok-x.x ≡ (value_of (role_code a.role) a.v.now).number =
    ap (λ (w : Value). w.number) (rw (o, c.from.ensures) at c.value_of.ensures) in
    λ lo hi. rw e (value-fits (role_code a.role) a.v.now lo hi)
