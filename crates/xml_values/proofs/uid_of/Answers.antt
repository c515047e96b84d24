-- `xml_values::uid_of` meets its contract, for a short text, with a prefix and without.
use Prim.Native.Nat.{ℕ, ◌-◌, ◌<◌}
use mathlib.Core.Path.{◌≡◌, refl, ap, ◌∙◌}
use mathlib.Core.Bool.{false}
use mathlib.Core.List.{List, [], ◌∷◌}
use native.Mathlib.Omega.{arith}
use lib.ListN.{length, take, drop, length-take, length-drop}
use lib.Seq.{take_all}
use Rattle.xml_model.specs.Bytes.{same}
use Rattle.xml_model.specs.Values.{value_if, uid_of}
use Rattle.xml_model.proofs.Runs.{same-lengths, same_slices}
use Rattle.xml_values.proofs.uid_of.Goals as goal

-- a text of less than four bytes has neither prefix
differs : (v y : List ℕ) → length v < 4 → length y ≡ 4 → same (take 4 v) y ≡ false
differs v y h e = same-lengths (take 4 v) y (λ q. omega (arith, length-take 4 v, q, e))

pub returns-then-v-lt4 : goal.returns-then-v-lt4
unfolding uid_of value_if
returns-then-v-lt4 c =
    let v = c.args.v.now in
    rw (
      differs v (99 ∷ 105 ∷ 100 ∷ 58 ∷ []) c.if-v-lt4.true refl,
      differs v (112 ∷ 105 ∷ 100 ∷ 58 ∷ []) c.if-v-lt4.true refl,
    )

pub returns-then-eq : goal.returns-then-eq
unfolding uid_of
returns-then-eq c =
    let v = c.args.v.now in
    rw (
      c.number_in.ensures,
      take_all (length v - 4) (drop 4 v) (omega (arith, length-drop 4 v)),
      ← (c.eq.ensures ∙ same_slices _ _ ∙ ap (same (take 4 v)) c.as_slice.ensures),
      ← (c.eq-2.ensures ∙ same_slices _ _ ∙ ap (same (take 4 v)) c.as_slice-2.ensures),
      c.if-eq.true,
    )

pub returns : goal.returns
unfolding uid_of value_if
returns c =
    let v = c.args.v.now in
    rw (
      ← (c.eq.ensures ∙ same_slices _ _ ∙ ap (same (take 4 v)) c.as_slice.ensures),
      ← (c.eq-2.ensures ∙ same_slices _ _ ∙ ap (same (take 4 v)) c.as_slice-2.ensures),
      c.if-eq.false,
    )
