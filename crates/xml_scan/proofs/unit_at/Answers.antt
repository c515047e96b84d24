use Rattle.std.specs.Prelude.{◌≡◌, Bool, true, false, ◌||◌, not}
use Rattle.std.proofs.Math.Path.{refl}
use mathlib.Core.Path.{sym, ◌∙◌}
use native.Mathlib.Omega.{arith}
use borrow.Author.Tests.{eqb-true}
use Rattle.xml_model.proofs.Runs.{inside}
use Rattle.xml_scan.proofs.unit_at.Goals as goal

-- what passes both tests starts with a `<`
taken : (b m : Bool) → (not b || m) ≡ false → b ≡ true
taken true m e = refl
taken false m e = absurd cc

pub tag_at-requires : goal.tag_at-requires
tag_at-requires c =
    let b = eqb-true _ _ (taken _ _ c.if-byte_at-is_mark.false) in
    inside c.args.s.now c.run_end-at.result 60 (omega arith) (sym c.byte_at.ensures ∙ b)
