-- `xml_state::with_flag` meets its contract: a flag that is not set leaves room for it.
use Prim.Native.Nat.{◌/◌, ◌%◌}
use native.Mathlib.Omega.{arith}
use borrow.Author.Tests.{eqb-false}
use Rattle.model.specs.Book.{flagged}
use Rattle.rules.specs.Rules.{flags_of}
use Rattle.xml_state.proofs.with_flag.Goals as goal

pub added-requires : goal.added-requires
unfolding flags_of flagged
added-requires c = let l = c.args.l in λ h. omega (arith, eqb-false (l.flags / 1 % 2) 1 (rw c.flags_of-f.ensures at h))

pub added-requires-in-TimedCount : goal.added-requires-in-TimedCount
unfolding flags_of flagged
added-requires-in-TimedCount c = let l = c.args.l in λ h. omega (arith, eqb-false (l.flags / 2 % 2) 1 (rw c.flags_of-f.ensures at h))

pub added-requires-in-Start : goal.added-requires-in-Start
unfolding flags_of flagged
added-requires-in-Start c = let l = c.args.l in λ h. omega (arith, eqb-false (l.flags / 4 % 2) 1 (rw c.flags_of-f.ensures at h))

pub added-requires-in-End : goal.added-requires-in-End
unfolding flags_of flagged
added-requires-in-End c = let l = c.args.l in λ h. omega (arith, eqb-false (l.flags / 8 % 2) 1 (rw c.flags_of-f.ensures at h))

pub added-requires-in-Interval : goal.added-requires-in-Interval
unfolding flags_of flagged
added-requires-in-Interval c = let l = c.args.l in λ h. omega (arith, eqb-false (l.flags / 16 % 2) 1 (rw c.flags_of-f.ensures at h))

pub added-requires-in_default : goal.added-requires-in_default
unfolding flags_of flagged
added-requires-in_default c = let l = c.args.l in λ h. omega (arith, eqb-false (l.flags / 32 % 2) 1 (rw c.flags_of-f.ensures at h))
