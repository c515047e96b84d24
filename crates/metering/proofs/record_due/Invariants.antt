-- What the first i players' uses that are due record is in the lines.
use Rattle.std.proofs.Common.{◌≡◌, take}
use Rattle.model.specs.Report.{recorded_all, overdue}
use Rattle.metering.proofs.record_due.Given as goal

abbrev pub invariant-loop-i : goal.invariant-loop-i
invariant-loop-i l = l.after ≡ recorded_all l.fn.b l.initial.after (overdue l.t (take l.i l.fn.b.players))
