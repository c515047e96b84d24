-- `metering::record_request` meets its contract: a return for each request, granted or not.
use mathlib.Core.Path.{◌∙◌}
use borrow.Author.Tests.{eq-eqb, ne_eqb}
use Rattle.model.specs.Report.{ended_by}
use Rattle.metering.specs.Recording.{all_one, all_none}
use Rattle.metering.proofs.record_request.Goals as goal

pub returns-then-a-momentary : goal.returns-then-a-momentary
unfolding ended_by
returns-then-a-momentary c =
    let a = c.args in
    rw (
      c.in-Begin.is,
      ← c.from.ensures,
      ← c.momentary.ensures,
      c.if-a-momentary.true,
    )
    (c.record_end.ensures ∙ all_one a.b a.lines _)

pub returns-else-a-momentary : goal.returns-else-a-momentary
unfolding ended_by
returns-else-a-momentary c =
    let a = c.args in
    rw (
      c.in-Begin.is,
      ← c.from.ensures,
      ← c.momentary.ensures,
      c.if-a-momentary.false,
    ) (all_none a.b a.lines)

pub returns-in-Continue : goal.returns-in-Continue
unfolding ended_by
returns-in-Continue c = let a = c.args in rw c.in-Continue.is (all_none a.b a.lines)

pub returns-then-a-eq0 : goal.returns-then-a-eq0
unfolding ended_by
returns-then-a-eq0 c =
    let a = c.args in
    rw (
      c.in-Stop.is,
      eq-eqb _ _
          c.if-a-eq0.true,
      ← c.saturating_sub.ensures,
    )
    (c.record_end-then-a-eq0.ensures ∙ all_one a.b a.lines _)

pub returns-else-a-eq0 : goal.returns-else-a-eq0
unfolding ended_by
returns-else-a-eq0 c = let a = c.args in rw (c.in-Stop.is, ne_eqb _ _ c.if-a-eq0.false)
    (all_none a.b a.lines)

pub returns-in-Cancel : goal.returns-in-Cancel
unfolding ended_by
returns-in-Cancel c = let a = c.args in rw c.in-Cancel.is (all_none a.b a.lines)
