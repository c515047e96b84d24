-- `metering::raised_for` meets its contract.
use mathlib.Core.Path.{◌∙◌}
use Rattle.report.specs.Report.{raised_is}
use Rattle.metering.proofs.raised_for.Goals as goal

pub returns : goal.returns
returns c = let a = c.args in c.raise_one.ensures ∙ raised_is a.l a.seconds a.y
