-- `calendar::leap` meets its contract: its tests are the definition's.
use Rattle.xml_model.specs.Calendar.{leap}
use mathlib.Core.Path.{refl}
use Rattle.calendar.proofs.leap.Goals as goal

pub returns : goal.returns
unfolding leap
returns c = refl
