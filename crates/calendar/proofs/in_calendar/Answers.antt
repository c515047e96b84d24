-- `calendar::in_calendar` meets its contract: its tests are the definition's.
use Rattle.xml_model.specs.Calendar.{in_calendar}
use mathlib.Core.Path.{refl}
use Rattle.calendar.proofs.in_calendar.Goals as goal

pub returns : goal.returns
unfolding in_calendar
returns c = refl
