use native.Mathlib.Numerals.{add-one}
use Rattle.xml_model.specs.State.{filled}
use Rattle.xml_entries.proofs.with_entries.Goals as goal

pub loop-i-preserved : goal.loop-i-preserved
unfolding filled
loop-i-preserved c = rw (add-one, c.loop-i.invariant, c.limits_for.ensures, c.blank_entry.ensures)
