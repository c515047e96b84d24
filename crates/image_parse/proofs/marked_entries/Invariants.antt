-- `image_parse::marked_entries` meets its contract. After i turns the first i entries have their marks.
use mathlib.Core.Path.{◌≡◌}
use Prim.Native.Nat.{◌-◌, ◌≤◌}
use Rattle.model.specs.Image.{marked_entries}
use Rattle.image_parse.proofs.marked_entries.Given as goal

abbrev pub invariant-loop-i : goal.invariant-loop-i
invariant-loop-i l = (l.i ≤ l.n) × (l.table ≡ marked_entries l.players l.entries l.i)
