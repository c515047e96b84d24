-- A failed read takes nothing of the input, and leaves what stood before the offset.
use Rattle.std.proofs.Common.{◌≡◌, take}
use Rattle.std.specs.Io.KnownBytes.{Keeps}
use Rattle.stream.proofs.read_more.Given as goal

abbrev pub invariant-loop : goal.invariant-loop
invariant-loop g l = (take l.from l.s ≡ take l.from l.initial.s) × Keeps (g.R.Read.remaining l.initial.input) (g.R.Read.remaining l.input)
