-- `text::put_number` meets its contract. The invariant: the last i digits are written, and `rest` has those before them.
use Rattle.std.proofs.Common.{◌+◌, ◌-◌, ◌≡◌, length, take, drop}
use Rattle.numbers.specs.Buffer.{lay}
use Rattle.model.specs.Run.{decimal_in, decimal}
use Rattle.text.proofs.put_number.Given as goal

abbrev pub invariant-loop-i : goal.invariant-loop-i
invariant-loop-i l =
    (length l.out ≡ length l.initial.out)
    × (decimal_in (l.count - l.i) l.rest ≡ take (l.count - l.i) (decimal l.n))
    × (l.out ≡ lay l.initial.out (l.at + (l.count - l.i)) (drop (l.count - l.i) (decimal l.n)))
