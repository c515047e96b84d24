-- `rules::marks_of` meets its contract. The invariant: `marks` has the marks of the first p players, `weight` is that of the next.
use mathlib.Core.Path.{◌≡◌, refl, sym, ap, ap₂, ◌∙◌}
use mathlib.Core.Bool.{Bool, cond}
use mathlib.Core.List.{List}
use Prim.Native.Nat.{ℕ, ◌+◌, ◌*◌, ◌-◌, ◌^◌, ◌≤◌}
use native.Mathlib.Omega.{arith}
use native.Mathlib.Numerals.{add-one}
use native.Mathlib.Nat.{pow-suc}
use borrow.Author.Rules.{rules}
use Rattle.numbers.specs.Count.{sum}
use Rattle.numbers.specs.Bits.{mask_of}
use Rattle.numbers.proofs.Loops.{sum-turn}
use Rattle.numbers.proofs.BitLaws.{mask_fits, cond-most, weight-most}
use Rattle.book.specs.declared.Player.{Player}
use Rattle.model.specs.Book.{player_at, opens, marks_of}
use Rattle.rules.proofs.marks_of.Given as goal

abbrev pub opened : ℕ → List Player → ℕ → Bool
opened i ps k = opens i (player_at ps k).current

abbrev pub invariant-loop-p : goal.invariant-loop-p
invariant-loop-p l = (l.p ≤ 16) × (l.weight ≡ 2 ^ l.p) × (l.marks ≡ mask_of (opened l.i l.players) l.p)
