-- `image_meters::open_seconds` meets its contract. The invariant: `seconds` is the sum over the first p players; each adds less than
-- 2^32, so it fits.
use mathlib.Core.Path.{◌≡◌, refl, sym, ap, ap₂, ◌∙◌}
use mathlib.Core.Bool.{Bool, cond}
use mathlib.Core.List.{List}
use Prim.Native.Nat.{ℕ, ◌+◌, ◌*◌, ◌-◌, ◌≤◌}
use native.Mathlib.Omega.{arith}
use Rattle.numbers.proofs.Loops.{sum-turn}
use Rattle.book.specs.declared.Player.{Player}
use Rattle.numbers.specs.Count.{sum}
use Rattle.model.specs.Book.{player_at, opens, lasts, open_seconds}
use borrow.Author.Rules.{rules}
use Rattle.image_meters.proofs.open_seconds.Given as goal

abbrev pub spent : ℕ → List Player → ℕ → ℕ
spent i ps k = cond (opens i (player_at ps k).current) (lasts (player_at ps k).current) 0

abbrev pub invariant-loop-p : goal.invariant-loop-p
invariant-loop-p l = (l.seconds ≤ 4294967295 * l.p) × (l.seconds ≡ sum (spent l.i l.players) l.p)
