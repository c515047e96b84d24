-- The numbers of refusals.
use Rattle.std.specs.Prelude.{◌≡◌}
use Rattle.std.proofs.Common.{arith}
use Rattle.book.specs.declared.EventError.{EventError}
use Rattle.book.specs.Codes.{event_code}

-- no refusal has the number of a grant
pub never-granted : (e : EventError) → event_code e ≡ 0 → ⊥
never-granted EventError.Request h = omega arith
never-granted EventError.Player h = omega arith
never-granted EventError.OutOfLine h = omega arith
never-granted EventError.OtherRequest h = omega arith
never-granted EventError.Time h = omega arith
never-granted EventError.Length h = omega arith
never-granted EventError.Unusable h = omega arith
never-granted EventError.AlreadyOpen h = omega arith
never-granted EventError.Unsuitable h = omega arith
never-granted EventError.Spent h = omega arith
never-granted EventError.NotOpen h = omega arith
never-granted EventError.NoMore h = omega arith
never-granted EventError.Lines h = omega arith
never-granted EventError.SwitchOff h = omega arith
never-granted EventError.TooLate h = omega arith
