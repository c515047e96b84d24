-- The open uses of an entry, counted by its marks.
use Rattle.std.specs.Prelude.{ℕ, ◌≡◌, List}
use Rattle.numbers.specs.Bits.{ones}
use Rattle.numbers.proofs.BitLaws.{ones-mask}
use Rattle.book.specs.declared.Player.{Player}
use Rattle.model.specs.Book.{player_at, opens, open_uses, marks_of}

-- each player has one use open at most
pub uses-marked : (ps : List Player) (i : ℕ) → ones (marks_of ps i) ≡ open_uses ps i
unfolding marks_of open_uses
uses-marked ps i = ones-mask (λ p. opens i (player_at ps p).current)
