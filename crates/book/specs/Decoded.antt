-- What the bytes of an event record decode to: an event, or the code that refuses them.
use Rattle.std.specs.Prelude.{ℕ}
use Rattle.book.specs.declared.Event.{Event}

pub data Decoded : Type 0 where
  Invalid : ℕ → Decoded
  Valid : Event → Decoded
