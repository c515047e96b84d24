-- Writing bytes into a buffer.
use Rattle.std.specs.Prelude.{ℕ, ◌+◌, List, ◌++◌, length, take, drop}

-- l overwritten with s from an index
unfoldable pub lay : List ℕ → ℕ → List ℕ → List ℕ
lay l at s = take at l ++ s ++ drop (at + length s) l
