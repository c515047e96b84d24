-- What putting the line of an answer into a buffer leaves: nothing happens if fewer than 19 bytes are left, the length of the longest line.
use Rattle.std.specs.Prelude.{ℕ, ◌+◌, ◌≤◌, ◌≡◌, cond, List, [], ◌∷◌, ◌++◌, length, leb}
use Rattle.numbers.specs.Buffer.{lay}
use Rattle.book.specs.declared.Answer.{Answer}
use Rattle.model.specs.Run.{decimal, line}

-- the end offset of the line
unfoldable pub line_end : Answer → ℕ → ℕ → ℕ
line_end a at room = cond (leb (at + 19) room) (at + length (line a)) at

-- the buffer with the line in it
unfoldable pub line_buffer : Answer → ℕ → List ℕ → List ℕ
line_buffer a at old = cond (leb (at + 19) (length old)) (lay old at (line a)) old

-- both: the end offset, at most 19 further, and the buffer
abbrev pub Put : Answer → ℕ → List ℕ → ℕ → List ℕ → Type 0
Put a at old end out = (end ≡ line_end a at (length old)) × (out ≡ line_buffer a at old) × (end ≤ at + 19)

-- what follows the code in the line of a refusal: entry 255 and until 0
unfoldable pub refused_end : List ℕ
refused_end = (32 ∷ []) ++ decimal 255 ++ (32 ∷ []) ++ decimal 0 ++ (10 ∷ [])
