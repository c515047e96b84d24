-- A loop as a definition: a step is repeated until it stops. `size` falls with every turn, which makes the loop total.
use Rattle.std.specs.Prelude.{ℕ, zero, suc}

-- what one turn gives: a result, or what the next turn starts from
pub data Next (A R : Type 0) : Type 0 where
  stop : R → Next A R
  more : A → Next A R

-- the result, or what comes of the next turn
abbrev pub onward : {A R : Type 0} → (A → R) → Next A R → R
onward go (stop r) = r
onward go (more a) = go a

-- at most n turns; `none` if they are not enough
unfoldable pub turns : {A R : Type 0} → (A → Next A R) → R → ℕ → A → R
turns f none zero a = none
turns f none (suc n) a = onward (λ b. turns f none n b) (f a)

-- Where size falls with every turn that goes on, `none` is never reached (`repeat-more` in `proofs/Repeats`).
unfoldable pub repeat : {A R : Type 0} → (A → ℕ) → (A → Next A R) → R → A → R
repeat size f none a = turns f none (suc (size a)) a
