-- A set of the numbers 0 to 15 as one number: bit p is set if p is in the set. Definitions only.
use Rattle.std.specs.Prelude.{ℕ, ◌/◌, ◌%◌, ◌^◌, Bool, cond, eqb}
use Rattle.numbers.specs.Count.{sum, one}

-- whether bit p is set
unfoldable pub bit : ℕ → ℕ → Bool
bit p m = eqb (m / 2 ^ p % 2) 1

-- how many of the 16 bits are set
unfoldable pub ones : ℕ → ℕ
ones m = sum (λ p. one (bit p m)) 16

-- the number whose bits below n are those of which f holds
unfoldable pub mask_of : (ℕ → Bool) → ℕ → ℕ
mask_of f n = sum (λ p. cond (f p) (2 ^ p) 0) n

-- the 16 bits of m, with bit p as told
unfoldable pub put_bit : ℕ → Bool → ℕ → ℕ
put_bit p v m = mask_of (λ q. cond (eqb q p) v (bit q m)) 16
