-- Counting up to a number: definitions only.
use Rattle.std.specs.Prelude.{ℕ, zero, suc, ◌+◌, Bool, true, false, cond, ◌&&◌, List, [], ◌∷◌, ◌++◌, ltb}

-- f holds of each number below n
unfoldable pub all : (ℕ → Bool) → ℕ → Bool
all f zero = true
all f (suc n) = all f n && f n

-- the first number below n of which f holds; n if there is none
unfoldable pub first : (ℕ → Bool) → ℕ → ℕ
first f zero = 0
first f (suc n) = cond (ltb (first f n) n) (first f n) (cond (f n) n (suc n))

-- f 0 + f 1 + .. + f (n - 1)
unfoldable pub sum : (ℕ → ℕ) → ℕ → ℕ
sum f zero = 0
sum f (suc n) = sum f n + f n

-- f 0, f 1, .. f (n - 1), concatenated
unfoldable pub joined : (ℕ → List ℕ) → ℕ → List ℕ
joined f zero = []
joined f (suc n) = joined f n ++ f n

-- f 0, f 1, .. f (n - 1), as a list
unfoldable pub listed : {A : Type 0} → (ℕ → A) → ℕ → List A
listed f zero = []
listed f (suc n) = listed f n ++ (f n ∷ [])

-- 1 if the test passes, 0 if it fails
abbrev pub one : Bool → ℕ
one true = 1
one false = 0

-- how many tests of a list pass
abbrev pub how_many : List Bool → ℕ
how_many [] = 0
how_many (b ∷ bs) = one b + how_many bs
