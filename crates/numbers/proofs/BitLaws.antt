-- Laws of `Bits`. Those of one bit go by the lowest: m is m % 2 and twice m / 2.
use Prim.Native.Nat.{ℕ, zero, suc, ◌+◌, ◌*◌, ◌-◌, ◌/◌, ◌%◌, ◌^◌, ◌<◌, ◌≤◌}
use mathlib.Core.Path.{◌≡◌, refl, sym, ap, ap₂, subst, ◌∙◌}
use mathlib.Core.Bool.{Bool, true, false, cond}
use native.Mathlib.Omega.{arith}
use native.Mathlib.Numerals.{add-one}
use native.Mathlib.Nat.{pow-suc, pow-succ', div-div-eq-div-mul, div-eq_of_lt, div-one, mul_assoc}
use lib.Dec.{eqb}
use lib.Pow.{pow_mono}
use borrow.Author.Tests.{eqb-true, eqb-false, eq-eqb, ne_eqb}
use Rattle.numbers.specs.Count.{sum, one}
use Rattle.numbers.specs.Bits.{bit, ones, mask_of, put_bit}
use Rattle.numbers.proofs.Loops.{sum_same, sum-most, sum-change}
use Rattle.numbers.proofs.TableLaws.{below_or_not}
use Rattle.numbers.proofs.Tests.{on_test, on_same, clash, cond-off}

-- ## One bit

pub bit-zero : (m : ℕ) → bit 0 m ≡ eqb (m % 2) 1
unfolding bit
bit-zero m = ap (λ (n : ℕ). eqb (n % 2) 1) (div-one m)

pub bit-suc : (p m : ℕ) → bit (suc p) m ≡ bit p (m / 2)
unfolding bit
bit-suc p m = ap (λ (n : ℕ). eqb (n % 2) 1) (ap (λ (k : ℕ). m / k) (pow-succ' 2 p) ∙ sym (div-div-eq-div-mul m 2 (2 ^ p)))

-- the bit as a number
pub bit-number : (p m : ℕ) → m / 2 ^ p % 2 ≡ one (bit p m)
unfolding bit
bit-number p m = on_test (eqb (m / 2 ^ p % 2) 1)
    (λ e. rw e (eqb-true (m / 2 ^ p % 2) 1 e))
    (λ e. let n : m / 2 ^ p % 2 ≡ 1 → ⊥ = eqb-false (m / 2 ^ p % 2) 1 e in rw e (omega (arith, n)))

even-bit : (r : ℕ) (v : Bool) → eqb ((one v + 2 * r) % 2) 1 ≡ v
even-bit r true = let e : (1 + 2 * r) % 2 ≡ 1 = omega arith in rw e
even-bit r false = let e : (0 + 2 * r) % 2 ≡ 0 = omega arith in rw e

half : (r : ℕ) (v : Bool) → (one v + 2 * r) / 2 ≡ r
half r true = omega arith
half r false = omega arith

low-number : (m : ℕ) → m % 2 ≡ one (bit 0 m)
low-number m = ap (λ (n : ℕ). n % 2) (sym (div-one m)) ∙ bit-number 0 m

-- a number by its lowest bit
low : (m : ℕ) → m ≡ one (bit 0 m) + 2 * (m / 2)
low m = let e = low-number m in omega (arith, e)

low_bit : (r : ℕ) (v : Bool) → bit 0 (one v + 2 * r) ≡ v
low_bit r v = bit-zero (one v + 2 * r) ∙ even-bit r v

high_bit : (p r : ℕ) (v : Bool) → bit (suc p) (one v + 2 * r) ≡ bit p r
high_bit p r v = bit-suc p (one v + 2 * r) ∙ ap (bit p) (half r v)

pub one-le : (v : Bool) → one v ≤ 1
one-le true = omega arith
one-le false = omega arith

pub cond-most : (b : Bool) (w : ℕ) → cond b w 0 ≤ w
cond-most true w = omega arith
cond-most false w = omega arith

-- ## The number with given bits

mask-front : (f : ℕ → Bool) (n : ℕ) → mask_of f (suc n) ≡ one (f 0) + 2 * mask_of (λ p. f (suc p)) n
unfolding mask_of sum
mask-front f zero = first (f 0)
  where
    first : (b : Bool) → 0 + cond b 1 0 ≡ one b + 0
    first true = refl
    first false = refl
mask-front f (suc n) =
    let s = mask-front f n in
    let w : cond (f (suc n)) (2 ^ suc n) 0 ≡ 2 * cond (f (suc n)) (2 ^ n) 0 = twice (f (suc n)) in
    omega (arith, s, w)
  where
    twice : (b : Bool) → cond b (2 ^ suc n) 0 ≡ 2 * cond b (2 ^ n) 0
    twice true = omega (arith, pow-suc 2 n)
    twice false = refl

pub mask_fits : (f : ℕ → Bool) (n : ℕ) → mask_of f n < 2 ^ n
unfolding mask_of sum
mask_fits f zero = omega arith
mask_fits f (suc n) =
    let s = mask_fits f n in
    let w = pow-suc 2 n in
    let t : cond (f n) (2 ^ n) 0 ≤ 2 ^ n = cond-most (f n) (2 ^ n) in
    omega (arith, s, w, t)

pub mask-same : (f g : ℕ → Bool) (n : ℕ) → ((p : ℕ) → p < n → f p ≡ g p) → mask_of f n ≡ mask_of g n
unfolding mask_of
mask-same f g n h = sum_same _ _ n (λ p l. ap (λ (b : Bool). cond b (2 ^ p) 0) (h p l))

-- it has those bits
pub mask-bit : (f : ℕ → Bool) (n p : ℕ) → p < n → bit p (mask_of f n) ≡ f p
mask-bit f zero p h = absurd (omega arith)
mask-bit f (suc n) zero h = ap (bit 0) (mask-front f n) ∙ low_bit (mask_of (λ p. f (suc p)) n) (f 0)
mask-bit f (suc n) (suc p) h =
    ap (bit (suc p)) (mask-front f n)
    ∙ high_bit p (mask_of (λ p. f (suc p)) n) (f 0)
    ∙ mask-bit (λ p. f (suc p)) n p (omega arith)

-- no number is in the empty set
pub mask-none : (f : ℕ → Bool) (n : ℕ) → ((p : ℕ) → p < n → f p ≡ false) → mask_of f n ≡ 0
unfolding mask_of sum
mask-none f zero h = refl
mask-none f (suc n) h = rw (h n (omega arith)) (omega (arith, mask-none f n (λ p l. h p (omega arith))))

-- the set that differs at p alone
pub mask-put : (f g : ℕ → Bool) (p : ℕ) → ((q : ℕ) → (q ≡ p → ⊥) → g q ≡ f q) → put_bit p (g p) (mask_of f 16) ≡ mask_of g 16
unfolding put_bit
mask-put f g p h =
    mask-same _ _ 16 (λ q l. on_same q p
    (λ e. rw (eq-eqb q p e) (ap g (sym e)))
    (λ d. rw (ne_eqb q p d) (mask-bit f 16 q l ∙ sym (h q d))))

-- how many are in the set
pub ones-mask : (f : ℕ → Bool) → ones (mask_of f 16) ≡ sum (λ p. one (f p)) 16
unfolding ones
ones-mask f = sum_same _ _ 16 (λ p h. ap one (mask-bit f 16 p h))

pub ones-zero : ones 0 ≡ 0
unfolding ones sum bit
ones-zero = refl

-- a bit taken away leaves no more of them, and one put there at most one more
pub ones-off : (p m : ℕ) → ones (put_bit p false m) ≤ ones m
unfolding put_bit ones
ones-off p m =
    rw (ones-mask (λ q. cond (eqb q p) false (bit q m)))
    (sum-most _ _ 16 (λ q l. on_test (eqb q p) (λ e. rw e (omega arith)) (λ e. rw e (omega arith))))

pub ones-on : (p m : ℕ) → ones (put_bit p true m) ≤ ones m + 1
unfolding put_bit ones
ones-on p m =
    rw (ones-mask (λ q. cond (eqb q p) true (bit q m)))
    (below_or_not p 16
    (λ h.
    let s =
    sum-change (λ q. one (bit q m)) (λ q. one (cond (eqb q p) true (bit q m))) p 16
    (λ q d. rw (ne_eqb q p d)) h in
    let t = one-le (cond (eqb p p) true (bit p m)) in
    omega (arith, s, t))
    (λ h.
    let s =
    sum-most (λ q. one (cond (eqb q p) true (bit q m))) (λ q. one (bit q m)) 16
    (λ q l. rw (ne_eqb q p (λ z. absurd (omega (arith, z)))) (omega arith)) in
    omega (arith, s)))

-- ## What the functions cite

-- the weight of a bit fits 32 bits
pub weight-most : (p : ℕ) → p < 16 → 2 ^ p ≤ 32768
weight-most p h = let q : p ≤ 15 = omega arith in pow_mono q

pub weight-exact : (p : ℕ) → p < 16 → (1 * 2 ^ p) % 4294967296 ≡ 2 ^ p
weight-exact p h = let w = weight-most p h in omega (arith, w)

-- m with bit p as told, all other bits as they are: by a difference and a sum
abbrev pub spliced : ℕ → Bool → ℕ → ℕ
spliced p v m = m - cond (bit p m) (2 ^ p) 0 + cond v (2 ^ p) 0

-- a bit that is set weighs no more than the number
pub bit-weighs : (p m : ℕ) → cond (bit p m) (2 ^ p) 0 ≤ m
unfolding bit
bit-weighs p m = on_test (eqb (m / 2 ^ p % 2) 1)
    (λ e. rw e (weighs (eqb-true (m / 2 ^ p % 2) 1 e)))
    (λ e. rw e (omega arith))
  where
    weighs : m / 2 ^ p % 2 ≡ 1 → 2 ^ p ≤ m
    weighs e = below_or_not m (2 ^ p) (λ h. let z : m / 2 ^ p ≡ 0 = div-eq_of_lt h in absurd (omega (arith, z, e))) (λ h. h)

put-number : (b v : Bool) (m r h w W : ℕ) → m ≡ r + 2 * h → W ≡ w * 2 → cond b w 0 ≤ h
    → m - cond b W 0 + cond v W 0 ≡ r + 2 * (h - cond b w 0 + cond v w 0)
put-number true true m r h w W e d q = omega arith
put-number true false m r h w W e d q = omega arith
put-number false true m r h w W e d q = omega arith
put-number false false m r h w W e d q = omega arith

put-suc : (p m : ℕ) (v : Bool) → spliced (suc p) v m ≡ one (bit 0 m) + 2 * spliced p v (m / 2)
put-suc p m v =
    rw (bit-suc p m)
    (put-number (bit p (m / 2)) v m (one (bit 0 m)) (m / 2) (2 ^ p) (2 ^ suc p) (low m) (pow-suc 2 p) (bit-weighs p (m / 2)))

put_low : (b v : Bool) (m h : ℕ) → m ≡ one b + 2 * h → m - cond b 1 0 + cond v 1 0 ≡ one v + 2 * h
put_low true true m h e = omega arith
put_low true false m h e = omega arith
put_low false true m h e = omega arith
put_low false false m h e = omega arith

put-zero : (m : ℕ) (v : Bool) → spliced 0 v m ≡ one v + 2 * (m / 2)
put-zero m v = put_low (bit 0 m) v m (m / 2) (low m)

put_same : (p m : ℕ) (v : Bool) → bit p (spliced p v m) ≡ v
put_same zero m v = ap (bit 0) (put-zero m v) ∙ low_bit (m / 2) v
put_same (suc p) m v =
    ap (bit (suc p)) (put-suc p m v) ∙ high_bit p (spliced p v (m / 2)) (bit 0 m) ∙ put_same p (m / 2) v

put_other : (p q m : ℕ) (v : Bool) → (q ≡ p → ⊥) → bit q (spliced p v m) ≡ bit q m
put_other zero zero m v n = absurd (n refl)
put_other zero (suc q) m v n = ap (bit (suc q)) (put-zero m v) ∙ high_bit q (m / 2) v ∙ sym (bit-suc q m)
put_other (suc p) zero m v n = ap (bit 0) (put-suc p m v) ∙ low_bit (spliced p v (m / 2)) (bit 0 m)
put_other (suc p) (suc q) m v n =
    ap (bit (suc q)) (put-suc p m v)
    ∙ high_bit q (spliced p v (m / 2)) (bit 0 m)
    ∙ put_other p q (m / 2) v (λ e. n (ap suc e))
    ∙ sym (bit-suc q m)

pub put-fits : (n p m : ℕ) (v : Bool) → p < n → m < 2 ^ n → spliced p v m < 2 ^ n
put-fits zero p m v h f = absurd (omega arith)
put-fits (suc n) zero m v h f =
    let w = pow-suc 2 n in
    let l : one v ≤ 1 = one-le v in
    rw (put-zero m v) (omega (arith, w, l, f))
put-fits (suc n) (suc p) m v h f =
    let w = pow-suc 2 n in
    let l : one (bit 0 m) ≤ 1 = one-le (bit 0 m) in
    let k : m / 2 < 2 ^ n = omega (arith, w, f) in
    let r = put-fits n p (m / 2) v (omega arith) k in
    rw (put-suc p m v) (omega (arith, w, l, r))

-- a number is that of its bits
mask-back : (n m : ℕ) → m < 2 ^ n → mask_of (λ p. bit p m) n ≡ m
unfolding mask_of sum
mask-back zero m h = omega arith
mask-back (suc n) m h =
    let w = pow-suc 2 n in
    let k : m / 2 < 2 ^ n = omega (arith, w, h) in
    let e = mask-front (λ p. bit p m) n in
    let s = mask-same (λ p. bit (suc p) m) (λ p. bit p (m / 2)) n (λ p l. bit-suc p m) ∙ mask-back n (m / 2) k in
    let l = low m in
    e ∙ ap (λ (r : ℕ). one (bit 0 m) + 2 * r) s ∙ sym l

-- a bit that was clear, set and cleared again
pub put_back : (p m : ℕ) → m < 65536 → bit p m ≡ false → put_bit p false (put_bit p true m) ≡ m
unfolding put_bit
put_back p m h e =
    subst (λ (v : Bool). put_bit p v (put_bit p true m) ≡ m) e
    (mask-put (λ q. cond (eqb q p) true (bit q m)) (λ q. bit q m) p (λ q n. sym (cond-off (eqb q p) true (bit q m) (ne_eqb q p n)))
    ∙ mask-back 16 m h)

-- a multiple of 2 ^ n more leaves the lower bits
low_bits : (n p m a r : ℕ) → p < n → m ≡ r + 2 ^ n * a → bit p m ≡ bit p r
low_bits zero p m a r h e = absurd (omega arith)
low_bits (suc n) zero m a r h e =
    let w = ap (λ (k : ℕ). k * a) (pow-succ' 2 n) ∙ mul_assoc 2 (2 ^ n) a in
    let z : m % 2 ≡ r % 2 = omega (arith, w, e) in
    bit-zero m ∙ ap (λ (k : ℕ). eqb k 1) z ∙ sym (bit-zero r)
low_bits (suc n) (suc p) m a r h e =
    let w = ap (λ (k : ℕ). k * a) (pow-succ' 2 n) ∙ mul_assoc 2 (2 ^ n) a in
    let z : m / 2 ≡ r / 2 + 2 ^ n * a = omega (arith, w, e) in
    bit-suc p m ∙ low_bits n p (m / 2) a (r / 2) (omega arith) z ∙ sym (bit-suc p r)

low-sixteen : (q m : ℕ) → q < 16 → bit q m ≡ bit q (m % 65536)
low-sixteen q m h = low_bits 16 q m (m / 65536) (m % 65536) h (omega arith)

-- the 16 bits of m as they are
pub put-none : (p m : ℕ) (v : Bool) → 16 ≤ p → put_bit p v m ≡ m % 65536
unfolding put_bit
put-none p m v h =
    mask-same _ (λ q. bit q (m % 65536)) 16 (λ q l. rw (ne_eqb q p (λ z. absurd (omega (arith, z)))) (low-sixteen q m l))
    ∙ mask-back 16 (m % 65536) (omega arith)

pub put_is : (p m : ℕ) (v : Bool) → p < 16 → put_bit p v m ≡ spliced p v (m % 65536)
unfolding put_bit
put_is p m v h =
    let k = spliced p v (m % 65536) in
    mask-same _ (λ q. bit q k) 16 (λ q l. on_same q p
    (λ e. rw (eq-eqb q p e, e) (sym (put_same p (m % 65536) v)))
    (λ d. rw (ne_eqb q p d) (low-sixteen q m l ∙ sym (put_other p q (m % 65536) v d))))
    ∙ mask-back 16 k (put-fits 16 p (m % 65536) v h (omega arith))
