-- Laws of decimal digits: how many a number has, one or two digits fewer, and digits written into a buffer, one by one from last to
-- first, or two at a time.
use Rattle.std.specs.Prelude.{ℕ, zero, suc, ◌+◌, ◌*◌, ◌/◌, ◌%◌, ◌<◌, ◌≤◌, ◌^◌, ◌≡◌, refl, true, ◌&&◌, ◌⊎◌, List, [], ◌∷◌, ◌++◌, length, get_or, set, take, drop, eqb}
use Rattle.std.proofs.Common.{zero-le, suc-le-suc, sym, ap, ap₂, ◌∙◌, inl, inr, ⊎_elim, append_assoc, append-nil, add-one, arith, length-append, length-take, length-drop, length-take-le, drop-cons, drop-drop, take-suc, lt-ltb, le-ltb, eqb-true}
use Rattle.std.proofs.Math.Nat.{pow-succ', one-le-pow}
use Rattle.std.proofs.lemmas.List.{set_at, set_split}
use Rattle.std.proofs.Math.Seq.{append_snoc, take-length, drop-length}
use Rattle.model.proofs.Ledger.Facts.{and_left, and_right}
use borrow.Rule.Slice.PartMut.{put_mid}
use Rattle.numbers.specs.Buffer.{lay}
use Rattle.numbers.proofs.BufferLaws.{lay-nil, lay-lay}
use Rattle.book.specs.declared.Answer.{Answer}
use Rattle.model.specs.Run.{decimal_in, decimal, line}
use Rattle.text.specs.Lines.{refused_end}

pub below : (a b : ℕ) → (a < b) ⊎ (b ≤ a)
below a zero = inr zero-le
below zero (suc b) = inl (suc-le-suc zero-le)
below (suc a) (suc b) = ⊎_elim (λ p. inl (suc-le-suc p)) (λ q. inr (suc-le-suc q)) (below a b)

-- a number of one digit
digit-one : (k n : ℕ) → n < 10 → decimal_in (suc k) n ≡ (48 + n) ∷ []
unfolding decimal_in
digit-one k n h = rw (lt-ltb n 10 h)

-- the last digit, and those before it
digit-more : (k n : ℕ) → 10 ≤ n → decimal_in (suc k) n ≡ decimal_in k (n / 10) ++ ((48 + n % 10) ∷ [])
unfolding decimal_in
digit-more k n h = rw (le-ltb n 10 h)

tenth : (p n : ℕ) → n < 10 ^ suc (suc p) → n / 10 < 10 ^ suc p
tenth p n h = omega (arith, pow-succ' 10 (suc p))

-- a number below 10 to the p + 1 has at most p + 1 digits, however much room there is in front
pub digits-fit : (p k n : ℕ) → n < 10 ^ suc p → p ≤ k → decimal_in (suc p) n ≡ decimal_in (suc k) n
digits-fit zero k n h le = digit-one zero n h ∙ sym (digit-one k n h)
digits-fit (suc p) zero n h le = absurd (omega arith)
digits-fit (suc p) (suc k) n h le =
    ⊎_elim
    (λ one. digit-one (suc p) n one ∙ sym (digit-one (suc k) n one))
    (λ more.
    digit-more (suc p) n more
    ∙ ap (λ (s : List ℕ). s ++ ((48 + n % 10) ∷ [])) (digits-fit p k (n / 10) (tenth p n h) (omega arith))
    ∙ sym (digit-more (suc k) n more))
    (below n 10)

-- and exactly p + 1 where it is at least 10 to the p
pub digits_are : (p n : ℕ) → 10 ^ p ≤ n → n < 10 ^ suc p → length (decimal_in (suc p) n) ≡ suc p
digits_are zero n le h = ap length (digit-one zero n h)
digits_are (suc p) n le h =
    let e : 10 ^ suc p ≡ 10 * 10 ^ p = pow-succ' 10 p in
    let pos : 10 ≤ n = omega (arith, one-le-pow p 10 (omega arith)) in
    rw (digit-more (suc p) n pos, length-append, digits_are p (n / 10) (omega arith) (tenth p n h)) (omega arith)

snoc-same : (xs ys : List ℕ) (a b : ℕ) → xs ++ (a ∷ []) ≡ ys ++ (b ∷ []) → (xs ≡ ys) × (a ≡ b)
snoc-same [] [] a b e = (refl, cc)
snoc-same [] (y ∷ []) a b e = let z : ◌≡◌ {A = List ℕ} [] (b ∷ []) = cc in let w : ◌≡◌ {A = ℕ} 0 1 = cc in absurd (omega arith)
snoc-same [] (y ∷ (z ∷ ys)) a b e = let w : ◌≡◌ {A = ℕ} 0 1 = cc in absurd (omega arith)
snoc-same (x ∷ []) [] a b e = let w : ◌≡◌ {A = ℕ} 0 1 = cc in absurd (omega arith)
snoc-same (x ∷ (z ∷ xs)) [] a b e = let w : ◌≡◌ {A = ℕ} 0 1 = cc in absurd (omega arith)
snoc-same (x ∷ xs) (y ∷ ys) a b e =
    let t : xs ++ (a ∷ []) ≡ ys ++ (b ∷ []) = cc in
    let h : x ≡ y = cc in
    let r = snoc-same xs ys a b t in
    let l : xs ≡ ys = r.0 in
    (cc, r.1)

-- when only the last digit is left
last-digit : (j x : ℕ) (d : List ℕ) → j < length d → x < 10 → ([] ≡ take j d) × (48 + x ≡ get_or d j 0) →
    (decimal_in j (x / 10) ≡ take j d) × (48 + x % 10 ≡ get_or d j 0)
unfolding decimal_in
last-digit zero x d h one p = (p.0, ap (λ (v : ℕ). 48 + v) (omega arith) ∙ p.1)
last-digit (suc k) x d h one p =
    let le : suc k ≤ length d = omega arith in
    let z : 0 ≡ suc k = ap length p.0 ∙ length-take-le (suc k) d le in absurd (omega arith)

-- one digit fewer: the turn of a loop that takes the last of the j + 1 digits left of the list d
pub digits-turn : (j x : ℕ) (d : List ℕ) → j < length d → decimal_in (suc j) x ≡ take (suc j) d → (decimal_in j (x / 10) ≡ take j d) ×
    (48 + x % 10 ≡ get_or d j 0)
digits-turn j x d h e =
    let s : take (suc j) d ≡ take j d ++ (get_or d j 0 ∷ []) = take-suc d j 0 h in
    ⊎_elim (λ one. last-digit j x d h one (snoc-same [] (take j d) (48 + x) (get_or d j 0) (sym (digit-one j x one) ∙ e ∙ s)))
    (λ more. snoc-same (decimal_in j (x / 10)) (take j d) (48 + x % 10) (get_or d j 0) (sym (digit-more j x more) ∙ e ∙ s)) (below x 10)

-- a byte in front of bytes already written
pub lay-before : (l : List ℕ) (at : ℕ) (s : List ℕ) (v : ℕ) → at + 1 + length s ≤ length l → set (lay l (at + 1) s) at v ≡ lay l at (v ∷ s)
unfolding lay
lay-before l at s v h =
    let r : at < length l = omega arith in
    let le : at ≤ length l = omega arith in
    let e : at + 1 + length s ≡ at + length (v ∷ s) = omega arith in
    rw (e, add-one, take-suc l at 0 r)
    (simp append_assoc (set_at (take at l) (get_or l at 0) (s ++ drop (at + length (v ∷ s)) l) v at (length-take-le at l le)))

-- room for exactly a number's digits is enough
in-length : (k n : ℕ) → n < 10 ^ suc k → decimal_in (length (decimal_in (suc k) n)) n ≡ decimal_in (suc k) n
in-length zero n h = ap (λ (s : List ℕ). decimal_in (length s) n) (digit-one zero n h)
in-length (suc k) n h =
    ⊎_elim
    (λ one. ap (λ (s : List ℕ). decimal_in (length s) n) (digit-one (suc k) n one) ∙ digit-one zero n one ∙ sym (digit-one (suc k) n one))
    (λ more.
    let m : length (decimal_in (suc (suc k)) n) ≡ suc (length (decimal_in (suc k) (n / 10))) =
    ap length (digit-more (suc k) n more) ∙ length-append (decimal_in (suc k) (n / 10)) ((48 + n % 10) ∷ []) ∙ add-one
    (length (decimal_in (suc k) (n / 10))) in
    ap (λ (l : ℕ). decimal_in l n) m
    ∙ digit-more (length (decimal_in (suc k) (n / 10))) n more
    ∙ ap (λ (s : List ℕ). s ++ ((48 + n % 10) ∷ [])) (in-length k (n / 10) (tenth k n h))
    ∙ sym (digit-more (suc k) n more))
    (below n 10)

-- the first turn: all digits are left, and none is written
pub digits-start : (n : ℕ) (l : List ℕ) (at count : ℕ) → n < 4294967296 → count ≡ length (decimal n) →
    (decimal_in count n ≡ take count (decimal n)) × (l ≡ lay l (at + count) (drop count (decimal n)))
unfolding decimal
digits-start n l at count h e =
    rw e (
      in-length 9 n (omega arith) ∙ sym (take-length (decimal_in 10 n)),
      sym (ap (λ (s : List ℕ). lay l (at + length (decimal_in 10 n)) s) (drop-length (decimal_in 10 n)) ∙ lay-nil l
          (at + length (decimal_in 10 n))),
    )

-- the turn of the loop: left + 1 digits were left
pub digits-laid : (n : ℕ) (l out : List ℕ) (at left rest : ℕ) → left < length (decimal n) → at + length (decimal n) ≤ length l →
    decimal_in (left + 1) rest ≡ take (left + 1) (decimal n) → out ≡ lay l (at + (left + 1)) (drop (left + 1) (decimal n)) →
    (decimal_in left (rest / 10) ≡ take left (decimal n)) ×
    (set out (at + left) (48 + rest % 10) ≡ lay l (at + left) (drop left (decimal n)))
digits-laid n l out at left rest h room e o =
    let d = decimal n in
    let t = digits-turn left rest d h (rw add-one at e) in
    let v : 48 + rest % 10 ≡ get_or d left 0 = t.1 in
    let c : drop left d ≡ get_or d left 0 ∷ drop (left + 1) d = rw (add-one) (drop-cons d left 0 h) in
    let a : at + (left + 1) ≡ at + left + 1 = omega arith in
    let b : at + left + 1 + length (drop (left + 1) d) ≤ length l = simp length-drop (omega arith) in
    (t.0, rw (o, a, v, c) (lay-before l (at + left) (drop (left + 1) d) (get_or d left 0) b))

-- how many digits
pub places-one : (n : ℕ) → n < 10 → 1 ≡ length (decimal n)
unfolding decimal
places-one n h = sym (ap length (digit-one 9 n h))

pub places-more : (p n : ℕ) → 10 ^ p ≤ n → n < 10 ^ suc p → p ≤ 9 → suc p ≡ length (decimal n)
unfolding decimal
places-more p n lo hi le = sym (digits_are p n lo hi) ∙ ap length (digits-fit p 9 n hi le)

length_most : (k n : ℕ) → length (decimal_in k n) ≤ k
unfolding decimal_in
length_most zero n = zero-le
length_most (suc k) n =
    ⊎_elim (λ one. rw (digit-one k n one) (omega arith)) (λ more. rw (digit-more k n more, length-append)
    (omega (arith, length_most k (n / 10)))) (below n 10)

-- a byte has at most 3 digits, and no number here has more than 10
pub byte-places : (n : ℕ) → n < 256 → length (decimal n) ≤ 3
unfolding decimal
byte-places n h = rw (← digits-fit 2 9 n (omega arith) (omega arith)) (length_most 3 n)

pub number-places : (n : ℕ) → length (decimal n) ≤ 10
unfolding decimal
number-places n = length_most 10 n

-- the line of an answer is at most 19 bytes long
pub line-most : (a : Answer) → a.code < 256 → a.entry < 256 → length (line a) ≤ 19
unfolding line
line-most a c e =
    simp length-append
    (omega (arith, byte-places a.code c, byte-places a.entry e, number-places a.until))

pub length-lay : (l : List ℕ) (at : ℕ) (s : List ℕ) → at + length s ≤ length l → length (lay l at s) ≡ length l
unfolding lay
length-lay l at s h = simp (length-append, length-take, length-drop) (omega arith)

lay-one : (l : List ℕ) (n v : ℕ) → n < length l → set l n v ≡ lay l n (v ∷ [])
unfolding lay
lay-one l n v h = rw (add-one) (set_split l n v h ∙ sym (append_snoc (take n l) v (drop (suc n) l)))

-- a byte after bytes already written
lay-end : (l : List ℕ) (at : ℕ) (s : List ℕ) (n v : ℕ) → at + length s ≡ n → n < length l → set (lay l at s) n v ≡ lay l at (s ++ (v ∷ []))
lay-end l at s n v e h =
    let k : length (lay l at s) ≡ length l = length-lay l at s (omega arith) in
    let h' : n < length (lay l at s) = omega arith in
    lay-one (lay l at s) n v h' ∙ lay-lay l at s (v ∷ []) n e (omega arith)

-- digits and a byte after them, put after what is already written
pub lay-word : (l : List ℕ) (at : ℕ) (s w : List ℕ) (n m v : ℕ) → n ≡ at + length s → m ≡ n + length w → m < length l → set
    (lay (lay l at s) n w) m v ≡ lay l at (s ++ w ++ (v ∷ []))
lay-word l at s w n m v e e' h =
    ap (λ (x : List ℕ). set x m v) (lay-lay l at s w n (sym e) (omega arith))
    ∙ lay-end l at (s ++ w) m v (rw (length-append) (omega arith)) h

-- three numbers, each with the byte after it, are the line of an answer
pub line-laid : (a : Answer) (l o₁ o₂ o₃ : List ℕ) (at f s t : ℕ) → at + 19 ≤ length l → a.code < 256 → a.entry < 256 → f ≡ at +
    length (decimal a.code) → o₁ ≡ lay l at (decimal a.code) → s ≡ f + 1 + length (decimal a.entry) → o₂ ≡ lay (set o₁ f 32)
    (f + 1) (decimal a.entry) → t ≡ s + 1 + length (decimal a.until) → o₃ ≡ lay (set o₂ s 32) (s + 1) (decimal a.until) →
    (t + 1 ≡ at + length (line a)) × (set o₃ t 10 ≡ lay l at (line a))
unfolding line
line-laid a l o₁ o₂ o₃ at f s t room c e ef e₁ es e₂ et e₃ =
    let x = byte-places a.code c in
    let y = byte-places a.entry e in
    let z = number-places a.until in
    let sp : List ℕ = 32 ∷ [] in
    let w : List ℕ = decimal a.code ++ sp in
    let w' : List ℕ = w ++ decimal a.entry ++ sp in
    let n : length w ≡ length (decimal a.code) + 1 = length-append (decimal a.code) sp in
    let n' : length w' ≡ length (decimal a.code) + 1 + length (decimal a.entry) + 1 = rw (length-append, length-append, n) refl in
    let p : set o₁ f 32 ≡ lay l at w = ap (λ (q : List ℕ). set q f 32) e₁ ∙ lay-end l at (decimal a.code) f 32 (sym ef) (omega arith) in
    let q : set o₂ s 32 ≡ lay l at w' =
    ap (λ (q : List ℕ). set q s 32) (e₂ ∙ ap (λ (q : List ℕ). lay q (f + 1) (decimal a.entry)) p)
    ∙ lay-word l at w (decimal a.entry) (f + 1) s 32 (omega arith) es (omega arith) in
    let r : set o₃ t 10 ≡ lay l at (w' ++ decimal a.until ++ (10 ∷ [])) =
    ap (λ (q : List ℕ). set q t 10) (e₃ ∙ ap (λ (q : List ℕ). lay q (s + 1) (decimal a.until)) q)
    ∙ lay-word l at w' (decimal a.until) (s + 1) t 10 (omega arith) et (omega arith) in
    (rw (length-append, length-append, n') (omega arith), r)

-- two digits of a number below 100, with leading zeros
unfoldable pub two : ℕ → List ℕ
two n = (48 + n / 10) ∷ (48 + n % 10) ∷ []

two-only : (k n : ℕ) → 10 ≤ n → n < 100 → decimal_in (suc (suc k)) n ≡ two n
unfolding two
two-only k n lo hi = digit-more (suc k) n lo ∙ ap (λ (s : List ℕ). s ++ ((48 + n % 10) ∷ [])) (digit-one k (n / 10) (omega arith))

-- the last two digits, and those before them
two-more : (k n : ℕ) → 100 ≤ n → decimal_in (suc (suc k)) n ≡ decimal_in k (n / 100) ++ two (n % 100)
unfolding two
two-more k n lo =
    let a : n / 10 / 10 ≡ n / 100 = omega arith in
    let b : n / 10 % 10 ≡ n % 100 / 10 = omega arith in
    let c : n % 10 ≡ n % 100 % 10 = omega arith in
    rw (digit-more (suc k) n (omega arith), digit-more k (n / 10) (omega arith), a, b, c)
    (append_assoc (decimal_in k (n / 100)) ((48 + n % 100 / 10) ∷ []) ((48 + n % 100 % 10) ∷ []))

-- the last four
four-more : (k n : ℕ) → 10000 ≤ n → decimal_in (suc (suc (suc (suc k)))) n ≡ decimal_in k (n / 10000) ++ two (n % 10000 / 100) ++ two
    (n % 10000 % 100)
four-more k n lo =
    let a : n / 100 / 100 ≡ n / 10000 = omega arith in
    let b : n / 100 % 100 ≡ n % 10000 / 100 = omega arith in
    let c : n % 100 ≡ n % 10000 % 100 = omega arith in
    rw (two-more (suc (suc k)) n (omega arith), two-more k (n / 100) (omega arith), a, b, c) refl

-- bytes set one after another, from offset at + k
written : List ℕ → ℕ → ℕ → List ℕ → List ℕ
written l at k [] = l
written l at k (v ∷ s) = written (set l (at + k) v) at (suc k) s

written-laid : (l : List ℕ) (at k : ℕ) (w s : List ℕ) → length w ≡ k → at + k + length s ≤ length l → written (lay l at w) at k s ≡ lay
    l at (w ++ s)
unfolding written
written-laid l at k w [] e h = ap (lay l at) (sym (append-nil w))
written-laid l at k w (v ∷ s) e h =
    ap (λ (x : List ℕ). written x at (suc k) s) (lay-end l at w (at + k) v (ap (λ (x : ℕ). at + x) e) (omega arith))
    ∙ written-laid l at (suc k) (w ++ (v ∷ [])) s (rw (length-append) (omega arith)) (omega arith)
    ∙ ap (lay l at) (append_assoc w (v ∷ []) s)

-- the first byte, and those after it
bytes-laid : (l : List ℕ) (at v : ℕ) (s : List ℕ) → at + 1 + length s ≤ length l → written (set l at v) at 1 s ≡ lay l at (v ∷ s)
bytes-laid l at v s h =
    ap (λ (x : List ℕ). written x at 1 s) (lay-one l at v (omega arith))
    ∙ written-laid l at 1 (v ∷ []) s refl h

pub two-laid : (l : List ℕ) (at n : ℕ) → at + 2 ≤ length l → set (set l at (48 + n / 10)) (at + 1) (48 + n % 10) ≡ lay l at (two n)
unfolding two written
two-laid l at n h = bytes-laid l at (48 + n / 10) ((48 + n % 10) ∷ []) (omega arith)

pub refused-laid : (l : List ℕ) (at : ℕ) → at + 7 ≤ length l → set
    (set (set (set (set (set (set l at 32) (at + 1) 50) (at + 2) 53) (at + 3) 53) (at + 4) 32) (at + 5) 48) (at + 6) 10 ≡ lay l at
    refused_end
unfolding refused_end decimal decimal_in written
refused-laid l at h = bytes-laid l at 32 (50 ∷ 53 ∷ 53 ∷ 32 ∷ 48 ∷ 10 ∷ []) (omega arith)

-- bytes copied over a part of their length
pub part-laid : (l : List ℕ) (at k : ℕ) (s : List ℕ) → length s ≡ k → put_mid at k l s ≡ lay l at s
unfolding lay
part-laid l at k s e = rw (e, drop-drop k at l) (sym (append_assoc (take at l) s (drop (at + k) l)))

-- a number of one digit, of two, of three, and of ten
pub one-laid : (l : List ℕ) (at n : ℕ) → n < 10 → at < length l → set l at (48 + n) ≡ lay l at (decimal n)
unfolding decimal
one-laid l at n h room = lay-one l at (48 + n) room ∙ ap (lay l at) (sym (digit-one 9 n h))

pub two_digits : (n : ℕ) → 10 ≤ n → n < 100 → two n ≡ decimal n
unfolding decimal
two_digits n lo hi = sym (two-only 8 n lo hi)

pub three-laid : (l : List ℕ) (at n : ℕ) → 100 ≤ n → n < 1000 → at + 3 ≤ length l → lay (set l at (48 + n / 100)) (at + 1)
    (two (n % 100)) ≡ lay l at (decimal n)
unfolding decimal two
three-laid l at n lo hi room =
    rw (two-more 8 n lo, digit-one 7 (n / 100) (omega arith), lay-one l at (48 + n / 100) (omega arith))
    (lay-lay l at ((48 + n / 100) ∷ []) (two (n % 100)) (at + 1) refl (omega arith))

pub ten-laid : (l : List ℕ) (at n : ℕ) → 1000000000 ≤ n → n < 4294967296 → at + 10 ≤ length l → lay
    (lay (lay (lay (lay l at (two (n / 10000 / 10000))) (at + 2) (two (n / 10000 % 10000 / 100))) (at + 4)
    (two (n / 10000 % 10000 % 100))) (at + 6) (two (n % 10000 / 100))) (at + 8) (two (n % 10000 % 100)) ≡ lay l at (decimal n)
unfolding decimal two
ten-laid l at n lo hi room =
    let a = two (n / 10000 / 10000) in
    let b = two (n / 10000 % 10000 / 100) in
    let c = two (n / 10000 % 10000 % 100) in
    let d = two (n % 10000 / 100) in
    let e = two (n % 10000 % 100) in
    rw (
      lay-lay l at a b (at + 2) refl (omega arith),
      lay-lay l at (a ++ b) c (at + 4) refl (omega arith),
      lay-lay l at (a ++ b ++ c) d
          (at + 6) refl (omega arith),
      lay-lay l at (a ++ b ++ c ++ d) e (at + 8) refl (omega arith),
      four-more 6 n (omega arith),
      four-more 2 (n / 10000) (omega arith),
      two-only 0 (n / 10000 / 10000) (omega arith) (omega arith),
    )
    refl

pub refused-length : length refused_end ≡ 7
unfolding refused_end decimal decimal_in
refused-length = refl

refused-parts : (d s e u t : List ℕ) → d ++ s ++ e ++ s ++ u ++ t ≡ d ++ (s ++ e ++ s ++ u ++ t)
refused-parts d s e u t = simp append_assoc

-- a code and what follows it in a refusal are the line of that answer
pub refused-line : (a : Answer) (l o : List ℕ) (at f : ℕ) → at + 19 ≤ length l → a.code < 256 →
    (eqb a.entry 255 && eqb a.until 0) ≡ true → f ≡ at + length (decimal a.code) → o ≡ lay l at (decimal a.code) →
    (f + 7 ≡ at + length (line a)) × (lay o f refused_end ≡ lay l at (line a))
unfolding line refused_end
refused-line a l o at f room c t ef e =
    let d = decimal a.code in
    let sp : List ℕ = 32 ∷ [] in
    let n : a.entry ≡ 255 = eqb-true a.entry 255 (and_left (eqb a.entry 255) (eqb a.until 0) t) in
    let u : a.until ≡ 0 = eqb-true a.until 0 (and_right (eqb a.entry 255) (eqb a.until 0) t) in
    let w : line a ≡ d ++ refused_end =
    ap₂ (λ (x y : ℕ). d ++ sp ++ decimal x ++ sp ++ decimal y ++ (10 ∷ [])) n u ∙ refused-parts d sp (decimal 255) (decimal 0) (10 ∷ []) in
    let k : length (line a) ≡ length d + 7 = ap length w ∙ length-append d refused_end ∙ ap (λ (x : ℕ). length d + x) refused-length in (
      omega arith,
      ap (λ (x : List ℕ). lay x f refused_end) e ∙ lay-lay l at d refused_end f (sym ef)
          (omega (arith, byte-places a.code c, refused-length)) ∙ ap (lay l at) (sym w),
    )
