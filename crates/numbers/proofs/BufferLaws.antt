-- Pieces written one after another.
use Prim.Native.Nat.{ℕ, suc, ◌+◌, ◌*◌, ◌<◌, ◌≤◌}
use mathlib.Core.Path.{◌≡◌, refl, sym, ap, ◌∙◌}
use mathlib.Core.List.{List, [], ◌++◌, append_assoc}
use native.Mathlib.Numerals.{add-one}
use native.Mathlib.Nat.{add_assoc, mul-suc, mul-zero}
use native.Mathlib.Omega.{arith}
use lib.ListN.{length, get_or, set, take, drop, length-append}
use lib.Seq.{take_at, drop_at, drop-drop, paste, paste-zero, paste-suc, length-take-le, take_all}
use Rattle.numbers.specs.Count.{joined}
use Rattle.numbers.proofs.TableLaws.{length-joined, row_fits, row_next}
use Rattle.numbers.specs.Buffer.{lay}

pub lay-nil : (l : List ℕ) (at : ℕ) → lay l at [] ≡ l
unfolding lay
lay-nil l at = sym (paste-zero l at [])

pub lay-front : (l s : List ℕ) (n : ℕ) → length s ≡ n → lay l 0 s ≡ s ++ drop n l
unfolding lay
lay-front l s n e = let k : 0 + length s ≡ n = omega arith in rw k

-- two adjacent pieces are one piece
pub lay-lay : (l : List ℕ) (at : ℕ) (s t : List ℕ) (n : ℕ) → at + length s ≡ n → n + length t ≤ length l → lay (lay l at s) n t ≡ lay l
    at (s ++ t)
unfolding lay
lay-lay l at s t n e h =
    let le : at ≤ length l = omega arith in
    let p : length (take at l ++ s) ≡ n = simp (length-append, length-take-le at l) (e) in
    let q : drop (n + length t) ((take at l ++ s) ++ drop (at + length s) l) ≡ drop (at + length (s ++ t)) l =
    sym (drop-drop (length t) n ((take at l ++ s) ++ drop (at + length s) l))
    ∙ ap (drop (length t)) (drop_at (take at l ++ s) (drop (at + length s) l) n p)
    ∙ drop-drop (length t) (at + length s) l
    ∙ ap (λ (k : ℕ). drop k l) (add_assoc at (length s) (length t) ∙ ap (λ (k : ℕ). at + k) (sym (length-append s t))) in
    rw (q, take_at (take at l ++ s) (drop (at + length s) l) n p)
    (ap (λ (x : List ℕ). x ++ drop (at + length (s ++ t)) l) (append_assoc (take at l) s t))

lay-take : (l : List ℕ) (at : ℕ) (s : List ℕ) (j : ℕ) → j ≤ length s → lay l at (take j s) ≡ paste l at s j
unfolding lay
lay-take l at s j h = rw (length-take-le j s)

-- one byte more: the turn of a loop that writes s byte by byte
pub lay-byte : (l : List ℕ) (at : ℕ) (s : List ℕ) (j : ℕ) → at + j < length l → j < length s → set (lay l at (take j s)) (at + j)
    (get_or s j 0) ≡ lay l at (take (j + 1) s)
lay-byte l at s j hl hs =
    let le : j ≤ length s = omega arith in
    let le' : suc j ≤ length s = omega arith in
    rw (lay-take l at s j le, add-one, lay-take l at s (suc j) le') (paste-suc l at s j 0 hl hs)

pub lay-all : (l : List ℕ) (at : ℕ) (s : List ℕ) (j : ℕ) → length s ≤ j → lay l at (take j s) ≡ lay l at s
lay-all l at s j h = rw (take_all j s)

-- pieces of m bytes each
module _ (f : ℕ → List ℕ) (m : ℕ) (even : (i : ℕ) → length (f i) ≡ m) where
  -- one piece more: the turn of a loop that writes the next piece after those before it
  pub joined-turn : (old : List ℕ) (at i : ℕ) → at + m * (i + 1) ≤ length old → lay (lay old at (joined f i)) (at + m * i) (f i) ≡ lay
      old at (joined f (i + 1))
  unfolding joined
  joined-turn old at i room =
      let e : at + length (joined f i) ≡ at + m * i = ap (λ (k : ℕ). at + k) (length-joined f m even i) in
      let k : m * (i + 1) ≡ m * i + m = rw (add-one) (mul-suc m i) in
      let r : at + m * i + length (f i) ≤ length old = rw (even) (omega arith) in
      rw (add-one) (lay-lay old at (joined f i) (f i) (at + m * i) e r)

-- ## The loop that writes n pieces of m bytes each, the first at an offset of the buffer

module _ (f : ℕ → List ℕ) (m : ℕ) (old : List ℕ) (at n : ℕ) where
  -- after i turns the first i pieces are written, and the next one goes to o
  abbrev pub WrittenTo : List ℕ → ℕ → ℕ → Type 0
  WrittenTo buf i o = (i ≤ n) × (o ≡ at + m * i) × (buf ≡ lay old at (joined f i)) × (length buf ≡ length old)

  pub written_none : WrittenTo old 0 at
  unfolding joined
  written_none = (omega arith, omega (arith, mul-zero m), sym (lay-nil old at), refl)

  pub written-room : (buf : List ℕ) (i o : ℕ) → at + m * n ≤ length old → WrittenTo buf i o → i < n → o + m ≤ length buf
  written-room buf i o room w h = omega (arith, row_fits m at i n (length old) o w.1 h room, w.3)

  pub written_all : (buf : List ℕ) (i o : ℕ) → WrittenTo buf i o → n ≤ i → (o ≡ at + m * n) × (buf ≡ lay old at (joined f n))
  written_all buf i o w h =
      let e : i ≡ n = omega (arith, w.0, h) in
      (w.1 ∙ ap (λ (k : ℕ). at + m * k) e, w.2 ∙ ap (λ (k : ℕ). lay old at (joined f k)) e)

  pub written-turn : ((k : ℕ) → length (f k) ≡ m) → (buf next : List ℕ) (i o r : ℕ) → at + m * n ≤ length old → WrittenTo buf i o → i < n
      → r ≡ o + m → next ≡ lay buf o (f i) → length next ≡ length buf → WrittenTo next (i + 1) r
  written-turn even buf next i o r room w h p e l =
      let q : at + m * (i + 1) ≤ length old = omega (arith, row_fits m at i n (length old) o w.1 h room, row_next m at i o w.1) in (
        omega (arith, h),
        p ∙ row_next m at i o w.1,
        e ∙ (rw (w.2, w.1) (joined-turn f m even old at i q)),
        l ∙ w.3,
      )

-- one piece more after those that are written: the turn of a function that writes a record piece by piece
pub lay-more : (old buf s t : List ℕ) (at n : ℕ) → buf ≡ lay old at s → at + length s ≡ n → n + length t ≤ length old
    → lay buf n t ≡ lay old at (s ++ t)
lay-more old buf s t at n b e h = ap (λ (x : List ℕ). lay x n t) b ∙ lay-lay old at s t n e h
