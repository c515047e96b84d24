-- The loop that reads a table of records of any width: what holds after i turns, and the law of one turn.
use Rattle.std.specs.Prelude.{ℕ, ◌+◌, ◌*◌, ◌-◌, ◌≤◌, ◌<◌, ◌≡◌, List, ◌++◌, length, set, take, drop}
use Rattle.std.proofs.Common.{sym, ap₂, ◌∙◌, length-drop, take_all}
use Rattle.std.proofs.Math.Path.{ap}
use Rattle.std.proofs.Math.Nat.{mul-zero, sub-zero}
use native.Mathlib.Omega.{arith}
use Rattle.std.proofs.Math.ListN.{replicate}
use Rattle.numbers.specs.Count.{listed}
use Rattle.numbers.proofs.Loops.{listed-turn}
use Rattle.numbers.proofs.TableLaws.{row_fits, row_next}

-- s holds n records of that width from offset `at`
module _ {A : Type 0} (of : List ℕ → A) (blank : A) (slots width at n : ℕ) (s : List ℕ) where
  -- the first i are read, the other slots are blank
  abbrev pub table_to : ℕ → List A
  table_to i = listed (λ k. of (drop (at + width * k) s)) i ++ replicate (slots - i) blank

  -- after i turns the first i are read, and the next one is at o
  abbrev pub ReadTo : List A → ℕ → ℕ → Type 0
  ReadTo table i o = (i ≤ n) × (o ≡ at + width * i) × (table ≡ table_to i)

  pub read_none : (table : List A) → table ≡ replicate slots blank → ReadTo table 0 at
  unfolding listed
  read_none table e = (omega arith, omega (arith, mul-zero width), e ∙ ap (λ (k : ℕ). replicate k blank) (sym (sub-zero slots)))

  -- the record is there
  pub read-room : (table : List A) (i o : ℕ) → at + width * n ≤ length s → ReadTo table i o → i < n → o + width ≤ length s
  read-room table i o room r h = row_fits width at i n (length s) o r.1 h room

  pub read-turn : (table : List A) (x : A) (i o w : ℕ) → n ≤ slots → ReadTo table i o → i < n → w ≡ width
      → x ≡ of (take (length s - o) (drop o s)) → ReadTo (set table i x) (i + 1) (o + w)
  read-turn table x i o w fit r h q e =
      let k : length (drop o s) ≤ length s - o = simp length-drop (omega arith) in
      let y : x ≡ of (drop (at + width * i) s) = e ∙ ap of (take_all (length s - o) (drop o s) k) ∙ ap (λ (m : ℕ). of (drop m s)) r.1 in
      let z : i < slots = omega (arith, h, fit) in (
        omega (arith, h),
        ap (λ (m : ℕ). o + m) q ∙ row_next width at i o r.1,
        ap₂ (λ (t : List A) (v : A). set t i v) r.2 y ∙ listed-turn (λ m. of (drop (at + width * m) s)) blank slots i z,
      )

  pub read_all : (table : List A) (i o : ℕ) → ReadTo table i o → n ≤ i → table ≡ table_to n
  read_all table i o r h = let e : i ≡ n = omega (arith, r.0, h) in r.2 ∙ ap table_to e

-- the bytes from an offset have room for the record there
pub part_room : (s : List ℕ) (o w : ℕ) → o + w ≤ length s → w ≤ length (take (length s - o) (drop o s))
part_room s o w h =
    let k : length (drop o s) ≤ length s - o = simp length-drop (omega arith) in
    rw (take_all (length s - o) (drop o s) k, length-drop) (omega arith)
