-- Values at the start of a buffer, and after them what was there before; a buffer that is too short stays as it was.
-- "writer's buffer too short | buffer untouched", here for any lent buffer, with a number of its own: 30 is an answer since order 3 of
-- document 02.
use Rattle.std.specs.Prelude.{ℕ, ◌+◌, ◌<◌, ◌≤◌, ◌≡◌, refl, cond, List, ◌++◌, length, get_or, set, take, drop, leb}
use Rattle.std.proofs.Common.{sym, ap, ◌∙◌, zero-add, arith, le-leb}
use Rattle.std.proofs.lemmas.Bool.{lt-leb}
use Rattle.numbers.specs.Buffer.{lay}
use Rattle.numbers.proofs.BufferLaws.{lay-front, lay-byte, lay-all}

-- the result of a call that lacks room: "30 | writer's buffer too short | buffer untouched"
abbrev pub no_room : ℕ
no_room = 30

abbrev pub fill_code : {A : Type 0} → List A → ℕ → ℕ
fill_code values room = cond (leb (length values) room) 0 no_room

abbrev pub filled : {A : Type 0} → List A → List A → List A
filled values old = cond (leb (length values) (length old)) (values ++ drop (length values) old) old

-- ## Value by value: the first i of them written over the start

pub fill-next : (old values : List ℕ) (i : ℕ) → i < length old → i < length values
    → set (lay old 0 (take i values)) i (get_or values i 0) ≡ lay old 0 (take (i + 1) values)
fill-next old values i h k =
    let h' : 0 + i < length old = omega arith in
    ap (λ (j : ℕ). set (lay old 0 (take i values)) j (get_or values i 0)) (sym (zero-add i)) ∙ lay-byte old 0 values i h' k

-- what each exit leaves
module _ (values old : List ℕ) where
  abbrev pub Filled : ℕ → List ℕ → Type 0
  Filled code out = (code ≡ fill_code values (length old)) × (out ≡ filled values old)

  pub fill-short : length old < length values → Filled no_room old
  fill-short h = rw (lt-leb (length values) (length old) h) (refl, refl)

  pub fill_done : (out : List ℕ) (i : ℕ) → length values ≤ length old → length values ≤ i
      → out ≡ lay old 0 (take i values) → Filled 0 out
  fill_done out i h k e =
      rw (le-leb (length values) (length old) h)
      (refl, e ∙ lay-all old 0 values i k ∙ lay-front old values (length values) refl)
