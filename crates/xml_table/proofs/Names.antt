-- The names of the code are the definition's, in its order.
use Rattle.std.specs.Prelude.{◌≡◌, ℕ, zero, suc, ◌+◌, ◌<◌, ◌≤◌, true, false, cond, List, [], ◌∷◌, map, length, get_or, drop}
use Rattle.std.proofs.Math.Path.{refl}
use Rattle.std.proofs.Common.{add-one, arith, drop-cons, rules}
use lib.ListN.{drop_of_length-le}
use Rattle.xml_model.specs.Bytes.{same}
use Rattle.xml_model.specs.Elements.{known, find}
use Rattle.xml_table.specs.declared.Name.{Name}
use Rattle.xml_table.specs.declared.TheConstants.{NAMES}
use Rattle.xml_table.specs.Codes.{name_code, name_text}

text-at : (l : List Name) (i : ℕ) (d : Name) → i < length l → get_or (map name_text l) i [] ≡ name_text (get_or l i d)
text-at [] i d h = absurd (omega arith)
text-at (x ∷ l) zero d h = refl
text-at (x ∷ l) (suc i) d h = text-at l i d (omega arith)

abbrev numbered : ℕ → List Name → Type 0
numbered k [] = Unit {0}
numbered k (x ∷ l) = (name_code x ≡ k) × numbered (suc k) l

code-at : (k : ℕ) (l : List Name) (i : ℕ) (d : Name) → numbered k l → i < length l → name_code (get_or l i d) ≡ k + i
code-at k [] i d n h = absurd (omega arith)
code-at k (x ∷ l) zero d n h = omega (arith, n.0)
code-at k (x ∷ l) (suc i) d n h = omega (arith, code-at (suc k) l i d n.1 (omega arith))

find-cons : (v : List ℕ) (k : ℕ) (n : List ℕ) (l : List (List ℕ)) → find v k (n ∷ l) ≡ cond (same v n) k (find v (suc k) l)
unfolding find
find-cons v k n l = refl

find-on : (v : List ℕ) (l : List (List ℕ)) (i : ℕ) → i < length l
    → find v (suc i) (drop i l) ≡ cond (same v (get_or l i [])) (suc i) (find v (suc (i + 1)) (drop (i + 1) l))
find-on v l i h = rw (drop-cons l i [] h, find-cons, add-one)

-- all of them have been looked at
pub find-end : (v : List ℕ) (i : ℕ) → 22 ≤ i → find v (suc i) (drop i known) ≡ 0
unfolding known find
find-end v i h = rw (drop_of_length-le known {i = i} h)

module _ (i : ℕ) (d : Name) (h : i < 22) where
  pub number-at : name_code (get_or NAMES i d) ≡ suc i
  number-at = omega (arith, code-at 1 NAMES i d (search rules) h)

  named : get_or known i [] ≡ name_text (get_or NAMES i d)
  unfolding known
  named = text-at NAMES i d h

  counted : i < length known
  unfolding known
  counted = h

  module _ (v : List ℕ) where
    pub find-here : same v (name_text (get_or NAMES i d)) ≡ true → find v (suc i) (drop i known) ≡ suc i
    find-here q = rw (find-on v known i counted, named, q)

    pub find-past : same v (name_text (get_or NAMES i d)) ≡ false
        → find v (suc i) (drop i known) ≡ find v (suc (i + 1)) (drop (i + 1) known)
    find-past q = rw (find-on v known i counted, named, q)
