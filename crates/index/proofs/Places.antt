-- A lookup in the tables of positions and parents finds what `reach_in` says of the assets.
use Prim.Native.Nat.{ℕ, zero, suc, ◌-◌, ◌<◌, ◌≤◌, min}
use Rattle.std.specs.Prelude.{◌≡◌, Bool, true, List, length, get_or, set, ltb, eqb}
use Rattle.std.proofs.Math.Path.{refl}
use Rattle.std.proofs.Common.{sym, ap, ◌∙◌, arith, get_or-set_same, get_or-set_other}
use Rattle.std.proofs.Math.Bool.{cond}
use Rattle.std.proofs.Math.Nat.{min-le_right}
use Rattle.std.proofs.Math.ListN.{length-set}
use Rattle.std.proofs.lemmas.List.{length-replicate, get_or-replicate}
use borrow.Author.Tests.{ltb-true, ltb-false, eqb-true, eqb-false, lt-ltb, le-ltb}
use Rattle.numbers.specs.Count.{first}
use Rattle.book.specs.declared.Asset.{Asset}
use Rattle.model.specs.Book.{asset_at, asset_position}
use Rattle.model.specs.Choice.{holds, usable}
use Rattle.numbers.proofs.Tests.{on_test, on_same, and_left}
use Rattle.choice.specs.Reach.{table_of, reach_in, numbered}
use Rattle.index.specs.Places.{down, slots, put_place, put_parent, places_of, parents_of, reach_at}

-- ## What the code does

pub down_turn : (f : ℕ → List ℕ → List ℕ) (i : ℕ) (l : List ℕ) → 0 < i → down f i l ≡ down f (i - 1) (f (i - 1) l)
unfolding down
down_turn f zero l h = absurd (omega arith)
down_turn f (suc i) l h = let e : suc i - 1 ≡ i = omega arith in rw e

pub down-none : (f : ℕ → List ℕ → List ℕ) (i : ℕ) (l : List ℕ) → i ≤ 0 → down f i l ≡ l
unfolding down
down-none f zero l h = refl
down-none f (suc i) l h = absurd (omega arith)

-- ## What is in the tables

slots_length : (v n : ℕ) → length (slots v n) ≡ n
unfolding slots
slots_length v n = length-replicate n v

slots_at : (v n i : ℕ) → i < n → get_or (slots v n) i 0 ≡ v
unfolding slots
slots_at v n i h = get_or-replicate n i v 0 h

first_holds : (f : ℕ → Bool) (n : ℕ) → first f n < n → f (first f n) ≡ true
unfolding first
first_holds f zero h = absurd (omega arith)
first_holds f (suc n) h =
    on_test (ltb (first f n) n)
    (λ q. rw q (first_holds f n (ltb-true (first f n) n q)))
    (λ q. on_test (f n) (λ r. rw (q, r) r) (λ r. let z : suc n < suc n = rw (q, r) at h in absurd (omega arith)))

module _ (ats : List Asset) (count : ℕ) where
  abbrev able : ℕ → Bool
  able x = (reach_in (table_of ats count) x).usable

  abbrev upward : ℕ → ℕ
  upward i = (reach_in (table_of ats count) (asset_at ats i).number).parent

  entered : (x number n : ℕ) (l : List ℕ) → x < length l → number ≡ x → get_or (set l number (cond (able number) n 64)) x 0 ≡ cond
      (able x) n 64
  entered x number n l h e = ap (λ (k : ℕ). get_or (set l k (cond (able k) n 64)) x 0) e ∙ get_or-set_same l x (cond (able x) n 64) 0 h

  -- among the first n assets, the first with number x
  place_in : (x n : ℕ) (l : List ℕ) → x < length l
      → get_or (down (put_place ats count) n l) x 0
      ≡ cond (ltb (first (numbered ats x) n) n) (cond (able x) (first (numbered ats x) n) 64) (get_or l x 0)
  unfolding down put_place first
  place_in x zero l h = refl
  place_in x (suc n) l h =
      let number = (asset_at ats n).number in
      let v = cond (able number) n 64 in
      let s = first (numbered ats x) n in
      place_in x n (set l number v) (simp length-set h)
      ∙ on_test (ltb s n)
      (λ q. let w : s < suc n = omega (arith, ltb-true s n q) in rw (q, lt-ltb s (suc n) w))
      (λ q.
      on_test (eqb number x)
      (λ r. rw (q, r, lt-ltb n (suc n) (omega arith)) (entered x number n l h (eqb-true number x r)))
      (λ r. rw (q, r, le-ltb (suc n) (suc n) (omega arith)) (get_or-set_other l number x v 0 (λ e. eqb-false number x r (sym e)))))

  -- among the first n assets, the parent of the one at p
  parent_in : (p n : ℕ) (l : List ℕ) → p < length l → get_or (down (put_parent ats count) n l) p 0 ≡ cond (ltb p n) (upward p) (get_or l p 0)
  unfolding down put_parent
  parent_in p zero l h = rw (le-ltb p 0 (omega arith))
  parent_in p (suc n) l h =
      parent_in p n (set l n (upward n)) (simp length-set h)
      ∙ on_same p n
      (λ e. rw (e, le-ltb n n (omega arith), lt-ltb n (suc n) (omega arith)) (get_or-set_same l n (upward n) 0 (omega arith)))
      (λ e.
      on_test (ltb p n)
      (λ q. rw (q, lt-ltb p (suc n) (omega (arith, ltb-true p n q))))
      (λ q. rw (q, le-ltb p (suc n) (omega (arith, ltb-false p n q))) (get_or-set_other l n p (upward n) 0 e)))

  -- a usable asset is among the first
  able-found : (x : ℕ) → able x ≡ true → first (numbered ats x) (min count 64) < min count 64
  unfolding reach_in usable holds table_of asset_position
  able-found x e = ltb-true (first (numbered ats x) (min count 64)) (min count 64) (and_left _ _ e)

  place_is : (x : ℕ) → x ≤ 65535 → get_or (places_of ats count) x 0 ≡ cond (able x) (first (numbered ats x) (min count 64)) 64
  unfolding places_of
  place_is x h =
      let n = min count 64 in
      let s = first (numbered ats x) n in
      place_in x n (slots 64 65536) (rw slots_length (omega arith))
      ∙ on_test (able x)
      (λ e. rw (lt-ltb s n (able-found x e)))
      (λ e. on_test (ltb s n) (λ q. rw q) (λ q. rw (q, e) (slots_at 64 65536 x (omega arith))))

  parent_is : (p : ℕ) → p < min count 64 → get_or (parents_of ats count) p 0 ≡ upward p
  unfolding parents_of
  parent_is p h =
      parent_in p (min count 64) (slots 0 64) (rw slots_length (omega (arith, min-le_right count 64)))
      ∙ rw (lt-ltb p (min count 64) h)

-- ## A lookup in the tables

-- ats is any list of assets, with any numbers, possibly repeated
pub reach-usable :
    (ats : List Asset) (count asset : ℕ) →
    asset ≤ 65535 →
    (reach_at (places_of ats count) (parents_of ats count) asset).usable ≡ (reach_in (table_of ats count) asset).usable
unfolding reach_at
reach-usable ats count asset h =
    on_test (reach_in (table_of ats count) asset).usable
    (λ e.
    let s = first (numbered ats asset) (min count 64) in
    let w : s < 64 = omega (arith, able-found ats count asset e, min-le_right count 64) in
    rw (place_is ats count asset h, e) (lt-ltb s 64 w))
    (λ e. rw (place_is ats count asset h, e))

pub reach-parent :
    (ats : List Asset) (count asset : ℕ) →
    asset ≤ 65535 →
    (reach_in (table_of ats count) asset).usable ≡ true →
    (reach_at (places_of ats count) (parents_of ats count) asset).parent ≡ (reach_in (table_of ats count) asset).parent
unfolding reach_at
reach-parent ats count asset h e =
    let s = first (numbered ats asset) (min count 64) in
    let w = able-found ats count asset e in
    let place : get_or (places_of ats count) asset 0 ≡ s = place_is ats count asset h ∙ rw e in
    let below : s < 64 = omega (arith, w, min-le_right count 64) in
    let number : (asset_at ats s).number ≡ asset = eqb-true (asset_at ats s).number asset
    (first_holds (numbered ats asset) (min count 64) w) in
    rw (place, lt-ltb s 64 below) (parent_is ats count s w ∙ ap (λ (x : ℕ). (reach_in (table_of ats count) x).parent) number)
