-- Sums over the ledger, and what a revision of a player's latest use does to them.
-- Only a player's latest use can be open, so settling and revising touch one term of a sum.
use mathlib.Core.Path.{◌≡◌, refl, sym, subst, ◌∙◌}
use Prim.Native.Nat.{ℕ, ◌+◌, ◌≤◌}
use mathlib.Core.Bool.{true, false, not}
use mathlib.Core.List.{List, [], ◌∷◌}
use mathlib.Core.Option.{some, none-ne-some}
use lib.ListN.{length}
use lib.Dec.{eqb}
use native.Mathlib.Omega.{arith}
use borrow.Author.Tests.{eqb-true, eqb-false, eq-eqb, ne_eqb, ltb-false, le-ltb}
use Rattle.model.proofs.Ledger.Facts.{on_test, on_same}
use Rattle.model.specs.Demand3.{Every}
use Rattle.model.specs.Ledger.{Use, is_open, latest, revise, sum_of, earliest}

-- ## A fact of every use

pub all_map : {P Q : Use → Type 0} → ((u : Use) → P u → Q u) → (us : List Use) → Every P us → Every Q us
all_map f [] h = tt
all_map f (u ∷ us) h = (f u h.0, all_map f us h.1)

pub all_both : {P Q R : Use → Type 0} → ((u : Use) → P u → Q u → R u) → (us : List Use) → Every P us → Every Q us → Every R us
all_both f [] h k = tt
all_both f (u ∷ us) h k = (f u h.0 k.0, all_both f us h.1 k.1)

pub latest-new : (v : Use) (us : List Use) → latest v.player (v ∷ us) ≡ some v
unfolding latest
latest-new v us = rw (eq-eqb v.player v.player refl)

pub latest-new-other : (p : ℕ) (v : Use) (us : List Use) → (v.player ≡ p → ⊥) → latest p (v ∷ us) ≡ latest p us
unfolding latest
latest-new-other p v us h = rw (ne_eqb v.player p h)

pub all-revise : {P : Use → Type 0} (p : ℕ) (f : Use → Use) (us : List Use) → ((u : Use) → latest p us ≡ some u → P u → P (f u)) → Every
    P us → Every P (revise p f us)
unfolding latest revise
all-revise p f [] g h = tt
all-revise {P} p f (u ∷ us) g h =
    on_test (eqb u.player p)
    (λ e. rw e (g u (rw e) h.0, h.1))
    (λ e. rw e (h.0, all-revise {P = P} p f us (λ v q. g v (rw e q)) h.1))

-- the latest use of a player in a ledger that has uses: the newest, or one after it in the list
pub latest-here : (p : ℕ) (v : Use) (us : List Use) (u : Use) → latest p (v ∷ us) ≡ some u → eqb v.player p ≡ true → v ≡ u
unfolding latest
latest-here p v us u e q = cc

pub latest-behind : (p : ℕ) (v : Use) (us : List Use) (u : Use) → latest p (v ∷ us) ≡ some u → eqb v.player p ≡ false → latest p us ≡
    some u
unfolding latest
latest-behind p v us u e q = cc

pub latest-nil : {P : Type 0} (p : ℕ) (u : Use) → latest p [] ≡ some u → P
unfolding latest
latest-nil p u e = absurd (none-ne-some u e)

pub all-latest : (P : Use → Type 0) (p : ℕ) (us : List Use) (u : Use) → latest p us ≡ some u → Every P us → P u
all-latest P p [] u e h = latest-nil p u e
all-latest P p (v ∷ us) u e h =
    on_test (eqb v.player p)
    (λ q. rw (latest-here p v us u e q) at h.0)
    (λ q. all-latest P p us u (latest-behind p v us u e q) h.1)

pub latest-player : (p : ℕ) (us : List Use) (u : Use) → latest p us ≡ some u → u.player ≡ p
latest-player p [] u e = latest-nil p u e
latest-player p (v ∷ us) u e =
    on_test (eqb v.player p)
    (λ q. rw (← latest-here p v us u e q) (eqb-true v.player p q))
    (λ q. latest-player p us u (latest-behind p v us u e q))

-- ## Sums

pub sum-ext : {P : Use → Type 0} (w v : Use → ℕ) → ((u : Use) → P u → w u ≡ v u) → (us : List Use) → Every P us → sum_of w us ≡ sum_of v us
unfolding sum_of
sum-ext w v g [] h = refl
sum-ext {P} w v g (u ∷ us) h = omega (arith, g u h.0, sum-ext {P = P} w v g us h.1)

pub sum-revise : (w : Use → ℕ) (p : ℕ) (f : Use → Use) (us : List Use) (u : Use) → latest p us ≡ some u → sum_of w (revise p f us) + w u
    ≡ sum_of w us + w (f u)
unfolding sum_of revise
sum-revise w p f [] u e = latest-nil p u e
sum-revise w p f (v ∷ us) u e =
    on_test (eqb v.player p)
    (λ q. rw (← latest-here p v us u e q, q) (omega arith))
    (λ q. rw q (omega (arith, sum-revise w p f us u (latest-behind p v us u e q))))

pub length-revise : (p : ℕ) (f : Use → Use) (us : List Use) → length (revise p f us) ≡ length us
unfolding revise
length-revise p f [] = refl
length-revise p f (v ∷ us) = on_test (eqb v.player p) (λ q. rw q) (λ q. rw q (omega (arith, length-revise p f us)))

pub sum-most : (w v : Use → ℕ) → ((u : Use) → w u ≤ v u) → (us : List Use) → sum_of w us ≤ sum_of v us
unfolding sum_of
sum-most w v h [] = omega arith
sum-most w v h (u ∷ us) = omega (arith, h u, sum-most w v h us)

pub sum_ones : (us : List Use) → sum_of (λ u. 1) us ≡ length us
unfolding sum_of
sum_ones [] = refl
sum_ones (u ∷ us) = omega (arith, sum_ones us)

-- ## What a revision leaves unchanged

-- the revised use has the same entry, player and begin
pub record Kept (f : Use → Use) : Type 0 where
  pub entry : (u : Use) → (f u).entry ≡ u.entry
  pub player : (u : Use) → (f u).player ≡ u.player
  pub begin : (u : Use) → (f u).begin ≡ u.begin

pub earliest-revise : (f : Use → Use) → Kept f → (i p : ℕ) (us : List Use) → earliest i (revise p f us) ≡ earliest i us
unfolding earliest revise
earliest-revise f k i p [] = refl
earliest-revise f k i p (v ∷ us) =
    on_test (eqb v.player p)
    (λ q. rw (q, k.entry v, k.begin v))
    (λ q. rw (q, earliest-revise f k i p us))

pub latest-revise : (f : Use → Use) → Kept f → (p : ℕ) (us : List Use) (u : Use) → latest p us ≡ some u → latest p (revise p f us) ≡
    some (f u)
unfolding latest revise
latest-revise f k p [] u e = latest-nil p u e
latest-revise f k p (v ∷ us) u e =
    on_test (eqb v.player p)
    (λ q. let z : eqb (f v).player p ≡ true = rw (k.player v) q in rw (q, z, latest-here p v us u e q))
    (λ q. rw (q, q, latest-revise f k p us u (latest-behind p v us u e q)))

pub latest-revise-other : (f : Use → Use) → Kept f → (p r : ℕ) → (r ≡ p → ⊥) → (us : List Use) → latest r (revise p f us) ≡ latest r us
unfolding latest revise
latest-revise-other f k p r h [] = refl
latest-revise-other f k p r h (v ∷ us) =
    on_test (eqb v.player p)
    (λ q. rw (q, k.player v, ne_eqb v.player r (λ z. h (sym z ∙ eqb-true v.player p q))))
    (λ q. rw (q, latest-revise-other f k p r h us))

-- ## Only a player's latest use may be open

abbrev pub ShutFor : ℕ → ℕ → Use → Type 0
ShutFor T p u = u.player ≡ p → is_open T u ≡ false

abbrev pub Tidy : ℕ → List Use → Type 0
Tidy T [] = Unit {0}
Tidy T (u ∷ us) = Every (ShutFor T u.player) us × Tidy T us

pub open-falls : (S T : ℕ) (u : Use) → S ≤ T → is_open S u ≡ false → is_open T u ≡ false
unfolding is_open
open-falls S T u h e =
    on_test (not u.stopped)
    (λ q. rw q (le-ltb T u.until (omega (arith, ltb-false S u.until (rw q at e)))))
    (λ q. rw q)

pub tidy-later : (S T : ℕ) (us : List Use) → S ≤ T → Tidy S us → Tidy T us
tidy-later S T [] h k = tt
tidy-later S T (u ∷ us) h k = (all_map (λ v q r. open-falls S T v h (q r)) us k.0, tidy-later S T us h k.1)

pub tidy-revise : (T p : ℕ) (f : Use → Use) → Kept f → (us : List Use) → Tidy T us → Tidy T (revise p f us)
unfolding revise
tidy-revise T p f k [] h = tt
tidy-revise T p f k (v ∷ us) h =
    on_test (eqb v.player p)
    (λ q. rw (q, k.player v) h)
    (λ q. rw q (
      all-revise {P = ShutFor T v.player} p f us
          (λ u e m r. absurd (eqb-false v.player p q (omega (arith, k.player u, latest-player p us u e)))) h.0,
      tidy-revise T p f k us
          h.1,
    ))

-- a player whose latest use is shut has no open use
pub all-shut : (T p : ℕ) (us : List Use) → Tidy T us → ((u : Use) → latest p us ≡ some u → is_open T u ≡ false) → Every (ShutFor T p) us
unfolding latest
all-shut T p [] h g = tt
all-shut T p (v ∷ us) h g =
    on_test (eqb v.player p)
    (λ q. (λ r. g v (rw q), subst (λ (x : ℕ). Every (ShutFor T x) us) (eqb-true v.player p q) h.0))
    (λ q. (λ r. absurd (eqb-false v.player p q r), all-shut T p us h.1 (λ u e. g u (rw q e))))

-- two weights that differ only at an open use of player p
pub sum-latest : (w v : Use → ℕ) (T p : ℕ) →
    ((u : Use) → (u.player ≡ p → ⊥) → w u ≡ v u) → ((u : Use) → is_open T u ≡ false → w u ≡ v u) →
    (us : List Use) (u : Use) → Tidy T us → latest p us ≡ some u → sum_of v us + w u ≡ sum_of w us + v u
unfolding sum_of
sum-latest w v T p g k [] u h e = latest-nil p u e
sum-latest w v T p g k (x ∷ us) u h e =
    on_test (eqb x.player p)
    (λ q. rw (← latest-here p x us u e q) (omega (
      arith,
      sum-ext {P = ShutFor T x.player} w v
          (λ y m. on_same y.player p (λ z. k y (m (omega (arith, eqb-true x.player p q)))) (g y)) us h.0,
    )))
    (λ q. omega (arith, g x (eqb-false x.player p q), sum-latest w v T p g k us u h.1 (latest-behind p x us u e q)))

pub sum-nobody : (w v : Use → ℕ) (T p : ℕ) →
    ((u : Use) → (u.player ≡ p → ⊥) → w u ≡ v u) → ((u : Use) → is_open T u ≡ false → w u ≡ v u) →
    (us : List Use) → Every (ShutFor T p) us → sum_of v us ≡ sum_of w us
sum-nobody w v T p g k us h =
    sum-ext {P = ShutFor T p} v w (λ u m. on_same u.player p (λ e. sym (k u (m e))) (λ e. sym (g u e))) us h
