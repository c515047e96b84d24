-- How the ledger's marks change: the set of players who have an entry open.
use mathlib.Core.Path.{◌≡◌, refl, sym, ap, ◌∙◌}
use Prim.Native.Nat.{ℕ, ◌+◌, ◌≤◌, ◌<◌}
use mathlib.Core.Bool.{Bool, true, false, ◌&&◌, and-false}
use mathlib.Core.List.{List, [], ◌∷◌}
use mathlib.Core.Option.{Option, none, some}
use lib.Dec.{eqb}
use native.Mathlib.Omega.{arith}
use borrow.Author.Tests.{ne_eqb}
use Rattle.numbers.specs.Count.{sum, one}
use Rattle.numbers.specs.Bits.{ones, put_bit}
use Rattle.numbers.proofs.Loops.{sum-change}
use Rattle.numbers.proofs.BitLaws.{mask-same, mask-none, mask-put, ones-mask}
use Rattle.model.specs.Ledger.{Use, is_open, latest, sum_of, open_by, marks_by, counts_open, open_together}
use Rattle.model.specs.Demand3.{Every}
use Rattle.model.proofs.Ledger.Sums.{latest-new, latest-new-other, latest-player, all-latest, ShutFor, Tidy}

-- nobody's use changes as far as entry j goes
pub marks-same : (at bt : ℕ → ℕ) (us vs : List Use) (j : ℕ) → ((p : ℕ) → open_by (bt p) j (latest p vs) ≡ open_by (at p) j (latest p us))
    → marks_by bt vs j ≡ marks_by at us j
unfolding marks_by
marks-same at bt us vs j h = mask-same _ _ 16 (λ p l. h p)

-- player p's does
pub marks-put : (at bt : ℕ → ℕ) (us vs : List Use) (j p : ℕ) (v : Bool) → open_by (bt p) j (latest p vs) ≡ v
    → ((q : ℕ) → (q ≡ p → ⊥) → open_by (bt q) j (latest q vs) ≡ open_by (at q) j (latest q us))
    → marks_by bt vs j ≡ put_bit p v (marks_by at us j)
unfolding marks_by
marks-put at bt us vs j p v e h =
    sym (mask-put (λ q. open_by (at q) j (latest q us)) (λ q. open_by (bt q) j (latest q vs)) p h)
    ∙ ap (λ (b : Bool). put_bit p b (marks_by at us j)) e

-- a use of another entry, and one that is shut, mark nothing
pub open-other : (T j : ℕ) (u : Use) → (u.entry ≡ j → ⊥) → open_by T j (some u) ≡ false
open-other T j u h = rw (ne_eqb u.entry j h)

pub open-shut : (T j : ℕ) (u : Use) → is_open T u ≡ false → open_by T j (some u) ≡ false
open-shut T j u h = rw h (and-false (eqb u.entry j))

pub nobody-open : (T p j : ℕ) (us : List Use) → ((u : Use) → latest p us ≡ some u → is_open T u ≡ false) → open_by T j (latest p us) ≡ false
nobody-open T p j us h = go (latest p us) refl
  where
    go : (s : Option Use) → latest p us ≡ s → open_by T j s ≡ false
    go none e = refl
    go (some u) e = open-shut T j u (h u e)

-- an entry of which there is no use has no mark
pub no-marks : (at : ℕ → ℕ) (us : List Use) (n j : ℕ) → Every (λ u. u.entry < n) us → n ≤ j → marks_by at us j ≡ 0
unfolding marks_by
no-marks at us n j k h = mask-none _ 16 (λ p l. go p (latest p us) refl)
  where
    go : (p : ℕ) (s : Option Use) → latest p us ≡ s → open_by (at p) j s ≡ false
    go p none e = refl
    go p (some u) e = open-other (at p) j u (λ z. absurd (omega (arith, z, all-latest (λ v. v.entry < n) p us u e k)))

none_open : (T i : ℕ) → sum (λ p. one (open_by T i (latest p []))) 16 ≡ 0
unfolding sum latest
none_open T i = refl

open-sum : (T i : ℕ) (us : List Use) → Tidy T us → Every (λ u. u.player < 16) us
    → sum (λ p. one (open_by T i (latest p us))) 16 ≡ open_together T us i
unfolding sum_of
open-sum T i [] t k = none_open T i
open-sum T i (u ∷ us) t k =
    let p = u.player in
    let s =
    sum-change (λ q. one (open_by T i (latest q us))) (λ q. one (open_by T i (latest q (u ∷ us)))) p 16
    (λ q d. ap (λ (x : Option Use). one (open_by T i x)) (latest-new-other q u us (λ z. d (sym z)))) k.0 in
    let a = ap (λ (x : Option Use). one (open_by T i x)) (latest-new u us) in
    let b =
    ap one (nobody-open T p i us
    (λ v e. all-latest (ShutFor T p) p us v e t.0 (latest-player p us v e))) in
    omega (arith, s, a, b, open-sum T i us t.1 k.1)

-- how many players have the entry open is how many open uses it has
pub marks-together : (T i : ℕ) (us : List Use) → Tidy T us → Every (λ u. u.player < 16) us
    → ones (marks_by (λ p. T) us i) ≡ open_together T us i
unfolding marks_by
marks-together T i us t k = ones-mask (λ p. open_by T i (latest p us)) ∙ open-sum T i us t k
