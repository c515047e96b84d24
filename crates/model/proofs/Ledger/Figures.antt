-- How the ledger's figures change when a use is added, continued, stopped, taken back or comes to its end.
-- Each change is what the rules do to an entry's meters.
use mathlib.Core.Path.{◌≡◌, refl, sym, ap, subst, ◌∙◌}
use Prim.Native.Nat.{ℕ, suc, ◌+◌, ◌-◌, ◌≤◌, ◌<◌, min}
use mathlib.Core.Bool.{Bool, true, false, not, ◌&&◌, cond}
use mathlib.Core.List.{List, [], ◌∷◌}
use mathlib.Core.Option.{Option, none, some, none-ne-some}
use lib.Dec.{leb, ltb, eqb}
use native.Mathlib.Omega.{arith}
use borrow.Author.Tests.{ne_eqb, ltb-true, ltb-false, lt-ltb, le-ltb, leb-true, leb-false}
use Rattle.book.specs.declared.Limits.{Limits}
use Rattle.book.specs.declared.Recent.{Recent}
use Rattle.numbers.specs.Count.{one}
use Rattle.numbers.specs.Bits.{put_bit}
use Rattle.model.specs.Book.{flagged, momentary}
use Rattle.model.specs.Meters.{where_flagged, begun, continued, ended, cancelled}
use Rattle.model.proofs.Ledger.Facts.{on_test, on_same, and_left, and_right, and_both, eqb-self, flag-add, meters-path}
use Rattle.model.specs.Ledger.{Use, is_open, ran, latest, revise, sum_of, counts, counts_timed, counts_seconds, earliest, sooner, stop_at}
use Rattle.model.specs.Ledger.{go_on, open_by, marks_by}
use Rattle.model.specs.Demand3.{Every, is_some, start_or, figures}
use Rattle.model.proofs.Ledger.Sums.{latest-player, sum-revise, Kept, earliest-revise, Tidy, open-falls, all-shut, sum-latest}
use Rattle.model.proofs.Ledger.Sums.{sum-nobody, latest-revise, latest-revise-other, latest-new, latest-new-other}
use Rattle.model.proofs.Ledger.Marks.{marks-same, marks-put, open-other, open-shut, nobody-open}

pub stop_at-keeps : (e : ℕ) → Kept (stop_at e)
stop_at-keeps e = record { entry = λ u. refl; player = λ u. refl; begin = λ u. refl }

pub go_on-keeps : (v : ℕ) → Kept (go_on v)
go_on-keeps v = record { entry = λ u. refl; player = λ u. refl; begin = λ u. refl }

-- ## Weights

pub timed-open : (at : ℕ → ℕ) (r : ℕ) (u : Use) → is_open (at u.player) u ≡ true → counts_timed at r u.entry u ≡ 1
timed-open at r u e = rw (eqb-self u.entry, e)

pub timed-shut : (at : ℕ → ℕ) (r : ℕ) (u : Use) → is_open (at u.player) u ≡ false → counts_timed at r u.entry u ≡ one (leb r (ran u))
timed-shut at r u e = rw (eqb-self u.entry, e)

pub timed-other : (at : ℕ → ℕ) (r j : ℕ) (u : Use) → (u.entry ≡ j → ⊥) → counts_timed at r j u ≡ 0
timed-other at r j u h = rw (ne_eqb u.entry j h)

pub counts-other : (j : ℕ) (u : Use) → (u.entry ≡ j → ⊥) → counts j u ≡ 0
counts-other j u h = rw (ne_eqb u.entry j h)

pub seconds-other : (j : ℕ) (u : Use) → (u.entry ≡ j → ⊥) → counts_seconds j u ≡ 0
seconds-other j u h = rw (ne_eqb u.entry j h)

pub counts-own : (u : Use) → counts u.entry u ≡ 1
counts-own u = rw (eqb-self u.entry)

pub seconds-own : (u : Use) → counts_seconds u.entry u ≡ ran u
seconds-own u = rw (eqb-self u.entry)

-- a timed count goes back if the use ran for less than the timer
pub timed-back : (f : Bool) (a b r x : ℕ) → b + 1 ≡ a + one (leb r x) → where_flagged f b ≡ where_flagged f a - where_flagged
    (f && ltb x r) 1
timed-back false a b r x e = omega arith
timed-back true a b r x e =
    on_test (leb r x)
    (λ q. rw (le-ltb x r (leb-true r x q)) (omega (arith, rw q at e)))
    (λ q. rw (lt-ltb x r (leb-false r x q)) (omega (arith, rw q at e)))

pub seconds-back : (f : Bool) (a b x : ℕ) → b + x ≡ a → where_flagged f b ≡ where_flagged f a - where_flagged f x
seconds-back true a b x e = omega arith
seconds-back false a b x e = omega arith

pub open-until : (T : ℕ) (u : Use) → is_open T u ≡ true → T < u.until
unfolding is_open
open-until T u e = ltb-true T u.until (and_right (not u.stopped) (ltb T u.until) e)

pub open-on : (T v : ℕ) (u : Use) → u.until ≤ v → is_open T u ≡ true → is_open T (go_on v u) ≡ true
unfolding is_open
open-on T v u h e = and_both (and_left (not u.stopped) (ltb T u.until) e) (lt-ltb T v (omega (arith, open-until T u e)))

pub stopped-shut : (T e : ℕ) (u : Use) → is_open T (stop_at e u) ≡ false
unfolding is_open
stopped-shut T e u = refl

-- ## Revisions

module _ (at : ℕ → ℕ) (us : List Use) (l : Limits) where
  -- the revised use, and the others
  own-revised : (f : Use → Use) → Kept f → (p : ℕ) (u : Use) → latest p us ≡ some u → (T j : ℕ)
      → open_by T j (latest p (revise p f us)) ≡ open_by T j (some (f u))
  own-revised f k p u e T j = ap (open_by T j) (latest-revise f k p us u e)

  others-revised : (f : Use → Use) → Kept f → (p j q : ℕ) → (q ≡ p → ⊥)
      → open_by (at q) j (latest q (revise p f us)) ≡ open_by (at q) j (latest q us)
  others-revised f k p j q d = ap (open_by (at q) j) (latest-revise-other f k p q d us)

  revised-same : (f : Use → Use) → Kept f → (p : ℕ) (u : Use) → latest p us ≡ some u → (j : ℕ)
      → open_by (at p) j (some (f u)) ≡ open_by (at p) j (some u) → marks_by at (revise p f us) j ≡ marks_by at us j
  revised-same f k p u e j h =
      marks-same at at us (revise p f us) j
      (λ q. on_same q p
      (λ x. rw x (own-revised f k p u e (at p) j ∙ h ∙ sym (ap (open_by (at p) j) e)))
      (others-revised f k p j q))

  pub figures-other : (f : Use → Use) → Kept f → (p : ℕ) (u : Use) → latest p us ≡ some u → (j : ℕ) → (u.entry ≡ j → ⊥) → figures at
      (revise p f us) j l ≡ figures at us j l
  unfolding figures
  figures-other f k p u e j h =
      let g : (f u).entry ≡ j → ⊥ = λ z. h (sym (k.entry u) ∙ z) in
      meters-path
      (ap (where_flagged (flagged 1 l)) (omega (arith, sum-revise (counts j) p f us u e, counts-other j u h, counts-other j (f u) g)))
      (ap (where_flagged (flagged 2 l)) (omega (
        arith,
        sum-revise (counts_timed at l.timer j) p f us u e,
        timed-other at l.timer j
            u h,
        timed-other at l.timer j (f u) g,
      )))
      (rw (earliest-revise f k j p us))
      (rw (earliest-revise f k j p us))
      (ap (where_flagged (flagged 32 l)) (omega (
        arith,
        sum-revise (counts_seconds j) p f us u e,
        seconds-other j u h,
        seconds-other j
            (f u) g,
      )))
      (revised-same f k p u e j (open-other (at p) j (f u) g ∙ sym (open-other (at p) j u h)))

  -- the use of entry u .entry is stopped at e
  pub figures-ended : (p : ℕ) (u : Use) (e : ℕ) → latest p us ≡ some u → is_open (at u.player) u ≡ true → u.begin ≤ e → e ≤ u.until →
      figures at (revise p (stop_at e) us) u.entry l ≡ ended p u.begin u.until e l (figures at us u.entry l)
  unfolding figures ended
  figures-ended p u e s o h k =
      meters-path
      (ap (where_flagged (flagged 1 l)) (omega (arith, sum-revise (counts u.entry) p (stop_at e) us u s)))
      (timed-back (flagged 2 l) _ _ l.timer (e - u.begin)
      (omega (
        arith,
        sum-revise (counts_timed at l.timer u.entry) p (stop_at e) us u s,
        timed-open at l.timer u o,
        timed-shut at
            l.timer (stop_at e u) (stopped-shut (at u.player) e u),
      )))
      (rw (earliest-revise (stop_at e) (stop_at-keeps e) u.entry p us))
      (rw (earliest-revise (stop_at e) (stop_at-keeps e) u.entry p us))
      (seconds-back (flagged 32 l) _ _ (u.until - e) (omega (
        arith,
        sum-revise (counts_seconds u.entry) p (stop_at e) us u s,
        seconds-own u,
        seconds-own (stop_at e u),
      )))
      (marks-put at at us (revise p (stop_at e) us) u.entry p false
      (own-revised (stop_at e) (stop_at-keeps e) p u s (at p) u.entry ∙ open-shut (at p) u.entry (stop_at e u) (stopped-shut (at p) e u))
      (others-revised (stop_at e) (stop_at-keeps e) p u.entry))

  pub figures-continued : (p : ℕ) (u : Use) (v : ℕ) → latest p us ≡ some u → is_open (at u.player) u ≡ true → u.begin ≤ u.until → u.until ≤ v →
      figures at (revise p (go_on v) us) u.entry l ≡ continued u.until v l (figures at us u.entry l)
  unfolding figures continued
  figures-continued p u v s o h k =
      meters-path
      (ap (where_flagged (flagged 1 l)) (omega (arith, sum-revise (counts u.entry) p (go_on v) us u s)))
      (ap (where_flagged (flagged 2 l)) (omega (
        arith,
        sum-revise (counts_timed at l.timer u.entry) p (go_on v) us u s,
        timed-open
            at l.timer u o,
        timed-open at l.timer (go_on v u) (open-on (at u.player) v u k o),
      )))
      (rw (earliest-revise (go_on v) (go_on-keeps v) u.entry p us))
      (rw (earliest-revise (go_on v) (go_on-keeps v) u.entry p us))
      (ap (where_flagged (flagged 32 l)) (omega (
        arith,
        sum-revise (counts_seconds u.entry) p (go_on v) us u s,
        seconds-own u,
        seconds-own (go_on v u),
      )) ∙ flag-add (flagged 32 l) _ (v - u.until))
      (revised-same (go_on v) (go_on-keeps v) p u s u.entry
      (let o' = subst (λ (x : ℕ). is_open (at x) u ≡ true) (latest-player p us u s) o in rw (open-on (at p) v u k o', o')))

-- ## A new use

pub earliest-le : (T i : ℕ) (us : List Use) (c : ℕ) → Every (λ u. u.begin ≤ T) us → earliest i us ≡ some c → c ≤ T
unfolding earliest
earliest-le T i [] c h e = absurd (none-ne-some c e)
earliest-le T i (u ∷ us) c h e =
    on_test (eqb u.entry i)
    (λ q. go (earliest i us) (rw q at e))
    (λ q. earliest-le T i us c h.1 (rw q at e))
  where
    go : (s : Option ℕ) → ◌≡◌ {A = Option ℕ} (some (sooner u.begin s)) (some c) → c ≤ T
    go none z = let y : u.begin ≡ c = cc in omega arith
    go (some d) z = let y : min u.begin d ≡ c = cc in omega arith

started-begun : (f : Bool) → one (f && true) ≡ one f
started-begun true = refl
started-begun false = refl

first-begun : (f : Bool) (b : ℕ) (s : Option ℕ) → ((c : ℕ) → s ≡ some c → c ≤ b)
    → where_flagged f (sooner b s) ≡ where_flagged f (cond (eqb (one (f && is_some s)) 1) (where_flagged f (start_or 0 s)) b)
first-begun false b s h = refl
first-begun true b none h = refl
first-begun true b (some c) h = omega (arith, h c refl)

module _ (at : ℕ → ℕ) (us : List Use) (l : Limits) where
  module _ (u : Use) (nobody : (v : Use) → latest u.player us ≡ some v → is_open (at u.player) v ≡ false) where
    others-new : (j q : ℕ) → (q ≡ u.player → ⊥) → open_by (at q) j (latest q (u ∷ us)) ≡ open_by (at q) j (latest q us)
    others-new j q d = ap (open_by (at q) j) (latest-new-other q u us (λ z. d (sym z)))

    new-same : (j : ℕ) → open_by (at u.player) j (some u) ≡ false → marks_by at (u ∷ us) j ≡ marks_by at us j
    new-same j h =
        marks-same at at us (u ∷ us) j
        (λ q. on_same q u.player
        (λ x. rw x (ap (open_by (at u.player) j) (latest-new u us) ∙ h ∙ sym (nobody-open (at u.player) u.player j us nobody)))
        (others-new j q))

    -- a use that opens sets its player's mark, a momentary one leaves the marks
    new-marks : is_open (at u.player) u ≡ not (momentary l.kind)
        → marks_by at (u ∷ us) u.entry
        ≡ cond (momentary l.kind) (marks_by at us u.entry) (put_bit u.player true (marks_by at us u.entry))
    new-marks o =
        on_test (momentary l.kind)
        (λ e. rw e (new-same u.entry (open-shut (at u.player) u.entry u (rw e at o))))
        (λ e. rw e
        (marks-put at at us (u ∷ us) u.entry u.player true
        (ap (open_by (at u.player) u.entry) (latest-new u us) ∙ rw (eqb-self u.entry) (rw e at o))
        (others-new u.entry)))

  pub figures-new-other : (u : Use) → ((v : Use) → latest u.player us ≡ some v → is_open (at u.player) v ≡ false)
      → (j : ℕ) → (u.entry ≡ j → ⊥) → figures at (u ∷ us) j l ≡ figures at us j l
  unfolding figures sum_of earliest
  figures-new-other u nobody j h =
      meters-path
      (ap (where_flagged (flagged 1 l)) (omega (arith, counts-other j u h)))
      (ap (where_flagged (flagged 2 l)) (omega (arith, timed-other at l.timer j u h)))
      (rw (ne_eqb u.entry j h))
      (rw (ne_eqb u.entry j h))
      (ap (where_flagged (flagged 32 l)) (omega (arith, seconds-other j u h)))
      (new-same u nobody j (open-other (at u.player) j u h))

  -- a begin no earlier than any other, of a player with nothing open
  pub figures-begun : (u : Use) → Every (λ v. v.begin ≤ u.begin) us → counts_timed at l.timer u.entry u ≡ 1
      → ((v : Use) → latest u.player us ≡ some v → is_open (at u.player) v ≡ false)
      → is_open (at u.player) u ≡ not (momentary l.kind) →
      figures at (u ∷ us) u.entry l ≡ begun u.player u.begin u.until l (figures at us u.entry l)
  unfolding figures begun sum_of earliest
  figures-begun u h o nobody runs =
      meters-path
      (ap (where_flagged (flagged 1 l)) (omega (arith, counts-own u)) ∙ flag-add (flagged 1 l) _ 1)
      (ap (where_flagged (flagged 2 l)) (omega (arith, o)) ∙ flag-add (flagged 2 l) _ 1)
      (rw (eqb-self u.entry) (started-begun (flagged 16 l)))
      (rw (eqb-self u.entry) (first-begun (flagged 16 l) u.begin (earliest u.entry us)
      (λ c e. earliest-le u.begin u.entry us c h e)))
      (ap (where_flagged (flagged 32 l)) (omega (arith, seconds-own u)) ∙ flag-add (flagged 32 l) _ (u.until - u.begin))
      (new-marks u nobody runs)

-- ## The newest use is taken back

started-cancelled : (f : Bool) (s : Option ℕ) → one (f && is_some s) ≡ cond (f && not (is_some s)) 0 (one (f && true))
started-cancelled true none = refl
started-cancelled true (some c) = refl
started-cancelled false s = refl

first-cancelled : (f : Bool) (b : ℕ) (s : Option ℕ) → ((c : ℕ) → s ≡ some c → c ≤ b)
    → where_flagged f (start_or 0 s) ≡ cond (f && not (is_some s)) 0 (where_flagged f (sooner b s))
first-cancelled false b s h = refl
first-cancelled true b none h = refl
first-cancelled true b (some c) h = omega (arith, h c refl)

-- a begin no earlier than any other, of a player whose other uses have ended; r is what is known of it
pub figures-cancelled : (at : ℕ → ℕ) (us : List Use) (l : Limits) (u : Use) → Every (λ v. v.begin ≤ u.begin) us
    → is_open (at u.player) u ≡ true → ((v : Use) → latest u.player us ≡ some v → is_open (at u.player) v ≡ false)
    → (r : Recent) → r.started ≡ (flagged 16 l && not (is_some (earliest u.entry us)))
    → figures at us u.entry l ≡ cancelled u.player r u.begin u.until l (figures at (u ∷ us) u.entry l)
unfolding figures cancelled sum_of earliest
figures-cancelled at us l u h o nobody r e =
    rw e
    (meters-path
    (seconds-back (flagged 1 l) _ _ 1 (omega (arith, counts-own u)))
    (seconds-back (flagged 2 l) _ _ 1 (omega (arith, timed-open at l.timer u o)))
    (rw (eqb-self u.entry) (started-cancelled (flagged 16 l) (earliest u.entry us)))
    (rw (eqb-self u.entry) (first-cancelled (flagged 16 l) u.begin (earliest u.entry us)
    (λ c x. earliest-le u.begin u.entry us c h x)))
    (seconds-back (flagged 32 l) _ _ (u.until - u.begin) (omega (arith, seconds-own u)))
    (marks-put at at (u ∷ us) us u.entry u.player false
    (nobody-open (at u.player) u.player u.entry us nobody)
    (λ q d. sym (others-new at us l u nobody u.entry q d))))

-- ## Settling one player: the time at which its uses are judged moves from S to T

-- players below q are judged at T, the others at S
unfoldable pub stage : ℕ → ℕ → ℕ → ℕ → ℕ
stage S T q p = cond (ltb p q) T S

pub stage-done : (S T q p : ℕ) → p < q → stage S T q p ≡ T
unfolding stage
stage-done S T q p h = rw (lt-ltb p q h)

pub stage-left : (S T q p : ℕ) → q ≤ p → stage S T q p ≡ S
unfolding stage
stage-left S T q p h = rw (le-ltb p q h)

pub stage-other : (S T q p : ℕ) → (p ≡ q → ⊥) → stage S T (suc q) p ≡ stage S T q p
unfolding stage
stage-other S T q p h =
    on_test (ltb p q)
    (λ e. rw (e, lt-ltb p (suc q) (omega (arith, ltb-true p q e))))
    (λ e. rw (e, le-ltb p (suc q) (omega (arith, ltb-false p q e))))

pub stage-shut : (S T q p : ℕ) (u : Use) → S ≤ T → is_open S u ≡ false → is_open (stage S T q p) u ≡ false
unfolding stage
stage-shut S T q p u h e = on_test (ltb p q) (λ z. rw z (open-falls S T u h e)) (λ z. rw z e)

module _ (S T q : ℕ) (us : List Use) (l : Limits) (later : S ≤ T) (tidy : Tidy S us) where
  weights-other : (j : ℕ) (u : Use) → (u.player ≡ q → ⊥) → counts_timed (stage S T q) l.timer j u ≡ counts_timed (stage S T (suc q))
      l.timer j u
  weights-other j u h = rw (stage-other S T q u.player h)

  weights-shut : (j : ℕ) (u : Use) → is_open S u ≡ false → counts_timed (stage S T q) l.timer j u ≡ counts_timed (stage S T (suc q))
      l.timer j u
  weights-shut j u e = rw (stage-shut S T q u.player u later e, stage-shut S T (suc q) u.player u later e)

  -- at player q's turn its own uses are judged at S, and then at T
  abbrev before : ℕ → Bool
  before j = open_by (stage S T q q) j (latest q us)

  abbrev after : ℕ → Bool
  after j = open_by (stage S T (suc q) q) j (latest q us)

  others-staged : (j p : ℕ) → (p ≡ q → ⊥) → open_by (stage S T (suc q) p) j (latest p us) ≡ open_by (stage S T q p) j (latest p us)
  others-staged j p d = ap (λ (x : ℕ). open_by x j (latest p us)) (stage-other S T q p d)

  same-timed : (j : ℕ) → sum_of (counts_timed (stage S T (suc q)) l.timer j) us ≡ sum_of (counts_timed (stage S T q) l.timer j) us →
      after j ≡ before j → figures (stage S T (suc q)) us j l ≡ figures (stage S T q) us j l
  unfolding figures
  same-timed j e m =
      meters-path refl (ap (where_flagged (flagged 2 l)) e) refl refl refl
      (marks-same (stage S T q) (stage S T (suc q)) us us j (λ p. on_same p q (λ x. rw x m) (others-staged j p)))

  by-latest : (j : ℕ) (u : Use) → latest q us ≡ some u
      → open_by (stage S T (suc q) q) j (some u) ≡ open_by (stage S T q q) j (some u) → after j ≡ before j
  by-latest j u s h = ap (open_by (stage S T (suc q) q) j) s ∙ h ∙ sym (ap (open_by (stage S T q q) j) s)

  -- nothing of player q was open
  pub settle-nobody : (j : ℕ) → ((u : Use) → latest q us ≡ some u → is_open S u ≡ false) → figures (stage S T (suc q)) us j l ≡ figures
      (stage S T q) us j l
  settle-nobody j g =
      same-timed j (sum-nobody _ _ S q (weights-other j) (weights-shut j) us (all-shut S q us tidy g))
      (nobody-open (stage S T (suc q) q) q j us (λ u e. stage-shut S T (suc q) q u later (g u e))
      ∙ sym (nobody-open (stage S T q q) q j us (λ u e. stage-shut S T q q u later (g u e))))

  -- player q's use u goes on
  pub settle-open : (j : ℕ) (u : Use) → latest q us ≡ some u → is_open S u ≡ true → is_open T u ≡ true → figures (stage S T (suc q)) us j
      l ≡ figures (stage S T q) us j l
  settle-open j u s o z =
      let a : is_open (stage S T q u.player) u ≡ true = rw (stage-left S T q u.player (omega (arith, latest-player q us u s))) o in
      let b : is_open (stage S T (suc q) u.player) u ≡ true = rw
      (stage-done S T (suc q) u.player (omega (arith, latest-player q us u s))) z in
      let c : counts_timed (stage S T q) l.timer j u ≡ counts_timed (stage S T (suc q)) l.timer j u = rw (a, b) in
      same-timed j (omega (arith, sum-latest _ _ S q (weights-other j) (weights-shut j) us u tidy s))
      (by-latest j u s
      (rw (stage-left S T q q (omega arith), stage-done S T (suc q) q (omega arith), o, z)))

  -- it is of another entry
  pub settle_other : (j : ℕ) (u : Use) → latest q us ≡ some u → (u.entry ≡ j → ⊥) → figures (stage S T (suc q)) us j l ≡ figures
      (stage S T q) us j l
  settle_other j u s h =
      same-timed j (omega (
        arith,
        sum-latest _ _ S q (weights-other j) (weights-shut j) us u tidy s,
        timed-other (stage S T q)
            l.timer j u h,
        timed-other (stage S T (suc q)) l.timer j u h,
      ))
      (by-latest j u s (open-other (stage S T (suc q) q) j u h ∙ sym (open-other (stage S T q q) j u h)))

  -- it has come to its end
  pub settle-ended : (u : Use) → latest q us ≡ some u → is_open S u ≡ true → is_open T u ≡ false →
      figures (stage S T (suc q)) us u.entry l ≡ ended q u.begin u.until u.until l (figures (stage S T q) us u.entry l)
  unfolding figures ended
  settle-ended u s o z =
      let a : is_open (stage S T q u.player) u ≡ true = rw (stage-left S T q u.player (omega (arith, latest-player q us u s))) o in
      let b : is_open (stage S T (suc q) u.player) u ≡ false = rw
      (stage-done S T (suc q) u.player (omega (arith, latest-player q us u s))) z in
      meters-path refl
      (timed-back (flagged 2 l) _ _ l.timer (ran u) (omega (
        arith,
        sum-latest _ _ S q (weights-other u.entry) (weights-shut u.entry) us u tidy s,
        timed-open (stage S T q) l.timer u
            a,
        timed-shut (stage S T (suc q)) l.timer u b,
      )))
      refl refl
      (seconds-back (flagged 32 l) _ _ (u.until - u.until) (omega arith))
      (marks-put (stage S T q) (stage S T (suc q)) us us u.entry q false
      (ap (open_by (stage S T (suc q) q) u.entry) s
      ∙ open-shut (stage S T (suc q) q) u.entry u (rw (stage-done S T (suc q) q (omega arith)) z))
      (others-staged u.entry))
