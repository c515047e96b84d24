-- The ledger's sums for the report, and how they change when a use is added, continued, stopped, taken back or comes to its end:
-- each change is what the uses that end add.
use mathlib.Core.Path.{◌≡◌, refl, sym, ap, ◌∙◌, fun_ext}
use Prim.Native.Nat.{ℕ, suc, ◌+◌, ◌≤◌, zero-le}
use mathlib.Core.Bool.{Bool, true, false, not, ◌&&◌, cond, and-true, and-false}
use mathlib.Core.List.{List, [], ◌∷◌, ◌++◌}
use mathlib.Core.Option.{some}
use lib.ListN.{length}
use lib.Dec.{leb, eqb}
use native.Mathlib.Omega.{arith}
use native.Mathlib.Nat.{add-zero, zero-add}
use borrow.Author.Tests.{leb-true, leb-false}
use Rattle.numbers.specs.Count.{one}
use Rattle.book.specs.declared.Limits.{Limits}
use Rattle.book.specs.declared.Meters.{Meters}
use Rattle.book.specs.declared.Answer.{Answer}
use Rattle.book.specs.declared.Open.{Open}
use Rattle.book.specs.declared.Request.TheVariants.{Cancel}
use Rattle.book.specs.declared.Player.{Player}
use Rattle.model.specs.Meters.{expired}
use Rattle.model.specs.Step.{open_at}
use Rattle.model.specs.Report.{Ended, ended_at, ended_by, overdue}
use Rattle.model.specs.Ledger.{Use, is_open, ran, latest, revise, sum_of, stop_at, go_on}
use Rattle.model.specs.Demand3.{Every, held_in}
use Rattle.model.proofs.Ledger.Facts.{on_test}
use Rattle.model.proofs.Ledger.Sums.{latest-player, sum-ext, sum-revise, Tidy, all-shut, sum-latest, sum-nobody}
use Rattle.model.proofs.Ledger.Figures.{stage, stage-done, stage-left, stage-other, stage-shut, open-on, stopped-shut}
use Rattle.model.proofs.Ledger.Invariant.{Invariant, Sound, held-cases, held_as, open-over, open-still}

-- ## What a use adds

-- what a use of so many seconds adds: one time or none, or the seconds
abbrev pub Value : Type 0
Value = Limits → ℕ → ℕ

abbrev pub times_of : Value
times_of l seconds = one (leb l.timedvalue seconds)

abbrev pub seconds_of : Value
seconds_of l seconds = seconds

abbrev pub weighs : Value → (ℕ → ℕ) → (ℕ → Limits) → ℕ → Use → ℕ
weighs v at lim c u =
    cond (eqb u.content c && eqb (lim u.entry).tracked 1 && not (is_open (at u.player) u)) (v (lim u.entry) (ran u)) 0

-- the same of a use that has ended
abbrev pub gain : Value → (ℕ → Limits) → ℕ → Ended → ℕ
gain v lim c x = cond (eqb x.content c && eqb (lim x.entry).tracked 1) (v (lim x.entry) x.seconds) 0

unfoldable pub total : Value → (ℕ → Limits) → ℕ → List Ended → ℕ
total v lim c [] = 0
total v lim c (x ∷ xs) = gain v lim c x + total v lim c xs

pub total-one : (v : Value) (lim : ℕ → Limits) (c : ℕ) (x : Ended) → total v lim c (x ∷ []) ≡ gain v lim c x
unfolding total
total-one v lim c x = omega arith

pub total-none : (v : Value) (lim : ℕ → Limits) (c : ℕ) → total v lim c [] ≡ 0
unfolding total
total-none v lim c = refl

pub total-append : (v : Value) (lim : ℕ → Limits) (c : ℕ) (xs ys : List Ended)
    → total v lim c (xs ++ ys) ≡ total v lim c xs + total v lim c ys
unfolding total
total-append v lim c [] ys = omega arith
total-append v lim c (x ∷ xs) ys = omega (arith, total-append v lim c xs ys)

-- a use of the ledger, ended
abbrev pub ended_as : Use → Ended
ended_as u = record { entry = u.entry; content = u.content; seconds = ran u }

module _ (v : Value) (at : ℕ → ℕ) (lim : ℕ → Limits) (c : ℕ) (u : Use) where
  pub weighs-open : is_open (at u.player) u ≡ true → weighs v at lim c u ≡ 0
  weighs-open e = rw (e, and-false (eqb u.content c && eqb (lim u.entry).tracked 1))

  pub weighs-shut : is_open (at u.player) u ≡ false → weighs v at lim c u ≡ gain v lim c (ended_as u)
  weighs-shut e = rw (e, and-true (eqb u.content c && eqb (lim u.entry).tracked 1))

-- ## A player's latest use is revised

module _ (v : Value) (at : ℕ → ℕ) (lim : ℕ → Limits) (c : ℕ) (us : List Use) (p : ℕ) (u : Use) (s : latest p us ≡ some u)
    (o : is_open (at u.player) u ≡ true) where
  pub report-continued : (w : ℕ) → u.until ≤ w → sum_of (weighs v at lim c) (revise p (go_on w) us) ≡ sum_of (weighs v at lim c) us
  report-continued w k =
      omega (
        arith,
        sum-revise (weighs v at lim c) p (go_on w) us u s,
        weighs-open v at lim c u o,
        weighs-open v at lim c (go_on w u) (open-on (at u.player) w u k o),
      )

  pub report-stopped : (e : ℕ) → sum_of (weighs v at lim c) (revise p (stop_at e) us)
      ≡ sum_of (weighs v at lim c) us + gain v lim c (ended_as (stop_at e u))
  report-stopped e =
      omega (
        arith,
        sum-revise (weighs v at lim c) p (stop_at e) us u s,
        weighs-open v at lim c u o,
        weighs-shut v at lim c (stop_at e u) (stopped-shut (at u.player) e u),
      )

-- an open use is taken back: nothing is recorded, and it had added nothing
pub cancel-ends : (t : ℕ) (o : Open) (a : Answer) → ended_by Cancel t o a ≡ []
unfolding ended_by
cancel-ends t o a = refl

pub report-cancelled : (v : Value) (at : ℕ → ℕ) (lim : ℕ → Limits) (c : ℕ) (u : Use) (us : List Use) → is_open (at u.player) u ≡ true
    → sum_of (weighs v at lim c) us ≡ sum_of (weighs v at lim c) (u ∷ us)
unfolding sum_of
report-cancelled v at lim c u us o = omega (arith, weighs-open v at lim c u o)

-- ## Settling

-- the use that ends when one player is settled
abbrev overdue_one : ℕ → Open → List Ended
overdue_one T o = cond (expired T o) (ended_at o.until o ∷ []) []

overdue-first : (T : ℕ) (x : Player) (ps : List Player) → overdue T (x ∷ ps) ≡ overdue_one T x.current ++ overdue T ps
unfolding overdue
overdue-first T x ps = on_test (expired T x.current) (λ q. rw q) (λ q. rw q)

module _ (v : Value) (lim : ℕ → Limits) (c S T : ℕ) (us : List Use) (later : S ≤ T) (tidy : Tidy S us) where
  abbrev staged_sum : ℕ → ℕ
  staged_sum q = sum_of (weighs v (stage S T q) lim c) us

  weights-other : (q : ℕ) (u : Use) → (u.player ≡ q → ⊥) → weighs v (stage S T q) lim c u ≡ weighs v (stage S T (suc q)) lim c u
  weights-other q u h = rw (stage-other S T q u.player h)

  weights-shut : (q : ℕ) (u : Use) → is_open S u ≡ false → weighs v (stage S T q) lim c u ≡ weighs v (stage S T (suc q)) lim c u
  weights-shut q u e = rw (stage-shut S T q u.player u later e, stage-shut S T (suc q) u.player u later e)

  settle-one : (q : ℕ) (o : Open) → o ≡ held_in S q us → staged_sum (suc q) ≡ staged_sum q + total v lim c (overdue_one T o)
  unfolding expired
  settle-one q o e =
      held-cases S q us o e
      (λ z g. rw z
      (sum-nobody _ _ S q (weights-other q) (weights-shut q) us (all-shut S q us tidy g) ∙ omega (arith, total-none v lim c)))
      (λ u s z y.
      let change = sum-latest _ _ S q (weights-other q) (weights-shut q) us u tidy s in
      let own = latest-player q us u s in
      let before = weighs-open v (stage S T q) lim c u (rw (stage-left S T q u.player (omega arith)) z) in
      rw y
      (on_test (leb u.until T)
      (λ r. rw r
      (let after = weighs-shut v (stage S T (suc q)) lim c u
      (rw (stage-done S T (suc q) u.player (omega arith)) (open-over T u (leb-true u.until T r))) in
      omega (arith, change, before, after, total-one v lim c (ended_as u))))
      (λ r. rw r
      (let after = weighs-open v (stage S T (suc q)) lim c u
      (rw (stage-done S T (suc q) u.player (omega arith)) (open-still S T u z (leb-false u.until T r))) in
      omega (arith, change, before, after, total-none v lim c)))))

  settle-all : (ps : List Player) (q : ℕ) → ((j : ℕ) → open_at ps j ≡ held_in S (q + j) us)
      → staged_sum (q + length ps) ≡ staged_sum q + total v lim c (overdue T ps)
  unfolding overdue
  settle-all [] q e = rw (add-zero q) (omega (arith, total-none v lim c))
  settle-all (x ∷ ps) q e =
      let z : (q + suc (length ps)) ≡ suc q + length ps = omega arith in
      let first = settle-one q x.current (rw (add-zero q) at (e 0)) in
      let rest = settle-all ps (suc q) (λ j. let y : suc q + j ≡ q + suc j = omega arith in rw y (e (suc j))) in
      rw z (rest ∙ omega (
        arith,
        first,
        total-append v lim c (overdue_one T x.current) (overdue T ps),
        ap (total v lim c) (overdue-first T x ps),
      ))

-- all players are settled
pub settled-report : (v : Value) (c S T n : ℕ) (lim : ℕ → Limits) (met : ℕ → Meters) (ps : List Player) (us : List Use) → S ≤ T
    → Invariant S (length ps) n lim met (open_at ps) us
    → sum_of (weighs v (λ _. T) lim c) us ≡ sum_of (weighs v (λ _. S) lim c) us + total v lim c (overdue T ps)
settled-report v c S T n lim met ps us later h =
    let none_yet : stage S T 0 ≡ (λ p. S) = fun_ext (λ p. stage-left S T 0 p zero-le) in
    let all_done : sum_of (weighs v (stage S T (length ps)) lim c) us ≡ sum_of (weighs v (λ _. T) lim c) us =
    sum-ext {P = Sound S (length ps) n lim} (weighs v (stage S T (length ps)) lim c) (weighs v (λ _. T) lim c)
    (λ u w. rw (stage-done S T (length ps) u.player w.player)) us h.sound in
    let part = settle-all v lim c S T us later h.tidy ps 0 (λ j. rw (zero-add j) (h.opens j)) in
    sym all_done ∙ ap (λ (q : ℕ). sum_of (weighs v (stage S T q) lim c) us) (sym (zero-add (length ps))) ∙ part
    ∙ ap (λ (at : ℕ → ℕ). sum_of (weighs v at lim c) us + total v lim c (overdue T ps)) none_yet
