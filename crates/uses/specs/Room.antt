-- What a grant adds to the meters, and its until, fit 32 bits.
use Rattle.std.specs.Prelude.{ℕ, ◌+◌, ◌-◌, ◌<◌, ◌≤◌, ◌≡◌, refl, Bool, true, false, cond, ltb}
use Rattle.std.proofs.Common.{arith, ltb-true}
use Rattle.std.proofs.lemmas.Bool.{not-false}
use Rattle.numbers.proofs.Tests.{none_pass}
use Rattle.book.specs.declared.Ask.{Ask}
use Rattle.book.specs.declared.Limits.{Limits}
use Rattle.book.specs.declared.Meters.{Meters}
use Rattle.model.specs.Book.{latest_time, grant_length, flagged, momentary}
use Rattle.model.specs.Meters.{where_flagged, interval_from}
use Rattle.model.specs.Choice.{cap, least_until, grant_until, fails, grounds_of, ground_list, grantable}
use Rattle.model.proofs.Ledger.Facts.{cap-le, cap-at}

-- what begun adds, for a begin at t until u, fits
pub record Room (t u : ℕ) (l : Limits) (m : Meters) : Type 0 where
  pub count : m.count + where_flagged (flagged 1 l) 1 < 4294967296
  pub timed : m.timed + where_flagged (flagged 2 l) 1 < 4294967296
  pub seconds : m.seconds + where_flagged (flagged 32 l) (u - t) < 4294967296

-- what continued adds, from u to v, fits
pub record MoreRoom (u v : ℕ) (l : Limits) (m : Meters) : Type 0 where
  pub seconds : m.seconds + where_flagged (flagged 32 l) (v - u) < 4294967296

-- the limits fit, as numbers of 32 bits do
pub record Narrow (l : Limits) (m : Meters) : Type 0 where
  pub count_limit : l.count < 4294967296
  pub timed_limit : l.timed < 4294967296
  pub seconds_limit : l.accumulated < 4294967296
  pub count : m.count < 4294967296
  pub timed : m.timed < 4294967296
  pub seconds : m.seconds < 4294967296

least-length : (t from : ℕ) (l : Limits) (m : Meters) → least_until t from l m ≤ t + 60
unfolding least_until grant_length
least-length t from l m =
    let paid = cap (flagged 32 l) (from + (l.accumulated - m.seconds)) (t + 60) in
    let due = cap (flagged 16 l) (interval_from t m + l.interval) paid in
    omega (
      arith,
      cap-le (flagged 8 l) (l.end + 1) due,
      cap-le (flagged 16 l) (interval_from t m + l.interval) paid,
      cap-le
          (flagged 32 l) (from + (l.accumulated - m.seconds)) (t + 60),
    )

least-paid : (t from : ℕ) (l : Limits) (m : Meters) → flagged 32 l ≡ true → least_until t from l m ≤ from + (l.accumulated - m.seconds)
unfolding least_until grant_length
least-paid t from l m h =
    let paid = cap (flagged 32 l) (from + (l.accumulated - m.seconds)) (t + 60) in
    let due = cap (flagged 16 l) (interval_from t m + l.interval) paid in
    omega (
      arith,
      cap-le (flagged 8 l) (l.end + 1) due,
      cap-le (flagged 16 l) (interval_from t m + l.interval) paid,
      cap-at
          (flagged 32 l) (from + (l.accumulated - m.seconds)) (t + 60) h,
    )

-- a continue's until, at a time that an event may have
pub more-fits : (t from : ℕ) (l : Limits) (m : Meters) → t ≤ latest_time → least_until t from l m < 4294967296
more-fits t from l m h = omega (arith, least-length t from l m)

momentary-length : (w : Bool) (t v : ℕ) → v ≤ t + 60 → cond w t v ≤ t + 60
momentary-length true t v h = omega arith
momentary-length false t v h = h

pub grant-fits : (t : ℕ) (l : Limits) (m : Meters) → t ≤ latest_time → grant_until t l m < 4294967296
unfolding grant_until
grant-fits t l m h = omega (arith, momentary-length (momentary l.kind) t (least_until t t l m) (least-length t t l m))

seconds-room :
    (w : Bool) (s a v u n : ℕ) →
    (w ≡ true → v ≤ u + (a - s)) →
    s < n →
    a < n →
    s + where_flagged w (v - u) < n
seconds-room true s a v u n h p q = omega (arith, h refl)
seconds-room false s a v u n h p q = omega arith

count_room : (w : Bool) (a b n : ℕ) → fails w (ltb a b) ≡ false → a < n → b < n → a + where_flagged w 1 < n
count_room true a b n h p q = omega (arith, ltb-true a b (not-false (ltb a b) h))
count_room false a b n h p q = omega arith

pub more_room :
    (t from : ℕ) (l : Limits) (m : Meters) →
    Narrow l m →
    MoreRoom from (least_until t from l m) l m
more_room t from l m n = record {
  seconds =
      seconds-room (flagged 32 l) m.seconds l.accumulated (least_until t from l m) from 4294967296 (least-paid t from l m)
      n.seconds n.seconds_limit;
}

momentary-paid : (w : Bool) (t v x : ℕ) → v ≤ t + x → cond w t v ≤ t + x
momentary-paid true t v x h = omega arith
momentary-paid false t v x h = h

pub grant-room : (ask : Ask) (l : Limits) (m : Meters) → grantable ask l m ≡ true → Narrow l m → Room ask.time
    (grant_until ask.time l m) l m
unfolding grounds_of grantable grant_until
grant-room ask l m g n =
    let tests = none_pass (ground_list (grounds_of ask l m)) g in
    record {
      count = count_room (flagged 1 l) m.count l.count 4294967296 tests.0 n.count n.count_limit;
      timed = count_room (flagged 2 l) m.timed l.timed 4294967296 tests.1.0 n.timed n.timed_limit;
      seconds = seconds-room (flagged 32 l) m.seconds l.accumulated
          (cond (momentary l.kind) ask.time (least_until ask.time ask.time l m)) ask.time 4294967296
          (λ h. momentary-paid (momentary l.kind) ask.time (least_until ask.time ask.time l m) (l.accumulated - m.seconds)
          (least-paid ask.time ask.time l m h)) n.seconds n.seconds_limit;
    }
