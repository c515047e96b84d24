-- `calendar::days_before` meets its contract: the constant passes the test of a table of month starts, and the month is one of it.
use mathlib.Core.Path.{◌≡◌, refl, sym, ◌∙◌}
use mathlib.Core.Bool.{Bool, true}
use Prim.Native.Nat.{ℕ, ◌≤◌}
use native.Mathlib.Omega.{arith}
use lib.Dec.{leb}
use borrow.Author.Tests.{leb-true}
use Rattle.numbers.proofs.Tests.{and_left, and_right}
use Rattle.model.specs.Book.{between}
use Rattle.xml_model.specs.Calendar.{leap, month_days, month_length, in_calendar, days_before}
use Rattle.calendar.specs.MonthStarts.{starts_from, table_test}
use Rattle.calendar.proofs.TableTest.{month-starts}
use Rattle.calendar.proofs.days_before.Goals as goal

-- what the test says of the year and the month
record InRange (year month : ℕ) : Type 0 where
  from : 1970 ≤ year
  to : year ≤ 2096
  first : 1 ≤ month
  last : month ≤ 12

in-range : (year month : ℕ) {w : Bool} → w ≡ in_calendar year month → w ≡ true → InRange year month
unfolding in_calendar
in-range year month e h =
    let p = sym e ∙ h in
    let y = and_left (between 1970 2096 year) (between 1 12 month) p in
    let m = and_right (between 1970 2096 year) (between 1 12 month) p in
    record {
      from = leb-true 1970 year (and_left (leb 1970 year) (leb year 2096) y);
      to = leb-true year 2096 (and_right (leb 1970 year) (leb year 2096) y);
      first = leb-true 1 month (and_left (leb 1 month) (leb month 12) m);
      last = leb-true month 12 (and_right (leb 1 month) (leb month 12) m);
    }

-- where the table is read, year and month are in the calendar
range : (c : goal.Then-in_calendar) → InRange c.args.year c.args.month
range c =
    let a = c.args in
    in-range a.year a.month c.in_calendar.ensures c.if-in_calendar.true

pub overflow_sub-k : goal.overflow_sub-k
overflow_sub-k c = let r = range c in omega arith

pub overflow_mul-k : goal.overflow_mul-k
overflow_mul-k c = let r = range c in omega arith

pub overflow_sub-k-then-in_calendar : goal.overflow_sub-k-then-in_calendar
overflow_sub-k-then-in_calendar c = let r = range c in omega arith

pub overflow_add-k : goal.overflow_add-k
overflow_add-k c = let r = range c in omega arith

-- the test of the whole table is computed here
pub start_in-requires-clause-month_starts : goal.start_in-requires-clause-month_starts
unfolding table_test starts_from month_length month_days leap
start_in-requires-clause-month_starts c = month-starts _ refl

pub start_in-requires-clause-k_lt_month_count : goal.start_in-requires-clause-k_lt_month_count
start_in-requires-clause-k_lt_month_count c = let r = in-range c.args.year c.args.month c.in_calendar.ensures c.if-in_calendar.true in omega arith

pub returns-then-in_calendar : goal.returns-then-in_calendar
unfolding days_before
returns-then-in_calendar c = rw (c.start_in.ensures, ← c.in_calendar.ensures, c.if-in_calendar.true)

pub returns : goal.returns
unfolding days_before
returns c = rw (← c.in_calendar.ensures, c.if-in_calendar.false)
