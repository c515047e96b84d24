-- A table that passes the test has the rule at each entry.
use mathlib.Core.Path.{◌≡◌, sym, ap, ◌∙◌}
use mathlib.Core.Bool.{true}
use mathlib.Core.List.{List, [], ◌∷◌}
use Prim.Native.Nat.{ℕ, zero, suc, ◌+◌, ◌<◌}
use native.Mathlib.Nat.{add-zero, zero-add, add-suc, suc-add}
use native.Mathlib.Omega.{arith}
use lib.ListN.{length, get_or}
use lib.Dec.{eqb}
use borrow.Author.Tests.{eqb-true}
use Rattle.numbers.specs.Count.{sum}
use Rattle.numbers.proofs.Tests.{and_left, and_right}
use Rattle.xml_model.specs.Calendar.{month_length}
use Rattle.calendar.specs.MonthStarts.{month_count, MonthStarts, starts_from, table_test}

-- entry j of a table that passes from month k on
start-at :
    (k : ℕ) (table : List ℕ) → starts_from k (sum month_length k) table ≡ true →
    (j : ℕ) → j < length table → get_or table j 0 ≡ sum month_length (k + j)
unfolding starts_from sum
start-at k [] e j h = absurd (omega arith)
start-at k (x ∷ table) e zero h = eqb-true x (sum month_length k) (and_left _ _ e) ∙ ap (sum month_length) (sym (add-zero k))
start-at k (x ∷ table) e (suc j) h =
    start-at (suc k) table (and_right (eqb x (sum month_length k)) _ e) j (omega arith)
    ∙ ap (sum month_length) (suc-add k j ∙ sym (add-suc k j))

pub month-starts : (table : List ℕ) → table_test table ≡ true → MonthStarts table
unfolding table_test sum
month-starts table e =
    let whole = eqb-true (length table) month_count (and_left _ _ e) in
    let passed = and_right (eqb (length table) month_count) _ e in
    record {
      months = whole;
      starts = λ k h. start-at 0 table passed k (omega arith) ∙ ap (sum month_length) (zero-add k);
    }
