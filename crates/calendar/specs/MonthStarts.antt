-- The table of month starts: order 5 of document 02. Quotations are that order's.
use Rattle.std.specs.Prelude.{ℕ, suc, ◌+◌, ◌<◌, ◌≡◌, Bool, true, ◌&&◌, List, [], ◌∷◌, length, get_or, eqb}
use Rattle.numbers.specs.Count.{sum}
use Rattle.xml_model.specs.Calendar.{month_length}

-- "1,524 month starts from January 1970 to December 2096"
abbrev pub month_count : ℕ
month_count = 1524

-- "as days since 1970-01-01": entry k is the days of the k months before it, by the leap-year formula
pub record MonthStarts (table : List ℕ) : Type 0 where
  pub months : length table ≡ month_count
  pub starts : (k : ℕ) → k < month_count → get_or table k 0 ≡ sum month_length k

-- ## The test of a table

-- from month k on: the first entry is n, the next is n and the days of month k, and so on
unfoldable pub starts_from : ℕ → ℕ → List ℕ → Bool
starts_from k n [] = true
starts_from k n (x ∷ table) = eqb x n && starts_from (suc k) (n + month_length k) table

-- "The whole table's rule is shown against the leap-year formula": by this test, which is computed
unfoldable pub table_test : List ℕ → Bool
table_test table = eqb (length table) month_count && starts_from 0 0 table
