-- The calendar by the leap-year rule: days from 1970-01-01 to the first of a month.
use Rattle.std.specs.Prelude.{ℕ, ◌+◌, ◌*◌, ◌-◌, ◌/◌, ◌%◌, Bool, cond, ◌&&◌, ◌||◌, not, eqb}
use Rattle.numbers.specs.Count.{sum}
use Rattle.model.specs.Book.{between}

-- a year that 4 divides has a leap day, but not one that 100 divides and 400 does not
unfoldable pub leap : ℕ → Bool
leap year = eqb (year % 4) 0 && (not (eqb (year % 100) 0) || eqb (year % 400) 0)

-- the days of a month, 1 to 12
unfoldable pub month_days : ℕ → ℕ → ℕ
month_days year month =
    cond (eqb month 2) (cond (leap year) 29 28)
    (cond (eqb month 4 || eqb month 6 || eqb month 9 || eqb month 11) 30
    31)

-- the days of the month k months after January 1970
unfoldable pub month_length : ℕ → ℕ
month_length k = month_days (1970 + k / 12) (k % 12 + 1)

-- the years and months in which a time can lie: 4,000,000,000 is 2096-10-02T07:06:40Z
unfoldable pub in_calendar : ℕ → ℕ → Bool
in_calendar year month = between 1970 2096 year && between 1 12 month

-- the days from 1970-01-01 to the first of a month, all months before it summed; 0 outside these years
unfoldable pub days_before : ℕ → ℕ → ℕ
days_before year month = cond (in_calendar year month) (sum month_length ((year - 1970) * 12 + (month - 1))) 0
