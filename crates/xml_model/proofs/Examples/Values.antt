-- Months, times and durations, value by value.
use Prim.Native.Nat.{ℕ}
use mathlib.Core.Path.{◌≡◌, refl}
use mathlib.Core.Bool.{Bool, true, false}
use mathlib.Core.List.{List, [], ◌∷◌, map}
use Rattle.xml_model.specs.Shapes.{Value}
use Rattle.xml_model.specs.Bytes.{bytes}
use Rattle.xml_model.specs.Calendar.{month_days, days_before}
use Rattle.xml_model.specs.Values.{time_of, duration_of}
use Rattle.xml_model.proofs.Examples.Computes.{reading-run}

abbrev pub months : List ℕ
months = 1 ∷ 2 ∷ 3 ∷ 4 ∷ 5 ∷ 6 ∷ 7 ∷ 8 ∷ 9 ∷ 10 ∷ 11 ∷ 12 ∷ []

-- the days of each month of 2001, and of February in leap years and at the ends of centuries
pub lengths : map (month_days 2001) months ≡ 31 ∷ 28 ∷ 31 ∷ 30 ∷ 31 ∷ 30 ∷ 31 ∷ 31 ∷ 30 ∷ 31 ∷ 30 ∷ 31 ∷ []
unfolding reading-run
lengths = refl

pub leap-days : map (λ y. month_days y 2) (1900 ∷ 1970 ∷ 1972 ∷ 2000 ∷ 2096 ∷ 2100 ∷ []) ≡ 28 ∷ 28 ∷ 29 ∷ 29 ∷ 29 ∷ 28 ∷ []
unfolding reading-run
leap-days = refl

-- the first of each month of 2000, as days since 1970-01-01; outside the calendar 0
pub starts :
    map (days_before 2000) months
    ≡ 10957 ∷ 10988 ∷ 11017 ∷ 11048 ∷ 11078 ∷ 11109 ∷ 11139 ∷ 11170 ∷ 11201 ∷ 11231 ∷ 11262 ∷ 11292 ∷ []
unfolding reading-run
starts = refl

pub outside : days_before 1969 12 ∷ days_before 2097 1 ∷ days_before 2000 0 ∷ days_before 2000 13 ∷ [] ≡ 0 ∷ 0 ∷ 0 ∷ 0 ∷ []
unfolding reading-run
outside = refl

unfoldable pub numbers : List Value → List ℕ
numbers [] = []
numbers (v ∷ l) = v.number ∷ numbers l

unfoldable pub valid : List Value → List Bool
valid [] = []
valid (v ∷ l) = v.valid ∷ valid l

-- the first and the last time, and each place of a time by itself
pub times :
    numbers
    (time_of (bytes "1970-01-01T00:00:00Z")
    ∷ time_of (bytes "2096-10-02T07:06:40Z")
    ∷ time_of (bytes "1971-02-02T01:01:01Z")
    ∷ [])
    ≡ 0 ∷ 4000000000 ∷ 34304461 ∷ []
unfolding reading-run numbers
times = refl

-- no such month, day, hour, minute or second; another form
pub no-times :
    valid
    (time_of (bytes "1970-13-01T00:00:00Z")
    ∷ time_of (bytes "1970-04-31T00:00:00Z")
    ∷ time_of (bytes "1970-01-00T00:00:00Z")
    ∷ time_of (bytes "1970-01-01T24:00:00Z")
    ∷ time_of (bytes "1970-01-01T00:60:00Z")
    ∷ time_of (bytes "1970-01-01T00:00:60Z")
    ∷ time_of (bytes "1970-01-01 00:00:00Z")
    ∷ time_of (bytes "1970-01-01T00:00:00")
    ∷ time_of (bytes "1970-1-01T00:00:00Z")
    ∷ [])
    ≡ false ∷ false ∷ false ∷ false ∷ false ∷ false ∷ false ∷ false ∷ false ∷ []
unfolding reading-run valid
no-times = refl

-- each part of a duration by itself, and together
pub durations :
    numbers
    (duration_of (bytes "P2D")
    ∷ duration_of (bytes "PT2H")
    ∷ duration_of (bytes "PT2M")
    ∷ duration_of (bytes "PT2S")
    ∷ duration_of (bytes "P1DT1H1M1S")
    ∷ duration_of (bytes "PT1H1S")
    ∷ duration_of (bytes "PT007M")
    ∷ [])
    ≡ 172800 ∷ 7200 ∷ 120 ∷ 2 ∷ 90061 ∷ 3601 ∷ 420 ∷ []
unfolding reading-run numbers
durations = refl

-- the least and the greatest, and one second more
pub duration-bounds :
    valid
    (duration_of (bytes "PT0S")
    ∷ duration_of (bytes "P0D")
    ∷ duration_of (bytes "P00DT0H0M0S")
    ∷ duration_of (bytes "PT100000000S")
    ∷ duration_of (bytes "PT100000001S")
    ∷ [])
    ≡ true ∷ true ∷ true ∷ true ∷ false ∷ []
unfolding reading-run valid
duration-bounds = refl

-- no part, an idle T, a T left out, another order, a part twice, no P, something behind
pub no-durations :
    valid
    (duration_of (bytes "P")
    ∷ duration_of (bytes "PT")
    ∷ duration_of (bytes "P1DT")
    ∷ duration_of (bytes "P1M")
    ∷ duration_of (bytes "PT1S1M")
    ∷ duration_of (bytes "PT1M1M")
    ∷ duration_of (bytes "T1S")
    ∷ duration_of (bytes "PT1S ")
    ∷ [])
    ≡ false ∷ false ∷ false ∷ false ∷ false ∷ false ∷ false ∷ false ∷ []
unfolding reading-run valid
no-durations = refl
