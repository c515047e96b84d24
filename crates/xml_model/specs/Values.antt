-- Text values of order 1: numbers, uids, times and durations.
use Rattle.std.specs.Prelude.{ℕ, ◌+◌, ◌-◌, ◌*◌, Bool, true, false, cond, ◌&&◌, ◌||◌, List, [], ◌∷◌, length, take, drop, eqb, leb, ltb}
use Rattle.model.specs.Book.{between, latest_time, most_times, most_seconds}
use Rattle.xml_model.specs.Shapes.{Value}
use Rattle.xml_model.specs.Shapes.{Piece}
use Rattle.xml_model.specs.Bytes.{bytes, byte_at, part, same, digits, run_end}
use Rattle.xml_model.specs.Elements.{version_role, object_uid_role, asset_uid_role, inherit_uid_role, count_role, timed_count_role}
use Rattle.xml_model.specs.Elements.{start_role, end_role}
use Rattle.xml_model.specs.Calendar.{in_calendar, month_days, days_before}

-- a value that is accepted if the test passes
unfoldable pub value_if : Bool → ℕ → Value
value_if good n = record { valid = good; number = cond good n 0 }

-- ## Numbers

-- "Numbers are digits, zeros in front allowed": the natural number that these digits are, however many; x is what stood before them
unfoldable pub number_from : ℕ → List ℕ → ℕ
number_from x [] = x
number_from x (c ∷ cs) = number_from (10 * x + (c - 48)) cs

unfoldable pub number_of : List ℕ → ℕ
number_of v = number_from 0 v

-- one digit or more, and nothing else
unfoldable pub is_number : List ℕ → Bool
is_number v = ltb 0 (length v) && leb (length v) (run_end digits v 0)

-- a number from least to most
unfoldable pub number_in : ℕ → ℕ → List ℕ → Value
number_in least most v = value_if (is_number v && between least most (number_of v)) (number_of v)

-- ## Uids

-- "a uid is `cid:` or `pid:` and a decimal number 1 to 65535"
unfoldable pub uid_of : List ℕ → Value
uid_of v =
    let n = number_in 1 65535 (drop 4 v) in
    cond (same (take 4 v) (bytes "cid:") || same (take 4 v) (bytes "pid:"))
    n
    (value_if false 0)

-- ## Times

-- n digits from i on, and the number that they are
unfoldable pub digits_at : List ℕ → ℕ → ℕ → Bool
digits_at v i n = leb (i + n) (run_end digits v i)

abbrev pub number_at : List ℕ → ℕ → ℕ → ℕ
number_at v i n = number_of (part v i (i + n))

-- "Times are `YYYY-MM-DDThh:mm:ssZ`": the digits and the other bytes are in their places
unfoldable pub time_formed : List ℕ → Bool
time_formed v =
    eqb (length v) 20
    && digits_at v 0 4 && eqb (byte_at v 4) 45
    && digits_at v 5 2 && eqb (byte_at v 7) 45
    && digits_at v 8 2 && eqb (byte_at v 10) 84
    && digits_at v 11 2 && eqb (byte_at v 13) 58
    && digits_at v 14 2 && eqb (byte_at v 16) 58
    && digits_at v 17 2 && eqb (byte_at v 19) 90

-- a real date and time of day
unfoldable pub time_real : ℕ → ℕ → ℕ → ℕ → ℕ → ℕ → Bool
time_real year month day hour minute second =
    in_calendar year month && between 1 (month_days year month) day && leb hour 23 && leb minute 59 && leb second 59

-- seconds since 1970-01-01 UTC
unfoldable pub seconds_at : ℕ → ℕ → ℕ → ℕ → ℕ → ℕ → ℕ
seconds_at year month day hour minute second =
    (days_before year month + (day - 1)) * 86400 + hour * 3600 + minute * 60 + second

-- a time that the book can hold: "0 to 4,000,000,000"
unfoldable pub time_if : Bool → ℕ → Value
time_if good t = value_if (good && leb t latest_time) t

unfoldable pub time_of : List ℕ → Value
time_of v =
    let year = number_at v 0 4 in
    let month = number_at v 5 2 in
    let day = number_at v 8 2 in
    let hour = number_at v 11 2 in
    let minute = number_at v 14 2 in
    let second = number_at v 17 2 in
    time_if (time_formed v && time_real year month day hour minute second) (seconds_at year month day hour minute second)

-- ## Durations

-- digits from i on and the letter u behind them; if they are not there, nothing
unfoldable pub piece_at : List ℕ → ℕ → ℕ → Piece
piece_at v u i =
    let e = run_end digits v i in
    cond (ltb i e && eqb (byte_at v e) u)
    (record { there = true; number = number_of (part v i e); next = e + 1 })
    (record { there = false; number = 0; next = i })

-- "PnDTnHnMnS with any part left out but one, and the T if H, M and S are": the days d, and behind a T the hours, minutes, seconds
unfoldable pub duration_formed : List ℕ → Piece → Piece → Piece → Piece → Bool
duration_formed v d h m s =
    eqb (byte_at v 0) 80
    && cond (eqb (byte_at v d.next) 84)
    ((h.there || m.there || s.there) && eqb s.next (length v))
    (d.there && eqb d.next (length v))

-- a duration in seconds; "interval and accumulated 1 to 100,000,000", and by order 2 of document 02 they "may now be 0 when flagged"
unfoldable pub duration_of : List ℕ → Value
duration_of v =
    let d = piece_at v 68 1 in
    let h = piece_at v 72 (d.next + 1) in
    let m = piece_at v 77 h.next in
    let s = piece_at v 83 m.next in
    let time = cond (eqb (byte_at v d.next) 84) (h.number * 3600 + m.number * 60 + s.number) 0 in
    let n = d.number * 86400 + time in
    value_if (duration_formed v d h m s && leb n most_seconds) n

-- ## The value of an element that holds a text, by its role

-- "Count and timed count are 1 to 1,000,000", and by order 2 of document 02 "may now be 0": "They no longer meet 25 or 41"
unfoldable pub value_of : ℕ → List ℕ → Value
value_of role v =
    cond (eqb role version_role) (value_if (same v (bytes "2.2")) 0)
    (cond (eqb role object_uid_role) (number_in 1 65535 v)
    (cond (eqb role asset_uid_role || eqb role inherit_uid_role) (uid_of v)
    (cond (eqb role count_role || eqb role timed_count_role) (number_in 0 most_times v)
    (cond (eqb role start_role || eqb role end_role) (time_of v)
    (duration_of v)))))
