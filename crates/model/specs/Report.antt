-- The usage report: order 3 of document 02. Quotations are that order's.
-- Every event is lent a list of lines. A list that is not good gets 30 before all checks; what an event records goes into the lines.
use Rattle.std.specs.Prelude.{ℕ, ◌+◌, ◌-◌, min, Bool, ◌&&◌, cond, List, [], ◌∷◌, ◌++◌, map, length, get_or, set, leb, ltb, eqb}
use Rattle.numbers.specs.Count.{all, one}
use Rattle.book.specs.declared.Limits.{Limits}
use Rattle.book.specs.declared.Answer.{Answer}
use Rattle.book.specs.declared.Open.{Open}
use Rattle.book.specs.declared.Player.{Player}
use Rattle.book.specs.declared.Line.{Line}
use Rattle.book.specs.declared.Book.{Book}
use Rattle.book.specs.declared.Event.{Event}
use Rattle.book.specs.declared.Request.{Request}
use Rattle.book.specs.declared.Request.TheVariants.{Begin, Continue, Stop, Cancel}
use Rattle.book.specs.Decoded.{Decoded, Invalid, Valid}
use Rattle.book.specs.Gate.{Gate, Refuse, Resend, Take}
use Rattle.book.specs.declared.Outcome.{Outcome}
use Rattle.book.specs.Blank.{no_line}
use Rattle.model.specs.Book.{asset_at, limits_at, assets_in, asset_position, in_book, is_tracked, is_metered, momentary}
use Rattle.model.specs.Record.{kind_number, decoded}
use Rattle.model.specs.Gate.{gate}
use Rattle.model.specs.Meters.{expired, shut}
use Rattle.model.specs.Step.{taken_step, last_at, open_at, arrive}

-- ## The list

-- line k; blank past the end
abbrev pub line_at : List Line → ℕ → Line
line_at ls k = get_or ls k no_line

-- "one holding 2 to the 62 or more"
abbrev pub line_bound : ℕ
line_bound = 4611686018427387904

unfoldable pub line_small : Line → Bool
line_small x = ltb x.content line_bound && ltb x.times line_bound && ltb x.seconds line_bound

-- "The report is a lent list of up to 64 lines, each with content, times and seconds in 64 bits, the first naming the assets in the
-- book's order.": such a list, with no number of 2 to the 62 or more
unfoldable pub good : Book → List Line → Bool
good b ls =
    leb (assets_in b) (length ls)
    && leb (length ls) 64
    && all (λ k. eqb (line_at ls k).content (asset_at b.assets k).number) (assets_in b)
    && all (λ k. line_small (line_at ls k)) (length ls)

-- ## What the end of a use records

-- the sum of two numbers of 64 bits. From a good list none is cut off (`Exact`).
unfoldable pub sum64 : ℕ → ℕ → ℕ
sum64 a b = min (a + b) 18446744073709551615

-- a use that has ended: of which entry, for which content, after how many seconds
pub record Ended : Type 0 where
  pub entry : ℕ
  pub content : ℕ
  pub seconds : ℕ

-- "its content .. gains its seconds, and one time if it ran at least the timed value"
unfoldable pub raised : Limits → ℕ → Line → Line
raised l seconds x = record {
  content = x.content;
  times = sum64 x.times (one (leb l.timedvalue seconds));
  seconds = sum64 x.seconds seconds;
}

-- "With the switch on, when a use of a tracked entry ends"; "With the switch off .. nothing is recorded". A content that is not in the
-- book, which no legal book keeps with a use of a tracked entry, has no line.
unfoldable pub counted : Book → Ended → Bool
counted b x = is_metered b.switch && is_tracked (limits_at b.entries x.entry) && in_book b x.content

-- the line of a content is at its asset's position
abbrev pub line_of : Book → ℕ → ℕ
line_of b content = asset_position b.assets (assets_in b) content

unfoldable pub recorded : Book → List Line → Ended → List Line
recorded b ls x =
    cond (counted b x)
    (set ls (line_of b x.content) (raised (limits_at b.entries x.entry) x.seconds (line_at ls (line_of b x.content))))
    ls

-- one after another
unfoldable pub recorded_all : Book → List Line → List Ended → List Line
recorded_all b ls [] = ls
recorded_all b ls (x ∷ xs) = recorded_all b (recorded b ls x) xs

-- ## The uses that an event ends

-- an open use that ends at t
abbrev pub ended_at : ℕ → Open → Ended
ended_at t o = record { entry = o.entry; content = o.content; seconds = t - o.begin }

-- document 01: "each open use of any player with until ≤ t ends at its until, players 0 to 15 in turn"
unfoldable pub overdue : ℕ → List Player → List Ended
overdue t [] = []
overdue t (p ∷ ps) = cond (expired t p.current) (ended_at p.current.until p.current ∷ overdue t ps) (overdue t ps)

-- then by the request, if it is granted: a stop ends the use at t; "A momentary use ends as it begins."; order 8: by a cancel "the use
-- closes unrecorded"
unfoldable pub ended_by : Request → ℕ → Open → Answer → List Ended
ended_by (Begin kind asset) t o a =
    cond (eqb a.code 0 && momentary (kind_number kind)) (record { entry = a.entry; content = asset; seconds = 0 } ∷ []) []
ended_by Continue t o a = []
ended_by Stop t o a = cond (eqb a.code 0) (ended_at t o ∷ []) []
ended_by Cancel t o a = []

-- all uses that a taken event ends, in turn
unfoldable pub endings : Book → Event → List Ended
endings b e =
    overdue e.time b.players
    ++ ended_by e.request e.time (open_at (map (shut e.time) b.players) e.player) (taken_step b e).answer

-- the lines after an event: what is turned away and a resend leave them
unfoldable pub lines_by : Gate → Book → Event → List Line → List Line
lines_by (Refuse code) b e ls = ls
lines_by Resend b e ls = ls
lines_by Take b e ls = recorded_all b ls (endings b e)

unfoldable pub lines_read : Book → Decoded → List Line → List Line
lines_read b (Invalid code) ls = ls
lines_read b (Valid e) ls = lines_by (gate b.time (last_at b.players e.player) e) b e ls

-- ## An event with the list that it is lent

pub record Arrival : Type 0 where
  pub event : Decoded
  pub lines : List Line

-- "Any other list, or one holding 2 to the 62 or more, gets 30 255 0 before all checks": it counts as a refusal
unfoldable pub admitted : Book → Arrival → Decoded
admitted b x = cond (good b x.lines) x.event (Invalid 30)

-- the answer, and the book after it: "with nothing changed" if that is 30
unfoldable pub receive : Book → Arrival → Outcome
receive b x = arrive b (admitted b x)

-- the lines after it
unfoldable pub lines_left : Book → Arrival → List Line
lines_left b x = lines_read b (admitted b x) x.lines

-- a record of arbitrary bytes, lent some lines
abbrev pub lent : List Line → List ℕ → Arrival
lent ls s = record { event = decoded s; lines = ls }
