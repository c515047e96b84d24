-- The usage report, order 3 of document 02: computed examples of lists that are good and bad, of the switch, of 43, and of what is
-- recorded.
use mathlib.Core.Path.{◌≡◌, refl}
use Prim.Native.Nat.{ℕ, ◌-◌}
use mathlib.Core.Bool.{true, false}
use mathlib.Core.List.{List, [], ◌∷◌, ◌++◌, map}
use lib.ListN.{replicate, take}
use Rattle.book.specs.declared.Answer.{Answer}
use Rattle.book.specs.declared.Book.{Book}
use Rattle.book.specs.declared.Entry.{Entry}
use Rattle.book.specs.declared.Line.{Line}
use Rattle.book.specs.declared.Kind.TheVariants.{Play, Display, Execute, Print, Export}
use Rattle.book.specs.declared.Request.TheVariants.{Begin, Continue, Stop}
use Rattle.book.specs.Decoded.{Decoded, Invalid}
use Rattle.book.specs.Blank.{no_meters, no_player, no_latest}
use Rattle.model.specs.Step.{refusal}
use Rattle.model.specs.Report.{line_bound, good, Arrival, receive, lines_left}
use Rattle.model.specs.History.{answers, final, handed, handed_lines}
use Rattle.model.specs.Ledger.{latest_taken, resent, called_taken, time_of, revise, posted, note, note_arrival, is_open, sum_of}
use Rattle.model.specs.Demand3.{advance, after, starting, times_by, seconds_by}
use Rattle.model.proofs.Examples.Afternoon.{asset, entry, event, granted, run}
use Rattle.model.proofs.Examples.Computes.{events_run}

-- an entry with a count, a timed value and the mark; tracked
abbrev pub tracked : ℕ → ℕ → ℕ → ℕ → ℕ → Entry
tracked asset kind count value mark = record {
  limits = record {
    object = 1;
    asset = asset;
    kind = kind;
    flags = 1;
    count = count;
    timed = 0;
    timer = 0;
    start = 0;
    end = 0;
    interval = 0;
    accumulated = 0;
    tracked = 1;
    timedvalue = value;
    mark = mark;
    threshold = 0;
  };
  meters = no_meters;
}

-- the same untracked
abbrev plain : ℕ → ℕ → ℕ → Entry
plain asset kind count = entry asset kind 1 count 0 0 0 0 0 0

-- assets 5 and 3 inherit from the parent 8
abbrev book : ℕ → List Entry → ℕ → Book
book switch entries count = record {
  time = 0;
  switch = switch;
  latest = no_latest;
  assetcount = 3;
  entrycount = count;
  assets = asset 5 1 8 ∷ asset 3 1 8 ∷ asset 8 0 0 ∷ [];
  entries = entries;
  players = replicate 16 no_player;
}

abbrev pub line : ℕ → ℕ → ℕ → Line
line content times seconds = record { content = content; times = times; seconds = seconds }

-- ## Lists

abbrev names : List Line
names = line 5 0 0 ∷ line 3 0 0 ∷ line 8 0 0 ∷ []

-- as many lines as assets, and up to 64; too few, too many, a wrong name, two names swapped; each number at 2 to the 62 less 1 and at 2 to
-- the 62, in a first line and in a further one. Further lines may name anything.
pub lists :
    map (good (book 1 [] 0))
    (names
    ∷ (names ++ replicate 61 (line 9 9 9))
    ∷ (line 5 (line_bound - 1) (line_bound - 1) ∷ line 3 7 7 ∷ line 8 0 0 ∷ line (line_bound - 1) (line_bound - 1) (line_bound - 1) ∷ [])
    ∷ (names ++ (line 5 1 1 ∷ line 5 1 1 ∷ []))
    ∷ []
    ∷ take 2 names
    ∷ (names ++ replicate 62 (line 9 9 9))
    ∷ (line 5 0 0 ∷ line 3 0 0 ∷ line 7 0 0 ∷ [])
    ∷ (line 3 0 0 ∷ line 5 0 0 ∷ line 8 0 0 ∷ [])
    ∷ (line 5 line_bound 0 ∷ line 3 0 0 ∷ line 8 0 0 ∷ [])
    ∷ (line 5 0 line_bound ∷ line 3 0 0 ∷ line 8 0 0 ∷ [])
    ∷ (names ++ (line line_bound 0 0 ∷ []))
    ∷ (names ++ (line 0 line_bound 0 ∷ []))
    ∷ (names ++ (line 0 0 line_bound ∷ []))
    ∷ [])
    ≡ (replicate 4 true ++ replicate 10 false)
unfolding events_run
lists = refl

-- "gets 30 255 0 before all checks": before 6, 2 and 1, before 12, 3 and 2 of an event
abbrev begins : ℕ → ℕ → Decoded
begins player number = event player number (Begin Play 5) 10

pub before-all-checks :
    map (λ (d : Decoded). (receive (book 1 [] 0) (record { event = d; lines = take 2 names })).answer)
    (Invalid 6 ∷ Invalid 2 ∷ Invalid 1 ∷ begins 0 1 ∷ begins 0 7 ∷ begins 16 1 ∷ [])
    ∷ map (λ (d : Decoded). (receive (book 1 [] 0) (record { event = d; lines = names })).answer)
    (Invalid 6 ∷ Invalid 2 ∷ Invalid 1 ∷ begins 0 1 ∷ begins 0 7 ∷ begins 16 1 ∷ [])
    ∷ []
    ≡ replicate 6 (refusal 30)
    ∷ (refusal 6 ∷ refusal 2 ∷ refusal 1 ∷ refusal 12 ∷ refusal 3 ∷ refusal 2 ∷ [])
    ∷ []
unfolding events_run
before-all-checks = refl

-- Before a grant and before a resend: a begin with a list too short, with a good one, again with the short one, again with a good one, and
-- a stop with the short one, which leaves the use open. The short list stays as it was at the stop.
abbrev lendings : List Arrival
lendings =
    record { event = begins 0 1; lines = take 2 names }
    ∷ record { event = begins 0 1; lines = names }
    ∷ record { event = begins 0 1; lines = take 2 names }
    ∷ record { event = begins 0 1; lines = names }
    ∷ []

abbrev stops : List Line → Arrival
stops ls = record { event = event 0 2 Stop 20; lines = ls }

pub before-grant-and-resend :
    answers (book 1 (tracked 8 1 2 0 0 ∷ []) 1) (lendings ++ (stops (take 2 names) ∷ stops names ∷ []))
    ≡ refusal 30 ∷ granted 0 70 ∷ refusal 30 ∷ granted 0 70 ∷ refusal 30 ∷ granted 0 20 ∷ []
unfolding events_run
before-grant-and-resend = refl

pub short-list-kept :
    map (lines_left (final (book 1 (tracked 8 1 2 0 0 ∷ []) 1) lendings)) (stops (take 2 names) ∷ stops names ∷ [])
    ≡ take 2 names ∷ (line 5 1 10 ∷ line 3 0 0 ∷ line 8 0 0 ∷ []) ∷ []
unfolding events_run final
short-list-kept = refl

-- ## The switch

-- play tracked without the mark, display with it; execute untracked; print tracked without the mark, and export too, but spent
abbrev shelf : List Entry
shelf = tracked 8 1 2 0 0 ∷ tracked 8 2 2 0 1 ∷ plain 8 3 2 ∷ tracked 8 4 2 0 0 ∷ tracked 8 5 0 0 0 ∷ []

abbrev asked : List Decoded
asked =
    event 0 1 (Begin Play 5) 10
    ∷ event 1 1 (Begin Display 5) 10
    ∷ event 2 1 (Begin Execute 5) 10
    ∷ event 3 1 (Begin Print 5) 10
    ∷ event 4 1 (Begin Export 5) 10
    ∷ []

-- off: only with the mark, or untracked; 43 where the switch is the only ground, 13 where the count is spent too
pub switch-off : run (book 0 shelf 5) asked ≡ refusal 43 ∷ granted 1 70 ∷ granted 2 70 ∷ refusal 43 ∷ refusal 13 ∷ []
unfolding events_run
switch-off = refl

pub switch-on : run (book 1 shelf 5) asked ≡ granted 0 70 ∷ granted 1 70 ∷ granted 2 70 ∷ granted 3 10 ∷ refusal 13 ∷ []
unfolding events_run
switch-on = refl

-- 43 "in place of 13 when some suitable entry fails for the switch only", whatever stands against the others; a resend of it gets it again,
-- and its number is used. An entry that is granted goes before both.
pub instead-of-13 :
    run (book 0 (plain 8 1 0 ∷ tracked 5 1 0 0 0 ∷ tracked 8 1 1 0 0 ∷ plain 5 1 0 ∷ tracked 3 1 0 0 0 ∷ plain 3 2 1 ∷ tracked 8 2 1 0 0 ∷
    []) 7)
    (event 0 1 (Begin Play 5) 10
    ∷ event 0 1 (Begin Play 5) 11
    ∷ event 0 2 (Begin Play 5) 12
    ∷ event 0 3 (Begin Display 3) 12
    ∷ event 1 1 (Begin Display 3) 13
    ∷ event 1 1 Stop 13
    ∷ [])
    ≡ refusal 43 ∷ refusal 43 ∷ refusal 43 ∷ granted 5 72 ∷ refusal 43 ∷ refusal 4 ∷ []
unfolding events_run
instead-of-13 = refl

-- ## What is recorded

-- timed values 59, 60 and 61; a use that runs to its end lasts 60 seconds. With the mark, all are granted with the switch off too.
abbrev timed : List Entry
timed = tracked 8 1 9 60 1 ∷ tracked 8 2 9 61 1 ∷ tracked 8 3 9 59 1 ∷ tracked 8 4 9 0 1 ∷ tracked 3 5 9 1 1 ∷ []

-- Each of play, display and execute is asked for content 5 at 100, and play for content 3 too; all end at 160. A continue leaves the
-- report. Then stops after 59 seconds, and after 60 and 61 of uses that were continued; a print counts once with a timed value of 0, an
-- export never with 1.
abbrev day : List Decoded
day =
    event 0 1 (Begin Play 5) 100
    ∷ event 1 1 (Begin Display 5) 100
    ∷ event 2 1 (Begin Execute 5) 100
    ∷ event 3 1 (Begin Play 3) 100
    ∷ event 4 1 Stop 159
    ∷ event 4 2 Stop 160
    ∷ event 0 2 (Begin Play 5) 200
    ∷ event 0 3 Stop 259
    ∷ event 0 4 (Begin Play 5) 300
    ∷ event 0 5 Continue 310
    ∷ event 0 5 Continue 310
    ∷ event 0 6 Stop 360
    ∷ event 1 2 (Begin Display 3) 400
    ∷ event 1 3 Continue 450
    ∷ event 1 4 Stop 461
    ∷ event 5 1 (Begin Print 5) 500
    ∷ event 5 1 (Begin Print 5) 500
    ∷ event 5 2 (Begin Export 3) 500
    ∷ event 6 1 (Begin Play 3) 600
    ∷ []

abbrev first : ℕ → List Decoded → List Line
first switch ds = handed_lines (book switch timed 5) (names ++ (line 5 6 7 ∷ [])) ds

-- as lent at 159; at 160 all four have ended; at the end of the day, with the last begin still open; that use ended at its until, 660, when
-- it is settled at 700. The further line is as it was. With the switch off the same uses leave the lines.
pub day-lines :
    first 1 (take 5 day) ∷ first 1 (take 6 day) ∷ first 1 day ∷ first 1 (day ++ (event 7 1 Stop 700 ∷ [])) ∷ first 0 day ∷ []
    ≡ (names ++ (line 5 6 7 ∷ []))
    ∷ (line 5 2 180 ∷ line 3 1 60 ∷ line 8 0 0 ∷ line 5 6 7 ∷ [])
    ∷ (line 5 4 299 ∷ line 3 2 121 ∷ line 8 0 0 ∷ line 5 6 7 ∷ [])
    ∷ (line 5 4 299 ∷ line 3 3 181 ∷ line 8 0 0 ∷ line 5 6 7 ∷ [])
    ∷ (names ++ (line 5 6 7 ∷ []))
    ∷ []
unfolding events_run
day-lines = refl

-- the ledger's sums are the same
abbrev sums : ℕ → ℕ × ℕ
sums content =
    let s = after (starting (book 1 timed 5)) (handed (book 1 timed 5) names day) in
    (times_by timed s content, seconds_by timed s content)

pub day-sums : sums 5 ∷ sums 3 ∷ sums 8 ∷ [] ≡ (4, 299) ∷ (2, 121) ∷ (0, 0) ∷ []
unfolding events_run latest_taken resent called_taken time_of revise posted note note_arrival is_open sum_of advance after
day-sums = refl

-- untracked entries are not recorded
pub untracked : handed_lines (book 1 (plain 8 1 9 ∷ plain 8 4 9 ∷ []) 2) names
    (event 0 1 (Begin Play 5) 10 ∷ event 0 2 Stop 20 ∷ event 0 3 (Begin Print 5) 20 ∷ []) ≡ names
unfolding events_run
untracked = refl

-- a line that comes to 2 to the 62 is recorded, and the next event gets 30
abbrev near : List Line
near = line 5 0 (line_bound - 10) ∷ line 3 0 0 ∷ line 8 0 0 ∷ []

abbrev lent_first : List Line → List Decoded → List Answer
lent_first ls ds = answers (book 1 timed 5) (handed (book 1 timed 5) ls ds)

pub then-30 :
    lent_first near (event 0 1 (Begin Play 5) 10 ∷ event 0 2 Stop 20 ∷ event 0 3 Stop 20 ∷ [])
    ≡ granted 0 70 ∷ granted 0 20 ∷ refusal 30 ∷ []
unfolding events_run
then-30 = refl
