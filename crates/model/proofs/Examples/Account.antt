-- Computed examples of the ledger: the uses that the afternoon leaves, its answers from the ledger alone, and single entries judged at
-- a time, exactly at their bounds and just beside them.
use mathlib.Core.Path.{◌≡◌, refl}
use Prim.Native.Nat.{ℕ}
use mathlib.Core.Bool.{Bool, true, false}
use mathlib.Core.List.{List, [], ◌∷◌, map, ◌++◌}
use lib.ListN.{replicate}
use Rattle.numbers.specs.Count.{sum}
use Rattle.numbers.specs.Bits.{mask_of}
use Rattle.book.specs.declared.Limits.{Limits}
use Rattle.book.specs.declared.Event.{Event}
use Rattle.book.specs.declared.Request.TheVariants.{Stop}
use Rattle.model.specs.Book.{flagged}
use Rattle.model.specs.Ledger.{Use, empty, latest_taken, resent, called_taken, time_of, latest, revise, posted, note, note_arrival}
use Rattle.model.specs.Ledger.{is_open, sum_of, earliest, count-spent, timed-spent, seconds-spent, interval-over, interval-zero}
use Rattle.model.specs.Ledger.{before-start, after-end, switch-off, threshold-full, marks_by, stands}
use Rattle.model.specs.Report.{Arrival}
use Rattle.model.specs.History.{handed}
use Rattle.model.specs.Run.{zero_lines}
use Rattle.model.specs.Demand3.{advance, after, starting, figures, filled_from, predict_by, predict, predicted}
use Rattle.model.proofs.Examples.Afternoon.{start, events, expected, limits, group}
use Rattle.model.proofs.Examples.Computes.{events_run}

abbrev ran : ℕ → ℕ → ℕ → ℕ → Bool → ℕ → Use
ran entry player begin until stopped content = record {
  entry = entry;
  player = player;
  begin = begin;
  until = until;
  stopped = stopped;
  content = content;
}

-- the afternoon's events, each with its list
abbrev arrivals : List Arrival
arrivals = handed start (zero_lines start) events

-- newest first: player 2's was stopped, player 0's continued
pub uses-left : (after (starting start) arrivals).account.uses
    ≡ ran 2 7 1080 1140 false 1
    ∷ ran 1 4 1045 1085 false 1
    ∷ ran 1 3 1030 1070 false 1
    ∷ ran 1 2 1020 1040 true 2
    ∷ ran 0 1 1010 1070 false 2
    ∷ ran 0 0 1000 1119 false 1
    ∷ []
unfolding events_run latest_taken resent called_taken revise posted note note_arrival advance after
uses-left = refl

pub by-ledger : predicted start empty arrivals ≡ expected
unfolding events_run latest_taken resent called_taken time_of latest revise posted note note_arrival is_open sum_of earliest marks_by figures
    filled_from predict_by predict predicted
by-ledger = refl

-- entry 0 was used for 30 seconds, stopped, and for 60
abbrev uses : List Use
uses = ran 0 1 100 160 false 1 ∷ ran 0 0 10 40 true 2 ∷ []

-- an event at t
abbrev at : ℕ → Event
at t = record { player = 0; number = 1; request = Stop; time = t }

-- count; timed count with its timer; accumulated; interval; an interval of 0, of 1, and one that is not flagged
abbrev judged : List Bool
judged =
    stands 0 (at 159) uses 0 (limits 1 1 1 2 0 0 0 0 0 0) count-spent
    ∷ stands 0 (at 159) uses 0 (limits 1 1 1 3 0 0 0 0 0 0) count-spent
    ∷ stands 0 (at 159) uses 0 (limits 1 1 2 0 2 30 0 0 0 0) timed-spent
    ∷ stands 0 (at 159) uses 0 (limits 1 1 2 0 3 30 0 0 0 0) timed-spent
    ∷ stands 0 (at 159) uses 0 (limits 1 1 2 0 2 31 0 0 0 0) timed-spent
    ∷ stands 0 (at 159) uses 0 (limits 1 1 2 0 1 61 0 0 0 0) timed-spent
    ∷ stands 0 (at 160) uses 0 (limits 1 1 2 0 1 61 0 0 0 0) timed-spent
    ∷ stands 0 (at 39) uses 0 (limits 1 1 2 0 2 61 0 0 0 0) timed-spent
    ∷ stands 0 (at 159) uses 0 (limits 1 1 32 0 0 0 0 0 0 90) seconds-spent
    ∷ stands 0 (at 159) uses 0 (limits 1 1 32 0 0 0 0 0 0 91) seconds-spent
    ∷ stands 0 (at 109) uses 0 (limits 1 1 16 0 0 0 0 0 100 0) interval-over
    ∷ stands 0 (at 110) uses 0 (limits 1 1 16 0 0 0 0 0 100 0) interval-over
    ∷ stands 0 (at 159) uses 1 (limits 1 1 16 0 0 0 0 0 0 0) interval-zero
    ∷ stands 0 (at 159) uses 1 (limits 1 1 16 0 0 0 0 0 1 0) interval-zero
    ∷ stands 0 (at 159) uses 1 (limits 1 1 47 1 1 0 0 0 0 1) interval-zero
    ∷ []

pub entries-spent : judged ≡ (true ∷ false ∷ true ∷ false ∷ false ∷ true ∷ false ∷ false ∷ true ∷ false ∷ false ∷ true ∷ true ∷ false
    ∷ false ∷ [])
unfolding flagged is_open sum_of earliest stands
entries-spent = refl

-- whether the open uses of entry i have reached a threshold at t
abbrev full : ℕ → ℕ → ℕ → Bool
full t i threshold = stands 0 (at t) uses i (group threshold (limits 1 1 0 0 0 0 0 0 0 0)) threshold-full

-- entry 0 has one open until 160; another entry; no threshold; of the use that was stopped at 40 nothing counts, even at 39
pub together :
    full 159 0 1
    ∷ full 160 0 1
    ∷ full 159 0 2
    ∷ full 159 1 1
    ∷ full 159 0 0
    ∷ full 39 0 2
    ∷ []
    ≡ true ∷ false ∷ false ∷ false ∷ false ∷ false ∷ []
unfolding flagged is_open sum_of earliest stands
together = refl

-- the marks by the ledger: player 1 has entry 0 open until 160
pub marked : marks_by (λ p. 159) uses 0 ∷ marks_by (λ p. 160) uses 0 ∷ marks_by (λ p. 159) uses 1 ∷ [] ≡ 2 ∷ 0 ∷ 0 ∷ []
unfolding sum mask_of latest is_open marks_by
marked = refl

-- all grounds against an entry, in turn
abbrev every : ℕ → ℕ → Limits → List Bool
every t i l = map (stands 0 (at t) uses i l)
    (count-spent ∷ timed-spent ∷ seconds-spent ∷ interval-over ∷ interval-zero ∷ before-start ∷ after-end ∷ switch-off
    ∷ threshold-full ∷ [])

abbrev nothing : List Bool
nothing = replicate 9 false

-- an entry that was not used, and one without a flag
pub unused : every 159 1 (limits 1 1 51 1 1 0 0 0 1 1) ≡ nothing
unfolding flagged is_open sum_of earliest stands
unused = refl

pub unlimited : every 159 0 (limits 1 1 0 0 0 0 2000 0 0 0) ≡ nothing
unfolding flagged is_open sum_of earliest stands
unlimited = refl

-- the seconds around start and end
pub dates :
    map (λ (t : ℕ). every t 1 (limits 1 1 12 0 0 0 100 200 0 0)) (99 ∷ 100 ∷ 200 ∷ 201 ∷ [])
    ≡ ((replicate 5 false ++ (true ∷ replicate 3 false)) ∷ nothing ∷ nothing ∷ (replicate 6 false ++ (true ∷ replicate 2 false)) ∷ [])
unfolding flagged is_open sum_of earliest stands
dates = refl

-- a limit of 0 is spent though nothing was used: of the four, each by its own ground alone
pub zero-limits :
    every 159 1 (limits 1 1 1 0 0 0 0 0 0 0)
    ∷ every 159 1 (limits 1 1 2 0 0 9 0 0 0 0)
    ∷ every 159 1 (limits 1 1 32 0 0 0 0 0 0 0)
    ∷ every 159 1 (limits 1 1 16 0 0 0 0 0 0 0)
    ∷ []
    ≡ ((true ∷ replicate 8 false)
    ∷ (false ∷ true ∷ replicate 7 false)
    ∷ (false ∷ false ∷ true ∷ replicate 6 false)
    ∷ (false ∷ false ∷ false ∷ false ∷ true ∷ replicate 4 false)
    ∷ [])
unfolding flagged is_open sum_of earliest stands
zero-limits = refl
