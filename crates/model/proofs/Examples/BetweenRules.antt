-- Computed examples where two rules meet: one order before another, the key of a parent, a use exactly as long as the timer,
-- a header with two faults. Each would come out differently under the neighbouring wrong rule. Quotations are document 01's.
use mathlib.Core.Path.{◌≡◌, refl}
use Prim.Native.Nat.{ℕ}
use mathlib.Core.List.{List, [], ◌∷◌}
use lib.ListN.{take, replicate}
use Rattle.book.specs.declared.Book.{Book}
use Rattle.book.specs.declared.Entry.{Entry}
use Rattle.book.specs.declared.Kind.TheVariants.{Play, Display, Execute, Print, Export}
use Rattle.book.specs.declared.Request.TheVariants.{Begin, Continue, Stop, Cancel}
use Rattle.book.specs.Blank.{no_player, no_latest}
use Rattle.model.specs.Image.{read_code}
use Rattle.model.specs.Record.{kind_of, request_of}
use Rattle.model.specs.Step.{refusal}
use Rattle.model.proofs.Examples.Afternoon.{asset, entry, event, granted, run}
use Rattle.model.proofs.Examples.Computes.{events_run, image_run}

-- ## Events

-- assets 1 (inherits from 8) and 8 have a key, 2 inherits from the parent 9
abbrev book : List Entry → ℕ → Book
book entries count = record {
  time = 0;
  switch = 0;
  latest = no_latest;
  assetcount = 4;
  entrycount = count;
  assets = asset 1 1 8 ∷ asset 8 1 0 ∷ asset 2 1 9 ∷ asset 9 0 0 ∷ [];
  entries = entries;
  players = replicate 16 no_player;
}

abbrev timed : ℕ → ℕ → ℕ → ℕ → Entry
timed asset kind count timer = entry asset kind 2 0 count timer 0 0 0 0

-- "(iv) own before inherited; (v) lower position", after order 6's "earlier last moment": the print at 10 starts the interval of
-- entry 0, which ends at 5000; the dates of entry 1 begin at 100. From then on entry 1 goes first, since its end is earlier than the end of
-- that interval, though it is inherited and its position is higher.
abbrev ending : List Entry
ending = entry 2 4 24 0 0 0 0 5000 4500 0 ∷ entry 9 4 12 0 0 0 100 4000 0 0 ∷ []

pub end-before-interval :
    run (book ending 2) (event 0 1 (Begin Print 2) 10 ∷ event 0 2 (Begin Print 2) 99 ∷ event 0 3 (Begin Print 2) 100 ∷ [])
    ≡ (granted 0 10 ∷ granted 0 99 ∷ granted 1 100 ∷ [])
unfolding events_run
end-before-interval = refl

-- "Key 0 and inherit 0 is a *parent*.": 8, which has a key, can be used but not inherited from; 9 is the other way round
abbrev kept : List Entry
kept = entry 8 1 1 9 0 0 0 0 0 0 ∷ entry 9 2 1 9 0 0 0 0 0 0 ∷ []

pub parent-key :
    run (book kept 2)
    (event 0 1 (Begin Play 1) 10
    ∷ event 0 2 (Begin Display 9) 11
    ∷ event 0 3 (Begin Play 8) 12
    ∷ event 1 1 (Begin Display 2) 13
    ∷ [])
    ≡ (refusal 12 ∷ refusal 10 ∷ granted 0 72 ∷ granted 1 73 ∷ [])
unfolding events_run
parent-key = refl

-- "with end − begin < timer, its timed count goes back": stopped after 29 of 30 seconds it does, after 30 it does not;
-- settled after 60 seconds it does not where the timer is 60, and does where it is 61
abbrev clocks : List Entry
clocks = timed 8 1 1 30 ∷ timed 8 2 1 60 ∷ timed 8 3 1 61 ∷ []

pub exactly-the-timer :
    run (book clocks 3)
    (event 0 1 (Begin Play 8) 10
    ∷ event 0 2 Stop 39
    ∷ event 0 3 (Begin Play 8) 40
    ∷ event 0 4 Stop 70
    ∷ event 0 5 (Begin Play 8) 71
    ∷ event 1 1 (Begin Display 8) 100
    ∷ event 2 1 (Begin Execute 8) 100
    ∷ event 1 2 (Begin Display 8) 160
    ∷ event 2 2 (Begin Execute 8) 160
    ∷ [])
    ≡ (granted 0 70
    ∷ granted 0 39
    ∷ granted 0 100
    ∷ granted 0 70
    ∷ refusal 13
    ∷ granted 1 160
    ∷ granted 2 160
    ∷ refusal 13
    ∷ granted 2 220
    ∷ [])
unfolding events_run
exactly-the-timer = refl

-- "players 0 to 15 in turn": two uses of one entry that end at the same event give back two timed counts
abbrev pair : List Entry
pair = timed 8 1 2 100 ∷ []

pub settled-together :
    run (book pair 1)
    (event 0 1 (Begin Play 8) 10
    ∷ event 1 1 (Begin Play 8) 10
    ∷ event 2 1 (Begin Play 8) 69
    ∷ event 2 2 (Begin Play 8) 70
    ∷ event 3 1 (Begin Play 8) 70
    ∷ event 4 1 (Begin Play 8) 70
    ∷ [])
    ≡ (granted 0 70 ∷ granted 0 70 ∷ refusal 13 ∷ granted 0 130 ∷ granted 0 130 ∷ refusal 13 ∷ [])
unfolding events_run
settled-together = refl

-- ## Numbers as kinds and requests

-- a number that is no kind or no operation has already been refused; it reads as the last one
pub kinds-read :
    kind_of 0 ∷ kind_of 1 ∷ kind_of 2 ∷ kind_of 3 ∷ kind_of 4 ∷ kind_of 5 ∷ kind_of 6 ∷ []
    ≡ Export ∷ Play ∷ Display ∷ Execute ∷ Print ∷ Export ∷ Export ∷ []
unfolding kind_of
kinds-read = refl

pub requests-read :
    request_of 0 7 1 ∷ request_of 1 7 1 ∷ request_of 2 7 1 ∷ request_of 3 7 1 ∷ request_of 4 7 1 ∷ request_of 5 7 1 ∷ []
    ≡ Cancel ∷ Begin Play 7 ∷ Continue ∷ Stop ∷ Cancel ∷ Cancel ∷ []
unfolding kind_of request_of
requests-read = refl

-- ## Headers with two faults

-- a header with that first byte, version, numbers and time; no byte follows it, so the length is wrong too
abbrev header : ℕ → ℕ → ℕ → ℕ → ℕ → List ℕ
header mark version assets entries time = mark ∷ 66 ∷ 75 ∷ 0 ∷ version ∷ assets ∷ entries ∷ time ∷ 0 ∷ 0 ∷ 0 ∷ []

-- "Order: 20 below 11 bytes, 21 mark, 22 version, 23 a number above 64 or a late time, 20 wrong length": the first fault is reported.
-- `BookExamples.two-faults` goes on with 24 to 27.
pub first-fault :
    read_code (take 10 (header 83 255 65 65 239))
    ∷ read_code (header 83 255 65 65 239)
    ∷ read_code (header 82 255 65 0 0)
    ∷ read_code (header 82 255 0 65 0)
    ∷ read_code (header 82 255 0 0 239)
    ∷ read_code (header 82 1 65 0 0)
    ∷ read_code (header 82 1 0 65 0)
    ∷ read_code (header 82 1 0 0 239)
    ∷ read_code (header 82 1 64 64 238)
    ∷ []
    ≡ 20 ∷ 21 ∷ 22 ∷ 22 ∷ 22 ∷ 23 ∷ 23 ∷ 23 ∷ 20 ∷ []
unfolding image_run
first-fault = refl
