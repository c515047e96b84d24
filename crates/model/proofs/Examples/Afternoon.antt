-- The afternoon of document 01, lines 1 to 16, as one list run through the definitions, with one equality.
-- The book has all its 64 asset, 64 entry and 16 player slots, so this is the run that a server makes.
use mathlib.Core.Path.{◌≡◌, refl}
use Prim.Native.Nat.{ℕ}
use mathlib.Core.List.{List, [], ◌∷◌}
use lib.ListN.{replicate}
use Rattle.book.specs.declared.Answer.{Answer}
use Rattle.book.specs.declared.Book.{Book}
use Rattle.book.specs.declared.Limits.{Limits}
use Rattle.book.specs.declared.Entry.{Entry}
use Rattle.book.specs.declared.Asset.{Asset}
use Rattle.book.specs.declared.Kind.TheVariants.{Play, Display, Print}
use Rattle.book.specs.declared.Request.{Request}
use Rattle.book.specs.declared.Request.TheVariants.{Begin, Continue, Stop}
use Rattle.book.specs.Decoded.{Decoded, Valid}
use Rattle.book.specs.Blank.{no_asset, no_meters, no_entry, no_player, no_latest}
use Rattle.model.specs.Step.{refusal}
use Rattle.model.specs.History.{answers, handed}
use Rattle.model.specs.Run.{zero_lines}
use Rattle.model.proofs.Examples.Computes.{events_run}

abbrev pub asset : ℕ → ℕ → ℕ → Asset
asset number key inherit = record { number = number; inherit = inherit; key = key }

-- limits under rights object 1
abbrev pub limits : ℕ → ℕ → ℕ → ℕ → ℕ → ℕ → ℕ → ℕ → ℕ → ℕ → Limits
limits asset kind flags count timed timer start end interval accumulated = record {
  object = 1;
  asset = asset;
  kind = kind;
  flags = flags;
  count = count;
  timed = timed;
  timer = timer;
  start = start;
  end = end;
  interval = interval;
  accumulated = accumulated;
  tracked = 0;
  timedvalue = 0;
  mark = 0;
  threshold = 0;
}

-- the same with a threshold
abbrev pub group : ℕ → Limits → Limits
group threshold l = record {
  object = l.object;
  asset = l.asset;
  kind = l.kind;
  flags = l.flags;
  count = l.count;
  timed = l.timed;
  timer = l.timer;
  start = l.start;
  end = l.end;
  interval = l.interval;
  accumulated = l.accumulated;
  tracked = l.tracked;
  timedvalue = l.timedvalue;
  mark = l.mark;
  threshold = threshold;
}

-- an unused entry with these limits
abbrev pub entry : ℕ → ℕ → ℕ → ℕ → ℕ → ℕ → ℕ → ℕ → ℕ → ℕ → Entry
entry asset kind flags count timed timer start end interval accumulated = record {
  limits = limits asset kind flags count timed timer start end interval accumulated;
  meters = no_meters;
}

-- "assets 1 and 2 (key 1, inherit 9), 9 parent, 7 illegal (inherit 9)";
-- "0 asset 9 play count 2; 1 asset 9 play accumulated 100; 2 asset 1 display timed 1 timer 30"
abbrev pub start : Book
start = record {
  time = 0;
  switch = 0;
  latest = no_latest;
  assetcount = 4;
  entrycount = 3;
  assets = asset 1 1 9 ∷ asset 2 1 9 ∷ asset 9 0 0 ∷ asset 7 0 9 ∷ replicate 60 no_asset;
  entries = entry 9 1 1 2 0 0 0 0 0 0 ∷ entry 9 1 32 0 0 0 0 0 0 100 ∷ entry 1 2 2 0 1 30 0 0 0 0 ∷ replicate 61 no_entry;
  players = replicate 16 no_player;
}

abbrev pub event : ℕ → ℕ → Request → ℕ → Decoded
event player number request time = Valid (record { player = player; number = number; request = request; time = time })

abbrev pub events : List Decoded
events =
    event 0 1 (Begin Play 1) 1000
    ∷ event 0 1 (Begin Play 1) 1005
    ∷ event 0 1 (Begin Play 2) 1006
    ∷ event 1 1 (Begin Play 2) 1010
    ∷ event 2 1 (Begin Play 2) 1020
    ∷ event 3 1 (Begin Play 1) 1030
    ∷ event 4 1 (Begin Play 1) 1031
    ∷ event 2 2 Stop 1040
    ∷ event 4 2 (Begin Play 1) 1045
    ∷ event 3 2 Continue 1050
    ∷ event 0 2 Continue 1059
    ∷ event 1 2 Continue 1070
    ∷ event 5 1 (Begin Play 7) 1070
    ∷ event 6 1 (Begin Print 1) 1070
    ∷ event 6 3 Stop 1070
    ∷ event 6 2 Stop 1069
    ∷ event 7 1 (Begin Display 1) 1080
    ∷ []

abbrev pub granted : ℕ → ℕ → Answer
granted entry until = record { code = 0; entry = entry; until = until }

abbrev pub expected : List Answer
expected =
    granted 0 1060
    ∷ granted 0 1060
    ∷ refusal 4
    ∷ granted 0 1070
    ∷ granted 1 1080
    ∷ granted 1 1070
    ∷ refusal 13
    ∷ granted 1 1040
    ∷ granted 1 1085
    ∷ refusal 15
    ∷ granted 0 1119
    ∷ refusal 14
    ∷ refusal 10
    ∷ refusal 12
    ∷ refusal 3
    ∷ refusal 5
    ∷ granted 2 1140
    ∷ []

-- the answers to a list of events, each lent the lines that the last one left, the first one zeros
abbrev pub run : Book → List Decoded → List Answer
run b ds = answers b (handed b (zero_lines b) ds)

-- line 15 is two events
pub lines : run start events ≡ expected
unfolding events_run
lines = refl
