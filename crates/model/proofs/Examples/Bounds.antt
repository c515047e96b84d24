-- The image's rules on single records, exactly at each bound of document 01 and just beside it: computed examples.
-- The theorems would hold with a wrong bound too, since they speak of every legal book; these examples would not.
use mathlib.Core.Path.{◌≡◌, refl}
use Prim.Native.Nat.{ℕ}
use mathlib.Core.Bool.{Bool, true, false}
use mathlib.Core.List.{List, [], ◌∷◌, ◌++◌}
use lib.ListN.{replicate}
use Rattle.numbers.specs.Count.{first}
use Rattle.book.specs.declared.Asset.{Asset}
use Rattle.book.specs.declared.Player.{Player}
use Rattle.model.specs.Book.{grant_length, flagged, momentary, limit, asset_position, asset_legal, ranges_legal, limits_legal, taken_code}
use Rattle.book.specs.Blank.{no_meters, no_entry, no_last, no_player}
use Rattle.model.specs.Book.{track_legal, content_legal, open_legal, answer_legal, inside_dates, inside_interval, use_legal, meter_legal}
use Rattle.model.specs.Book.{start_legal, meters_cover, threshold_legal, marks_of, entry_meters_legal}
use Rattle.model.proofs.Examples.Afternoon.{limits, group}
use Rattle.model.proofs.Examples.Computes.{legal_run}

-- ## Assets

-- "number (1 to 65535, each once), key (0 or 1 ..)"
abbrev asset : ℕ → ℕ → Bool
asset number key =
    let a : Asset = record { number = number; inherit = 0; key = key } in
    asset_legal (a ∷ []) 1 0 a

pub assets : asset 1 0 ∷ asset 65535 1 ∷ asset 0 1 ∷ asset 65536 1 ∷ asset 1 2 ∷ [] ≡ true ∷ true ∷ false ∷ false ∷ false ∷ []
unfolding first asset_position asset_legal
assets = refl

-- ## Entries

abbrev ranges : ℕ → ℕ → ℕ → ℕ → ℕ → ℕ → ℕ → ℕ → Bool
ranges flags count timed timer start end interval accumulated = ranges_legal
    (limits 1 1 flags count timed timer start end interval accumulated)

-- count, timed count and timer to 1,000,000, interval and accumulated to 100,000,000, times to 4,000,000,000; each of them 0 alone
pub on-bounds :
    ranges 63 1000000 1000000 1000000 4000000000 4000000000 100000000 100000000
    ∷ ranges 63 0 1 1 1 1 1 1
    ∷ ranges 63 1 0 1 1 1 1 1
    ∷ ranges 63 1 1 0 1 1 1 1
    ∷ ranges 63 1 1 1 0 1 1 1
    ∷ ranges 63 1 1 1 1 0 1 1
    ∷ ranges 63 1 1 1 1 1 0 1
    ∷ ranges 63 1 1 1 1 1 1 0
    ∷ ranges 63 0 0 0 0 0 0 0
    ∷ ranges 0 0 0 0 0 0 0 0
    ∷ []
    ≡ replicate 10 true
unfolding flagged limit ranges_legal
on-bounds = refl

-- one number too large at a time, and one that is not flagged
pub beside-bounds :
    ranges 63 1000001 1 0 0 0 1 1
    ∷ ranges 63 1 1000001 0 0 0 1 1
    ∷ ranges 63 1 1 1000001 0 0 1 1
    ∷ ranges 63 1 1 0 4000000001 0 1 1
    ∷ ranges 63 1 1 0 0 4000000001 1 1
    ∷ ranges 63 1 1 0 0 0 100000001 1
    ∷ ranges 63 1 1 0 0 0 1 100000001
    ∷ ranges 62 1 1 0 0 0 1 1
    ∷ ranges 61 1 1 0 0 0 1 1
    ∷ ranges 61 1 0 1 0 0 1 1
    ∷ ranges 59 1 1 0 1 0 1 1
    ∷ ranges 55 1 1 0 0 1 1 1
    ∷ ranges 47 1 1 0 0 0 1 1
    ∷ ranges 31 1 1 0 0 0 1 1
    ∷ []
    ≡ replicate 14 false
unfolding flagged limit ranges_legal
beside-bounds = refl

-- its asset is in the book
abbrev known : ℕ → ℕ → ℕ → ℕ → ℕ → ℕ → ℕ → ℕ → ℕ → ℕ → Bool
known object kind flags count timed timer start end interval accumulated = limits_legal true (record {
  object = object;
  asset = 1;
  kind = kind;
  flags = flags;
  count = count;
  timed = timed;
  timer = timer;
  start = start;
  end = end;
  interval = interval;
  accumulated = accumulated;
  tracked = 0;
  timedvalue = 0;
  mark = 0;
  threshold = 0;
})

-- "rights object number (1 to 65535), asset (in the book), kind .., flags"; "start at most end where both are flagged";
-- momentary: "no accumulated, timer 0"
pub entries :
    known 1 1 0 0 0 0 0 0 0 0
    ∷ known 65535 5 31 1 1 0 7 7 1 0
    ∷ known 1 3 63 1 1 1 7 7 1 1
    ∷ known 1 4 2 0 1 0 0 0 0 0
    ∷ known 0 1 0 0 0 0 0 0 0 0
    ∷ known 65536 1 0 0 0 0 0 0 0 0
    ∷ known 1 0 0 0 0 0 0 0 0 0
    ∷ known 1 6 0 0 0 0 0 0 0 0
    ∷ known 1 1 64 0 0 0 0 0 0 0
    ∷ known 1 1 12 0 0 0 8 7 0 0
    ∷ known 1 4 2 0 1 1 0 0 0 0
    ∷ known 1 5 2 0 1 1 0 0 0 0
    ∷ known 1 4 32 0 0 0 0 0 0 1
    ∷ known 1 5 32 0 0 0 0 0 0 1
    ∷ limits_legal false (limits 1 1 0 0 0 0 0 0 0 0)
    ∷ []
    ≡ true ∷ true ∷ true ∷ true ∷ false ∷ false ∷ false ∷ false ∷ false ∷ false ∷ false ∷ false ∷ false ∷ false ∷ false ∷ []
unfolding flagged momentary limit ranges_legal limits_legal track_legal threshold_legal
entries = refl

-- order 3 of document 02: "tracked (1, else 0), with a timed value in seconds and the contentAccessGranted mark (0 or 1), both 0 if
-- untracked"
abbrev track : ℕ → ℕ → ℕ → Bool
track tracked value mark = track_legal (record {
  object = 1;
  asset = 1;
  kind = 1;
  flags = 0;
  count = 0;
  timed = 0;
  timer = 0;
  start = 0;
  end = 0;
  interval = 0;
  accumulated = 0;
  tracked = tracked;
  timedvalue = value;
  mark = mark;
  threshold = 0;
})

pub tracks :
    track 0 0 0
    ∷ track 1 0 0
    ∷ track 1 4294967295 1
    ∷ track 2 0 0
    ∷ track 1 0 2
    ∷ track 0 1 0
    ∷ track 0 0 1
    ∷ []
    ≡ true ∷ true ∷ true ∷ false ∷ false ∷ false ∷ false ∷ []
unfolding track_legal
tracks = refl

-- order 7: "at most that many players, 1 to 16 (0 for none)", for any kind
abbrev together : ℕ → ℕ → Bool
together kind threshold = limits_legal true (group threshold (limits 1 kind 0 0 0 0 0 0 0 0))

pub thresholds :
    together 1 0
    ∷ together 1 1
    ∷ together 1 16
    ∷ together 4 16
    ∷ together 1 17
    ∷ []
    ≡ true ∷ true ∷ true ∷ true ∷ false ∷ []
unfolding legal_run
thresholds = refl

-- ## Players

-- "code 0 or 10 to 15", 43 of order 3 and 44 of order 8; "entry a position if code 0, else entry 255 and until 0"; there are two entries
abbrev stored : ℕ → ℕ → ℕ → Bool
stored code entry until = answer_legal 2 (record { code = code; entry = entry; until = until })

pub answers :
    stored 0 1 7
    ∷ stored 10 255 0
    ∷ stored 15 255 0
    ∷ stored 0 2 7
    ∷ stored 9 255 0
    ∷ stored 16 255 0
    ∷ stored 10 254 0
    ∷ stored 10 256 0
    ∷ stored 10 255 1
    ∷ stored 43 255 0
    ∷ stored 42 255 0
    ∷ stored 44 255 0
    ∷ stored 45 255 0
    ∷ stored 30 255 0
    ∷ stored 43 0 0
    ∷ stored 44 1 0
    ∷ []
    ≡ true ∷ true ∷ true ∷ false ∷ false ∷ false ∷ false ∷ false ∷ false ∷ true ∷ false ∷ true ∷ false ∷ false ∷ false ∷ false ∷ []
unfolding taken_code answer_legal
answers = refl

-- "begin ≤ book time < until ≤ book time + 60, an open entry that is a position of kind 1 to 3, and [begin, until) inside its flagged
-- dates and, where flagged, an interval with started 1": book time 100, two entries, dates 40 to 109, interval 50 to 110
abbrev used : ℕ → ℕ → ℕ → ℕ → ℕ → ℕ → Bool
used kind flags started entry begin until = use_legal 100 2 true (record {
  limits = record {
    object = 1;
    asset = 1;
    kind = kind;
    flags = flags;
    count = 0;
    timed = 0;
    timer = 0;
    start = 40;
    end = 109;
    interval = 60;
    accumulated = 0;
    tracked = 0;
    timedvalue = 0;
    mark = 0;
    threshold = 0;
  };
  meters = record { count = 0; timed = 0; first = 50; seconds = 0; started = started; marks = 0 };
}) (record { on = 1; entry = entry; begin = begin; until = until; content = 1 })

pub uses :
    used 1 0 0 1 100 101
    ∷ used 3 0 0 0 0 160
    ∷ used 2 12 0 0 40 110
    ∷ used 2 16 1 0 50 110
    ∷ used 1 0 0 1 101 102
    ∷ used 1 0 0 1 90 100
    ∷ used 1 0 0 1 100 161
    ∷ used 1 0 0 2 100 101
    ∷ used 0 0 0 1 100 101
    ∷ used 4 0 0 1 100 101
    ∷ used 2 12 0 0 39 110
    ∷ used 2 12 0 0 40 111
    ∷ used 2 16 1 0 49 110
    ∷ used 2 16 1 0 50 111
    ∷ used 2 16 0 0 50 110
    ∷ used 2 16 2 0 50 110
    ∷ []
    ≡ true ∷ true ∷ true ∷ true ∷ false ∷ false ∷ false ∷ false ∷ false ∷ false ∷ false ∷ false ∷ false ∷ false ∷ false ∷ false ∷ []
unfolding grant_length flagged inside_dates inside_interval content_legal use_legal
uses = refl

-- order 3: "The content, an asset of the book, is kept with every open use: 0 if closed, and on reading allowed 0 if untracked.": of an
-- open use, whether its content is in the book, its entry's track, its content; then a closed one
abbrev content : Bool → ℕ → ℕ → Bool
content known tracked number = open_legal 100 2 known (record {
  limits = record {
    object = 1;
    asset = 1;
    kind = 1;
    flags = 0;
    count = 0;
    timed = 0;
    timer = 0;
    start = 0;
    end = 0;
    interval = 0;
    accumulated = 0;
    tracked = tracked;
    timedvalue = 0;
    mark = 0;
    threshold = 0;
  };
  meters = no_meters;
}) (record { on = 1; entry = 1; begin = 100; until = 101; content = number })

abbrev shut : ℕ → Bool
shut number = open_legal 100 2 true no_entry (record { on = 0; entry = 0; begin = 0; until = 0; content = number })

pub contents :
    content true 1 7
    ∷ content true 0 7
    ∷ content false 0 0
    ∷ content false 0 7
    ∷ content false 1 0
    ∷ content false 1 7
    ∷ shut 0
    ∷ shut 7
    ∷ []
    ≡ true ∷ true ∷ true ∷ false ∷ false ∷ false ∷ true ∷ false ∷ []
unfolding grant_length flagged inside_dates inside_interval content_legal use_legal open_legal
contents = refl

-- ## Meters

-- "no meter above its limit, unflagged meters 0"
pub meters : meter_legal true 5 5 ∷ meter_legal false 5 0 ∷ meter_legal true 5 6 ∷ meter_legal false 5 1 ∷ [] ≡ true ∷ true ∷ false ∷ false ∷ []
unfolding meter_legal
meters = refl

-- "started 0 or 1, first 0 if not, first ≤ book time"; book time 100
abbrev begun : ℕ → ℕ → ℕ → Bool
begun flags started first = start_legal 100 (limits 1 1 flags 0 0 0 0 0 0 0)
    (record { count = 0; timed = 0; first = first; seconds = 0; started = started; marks = 0 })

pub starts :
    begun 16 1 100
    ∷ begun 16 0 0
    ∷ begun 0 0 0
    ∷ begun 16 1 101
    ∷ begun 16 2 100
    ∷ begun 16 0 1
    ∷ begun 0 1 0
    ∷ []
    ≡ true ∷ true ∷ true ∷ false ∷ false ∷ false ∷ false ∷ []
unfolding flagged start_legal
starts = refl

-- "Where flagged, used count and used timed are at least the entry's open uses, and used seconds at least their until − begin summed.":
-- two open uses of 70 seconds
abbrev covered : ℕ → ℕ → ℕ → ℕ → Bool
covered flags count timed seconds =
    meters_cover 2 70 (limits 1 1 flags 0 0 0 0 0 0 0)
    (record { count = count; timed = timed; first = 0; seconds = seconds; started = 0; marks = 0 })

pub covers :
    covered 35 2 2 70
    ∷ covered 0 0 0 0
    ∷ covered 1 1 2 70
    ∷ covered 2 2 1 70
    ∷ covered 32 2 2 69
    ∷ []
    ≡ true ∷ true ∷ false ∷ false ∷ false ∷ []
unfolding flagged meters_cover
covers = refl

-- order 7: "one mark for each of the 16 players, bit p for player p": players 0, 9 and 15 have entry 1 open, player 2 entry 0
abbrev playing : ℕ → Player
playing entry = record { last = no_last; current = record { on = 1; entry = entry; begin = 100; until = 160; content = 1 } }

abbrev players : List Player
players =
    playing 1 ∷ no_player ∷ playing 0 ∷ (replicate 6 no_player ++ (playing 1 ∷ (replicate 5 no_player ++ (playing 1 ∷ []))))

pub each-mark : marks_of players 0 ∷ marks_of players 1 ∷ marks_of players 2 ∷ [] ≡ 4 ∷ 33281 ∷ 0 ∷ []
unfolding legal_run
each-mark = refl

-- "27 where marks and open uses differ or exceed a threshold": entry 1 with that threshold and these marks
abbrev marked : ℕ → ℕ → Bool
marked threshold marks = entry_meters_legal 100 players 1 (record {
  limits = group threshold (limits 1 1 0 0 0 0 0 0 0 0);
  meters = record { count = 0; timed = 0; first = 0; seconds = 0; started = 0; marks = marks };
})

-- no threshold, one of 16, and one exactly reached; one more open than the threshold; a mark too few, too many, another player's, bit 16
pub marks :
    marked 0 33281
    ∷ marked 16 33281
    ∷ marked 3 33281
    ∷ marked 2 33281
    ∷ marked 3 33280
    ∷ marked 4 33283
    ∷ marked 3 33282
    ∷ marked 0 98817
    ∷ []
    ≡ true ∷ true ∷ true ∷ false ∷ false ∷ false ∷ false ∷ false ∷ []
unfolding legal_run
marks = refl
