-- What an event does to the book.
-- Document 01, section "Events", in its order. Quotations are that document's.
-- Every definition is total, on every book value: what a book does not hold reads as blank, and a subtraction stops at 0.
use Rattle.std.specs.Prelude.{ℕ, ◌+◌, Bool, false, not, ◌&&◌, cond, List, map, set, leb, eqb}
use Rattle.numbers.specs.Count.{one}
use Rattle.book.specs.declared.Entry.{Entry}
use Rattle.book.specs.declared.Limits.{Limits}
use Rattle.book.specs.declared.Meters.{Meters}
use Rattle.book.specs.declared.Ask.{Ask}
use Rattle.book.specs.declared.Recent.{Recent}
use Rattle.book.specs.declared.Latest.{Latest}
use Rattle.book.specs.declared.Answer.{Answer}
use Rattle.book.specs.declared.Last.{Last}
use Rattle.book.specs.declared.Open.{Open}
use Rattle.book.specs.declared.Player.{Player}
use Rattle.book.specs.declared.Book.{Book}
use Rattle.book.specs.declared.Event.{Event}
use Rattle.book.specs.declared.Request.{Request}
use Rattle.book.specs.declared.Request.TheVariants.{Begin, Continue, Stop, Cancel}
use Rattle.book.specs.Decoded.{Decoded, Invalid, Valid}
use Rattle.book.specs.Gate.{Gate, Refuse, Resend, Take}
use Rattle.book.specs.declared.Outcome.{Outcome}
use Rattle.book.specs.Blank.{closed}
use Rattle.book.specs.Changed.{changed}
use Rattle.model.specs.Book.{limits_at, meters_at, player_at, momentary, flagged, interval_flag}
use Rattle.model.specs.Record.{kind_number, operation_number, request_asset, request_kind}
use Rattle.model.specs.Gate.{gate}
use Rattle.model.specs.Meters.{amend, begun, continued, ended, cancelled, is_started, is_on, shut, settled}
use Rattle.model.specs.Choice.{Catalog, catalog_of, usable, asks, Choice, any_of, suits, choose, nobody, chosen, grant_until, more_until}
use Rattle.model.specs.Choice.{none_grantable}

-- ## Begin, continue, stop, cancel

-- "Each of 1 to 15 returns entry 255 and until 0."; order 3: "30 255 0"; 43 and 44 are each "an added *taken* answer", which "returns 255
-- and 0"
abbrev pub refusal : ℕ → Answer
refusal code = record { code = code; entry = 255; until = 0 }

-- what a taken event does once all players are settled: the answer, the entries, the asking player's use, and order 8's "whether that
-- event opened a use that started an interval"
pub record Done : Type 0 where
  pub answer : Answer
  pub entries : List Entry
  pub current : Open
  pub started : Bool

-- "*Taken* leaves entries' meters as settling made them."
abbrev pub unchanged : ℕ → List Entry → Open → Done
unchanged code es o = record { answer = refusal code; entries = es; current = o; started = false }

-- a grant of the entry opens a use, and its interval has not started yet
unfoldable pub starts_interval : Limits → Meters → Bool
starts_interval l m = not (momentary l.kind) && flagged interval_flag l && not (is_started m)

-- what a begin for an asset does with the choice; `none` is the code if nothing is grantable. Order 3 of document 02: "The content, an
-- asset of the book, is kept with every open use", and it is "the asset its begin asked for".
abbrev pub granted : ℕ → Ask → ℕ → List Entry → Open → Choice → Done
granted none ask asset es o nobody = unchanged none es o
granted none ask asset es o (chosen i) =
    let t : ℕ = ask.time in
    let u : ℕ = grant_until t (limits_at es i) (meters_at es i) in
    record {
      answer = record { code = 0; entry = i; until = u };
      entries = amend i (begun ask.player t u) es;
      current = cond (momentary (limits_at es i).kind) o (record { on = 1; entry = i; begin = t; until = u; content = asset });
      started = starts_interval (limits_at es i) (meters_at es i);
    }

-- "**Begin**, in order: 11, 10, 12, 13.", or 43: "one in place of 13 also says none grantable"
unfoldable pub do_begin : Catalog → List Entry → Open → Ask → ℕ → ℕ → Done
do_begin c es o ask asset kind =
    cond (is_on o) (unchanged 11 es o)
    (cond (not (usable c asset)) (unchanged 10 es o)
    (cond (not (any_of (suits c es asset kind) c.entry_count)) (unchanged 12 es o)
    (granted (none_grantable c es ask asset kind) ask asset es o (choose c es ask asset kind))))

-- the new until of the open use
abbrev pub more : List Entry → Open → ℕ → ℕ
more es o t = more_until t o.until (limits_at es o.entry) (meters_at es o.entry)

-- a continue until v
abbrev pub lengthened : ℕ → List Entry → Open → Done
lengthened v es o = record {
  answer = record { code = 0; entry = o.entry; until = v };
  entries = amend o.entry (continued o.until v) es;
  current = record { on = 1; entry = o.entry; begin = o.begin; until = v; content = o.content };
  started = false;
}

-- "**Continue**: 14 if nothing is open. ... Equal to the old: 15." (On a legal book no new until is below the old one.)
unfoldable pub do_continue : List Entry → Open → ℕ → Done
do_continue es o t =
    cond (not (is_on o)) (unchanged 14 es o)
    (cond (leb (more es o t) o.until) (unchanged 15 es o)
    (lengthened (more es o t) es o))

-- a stop
abbrev pub halted : Ask → List Entry → Open → Done
halted ask es o = record {
  answer = record { code = 0; entry = o.entry; until = ask.time };
  entries = amend o.entry (ended ask.player o.begin o.until ask.time) es;
  current = closed;
  started = false;
}

-- "**Stop**: 14 if nothing is open. The use ends at t; until − t seconds go back. Answer: its entry, until t."
unfoldable pub do_stop : List Entry → Open → Ask → Done
do_stop es o ask = cond (not (is_on o)) (unchanged 14 es o) (halted ask es o)

-- a cancel: order 8, "the use closes unrecorded"; "The answer is 0, the entry and the use's begin."
abbrev pub taken_back : ℕ → Recent → List Entry → Open → Done
taken_back p r es o = record {
  answer = record { code = 0; entry = o.entry; until = o.begin };
  entries = amend o.entry (cancelled p r o.begin o.until) es;
  current = closed;
  started = false;
}

-- "Answers: 14 if nothing is open, then 44, taken, if another event was taken since or it was no such begin."
unfoldable pub do_cancel : List Entry → Open → ℕ → Recent → Done
do_cancel es o p r =
    cond (not (is_on o)) (unchanged 14 es o)
    (cond (not r.begun) (unchanged 44 es o)
    (taken_back p r es o))

-- what the operation does
unfoldable pub done : Request → Catalog → List Entry → Open → Ask → Recent → Done
done (Begin kind asset) c es o ask r = do_begin c es o ask asset (kind_number kind)
done Continue c es o ask r = do_continue es o ask.time
done Stop c es o ask r = do_stop es o ask
done Cancel c es o ask r = do_cancel es o ask.player r

-- ## The step

abbrev pub last_at : List Player → ℕ → Last
last_at ps p = (player_at ps p).last

abbrev pub open_at : List Player → ℕ → Open
open_at ps p = (player_at ps p).current

-- Order 8: "If, after settling, the last event taken from any player was this player's granted begin of a use still open"; "That begin is
-- known by the header's player and its stored request and answer (a begin, 0, the open use's entry and until)." The player is p, its
-- open use o.
unfoldable pub just_begun : Latest → ℕ → Last → Open → Bool
just_begun x p l o =
    eqb x.player (p + 1)
    && eqb l.operation 1
    && eqb l.answer.code 0
    && eqb l.answer.entry o.entry
    && eqb l.answer.until o.until

-- what is known of the event taken last
abbrev pub recent_of : Latest → ℕ → Last → Open → Recent
recent_of x p l o = record { begun = just_begun x p l o; started = eqb x.started 1 }

-- "its number, request (operation, asset, kind) and answer are stored"
abbrev pub noted : Event → Answer → Last
noted e a = record {
  number = e.number;
  operation = operation_number e.request;
  asset = request_asset e.request;
  kind = request_kind e.request;
  answer = a;
}

-- order 8: "The header keeps the player last taken, plus 1, 0 for none, and whether that event opened a use that started an interval"
abbrev pub latest_by : Event → Bool → Latest
latest_by e w = record { player = e.player + 1; started = one w }

-- "From here the event is *taken*: ... are stored, the book's time becomes t"
abbrev pub stored : Book → Event → List Player → Done → Outcome
stored b e ps d = record {
  answer = d.answer;
  book = changed b e.time (latest_by e d.started) d.entries
      (set ps e.player (record { last = noted e d.answer; current = d.current }));
}

-- an event that is taken: all players are settled, then the operation, then the store
unfoldable pub taken_step : Book → Event → Outcome
taken_step b e =
    let ps : List Player = map (shut e.time) b.players in
    let es : List Entry = settled e.time b.players b.entries in
    let o : Open = open_at ps e.player in
    stored b e ps (done e.request (catalog_of b) es o (asks b e) (recent_of b.latest e.player (last_at b.players e.player) o))

-- a resend "gets the stored answer, t is not read, and nothing changes"
unfoldable pub step_by : Gate → Book → Event → Outcome
step_by (Refuse code) b e = record { answer = refusal code; book = b }
step_by Resend b e = record { answer = (last_at b.players e.player).answer; book = b }
step_by Take b e = taken_step b e

-- an event on a book: the answer, and the book after it
unfoldable pub step : Book → Event → Outcome
step b e = step_by (gate b.time (last_at b.players e.player) e) b e

-- whatever was decoded, an event or a refusal
unfoldable pub arrive : Book → Decoded → Outcome
arrive b (Invalid code) = record { answer = refusal code; book = b }
arrive b (Valid e) = step b e
