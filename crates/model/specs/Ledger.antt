-- The ledger: document 01, section "The ledger". It is built from events and answers alone; nothing here looks at a book's meters or
-- players.
-- Written from that section, separately from the rules of events. Quotations are that document's.
use Rattle.std.specs.Prelude.{ℕ, ◌+◌, ◌-◌, min, Bool, true, false, not, ◌&&◌, ◌||◌, cond, List, [], ◌∷◌, leb, ltb, eqb}
use Rattle.std.proofs.Math.Option.{Option, none, some}
use Rattle.numbers.specs.Count.{one}
use Rattle.numbers.specs.Bits.{mask_of}
use Rattle.book.specs.declared.Limits.{Limits}
use Rattle.book.specs.declared.Answer.{Answer}
use Rattle.book.specs.declared.Event.{Event}
use Rattle.book.specs.declared.Request.{Request}
use Rattle.book.specs.declared.Request.TheVariants.{Begin, Continue, Stop, Cancel}
use Rattle.book.specs.Decoded.{Decoded, Invalid, Valid}
use Rattle.model.specs.Book.{flagged}
use Rattle.model.specs.Book.{count_flag, timed_flag, start_flag, end_flag, interval_flag, accumulated_flag}
use Rattle.model.specs.Record.{operation_number, request_asset, request_kind}

-- "The ledger is a list of uses (entry, player, begin, until, stopped or not)", newest first; order 3 of document 02: "A ledger use notes
-- its content."
pub record Use : Type 0 where
  pub entry : ℕ
  pub player : ℕ
  pub begin : ℕ
  pub until : ℕ
  pub stopped : Bool
  pub content : ℕ

-- an event that was taken, with its answer
pub record Taken : Type 0 where
  pub event : Event
  pub answer : Answer

-- what events and answers leave behind: the uses, and the events taken, newest first
pub record Account : Type 0 where
  pub uses : List Use
  pub taken : List Taken

-- before the first event
abbrev pub empty : Account
empty = record { uses = []; taken = [] }

-- ## Resends and taken events

unfoldable pub latest_taken : ℕ → List Taken → Option Taken
latest_taken p [] = none
latest_taken p (x ∷ xs) = cond (eqb x.event.player p) (some x) (latest_taken p xs)

-- e has the number, operation, asset and kind of x
abbrev pub repeats : Event → Option Taken → Bool
repeats e none = false
repeats e (some x) =
    eqb e.number x.event.number
    && eqb (operation_number e.request) (operation_number x.event.request)
    && eqb (request_asset e.request) (request_asset x.event.request)
    && eqb (request_kind e.request) (request_kind x.event.request)

-- "A resend has the number, operation, asset and kind of its player's latest taken event"
unfoldable pub resent : Account → Event → Bool
resent a e = repeats e (latest_taken e.player a.taken)

-- "its answer is 0 or one that the table or a request calls taken"; order 3: "43, taken"; order 8: "44, taken"
unfoldable pub called_taken : ℕ → Bool
called_taken code =
    eqb code 0 || eqb code 10 || eqb code 11 || eqb code 12 || eqb code 13 || eqb code 14 || eqb code 15 || eqb code 43
    || eqb code 44

-- "T = the t of the latest taken one (0 if none)"
unfoldable pub time_of : List Taken → ℕ
time_of [] = 0
time_of (x ∷ xs) = x.event.time

-- ## The uses

-- the player's latest use
unfoldable pub latest : ℕ → List Use → Option Use
latest p [] = none
latest p (u ∷ us) = cond (eqb u.player p) (some u) (latest p us)

-- the uses, with the player's latest use u replaced by f u
unfoldable pub revise : ℕ → (Use → Use) → List Use → List Use
revise p f [] = []
revise p f (u ∷ us) = cond (eqb u.player p) (f u ∷ us) (u ∷ revise p f us)

-- the use with another until
abbrev pub go_on : ℕ → Use → Use
go_on v u = record { entry = u.entry; player = u.player; begin = u.begin; until = v; stopped = u.stopped; content = u.content }

-- the use, stopped at t
abbrev pub stop_at : ℕ → Use → Use
stop_at t u = record { entry = u.entry; player = u.player; begin = u.begin; until = t; stopped = true; content = u.content }

-- the uses without the player's latest
unfoldable pub without : ℕ → List Use → List Use
without p [] = []
without p (u ∷ us) = cond (eqb u.player p) us (u ∷ without p us)

-- the use that a begin for an asset adds; the content is "the asset its begin asked for"
abbrev pub begun_use : Event → ℕ → Answer → Use
begun_use e asset r = record {
  entry = r.entry;
  player = e.player;
  begin = e.time;
  until = r.until;
  stopped = false;
  content = asset;
}

-- "A granted begin adds a use; a granted continue replaces until on that player's latest use; a granted stop makes until its time and
-- marks it stopped."; order 8, of a granted cancel: "The ledger drops the use."
unfoldable pub posted : Request → Event → Answer → List Use → List Use
posted (Begin kind asset) e r us = begun_use e asset r ∷ us
posted Continue e r us = revise e.player (go_on r.until) us
posted Stop e r us = revise e.player (stop_at e.time) us
posted Cancel e r us = without e.player us

-- "a player's event is taken if it is no resend and its answer is ..."; "Resends and answers 1 to 6 add nothing."; order 3: 30 comes "with
-- nothing changed, the ledger too"
unfoldable pub note : Account → Event → Answer → Account
note a e r =
    cond (resent a e || not (called_taken r.code)) a
    (record {
      uses = cond (eqb r.code 0) (posted e.request e r a.uses) a.uses;
      taken = record { event = e; answer = r } ∷ a.taken;
    })

-- bytes that are no event add nothing
unfoldable pub note_arrival : Account → Decoded → Answer → Account
note_arrival a (Invalid code) r = a
note_arrival a (Valid e) r = note a e r

-- ## The figures of an entry at a time T

-- "At time T a use is open if not stopped and until > T."
unfoldable pub is_open : ℕ → Use → Bool
is_open T u = not u.stopped && ltb T u.until

-- "until − begin"
abbrev pub ran : Use → ℕ
ran u = u.until - u.begin

-- the sum over the uses
unfoldable pub sum_of : (Use → ℕ) → List Use → ℕ
sum_of w [] = 0
sum_of w (u ∷ us) = w u + sum_of w us

-- 1 for a use of entry i
abbrev pub counts : ℕ → Use → ℕ
counts i u = one (eqb u.entry i)

-- `at` gives the time at which each player's uses are judged: T for every player in the statements
abbrev pub counts_timed : (ℕ → ℕ) → ℕ → ℕ → Use → ℕ
counts_timed at timer i u = one (eqb u.entry i && (is_open (at u.player) u || leb timer (ran u)))

-- the seconds of a use of entry i
abbrev pub counts_seconds : ℕ → Use → ℕ
counts_seconds i u = cond (eqb u.entry i) (ran u) 0

-- "Spent count is all uses of the entry"
abbrev pub spent_count : List Use → ℕ → ℕ
spent_count us i = sum_of (counts i) us

-- "spent timed is the uses that are open or ran until − begin ≥ timer"
abbrev pub spent_timed : ℕ → List Use → ℕ → Limits → ℕ
spent_timed T us i l = sum_of (counts_timed (λ p. T) l.timer i) us

-- "spent seconds is the sum of until − begin"
abbrev pub spent_seconds : List Use → ℕ → ℕ
spent_seconds us i = sum_of (counts_seconds i) us

-- order 7 of document 02, "the ledger's open uses": those of entry i that are open at T
abbrev pub counts_open : ℕ → ℕ → Use → ℕ
counts_open T i u = one (eqb u.entry i && is_open T u)

abbrev pub open_together : ℕ → List Use → ℕ → ℕ
open_together T us i = sum_of (counts_open T i) us

-- whether a player's latest use, if it has one, is of entry i and open at T
abbrev pub open_by : ℕ → ℕ → Option Use → Bool
open_by T i none = false
open_by T i (some u) = eqb u.entry i && is_open T u

-- "one mark for each of the 16 players, bit p for player p": those who have entry i open, each judged at its time
unfoldable pub marks_by : (ℕ → ℕ) → List Use → ℕ → ℕ
marks_by at us i = mask_of (λ p. open_by (at p) i (latest p us)) 16

-- the smaller of those present
abbrev pub sooner : ℕ → Option ℕ → ℕ
sooner b none = b
sooner b (some c) = min b c

-- "the interval starts at the earliest begin"
unfoldable pub earliest : ℕ → List Use → Option ℕ
earliest i [] = none
earliest i (u ∷ us) = cond (eqb u.entry i) (some (sooner u.begin (earliest i us))) (earliest i us)

-- "T ≥ interval start + interval"
abbrev pub over : ℕ → ℕ → Option ℕ → Bool
over T interval none = false
over T interval (some c) = leb (c + interval) T

-- ## What stands against an entry

-- the grounds by name
pub data Ground : Type 0 where
  count-spent : Ground
  timed-spent : Ground
  seconds-spent : Ground
  interval-over : Ground
  interval-zero : Ground
  before-start : Ground
  after-end : Ground
  switch-off : Ground
  threshold-full : Ground

-- at the event's time T, whether that ground stands against entry i:
-- "An entry is *spent* at T if, of what is flagged, spent count, spent timed or spent seconds has reached its limit, or
-- T ≥ interval start + interval. It is *out of its dates* at T if, where flagged, T < start or T > end."
-- Order 2 of document 02: "Count, timed, interval and accumulated may now be 0 when flagged; such an entry is ... spent in the ledger".
-- What is spent has reached 0 from the start; an interval of 0 is over though it has no start.
-- Order 3: "With the switch off a tracked entry is grantable only with mark 1"; the book's switch is passed in.
-- Order 7: "By the ledger's open uses a full threshold makes an entry not grantable."
unfoldable pub stands : ℕ → Event → List Use → ℕ → Limits → Ground → Bool
stands switch e us i l count-spent = flagged count_flag l && leb l.count (spent_count us i)
stands switch e us i l timed-spent = flagged timed_flag l && leb l.timed (spent_timed e.time us i l)
stands switch e us i l seconds-spent = flagged accumulated_flag l && leb l.accumulated (spent_seconds us i)
stands switch e us i l interval-over = flagged interval_flag l && over e.time l.interval (earliest i us)
stands switch e us i l interval-zero = flagged interval_flag l && eqb l.interval 0
stands switch e us i l before-start = flagged start_flag l && ltb e.time l.start
stands switch e us i l after-end = flagged end_flag l && ltb l.end e.time
stands switch e us i l switch-off = eqb l.tracked 1 && not (eqb switch 1) && not (eqb l.mark 1)
stands switch e us i l threshold-full = not (eqb l.threshold 0) && leb l.threshold (open_together e.time us i)

-- ## The report

-- "over ended uses of tracked entries": the use counts for that content. A momentary use has ended when it begins.
-- `at` gives the time at which each player's uses are judged: T for every player in the statements; `lim` gives each entry's limits
abbrev pub of_content : (ℕ → ℕ) → (ℕ → Limits) → ℕ → Use → Bool
of_content at lim content u = eqb u.content content && eqb (lim u.entry).tracked 1 && not (is_open (at u.player) u)

-- "one time if it ran at least the timed value"
abbrev pub counts_report : (ℕ → ℕ) → (ℕ → Limits) → ℕ → Use → ℕ
counts_report at lim content u = cond (of_content at lim content u) (one (leb (lim u.entry).timedvalue (ran u))) 0

-- "gains its seconds"
abbrev pub counts_report_seconds : (ℕ → ℕ) → (ℕ → Limits) → ℕ → Use → ℕ
counts_report_seconds at lim content u = cond (of_content at lim content u) (ran u) 0

-- "the ledger's sums over ended uses of tracked entries", at time T
abbrev pub report_times : ℕ → (ℕ → Limits) → ℕ → List Use → ℕ
report_times T lim content us = sum_of (counts_report (λ p. T) lim content) us

abbrev pub report_seconds : ℕ → (ℕ → Limits) → ℕ → List Use → ℕ
report_seconds T lim content us = sum_of (counts_report_seconds (λ p. T) lim content) us
