-- What demand 3 says of the usage report on a legal and fresh book with one tracked entry: the premises can be met. With the switch on the
-- line is the ledger's sums; with it off a begin gets 43; a list that is not good gets 30 where a resend would get its answer.
use mathlib.Core.Path.{◌≡◌, refl, ap}
use Prim.Native.Nat.{ℕ, zero, suc, ◌≤◌, ◌<◌}
use mathlib.Core.Bool.{true, false, false≢true}
use mathlib.Core.List.{List, [], ◌∷◌}
use lib.ListN.{get_or, replicate}
use native.Mathlib.Omega.{arith}
use Rattle.numbers.proofs.TableLaws.{blanks}
use Rattle.book.specs.declared.Entry.{Entry}
use Rattle.book.specs.declared.Line.{Line}
use Rattle.book.specs.declared.Book.{Book}
use Rattle.book.specs.declared.Event.{Event}
use Rattle.book.specs.declared.Kind.TheVariants.{Play}
use Rattle.book.specs.declared.Request.TheVariants.{Begin, Stop}
use Rattle.book.specs.Decoded.{Decoded, Valid}
use Rattle.book.specs.Blank.{no_asset, no_meters, no_entry, no_player}
use Rattle.model.specs.Book.{asset_at, meters_at, assets_in, entries_in, flagged, rule_broken, Legal, Fresh}
use Rattle.model.specs.Step.{refusal, step}
use Rattle.model.specs.Report.{line_at, Arrival, receive, lines_left}
use Rattle.model.specs.History.{handed, handed_lines}
use Rattle.model.specs.Run.{zero_lines}
use Rattle.model.specs.Ledger.{latest_taken, resent, called_taken, time_of, revise, posted, note, note_arrival, is_open, sum_of, earliest}
use Rattle.model.specs.Ledger.{Ground, count-spent, timed-spent, seconds-spent, interval-over, interval-zero, before-start, after-end}
use Rattle.model.specs.Ledger.{switch-off, threshold-full, stands}
use Rattle.model.specs.Demand1.{same-boot, GoodList}
use Rattle.model.specs.Demand3.{State, advance, after, starting, Takes, Suits, own, MayChoose, against, OutOrSpent, NoneLeft}
use Rattle.model.specs.Demand3.{ForSwitch, Begins, is_resend, Demand3}
use Rattle.model.proofs.Examples.Afternoon.{asset, event, granted}
use Rattle.model.proofs.Examples.Report.{tracked, line}
use Rattle.model.proofs.Examples.Computes.{events_run, legal_run}
use Rattle.model.proofs.Demand3.OneEntry.{alone, demanded}

-- ## The book

-- asset 5; entry 0 plays it 9 times, tracked with timed value 10 and without the mark
abbrev book : ℕ → Book
book switch = alone switch (tracked 5 1 9 10 0)

on : Demand3 (book 1)
unfolding legal_run
on = demanded 1 (tracked 5 1 9 10 0) refl refl

off : Demand3 (book 0)
unfolding legal_run
off = demanded 0 (tracked 5 1 9 10 0) refl refl

-- ## The switch on: uses that end

-- player 0 stops after 9 seconds, too short for a time; player 1's use comes to its end after 60
abbrev day : List Decoded
day =
    event 0 1 (Begin Play 5) 100
    ∷ event 0 2 Stop 109
    ∷ event 1 1 (Begin Play 5) 200
    ∷ event 0 3 Stop 300
    ∷ []

-- the line, from the ledger's sums
pub reported : line_at (handed_lines (book 1) (zero_lines (book 1)) day) 0 ≡ line 5 1 69
unfolding events_run latest_taken resent called_taken time_of revise posted note note_arrival is_open sum_of advance after
reported = (on.reported (zero_lines (book 1)) day on.zeros.0).first refl 0 (omega arith)

-- ## The switch off: 43

abbrev asks : Event
asks = record { player = 0; number = 1; request = Begin Play 5; time = 100 }

abbrev fresh : State
fresh = starting (book 0)

takes : Takes fresh asks
unfolding latest_taken time_of after
takes = (off.checked [] asks).takes (omega arith) (same-boot 0 0 (omega arith) (omega arith) refl refl) (omega arith, omega arith)

begins : Begins fresh asks Play 5
unfolding after
begins = off.begins [] asks Play 5 refl takes

suits : Suits (book 0) 5 1 0
unfolding entries_in
suits = record { below = omega arith; kind-is = refl; serves = own refl }

-- by the ledger the switch is the only ground against entry 0
only-switch : (g : Ground) → against asks fresh 0 g ≡ true → g ≡ switch-off
unfolding stands flagged sum_of
only-switch count-spent h = absurd (false≢true h)
only-switch timed-spent h = absurd (false≢true h)
only-switch seconds-spent h = absurd (false≢true h)
only-switch interval-over h = absurd (false≢true h)
only-switch interval-zero h = absurd (false≢true h)
only-switch before-start h = absurd (false≢true h)
only-switch after-end h = absurd (false≢true h)
only-switch switch-off h = refl
only-switch threshold-full h = absurd (false≢true h)

pub for-switch : ForSwitch fresh asks 5 1
unfolding stands
for-switch = record { entry = 0; suits = suits; stands = refl; only = only-switch }

-- and it is the only entry
none_left : NoneLeft fresh asks 5 1
unfolding stands entries_in
none_left zero h = record { ground = switch-off; holds = refl }
none_left (suc i) h = absurd (omega (arith, h.below))

may-choose : MayChoose fresh asks 5 1
unfolding assets_in
may-choose = record {
  idle = tt;
  asset-in = record { position = 0; below = omega arith; number = refl; key = refl };
  entry = 0;
  suits = suits;
}

pub answers-43 : (step (book 0) asks).answer ≡ refusal 43
answers-43 = (begins.choice (begins.reaches.1 may-choose)).switch.1 (none_left, for-switch)

-- ## A list that is not good

-- player 0 has begun; the same begin comes again with a line that names asset 6
abbrev begun : List Arrival
begun = handed (book 1) (zero_lines (book 1)) (Valid asks ∷ [])

abbrev running : State
running = after (starting (book 1)) begun

abbrev again : List Line → Arrival
again ls = record { event = Valid asks; lines = ls }

abbrev wrong : List Line
wrong = line 6 7 8 ∷ []

not_good : GoodList running.book wrong → ⊥
unfolding events_run advance after
not_good g = omega (arith, g.names 0 (omega arith))

-- by the ledger it is a resend, and with a good list it gets the stored answer
pub is-resend : (resent running.account asks ≡ true) × (is_resend running (again (zero_lines (book 1))) ≡ true)
    × ((receive running.book (again (zero_lines (book 1)))).answer ≡ granted 0 160)
unfolding events_run latest_taken resent called_taken posted note note_arrival advance after
is-resend = (refl, refl, refl)

pub bad-first : (receive running.book (again wrong) ≡ record { answer = refusal 30; book = running.book })
    × (lines_left running.book (again wrong) ≡ wrong)
    × (advance running (again wrong) ≡ running)
    × (is_resend running (again wrong) ≡ false)
bad-first =
    let l = on.lent begun (again wrong) in
    (l.bad not_good, l.lines not_good, l.noted not_good, l.resend not_good)
