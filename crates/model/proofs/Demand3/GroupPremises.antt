-- What demand 3 says of a pack for one player at a time: the premises can be met. While a player has it open, its open uses by the ledger
-- are as many as the threshold, the threshold is the ground against it, and a begin gets 13.
use mathlib.Core.Path.{◌≡◌, refl}
use Prim.Native.Nat.{ℕ, zero, suc, ◌≤◌}
use mathlib.Core.Bool.{true}
use mathlib.Core.List.{List, [], ◌∷◌}
use native.Mathlib.Omega.{arith}
use Rattle.book.specs.declared.Entry.{Entry}
use Rattle.book.specs.declared.Book.{Book}
use Rattle.book.specs.declared.Event.{Event}
use Rattle.book.specs.declared.Kind.TheVariants.{Play}
use Rattle.book.specs.declared.Request.TheVariants.{Begin}
use Rattle.model.specs.Book.{assets_in, entries_in}
use Rattle.model.specs.Step.{refusal, step}
use Rattle.model.specs.Report.{Arrival}
use Rattle.model.specs.History.{handed}
use Rattle.model.specs.Run.{zero_lines}
use Rattle.model.specs.Ledger.{latest_taken, resent, called_taken, time_of, posted, note, note_arrival, is_open, sum_of, earliest}
use Rattle.model.specs.Ledger.{open_together, switch-off, threshold-full, stands}
use Rattle.model.specs.Demand3.{State, advance, after, starting, Takes, Suits, own, MayChoose, against, NoneLeft}
use Rattle.model.specs.Demand3.{ForSwitch, Begins, Demand3}
use Rattle.model.proofs.Ledger.Facts.{clash}
use Rattle.model.proofs.Examples.Afternoon.{event}
use Rattle.model.proofs.Examples.Thresholds.{pack}
use Rattle.model.proofs.Examples.Computes.{events_run, legal_run}
use Rattle.model.proofs.Demand3.OneEntry.{alone, demanded}

-- entry 0 plays asset 5 99 times, one player at a time
abbrev book : Book
book = alone 0 (pack 1 5 1)

holds : Demand3 book
unfolding legal_run
holds = demanded 0 (pack 1 5 1) refl refl

-- player 0 has begun, and has its use open until 160
abbrev begun : List Arrival
begun = handed book (zero_lines book) (event 0 1 (Begin Play 5) 100 ∷ [])

abbrev running : State
running = after (starting book) begun

-- the limit is reached, and not passed
pub one-open : open_together (time_of running.account.taken) running.account.uses 0 ≡ 1
unfolding events_run latest_taken resent called_taken time_of posted note note_arrival is_open sum_of advance after
one-open = refl

pub at_most_one : open_together (time_of running.account.taken) running.account.uses 0 ≤ 1
at_most_one = (holds.limits begun).together 0 (λ z. absurd (omega (arith, z)))

-- player 1 asks
abbrev asks : Event
asks = record { player = 1; number = 1; request = Begin Play 5; time = 101 }

takes : Takes running asks
unfolding events_run latest_taken resent called_taken posted note note_arrival is_open advance after
takes = record { new = refl; taken = refl }

begins : Begins running asks Play 5
begins = holds.begins begun asks Play 5 refl takes

suits : Suits running.book 5 1 0
unfolding events_run advance after
suits = record { below = omega arith; kind-is = refl; serves = own refl }

may-choose : MayChoose running asks 5 1
unfolding events_run latest_taken resent called_taken posted note note_arrival is_open advance after
may-choose = record {
  idle = (λ z. absurd (omega (arith, z)), tt);
  asset-in = record { position = 0; below = omega arith; number = refl; key = refl };
  entry = 0;
  suits = suits;
}

-- by the ledger its only entry is full
none_left : NoneLeft running asks 5 1
unfolding events_run latest_taken resent called_taken posted note note_arrival is_open sum_of stands advance after
none_left zero h = record { ground = threshold-full; holds = refl }
none_left (suc i) h = absurd (omega (arith, h.below))

not_switch : ForSwitch running asks 5 1 → ⊥
unfolding events_run latest_taken resent called_taken posted note note_arrival is_open sum_of stands advance after
not_switch w = go w.entry w.suits w.stands
  where
    go : (i : ℕ) → Suits running.book 5 1 i → against asks running i switch-off ≡ true → ⊥
    go zero s e = clash e refl
    go (suc i) s e = absurd (omega (arith, s.below))

pub answers-13 : (step running.book asks).answer ≡ refusal 13
answers-13 = (begins.choice (begins.reaches.1 may-choose)).none.1 (none_left, not_switch)
