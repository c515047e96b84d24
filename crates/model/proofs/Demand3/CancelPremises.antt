-- What demand 3 says of a cancel on a pack for one showing: the premises can be met. Right after the player's begin it is taken back, and
-- the ledger has no use left; after another player's event, refused as it was, the cancel gets 44; once the use has ended it gets 14.
-- What `Agrees` says of the book: the begin starts the interval, and after the cancel the meters are those of the fresh book.
use mathlib.Core.Path.{◌≡◌, refl, sym, ap, ◌∙◌}
use Prim.Native.Nat.{ℕ}
use mathlib.Core.Bool.{true, false, false≢true}
use mathlib.Core.List.{List, [], ◌∷◌}
use native.Mathlib.Omega.{arith}
use Rattle.book.specs.declared.Entry.{Entry}
use Rattle.book.specs.declared.Book.{Book}
use Rattle.book.specs.declared.Event.{Event}
use Rattle.book.specs.declared.Kind.TheVariants.{Play}
use Rattle.book.specs.declared.Request.TheVariants.{Begin, Stop, Cancel}
use Rattle.book.specs.Decoded.{Decoded, Valid}
use Rattle.book.specs.Blank.{no_meters}
use Rattle.model.specs.Book.{meters_at, Legal}
use Rattle.model.specs.Meters.{cancelled, begun as begins}
use Rattle.model.specs.Step.{starts_interval, refusal, step}
use Rattle.model.specs.Report.{Arrival}
use Rattle.model.specs.History.{handed}
use Rattle.model.specs.Run.{zero_lines}
use Rattle.model.specs.Ledger.{Use, Taken, latest_taken, resent, called_taken, latest, posted, note, note_arrival, is_open}
use Rattle.model.specs.Ledger.{time_of, without, sum_of, earliest, marks_by}
use Rattle.model.specs.Demand3.{State, advance, after, starting, Takes, NothingOpen, IsCurrent, JustBegun, TakenBack, Demand3}
use Rattle.model.specs.Demand3.{figures}
use Rattle.model.specs.Agrees.{KeptBy}
use Rattle.model.proofs.Examples.Afternoon.{entry, event, granted}
use Rattle.model.proofs.Examples.Computes.{events_run, legal_run}
use Rattle.model.proofs.Demand3.OneEntry.{alone, legal, fresh, demanded}
use Rattle.model.proofs.Demand3.Agrees.{agrees}

-- entry 0 plays asset 5 once, in an interval of 1,000 seconds
abbrev pack : Entry
pack = entry 5 1 17 1 0 0 0 0 1000 0

abbrev book : Book
book = alone 0 pack

holds : Demand3 book
unfolding legal_run
holds = demanded 0 pack refl refl

-- these events, and the state after them
abbrev arrivals : List Decoded → List Arrival
arrivals ds = handed book (zero_lines book) ds

abbrev state : List Decoded → State
state ds = after (starting book) (arrivals ds)

-- player 0 has begun, and has its use open from 100 to 160
abbrev begun : List Decoded
begun = event 0 1 (Begin Play 5) 100 ∷ []

abbrev asks : ℕ → Event
asks t = record { player = 0; number = 2; request = Cancel; time = t }

-- ## Taken back

takes : Takes (state begun) (asks 159)
unfolding events_run latest_taken resent called_taken posted note note_arrival is_open advance after
takes = record { new = refl; taken = refl }

abbrev current : Use
current = record { entry = 0; player = 0; begin = 100; until = 160; stopped = false; content = 5 }

abbrev last : Taken
last = record { event = record { player = 0; number = 1; request = Begin Play 5; time = 100 }; answer = granted 0 160 }

had-last : (state begun).account.taken ≡ last ∷ []
unfolding events_run latest_taken resent called_taken posted note note_arrival advance after
had-last = refl

had-one : (state begun).account.uses ≡ current ∷ []
unfolding events_run latest_taken resent called_taken posted note note_arrival advance after
had-one = refl

is-current : IsCurrent 159 0 (state begun).account.uses current
unfolding events_run latest_taken resent called_taken latest posted note note_arrival is_open advance after
is-current = record { latest-use = refl; still_open = refl }

abbrev just-begun : JustBegun (state begun) (asks 159)
just-begun = record {
  begun = record { last = last; earlier = []; is_last = had-last; kind = Play; asset = 5; begin = refl; granted = refl };
  player = refl;
  current = current;
  is-current = is-current;
}

taken_back_lem : TakenBack (state begun) (asks 159) just-begun (step (state begun).book (asks 159)).answer
taken_back_lem = (holds.cancels (arrivals begun) (asks 159) refl takes).back just-begun

-- the answer: the entry, and the use's begin
pub answer-is : (step (state begun).book (asks 159)).answer ≡ granted 0 100
answer-is = taken_back_lem.answer

-- its use was the only one, so none is left
behind : (x y : Use) (us : List Use) → x ∷ us ≡ y ∷ [] → us ≡ []
behind x y us e = cc

pub none_left : (note_arrival (state begun).account (Valid (asks 159)) (step (state begun).book (asks 159)).answer).uses ≡ []
none_left = behind current current _ (sym taken_back_lem.dropped ∙ had-one)

-- ## 44

-- player 1 has nothing to stop: 14, and its event was taken
abbrev passed : List Decoded
passed = event 0 1 (Begin Play 5) 100 ∷ event 1 1 Stop 110 ∷ []

abbrev stop : Taken
stop = record { event = record { player = 1; number = 1; request = Stop; time = 110 }; answer = refusal 14 }

passed-takes : Takes (state passed) (asks 159)
unfolding events_run latest_taken resent called_taken posted note note_arrival is_open advance after
passed-takes = record { new = refl; taken = refl }

some-open : NothingOpen 159 0 (state passed).account.uses → ⊥
unfolding events_run latest_taken resent called_taken posted note note_arrival is_open advance after
some-open n = false≢true (sym (n.0 refl))

had-stop : (state passed).account.taken ≡ stop ∷ last ∷ []
unfolding events_run latest_taken resent called_taken posted note note_arrival advance after
had-stop = refl

newest : (x y : Taken) (xs ys : List Taken) → x ∷ xs ≡ y ∷ ys → x ≡ y
newest x y xs ys e = cc

not-begun : JustBegun (state passed) (asks 159) → ⊥
not-begun j =
    omega (
      arith,
      ap (λ (x : Taken). x.event.player) (newest j.begun.last stop j.begun.earlier (last ∷ []) (sym j.begun.is_last ∙ had-stop)),
      j.player,
    )

pub answers-44 : (step (state passed).book (asks 159)).answer ≡ refusal 44
answers-44 = (holds.cancels (arrivals passed) (asks 159) refl passed-takes).since.1 (some-open, not-begun)

-- ## 14

-- at 160 the use has ended
over-takes : Takes (state begun) (asks 160)
unfolding events_run latest_taken resent called_taken posted note note_arrival is_open advance after
over-takes = record { new = refl; taken = refl }

pub answers-14 : (step (state begun).book (asks 160)).answer ≡ refusal 14
unfolding events_run latest_taken resent called_taken posted note note_arrival is_open advance after
answers-14 = (holds.cancels (arrivals begun) (asks 160) refl over-takes).nothing.1 (λ p. refl, tt)

-- ## What the book keeps

is-legal : Legal book
unfolding legal_run
is-legal = legal 0 pack refl refl

kept : (ds : List Decoded) → KeptBy (state ds)
unfolding legal_run
kept ds = agrees.kept book is-legal (fresh 0 pack refl refl) (arrivals ds)

-- the use is the first of an entry with an interval
pub starts : (state begun).book.latest.started ≡ 1
unfolding events_run latest_taken resent called_taken time_of posted note note_arrival is_open advance after
starts = (kept begun).started.1 (record {
  begun = just-begun.begun;
  current = current;
  others = [];
  is-newest = had-one;
  added = record { entry = refl; player = refl; begin = refl; until = refl; stopped = refl; content = refl };
  opened = refl;
  interval = refl;
  first = tt;
})

-- once it is taken back, the ledger's figures are 0, and the last event taken started nothing
abbrev back : List Decoded
back = event 0 1 (Begin Play 5) 100 ∷ event 0 2 Cancel 159 ∷ []

pub meters-back : meters_at (state back).book.entries 0 ≡ no_meters
unfolding events_run latest_taken resent called_taken time_of posted without note note_arrival is_open sum_of earliest figures advance after
    marks_by latest
meters-back = (kept back).meters 0

pub not-started : (state back).book.latest.started ≡ 1 → ⊥
unfolding events_run latest_taken resent called_taken posted without note note_arrival advance after
not-started e = go ((kept back).started.0 e).is-newest
  where
    go : {u : Use} {us : List Use} → ◌≡◌ {A = List Use} [] (u ∷ us) → ⊥
    go z = let w : true ≡ false = cc in false≢true (sym w)

-- on the fresh book's meters, in which no mark is set
pub same-meters : cancelled 0 (record { begun = true; started = true }) 100 160 pack.limits (begins 0 100 160 pack.limits pack.meters)
    ≡ pack.meters
unfolding legal_run starts_interval
same-meters = agrees.inverse book 0 0 100 160 (record { begun = true; started = true }) is-legal (omega arith) refl refl refl
