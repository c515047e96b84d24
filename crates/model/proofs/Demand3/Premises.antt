-- What demand 3 says of three begins on the afternoon's book: its premises can be met, and it distinguishes 11, 10 and 12.
use mathlib.Core.Path.{◌≡◌, refl}
use Prim.Native.Nat.{ℕ}
use mathlib.Core.Logic.{inl}
use mathlib.Core.List.{[], ◌∷◌}
use Rattle.book.specs.declared.Event.{Event}
use Rattle.book.specs.declared.Kind.{Kind}
use Rattle.book.specs.declared.Kind.TheVariants.{Play, Print}
use Rattle.book.specs.declared.Request.TheVariants.{Begin}
use Rattle.model.specs.Step.{refusal, step}
use Rattle.model.specs.History.{handed}
use Rattle.model.specs.Run.{zero_lines}
use Rattle.model.specs.Ledger.{latest_taken, resent, called_taken, is_open, posted, note, note_arrival}
use Rattle.model.specs.Demand3.{State, advance, after, starting, Takes, Unknown, Unsuited, Begins}
use Rattle.model.proofs.Examples.Afternoon.{start, event}
use Rattle.model.proofs.Examples.Example.{afternoon}
use Rattle.model.proofs.Examples.Computes.{events_run}

-- player 0 has begun, and has its use open until 1060
abbrev running : State
running = after (starting start) (handed start (zero_lines start) (event 0 1 (Begin Play 1) 1000 ∷ []))

-- then a player sends a begin
abbrev asks : ℕ → ℕ → Kind → ℕ → Event
asks player number kind asset = record { player = player; number = number; request = Begin kind asset; time = 1001 }

begins-at : (e : Event) (kind : Kind) (asset : ℕ) → e.request ≡ Begin kind asset → Takes running e → Begins running e kind asset
begins-at = afternoon.begins (handed start (zero_lines start) (event 0 1 (Begin Play 1) 1000 ∷ []))

-- it has a use open and asks for an asset that is not in the book: 11, by the ledger alone
pub busy-first : (step running.book (asks 0 2 Play 5)).answer ≡ refusal 11
unfolding events_run latest_taken resent called_taken is_open posted note note_arrival advance after
busy-first = (begins-at (asks 0 2 Play 5) Play 5 refl (record { new = refl; taken = refl })).busy.1 (inl (refl, refl))

-- another player asks for the same and is answered 10: by the ledger it has nothing open, and the asset is not in the book with key 1
pub then-unknown : Unknown running (asks 1 1 Play 5) 5
unfolding events_run latest_taken resent called_taken is_open posted note note_arrival advance after
then-unknown = (begins-at (asks 1 1 Play 5) Play 5 refl (record { new = refl; taken = refl })).unknown.0 refl

-- it asks to print asset 1 and is answered 12: nothing open, the asset in the book with key 1, and no entry suits
pub then-unsuited : Unsuited running (asks 1 1 Print 1) 1 4
unfolding events_run latest_taken resent called_taken is_open posted note note_arrival advance after
then-unsuited = (begins-at (asks 1 1 Print 1) Print 1 refl (record { new = refl; taken = refl })).unsuited.0 refl
