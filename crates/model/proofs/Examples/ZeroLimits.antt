-- A limit of zero, order 2 of document 02: computed examples of begins on such entries, alone and beside others, and a book of such
-- entries alone, of which demand 3 says that every begin gets 13.
use mathlib.Core.Path.{◌≡◌, refl, ap}
use Prim.Native.Nat.{ℕ, zero, suc, ◌≤◌, ◌<◌}
use mathlib.Core.Bool.{Bool, true, false}
use mathlib.Core.List.{List, [], ◌∷◌, ◌++◌}
use lib.ListN.{get_or, replicate}
use native.Mathlib.Omega.{arith}
use Rattle.numbers.proofs.TableLaws.{blanks}
use Rattle.book.specs.declared.Book.{Book}
use Rattle.book.specs.declared.Entry.{Entry}
use Rattle.book.specs.declared.Event.{Event}
use Rattle.book.specs.declared.Kind.TheVariants.{Play, Display, Execute, Print}
use Rattle.book.specs.declared.Request.TheVariants.{Begin, Continue, Stop}
use Rattle.book.specs.Blank.{no_asset, no_entry, no_player, no_meters, no_latest}
use Rattle.model.specs.Book.{asset_at, limits_at, meters_at, flagged, rule_broken, Legal}
use Rattle.model.specs.Choice.{grounds_of, ground_list}
use Rattle.model.specs.Step.{refusal, step}
use Rattle.model.specs.Ledger.{latest_taken, resent, called_taken}
use Rattle.model.specs.Demand3.{after, own, ZeroLimit, zero-count, zero-timed, zero-interval, zero-accumulated, NeverGranted}
use Rattle.model.proofs.Examples.Afternoon.{asset, limits, entry, event, granted, run}
use Rattle.model.proofs.Examples.Computes.{events_run, legal_run}
use Rattle.model.proofs.Demand3.Proof.{demand3}

-- assets 1 and 2 inherit from the parent 9
abbrev book : List Entry → ℕ → Book
book entries count = record {
  time = 0;
  switch = 0;
  latest = no_latest;
  assetcount = 3;
  entrycount = count;
  assets = asset 1 1 9 ∷ asset 2 1 9 ∷ asset 9 0 0 ∷ replicate 61 no_asset;
  entries = entries;
  players = replicate 16 no_player;
}

-- a count, a timed count, an interval and an accumulated of 0; a count of 0 of a kind that opens nothing
abbrev zeros : List Entry
zeros =
    entry 1 1 1 0 0 0 0 0 0 0
    ∷ entry 1 2 2 0 0 30 0 0 0 0
    ∷ entry 1 3 16 0 0 0 0 0 0 0
    ∷ entry 2 1 32 0 0 0 0 0 0 0
    ∷ entry 9 4 1 0 0 0 0 0 0 0
    ∷ replicate 59 no_entry

-- "a begin with only such entries gets 13", the second time as the first; a resend of it gets 13 again, and nothing is open
pub alone :
    run (book zeros 5)
    (event 0 1 (Begin Play 1) 10
    ∷ event 1 1 (Begin Display 1) 10
    ∷ event 2 1 (Begin Execute 1) 10
    ∷ event 3 1 (Begin Play 2) 10
    ∷ event 4 1 (Begin Print 1) 10
    ∷ event 2 1 (Begin Execute 1) 10
    ∷ event 2 2 (Begin Execute 1) 10
    ∷ event 2 3 Continue 11
    ∷ event 2 4 Stop 11
    ∷ [])
    ≡ (replicate 7 (refusal 13) ++ replicate 2 (refusal 14))
unfolding events_run
alone = refl

-- each beside an entry that can be granted. The entry with the 0 goes first by its end and by its position; it is not chosen.
abbrev pairs : List Entry
pairs =
    entry 1 1 9 0 0 0 0 500 0 0
    ∷ entry 9 1 9 1 0 0 0 600 0 0
    ∷ entry 1 2 10 0 0 5 0 500 0 0
    ∷ entry 9 2 9 1 0 0 0 600 0 0
    ∷ entry 1 3 24 0 0 0 0 500 0 0
    ∷ entry 9 3 24 0 0 0 0 600 20 0
    ∷ entry 2 1 40 0 0 0 0 500 0 0
    ∷ entry 2 4 24 0 0 0 0 500 0 0
    ∷ entry 9 4 9 1 0 0 0 600 0 0
    ∷ []

pub beside :
    run (book pairs 9)
    (event 0 1 (Begin Play 1) 10
    ∷ event 1 1 (Begin Display 1) 10
    ∷ event 2 1 (Begin Execute 1) 10
    ∷ event 3 1 (Begin Play 2) 10
    ∷ event 4 1 (Begin Print 2) 10
    ∷ event 4 2 (Begin Print 2) 10
    ∷ [])
    ≡ (granted 1 70 ∷ granted 3 70 ∷ granted 5 30 ∷ refusal 13 ∷ granted 8 10 ∷ refusal 13 ∷ [])
unfolding events_run
beside = refl

-- the grounds against an interval that has not started, or has at 5; at 7
abbrev grounds : ℕ → ℕ → List Bool
grounds interval started = ground_list (grounds_of (record { player = 0; time = 7; switch = 0 }) (limits 1 1 16 0 0 0 0 0 interval 0)
    (record { count = 0; timed = 0; first = 5; seconds = 0; started = started; marks = 0 }))

-- an interval of 0 is a ground by itself, and is over once it has started; one of 2 is over, one of 3 is not
pub interval-grounds :
    grounds 0 0 ∷ grounds 0 1 ∷ grounds 2 0 ∷ grounds 2 1 ∷ grounds 3 1 ∷ []
    ≡ ((replicate 6 false ++ (true ∷ false ∷ false ∷ []))
    ∷ (replicate 4 false ++ (true ∷ false ∷ true ∷ false ∷ false ∷ []))
    ∷ replicate 9 false
    ∷ (replicate 4 false ++ (true ∷ replicate 4 false))
    ∷ replicate 9 false
    ∷ [])
unfolding flagged grounds_of
interval-grounds = refl

-- ## Demand 3 of the book with such entries alone

abbrev promotional : Book
promotional = book zeros 5

assets-blank : (i : ℕ) → 3 ≤ i → asset_at promotional.assets i ≡ no_asset
assets-blank zero h = absurd (omega arith)
assets-blank (suc zero) h = absurd (omega arith)
assets-blank (suc (suc zero)) h = absurd (omega arith)
assets-blank (suc (suc (suc i))) h = blanks 61 i no_asset

entries-blank : (i : ℕ) → 5 ≤ i → get_or zeros i no_entry ≡ no_entry
entries-blank zero h = absurd (omega arith)
entries-blank (suc zero) h = absurd (omega arith)
entries-blank (suc (suc zero)) h = absurd (omega arith)
entries-blank (suc (suc (suc zero))) h = absurd (omega arith)
entries-blank (suc (suc (suc (suc zero)))) h = absurd (omega arith)
entries-blank (suc (suc (suc (suc (suc i))))) h = blanks 59 i no_entry

rules-kept : rule_broken promotional ≡ 0
unfolding legal_run
rules-kept = refl

pub promotional-legal : Legal promotional
promotional-legal = record {
  asset_slots = refl;
  entry_slots = refl;
  player_slots = refl;
  asset_count = omega arith;
  entry_count = omega arith;
  time = omega arith;
  assets_blank = assets-blank;
  entries_blank = entries-blank;
  rules = rules-kept;
}

unused : (i : ℕ) → meters_at zeros i ≡ no_meters
unused zero = refl
unused (suc zero) = refl
unused (suc (suc zero)) = refl
unused (suc (suc (suc zero))) = refl
unused (suc (suc (suc (suc zero)))) = refl
unused (suc (suc (suc (suc (suc i))))) = ap (λ (e : Entry). e.meters) (blanks 59 i no_entry)

pub never : NeverGranted promotional
never =
    (demand3 promotional promotional-legal (record { time = refl; meters = unused; players = λ p. blanks 16 p no_player; latest = refl })
    ).never

-- every entry of the book has a limit of 0
each-zero : (i : ℕ) → i < 5 → ZeroLimit (limits_at zeros i)
unfolding flagged
each-zero zero h = zero-count refl refl
each-zero (suc zero) h = zero-timed refl refl
each-zero (suc (suc zero)) h = zero-interval refl refl
each-zero (suc (suc (suc zero))) h = zero-accumulated refl refl
each-zero (suc (suc (suc (suc zero)))) h = zero-count refl refl
each-zero (suc (suc (suc (suc (suc i))))) h = absurd (omega arith)

-- the begin that an interval of 0 would be granted once
abbrev execute : Event
execute = record { player = 2; number = 1; request = Begin Execute 1; time = 10 }

pub execute-none : (step promotional execute).answer ≡ refusal 13
unfolding events_run latest_taken resent called_taken after
execute-none =
    never.only [] execute Execute 1 refl (record { new = refl; taken = refl })
    (record {
      idle = tt;
      asset-in = record { position = 0; below = omega arith; number = refl; key = refl };
      entry = 2;
      suits = record { below = omega arith; kind-is = refl; serves = own refl };
    })
    (λ i z. each-zero i z.below)
