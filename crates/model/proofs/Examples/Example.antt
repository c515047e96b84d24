-- The afternoon's book is legal, fresh and typed, so demand 3 and saving hold of it: the theorems' premises can be met.
use mathlib.Core.Path.{◌≡◌, refl, sym, ap, subst}
use Prim.Native.Nat.{ℕ, zero, suc, ◌≤◌}
use lib.ListN.{get_or}
use native.Mathlib.Omega.{arith}
use Rattle.numbers.specs.Fields.{Fit}
use Rattle.numbers.proofs.FieldLaws.{zeros-fit}
use Rattle.numbers.proofs.TableLaws.{blanks}
use Rattle.book.specs.declared.Asset.{Asset}
use Rattle.book.specs.declared.Entry.{Entry}
use Rattle.book.specs.declared.Player.{Player}
use Rattle.book.specs.declared.Event.{Event}
use Rattle.book.specs.Blank.{no_asset, no_meters, no_entry, no_player}
use Rattle.model.specs.Book.{asset_at, meters_at}
use Rattle.model.specs.Book.{rule_broken, Legal}
use Rattle.model.specs.Book.{Fresh}
use Rattle.model.specs.Image.{newest, header_tail, asset_widths, asset_values, entry_widths, entry_values, player_widths, player_values}
use Rattle.model.specs.Image.{Typed}
use Rattle.model.specs.Step.{step}
use Rattle.model.specs.Demand3.{Demand3}
use Rattle.model.specs.Saved.{Fits, Survives}
use Rattle.model.proofs.Examples.Afternoon.{start}
use Rattle.model.proofs.Demand3.Proof.{demand3}
use Rattle.model.proofs.Legal.Step.{saved}
use Rattle.model.proofs.Examples.Computes.{legal_run}

assets-blank : (i : ℕ) → 4 ≤ i → asset_at start.assets i ≡ no_asset
assets-blank zero h = absurd (omega arith)
assets-blank (suc zero) h = absurd (omega arith)
assets-blank (suc (suc zero)) h = absurd (omega arith)
assets-blank (suc (suc (suc zero))) h = absurd (omega arith)
assets-blank (suc (suc (suc (suc i)))) h = blanks 60 i no_asset

entries-blank : (i : ℕ) → 3 ≤ i → get_or start.entries i no_entry ≡ no_entry
entries-blank zero h = absurd (omega arith)
entries-blank (suc zero) h = absurd (omega arith)
entries-blank (suc (suc zero)) h = absurd (omega arith)
entries-blank (suc (suc (suc i))) h = blanks 61 i no_entry

rules-kept : rule_broken start ≡ 0
unfolding legal_run
rules-kept = refl

pub start-legal : Legal start
start-legal = record {
  asset_slots = refl;
  entry_slots = refl;
  player_slots = refl;
  asset_count = omega arith;
  entry_count = omega arith;
  time = omega arith;
  assets_blank = assets-blank;
  entries_blank = entries-blank;
  rules = rules-kept;
}

unused : (i : ℕ) → meters_at start.entries i ≡ no_meters
unused zero = refl
unused (suc zero) = refl
unused (suc (suc zero)) = refl
unused (suc (suc (suc i))) = ap (λ (e : Entry). e.meters) (blanks 61 i no_entry)

pub start-fresh : Fresh start
start-fresh = record { time = refl; meters = unused; players = λ p. blanks 16 p no_player; latest = refl }

pub afternoon : Demand3 start
afternoon = demand3 start start-legal start-fresh

assets-fit : (i : ℕ) → Fit (asset_widths newest) (asset_values (asset_at start.assets i))
assets-fit zero = omega arith
assets-fit (suc zero) = omega arith
assets-fit (suc (suc zero)) = omega arith
assets-fit (suc (suc (suc zero))) = omega arith
assets-fit (suc (suc (suc (suc i)))) = subst (λ (x : Asset). Fit (asset_widths newest) (asset_values x)) (sym (blanks 60 i no_asset))
    (zeros-fit (asset_widths newest))

entries_fit : (i : ℕ) → Fit (entry_widths newest) (entry_values newest (get_or start.entries i no_entry))
entries_fit zero = omega arith
entries_fit (suc zero) = omega arith
entries_fit (suc (suc zero)) = omega arith
entries_fit (suc (suc (suc i))) = subst (λ (x : Entry). Fit (entry_widths newest) (entry_values newest x)) (sym (blanks 61 i no_entry))
    (zeros-fit (entry_widths newest))

pub start-typed : Typed start
start-typed = record {
  header = zeros-fit (header_tail newest);
  assets = assets-fit;
  entries = entries_fit;
  players = λ p. subst (λ (x : Player). Fit (player_widths newest) (player_values x)) (sym (blanks 16 p no_player))
      (zeros-fit (player_widths newest));
}

-- saved after any first event, the afternoon's book comes back
pub start-survives : (e : Event) → Fits e → Survives (step start e).book
start-survives e f = saved.step_survives start e start-legal start-typed f
