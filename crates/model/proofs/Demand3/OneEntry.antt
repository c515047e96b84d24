-- Books with one asset and one entry, for the examples of what demand 3 says.
use mathlib.Core.Path.{◌≡◌, refl, ap}
use Prim.Native.Nat.{ℕ, zero, suc, ◌≤◌}
use mathlib.Core.List.{◌∷◌}
use lib.ListN.{get_or, replicate}
use native.Mathlib.Omega.{arith}
use Rattle.numbers.proofs.TableLaws.{blanks}
use Rattle.book.specs.declared.Entry.{Entry}
use Rattle.book.specs.declared.Book.{Book}
use Rattle.book.specs.Blank.{no_asset, no_meters, no_entry, no_player, no_latest}
use Rattle.model.specs.Book.{asset_at, meters_at, rule_broken, Legal, Fresh}
use Rattle.model.specs.Demand3.{Demand3}
use Rattle.model.proofs.Examples.Afternoon.{asset}
use Rattle.model.proofs.Demand3.Proof.{demand3}

-- asset 5 with a key, and one entry
abbrev pub alone : ℕ → Entry → Book
alone switch e = record {
  time = 0;
  switch = switch;
  latest = no_latest;
  assetcount = 1;
  entrycount = 1;
  assets = asset 5 1 0 ∷ replicate 63 no_asset;
  entries = e ∷ replicate 63 no_entry;
  players = replicate 16 no_player;
}

module _ (switch : ℕ) (e : Entry) (new : e.meters ≡ no_meters) (rules : rule_broken (alone switch e) ≡ 0) where
  abbrev b : Book
  b = alone switch e

  assets-blank : (i : ℕ) → 1 ≤ i → asset_at b.assets i ≡ no_asset
  assets-blank zero h = absurd (omega arith)
  assets-blank (suc i) h = blanks 63 i no_asset

  entries-blank : (i : ℕ) → 1 ≤ i → get_or b.entries i no_entry ≡ no_entry
  entries-blank zero h = absurd (omega arith)
  entries-blank (suc i) h = blanks 63 i no_entry

  pub legal : Legal b
  legal = record {
    asset_slots = refl;
    entry_slots = refl;
    player_slots = refl;
    asset_count = omega arith;
    entry_count = omega arith;
    time = omega arith;
    assets_blank = assets-blank;
    entries_blank = entries-blank;
    rules = rules;
  }

  unused : (i : ℕ) → meters_at b.entries i ≡ no_meters
  unused zero = new
  unused (suc i) = ap (λ (x : Entry). x.meters) (blanks 63 i no_entry)

  pub fresh : Fresh b
  fresh = record { time = refl; meters = unused; players = λ p. blanks 16 p no_player; latest = refl }

  pub demanded : Demand3 b
  demanded = demand3 b legal fresh
