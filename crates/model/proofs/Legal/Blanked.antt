-- What a book is with its time, meters, players and event taken last blanked.
use mathlib.Core.Path.{◌≡◌, refl, sym, ap, ◌∙◌, subst}
use Prim.Native.Nat.{ℕ}
use mathlib.Core.Bool.{Bool, true}
use lib.ListN.{get_or, length-map, get_or-map}
use lib.Seq.{ext_get_or}
use native.Mathlib.Omega.{arith}
use Rattle.numbers.specs.Count.{sum}
use Rattle.numbers.specs.Fields.{Fit}
use Rattle.numbers.proofs.FieldLaws.{zeros-fit}
use Rattle.numbers.proofs.TableLaws.{blanks}
use Rattle.book.specs.declared.Limits.{Limits}
use Rattle.book.specs.declared.Entry.{Entry}
use Rattle.book.specs.declared.Player.{Player}
use Rattle.book.specs.declared.Book.{Book}
use Rattle.book.specs.Blank.{no_meters, no_entry, no_player}
use Rattle.model.specs.Book.{limits_at, meters_at, player_at, assets_in, entries_in, in_book, asset_legal, assets_legal, limits_legal, marks_of}
use Rattle.model.specs.Book.{entries_legal, switch_legal, player_blank, player_legal, opens, open_uses, open_seconds, Legal, Fresh}
use Rattle.model.specs.Book.{latest_legal, latest_passes}
use Rattle.model.specs.Image.{newest, entry_widths, entry_values, player_widths, player_values, Typed}
use Rattle.model.specs.Renewed.{unused, renewed}
use Rattle.model.proofs.Ledger.WellFormed.{all-below}
use Rattle.model.proofs.Legal.Facts.{all_of}
use Rattle.model.proofs.Legal.Rules.{lawful_in, player_passes, Counted, MeterOk, Stages, meter-to, stages-from, stages-to}
use Rattle.numbers.proofs.BitLaws.{ones-zero}
use Rattle.numbers.specs.Bits.{mask_of}

unused-counted : {f : Bool} {z : ℕ} → Counted f z 0 0
unused-counted = record { within = λ q. omega arith; covers = λ q. omega arith; unused = λ q. refl }

pub unused-meters : (T : ℕ) (l : Limits) → MeterOk T l no_meters 0 0 0
unused-meters T l = record {
  count = unused-counted;
  timed = unused-counted;
  seconds = unused-counted;
  mark = omega arith;
  unstarted = λ q. refl;
  unset = λ q. refl;
  past = omega arith;
  marks = refl;
  together = λ q. omega (arith, ones-zero);
}

module _ (b : Book) where
  abbrev new : Book
  new = renewed b

  entry_at : (i : ℕ) → get_or new.entries i no_entry ≡ unused (get_or b.entries i no_entry)
  unfolding renewed
  entry_at i = get_or-map unused b.entries i no_entry

  limits-at : (i : ℕ) → limits_at new.entries i ≡ limits_at b.entries i
  limits-at i = ap (λ (e : Entry). e.limits) (entry_at i)

  meters-at : (i : ℕ) → meters_at new.entries i ≡ no_meters
  meters-at i = ap (λ (e : Entry). e.meters) (entry_at i)

  player-at : (p : ℕ) → player_at new.players p ≡ no_player
  unfolding renewed
  player-at p = blanks 16 p no_player

  no-uses : (i : ℕ) → open_uses new.players i ≡ 0
  unfolding renewed open_uses opens sum
  no-uses i = refl

  no-seconds : (i : ℕ) → open_seconds new.players i ≡ 0
  unfolding renewed open_seconds opens sum
  no-seconds i = refl

  no-marks : (i : ℕ) → marks_of new.players i ≡ 0
  unfolding renewed marks_of mask_of opens sum
  no-marks i = refl

  pub new-fresh : Legal b → Fresh new
  unfolding renewed
  new-fresh h = record { time = refl; meters = meters-at; players = player-at; latest = refl }

  blank-passes : player_passes new no_player ≡ true
  unfolding player_legal player_blank
  blank-passes = refl

  new-stages : Legal b → Stages new
  unfolding renewed assets_legal asset_legal assets_in entries_legal limits_legal in_book entries_in switch_legal latest_passes latest_legal
  new-stages h =
      let s = stages-from b h.rules in
      record {
        assets = s.assets;
        switch = s.switch;
        entries = all_of (λ i. lawful_in new (limits_at new.entries i)) (entries_in new)
            (λ i k. subst (λ (l : Limits). lawful_in b l ≡ true) (sym (limits-at i))
            (all-below (λ j. lawful_in b (limits_at b.entries j)) (entries_in b) s.entries i k));
        players = λ p k. subst (λ (x : Player). player_passes new x ≡ true) (sym (player-at p)) blank-passes;
        latest = refl;
        meters = λ i k.
            meter-to new i (rw (meters-at i, no-uses i, no-seconds i, no-marks i) (unused-meters 0 (limits_at new.entries i)));
      }

  pub new-legal : Legal b → Legal new
  unfolding renewed
  new-legal h = record {
    asset_slots = h.asset_slots;
    entry_slots = length-map b.entries unused ∙ h.entry_slots;
    player_slots = refl;
    asset_count = h.asset_count;
    entry_count = h.entry_count;
    time = omega arith;
    assets_blank = h.assets_blank;
    entries_blank = λ i k. entry_at i ∙ ap unused (h.entries_blank i k);
    rules = stages-to new (new-stages h);
  }

  unused-fits : (e : Entry) → Fit (entry_widths newest) (entry_values newest e) → Fit (entry_widths newest) (entry_values newest (unused e))
  unused-fits e f = omega (arith, f)

  pub new-typed : Typed b → Typed new
  unfolding renewed
  new-typed h = record {
    header = omega (arith, h.header.0);
    assets = h.assets;
    entries = λ i. subst (λ (x : Entry). Fit (entry_widths newest) (entry_values newest x)) (sym (entry_at i)) (unused-fits _ (h.entries i));
    players = λ p. subst (λ (x : Player). Fit (player_widths newest) (player_values x)) (sym (player-at p)) (zeros-fit (player_widths newest));
  }

  -- ## A fresh book is its own renewal

  already-unused : (e : Entry) → e.meters ≡ no_meters → unused e ≡ e
  already-unused e h = λ k. record { limits = e.limits; meters = sym h k }

  pub new-same : Legal b → Fresh b → new ≡ b
  unfolding renewed
  new-same h f =
      let es : new.entries ≡ b.entries = ext_get_or no_entry _ _ (length-map b.entries unused)
      (λ i k. entry_at i ∙ already-unused _ (f.meters i)) in
      let ps : new.players ≡ b.players = ext_get_or no_player _ _ (sym h.player_slots) (λ p k. player-at p ∙ sym (f.players p)) in
      λ k. record {
        time = sym f.time k;
        switch = b.switch;
        latest = sym f.latest k;
        assetcount = b.assetcount;
        entrycount = b.entrycount;
        assets = b.assets;
        entries = es k;
        players = ps k;
      }
