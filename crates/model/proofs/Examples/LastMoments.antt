-- Computed examples for order 6 of document 02, "earlier last moment, which is the least of end + 1 and, if started, first + interval; an
-- entry with neither comes last": runs in which the base's rules, "(ii) earlier end, none last; (iii) interval already started", would
-- have chosen otherwise, and runs for each neighbouring wrong rule.
use mathlib.Core.Path.{◌≡◌, refl}
use Prim.Native.Nat.{ℕ}
use mathlib.Core.List.{List, [], ◌∷◌}
use lib.ListN.{replicate}
use Rattle.book.specs.declared.Book.{Book}
use Rattle.book.specs.declared.Entry.{Entry}
use Rattle.book.specs.Decoded.{Decoded}
use Rattle.book.specs.declared.Kind.TheVariants.{Play, Print}
use Rattle.book.specs.declared.Request.TheVariants.{Begin}
use Rattle.book.specs.Blank.{no_player, no_latest}
use Rattle.model.proofs.Examples.Afternoon.{asset, entry, event, granted, run}
use Rattle.model.proofs.Examples.Computes.{events_run}

-- assets 1 and 2 inherit from the parent 9, so a begin for 2 reaches the entries of 9 and not those of 1
abbrev book : Entry → Entry → Book
book x y = record {
  time = 0;
  switch = 0;
  latest = no_latest;
  assetcount = 3;
  entrycount = 2;
  assets = asset 1 1 9 ∷ asset 2 1 9 ∷ asset 9 0 0 ∷ [];
  entries = x ∷ y ∷ [];
  players = replicate 16 no_player;
}

-- entries for print
abbrev counted : ℕ → Entry
counted asset = entry asset 4 1 9 0 0 0 0 0 0

abbrev ending : ℕ → ℕ → Entry
ending asset end = entry asset 4 8 0 0 0 0 end 0 0

-- from 20 on
abbrev dated : ℕ → ℕ → Entry
dated asset end = entry asset 4 12 0 0 0 20 end 0 0

abbrev spanned : ℕ → ℕ → Entry
spanned asset interval = entry asset 4 16 0 0 0 0 0 interval 0

abbrev ending_spanned : ℕ → ℕ → ℕ → Entry
ending_spanned asset end interval = entry asset 4 24 0 0 0 0 end interval 0

-- a print of asset 2 at 10, then one of asset 1 at 20
abbrev both_prints : List Decoded
both_prints = event 0 1 (Begin Print 2) 10 ∷ event 0 2 (Begin Print 1) 20 ∷ []

-- two prints of asset 1
abbrev two_prints : List Decoded
two_prints = event 0 1 (Begin Print 1) 10 ∷ event 0 2 (Begin Print 1) 20 ∷ []

-- the interval of entry 1 starts at 10 and runs out at 110, before the other's end: it goes first while it runs, though inherited
pub interval-before-end :
    run (book (ending 1 5000) (spanned 9 100))
    (event 0 1 (Begin Print 2) 10 ∷ event 0 2 (Begin Print 1) 20 ∷ event 0 3 (Begin Print 1) 109 ∷ event 0 4 (Begin Print 1) 110 ∷ [])
    ≡ (granted 1 10 ∷ granted 1 20 ∷ granted 1 109 ∷ granted 0 110 ∷ [])
unfolding events_run
interval-before-end = refl

-- it runs out at 1010, after the other's end: the other goes first
pub interval-after-end : run (book (spanned 9 1000) (ending 1 500)) both_prints ≡ (granted 0 10 ∷ granted 1 20 ∷ [])
unfolding events_run
interval-after-end = refl

-- both end at 5000, and the interval that has started runs out after that: the same moment, so own before inherited
pub end-of-both : run (book (ending_spanned 9 5000 9000) (ending_spanned 1 5000 9000)) both_prints ≡ (granted 0 10 ∷ granted 1 20 ∷ [])
unfolding events_run
end-of-both = refl

-- of one entry's end and interval the earlier counts
pub least-of-both : run (book (ending_spanned 9 5000 100) (ending 1 4000)) both_prints ≡ (granted 0 10 ∷ granted 0 20 ∷ [])
unfolding events_run
least-of-both = refl

-- two intervals that have started, until 70 and 210: the one that runs out first, not the own one
pub two-intervals :
    run (book (entry 9 4 20 0 0 0 20 0 50 0) (spanned 1 200))
    (event 0 1 (Begin Print 1) 10 ∷ event 0 2 (Begin Print 2) 20 ∷ event 0 3 (Begin Print 1) 30 ∷ event 0 4 (Begin Print 1) 70 ∷ [])
    ≡ (granted 1 10 ∷ granted 0 20 ∷ granted 0 30 ∷ granted 1 70 ∷ [])
unfolding events_run
two-intervals = refl

-- end + 1 equal to first + interval, 101: own before inherited, then the lower position; a second to either side decides
pub ties :
    run (book (spanned 1 91) (dated 1 100)) two_prints
    ∷ run (book (spanned 9 91) (dated 1 100)) two_prints
    ∷ run (book (spanned 1 92) (dated 1 100)) two_prints
    ∷ run (book (spanned 9 91) (dated 1 101)) two_prints
    ∷ []
    ≡ (granted 0 10 ∷ granted 0 20 ∷ [])
    ∷ (granted 0 10 ∷ granted 1 20 ∷ [])
    ∷ (granted 0 10 ∷ granted 1 20 ∷ [])
    ∷ (granted 0 10 ∷ granted 0 20 ∷ [])
    ∷ []
unfolding events_run
ties = refl

-- an interval that has not started gives no moment: an end goes before it, and against a count alone the lower position decides
pub not-started :
    run (book (spanned 1 5) (ending 9 100)) (event 0 1 (Begin Print 1) 10 ∷ [])
    ∷ run (book (counted 1) (spanned 1 5)) (event 0 1 (Begin Print 1) 10 ∷ [])
    ∷ []
    ≡ (granted 1 10 ∷ []) ∷ (granted 0 10 ∷ []) ∷ []
unfolding events_run
not-started = refl

-- an entry with neither comes last, own or not
pub neither-last :
    run (book (counted 1) (ending 9 100)) both_prints
    ∷ run (book (counted 1) (spanned 9 100)) both_prints
    ∷ []
    ≡ (granted 1 10 ∷ granted 1 20 ∷ []) ∷ (granted 1 10 ∷ granted 1 20 ∷ []) ∷ []
unfolding events_run
neither-last = refl

-- for play, with the until of each grant: the interval of entry 1 goes first and cuts the third use short
pub played :
    run (book (entry 1 1 8 0 0 0 0 5000 0 0) (entry 9 1 16 0 0 0 0 0 100 0))
    (event 0 1 (Begin Play 2) 10
    ∷ event 1 1 (Begin Play 1) 20
    ∷ event 1 1 (Begin Play 1) 25
    ∷ event 2 1 (Begin Play 1) 60
    ∷ event 3 1 (Begin Play 1) 110
    ∷ [])
    ≡ (granted 1 70 ∷ granted 1 80 ∷ granted 1 80 ∷ granted 1 110 ∷ granted 0 170 ∷ [])
unfolding events_run
played = refl
