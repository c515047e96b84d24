-- The tables are cleared, then the assets are entered from last to first.
use Rattle.std.proofs.Common.{◌≡◌, length}
use Rattle.index.specs.Places.{down, put_place, put_parent, places_of, parents_of}
use Rattle.index.proofs.fill_places.Given as goal

abbrev pub invariant-loop-i : goal.invariant-loop-i
invariant-loop-i l =
    (down (put_place l.assets (length l.assets)) l.i l.places ≡ places_of l.assets (length l.assets)) ×
    (down (put_parent l.assets (length l.assets)) l.i l.parents ≡ parents_of l.assets (length l.assets))
