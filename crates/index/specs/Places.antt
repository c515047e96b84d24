-- The tables of positions and parents, and what a lookup in them finds; `proofs/Places` has that this is what `reach_in` says of the assets.
use Prim.Native.Nat.{ℕ, zero, suc, min}
use Rattle.std.specs.Prelude.{◌≡◌, List, get_or, set, replicate, ltb}
use Rattle.std.proofs.Math.Path.{refl}
use Rattle.std.proofs.Math.Bool.{cond}
use Rattle.book.specs.declared.Asset.{Asset}
use Rattle.model.specs.Book.{asset_at}
use Rattle.choice.specs.declared.Reach.{Reach}
use Rattle.choice.specs.Reach.{table_of, reach_in}

-- ## The tables

-- a table filled from position n - 1 down to position 0
unfoldable pub down : (ℕ → List ℕ → List ℕ) → ℕ → List ℕ → List ℕ
down f zero l = l
down f (suc i) l = down f i (f i l)

-- n slots, each v
unfoldable pub slots : ℕ → ℕ → List ℕ
slots v n = replicate n v

-- the asset at position i entered under its number: i if that number can be used
unfoldable pub put_place : List Asset → ℕ → ℕ → List ℕ → List ℕ
put_place ats count i l = set l (asset_at ats i).number (cond (reach_in (table_of ats count) (asset_at ats i).number).usable i 64)

unfoldable pub put_parent : List Asset → ℕ → ℕ → List ℕ → List ℕ
put_parent ats count i l = set l i (reach_in (table_of ats count) (asset_at ats i).number).parent

-- by number: the position of the first asset with that number, 64 if there is none or it cannot be used
unfoldable pub places_of : List Asset → ℕ → List ℕ
places_of ats count = down (put_place ats count) (min count 64) (slots 64 65536)

-- by position: the parent of the asset there, 0 if there is none
unfoldable pub parents_of : List Asset → ℕ → List ℕ
parents_of ats count = down (put_parent ats count) (min count 64) (slots 0 64)

-- what a lookup in such tables finds
unfoldable pub reach_at : List ℕ → List ℕ → ℕ → Reach
reach_at places parents asset =
    record {
      usable = ltb (get_or places asset 0) 64;
      parent = cond (ltb (get_or places asset 0) 64) (get_or parents (get_or places asset 0) 0) 0;
    }

-- ## What the code does

pub slots-new : (v n : ℕ) → replicate n v ≡ slots v n
unfolding slots
slots-new v n = refl
