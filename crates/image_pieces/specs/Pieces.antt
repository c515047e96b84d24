-- The bytes of each piece and record, under the name that callers use, and their number.
use Rattle.std.specs.Prelude.{◌≡◌, refl, ℕ, List, [], ◌∷◌, ◌++◌, length}
use Rattle.numbers.specs.Fields.{Width, bits32, laid_out}
use Rattle.book.specs.declared.Asset.{Asset}
use Rattle.book.specs.declared.Limits.{Limits}
use Rattle.book.specs.declared.Meters.{Meters}
use Rattle.book.specs.declared.Entry.{Entry}
use Rattle.book.specs.declared.Last.{Last}
use Rattle.book.specs.declared.Latest.{Latest}
use Rattle.book.specs.declared.Open.{Open}
use Rattle.book.specs.declared.Player.{Player}
use Rattle.book.specs.declared.Book.{Book}
use Rattle.model.specs.Image.{newest, header_start, start_values, header_bytes, asset_widths, asset_values, asset_bytes, limits_widths}
use Rattle.model.specs.Image.{track_widths, track_values, limits_values, meters_widths, meters_values, entry_bytes, last_widths, last_values}
use Rattle.model.specs.Image.{group_widths, group_values, open_widths, open_values}
use Rattle.model.specs.Image.{player_bytes, header_size, asset_size, entry_size, player_size}

-- ## The header

unfoldable pub start_bytes : ℕ → ℕ → ℕ → List ℕ
start_bytes assets entries time = laid_out header_start (start_values newest assets entries time)

pub start-shut : (assets entries time : ℕ) → laid_out header_start (start_values newest assets entries time) ≡ start_bytes assets entries time
unfolding start_bytes
start-shut assets entries time = refl

pub start-length : (assets entries time : ℕ) → length (start_bytes assets entries time) ≡ 11
unfolding start_bytes
start-length assets entries time = refl

-- a number that a version adds
unfoldable pub number_bytes : ℕ → List ℕ
number_bytes n = laid_out (bits32 ∷ []) (n ∷ [])

pub number-shut : (n : ℕ) → laid_out (bits32 ∷ []) (n ∷ []) ≡ number_bytes n
unfolding number_bytes
number-shut n = refl

pub number-length : (n : ℕ) → length (number_bytes n) ≡ 4
unfolding number_bytes
number-length n = refl

-- the event taken last
abbrev pub latest_widths : List Width
latest_widths = bits32 ∷ bits32 ∷ []

abbrev pub latest_values : Latest → List ℕ
latest_values x = x.player ∷ x.started ∷ []

unfoldable pub latest_bytes : Latest → List ℕ
latest_bytes x = laid_out latest_widths (latest_values x)

pub latest-shut : (x : Latest) → laid_out latest_widths (latest_values x) ≡ latest_bytes x
unfolding latest_bytes
latest-shut x = refl

pub latest-length : (x : Latest) → length (latest_bytes x) ≡ 8
unfolding latest_bytes
latest-length x = refl

-- the start, the switch and the event taken last are the whole header
pub header-pieces : (assets entries : ℕ) (b : Book)
    → start_bytes assets entries b.time ++ number_bytes b.switch ++ latest_bytes b.latest ≡ header_bytes assets entries b
unfolding start_bytes number_bytes latest_bytes header_bytes
header-pieces assets entries b = refl

pub header-length : (assets entries : ℕ) (b : Book) → length (header_bytes assets entries b) ≡ header_size newest
unfolding header_bytes header_size
header-length assets entries b = refl

-- ## An asset

pub asset-shut : (a : Asset) → laid_out (asset_widths newest) (asset_values a) ≡ asset_bytes a
unfolding asset_bytes
asset-shut a = refl

pub asset-length : (a : Asset) → length (asset_bytes a) ≡ asset_size newest
unfolding asset_bytes asset_size
asset-length a = refl

-- ## An entry, piece by piece

unfoldable pub limits_bytes : Limits → List ℕ
limits_bytes l = laid_out limits_widths (limits_values l)

unfoldable pub meters_bytes : Meters → List ℕ
meters_bytes m = laid_out meters_widths (meters_values m)

pub limits-shut : (l : Limits) → laid_out limits_widths (limits_values l) ≡ limits_bytes l
unfolding limits_bytes
limits-shut l = refl

pub meters-shut : (m : Meters) → laid_out meters_widths (meters_values m) ≡ meters_bytes m
unfolding meters_bytes
meters-shut m = refl

unfoldable pub track_bytes : Limits → List ℕ
track_bytes l = laid_out (track_widths newest) (track_values l)

pub track-shut : (l : Limits) → laid_out (track_widths newest) (track_values l) ≡ track_bytes l
unfolding track_bytes
track-shut l = refl

pub track-length : (l : Limits) → length (track_bytes l) ≡ 12
unfolding track_bytes
track-length l = refl

unfoldable pub group_bytes : Entry → List ℕ
group_bytes e = laid_out (group_widths newest) (group_values newest e)

pub group-shut : (e : Entry) → laid_out (group_widths newest) (group_values newest e) ≡ group_bytes e
unfolding group_bytes
group-shut e = refl

pub group-length : (e : Entry) → length (group_bytes e) ≡ 8
unfolding group_bytes
group-length e = refl

pub limits-length : (l : Limits) → length (limits_bytes l) ≡ 34
unfolding limits_bytes
limits-length l = refl

pub meters-length : (m : Meters) → length (meters_bytes m) ≡ 17
unfolding meters_bytes
meters-length m = refl

-- the pieces one after the other are the entry
pub entry-pieces : (e : Entry) → limits_bytes e.limits ++ meters_bytes e.meters ++ track_bytes e.limits ++ group_bytes e
    ≡ entry_bytes e
unfolding entry_bytes limits_bytes meters_bytes track_bytes group_bytes
entry-pieces e = refl

pub entry_length : (e : Entry) → length (entry_bytes e) ≡ entry_size newest
unfolding entry_bytes entry_size
entry_length e = refl

-- ## A player, piece by piece

unfoldable pub last_bytes : Last → List ℕ
last_bytes l = laid_out (last_widths newest) (last_values l)

unfoldable pub open_bytes : Open → List ℕ
open_bytes o = laid_out open_widths (open_values o)

pub last-shut : (l : Last) → laid_out (last_widths newest) (last_values l) ≡ last_bytes l
unfolding last_bytes
last-shut l = refl

pub open-shut : (o : Open) → laid_out open_widths (open_values o) ≡ open_bytes o
unfolding open_bytes
open-shut o = refl

pub last-length : (l : Last) → length (last_bytes l) ≡ 18
unfolding last_bytes
last-length l = refl

pub open-length : (o : Open) → length (open_bytes o) ≡ 10
unfolding open_bytes
open-length o = refl

pub player-pieces : (p : Player) → last_bytes p.last ++ open_bytes p.current ++ number_bytes p.current.content ≡ player_bytes p
unfolding player_bytes last_bytes open_bytes number_bytes
player-pieces p = refl

pub player-length : (p : Player) → length (player_bytes p) ≡ player_size newest
unfolding player_bytes player_size
player-length p = refl
