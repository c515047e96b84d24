-- What a caller without the book's structs sees of a book, as lists of numbers of 32 bits. The fields of an asset and an entry are in image
-- order (`asset_values` of `Image`, and `entry_values` of its newest version); here is what is in no image, and a player's, whose number
-- has 64 bits.
use Rattle.std.specs.Prelude.{ℕ, ◌-◌, Bool, cond, List, [], ◌∷◌, ◌++◌, map, drop, ltb}
use Rattle.numbers.specs.Count.{one}
use Rattle.book.specs.declared.Ask.{Ask}
use Rattle.book.specs.declared.Entry.{Entry}
use Rattle.book.specs.declared.Player.{Player}
use Rattle.book.specs.declared.Book.{Book}
use Rattle.model.specs.Book.{assets_in, entries_in, flagged}
use Rattle.model.specs.Image.{tail_values, player_values}
use Rattle.model.specs.Gate.{boot_of, counter_of}
use Rattle.model.specs.Choice.{grounds_of, ground_list, grantable}

-- how many assets and entries there are, the book's time, and what its header holds besides
unfoldable pub book_values : Book → List ℕ
book_values b = assets_in b ∷ entries_in b ∷ b.time ∷ tail_values b

-- a player in image order, with the counter for its number, and the boot number last
abbrev pub player_view : Player → List ℕ
player_view p = counter_of p.last.number ∷ drop 1 (player_values p) ++ (boot_of p.last.number ∷ [])

-- no event comes before the book's time, so nothing is viewed before it
abbrev pub view_time : ℕ → ℕ → ℕ
view_time now time = cond (ltb time now) now time

-- what means "not limited": a number above any limit
abbrev pub unlimited : ℕ
unlimited = 4294967295

abbrev pub left : Bool → ℕ → ℕ → ℕ
left flag most used = cond flag (most - used) unlimited

-- a view asks for no player; no limit of an entry reads who asks
abbrev pub view_ask : ℕ → ℕ → Ask
view_ask t switch = record { player = 0; time = t; switch = switch }

-- for an entry at t, under the book's switch: whether it is "**Grantable** at t" by its own limits (1 or 0), and what is left of its
-- count, its timed count and its seconds
unfoldable pub left_values : ℕ → ℕ → Entry → List ℕ
left_values t switch e =
    one (grantable (view_ask t switch) e.limits e.meters)
    ∷ left (flagged 1 e.limits) e.limits.count e.meters.count
    ∷ left (flagged 2 e.limits) e.limits.timed e.meters.timed
    ∷ left (flagged 32 e.limits) e.limits.accumulated e.meters.seconds
    ∷ []

-- the grounds against an entry, for who asks and when, in the order of document 01's words, then order 3's and order 7's: 1 for one that
-- stands, otherwise 0
unfoldable pub ground_values : Ask → Entry → List ℕ
ground_values ask e = map one (ground_list (grounds_of ask e.limits e.meters))
