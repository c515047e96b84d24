-- What the calls that read an image return and leave: the numbers of its book, of one asset, entry or player, what is left of
-- an entry, and what stands against it. s is the image lent, which these calls only read.
use Rattle.std.specs.Prelude.{ℕ, Bool, true, cond, List, get_or, ltb, eqb}
use Rattle.book.specs.declared.Ask.{Ask}
use Rattle.book.specs.declared.Entry.{Entry}
use Rattle.book.specs.Blank.{no_entry}
use Rattle.model.specs.Book.{asset_at, player_at, assets_in, entries_in}
use Rattle.model.specs.Image.{newest, asset_values, entry_values, read_code}
use Rattle.model.specs.Meters.{settled}
use Rattle.fill.specs.Fill.{fill_code, filled}
use Rattle.views.specs.Views.{book_values, player_view, view_time, left_values, ground_values}
use Rattle.embed.specs.Calls.{held_book}

-- 31: the book has nothing at that position
abbrev pub absent : ℕ
absent = 31

-- 20 to 27 if the image is refused, 31 if what is asked for is not there, 30 if the buffer is too short for the values, otherwise 0
unfoldable pub seen_code : List ℕ → Bool → List ℕ → ℕ → ℕ
seen_code s there values room = cond (eqb (read_code s) 0) (cond there (fill_code values room) absent) (read_code s)

-- the values, and after them what was there before; everything as it was if the code is not 0
unfoldable pub seen_out : List ℕ → Bool → List ℕ → List ℕ → List ℕ
seen_out s there values old = cond (eqb (read_code s) 0) (cond there (filled values old) old) old

-- ## What is there, and its numbers

unfoldable pub book_seen : List ℕ → List ℕ
book_seen s = book_values (held_book s)

unfoldable pub has_asset : List ℕ → ℕ → Bool
has_asset s i = ltb i (assets_in (held_book s))

unfoldable pub asset_seen : List ℕ → ℕ → List ℕ
asset_seen s i = asset_values (asset_at (held_book s).assets i)

unfoldable pub has_entry : List ℕ → ℕ → Bool
has_entry s i = ltb i (entries_in (held_book s))

unfoldable pub entry_seen : List ℕ → ℕ → List ℕ
entry_seen s i = entry_values newest (get_or (held_book s).entries i no_entry)

unfoldable pub has_player : ℕ → Bool
has_player p = ltb p 16

unfoldable pub player_seen : List ℕ → ℕ → List ℕ
player_seen s p = player_view (player_at (held_book s).players p)

-- the entry as an event at t would find it: "each open use of any player with until ≤ t" has ended
unfoldable pub entry_found : List ℕ → ℕ → ℕ → Entry
entry_found s t i = get_or (settled t (held_book s).players (held_book s).entries) i no_entry

-- what is left of it at that time, or at the book's time if that is later, under the book's switch
unfoldable pub left_seen : List ℕ → ℕ → ℕ → List ℕ
left_seen s time i = left_values (view_time (held_book s).time time) (held_book s).switch (entry_found s (view_time (held_book s).time time) i)

-- who asks at that time, or at the book's time if that is later, under the book's switch
abbrev pub ask_seen : List ℕ → ℕ → ℕ → Ask
ask_seen s player time = record { player = player; time = view_time (held_book s).time time; switch = (held_book s).switch }

-- what stands against it for that player, at the same time
unfoldable pub grounds_seen : List ℕ → ℕ → ℕ → ℕ → List ℕ
grounds_seen s player time i = ground_values (ask_seen s player time) (entry_found s (view_time (held_book s).time time) i)

-- ## The six calls: what each returns, given its buffer's length, and the buffer after it

abbrev pub book_code : List ℕ → ℕ → ℕ
book_code s room = seen_code s true (book_seen s) room

abbrev pub book_out : List ℕ → List ℕ → List ℕ
book_out s old = seen_out s true (book_seen s) old

abbrev pub asset_code : List ℕ → ℕ → ℕ → ℕ
asset_code s i room = seen_code s (has_asset s i) (asset_seen s i) room

abbrev pub asset_out : List ℕ → ℕ → List ℕ → List ℕ
asset_out s i old = seen_out s (has_asset s i) (asset_seen s i) old

abbrev pub entry_code : List ℕ → ℕ → ℕ → ℕ
entry_code s i room = seen_code s (has_entry s i) (entry_seen s i) room

abbrev pub entry_out : List ℕ → ℕ → List ℕ → List ℕ
entry_out s i old = seen_out s (has_entry s i) (entry_seen s i) old

abbrev pub player_code : List ℕ → ℕ → ℕ → ℕ
player_code s p room = seen_code s (has_player p) (player_seen s p) room

abbrev pub player_out : List ℕ → ℕ → List ℕ → List ℕ
player_out s p old = seen_out s (has_player p) (player_seen s p) old

abbrev pub left_code : List ℕ → ℕ → ℕ → ℕ → ℕ
left_code s i time room = seen_code s (has_entry s i) (left_seen s time i) room

abbrev pub left_out : List ℕ → ℕ → ℕ → List ℕ → List ℕ
left_out s i time old = seen_out s (has_entry s i) (left_seen s time i) old

abbrev pub grounds_code : List ℕ → ℕ → ℕ → ℕ → ℕ → ℕ
grounds_code s i player time room = seen_code s (has_entry s i) (grounds_seen s player time i) room

abbrev pub grounds_out : List ℕ → ℕ → ℕ → ℕ → List ℕ → List ℕ
grounds_out s i player time old = seen_out s (has_entry s i) (grounds_seen s player time i) old
