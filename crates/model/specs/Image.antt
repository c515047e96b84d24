-- The image of a book: document 01, section "Image": the layout, the writer's bytes, the reader's answer for every byte string.
-- "Big-endian." A layout is a list of widths with the values in the same order. A version adds widths after the others and a value
-- for each, or widens one in its place; an image is read by the layout of its own version, and a value that is missing there is 0.
use Rattle.std.specs.Prelude.{ℕ, ◌+◌, ◌*◌, ◌-◌, ◌<◌, Bool, cond, ◌&&◌, ◌||◌, not, List, [], ◌∷◌, ◌++◌, length, get_or, drop, replicate, ltb, leb, eqb}
use Rattle.numbers.specs.Count.{joined, listed}
use Rattle.numbers.specs.Fields.{Width, bits8, bits16, bits32, bits64, size, laid_out, values_at, Fit}
use Rattle.book.specs.declared.Asset.{Asset}
use Rattle.book.specs.declared.Limits.{Limits}
use Rattle.book.specs.declared.Meters.{Meters}
use Rattle.book.specs.declared.Entry.{Entry}
use Rattle.book.specs.declared.Last.{Last}
use Rattle.book.specs.declared.Open.{Open}
use Rattle.book.specs.declared.Player.{Player}
use Rattle.book.specs.declared.Book.{Book}
use Rattle.book.specs.Blank.{no_asset, no_entry}
use Rattle.book.specs.Changed.{changed}
use Rattle.model.specs.Book.{asset_at, player_at, assets_in, entries_in, latest_time, between, marks_of, rule_broken}

-- ## The layout, by version

-- the version that is written
abbrev pub newest : ℕ
newest = 5

-- "Mark `RBK`, version 16 bits (1), asset and entry numbers (8 each), book time 32.": the same in every version
abbrev pub header_start : List Width
header_start = bits8 ∷ bits8 ∷ bits8 ∷ bits16 ∷ bits8 ∷ bits8 ∷ bits32 ∷ []

-- "What one adds goes behind the other fields of its header, asset, entry or player, 32 bits a field, in the order told, the version
-- rising by one.": some widths from a version on
abbrev pub since : ℕ → List Width → ℕ → List Width
since first ws v = cond (leb first v) ws []

-- order 3: the switch; order 8: the player last taken, plus 1, and whether that event opened a use that started an interval
abbrev pub header_tail : ℕ → List Width
header_tail v = since 2 (bits32 ∷ []) v ++ since 5 (bits32 ∷ bits32 ∷ []) v

abbrev pub header_widths : ℕ → List Width
header_widths v = header_start ++ header_tail v

abbrev pub tail_values : Book → List ℕ
tail_values b = b.switch ∷ b.latest.player ∷ b.latest.started ∷ []

abbrev pub start_values : ℕ → ℕ → ℕ → ℕ → List ℕ
start_values v assets entries time = 82 ∷ 66 ∷ 75 ∷ v ∷ assets ∷ entries ∷ time ∷ []

-- "An asset is 5 bytes: number, inherit, key."
abbrev pub asset_widths : ℕ → List Width
asset_widths v = bits16 ∷ bits16 ∷ bits8 ∷ []

abbrev pub asset_values : Asset → List ℕ
asset_values a = a.number ∷ a.inherit ∷ a.key ∷ []

abbrev pub asset_of : List ℕ → Asset
asset_of vs = record { number = get_or vs 0 0; inherit = get_or vs 1 0; key = get_or vs 2 0 }

-- "An entry is 51: rights object 16, asset 16, kind, flags, then 32 bits each count, timed, timer, start, end, interval,
-- accumulated, used count, used timed, first, used seconds, then started."
-- The pieces are those that the writer lays one after the other.
abbrev pub limits_widths : List Width
limits_widths =
    bits16 ∷ bits16 ∷ bits8 ∷ bits8
    ∷ bits32 ∷ bits32 ∷ bits32 ∷ bits32 ∷ bits32 ∷ bits32 ∷ bits32 ∷ []

abbrev pub limits_values : Limits → List ℕ
limits_values l =
    l.object ∷ l.asset ∷ l.kind ∷ l.flags
    ∷ l.count ∷ l.timed ∷ l.timer ∷ l.start ∷ l.end ∷ l.interval ∷ l.accumulated ∷ []

abbrev pub meters_widths : List Width
meters_widths = bits32 ∷ bits32 ∷ bits32 ∷ bits32 ∷ bits8 ∷ []

abbrev pub meters_values : Meters → List ℕ
meters_values m = m.count ∷ m.timed ∷ m.first ∷ m.seconds ∷ m.started ∷ []

-- order 3: tracked, timed value, mark
abbrev pub track_widths : ℕ → List Width
track_widths v = since 2 (bits32 ∷ bits32 ∷ bits32 ∷ []) v

abbrev pub track_values : Limits → List ℕ
track_values l = l.tracked ∷ l.timedvalue ∷ l.mark ∷ []

-- order 7: threshold, marks
abbrev pub group_widths : ℕ → List Width
group_widths v = since 4 (bits32 ∷ bits32 ∷ []) v

-- "Older images get marks set from their open uses": what such a version says of the marks is 0, whatever they are
abbrev pub marks_said : ℕ → Meters → ℕ
marks_said v m = cond (leb 4 v) m.marks 0

abbrev pub group_values : ℕ → Entry → List ℕ
group_values v e = e.limits.threshold ∷ marks_said v e.meters ∷ []

abbrev pub entry_widths : ℕ → List Width
entry_widths v = limits_widths ++ meters_widths ++ track_widths v ++ group_widths v

abbrev pub entry_values : ℕ → Entry → List ℕ
entry_values v e = limits_values e.limits ++ meters_values e.meters ++ track_values e.limits ++ group_values v e

abbrev pub entry_of : List ℕ → Entry
entry_of vs = record {
  limits = record {
    object = get_or vs 0 0;
    asset = get_or vs 1 0;
    kind = get_or vs 2 0;
    flags = get_or vs 3 0;
    count = get_or vs 4 0;
    timed = get_or vs 5 0;
    timer = get_or vs 6 0;
    start = get_or vs 7 0;
    end = get_or vs 8 0;
    interval = get_or vs 9 0;
    accumulated = get_or vs 10 0;
    tracked = get_or vs 16 0;
    timedvalue = get_or vs 17 0;
    mark = get_or vs 18 0;
    threshold = get_or vs 19 0;
  };
  meters = record {
    count = get_or vs 11 0;
    timed = get_or vs 12 0;
    first = get_or vs 13 0;
    seconds = get_or vs 14 0;
    started = get_or vs 15 0;
    marks = get_or vs 20 0;
  };
}

-- "Sixteen players of 24: number 32, operation, asset 16, kind, answer code, entry, until 32, open, open entry, begin 32, until 32."
-- Order 4: "the stored number becomes 64 bits wide in its place (version 3)".
abbrev pub number_width : ℕ → Width
number_width v = cond (leb 3 v) bits64 bits32

abbrev pub last_widths : ℕ → List Width
last_widths v = number_width v ∷ bits8 ∷ bits16 ∷ bits8 ∷ bits8 ∷ bits8 ∷ bits32 ∷ []

abbrev pub last_values : Last → List ℕ
last_values l = l.number ∷ l.operation ∷ l.asset ∷ l.kind ∷ l.answer.code ∷ l.answer.entry ∷ l.answer.until ∷ []

abbrev pub open_widths : List Width
open_widths = bits8 ∷ bits8 ∷ bits32 ∷ bits32 ∷ []

abbrev pub open_values : Open → List ℕ
open_values o = o.on ∷ o.entry ∷ o.begin ∷ o.until ∷ []

-- order 3: the content of the open use
abbrev pub content_widths : ℕ → List Width
content_widths v = since 2 (bits32 ∷ []) v

abbrev pub content_values : Open → List ℕ
content_values o = o.content ∷ []

abbrev pub player_widths : ℕ → List Width
player_widths v = last_widths v ++ open_widths ++ content_widths v

abbrev pub player_values : Player → List ℕ
player_values p = last_values p.last ++ open_values p.current ++ content_values p.current

abbrev pub player_of : List ℕ → Player
player_of vs = record {
  last = record {
    number = get_or vs 0 0;
    operation = get_or vs 1 0;
    asset = get_or vs 2 0;
    kind = get_or vs 3 0;
    answer = record { code = get_or vs 4 0; entry = get_or vs 5 0; until = get_or vs 6 0 };
  };
  current = record { on = get_or vs 7 0; entry = get_or vs 8 0; begin = get_or vs 9 0; until = get_or vs 10 0; content = get_or vs 11 0 };
}

-- the number of bytes of each. Unfolded only on request: a product with one is then one number in a proof about offsets.
unfoldable pub header_size : ℕ → ℕ
header_size v = size (header_widths v)

unfoldable pub asset_size : ℕ → ℕ
asset_size v = size (asset_widths v)

unfoldable pub entry_size : ℕ → ℕ
entry_size v = size (entry_widths v)

unfoldable pub player_size : ℕ → ℕ
player_size v = size (player_widths v)

-- "Length 11 + 5A + 51P + 384, at most 3,979." in version 1; in version 2 it is 15 + 5A + 63P + 448, at most
-- 4,815, in version 3 15 + 5A + 63P + 512, at most 4,879, in version 4 15 + 5A + 71P + 512, at most 5,391, in version 5
-- 23 + 5A + 71P + 512, at most 5,399
unfoldable pub image_length : ℕ → ℕ → ℕ → ℕ
image_length v assets entries =
    header_size v + asset_size v * assets + entry_size v * entries + player_size v * 16

-- ## The writer

unfoldable pub header_bytes : ℕ → ℕ → Book → List ℕ
header_bytes assets entries b = laid_out (header_widths newest) (start_values newest assets entries b.time ++ tail_values b)

unfoldable pub asset_bytes : Asset → List ℕ
asset_bytes a = laid_out (asset_widths newest) (asset_values a)

unfoldable pub entry_bytes : Entry → List ℕ
entry_bytes e = laid_out (entry_widths newest) (entry_values newest e)

unfoldable pub player_bytes : Player → List ℕ
player_bytes p = laid_out (player_widths newest) (player_values p)

-- all bytes of the image
unfoldable pub image : Book → List ℕ
image b =
    header_bytes (assets_in b) (entries_in b) b
    ++ joined (λ i. asset_bytes (asset_at b.assets i)) (assets_in b)
    ++ joined (λ i. entry_bytes (get_or b.entries i no_entry)) (entries_in b)
    ++ joined (λ p. player_bytes (player_at b.players p)) 16

-- the book laid out by version v: the same numbers in the widths of that version, and none that it lacks
unfoldable pub image_as : ℕ → Book → List ℕ
image_as v b =
    laid_out (header_widths v) (start_values v (assets_in b) (entries_in b) b.time ++ tail_values b)
    ++ joined (λ i. laid_out (asset_widths v) (asset_values (asset_at b.assets i))) (assets_in b)
    ++ joined (λ i. laid_out (entry_widths v) (entry_values v (get_or b.entries i no_entry))) (entries_in b)
    ++ joined (λ p. laid_out (player_widths v) (player_values (player_at b.players p))) 16

-- their number
unfoldable pub length_of : Book → ℕ
length_of b = image_length newest (assets_in b) (entries_in b)

-- "The writer fills that many bytes, no more, and returns the length."; "30 | writer's buffer too short | buffer untouched"
unfoldable pub write_answer : Book → ℕ → ℕ
write_answer b room = cond (leb (length_of b) room) (length_of b) 30

unfoldable pub write_buffer : Book → List ℕ → List ℕ
write_buffer b old = cond (leb (length_of b) (length old)) (image b ++ drop (length_of b) old) old

-- ## The reader

-- the fields that every version has
abbrev pub header_field : ℕ → List ℕ → ℕ
header_field k s = get_or (values_at header_start 0 s) k 0

-- "Mark `RBK`"
unfoldable pub mark_in : List ℕ → Bool
mark_in s = eqb (header_field 0 s) 82 && eqb (header_field 1 s) 66 && eqb (header_field 2 s) 75

unfoldable pub version_in : List ℕ → ℕ
version_in s = header_field 3 s

unfoldable pub asset_count_in : List ℕ → ℕ
asset_count_in s = header_field 4 s

unfoldable pub entry_count_in : List ℕ → ℕ
entry_count_in s = header_field 5 s

unfoldable pub time_in : List ℕ → ℕ
time_in s = header_field 6 s

-- those after them in version v
abbrev pub tail_in : ℕ → List ℕ → List ℕ
tail_in v s = values_at (header_tail v) (size header_start) s

unfoldable pub asset_in : ℕ → List ℕ → Asset
asset_in v s = asset_of (values_at (asset_widths v) 0 s)

unfoldable pub entry_in : ℕ → List ℕ → Entry
entry_in v s = entry_of (values_at (entry_widths v) 0 s)

unfoldable pub player_in : ℕ → List ℕ → Player
player_in v s = player_of (values_at (player_widths v) 0 s)

-- the n records at an offset, followed by blank slots
unfoldable pub asset_table : ℕ → List ℕ → ℕ → ℕ → List Asset
asset_table v s o n = listed (λ i. asset_in v (drop (o + asset_size v * i) s)) n ++ replicate (64 - n) no_asset

unfoldable pub entry_table : ℕ → List ℕ → ℕ → ℕ → List Entry
entry_table v s o n = listed (λ i. entry_in v (drop (o + entry_size v * i) s)) n ++ replicate (64 - n) no_entry

unfoldable pub player_table : ℕ → List ℕ → ℕ → List Player
player_table v s o = listed (λ p. player_in v (drop (o + player_size v * p) s)) 16

-- where the entries and the players begin
unfoldable pub entries_from : ℕ → List ℕ → ℕ
entries_from v s = header_size v + asset_size v * asset_count_in s

unfoldable pub players_from : ℕ → List ℕ → ℕ
players_from v s = entries_from v s + entry_size v * entry_count_in s

-- the book in the bytes by the layout of version v, unvalidated
unfoldable pub book_as : ℕ → List ℕ → Book
book_as v s = record {
  time = time_in s;
  switch = get_or (tail_in v s) 0 0;
  latest = record { player = get_or (tail_in v s) 1 0; started = get_or (tail_in v s) 2 0 };
  assetcount = asset_count_in s;
  entrycount = entry_count_in s;
  assets = asset_table v s (header_size v) (asset_count_in s);
  entries = entry_table v s (entries_from v s) (entry_count_in s);
  players = player_table v s (players_from v s);
}

-- the entry with these marks
abbrev pub with_marks : ℕ → Entry → Entry
with_marks marks e = record {
  limits = e.limits;
  meters = record {
    count = e.meters.count;
    timed = e.meters.timed;
    first = e.meters.first;
    seconds = e.meters.seconds;
    started = e.meters.started;
    marks = marks;
  };
}

-- the first n entries with a mark for each player that has them open
unfoldable pub marked_entries : List Player → List Entry → ℕ → List Entry
marked_entries ps es n = listed (λ i. with_marks (marks_of ps i) (get_or es i no_entry)) n ++ drop n es

-- order 7: "Older images get marks set from their open uses." They are set before the rules are judged; 24 to 26 do not look at them.
unfoldable pub marked : ℕ → Book → Book
marked v b = cond (leb 4 v) b (changed b b.time b.latest (marked_entries b.players b.entries (entries_in b)) b.players)

-- "Older images have those fields 0", but for the marks: the book by the layout of the image's own version
unfoldable pub book_in : List ℕ → Book
book_in s = marked (version_in s) (book_as (version_in s) s)

-- "Order: 20 below 11 bytes, 21 mark, 22 version, 23 a number above 64 or a late time, 20 wrong length, 24 asset rules,
-- 25 entry rules, 26 players, 27 meters." 0 if none is broken.
unfoldable pub header_broken : List ℕ → ℕ
header_broken s =
    cond (ltb (length s) (size header_start)) 20
    (cond (not (mark_in s)) 21
    (cond (not (between 1 newest (version_in s))) 22
    (cond (ltb 64 (asset_count_in s) || ltb 64 (entry_count_in s) || ltb latest_time (time_in s)) 23
    (cond (not (eqb (length s) (image_length (version_in s) (asset_count_in s) (entry_count_in s)))) 20
    0))))

-- the reader's answer: 0, or the number of the first stage that is broken
unfoldable pub read_code : List ℕ → ℕ
read_code s = cond (eqb (header_broken s) 0) (rule_broken (book_in s)) (header_broken s)

-- "20 to 27 | image refused | the book held before, unchanged"
unfoldable pub read_book : Book → List ℕ → Book
read_book held s = cond (eqb (read_code s) 0) (book_in s) held

-- ## What holds of any value of the program's types

-- what version v can say of a book: each number fits its width there, and one that it lacks is 0, but for the marks, which are set
pub record SaidBy (v : ℕ) (b : Book) : Type 0 where
  pub header : Fit (header_tail v) (tail_values b)
  pub assets : (i : ℕ) → Fit (asset_widths v) (asset_values (asset_at b.assets i))
  pub entries : (i : ℕ) → Fit (entry_widths v) (entry_values v (get_or b.entries i no_entry))
  pub players : (p : ℕ) → Fit (player_widths v) (player_values (player_at b.players p))

-- each number of a book fits its type: its width in the newest layout
abbrev pub Typed : Book → Type 0
Typed b = SaidBy newest b

-- each element of a list is a byte
abbrev pub Bytes : List ℕ → Type 0
Bytes s = (k : ℕ) → get_or s k 0 < 256
