-- The book: document 01, section "The book", and when a book is legal, as judged in stages 23 to 27 of section "Image".
-- Quotations are that document's. Every definition is total: a position past a table's end reads as blank.
use Rattle.std.specs.Prelude.{◌≡◌, ℕ, ◌+◌, ◌-◌, ◌/◌, ◌%◌, ◌≤◌, min, Bool, cond, ◌&&◌, ◌||◌, not, List, length, get_or, ltb, leb, eqb}
use Rattle.numbers.specs.Count.{all, first, sum, one}
use Rattle.numbers.specs.Bits.{ones, mask_of}
use Rattle.book.specs.declared.Asset.{Asset}
use Rattle.book.specs.declared.Limits.{Limits}
use Rattle.book.specs.declared.Meters.{Meters}
use Rattle.book.specs.declared.Entry.{Entry}
use Rattle.book.specs.declared.Answer.{Answer}
use Rattle.book.specs.declared.Open.{Open}
use Rattle.book.specs.declared.Player.{Player}
use Rattle.book.specs.declared.Latest.{Latest}
use Rattle.book.specs.declared.Book.{Book}
use Rattle.book.specs.Blank.{no_asset, no_meters, no_entry, no_player, no_latest}

-- ## What is at a position

abbrev pub asset_at : List Asset → ℕ → Asset
asset_at ats i = get_or ats i no_asset

abbrev pub limits_at : List Entry → ℕ → Limits
limits_at es i = (get_or es i no_entry).limits

abbrev pub meters_at : List Entry → ℕ → Meters
meters_at es i = (get_or es i no_entry).meters

abbrev pub player_at : List Player → ℕ → Player
player_at ps p = get_or ps p no_player

-- "**Assets**, 0 to 64", "**Entries**, 0 to 64": how many there are. A count above 64, which no image has, counts as 64.
unfoldable pub assets_in : Book → ℕ
assets_in b = min b.assetcount 64

unfoldable pub entries_in : Book → ℕ
entries_in b = min b.entrycount 64

-- ## Times

-- "Times are seconds since 1970-01-01 UTC, 0 to 4,000,000,000."
abbrev pub latest_time : ℕ
latest_time = 4000000000

-- how many seconds a grant of a kind gives at most: the 60 of "the least of t + 60, .."
unfoldable pub grant_length : ℕ → ℕ
grant_length kind = 60

-- ## Assets

-- "Key 0 and inherit 0 is a *parent*."
unfoldable pub is_parent : Asset → Bool
is_parent a = eqb a.key 0 && eqb a.inherit 0

-- "Key 0 with an inherit is *illegal*: never used and never inherited from." A book may hold such an asset. No rule uses this name:
-- only an asset with key 1 is used and only a parent is inherited from, and an illegal asset is neither
-- (`illegal-never` in `proofs/Demand3/Suitable`).
unfoldable pub is_illegal : Asset → Bool
is_illegal a = eqb a.key 0 && not (eqb a.inherit 0)

-- the position of the asset with that number among the first n; n if there is none
unfoldable pub asset_position : List Asset → ℕ → ℕ → ℕ
asset_position ats n number = first (λ i. eqb (asset_at ats i).number number) n

-- whether the book has an asset with that number
unfoldable pub in_book : Book → ℕ → Bool
in_book b number = ltb (asset_position b.assets (assets_in b) number) (assets_in b)

-- ## Entries

abbrev pub between : ℕ → ℕ → ℕ → Bool
between a z v = leb a v && leb v z

-- "Flags are a sum, at most 63, of 1 count, 2 timed count with timer, 4 start, 8 end, 16 interval, 32 accumulated."
abbrev pub count_flag : ℕ
count_flag = 1

abbrev pub timed_flag : ℕ
timed_flag = 2

abbrev pub start_flag : ℕ
start_flag = 4

abbrev pub end_flag : ℕ
end_flag = 8

abbrev pub interval_flag : ℕ
interval_flag = 16

abbrev pub accumulated_flag : ℕ
accumulated_flag = 32

-- whether that flag is set
unfoldable pub flagged : ℕ → Limits → Bool
flagged w l = eqb (l.flags / w % 2) 1

-- order 7 of document 02: "A group pack carries DeviceNumThresh (5.6.11)": a threshold of 0 is none
abbrev pub is_group : Limits → Bool
is_group l = not (eqb l.threshold 0)

-- order 3 of document 02: "An entry may be tracked (1, else 0)"; the switch for metering is on if it is 1
abbrev pub is_tracked : Limits → Bool
is_tracked l = eqb l.tracked 1

abbrev pub is_metered : ℕ → Bool
is_metered switch = eqb switch 1

-- "kind (1 play, 2 display, 3 execute, 4 print, 5 export)"; "Print and export are momentary"
unfoldable pub momentary : ℕ → Bool
momentary kind = between 4 5 kind

-- the greatest count, timed count and timer
abbrev pub most_times : ℕ
most_times = 1000000

-- the greatest interval and accumulated
abbrev pub most_seconds : ℕ
most_seconds = 100000000

-- a flagged limit is at most that much; "An unflagged limit is 0."
unfoldable pub limit : Bool → ℕ → ℕ → Bool
limit flag most v = cond flag (leb v most) (eqb v 0)

-- ## 24, asset rules

-- "number (1 to 65535, each once), key (0 or 1, whether it holds a KeyInfo), inherit (asset number, 0 for none)"
-- The asset a is at position i, and is the first with its number.
unfoldable pub asset_legal : List Asset → ℕ → ℕ → Asset → Bool
asset_legal ats n i a =
    between 1 65535 a.number
    && eqb (asset_position ats n a.number) i
    && leb a.key 1

-- all assets of the book
unfoldable pub assets_legal : Book → Bool
assets_legal b = all (λ i. asset_legal b.assets (assets_in b) i (asset_at b.assets i)) (assets_in b)

-- ## 25, entry rules

-- "Count and timed count are 1 to 1,000,000; timer 0 to 1,000,000; interval and accumulated 1 to 100,000,000"; order 2 of document 02:
-- "Count, timed, interval and accumulated may now be 0 when flagged", so every range starts at 0. Start and end are times.
unfoldable pub ranges_legal : Limits → Bool
ranges_legal l =
    limit (flagged count_flag l) most_times l.count
    && limit (flagged timed_flag l) most_times l.timed
    && limit (flagged timed_flag l) most_times l.timer
    && limit (flagged start_flag l) latest_time l.start
    && limit (flagged end_flag l) latest_time l.end
    && limit (flagged interval_flag l) most_seconds l.interval
    && limit (flagged accumulated_flag l) most_seconds l.accumulated

-- Order 3 of document 02: "An entry may be tracked (1, else 0), with a timed value in seconds and the contentAccessGranted mark (0 or 1),
-- both 0 if untracked"
unfoldable pub track_legal : Limits → Bool
track_legal l =
    leb l.tracked 1
    && leb l.mark 1
    && (is_tracked l || (eqb l.timedvalue 0 && eqb l.mark 0))

-- Order 7 of document 02: "at most that many players, 1 to 16 (0 for none)"
unfoldable pub threshold_legal : Limits → Bool
threshold_legal l = leb l.threshold 16

-- "rights object number (1 to 65535), asset (in the book), kind ..., flags, limits"; "start at most end where both are flagged";
-- momentary: "no accumulated, timer 0"; the track; the threshold. Whether the asset is in the book is passed in.
unfoldable pub limits_legal : Bool → Limits → Bool
limits_legal known l =
    between 1 65535 l.object
    && known
    && between 1 5 l.kind
    && leb l.flags 63
    && ranges_legal l
    && (not (flagged start_flag l && flagged end_flag l) || leb l.start l.end)
    && (not (momentary l.kind) || (not (flagged accumulated_flag l) && eqb l.timer 0))
    && track_legal l
    && threshold_legal l

-- all entries of the book
unfoldable pub entries_legal : Book → Bool
entries_legal b = all (λ i. limits_legal (in_book b (limits_at b.entries i).asset) (limits_at b.entries i)) (entries_in b)

-- ## 26, header and players

-- Order 3 of document 02: "the book has one switch for metering (0 or 1)"
unfoldable pub switch_legal : Book → Bool
switch_legal b = leb b.switch 1

-- "number 0 means all 0"
unfoldable pub player_blank : Player → Bool
player_blank p =
    eqb p.last.number 0
    && eqb p.last.operation 0
    && eqb p.last.asset 0
    && eqb p.last.kind 0
    && eqb p.last.answer.code 0
    && eqb p.last.answer.entry 0
    && eqb p.last.answer.until 0
    && eqb p.current.on 0
    && eqb p.current.entry 0
    && eqb p.current.begin 0
    && eqb p.current.until 0
    && eqb p.current.content 0

-- "request as for events": "operation (1 begin, 2 continue, 3 stop)"; "Kind is 1 to 5 for begin; asset and kind are 0 otherwise.";
-- order 8 of document 02: "Operation 4, with asset and kind 0", and "Number 1 no longer meets operation 4."
unfoldable pub request_legal : ℕ → ℕ → ℕ → Bool
request_legal operation asset kind =
    (eqb operation 1 && between 1 5 kind)
    || (between 2 4 operation && eqb asset 0 && eqb kind 0)

-- "code 0 or 10 to 15": the codes that a taken event leaves; "An added *taken* answer .. may be a stored code": 43, 44
unfoldable pub taken_code : ℕ → Bool
taken_code c = eqb c 0 || between 10 15 c || between 43 44 c

-- "entry a position if code 0, else entry 255 and until 0"; n entries
unfoldable pub answer_legal : ℕ → Answer → Bool
answer_legal n a =
    taken_code a.code
    && cond (eqb a.code 0)
    (ltb a.entry n)
    (eqb a.entry 255 && eqb a.until 0)

-- "[begin, until) inside its flagged dates and, where flagged, an interval with started 1"
unfoldable pub inside_dates : Open → Limits → Bool
inside_dates o l =
    (not (flagged start_flag l) || leb l.start o.begin)
    && (not (flagged end_flag l) || leb o.until (l.end + 1))

unfoldable pub inside_interval : Open → Limits → Meters → Bool
inside_interval o l m =
    not (flagged interval_flag l)
    || (eqb m.started 1 && leb m.first o.begin && leb o.until (m.first + l.interval))

-- Order 3 of document 02: "The content, an asset of the book, is kept with every open use: .. on reading allowed 0 if untracked."
-- Whether the content is in the book is passed in.
unfoldable pub content_legal : Bool → Limits → Open → Bool
content_legal known l o = known || (eqb o.content 0 && eqb l.tracked 0)

-- "begin ≤ book time < until ≤ book time + 60, an open entry that is a position of kind 1 to 3, and ..."
-- The open entry is e, of n entries.
unfoldable pub use_legal : ℕ → ℕ → Bool → Entry → Open → Bool
use_legal time n known e o =
    leb o.begin time
    && ltb time o.until
    && leb o.until (time + grant_length e.limits.kind)
    && ltb o.entry n
    && between 1 3 e.limits.kind
    && inside_dates o e.limits
    && inside_interval o e.limits e.meters
    && content_legal known e.limits o

-- "open 0 or 1, closed means its fields 0; open means ..."; the content "0 if closed"
unfoldable pub open_legal : ℕ → ℕ → Bool → Entry → Open → Bool
open_legal time n known e o =
    cond (eqb o.on 0)
    (eqb o.entry 0 && eqb o.begin 0 && eqb o.until 0 && eqb o.content 0)
    (eqb o.on 1 && use_legal time n known e o)

-- "number 0 means all 0 and is not judged further; request as for events; code ...; open ..."
unfoldable pub player_legal : ℕ → ℕ → Bool → Entry → Player → Bool
player_legal time n known e p =
    cond (eqb p.last.number 0)
    (player_blank p)
    (request_legal p.last.operation p.last.asset p.last.kind
    && answer_legal n p.last.answer
    && open_legal time n known e p.current)

-- the entry that a player's open use names
abbrev pub open_entry : List Entry → Player → Entry
open_entry es p = get_or es p.current.entry no_entry

-- a player of the book
abbrev pub player_passes : Book → Player → Bool
player_passes b p = player_legal b.time (entries_in b) (in_book b p.current.content) (open_entry b.entries p) p

-- all players
unfoldable pub players_legal : Book → Bool
players_legal b = all (λ p. player_passes b (player_at b.players p)) 16

-- whether the player has an open use of entry i
unfoldable pub opens : ℕ → Open → Bool
opens i o = eqb o.on 1 && eqb o.entry i

-- how many players have an open use of entry i
unfoldable pub open_uses : List Player → ℕ → ℕ
open_uses ps i = sum (λ p. one (opens i (player_at ps p).current)) 16

-- the player of the event taken last
abbrev pub latest_player : Book → Player
latest_player b = player_at b.players (b.latest.player - 1)

-- Order 8 of document 02: "whether that event opened a use that started an interval; .. this needs its use to be an interval entry's only
-- open one, begun at first". The use is o, of entry e, which has so many open uses.
unfoldable pub started_legal : ℕ → Entry → Open → Bool
started_legal uses e o =
    eqb o.on 1
    && flagged interval_flag e.limits
    && eqb o.begin e.meters.first
    && eqb uses 1

-- "The header keeps the player last taken, plus 1, 0 for none"; "on reading that player's number is not 0". That player is p.
unfoldable pub latest_legal : Latest → ℕ → Entry → Player → Bool
latest_legal x uses e p =
    leb x.player 16
    && (eqb x.player 0 || not (eqb p.last.number 0))
    && leb x.started 1
    && (eqb x.started 0 || (not (eqb x.player 0) && started_legal uses e p.current))

-- the event taken last of a book
unfoldable pub latest_passes : Book → Bool
latest_passes b =
    latest_legal b.latest (open_uses b.players (latest_player b).current.entry) (open_entry b.entries (latest_player b))
    (latest_player b)

-- ## 27, meters

-- "no meter above its limit, unflagged meters 0"
unfoldable pub meter_legal : Bool → ℕ → ℕ → Bool
meter_legal flag most used = cond flag (leb used most) (eqb used 0)

-- "started 0 or 1, first 0 if not, first ≤ book time"; unflagged, both are 0
unfoldable pub start_legal : ℕ → Limits → Meters → Bool
start_legal time l m =
    leb m.started 1
    && (flagged interval_flag l || eqb m.started 0)
    && (eqb m.started 1 || eqb m.first 0)
    && leb m.first time

-- the seconds from a use's begin to its until
abbrev pub lasts : Open → ℕ
lasts o = o.until - o.begin

-- of the entry's open uses "their until − begin summed"
unfoldable pub open_seconds : List Player → ℕ → ℕ
open_seconds ps i = sum (λ p. cond (opens i (player_at ps p).current) (lasts (player_at ps p).current) 0) 16

-- "Where flagged, used count and used timed are at least the entry's open uses, and used seconds at least their until − begin summed."
unfoldable pub meters_cover : ℕ → ℕ → Limits → Meters → Bool
meters_cover uses seconds l m =
    (not (flagged count_flag l) || leb uses m.count)
    && (not (flagged timed_flag l) || leb uses m.timed)
    && (not (flagged accumulated_flag l) || leb seconds m.seconds)

-- Order 7 of document 02: "The entry keeps one mark for each of the 16 players, bit p for player p": those who have entry i open
unfoldable pub marks_of : List Player → ℕ → ℕ
marks_of ps i = mask_of (λ p. opens i (player_at ps p).current) 16

-- "Reading gives 27 where marks and open uses differ or exceed a threshold."
unfoldable pub marks_legal : ℕ → Limits → Meters → Bool
marks_legal marks l m = eqb m.marks marks && (not (is_group l) || leb (ones m.marks) l.threshold)

-- the meter rules for entry i
unfoldable pub entry_meters_legal : ℕ → List Player → ℕ → Entry → Bool
entry_meters_legal time ps i e =
    meter_legal (flagged count_flag e.limits) e.limits.count e.meters.count
    && meter_legal (flagged timed_flag e.limits) e.limits.timed e.meters.timed
    && meter_legal (flagged accumulated_flag e.limits) e.limits.accumulated e.meters.seconds
    && start_legal time e.limits e.meters
    && meters_cover (open_uses ps i) (open_seconds ps i) e.limits e.meters
    && marks_legal (marks_of ps i) e.limits e.meters

-- the meters of all entries
unfoldable pub meters_legal : Book → Bool
meters_legal b = all (λ i. entry_meters_legal b.time b.players i (get_or b.entries i no_entry)) (entries_in b)

-- ## The stages in order

-- "24 asset rules, 25 entry rules, 26 players, 27 meters": the first that fails; 0 if none does. "An added field against its rule gets
-- 24, 25 or, in header and players, 26".
unfoldable pub rule_broken : Book → ℕ
rule_broken b =
    cond (not (assets_legal b)) 24
    (cond (not (entries_legal b)) 25
    (cond (not (switch_legal b && players_legal b && latest_passes b)) 26
    (cond (not (meters_legal b)) 27
    0)))

-- A legal book: what an accepted image gives. That numbers fit their types is not required here (see `Typed` of `Image`).
pub record Legal (b : Book) : Type 0 where
  pub asset_slots : length b.assets ≡ 64
  pub entry_slots : length b.entries ≡ 64
  pub player_slots : length b.players ≡ 16
  pub asset_count : b.assetcount ≤ 64
  pub entry_count : b.entrycount ≤ 64
  pub time : b.time ≤ latest_time
  pub assets_blank : (i : ℕ) → b.assetcount ≤ i → asset_at b.assets i ≡ no_asset
  pub entries_blank : (i : ℕ) → b.entrycount ≤ i → get_or b.entries i no_entry ≡ no_entry
  pub rules : rule_broken b ≡ 0

-- "In a fresh book the time, all meters, all player records and every field that a request adds for players' events to write are 0."
pub record Fresh (b : Book) : Type 0 where
  pub time : b.time ≡ 0
  pub meters : (i : ℕ) → meters_at b.entries i ≡ no_meters
  pub players : (p : ℕ) → player_at b.players p ≡ no_player
  pub latest : b.latest ≡ no_latest
