-- Which entry a begin gets, and until when.
-- Document 01, section "Events". Quotations are that document's.
use Rattle.std.specs.Prelude.{ℕ, zero, suc, ◌+◌, ◌-◌, min, Bool, true, false, not, ◌&&◌, ◌||◌, cond, List, [], ◌∷◌, leb, ltb, eqb}
use Rattle.numbers.specs.Count.{one, how_many}
use Rattle.numbers.specs.Bits.{ones}
use Rattle.book.specs.declared.Limits.{Limits}
use Rattle.book.specs.declared.Meters.{Meters}
use Rattle.book.specs.declared.Entry.{Entry}
use Rattle.book.specs.declared.Asset.{Asset}
use Rattle.book.specs.declared.Ask.{Ask}
use Rattle.book.specs.declared.Grounds.{Grounds}
use Rattle.book.specs.declared.Book.{Book}
use Rattle.book.specs.declared.Event.{Event}
use Rattle.book.specs.declared.Rank.{Rank}
use Rattle.book.specs.Blank.{no_asset}
use Rattle.model.specs.Book.{asset_at, limits_at, meters_at, assets_in, entries_in, grant_length, is_parent, asset_position, flagged}
use Rattle.model.specs.Book.{count_flag, timed_flag, start_flag, end_flag, interval_flag, accumulated_flag}
use Rattle.model.specs.Book.{momentary, is_tracked, is_metered, is_group}
use Rattle.model.specs.Meters.{is_started, interval_from}

-- ## Suitable

-- what no event changes, apart from the limits
pub record Catalog : Type 0 where
  pub assets : List Asset
  pub asset_count : ℕ
  pub entry_count : ℕ

-- the catalogue of a book
unfoldable pub catalog_of : Book → Catalog
catalog_of b = record { assets = b.assets; asset_count = assets_in b; entry_count = entries_in b }

-- whether the book has an asset with that number
unfoldable pub holds : Catalog → ℕ → Bool
holds c number = ltb (asset_position c.assets c.asset_count number) c.asset_count

-- the asset with that number; blank if the book has none
unfoldable pub asset_named : Catalog → ℕ → Asset
asset_named c number = cond (holds c number) (asset_at c.assets (asset_position c.assets c.asset_count number)) no_asset

-- "10 | asset not in book, or key 0"
unfoldable pub usable : Catalog → ℕ → Bool
usable c number = holds c number && eqb (asset_named c number).key 1

-- "its inherit if that is a parent in the book. One level only; an inherit not in the book gives nothing.": 0 for none
unfoldable pub parent_of : Catalog → ℕ → ℕ
parent_of c number =
    cond (holds c (asset_named c number).inherit && is_parent (asset_named c (asset_named c number).inherit))
    (asset_named c number).inherit
    0

-- whether the entry belongs to the asset itself
unfoldable pub own : ℕ → Limits → Bool
own asset l = eqb l.asset asset

-- "**Suitable** entries have the asked kind and belong to the asset itself, or to its inherit if that is a parent in the book."
unfoldable pub suitable : ℕ → ℕ → ℕ → Limits → Bool
suitable asset parent kind l = eqb l.kind kind && (own asset l || (not (eqb parent 0) && eqb l.asset parent))

-- ## Grantable

-- who asks, and when, and the switch: all that grantable reads besides the entry
abbrev pub asks : Book → Event → Ask
asks b e = record { player = e.player; time = e.time; switch = b.switch }

-- a flagged limit whose test fails
abbrev pub fails : Bool → Bool → Bool
fails flag test = flag && not test

-- "**Grantable** at t, all flagged limits: used count < count; used timed < timed; start ≤ t ≤ end; not started or t < first + interval;
-- used seconds < accumulated.": by name, which of these fail. Order 2 of document 02, of an entry with a flagged limit of 0: "such an
-- entry is never grantable". For a count, a timed count and the seconds that follows, since nothing is below 0. An interval of 0 is a
-- ground by itself: not started, it would be granted once, until t. Order 3: "With the switch off a tracked entry is grantable only with
-- mark 1". Order 7: "how many are set is compared with the threshold", and "a full threshold makes an entry not grantable".
unfoldable pub grounds_of : Ask → Limits → Meters → Grounds
grounds_of ask l m = record {
  countspent = fails (flagged count_flag l) (ltb m.count l.count);
  timedspent = fails (flagged timed_flag l) (ltb m.timed l.timed);
  beforestart = fails (flagged start_flag l) (leb l.start ask.time);
  afterend = fails (flagged end_flag l) (leb ask.time l.end);
  intervalover = fails (flagged interval_flag l) (not (is_started m) || ltb ask.time (m.first + l.interval));
  secondsspent = fails (flagged accumulated_flag l) (ltb m.seconds l.accumulated);
  intervalzero = fails (flagged interval_flag l) (ltb 0 l.interval);
  switchoff = fails (is_tracked l) (is_metered ask.switch || eqb l.mark 1);
  thresholdfull = fails (is_group l) (ltb (ones m.marks) l.threshold);
}

-- the grounds one after the other, in that order
abbrev pub ground_list : Grounds → List Bool
ground_list g =
    g.countspent ∷ g.timedspent ∷ g.beforestart ∷ g.afterend ∷ g.intervalover ∷ g.secondsspent ∷ g.intervalzero
    ∷ g.switchoff ∷ g.thresholdfull ∷ []

-- no ground stands
unfoldable pub grantable : Ask → Limits → Meters → Bool
grantable ask l m = eqb (how_many (ground_list (grounds_of ask l m))) 0

-- the switch stands, and no other ground
unfoldable pub switch_only : Ask → Limits → Meters → Bool
switch_only ask l m = (grounds_of ask l m).switchoff && eqb (how_many (ground_list (grounds_of ask l m))) 1

-- ## The choice

-- later than any last moment
abbrev pub no_end : ℕ
no_end = 4294967296

-- Order 6 of document 02: "last moment, which is the least of end + 1 and, if started, first + interval; an entry with neither comes
-- last"
unfoldable pub last_moment : Limits → Meters → ℕ
last_moment l m =
    min (cond (flagged end_flag l) (l.end + 1) no_end) (cond (flagged interval_flag l && is_started m) (m.first + l.interval) no_end)

-- "first by: (i) no flags; (ii) earlier end, none last; (iii) interval already started; (iv) own before inherited", where by order 6
-- "(ii) and (iii) give way to one: earlier last moment": numbers in that order, the smaller goes first
-- the rank of an entry when `asset` is asked for
unfoldable pub rank_of : ℕ → Limits → Meters → Rank
rank_of asset l m = record {
  flags = one (not (eqb l.flags 0));
  last = last_moment l m;
  inherited = one (not (own asset l));
}

-- a goes before b
unfoldable pub ranks_before : Rank → Rank → Bool
ranks_before a b =
    ltb a.flags b.flags
    || eqb a.flags b.flags
    && (ltb a.last b.last
    || eqb a.last b.last
    && ltb a.inherited b.inherited)

-- the entry chosen, or nobody
pub data Choice : Type 0 where
  nobody : Choice
  chosen : ℕ → Choice

-- position k, allowed or not, against the choice among the positions below it: it wins if it is allowed and goes first
abbrev pub prefer : Bool → ℕ → (ℕ → Bool) → Choice → Choice
prefer false k first c = c
prefer true k first nobody = chosen k
prefer true k first (chosen j) = cond (first j) (chosen k) (chosen j)

-- among the first k positions, the allowed one that goes first; "(v) lower position" if neither of two goes before the other
unfoldable pub choose_of : (ℕ → Bool) → (ℕ → ℕ → Bool) → ℕ → Choice
choose_of ok first zero = nobody
choose_of ok first (suc k) = prefer (ok k) k (first k) (choose_of ok first k)

-- whether the test passes somewhere below k
unfoldable pub any_of : (ℕ → Bool) → ℕ → Bool
any_of ok zero = false
any_of ok (suc k) = any_of ok k || ok k

-- entry i is suitable
abbrev pub suits : Catalog → List Entry → ℕ → ℕ → ℕ → Bool
suits c es asset kind i = suitable asset (parent_of c asset) kind (limits_at es i)

-- entry i is suitable and grantable
abbrev pub allowed : Catalog → List Entry → Ask → ℕ → ℕ → ℕ → Bool
allowed c es ask asset kind i = suits c es asset kind i && grantable ask (limits_at es i) (meters_at es i)

-- entry i is suitable and fails for the switch only
abbrev pub fails_for_switch : Catalog → List Entry → Ask → ℕ → ℕ → ℕ → Bool
fails_for_switch c es ask asset kind i = suits c es asset kind i && switch_only ask (limits_at es i) (meters_at es i)

-- "13 | suitable, none grantable"; order 3: "43, taken, in place of 13 when some suitable entry fails for the switch only"
unfoldable pub none_grantable : Catalog → List Entry → Ask → ℕ → ℕ → ℕ
none_grantable c es ask asset kind = cond (any_of (fails_for_switch c es ask asset kind) c.entry_count) 43 13

-- entry i goes before entry j, (i) to (iv)
abbrev pub goes_before : List Entry → ℕ → ℕ → ℕ → Bool
goes_before es asset i j = ranks_before (rank_of asset (limits_at es i) (meters_at es i)) (rank_of asset (limits_at es j) (meters_at es j))

-- "The entry chosen is grantable and first by ..."
unfoldable pub choose : Catalog → List Entry → Ask → ℕ → ℕ → Choice
choose c es ask asset kind = choose_of (allowed c es ask asset kind) (goes_before es asset) c.entry_count

-- ## Until

-- the smaller of v and x if the flag is set, otherwise x
abbrev pub cap : Bool → ℕ → ℕ → ℕ
cap true v x = min v x
cap false v x = x

-- "the least of t + 60, end + 1, first + interval (first is t if not started), t + unused seconds"; for a continue "old until + unused
-- seconds":
-- `from` is t or the old until
unfoldable pub least_until : ℕ → ℕ → Limits → Meters → ℕ
least_until t from l m =
    cap (flagged end_flag l) (l.end + 1)
    (cap (flagged interval_flag l) (interval_from t m + l.interval)
    (cap (flagged accumulated_flag l) (from + (l.accumulated - m.seconds)) (t + grant_length l.kind)))

-- "Momentary: until = t, nothing opens. Else until is the least of ..."
unfoldable pub grant_until : ℕ → Limits → Meters → ℕ
grant_until t l m = cond (momentary l.kind) t (least_until t t l m)

-- "The new until is the least of t + 60, end + 1, first + interval, old until + unused seconds."
unfoldable pub more_until : ℕ → ℕ → Limits → Meters → ℕ
more_until t old l m = least_until t old l m
