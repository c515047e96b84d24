-- What the choice needs to know of an entry, as a row: a turn of the choice on a row is a turn on its entry.
use Rattle.std.specs.Prelude.{ℕ, Some, ◌+◌, ◌<◌, min, ◌≡◌, refl, Bool, true, false, not, ◌&&◌, ◌||◌, cond, List, [], ◌∷◌, leb, ltb, eqb}
use Rattle.std.proofs.Common.{sym, ap, ◌∙◌, arith, add-zero, ltb-true, ltb-false, leb-true, leb-false, lt-ltb, le-ltb, le-leb, eq-eqb, ne_eqb}
use Rattle.std.proofs.Math.Bool.{not-not, and-true, and-false}
use Rattle.std.proofs.lemmas.Bool.{false≢true}
use Rattle.numbers.specs.Count.{one, how_many}
use Rattle.numbers.specs.Bits.{ones}
use Rattle.book.specs.declared.Ask.{Ask}
use Rattle.book.specs.declared.Grounds.{Grounds}
use Rattle.book.specs.declared.Limits.{Limits}
use Rattle.book.specs.declared.Meters.{Meters}
use Rattle.model.specs.Book.{flagged, is_group}
use Rattle.model.specs.Book.{count_flag, timed_flag, start_flag, end_flag, interval_flag, accumulated_flag}
use Rattle.model.specs.Meters.{where_flagged, is_started}
use Rattle.model.specs.Choice.{no_end, own, suitable, fails, grounds_of, ground_list, grantable, switch_only, last_moment, rank_of, ranks_before}
use Rattle.model.proofs.Ledger.Facts.{not-positive}
use Rattle.numbers.proofs.Tests.{on_test, on_same, none_row}
use Rattle.book.specs.declared.Rank.{Rank}
use Rattle.choice.specs.declared.Best as code
use Rattle.choice.specs.declared.Row.{Row}
use Rattle.choice.specs.Best.{Best, seen, held, considered, entry_taken}

-- a flagged count is used up, or the seconds are, or the interval is 0, or the threshold is full
unfoldable pub spent : Limits → Meters → Bool
spent l m =
    (flagged count_flag l && leb l.count m.count)
    || (flagged timed_flag l && leb l.timed m.timed)
    || (flagged accumulated_flag l && leb l.accumulated m.seconds)
    || ((flagged interval_flag l && eqb l.interval 0) || fails (is_group l) (ltb (ones m.marks) l.threshold))

-- the time from which an entry is no longer grantable; `no_end` if there is none, 0 if it is spent or full
unfoldable pub window_of : Limits → Meters → ℕ
window_of l m = cond (spent l m) 0 (last_moment l m)

-- the time from which an entry is grantable
unfoldable pub start_of : Limits → ℕ
start_of l = where_flagged (flagged start_flag l) l.start

unfoldable pub row_of : Limits → Meters → Row
row_of l m = record {
  asset = l.asset;
  kind = l.kind;
  flags = one (not (eqb l.flags 0));
  start = start_of l;
  window = window_of l m;
  guarded = eqb l.tracked 1 && not (eqb l.mark 1);
}

-- the row of an entry whose meters have become m
abbrev pub refreshed_row : Limits → Meters → Row → Row
refreshed_row l m row = record {
  asset = row.asset;
  kind = row.kind;
  flags = row.flags;
  start = row.start;
  window = window_of l m;
  guarded = row.guarded;
}

pub row-refreshed : (l : Limits) (m n : Meters) → refreshed_row l n (row_of l m) ≡ row_of l n
unfolding row_of
row-refreshed l m n = refl

-- the rank of the row's entry, if the row is open
abbrev pub row_rank : ℕ → Row → Rank
row_rank asset row = record {
  flags = row.flags;
  last = row.window;
  inherited = one (not (eqb row.asset asset));
}

-- the row's entry is the asset's own, or its parent's
abbrev pub row_belongs : ℕ → ℕ → Row → Bool
row_belongs asset parent row = eqb row.asset asset || (not (eqb parent 0) && eqb row.asset parent)

abbrev pub row_suits : ℕ → ℕ → ℕ → Row → Bool
row_suits asset parent kind row = eqb row.kind kind && row_belongs asset parent row

abbrev pub row_open : Ask → Row → Bool
row_open ask row = leb row.start ask.time && ltb ask.time row.window

-- the switch stands against the row's entry
abbrev pub row_barred : Ask → Row → Bool
row_barred ask row = row.guarded && not (eqb ask.switch 1)

-- entry i, with that row, against the best so far
unfoldable pub row_considered : ℕ → ℕ → ℕ → Ask → ℕ → Row → Best → Best
row_considered asset parent kind ask i row best =
    cond (row_suits asset parent kind row)
    (cond (ranks_before (row_rank asset row) best.rank && (row_open ask row && not (row_barred ask row)))
    (record { suits = true; switched = best.switched; at = i; rank = row_rank asset row })
    (record { suits = true; switched = best.switched || (row_open ask row && row_barred ask row); at = best.at; rank = best.rank }))
    best

-- the same on the best so far as the code holds it
unfoldable pub row_taken : ℕ → ℕ → ℕ → Ask → ℕ → Row → code.Best → code.Best
row_taken asset parent kind ask i row x =
    cond (row_suits asset parent kind row)
    (cond (ranks_before (row_rank asset row) (held x.granted) && (row_open ask row && not (row_barred ask row)))
    (record { suits = true; switched = x.switched; granted = Some (record { at = i; rank = row_rank asset row }) })
    (record { suits = true; switched = x.switched || (row_open ask row && row_barred ask row); granted = x.granted }))
    x

seen-either : (b d : Bool) (x y z : code.Best) → seen (cond b (cond d x y) z) ≡ cond b (cond d (seen x) (seen y)) (seen z)
seen-either true true x y z = refl
seen-either true false x y z = refl
seen-either false d x y z = refl

pub seen-row : (asset parent kind : ℕ) (ask : Ask) (i : ℕ) (row : Row) (x : code.Best)
    → seen (row_taken asset parent kind ask i row x) ≡ row_considered asset parent kind ask i row (seen x)
unfolding row_taken row_considered
seen-row asset parent kind ask i row x =
    seen-either (row_suits asset parent kind row)
    (ranks_before (row_rank asset row) (held x.granted) && (row_open ask row && not (row_barred ask row))) _ _ x

-- ## A turn on a row is a turn on its entry

-- a number is below the smaller of two if it is below both
below-min : (t a b : ℕ) → ltb t (min a b) ≡ ltb t a && ltb t b
below-min t a b =
    on_test (ltb t a)
    (λ p. on_test (ltb t b)
    (λ q. rw (p, q) (lt-ltb t (min a b) (omega (arith, ltb-true t a p, ltb-true t b q))))
    (λ q. rw (p, q) (le-ltb t (min a b) (omega (arith, ltb-false t b q)))))
    (λ p. rw p (le-ltb t (min a b) (omega (arith, ltb-false t a p))))

below-zero : (s : Bool) (t w : ℕ) → ltb t (cond s 0 w) ≡ not s && ltb t w
below-zero true t w = le-ltb t 0 (omega arith)
below-zero false t w = refl

below_next : (t n : ℕ) → ltb t (n + 1) ≡ leb t n
below_next t n =
    on_test (leb t n)
    (λ p. rw p (lt-ltb t (n + 1) (omega (arith, leb-true t n p))))
    (λ p. rw p (le-ltb t (n + 1) (omega (arith, leb-false t n p))))

not-below : (a b : ℕ) → leb a b ≡ not (ltb b a)
not-below a b =
    on_test (leb a b)
    (λ p. rw (p, le-ltb b a (leb-true a b p)))
    (λ p. rw (p, lt-ltb b a (leb-false a b p)))

used-up : (f : Bool) (a b : ℕ) → (f && leb a b) ≡ fails f (ltb b a)
used-up true a b = not-below a b
used-up false a b = refl

is_zero : (f : Bool) (n : ℕ) → (f && eqb n 0) ≡ fails f (ltb 0 n)
is_zero true n = sym (not-positive n)
is_zero false n = refl

from_start : (f : Bool) (t s : ℕ) → leb (where_flagged f s) t ≡ not (fails f (leb s t))
from_start true t s = sym (not-not (leb s t))
from_start false t s = le-leb 0 t (omega arith)

before-end : (f : Bool) (t e : ℕ) → t < no_end → ltb t (cond f (e + 1) no_end) ≡ not (fails f (leb t e))
before-end true t e h = below_next t e ∙ sym (not-not (leb t e))
before-end false t e h = lt-ltb t no_end (omega arith)

before-due : (f s : Bool) (t d : ℕ) → t < no_end → ltb t (cond (f && s) d no_end) ≡ not (fails f (not s || ltb t d))
before-due true true t d h = sym (not-not (ltb t d))
before-due true false t d h = lt-ltb t no_end (omega arith)
before-due false s t d h = lt-ltb t no_end (omega arith)

-- the tests in the order of the grounds
ordered :
    (c d s e v a z : Bool) →
    (not s && (not (c || d || a || z) && (not e && not v))) ≡ (not c && not d && not s && not e && not v && not a && not z)
ordered true d true e v a z = refl
ordered true d false e v a z = refl
ordered false true true e v a z = refl
ordered false true false e v a z = refl
ordered false false true e v a z = refl
ordered false false false true v true z = refl
ordered false false false false true true z = refl
ordered false false false false false true z = refl
ordered false false false true v false true = refl
ordered false false false true v false false = refl
ordered false false false false true false true = refl
ordered false false false false true false false = refl
ordered false false false false false false true = refl
ordered false false false false false false false = refl

last-two : (r z x : Bool) → (r && not (z || x)) ≡ (r && not z && not x)
last-two true true x = refl
last-two true false x = refl
last-two false z x = refl

-- the grounds but the switch
abbrev others : Grounds → List Bool
others g =
    g.countspent ∷ g.timedspent ∷ g.beforestart ∷ g.afterend ∷ g.intervalover ∷ g.secondsspent ∷ g.intervalzero
    ∷ g.thresholdfull ∷ []

-- K of them stand, and the switch or not: it stands alone, or none stands
only_one : (K N : ℕ) (w : Bool) → N ≡ K + one w → (w && eqb N 1) ≡ (eqb K 0 && w)
only_one K N false n = sym (and-false (eqb K 0))
only_one K N true n =
    on_same K 0
    (λ z. rw (eq-eqb N 1 (omega (arith, n)), eq-eqb K 0 z))
    (λ z. rw (ne_eqb N 1 (λ y. z (omega (arith, n, y))), ne_eqb K 0 z))

none-one : (K N : ℕ) (w : Bool) → N ≡ K + one w → eqb N 0 ≡ (eqb K 0 && not w)
none-one K N false n = ap (λ (k : ℕ). eqb k 0) (n ∙ add-zero K) ∙ sym (and-true (eqb K 0))
none-one K N true n = ne_eqb N 0 (λ y. absurd (omega (arith, n, y))) ∙ sym (and-false (eqb K 0))

all-of-them : (g : Grounds) → how_many (ground_list g) ≡ how_many (others g) + one g.switchoff
all-of-them g = omega arith

-- the switch, as the row has it
barred-is : (ask : Ask) (l : Limits) (m : Meters)
    → (eqb l.tracked 1 && not (eqb l.mark 1) && not (eqb ask.switch 1)) ≡ (grounds_of ask l m).switchoff
unfolding grounds_of
barred-is ask l m = go (eqb l.tracked 1) (eqb l.mark 1) (eqb ask.switch 1)
  where
    go : (t k w : Bool) → (t && not k && not w) ≡ fails t (w || k)
    go false k w = refl
    go true true true = refl
    go true true false = refl
    go true false true = refl
    go true false false = refl

-- from the start until before the window ends, no other ground stands
pub window-open : (ask : Ask) (l : Limits) (m : Meters) → ask.time < no_end
    → (leb (start_of l) ask.time && ltb ask.time (window_of l m)) ≡ eqb (how_many (others (grounds_of ask l m))) 0
unfolding start_of window_of last_moment spent grounds_of
window-open ask l m h =
    let g = grounds_of ask l m in
    rw (
      below-zero,
      below-min,
      from_start,
      before-end (flagged end_flag l) ask.time l.end h,
      before-due (flagged interval_flag l) (is_started m) ask.time (m.first + l.interval) h,
      used-up (flagged count_flag l) l.count m.count,
      used-up (flagged timed_flag l) l.timed m.timed,
      used-up (flagged accumulated_flag l) l.accumulated m.seconds,
      is_zero (flagged interval_flag l) l.interval,
    )
    (ordered g.countspent g.timedspent g.beforestart g.afterend g.intervalover g.secondsspent
    (g.intervalzero || g.thresholdfull)
    ∙ last-two (not g.countspent && not g.timedspent && not g.beforestart && not g.afterend && not g.intervalover
    && not g.secondsspent) g.intervalzero g.thresholdfull
    ∙ none_row true (others g))

-- the window of a row that is open is the entry's last moment
open-last : (ask : Ask) (l : Limits) (m : Meters) → row_open ask (row_of l m) ≡ true → window_of l m ≡ last_moment l m
unfolding row_of window_of
open-last ask l m e =
    on_test (spent l m)
    (λ q. absurd (false≢true (sym (rw (q, le-ltb ask.time 0 (omega arith), and-false (leb (start_of l) ask.time))) ∙ e)))
    (λ q. rw q refl)

-- only an open row is taken, so what its rank is otherwise does not matter
open-rank : {X : Type 0} (o z : Bool) (r s held : Rank) (f : Rank → X) (x : X) → (o ≡ true → r ≡ s)
    → cond (ranks_before r held && (o && z)) (f r) x ≡ cond (ranks_before s held && (o && z)) (f s) x
open-rank true z r s held f x h = ap (λ (y : Rank). cond (ranks_before y held && z) (f y) x) (h refl)
open-rank false z r s held f x h = rw (and-false (ranks_before r held), and-false (ranks_before s held)) refl

-- for either form of the best so far: f with the entry in it, g without
turn-on-row :
    {X : Type 0} (asset parent kind : ℕ) (ask : Ask) (l : Limits) (m : Meters) (held : Rank) (sw : Bool) (f : Rank → X) (g : Bool → X) (x : X) →
    ask.time < no_end →
    cond (row_suits asset parent kind (row_of l m))
    (cond (ranks_before (row_rank asset (row_of l m)) held && (row_open ask (row_of l m) && not (row_barred ask (row_of l m))))
    (f (row_rank asset (row_of l m)))
    (g (sw || (row_open ask (row_of l m) && row_barred ask (row_of l m)))))
    x
    ≡ cond (suitable asset parent kind l)
    (cond (ranks_before (rank_of asset l m) held && grantable ask l m) (f (rank_of asset l m)) (g (sw || switch_only ask l m)))
    x
unfolding row_of rank_of suitable own grantable switch_only
turn-on-row asset parent kind ask l m held sw f g x h =
    let gs = grounds_of ask l m in
    let row = row_of l m in
    ap (λ (y : _). cond (row_suits asset parent kind row) y x)
    (open-rank (row_open ask row) (not (row_barred ask row)) (row_rank asset row) (rank_of asset l m) held f
    (g (sw || (row_open ask row && row_barred ask row)))
    (λ e. λ k. record { flags = row.flags; last = open-last ask l m e k; inherited = one (not (eqb l.asset asset)) }))
    ∙ rw (
      window-open ask l m h,
      barred-is ask l m,
      none-one (how_many (others gs)) (how_many (ground_list gs)) gs.switchoff (all-of-them gs),
      only_one (how_many (others gs)) (how_many (ground_list gs)) gs.switchoff (all-of-them gs),
    ) refl

pub row-considered :
    (asset parent kind : ℕ) (ask : Ask) (i : ℕ) (l : Limits) (m : Meters) (best : Best) →
    ask.time < no_end →
    row_considered asset parent kind ask i (row_of l m) best ≡ considered asset parent kind ask i l m best
unfolding row_considered considered
row-considered asset parent kind ask i l m best h =
    turn-on-row asset parent kind ask l m best.rank best.switched
    (λ r. record { suits = true; switched = best.switched; at = i; rank = r })
    (λ w. record { suits = true; switched = w; at = best.at; rank = best.rank }) best h

pub row-taken :
    (asset parent kind : ℕ) (ask : Ask) (i : ℕ) (l : Limits) (m : Meters) (x : code.Best) →
    ask.time < no_end →
    row_taken asset parent kind ask i (row_of l m) x ≡ entry_taken asset parent kind ask i l m x
unfolding row_taken entry_taken
row-taken asset parent kind ask i l m x h =
    turn-on-row asset parent kind ask l m (held x.granted) x.switched
    (λ r. record { suits = true; switched = x.switched; granted = Some (record { at = i; rank = r }) })
    (λ w. record { suits = true; switched = w; granted = x.granted }) x h
