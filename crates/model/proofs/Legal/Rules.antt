-- The rules for players and meters as facts about numbers, derived from the image reader's tests and back.
-- Limits, meters and open uses are functions of a position here.
use mathlib.Core.Path.{◌≡◌, refl, sym, ap, ◌∙◌}
use Prim.Native.Nat.{ℕ, ◌+◌, ◌-◌, ◌≤◌, ◌<◌}
use mathlib.Core.Bool.{Bool, true, false, not, ◌&&◌, ◌||◌, cond}
use mathlib.Core.List.{[], ◌∷◌}
use lib.ListN.{get_or, get_or-eq_default}
use lib.Dec.{leb, ltb, eqb}
use native.Mathlib.Omega.{arith}
use borrow.Author.Tests.{eqb-true, eq-eqb, ne_eqb, ltb-true, lt-ltb, leb-true, le-leb, not-false}
use Rattle.numbers.specs.Count.{sum, one}
use Rattle.numbers.specs.Bits.{ones, mask_of}
use Rattle.numbers.proofs.TableLaws.{below_or_not}
use Rattle.numbers.proofs.Tests.{Pass, row-passed, implied, implied-at, otherwise, otherwise-at, passed}
use Rattle.book.specs.declared.Limits.{Limits}
use Rattle.book.specs.declared.Meters.{Meters}
use Rattle.book.specs.declared.Entry.{Entry}
use Rattle.book.specs.declared.Open.{Open}
use Rattle.book.specs.declared.Player.{Player}
use Rattle.book.specs.declared.Latest.{Latest}
use Rattle.book.specs.declared.Book.{Book}
use Rattle.book.specs.Blank.{no_meters, no_entry, closed, no_player}
use Rattle.model.specs.Book.{
  limits_at,
  meters_at,
  player_at,
  entries_in,
  grant_length,
  between,
  flagged,
  inside_dates,
  inside_interval,
  use_legal,
  open_legal,
  player_blank,
  request_legal,
  answer_legal,
  player_legal,
  players_legal,
  meter_legal,
  start_legal,
  opens,
  open_uses,
  open_seconds,
  meters_cover,
  entry_meters_legal,
  meters_legal,
  assets_legal,
  entries_legal,
  rule_broken,
  Legal,
  marks_of,
  marks_legal,
  is_group,
  limits_legal,
  in_book,
  content_legal,
  switch_legal,
  started_legal,
  latest_legal,
  latest_passes,
}
pub use Rattle.model.specs.Book.{player_passes}
use Rattle.model.specs.Meters.{is_on}
use Rattle.model.specs.Step.{open_at}
use Rattle.model.proofs.Ledger.Facts.{on_test, clash, and_right, and_both, cond-on, cond-off}
use Rattle.model.proofs.Ledger.WellFormed.{all-below}
use Rattle.model.proofs.Legal.Facts.{all_of}

-- ## The facts

-- a meter v that counts under flag f: within its limit z, at least what the open uses need, 0 without the flag
pub record Counted (f : Bool) (z v k : ℕ) : Type 0 where
  pub within : f ≡ true → v ≤ z
  pub covers : f ≡ true → k ≤ v
  pub unused : f ≡ false → v ≡ 0

-- an entry's meters at time T, with k open uses that run s seconds in all, of the players in x
pub record MeterOk (T : ℕ) (l : Limits) (m : Meters) (k s x : ℕ) : Type 0 where
  pub count : Counted (flagged 1 l) l.count m.count k
  pub timed : Counted (flagged 2 l) l.timed m.timed k
  pub seconds : Counted (flagged 32 l) l.accumulated m.seconds s
  pub mark : m.started ≤ 1
  pub unstarted : flagged 16 l ≡ false → m.started ≡ 0
  pub unset : eqb m.started 1 ≡ false → m.first ≡ 0
  pub past : m.first ≤ T
  pub marks : m.marks ≡ x
  pub together : is_group l ≡ true → ones x ≤ l.threshold

-- an open use at time T among n entries; whether it still runs is asked separately
pub record UseOk (T n : ℕ) (l : Limits) (m : Meters) (o : Open) : Type 0 where
  pub begun : o.begin ≤ T
  pub near : o.until ≤ T + grant_length l.kind
  pub entry : o.entry < n
  pub kind : between 1 3 l.kind ≡ true
  pub from : flagged 4 l ≡ true → l.start ≤ o.begin
  pub last : flagged 8 l ≡ true → o.until ≤ l.end + 1
  pub started : flagged 16 l ≡ true → m.started ≡ 1
  pub since : flagged 16 l ≡ true → m.first ≤ o.begin
  pub span : flagged 16 l ≡ true → o.until ≤ m.first + l.interval

pub record OpenOk (T n : ℕ) (lim : ℕ → Limits) (met : ℕ → Meters) (o : Open) : Type 0 where
  pub shut : is_on o ≡ false → o ≡ closed
  pub runs : is_on o ≡ true → UseOk T n (lim o.entry) (met o.entry) o

-- what an open use needs of entry i
abbrev pub use_in : ℕ → Open → ℕ
use_in i o = one (opens i o)

abbrev pub seconds_in : ℕ → Open → ℕ
seconds_in i o = cond (opens i o) (o.until - o.begin) 0

abbrev pub uses_of : (ℕ → Open) → ℕ → ℕ
uses_of opn i = sum (λ p. use_in i (opn p)) 16

abbrev pub seconds_of : (ℕ → Open) → ℕ → ℕ
seconds_of opn i = sum (λ p. seconds_in i (opn p)) 16

abbrev pub marks_in : (ℕ → Open) → ℕ → ℕ
marks_in opn i = mask_of (λ p. opens i (opn p)) 16

pub record Sound (T n : ℕ) (lim : ℕ → Limits) (met : ℕ → Meters) (opn : ℕ → Open) : Type 0 where
  pub opens : (p : ℕ) → OpenOk T n lim met (opn p)
  pub meters : (i : ℕ) → i < n → MeterOk T (lim i) (met i) (uses_of opn i) (seconds_of opn i) (marks_in opn i)
  pub blank : (i : ℕ) → n ≤ i → met i ≡ no_meters

-- no open use is over
abbrev pub Live : ℕ → (ℕ → Open) → Type 0
Live T opn = (p : ℕ) → is_on (opn p) ≡ true → T < (opn p).until

-- ## The reader's tests, on a book

abbrev pub lawful_in : Book → Limits → Bool
lawful_in b l = limits_legal (in_book b l.asset) l

abbrev use_passes : Book → Open → Bool
use_passes b o = use_legal b.time (entries_in b) (in_book b o.content) (get_or b.entries o.entry no_entry) o

abbrev pub open_passes : Book → Open → Bool
open_passes b o = open_legal b.time (entries_in b) (in_book b o.content) (get_or b.entries o.entry no_entry) o

-- the content of an open use passes; `has` says which assets there are
abbrev pub Named : (ℕ → Bool) → (ℕ → Limits) → Open → Type 0
Named has lim o = is_on o ≡ true → content_legal (has o.content) (lim o.entry) o ≡ true

abbrev pub meters_pass : Book → ℕ → Bool
meters_pass b i = entry_meters_legal b.time b.players i (get_or b.entries i no_entry)

-- ## Open uses

pub open-closed : (o : Open) → o.on ≡ 0 → o.entry ≡ 0 → o.begin ≡ 0 → o.until ≡ 0 → o.content ≡ 0 → o ≡ closed
open-closed o a b c d e = λ k. record { on = a k; entry = b k; begin = c k; until = d k; content = e k }

zero-not-one : (n : ℕ) → n ≡ 0 → eqb n 1 ≡ true → ⊥
zero-not-one n e h = let j : n ≡ 1 = eqb-true n 1 h in omega arith

module _ (b : Book) (o : Open) where
  abbrev l : Limits
  l = limits_at b.entries o.entry

  abbrev m : Meters
  m = meters_at b.entries o.entry

  use-tests : use_passes b o ≡ true → (leb o.begin b.time ≡ true) × Pass
      (ltb b.time o.until ∷ leb o.until (b.time + grant_length l.kind) ∷ ltb o.entry (entries_in b) ∷ between 1 3
      l.kind ∷ inside_dates o l ∷ inside_interval o l m ∷ content_legal (in_book b o.content) l o ∷ [])
  unfolding use_legal
  use-tests e = row-passed _ (ltb b.time o.until ∷ leb o.until (b.time + grant_length l.kind) ∷ ltb o.entry (entries_in b)
      ∷ between 1 3 l.kind ∷ inside_dates o l ∷ inside_interval o l m ∷ content_legal (in_book b o.content) l o ∷ []) e

  date-tests : inside_dates o l ≡ true → ((not (flagged 4 l) || leb l.start o.begin) ≡ true) × Pass
      ((not (flagged 8 l) || leb o.until (l.end + 1)) ∷ [])
  unfolding inside_dates
  date-tests e = row-passed _ ((not (flagged 8 l) || leb o.until (l.end + 1)) ∷ []) e

  interval-tests : inside_interval o l m ≡ true → flagged 16 l ≡ true → (eqb m.started 1 ≡ true) × Pass
      (leb m.first o.begin ∷ leb o.until (m.first + l.interval) ∷ [])
  unfolding inside_interval
  interval-tests e f = row-passed _ (leb m.first o.begin ∷ leb o.until (m.first + l.interval) ∷ [])
      (implied-at (flagged 16 l) _ e f)

  use-from : use_passes b o ≡ true → UseOk b.time (entries_in b) l m o
  use-from e =
      let h = use-tests e in
      let d = date-tests h.1.1.1.1.1.0 in
      record {
        begun = leb-true _ _ h.0;
        near = leb-true _ _ h.1.1.0;
        entry = ltb-true _ _ h.1.1.1.0;
        kind = h.1.1.1.1.0;
        from = λ f. leb-true _ _ (implied-at (flagged 4 l) _ d.0 f);
        last = λ f. leb-true _ _ (implied-at (flagged 8 l) _ d.1.0 f);
        started = λ f. eqb-true _ _ (interval-tests h.1.1.1.1.1.1.0 f).0;
        since = λ f. leb-true _ _ (interval-tests h.1.1.1.1.1.1.0 f).1.0;
        span = λ f. leb-true _ _ (interval-tests h.1.1.1.1.1.1.0 f).1.1.0;
      }

  use-live : use_passes b o ≡ true → b.time < o.until
  use-live e = ltb-true _ _ (use-tests e).1.0

  use-named : use_passes b o ≡ true → content_legal (in_book b o.content) l o ≡ true
  use-named e = (use-tests e).1.1.1.1.1.1.1.0

  use-to : UseOk b.time (entries_in b) l m o → b.time < o.until → content_legal (in_book b o.content) l o ≡ true → use_passes b o ≡ true
  unfolding use_legal inside_dates inside_interval
  use-to u h c =
      and_both (and_both (and_both (and_both (and_both (and_both (and_both
      (le-leb _ _ u.begun)
      (lt-ltb _ _ h))
      (le-leb _ _ u.near))
      (lt-ltb _ _ u.entry))
      u.kind)
      (and_both
      (implied (flagged 4 l) (leb l.start o.begin) (λ f. le-leb _ _ (u.from f)))
      (implied (flagged 8 l) (leb o.until (l.end + 1)) (λ f. le-leb _ _ (u.last f)))))
      (implied (flagged 16 l) (eqb m.started 1 && leb m.first o.begin && leb o.until (m.first + l.interval))
      (λ f. and_both (and_both (eq-eqb _ _ (u.started f)) (le-leb _ _ (u.since f))) (le-leb _ _ (u.span f)))))
      c

  open-tests : eqb o.on 0 ≡ false → open_passes b o ≡ true → (eqb o.on 1 ≡ true) × Pass (use_passes b o ∷ [])
  unfolding open_legal
  open-tests q e = row-passed _ (use_passes b o ∷ []) (sym (cond-off (eqb o.on 0) _ _ q) ∙ e)

  closed-tests : eqb o.on 0 ≡ true → open_passes b o ≡ true → o ≡ closed
  unfolding open_legal
  closed-tests q e =
      let h = row-passed (eqb o.entry 0) (eqb o.begin 0 ∷ eqb o.until 0 ∷ eqb o.content 0 ∷ [])
      (sym (cond-on (eqb o.on 0) _ _ q) ∙ e) in
      open-closed o (eqb-true _ _ q) (eqb-true _ _ h.0) (eqb-true _ _ h.1.0) (eqb-true _ _ h.1.1.0)
      (eqb-true _ _ h.1.1.1.0)

  on-use : open_passes b o ≡ true → is_on o ≡ true → use_passes b o ≡ true
  on-use e q =
      on_test (eqb o.on 0)
      (λ z. absurd (zero-not-one o.on (eqb-true _ _ z) q))
      (λ z. (open-tests z e).1.0)

  pub open-from : open_passes b o ≡ true → OpenOk b.time (entries_in b) (limits_at b.entries) (meters_at b.entries) o
  open-from e = record {
    shut = λ q. on_test (eqb o.on 0) (λ z. closed-tests z e) (λ z. clash (open-tests z e).0 q);
    runs = λ q. use-from (on-use e q);
  }

  open-live : open_passes b o ≡ true → is_on o ≡ true → b.time < o.until
  open-live e q = use-live (on-use e q)

  open-named : open_passes b o ≡ true → Named (in_book b) (limits_at b.entries) o
  open-named e q = use-named (on-use e q)

  pub open-to : OpenOk b.time (entries_in b) (limits_at b.entries) (meters_at b.entries) o → (is_on o ≡ true → b.time < o.until)
      → Named (in_book b) (limits_at b.entries) o → open_passes b o ≡ true
  unfolding open_legal
  open-to h live named =
      on_test (is_on o)
      (λ q. cond-off (eqb o.on 0) _ _ (one_not_zero q) ∙ and_both q (use-to (h.runs q) (live q) (named q)))
      (λ q. ap (λ (x : Open). open_passes b x) (h.shut q))
    where
      one_not_zero : eqb o.on 1 ≡ true → eqb o.on 0 ≡ false
      one_not_zero q = on_test (eqb o.on 0) (λ z. absurd (zero-not-one o.on (eqb-true _ _ z) q)) (λ z. z)

closed-ok : (T n : ℕ) (lim : ℕ → Limits) (met : ℕ → Meters) → OpenOk T n lim met closed
closed-ok T n lim met = record { shut = λ q. refl; runs = λ q. clash q refl }

-- ## Players

pub blank-current : (x : Player) → player_blank x ≡ true → x.current ≡ closed
unfolding player_blank
blank-current x e =
    let h =
    row-passed (eqb x.last.number 0)
    (eqb x.last.operation 0 ∷ eqb x.last.asset 0 ∷ eqb x.last.kind 0
    ∷ eqb x.last.answer.code 0 ∷ eqb x.last.answer.entry 0 ∷ eqb x.last.answer.until 0
    ∷ eqb x.current.on 0 ∷ eqb x.current.entry 0 ∷ eqb x.current.begin 0 ∷ eqb x.current.until 0
    ∷ eqb x.current.content 0 ∷ []) e in
    let c = h.1.1.1.1.1.1.1 in
    open-closed x.current (eqb-true _ _ c.0) (eqb-true _ _ c.1.0) (eqb-true _ _ c.1.1.0) (eqb-true _ _ c.1.1.1.0)
    (eqb-true _ _ c.1.1.1.1.0)

module _ (b : Book) (x : Player) where
  pub unused-from : eqb x.last.number 0 ≡ true → player_passes b x ≡ true → player_blank x ≡ true
  unfolding player_legal
  unused-from q e = sym (cond-on (eqb x.last.number 0) _ _ q) ∙ e

  pub used-from : eqb x.last.number 0 ≡ false → player_passes b x ≡ true →
      (request_legal x.last.operation x.last.asset x.last.kind ≡ true) × Pass
      (answer_legal (entries_in b) x.last.answer ∷ open_passes b x.current ∷ [])
  unfolding player_legal
  used-from q e = row-passed _ (answer_legal (entries_in b) x.last.answer ∷ open_passes b x.current ∷ [])
      (sym (cond-off (eqb x.last.number 0) _ _ q) ∙ e)

  pub player-live : player_passes b x ≡ true → is_on x.current ≡ true → b.time < x.current.until
  player-live e on =
      on_test (eqb x.last.number 0)
      (λ q. clash on (ap is_on (blank-current x (unused-from q e))))
      (λ q. open-live b x.current (used-from q e).1.1.0 on)

  pub player-named : player_passes b x ≡ true → Named (in_book b) (limits_at b.entries) x.current
  player-named e on =
      on_test (eqb x.last.number 0)
      (λ q. clash on (ap is_on (blank-current x (unused-from q e))))
      (λ q. open-named b x.current (used-from q e).1.1.0 on)

  pub player-open : player_passes b x ≡ true → OpenOk b.time (entries_in b) (limits_at b.entries) (meters_at b.entries) x.current
  player-open e =
      on_test (eqb x.last.number 0)
      (λ q. rw (blank-current x (unused-from q e)) (closed-ok b.time (entries_in b) (limits_at b.entries) (meters_at b.entries)))
      (λ q. open-from b x.current (used-from q e).1.1.0)

  pub player-to : (eqb x.last.number 0 ≡ true → player_blank x ≡ true) →
      (eqb x.last.number 0 ≡ false → (request_legal x.last.operation x.last.asset x.last.kind ≡ true) ×
      (answer_legal (entries_in b) x.last.answer ≡ true)) → open_passes b x.current ≡ true → player_passes b x ≡ true
  unfolding player_legal
  player-to blank used runs =
      on_test (eqb x.last.number 0)
      (λ q. cond-on (eqb x.last.number 0) _ _ q ∙ blank q)
      (λ q. cond-off (eqb x.last.number 0) _ _ q ∙ and_both (and_both (used q).0 (used q).1) runs)

-- ## Meters

module _ {f : Bool} {z v k : ℕ} where
  counted-from : meter_legal f z v ≡ true → (not f || leb k v) ≡ true → Counted f z v k
  unfolding meter_legal
  counted-from e c = record {
    within = λ q. leb-true v z (sym (cond-on f _ _ q) ∙ e);
    covers = λ q. leb-true k v (implied-at f _ c q);
    unused = λ q. eqb-true v 0 (sym (cond-off f _ _ q) ∙ e);
  }

  counted-legal : Counted f z v k → meter_legal f z v ≡ true
  unfolding meter_legal
  counted-legal h =
      on_test f
      (λ q. cond-on f _ _ q ∙ le-leb v z (h.within q))
      (λ q. cond-off f _ _ q ∙ eq-eqb v 0 (h.unused q))

  counted-covers : Counted f z v k → (not f || leb k v) ≡ true
  counted-covers h = implied f (leb k v) (λ q. le-leb k v (h.covers q))

module _ (b : Book) (i : ℕ) where
  abbrev lᵢ : Limits
  lᵢ = limits_at b.entries i

  abbrev mᵢ : Meters
  mᵢ = meters_at b.entries i

  meter-tests : meters_pass b i ≡ true → (meter_legal (flagged 1 lᵢ) lᵢ.count mᵢ.count ≡ true) × Pass
      (meter_legal (flagged 2 lᵢ) lᵢ.timed mᵢ.timed ∷ meter_legal (flagged 32 lᵢ) lᵢ.accumulated mᵢ.seconds ∷ start_legal
      b.time lᵢ mᵢ ∷ meters_cover (open_uses b.players i) (open_seconds b.players i) lᵢ mᵢ ∷ marks_legal (marks_of b.players i) lᵢ mᵢ
      ∷ [])
  unfolding entry_meters_legal
  meter-tests e = row-passed _ (meter_legal (flagged 2 lᵢ) lᵢ.timed mᵢ.timed ∷ meter_legal (flagged 32 lᵢ) lᵢ.accumulated
      mᵢ.seconds ∷ start_legal b.time lᵢ mᵢ ∷ meters_cover (open_uses b.players i) (open_seconds b.players i) lᵢ mᵢ ∷ marks_legal
      (marks_of b.players i) lᵢ mᵢ ∷ []) e

  mark-tests : marks_legal (marks_of b.players i) lᵢ mᵢ ≡ true → (eqb mᵢ.marks (marks_of b.players i) ≡ true) × Pass
      ((not (is_group lᵢ) || leb (ones mᵢ.marks) lᵢ.threshold) ∷ [])
  unfolding marks_legal
  mark-tests e = row-passed _ ((not (is_group lᵢ) || leb (ones mᵢ.marks) lᵢ.threshold) ∷ []) e

  start-tests : start_legal b.time lᵢ mᵢ ≡ true → (leb mᵢ.started 1 ≡ true) × Pass
      ((flagged 16 lᵢ || eqb mᵢ.started 0) ∷ (eqb mᵢ.started 1 || eqb mᵢ.first 0) ∷ leb mᵢ.first b.time ∷ [])
  unfolding start_legal
  start-tests e = row-passed _ ((flagged 16 lᵢ || eqb mᵢ.started 0) ∷ (eqb mᵢ.started 1 || eqb mᵢ.first 0) ∷ leb mᵢ.first
      b.time ∷ []) e

  cover-tests : meters_cover (open_uses b.players i) (open_seconds b.players i) lᵢ mᵢ ≡ true →
      ((not (flagged 1 lᵢ) || leb (open_uses b.players i) mᵢ.count) ≡ true) × Pass
      ((not (flagged 2 lᵢ) || leb (open_uses b.players i) mᵢ.timed) ∷
      (not (flagged 32 lᵢ) || leb (open_seconds b.players i) mᵢ.seconds) ∷ [])
  unfolding meters_cover
  cover-tests e = row-passed _ ((not (flagged 2 lᵢ) || leb (open_uses b.players i) mᵢ.timed) ∷
      (not (flagged 32 lᵢ) || leb (open_seconds b.players i) mᵢ.seconds) ∷ []) e

  abbrev xᵢ : ℕ
  xᵢ = marks_of b.players i

  meter-from : meters_pass b i ≡ true → MeterOk b.time lᵢ mᵢ (open_uses b.players i) (open_seconds b.players i) xᵢ
  meter-from e =
      let h = meter-tests e in
      let s = start-tests h.1.1.1.0 in
      let c = cover-tests h.1.1.1.1.0 in
      let k = mark-tests h.1.1.1.1.1.0 in
      let own : mᵢ.marks ≡ xᵢ = eqb-true _ _ k.0 in
      record {
        count = counted-from h.0 c.0;
        timed = counted-from h.1.0 c.1.0;
        seconds = counted-from h.1.1.0 c.1.1.0;
        mark = leb-true _ _ s.0;
        unstarted = λ q. eqb-true _ _ (otherwise-at (flagged 16 lᵢ) _ s.1.0 q);
        unset = λ q. eqb-true _ _ (otherwise-at (eqb mᵢ.started 1) _ s.1.1.0 q);
        past = leb-true _ _ s.1.1.1.0;
        marks = own;
        together = λ f. omega (arith, leb-true (ones mᵢ.marks) lᵢ.threshold (implied-at (is_group lᵢ) _ k.1.0 f), ap ones own);
      }

  pub meter-to : MeterOk b.time lᵢ mᵢ (open_uses b.players i) (open_seconds b.players i) xᵢ → meters_pass b i ≡ true
  unfolding entry_meters_legal start_legal meters_cover marks_legal
  meter-to h =
      and_both (and_both (and_both (and_both (and_both
      (counted-legal h.count)
      (counted-legal h.timed))
      (counted-legal h.seconds))
      (and_both (and_both (and_both
      (le-leb _ _ h.mark)
      (otherwise (flagged 16 lᵢ) (eqb mᵢ.started 0) (λ q. eq-eqb _ _ (h.unstarted q))))
      (otherwise (eqb mᵢ.started 1) (eqb mᵢ.first 0) (λ q. eq-eqb _ _ (h.unset q))))
      (le-leb _ _ h.past)))
      (and_both (and_both
      (counted-covers h.count)
      (counted-covers h.timed))
      (counted-covers h.seconds)))
      (and_both
      (eq-eqb _ _ h.marks)
      (implied (is_group lᵢ) _ (λ f. le-leb (ones mᵢ.marks) lᵢ.threshold (omega (arith, h.together f, ap ones h.marks)))))

-- ## The event taken last

-- a use that the header says to have started an interval: the tests it has passed
pub started-tests : (x : Latest) (uses : ℕ) (e : Entry) (y : Player) → latest_legal x uses e y ≡ true → eqb x.started 1 ≡ true →
    (eqb y.current.on 1 ≡ true) × Pass (flagged 16 e.limits ∷ eqb y.current.begin e.meters.first ∷ eqb uses 1 ∷ [])
unfolding latest_legal started_legal
started-tests x uses e y h s =
    let t = row-passed (leb x.player 16)
    ((eqb x.player 0 || not (eqb y.last.number 0)) ∷ leb x.started 1 ∷
    (eqb x.started 0 || (not (eqb x.player 0) && started_legal uses e y.current)) ∷ []) h in
    let z : eqb x.started 0 ≡ false = ne_eqb x.started 0 (λ z. omega (arith, eqb-true x.started 1 s)) in
    let own = and_right (not (eqb x.player 0)) _ (otherwise-at (eqb x.started 0) _ t.1.1.1.0 z) in
    row-passed (eqb y.current.on 1) (flagged 16 e.limits ∷ eqb y.current.begin e.meters.first ∷ eqb uses 1 ∷ []) own

-- ## The stages of the reader

pub record Stages (b : Book) : Type 0 where
  pub assets : assets_legal b ≡ true
  pub entries : entries_legal b ≡ true
  pub switch : switch_legal b ≡ true
  pub players : (p : ℕ) → p < 16 → player_passes b (player_at b.players p) ≡ true
  pub latest : latest_passes b ≡ true
  pub meters : (i : ℕ) → i < entries_in b → meters_pass b i ≡ true

pub stages-from : (b : Book) → rule_broken b ≡ 0 → Stages b
unfolding rule_broken players_legal meters_legal
stages-from b e =
    let p = passed (not (assets_legal b)) 23 _ e in
    let q = passed (not (entries_legal b)) 24 _ p.1 in
    let r = passed (not (switch_legal b && players_legal b && latest_passes b)) 25 _ q.1 in
    let x = row-passed (switch_legal b) (players_legal b ∷ latest_passes b ∷ []) (not-false _ r.0) in
    let s = passed (not (meters_legal b)) 26 _ r.1 in
    record {
      assets = not-false _ p.0;
      entries = not-false _ q.0;
      switch = x.0;
      players = all-below _ 16 x.1.0;
      latest = x.1.1.0;
      meters = all-below _ (entries_in b) (not-false _ s.0);
    }

pub stages-to : (b : Book) → Stages b → rule_broken b ≡ 0
unfolding rule_broken players_legal meters_legal
stages-to b h =
    go (assets_legal b) (entries_legal b) (switch_legal b && players_legal b && latest_passes b) (meters_legal b) h.assets h.entries
    (and_both (and_both h.switch (all_of (λ p. player_passes b (player_at b.players p)) 16 h.players)) h.latest)
    (all_of (meters_pass b) (entries_in b) h.meters)
  where
    go : (p q r s : Bool) → p ≡ true → q ≡ true → r ≡ true → s ≡ true → ◌≡◌ {A = ℕ}
        (cond (not p) 24 (cond (not q) 25 (cond (not r) 26 (cond (not s) 27 0)))) 0
    go p q r s a b c d = rw (a, b, c, d)

-- ## For a whole book

module _ (b : Book) (h : Legal b) where
  pub entries-counted : entries_in b ≡ b.entrycount
  unfolding entries_in
  entries-counted = omega (arith, h.entry_count)

  pub no-player : (p : ℕ) → 16 ≤ p → player_at b.players p ≡ no_player
  no-player p k = get_or-eq_default b.players no_player (omega (arith, h.player_slots))

  pub sound-of : Sound b.time (entries_in b) (limits_at b.entries) (meters_at b.entries) (open_at b.players)
  unfolding open_uses open_seconds marks_of
  sound-of =
      let s = stages-from b h.rules in
      record {
        opens = λ p. below_or_not p 16
            (λ k. player-open b (player_at b.players p) (s.players p k))
            (λ k. rw (no-player p k) (closed-ok b.time (entries_in b) (limits_at b.entries) (meters_at b.entries)));
        meters = λ i k. meter-from b i (s.meters i k);
        blank = λ i k. ap (λ (e : Entry). e.meters) (h.entries_blank i (omega (arith, entries-counted)));
      }
