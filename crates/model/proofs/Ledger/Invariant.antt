-- The invariant over positions: meters and open uses are those given by the ledger, and its uses keep within their limits.
-- A grant, a continue, a stop, a cancel and the settling of one player each preserve it.
use mathlib.Core.Path.{◌≡◌, refl, sym, ap, ◌∙◌}
use Prim.Native.Nat.{ℕ, suc, ◌+◌, ◌-◌, ◌≤◌, ◌<◌}
use mathlib.Core.Bool.{Bool, true, false, not, ◌&&◌, ◌||◌, cond, and-false, or-true}
use mathlib.Core.List.{List, [], ◌∷◌}
use mathlib.Core.Option.{Option, none, some, none-ne-some}
use lib.Dec.{leb, ltb, eqb}
use native.Mathlib.Omega.{arith}
use borrow.Author.Tests.{ltb-true, lt-ltb, le-ltb, leb-true, leb-false, le-leb, ne_eqb}
use Rattle.numbers.specs.Bits.{ones}
use Rattle.numbers.proofs.BitLaws.{ones-off, ones-on}
use Rattle.numbers.proofs.Tests.{Fail, none_pass}
use Rattle.book.specs.declared.Limits.{Limits}
use Rattle.book.specs.declared.Meters.{Meters}
use Rattle.book.specs.declared.Open.{Open}
use Rattle.book.specs.declared.Recent.{Recent}
use Rattle.book.specs.declared.Ask.{Ask}
use Rattle.book.specs.Blank.{closed}
use Rattle.model.specs.Book.{latest_time, most_seconds, flagged, momentary, grant_length}
use Rattle.model.specs.Choice.{cap, grounds_of, ground_list, grantable, least_until, grant_until, more_until}
use Rattle.model.specs.Meters.{begun, continued, ended, cancelled, is_started, interval_from, expired}
use Rattle.model.proofs.Ledger.Facts.{on_test, on_same, clash, and_left, and_both, passes, eqb-self, cap-le, cap-at}
use Rattle.model.proofs.Ledger.Facts.{cap-ge, upd, upd_same, upd_other, one-is}
use Rattle.model.specs.Ledger.{Use, is_open, ran, latest, revise, counts_timed, earliest, sooner, stop_at, go_on}
use Rattle.model.specs.Demand3.{Every, is_some, start_or, figures, held_by, held_in, ZeroLimit, zero-count, zero-timed, zero-interval}
use Rattle.model.specs.Demand3.{zero-accumulated}
use Rattle.model.proofs.Ledger.Sums.{all_map, all_both, all-revise, latest-new, latest-new-other, all-latest, Kept, earliest-revise}
use Rattle.model.proofs.Ledger.Sums.{latest-revise, latest-revise-other, latest-player, ShutFor, Tidy, tidy-revise, open-falls}
use Rattle.model.proofs.Ledger.Sums.{all-shut}
use Rattle.model.proofs.Ledger.Figures.{stop_at-keeps, go_on-keeps, open-until, open-on, stopped-shut, figures-other, figures-ended}
use Rattle.model.proofs.Ledger.Figures.{figures-continued, earliest-le, figures-new-other, figures-begun, stage, settle-nobody}
use Rattle.model.proofs.Ledger.Figures.{figures-cancelled, settle-open, settle_other, settle-ended}

-- ## The parts

-- the use lies in its entry's dates
pub record Dated (l : Limits) (u : Use) : Type 0 where
  pub from : flagged 4 l ≡ true → l.start ≤ u.begin
  pub upto : flagged 8 l ≡ true → u.begin ≤ l.end
  pub last : flagged 8 l ≡ true → u.until ≤ l.end + 1

-- the use lies in its entry's interval, which began at s
pub record Spanned (s : Option ℕ) (l : Limits) (u : Use) : Type 0 where
  pub from : flagged 16 l ≡ true → u.begin < start_or 0 s + l.interval
  pub last : flagged 16 l ≡ true → u.until ≤ start_or 0 s + l.interval

-- what holds of each use at time T, with k players and n entries
pub record Sound (T k n : ℕ) (lim : ℕ → Limits) (u : Use) : Type 0 where
  pub entry : u.entry < n
  pub player : u.player < k
  pub begun : u.begin ≤ T
  pub ordered : u.begin ≤ u.until
  pub near : u.until ≤ T + grant_length (lim u.entry).kind
  pub dates : Dated (lim u.entry) u
  pub allows : ZeroLimit (lim u.entry) → ⊥

-- the meters are within the limits
pub record Within (l : Limits) (m : Meters) : Type 0 where
  pub count : flagged 1 l ≡ true → m.count ≤ l.count
  pub timed : flagged 2 l ≡ true → m.timed ≤ l.timed
  pub seconds : flagged 32 l ≡ true → m.seconds ≤ l.accumulated
  pub together : (l.threshold ≡ 0 → ⊥) → ones m.marks ≤ l.threshold

-- what is needed about an entry's limits: a momentary entry has timer 0, an end is a time, an interval is in its range
pub record Lawful (l : Limits) : Type 0 where
  pub timer : momentary l.kind ≡ true → l.timer ≡ 0
  pub end : flagged 8 l ≡ true → l.end ≤ latest_time
  pub span : flagged 16 l ≡ true → l.interval ≤ most_seconds

pub record Invariant (T k n : ℕ) (lim : ℕ → Limits) (met : ℕ → Meters) (opn : ℕ → Open) (us : List Use) : Type 0 where
  pub opens : (p : ℕ) → opn p ≡ held_in T p us
  pub meters : (i : ℕ) → met i ≡ figures (λ _. T) us i (lim i)
  pub tidy : Tidy T us
  pub sound : Every (Sound T k n lim) us
  pub spans : Every (λ u. Spanned (earliest u.entry us) (lim u.entry) u) us
  pub within : (i : ℕ) → Within (lim i) (met i)

-- ## Settling

abbrev pub released_m : ℕ → (ℕ → Limits) → ℕ → Open → (ℕ → Meters) → ℕ → Meters
released_m T lim q o met = cond (expired T o) (upd o.entry (ended q o.begin o.until o.until (lim o.entry) (met o.entry))
    met) met

abbrev pub shut_o : ℕ → Open → Open
shut_o T o = cond (expired T o) closed o

pub within-ended : (p b u e : ℕ) (l : Limits) (m : Meters) → Within l m → Within l (ended p b u e l m)
unfolding ended
within-ended p b u e l m w = record {
  count = w.count;
  timed = λ f. omega (arith, w.timed f);
  seconds = λ f. omega (arith, w.seconds f);
  together = λ f. omega (arith, w.together f, ones-off p m.marks);
}

abbrev pub held_as : Use → Open
held_as u = record { on = 1; entry = u.entry; begin = u.begin; until = u.until; content = u.content }

-- what is open, by the player's latest use
pub held-cases : {P : Type 0} (T p : ℕ) (us : List Use) (o : Open) → o ≡ held_in T p us →
    (o ≡ closed → ((u : Use) → latest p us ≡ some u → is_open T u ≡ false) → P) →
    ((u : Use) → latest p us ≡ some u → is_open T u ≡ true → o ≡ held_as u → P) → P
held-cases {P} T p us o e shut open₁ = go (latest p us) refl
  where
    go : (s : Option Use) → latest p us ≡ s → P
    go none q = shut (e ∙ rw q refl) (λ u z. absurd (none-ne-some u (sym q ∙ z)))
    go (some u) q =
        on_test (is_open T u)
        (λ z. open₁ u q z (e ∙ rw (q, z) refl))
        (λ z. shut (e ∙ rw (q, z) refl) (λ v y. cc))

pub open-still : (S T : ℕ) (u : Use) → is_open S u ≡ true → T < u.until → is_open T u ≡ true
unfolding is_open
open-still S T u e h = and_both (and_left (not u.stopped) (ltb S u.until) e) (lt-ltb T u.until h)

pub open-over : (T : ℕ) (u : Use) → u.until ≤ T → is_open T u ≡ false
unfolding is_open
open-over T u h = rw (le-ltb T u.until h) (and-false (not u.stopped))

module _ (S T : ℕ) (lim : ℕ → Limits) (us : List Use) (later : S ≤ T) (tidy : Tidy S us) where
  -- player q's use is settled
  pub release-meters : (q : ℕ) (o : Open) (met : ℕ → Meters) → o ≡ held_in S q us →
      ((i : ℕ) → met i ≡ figures (stage S T q) us i (lim i))
      → (i : ℕ) → released_m T lim q o met i ≡ figures (stage S T (suc q)) us i (lim i)
  unfolding expired
  release-meters q o met e m i =
      held-cases S q us o e
      (λ c g. rw c (m i ∙ sym (settle-nobody S T q us (lim i) later tidy i g)))
      (λ u s z c.
      rw c
      (on_test (leb u.until T)
      (λ y. rw y
      (on_same i u.entry
      (λ x. rw x (upd_same u.entry _ met ∙ rw (m u.entry)
      (sym (settle-ended S T q us (lim u.entry) later tidy u s z (open-over T u (leb-true u.until T y))))))
      (λ x. upd_other u.entry _ met i x ∙ m i ∙ sym (settle_other S T q us (lim i) later tidy i u s (λ w. x (sym w))))))
      (λ y. rw y (m i ∙ sym (settle-open S T q us (lim i) later tidy i u s z (open-still S T u z (leb-false u.until T y)))))))

  pub release-within : (q : ℕ) (o : Open) (met : ℕ → Meters) → ((i : ℕ) → Within (lim i) (met i)) → (i : ℕ) → Within (lim i)
      (released_m T lim q o met i)
  release-within q o met w i =
      on_test (expired T o)
      (λ y. rw y
      (on_same i o.entry
      (λ x. rw x (rw (upd_same o.entry (ended q o.begin o.until o.until (lim o.entry) (met o.entry)) met)
      (within-ended q o.begin o.until o.until (lim o.entry) (met o.entry) (w o.entry))))
      (λ x. rw (upd_other o.entry (ended q o.begin o.until o.until (lim o.entry) (met o.entry)) met i x) (w i))))
      (λ y. rw y (w i))

  pub shut-opens : (p : ℕ) (o : Open) → o ≡ held_in S p us → shut_o T o ≡ held_in T p us
  unfolding expired
  shut-opens p o e =
      held-cases S p us o e
      (λ c g. rw c (go (latest p us) refl g))
      (λ u s z c. rw (c, s)
      (on_test (leb u.until T)
      (λ y. rw (y, open-over T u (leb-true u.until T y)))
      (λ y. rw (y, open-still S T u z (leb-false u.until T y)))))
    where
      go : (r : Option Use) → latest p us ≡ r → ((u : Use) → latest p us ≡ some u → is_open S u ≡ false) → closed ≡ held_by T r
      go none q g = refl
      go (some u) q g = rw (open-falls S T u later (g u q))

-- ## When the interval began

pub earliest-more : (j : ℕ) (v : Use) (us : List Use) → is_some (earliest j us) ≡ true → is_some (earliest j (v ∷ us)) ≡ true
unfolding earliest
earliest-more j v us e = on_test (eqb v.entry j) (λ q. rw q) (λ q. rw q e)

pub all-earliest : (us : List Use) → Every (λ u. is_some (earliest u.entry us) ≡ true) us
unfolding earliest
all-earliest [] = tt
all-earliest (v ∷ us) = (rw (eqb-self v.entry), all_map (λ u h. earliest-more u.entry v us h) us (all-earliest us))

-- a use that begins no earlier than the others moves no interval
pub earliest-new : (j : ℕ) (v : Use) (us : List Use) → Every (λ u. u.begin ≤ v.begin) us → is_some (earliest j us) ≡ true → start_or 0
    (earliest j (v ∷ us)) ≡ start_or 0 (earliest j us)
unfolding earliest
earliest-new j v us h e =
    on_test (eqb v.entry j)
    (λ q. rw q (go (earliest j us) refl e))
    (λ q. rw q)
  where
    go : (s : Option ℕ) → earliest j us ≡ s → is_some s ≡ true → sooner v.begin s ≡ start_or 0 s
    go none z y = clash y refl
    go (some c) z y = omega (arith, earliest-le v.begin j us c h z)

-- the book's first-use time is the ledger's, if an interval is flagged and started
pub from-started : (T : ℕ) (at : ℕ → ℕ) (us : List Use) (i : ℕ) (l : Limits) → flagged 16 l ≡ true → is_some (earliest i us) ≡ true →
    interval_from T (figures at us i l) ≡ start_or 0 (earliest i us)
unfolding figures
from-started T at us i l f e = rw (f, e) refl

-- and if it begins now
pub from-new : (T : ℕ) (at : ℕ → ℕ) (us : List Use) (i : ℕ) (l : Limits) → Every (λ u. u.begin ≤ T) us → flagged 16 l ≡ true →
    interval_from T (figures at us i l) ≡ sooner T (earliest i us)
unfolding figures
from-new T at us i l h f = rw (f, one-is (is_some (earliest i us))) (go (earliest i us) refl)
  where
    go : (s : Option ℕ) → earliest i us ≡ s → cond (is_some s) (start_or 0 s) T ≡ sooner T s
    go none z = refl
    go (some c) z = omega (arith, earliest-le T i us c h z)

-- ## Three caps on a time

module _ (f g h : Bool) (a b c d : ℕ) where
  unfoldable pub caps : ℕ
  caps = cap f a (cap g b (cap h c d))

  pub caps-le : caps ≤ d
  unfolding caps
  caps-le = omega (arith, cap-le f a (cap g b (cap h c d)), cap-le g b (cap h c d), cap-le h c d)

  pub caps-first : f ≡ true → caps ≤ a
  unfolding caps
  caps-first e = cap-at f a (cap g b (cap h c d)) e

  pub caps-second : g ≡ true → caps ≤ b
  unfolding caps
  caps-second e = omega (arith, cap-le f a (cap g b (cap h c d)), cap-at g b (cap h c d) e)

  pub caps-third : h ≡ true → caps ≤ c
  unfolding caps
  caps-third e = omega (arith, cap-le f a (cap g b (cap h c d)), cap-le g b (cap h c d), cap-at h c d e)

  pub caps-ge : (t : ℕ) → (f ≡ true → t ≤ a) → (g ≡ true → t ≤ b) → (h ≡ true → t ≤ c) → t ≤ d → t ≤ caps
  unfolding caps
  caps-ge t x y z w = cap-ge f a (cap g b (cap h c d)) t (cap-ge g b (cap h c d) t (cap-ge h c d t w z) y) x

-- ## A player's latest use is revised

module _ {T k n : ℕ} {lim : ℕ → Limits} {met : ℕ → Meters} {opn : ℕ → Open} {us : List Use} (h : Invariant T k n lim met opn us) (p : ℕ)
    (u : Use) (s : latest p us ≡ some u) (o : is_open T u ≡ true) where
  pub own-sound : Sound T k n lim u
  own-sound = all-latest (Sound T k n lim) p us u s h.sound

  pub own-span : Spanned (earliest u.entry us) (lim u.entry) u
  own-span = all-latest (λ v. Spanned (earliest v.entry us) (lim v.entry) v) p us u s h.spans

  pub own-started : is_some (earliest u.entry us) ≡ true
  own-started = all-latest (λ v. is_some (earliest v.entry us) ≡ true) p us u s (all-earliest us)

  module _ (f : Use → Use) (keeps : Kept f) (g : Limits → Meters → Meters) (o' : Open) where
    pub revised : o' ≡ held_by T (some (f u)) →
        figures (λ _. T) (revise p f us) u.entry (lim u.entry) ≡ g (lim u.entry)
        (figures (λ _. T) us u.entry (lim u.entry)) →
        Sound T k n lim (f u) → Spanned (earliest (f u).entry us) (lim (f u).entry) (f u) → Within (lim u.entry)
        (g (lim u.entry) (met u.entry)) →
        Invariant T k n lim (upd u.entry (g (lim u.entry) (met u.entry)) met) (upd p o' opn) (revise p f us)
    revised eo ef so sp wi = record {
      opens = λ q.
          on_same q p
          (λ x. rw x (upd_same p o' opn ∙ eo ∙ rw (latest-revise f keeps p us u s)))
          (λ x. upd_other p o' opn q x ∙ h.opens q ∙ rw (latest-revise-other f keeps p q x us));
      meters = λ i.
          on_same i u.entry
          (λ x. rw x (upd_same u.entry (g (lim u.entry) (met u.entry)) met ∙ rw (h.meters u.entry) (sym ef)))
          (λ x. upd_other u.entry (g (lim u.entry) (met u.entry)) met i x ∙ h.meters i ∙ sym
          (figures-other (λ _. T) us (lim i) f keeps p u s i (λ w. x (sym w))));
      tidy = tidy-revise T p f keeps us h.tidy;
      sound = all-revise {P = Sound T k n lim} p f us (λ v e w. let q : u ≡ v = cc in rw (← q) so) h.sound;
      spans =
          all-revise {P = λ v. Spanned (earliest v.entry (revise p f us)) (lim v.entry) v} p f us
          (λ v e w. let q : u ≡ v = cc in rw (← q) (rw (earliest-revise f keeps (f u).entry p us) sp))
          (all_map (λ v w. rw (earliest-revise f keeps v.entry p us) w) us h.spans);
      within = λ i.
          on_same i u.entry
          (λ x. rw x (rw (upd_same u.entry (g (lim u.entry) (met u.entry)) met) wi))
          (λ x. rw (upd_other u.entry (g (lim u.entry) (met u.entry)) met i x) (h.within i));
    }

  pub stopped-held : Invariant T k n lim (upd u.entry (ended p u.begin u.until T (lim u.entry) (met u.entry)) met)
      (upd p closed opn) (revise p (stop_at T) us)
  stopped-held =
      revised (stop_at T) (stop_at-keeps T) (ended p u.begin u.until T) closed
      (rw (stopped-shut T T u))
      (figures-ended (λ _. T) us (lim u.entry) p u T s o own-sound.begun (omega (arith, open-until T u o)))
      (record {
        entry = own-sound.entry;
        player = own-sound.player;
        begun = own-sound.begun;
        ordered = own-sound.begun;
        near = omega arith;
        dates = record {
          from = own-sound.dates.from;
          upto = own-sound.dates.upto;
          last = λ f. omega
              (arith, own-sound.dates.last f, open-until T u o);
        };
        allows = own-sound.allows;
      })
      (record { from = own-span.from; last = λ f. omega (arith, own-span.last f, open-until T u o) })
      (within-ended p u.begin u.until T (lim u.entry) (met u.entry) (h.within u.entry))

  module _ (v : ℕ) (ev : v ≡ more_until T u.until (lim u.entry) (met u.entry)) where
    -- the interval's first-use time, as the book has it
    own-from : flagged 16 (lim u.entry) ≡ true → interval_from T (met u.entry) ≡ start_or 0 (earliest u.entry us)
    own-from f = rw (h.meters u.entry) (from-started T (λ _. T) us u.entry (lim u.entry) f own-started)

    more-eq : v ≡ caps (flagged 8 (lim u.entry)) (flagged 16 (lim u.entry)) (flagged 32 (lim u.entry))
        ((lim u.entry).end + 1) (interval_from T (met u.entry) + (lim u.entry).interval)
        (u.until + ((lim u.entry).accumulated - (met u.entry).seconds)) (T + grant_length (lim u.entry).kind)
    unfolding more_until least_until caps
    more-eq = ev

    pub more-ge : u.until ≤ v
    more-ge = rw more-eq (caps-ge _ _ _ _ _ _ _ u.until own-sound.dates.last (λ f. omega (arith, own-from f, own-span.last f))
        (λ f. omega arith) own-sound.near)

    pub more-near : v ≤ T + grant_length (lim u.entry).kind
    more-near = rw more-eq (caps-le _ _ _ _ _ _ _)

    more-last : flagged 8 (lim u.entry) ≡ true → v ≤ (lim u.entry).end + 1
    more-last f = rw more-eq (caps-first _ _ _ _ _ _ _ f)

    more-span : flagged 16 (lim u.entry) ≡ true → v ≤ start_or 0 (earliest u.entry us) + (lim u.entry).interval
    more-span f = rw (← own-from f, more-eq) (caps-second _ _ _ _ _ _ _ f)

    more-seconds : flagged 32 (lim u.entry) ≡ true → v ≤ u.until + ((lim u.entry).accumulated - (met u.entry).seconds)
    more-seconds f = rw more-eq (caps-third _ _ _ _ _ _ _ f)

    within-continued : Within (lim u.entry) (continued u.until v (lim u.entry) (met u.entry))
    unfolding continued
    within-continued = record {
      count = (h.within u.entry).count;
      timed = (h.within u.entry).timed;
      seconds = λ f. rw f (omega (arith, (h.within u.entry).seconds f, more-seconds f));
      together = (h.within u.entry).together;
    }

    pub continued-held : Invariant T k n lim (upd u.entry (continued u.until v (lim u.entry) (met u.entry)) met)
        (upd p (record { on = 1; entry = u.entry; begin = u.begin; until = v; content = u.content }) opn) (revise p (go_on v) us)
    continued-held =
        revised (go_on v) (go_on-keeps v) (continued u.until v) (record {
          on = 1;
          entry = u.entry;
          begin = u.begin;
          until = v;
          content
              = u.content;
        })
        (rw (open-on T v u more-ge o))
        (figures-continued (λ _. T) us (lim u.entry) p u v s o own-sound.ordered more-ge)
        (record {
          entry = own-sound.entry;
          player = own-sound.player;
          begun = own-sound.begun;
          ordered = omega (arith, own-sound.ordered, more-ge);
          near = more-near;
          dates = record { from = own-sound.dates.from; upto = own-sound.dates.upto; last = more-last };
          allows = own-sound.allows;
        })
        (record { from = own-span.from; last = more-span })
        within-continued

-- ## A grant

-- a grant lasts at least a second
pub length-pos : (kind : ℕ) → 0 < grant_length kind
unfolding grant_length
length-pos kind = omega arith

-- and at most 300
pub grant-most : (kind : ℕ) → grant_length kind ≤ 300
unfolding grant_length
grant-most kind = omega arith

module _ (ask : Ask) (l : Limits) (m : Meters) (ok : grantable ask l m ≡ true) where
  abbrev T : ℕ
  T = ask.time

  tests : Fail (ground_list (grounds_of ask l m))
  unfolding grantable
  tests = none_pass (ground_list (grounds_of ask l m)) ok

  pub grant-count : flagged 1 l ≡ true → m.count < l.count
  unfolding grounds_of
  grant-count f = ltb-true m.count l.count (passes (flagged 1 l) _ tests.0 f)

  pub grant-timed : flagged 2 l ≡ true → m.timed < l.timed
  unfolding grounds_of
  grant-timed f = ltb-true m.timed l.timed (passes (flagged 2 l) _ tests.1.0 f)

  pub grant-start : flagged 4 l ≡ true → l.start ≤ T
  unfolding grounds_of
  grant-start f = leb-true l.start T (passes (flagged 4 l) _ tests.1.1.0 f)

  pub grant-end : flagged 8 l ≡ true → T ≤ l.end
  unfolding grounds_of
  grant-end f = leb-true T l.end (passes (flagged 8 l) _ tests.1.1.1.0 f)

  grant-span : flagged 16 l ≡ true → 0 < l.interval
  unfolding grounds_of
  grant-span f = ltb-true 0 l.interval (passes (flagged 16 l) _ tests.1.1.1.1.1.1.0 f)

  pub grant-from : flagged 16 l ≡ true → T < interval_from T m + l.interval
  unfolding grounds_of
  grant-from f = go (is_started m) (passes (flagged 16 l) _ tests.1.1.1.1.0 f)
    where
      go : (s : Bool) → (not s || ltb T (m.first + l.interval)) ≡ true → T < cond s m.first T + l.interval
      go true e = ltb-true T (m.first + l.interval) e
      go false e = omega (arith, grant-span f)

  pub grant-seconds : flagged 32 l ≡ true → m.seconds < l.accumulated
  unfolding grounds_of
  grant-seconds f = ltb-true m.seconds l.accumulated (passes (flagged 32 l) _ tests.1.1.1.1.1.0 f)

  pub grant-room : (l.threshold ≡ 0 → ⊥) → ones m.marks < l.threshold
  unfolding grounds_of
  grant-room f =
      ltb-true (ones m.marks) l.threshold
      (passes (not (eqb l.threshold 0)) _ tests.1.1.1.1.1.1.1.1.0 (ap not (ne_eqb l.threshold 0 f)))

  -- a limit of 0 is never granted
  pub grant-allows : ZeroLimit l → ⊥
  grant-allows (zero-count f z) = absurd (omega (arith, grant-count f))
  grant-allows (zero-timed f z) = absurd (omega (arith, grant-timed f))
  grant-allows (zero-interval f z) = absurd (omega (arith, grant-span f))
  grant-allows (zero-accumulated f z) = absurd (omega (arith, grant-seconds f))

  abbrev grant_caps : ℕ
  grant_caps = caps (flagged 8 l) (flagged 16 l) (flagged 32 l) (l.end + 1) (interval_from T m + l.interval)
      (T + (l.accumulated - m.seconds)) (T + grant_length l.kind)

  pub until-now : momentary l.kind ≡ true → grant_until T l m ≡ T
  unfolding grant_until
  until-now e = rw e

  until-caps : momentary l.kind ≡ false → grant_until T l m ≡ grant_caps
  unfolding grant_until least_until caps
  until-caps e = rw e

  pub until-after : momentary l.kind ≡ false → T < grant_until T l m
  until-after e =
      rw (until-caps e)
      (caps-ge (flagged 8 l) (flagged 16 l) (flagged 32 l) (l.end + 1) (interval_from T m + l.interval)
      (T + (l.accumulated - m.seconds)) (T + grant_length l.kind) (suc T)
      (λ f. omega (arith, grant-end f)) grant-from (λ f. omega (arith, grant-seconds f)) (omega (arith, length-pos l.kind)))

  pub until-from : T ≤ grant_until T l m
  until-from = on_test (momentary l.kind) (λ e. omega (arith, until-now e)) (λ e. omega (arith, until-after e))

  pub until-near : grant_until T l m ≤ T + grant_length l.kind
  until-near = on_test (momentary l.kind) (λ e. omega (arith, until-now e)) (λ e. rw (until-caps e) (caps-le _ _ _ _ _ _ _))

  pub until_end : flagged 8 l ≡ true → grant_until T l m ≤ l.end + 1
  until_end f = on_test (momentary l.kind) (λ e. omega (arith, until-now e, grant-end f))
      (λ e. rw (until-caps e) (caps-first _ _ _ _ _ _ _ f))

  pub until-span : flagged 16 l ≡ true → grant_until T l m ≤ interval_from T m + l.interval
  until-span f = on_test (momentary l.kind) (λ e. omega (arith, until-now e, grant-from f))
      (λ e. rw (until-caps e) (caps-second _ _ _ _ _ _ _ f))

  pub until-seconds : flagged 32 l ≡ true → grant_until T l m ≤ T + (l.accumulated - m.seconds)
  until-seconds f = on_test (momentary l.kind) (λ e. omega (arith, until-now e)) (λ e. rw (until-caps e) (caps-third _ _ _ _ _ _ _ f))

  pub within-begun : (p : ℕ) → Within l (begun p T (grant_until T l m) l m)
  unfolding begun
  within-begun p = record {
    count = λ f. rw f (omega (arith, grant-count f));
    timed = λ f. rw f (omega (arith, grant-timed f));
    seconds = λ f. rw f (omega (arith, grant-seconds f, until-seconds f));
    together = λ f.
        on_test (momentary l.kind)
        (λ e. rw e (omega (arith, grant-room f)))
        (λ e. rw e (omega (arith, grant-room f, ones-on p m.marks)));
  }

module _ (ask : Ask) {k n : ℕ} {lim : ℕ → Limits} {met : ℕ → Meters} {opn : ℕ → Open} {us : List Use}
    (h : Invariant ask.time k n lim met opn us)
    (pk : ask.player < k) (nobody : (u : Use) → latest ask.player us ≡ some u → is_open ask.time u ≡ false)
    (i : ℕ) (ni : i < n) (ok : grantable ask (lim i) (met i) ≡ true) (lawful : Lawful (lim i)) (asset : ℕ) where
  abbrev now : ℕ
  now = ask.time

  abbrev who : ℕ
  who = ask.player

  abbrev pub new_use : Use
  new_use = record { entry = i; player = who; begin = now; until = grant_until now (lim i) (met i); stopped = false; content = asset }

  abbrev pub new_open : Open
  new_open = cond (momentary (lim i).kind) closed
      (record { on = 1; entry = i; begin = now; until = grant_until now (lim i) (met i); content = asset })

  begins : Every (λ u. u.begin ≤ now) us
  begins = all_map (λ u w. w.begun) us h.sound

  new-runs : is_open now new_use ≡ not (momentary (lim i).kind)
  unfolding is_open
  new-runs =
      on_test (momentary (lim i).kind)
      (λ e. rw (e, le-ltb now (grant_until now (lim i) (met i)) (omega (arith, until-now ask (lim i) (met i) ok e))))
      (λ e. rw (e, lt-ltb now (grant_until now (lim i) (met i)) (until-after ask (lim i) (met i) ok e)))

  new-held : new_open ≡ held_by now (some new_use)
  new-held = rw new-runs (on_test (momentary (lim i).kind) (λ e. rw e) (λ e. rw e))

  new-timed : counts_timed (λ _. now) (lim i).timer i new_use ≡ 1
  unfolding is_open
  new-timed =
      on_test (momentary (lim i).kind)
      (λ e.
      let z : leb (lim i).timer (ran new_use) ≡ true = le-leb (lim i).timer (ran new_use) (omega (arith, lawful.timer e)) in
      rw (eqb-self i, z, or-true (ltb now (grant_until now (lim i) (met i)))))
      (λ e. rw (eqb-self i, lt-ltb now (grant_until now (lim i) (met i)) (until-after ask (lim i) (met i) ok e)))

  new-span : Spanned (earliest i (new_use ∷ us)) (lim i) new_use
  unfolding earliest
  new-span = record {
    from = λ f. rw (eqb-self i, ← from-new now (λ _. now) us i (lim i) begins f, ← h.meters i)
        (grant-from ask (lim i) (met i) ok f);
    last = λ f. rw (eqb-self i, ← from-new now (λ _. now) us i (lim i) begins f, ← h.meters i)
        (until-span ask (lim i) (met i) ok f);
  }

  pub begun-held : Invariant now k n lim (upd i (begun who now (grant_until now (lim i) (met i)) (lim i) (met i)) met) (upd who new_open opn)
      (new_use ∷ us)
  begun-held = record {
    opens = λ q.
        on_same q who
        (λ x. rw x (upd_same who new_open opn ∙ new-held ∙ rw (latest-new new_use us)))
        (λ x. upd_other who new_open opn q x ∙ h.opens q ∙ rw (latest-new-other q new_use us (λ w. x (sym w))));
    meters = λ j.
        on_same j i
        (λ x. rw x (upd_same i (begun who now (grant_until now (lim i) (met i)) (lim i) (met i)) met ∙ ap
        (begun who now (grant_until now (lim i) (met i)) (lim i)) (h.meters i) ∙ sym
        (figures-begun (λ _. now) us (lim i) new_use begins new-timed nobody new-runs)))
        (λ x. upd_other i (begun who now (grant_until now (lim i) (met i)) (lim i) (met i)) met j x ∙ h.meters j ∙ sym
        (figures-new-other (λ _. now) us (lim j) new_use nobody j (λ w. x (sym w))));
    tidy = (all-shut now who us h.tidy nobody, h.tidy);
    sound = (
      record {
        entry = ni;
        player = pk;
        begun = omega arith;
        ordered = until-from ask (lim i) (met i) ok;
        near = until-near ask (lim i) (met i) ok;
        dates = record {
          from = grant-start ask (lim i) (met i) ok;
          upto = grant-end ask (lim i) (met i) ok;
          last =
              until_end ask (lim i) (met i) ok;
        };
        allows = grant-allows ask (lim i) (met i) ok;
      },
      h.sound,
    );
    spans = (
      new-span,
      all_both (λ u w z. record {
        from = λ f. rw (earliest-new u.entry new_use us begins z) (w.from f);
        last = λ f.
            rw (earliest-new u.entry new_use us begins z) (w.last f);
      }) us h.spans (all-earliest us),
    );
    within = λ j.
        on_same j i
        (λ x. rw x (rw (upd_same i (begun who now (grant_until now (lim i) (met i)) (lim i) (met i)) met)
        (within-begun ask (lim i) (met i) ok who)))
        (λ x. rw (upd_other i (begun who now (grant_until now (lim i) (met i)) (lim i) (met i)) met j x) (h.within j));
  }

-- ## The newest use is taken back

within-cancelled : (p : ℕ) (r : Recent) (b u : ℕ) (l : Limits) (m : Meters) → Within l m → Within l (cancelled p r b u l m)
unfolding cancelled
within-cancelled p r b u l m h = record {
  count = λ f. omega (arith, h.count f);
  timed = λ f. omega (arith, h.timed f);
  seconds = λ f. omega (arith, h.seconds f);
  together = λ f. omega (arith, h.together f, ones-off p m.marks);
}

module _ {T k n : ℕ} {lim : ℕ → Limits} {met : ℕ → Meters} {opn : ℕ → Open} {us : List Use} (u : Use)
    (h : Invariant T k n lim met opn (u ∷ us)) (begins : Every (λ v. v.begin ≤ u.begin) us) (o : is_open T u ≡ true)
    (r : Recent) (e : r.started ≡ (flagged 16 (lim u.entry) && not (is_some (earliest u.entry us)))) where
  abbrev back : Meters
  back = cancelled u.player r u.begin u.until (lim u.entry) (met u.entry)

  -- the player's earlier uses have ended
  earlier-shut : (v : Use) → latest u.player us ≡ some v → is_open T v ≡ false
  earlier-shut v q = all-latest (ShutFor T u.player) u.player us v q h.tidy.0 (latest-player u.player us v q)

  nothing-held : (r : Option Use) → latest u.player us ≡ r → closed ≡ held_by T r
  nothing-held none q = refl
  nothing-held (some v) q = rw (earlier-shut v q)

  pub cancelled-held : Invariant T k n lim (upd u.entry back met) (upd u.player closed opn) us
  cancelled-held = record {
    opens = λ q.
        on_same q u.player
        (λ x. rw x (upd_same u.player closed opn ∙ nothing-held (latest u.player us) refl))
        (λ x. upd_other u.player closed opn q x ∙ h.opens q ∙ rw (latest-new-other q u us (λ z. x (sym z))));
    meters = λ i.
        on_same i u.entry
        (λ x. rw x
        (upd_same u.entry back met
        ∙ ap (cancelled u.player r u.begin u.until (lim u.entry)) (h.meters u.entry)
        ∙ sym (figures-cancelled (λ _. T) us (lim u.entry) u begins o earlier-shut r e)))
        (λ x. upd_other u.entry back met i x ∙ h.meters i
        ∙ figures-new-other (λ _. T) us (lim i) u earlier-shut i (λ z. x (sym z)));
    tidy = h.tidy.1;
    sound = h.sound.1;
    spans =
        all_both (λ v x z. record {
          from = λ f. rw (← earliest-new v.entry u us begins z) (x.from f);
          last = λ f. rw (← earliest-new v.entry u us begins z) (x.last f);
        }) us h.spans.1 (all-earliest us);
    within = λ i.
        on_same i u.entry
        (λ x. rw x (rw (upd_same u.entry back met)
        (within-cancelled u.player r u.begin u.until (lim u.entry) (met u.entry) (h.within u.entry))))
        (λ x. rw (upd_other u.entry back met i x) (h.within i));
  }
