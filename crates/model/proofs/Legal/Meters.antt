-- What a begin, a continue, the end of a use and a cancel do to the meters and to the open uses: the rules on both still hold.
use mathlib.Core.Path.{◌≡◌, refl, sym, ap, ◌∙◌, subst}
use Prim.Native.Nat.{ℕ, suc, ◌+◌, ◌-◌, ◌≤◌, ◌<◌}
use mathlib.Core.Bool.{Bool, true, false, ◌&&◌, cond, not}
use lib.Dec.{ltb, eqb}
use native.Mathlib.Omega.{arith}
use borrow.Author.Tests.{eq-eqb, ne_eqb}
use Rattle.numbers.specs.Count.{one}
use Rattle.book.specs.declared.Limits.{Limits}
use Rattle.book.specs.declared.Meters.{Meters}
use Rattle.book.specs.declared.Open.{Open}
use Rattle.book.specs.declared.Recent.{Recent}
use Rattle.book.specs.declared.Ask.{Ask}
use Rattle.book.specs.Blank.{closed}
use Rattle.model.specs.Book.{grant_length, between, flagged, momentary, opens, is_group}
use Rattle.model.specs.Meters.{where_flagged, is_started, interval_from, begun, continued, ended, cancelled, is_on}
use Rattle.model.specs.Choice.{grantable, least_until, grant_until, more_until}
use Rattle.model.proofs.Ledger.Facts.{on_test, on_same, clash, cond-on, cond-off, flag-le, upd, upd_same, upd_other}
use Rattle.model.proofs.Legal.Facts.{sum-none, sum-upd}
use Rattle.model.proofs.Ledger.Invariant.{length-pos, grant-most, caps, caps-le, caps-first, caps-second, caps-third, caps-ge}
use Rattle.model.proofs.Ledger.Invariant.{grant-count, grant-timed, grant-start, grant-end, grant-from, grant-seconds, grant-room}
use Rattle.model.proofs.Legal.Rules.{MeterOk, UseOk, OpenOk, use_in, seconds_in, uses_of, seconds_of, Sound, marks_in}
use Rattle.numbers.specs.Bits.{ones, put_bit}
use Rattle.numbers.proofs.BitLaws.{mask-same, mask-put, ones-off, ones-on, one-le}

-- ## One player's use and one entry's meters change

-- the seconds of a use; 0 where nothing is open
abbrev pub ran : Open → ℕ
ran o = cond (is_on o) (o.until - o.begin) 0

module _ (i : ℕ) (o : Open) (own : is_on o ≡ true → o.entry ≡ i) where
  own-opens : opens i o ≡ is_on o
  unfolding opens
  own-opens = on_test (is_on o) (λ q. rw (q, eq-eqb o.entry i (own q))) (λ q. rw q)

  own-use : use_in i o ≡ one (is_on o)
  own-use = ap one own-opens

  own-seconds : seconds_in i o ≡ ran o
  unfolding opens
  own-seconds = on_test (is_on o) (λ q. rw (q, eq-eqb o.entry i (own q))) (λ q. rw q)

  opens_not : (j : ℕ) → (j ≡ i → ⊥) → opens j o ≡ false
  unfolding opens
  opens_not j x = on_test (is_on o) (λ q. rw (q, ne_eqb o.entry j (λ z. x (sym z ∙ own q)))) (λ q. rw q)

  other-use : (j : ℕ) → (j ≡ i → ⊥) → use_in j o ≡ 0
  other-use j x = ap one (opens_not j x)

  other-seconds : (j : ℕ) → (j ≡ i → ⊥) → seconds_in j o ≡ 0
  other-seconds j x = cond-off (opens j o) _ _ (opens_not j x)

-- a mark set to what it is
marked-so : (opn : ℕ → Open) (p j : ℕ) (v : Bool) → opens j (opn p) ≡ v → put_bit p v (marks_in opn j) ≡ marks_in opn j
marked-so opn p j v e =
    ap (λ (w : Bool). put_bit p w (marks_in opn j)) (sym e) ∙ mask-put (λ q. opens j (opn q)) (λ q. opens j (opn q)) p (λ q d. refl)

-- an interval that has started stays unchanged
abbrev pub Stays : Limits → Meters → Meters → Type 0
Stays l m m' = flagged 16 l ≡ true → m.started ≡ 1 → (m'.started ≡ 1) × (m'.first ≡ m.first)

use-stays : (T n : ℕ) (l : Limits) (m m' : Meters) (o : Open) → Stays l m m' → UseOk T n l m o → UseOk T n l m' o
use-stays T n l m m' o k u = record {
  begun = u.begun;
  near = u.near;
  entry = u.entry;
  kind = u.kind;
  from = u.from;
  last = u.last;
  started = λ f. (k f (u.started f)).0;
  since = λ f. omega (arith, (k f (u.started f)).1, u.since f);
  span = λ f. omega (arith, (k f (u.started f)).1, u.span f);
}

module _ {T n : ℕ} {lim : ℕ → Limits} {met : ℕ → Meters} {opn : ℕ → Open} (h : Sound T n lim met opn) (p i : ℕ) (m' : Meters)
    (o' : Open) where
  -- what the change must respect
  pub record Change : Type 0 where
    pub player : p < 16
    pub entry : i < n
    pub before : is_on (opn p) ≡ true → (opn p).entry ≡ i
    pub after : is_on o' ≡ true → o'.entry ≡ i
    -- asked for each use of the entry that stays open: a cancel may unstart the interval where there is none
    pub stays : (q : ℕ) → (q ≡ p → ⊥) → is_on (opn q) ≡ true → (opn q).entry ≡ i → Stays (lim i) (met i) m'
    pub shut : is_on o' ≡ false → o' ≡ closed
    pub runs : is_on o' ≡ true → UseOk T n (lim i) m' o'
    pub meter : (k s : ℕ) → k + one (is_on (opn p)) ≡ uses_of opn i + one (is_on o') → s + ran (opn p) ≡ seconds_of opn i + ran o' → MeterOk
        T (lim i) m' k s (put_bit p (is_on o') (marks_in opn i))

  module _ (c : Change) where
    stays_at : (j : ℕ) → (j ≡ i → Stays (lim i) (met i) m') → Stays (lim j) (met j) (upd i m' met j)
    stays_at j g =
        on_same j i
        (λ x. rw (x, upd_same i m' met) (g x))
        (λ x. rw (upd_other i m' met j x) (λ f s. (s, refl)))

    opens_at : (q : ℕ) → OpenOk T n lim (upd i m' met) (upd p o' opn q)
    opens_at q =
        on_same q p
        (λ x. rw (x, upd_same p o' opn)
        (record {
          shut = c.shut;
          runs = λ on. subst (λ (j : ℕ). UseOk T n (lim j) (upd i m' met j) o') (sym (c.after on)) (rw (upd_same i m' met) (c.runs on));
        }))
        (λ x. rw (upd_other p o' opn q x)
        (record {
          shut = (h.opens q).shut;
          runs = λ on. use-stays T n (lim (opn q).entry) (met (opn q).entry) (upd i m' met (opn q).entry) (opn q)
              (stays_at (opn q).entry (c.stays q x on)) ((h.opens q).runs on);
        }))

    -- the marks of entry i follow player p's use, those of the others stay
    own-marks : marks_in (upd p o' opn) i ≡ put_bit p (is_on o') (marks_in opn i)
    own-marks =
        sym (mask-put (λ q. opens i (opn q)) (λ q. opens i (upd p o' opn q)) p (λ q d. ap (opens i) (upd_other p o' opn q d)))
        ∙ ap (λ (v : Bool). put_bit p v (marks_in opn i)) (ap (opens i) (upd_same p o' opn) ∙ own-opens i o' c.after)

    other-marks : (j : ℕ) → (j ≡ i → ⊥) → marks_in (upd p o' opn) j ≡ marks_in opn j
    other-marks j x =
        mask-same _ _ 16 (λ q k. on_same q p
        (λ e. rw (e, upd_same p o' opn) (opens_not i o' c.after j x ∙ sym (opens_not i (opn p) c.before j x)))
        (λ d. ap (opens j) (upd_other p o' opn q d)))

    meters-at : (j : ℕ) → j < n → MeterOk T (lim j) (upd i m' met j) (uses_of (upd p o' opn) j) (seconds_of (upd p o' opn) j)
        (marks_in (upd p o' opn) j)
    meters-at j k =
        on_same j i
        (λ x. rw (x, upd_same i m' met, own-marks)
        (c.meter (uses_of (upd p o' opn) i) (seconds_of (upd p o' opn) i)
        (omega (arith, sum-upd (use_in i) p o' opn 16 c.player, own-use i (opn p) c.before, own-use i o' c.after))
        (omega (arith, sum-upd (seconds_in i) p o' opn 16 c.player, own-seconds i (opn p) c.before, own-seconds i o' c.after))))
        (λ x.
        let a : uses_of (upd p o' opn) j ≡ uses_of opn j = omega
        (arith, sum-upd (use_in j) p o' opn 16 c.player, other-use i (opn p) c.before j x, other-use i o' c.after j x) in
        let b : seconds_of (upd p o' opn) j ≡ seconds_of opn j = omega (
          arith,
          sum-upd (seconds_in j) p o' opn 16 c.player,
          other-seconds i (opn p) c.before j x,
          other-seconds i o'
              c.after j x,
        ) in
        rw (upd_other i m' met j x, a, b, other-marks j x) (h.meters j k))

    pub changed : Sound T n lim (upd i m' met) (upd p o' opn)
    changed = record {
      opens = opens_at;
      meters = meters-at;
      blank = λ j k. upd_other i m' met j (λ x. omega (arith, c.entry)) ∙ h.blank j k;
    }

-- ## The end of a use

-- a use of player p that began at b, counted until u, ends at e
meter-ended : {T : ℕ} {l : Limits} {m : Meters} {K S X : ℕ} (p b u e : ℕ) → MeterOk T l m K S X → u - e ≤ u - b →
    (k s : ℕ) → k + 1 ≡ K → s + (u - b) ≡ S → MeterOk T l (ended p b u e l m) k s (put_bit p false X)
unfolding ended
meter-ended {l = l} {X = X} p b u e h g k s x y =
    let one-back = flag-le (flagged 2 l && ltb (e - b) l.timer) 1 in
    let seconds-back = flag-le (flagged 32 l) (u - e) in
    record {
      count = record { within = h.count.within; covers = λ f. omega (arith, h.count.covers f); unused = h.count.unused };
      timed = record {
        within = λ f. omega (arith, h.timed.within f);
        covers = λ f. omega (arith, one-back, h.timed.covers f);
        unused = λ f. omega (arith, h.timed.unused f);
      };
      seconds = record {
        within = λ f. omega (arith, h.seconds.within f);
        covers = λ f. omega
            (arith, seconds-back, h.seconds.covers f);
        unused = λ f. omega (arith, h.seconds.unused f);
      };
      mark = h.mark;
      unstarted = h.unstarted;
      unset = h.unset;
      past = h.past;
      marks = ap (put_bit p false) h.marks;
      together = λ f. omega (arith, h.together f, ones-off p X);
    }

module _ {T n : ℕ} {lim : ℕ → Limits} {met : ℕ → Meters} {opn : ℕ → Open} (h : Sound T n lim met opn) (p : ℕ) (pl : p < 16)
    (on : is_on (opn p) ≡ true) where
  abbrev o : Open
  o = opn p

  abbrev i : ℕ
  i = o.entry

  abbrev use₁ : UseOk T n (lim i) (met i) o
  use₁ = (h.opens p).runs on

  -- the meters cover the player's own use
  pub own-count : flagged 1 (lim i) ≡ true → 1 ≤ (met i).count
  unfolding opens
  own-count f =
      omega (
        arith,
        sum-upd (use_in i) p closed opn 16 pl,
        own-use i o (λ q. refl),
        ap one on,
        (h.meters i use₁.entry).count.covers f,
      )

  pub own-timed : flagged 2 (lim i) ≡ true → 1 ≤ (met i).timed
  unfolding opens
  own-timed f =
      omega (
        arith,
        sum-upd (use_in i) p closed opn 16 pl,
        own-use i o (λ q. refl),
        ap one on,
        (h.meters i use₁.entry).timed.covers f,
      )

  pub own-spent : flagged 32 (lim i) ≡ true → o.until - o.begin ≤ (met i).seconds
  unfolding opens
  own-spent f =
      omega (
        arith,
        sum-upd (seconds_in i) p closed opn 16 pl,
        own-seconds i o (λ q. refl),
        cond-on (is_on o) (o.until - o.begin) 0 on,
        (h.meters i use₁.entry).seconds.covers f,
      )

  -- its mark is set
  own-kept : put_bit p true (marks_in opn i) ≡ marks_in opn i
  own-kept = marked-so opn p i true (own-opens i o (λ q. refl) ∙ on)

  pub ended-sound : (e : ℕ) → o.until - e ≤ o.until - o.begin → Sound T n lim
      (upd i (ended p o.begin o.until e (lim i) (met i)) met) (upd p closed opn)
  unfolding ended
  ended-sound e g =
      changed h p i (ended p o.begin o.until e (lim i) (met i)) closed
      (record {
        player = pl;
        entry = use₁.entry;
        before = λ q. refl;
        after = λ q. clash q refl;
        stays = λ q d z same f s. (s, refl);
        shut = λ q. refl;
        runs = λ q. clash q refl;
        meter = λ k s x y.
            meter-ended p o.begin o.until e (h.meters i use₁.entry) g k s
            (omega (arith, x, ap one on)) (omega (arith, y, cond-on (is_on o) (o.until - o.begin) 0 on));
      })

-- ## A begin taken back

-- player p's use from b until u had been counted; r is what is known of its begin
meter-cancelled : {T : ℕ} {l : Limits} {m : Meters} {K S X : ℕ} (p : ℕ) (r : Recent) (b u : ℕ) → MeterOk T l m K S X →
    (k s : ℕ) → k + 1 ≡ K → s + (u - b) ≡ S → MeterOk T l (cancelled p r b u l m) k s (put_bit p false X)
unfolding cancelled
meter-cancelled {X = X} p r b u h k s x y = record {
  count = record {
    within = λ f. omega (arith, h.count.within f);
    covers = λ f. rw f (omega (arith, h.count.covers f));
    unused = λ f. omega (arith, h.count.unused f);
  };
  timed = record {
    within = λ f. omega (arith, h.timed.within f);
    covers = λ f. rw f (omega (arith, h.timed.covers f));
    unused = λ f. omega (arith, h.timed.unused f);
  };
  seconds = record {
    within = λ f. omega (arith, h.seconds.within f);
    covers = λ f. rw f (omega (arith, h.seconds.covers f));
    unused = λ f. omega (arith, h.seconds.unused f);
  };
  mark = on_test r.started (λ q. rw q (omega arith)) (λ q. rw q h.mark);
  unstarted = λ f. on_test r.started (λ q. rw q) (λ q. rw q (h.unstarted f));
  unset = on_test r.started (λ q. rw q (λ e. refl)) (λ q. rw q h.unset);
  past = on_test r.started (λ q. rw q (omega arith)) (λ q. rw q h.past);
  marks = ap (put_bit p false) h.marks;
  together = λ f. omega (arith, h.together f, ones-off p X);
}

-- no other player has the entry of player p's use open
abbrev pub Alone : (ℕ → Open) → ℕ → Type 0
Alone opn p = (q : ℕ) → (q ≡ p → ⊥) → is_on (opn q) ≡ true → (opn q).entry ≡ (opn p).entry → ⊥

module _ {T n : ℕ} {lim : ℕ → Limits} {met : ℕ → Meters} {opn : ℕ → Open} (h : Sound T n lim met opn) (p : ℕ) (pl : p < 16)
    (on : is_on (opn p) ≡ true) where
  abbrev o₂ : Open
  o₂ = opn p

  abbrev use₂ : UseOk T n (lim o₂.entry) (met o₂.entry) o₂
  use₂ = (h.opens p).runs on

  -- the interval may be unstarted where the use is the only open one
  pub cancelled-sound : (r : Recent) → (r.started ≡ true → Alone opn p) → Sound T n lim
      (upd o₂.entry (cancelled p r o₂.begin o₂.until (lim o₂.entry) (met o₂.entry)) met) (upd p closed opn)
  unfolding cancelled
  cancelled-sound r alone =
      changed h p o₂.entry (cancelled p r o₂.begin o₂.until (lim o₂.entry) (met o₂.entry)) closed
      (record {
        player = pl;
        entry = use₂.entry;
        before = λ q. refl;
        after = λ q. clash q refl;
        stays = λ q d z same f s. on_test r.started (λ e. absurd (alone e q d z same)) (λ e. rw e (s, refl));
        shut = λ q. refl;
        runs = λ q. clash q refl;
        meter = λ k s x y.
            meter-cancelled p r o₂.begin o₂.until (h.meters o₂.entry use₂.entry) k s
            (omega (arith, x, ap one on)) (omega (arith, y, cond-on (is_on o₂) (o₂.until - o₂.begin) 0 on));
      })

-- where an entry has one open use, it is alone
pub only-alone : (opn : ℕ → Open) (p : ℕ) → p < 16 → is_on (opn p) ≡ true → uses_of opn (opn p).entry ≡ 1 → (q : ℕ) → q < 16
    → (q ≡ p → ⊥) → is_on (opn q) ≡ true → (opn q).entry ≡ (opn p).entry → ⊥
unfolding opens
only-alone opn p pl on only q ql d z same =
    let i : ℕ = (opn p).entry in
    omega (
      arith,
      sum-upd (use_in i) p closed opn 16 pl,
      sum-upd (use_in i) q closed (upd p closed opn) 16 ql,
      ap (use_in i) (upd_other p closed opn q d),
      own-use i (opn p) (λ x. refl),
      own-use i (opn q) (λ x. same),
      ap one on,
      ap one z,
      only,
    )

-- ## Until

module _ (t from : ℕ) (l : Limits) (m : Meters) where
  least-near : least_until t from l m ≤ t + grant_length l.kind
  unfolding least_until caps
  least-near = caps-le (flagged 8 l) (flagged 16 l) (flagged 32 l) _ _ _ _

  least-last : flagged 8 l ≡ true → least_until t from l m ≤ l.end + 1
  unfolding least_until caps
  least-last f = caps-first (flagged 8 l) (flagged 16 l) (flagged 32 l) _ _ _ _ f

  least-span : flagged 16 l ≡ true → least_until t from l m ≤ interval_from t m + l.interval
  unfolding least_until caps
  least-span f = caps-second (flagged 8 l) (flagged 16 l) (flagged 32 l) _ _ _ _ f

  least-unused : flagged 32 l ≡ true → least_until t from l m ≤ from + (l.accumulated - m.seconds)
  unfolding least_until caps
  least-unused f = caps-third (flagged 8 l) (flagged 16 l) (flagged 32 l) _ _ _ _ f

  least-ge : (x : ℕ) → x ≤ t + grant_length l.kind → (flagged 8 l ≡ true → x ≤ l.end + 1) →
      (flagged 16 l ≡ true → x ≤ interval_from t m + l.interval) →
      (flagged 32 l ≡ true → x ≤ from + (l.accumulated - m.seconds)) → x ≤ least_until t from l m
  unfolding least_until caps
  least-ge x a b c d = caps-ge (flagged 8 l) (flagged 16 l) (flagged 32 l) _ _ _ _ x b c d a

since-first : (t : ℕ) (m : Meters) → m.started ≡ 1 → interval_from t m ≡ m.first
since-first t m e = cond-on (is_started m) m.first t (eq-eqb m.started 1 e)

-- ## Continue

meter-continued : {T : ℕ} {l : Limits} {m : Meters} {K S X : ℕ} (b u v : ℕ) → MeterOk T l m K S X → b ≤ u → u ≤ v →
    (flagged 32 l ≡ true → m.seconds + (v - u) ≤ l.accumulated) →
    (k s : ℕ) → k ≡ K → s + (u - b) ≡ S + (v - b) → MeterOk T l (continued u v l m) k s X
unfolding continued
meter-continued {l = l} {m = m} b u v h g g' z k s x y = record {
  count = record { within = h.count.within; covers = λ f. omega (arith, h.count.covers f); unused = h.count.unused };
  timed = record { within = h.timed.within; covers = λ f. omega (arith, h.timed.covers f); unused = h.timed.unused };
  seconds = record {
    within = λ f. rw f (z f);
    covers = λ f. rw f (omega (arith, h.seconds.covers f));
    unused = λ f. rw f (omega (arith, h.seconds.unused f));
  };
  mark = h.mark;
  unstarted = h.unstarted;
  unset = h.unset;
  past = h.past;
  marks = h.marks;
  together = h.together;
}

module _ {T n : ℕ} {lim : ℕ → Limits} {met : ℕ → Meters} {opn : ℕ → Open} (h : Sound T n lim met opn) (p : ℕ) (pl : p < 16)
    (on : is_on (opn p) ≡ true) (live : T < (opn p).until) where
  abbrev oₚ : Open
  oₚ = opn p

  abbrev lₚ : Limits
  lₚ = lim oₚ.entry

  abbrev mₚ : Meters
  mₚ = met oₚ.entry

  abbrev useₚ : UseOk T n lₚ mₚ oₚ
  useₚ = (h.opens p).runs on

  abbrev v : ℕ
  v = more_until T oₚ.until lₚ mₚ

  more-unused : flagged 32 lₚ ≡ true → mₚ.seconds + (v - oₚ.until) ≤ lₚ.accumulated
  unfolding more_until
  more-unused f = omega (arith, least-unused T oₚ.until lₚ mₚ f, (h.meters oₚ.entry useₚ.entry).seconds.within f)

  pub continued-sound : oₚ.until < v → Sound T n lim (upd oₚ.entry (continued oₚ.until v lₚ mₚ) met)
      (upd p (record { on = 1; entry = oₚ.entry; begin = oₚ.begin; until = v; content = oₚ.content }) opn)
  unfolding continued more_until
  continued-sound g =
      changed h p oₚ.entry (continued oₚ.until v lₚ mₚ) (record {
        on = 1;
        entry = oₚ.entry;
        begin = oₚ.begin;
        until = v;
        content =
            oₚ.content;
      })
      (record {
        player = pl;
        entry = useₚ.entry;
        before = λ q. refl;
        after = λ q. refl;
        stays = λ q d z same f s. (s, refl);
        shut = λ q. clash refl q;
        runs = λ q. record {
          begun = useₚ.begun;
          near = least-near T oₚ.until lₚ mₚ;
          entry = useₚ.entry;
          kind = useₚ.kind;
          from = useₚ.from;
          last = least-last T oₚ.until lₚ mₚ;
          started = useₚ.started;
          since = useₚ.since;
          span = λ f. omega (arith, least-span T oₚ.until lₚ mₚ f, since-first T mₚ (useₚ.started f));
        };
        meter = λ k s x y.
            rw (own-kept h p pl on)
            (meter-continued oₚ.begin oₚ.until v (h.meters oₚ.entry useₚ.entry) (omega (arith, useₚ.begun)) (omega arith)
            more-unused k s
            (omega (arith, x, ap one on)) (omega (arith, y, cond-on (is_on oₚ) (oₚ.until - oₚ.begin) 0 on)));
      })

  pub more-ge : oₚ.until ≤ v
  unfolding more_until
  more-ge =
      least-ge T oₚ.until lₚ mₚ oₚ.until useₚ.near useₚ.last
      (λ f. omega (arith, useₚ.span f, since-first T mₚ (useₚ.started f))) (λ f. omega arith)

  pub more-near : v ≤ T + 300
  unfolding more_until
  more-near = omega (arith, least-near T oₚ.until lₚ mₚ, grant-most lₚ.kind)

-- ## Begin

pub record Grant (t : ℕ) (l : Limits) (m : Meters) : Type 0 where
  pub count : flagged 1 l ≡ true → m.count < l.count
  pub timed : flagged 2 l ≡ true → m.timed < l.timed
  pub from : flagged 4 l ≡ true → l.start ≤ t
  pub upto : flagged 8 l ≡ true → t ≤ l.end
  pub interval : flagged 16 l ≡ true → t < interval_from t m + l.interval
  pub seconds : flagged 32 l ≡ true → m.seconds < l.accumulated
  pub room : is_group l ≡ true → ones m.marks < l.threshold

pub grant-of : (ask : Ask) (l : Limits) (m : Meters) → grantable ask l m ≡ true → Grant ask.time l m
grant-of ask l m e = record {
  count = grant-count ask l m e;
  timed = grant-timed ask l m e;
  from = grant-start ask l m e;
  upto = grant-end ask l m e;
  interval = grant-from ask l m e;
  seconds = grant-seconds ask l m e;
  room = λ f. grant-room ask l m e (λ z. clash f (ap not (eq-eqb l.threshold 0 z)));
}

from_le : (T : ℕ) (m : Meters) → m.first ≤ T → interval_from T m ≤ T
from_le T m h =
    on_test (is_started m)
    (λ q. omega (arith, cond-on (is_started m) m.first T q))
    (λ q. omega (arith, cond-off (is_started m) m.first T q))

one-off : (f : Bool) (v : ℕ) → eqb (one f) 1 ≡ false → where_flagged f v ≡ 0
one-off true v q = clash refl q
one-off false v q = refl

meter-begun : {T : ℕ} {l : Limits} {m : Meters} {K S X : ℕ} (p u : ℕ) → MeterOk T l m K S X → Grant T l m →
    (flagged 32 l ≡ true → m.seconds + (u - T) ≤ l.accumulated) →
    (k s : ℕ) → k ≤ K + 1 → s ≤ S + (u - T) → MeterOk T l (begun p T u l m) k s (cond (momentary l.kind) X (put_bit p true X))
unfolding begun
meter-begun {T = T} {l = l} {m = m} {X = X} p u h g z k s x y = record {
  count = record {
    within = λ f. rw f (omega (arith, g.count f));
    covers = λ f. rw f (omega (arith, h.count.covers f));
    unused = λ f. rw f (omega (arith, h.count.unused f));
  };
  timed = record {
    within = λ f. rw f (omega (arith, g.timed f));
    covers = λ f. rw f (omega (arith, h.timed.covers f));
    unused = λ f. rw f (omega (arith, h.timed.unused f));
  };
  seconds = record {
    within = λ f. rw f (z f);
    covers = λ f. rw f (omega (arith, h.seconds.covers f));
    unused = λ f. rw f (omega (arith, h.seconds.unused f));
  };
  mark = one-le (flagged 16 l);
  unstarted = λ f. ap one f;
  unset = one-off (flagged 16 l) (interval_from T m);
  past = omega (arith, flag-le (flagged 16 l) (interval_from T m), from_le T m h.past);
  marks = ap (λ (x : ℕ). cond (momentary l.kind) x (put_bit p true x)) h.marks;
  together = λ f.
      let room : ones X < l.threshold = omega (arith, g.room f, ap ones h.marks) in
      on_test (momentary l.kind)
      (λ e. rw e (h.together f))
      (λ e. rw e (omega (arith, room, ones-on p X)));
}

module _ {T n : ℕ} {lim : ℕ → Limits} {met : ℕ → Meters} {opn : ℕ → Open} (h : Sound T n lim met opn) (p : ℕ) (pl : p < 16)
    (off : is_on (opn p) ≡ false) (j : ℕ) (jn : j < n) (g : Grant T (lim j) (met j)) where
  abbrev lⱼ : Limits
  lⱼ = lim j

  abbrev mⱼ : Meters
  mⱼ = met j

  begun-stays : (u : ℕ) → Stays lⱼ mⱼ (begun p T u lⱼ mⱼ)
  unfolding begun
  begun-stays u f s = (ap one f, ap (λ (b : Bool). where_flagged b (interval_from T mⱼ)) f ∙ since-first T mⱼ s)

  -- nothing of player p is marked
  none-marked : put_bit p false (marks_in opn j) ≡ marks_in opn j
  none-marked = marked-so opn p j false (own-opens j (opn p) (λ q. clash q off) ∙ off)

  pub momentary-sound : momentary lⱼ.kind ≡ true → Sound T n lim (upd j (begun p T T lⱼ mⱼ) met) (upd p (opn p) opn)
  momentary-sound at_once =
      changed h p j (begun p T T lⱼ mⱼ) (opn p)
      (record {
        player = pl;
        entry = jn;
        before = λ q. clash q off;
        after = λ q. clash q off;
        stays = λ q d z same. begun-stays T;
        shut = (h.opens p).shut;
        runs = λ q. clash q off;
        meter = λ k s x y.
            subst (MeterOk T lⱼ (begun p T T lⱼ mⱼ) k s)
            (cond-on (momentary lⱼ.kind) _ _ at_once ∙ sym none-marked ∙ ap (λ (v : Bool). put_bit p v (marks_in opn j)) (sym off))
            (meter-begun p T (h.meters j jn) g (λ f. omega (arith, g.seconds f)) k s (omega (arith, x)) (omega (arith, y)));
      })

  module _ (kind : between 1 3 lⱼ.kind ≡ true) (runs : momentary lⱼ.kind ≡ false) where
    abbrev w : ℕ
    w = least_until T T lⱼ mⱼ

    pub begun-sound : (asset : ℕ) → Sound T n lim (upd j (begun p T w lⱼ mⱼ) met)
        (upd p (record { on = 1; entry = j; begin = T; until = w; content = asset }) opn)
    unfolding begun
    begun-sound asset =
        changed h p j (begun p T w lⱼ mⱼ) (record { on = 1; entry = j; begin = T; until = w; content = asset })
        (record {
          player = pl;
          entry = jn;
          before = λ q. clash q off;
          after = λ q. refl;
          stays = λ q d z same. begun-stays w;
          shut = λ q. clash refl q;
          runs = λ q. record {
            begun = omega arith;
            near = least-near T T lⱼ mⱼ;
            entry = jn;
            kind = kind;
            from = g.from;
            last = least-last T T lⱼ mⱼ;
            started = λ f. ap one f;
            since = λ f. omega (arith, flag-le (flagged 16 lⱼ) (interval_from T mⱼ), from_le T mⱼ (h.meters j jn).past);
            span = λ f. omega (arith, least-span T T lⱼ mⱼ f, ap (λ (b : Bool). where_flagged b (interval_from T mⱼ)) f);
          };
          meter = λ k s x y.
              subst (MeterOk T lⱼ (begun p T w lⱼ mⱼ) k s) (cond-off (momentary lⱼ.kind) _ _ runs)
              (meter-begun p w (h.meters j jn) g (λ f. omega (arith, least-unused T T lⱼ mⱼ f, g.seconds f)) k s
              (omega (arith, x)) (omega (arith, y)));
        })

  -- where the interval had not started, nobody has the entry open, and the interval begins now
  pub begun-alone : flagged 16 lⱼ ≡ true → is_started mⱼ ≡ false → (u asset : ℕ)
      → uses_of (upd p (record { on = 1; entry = j; begin = T; until = u; content = asset }) opn) j ≡ 1
  unfolding opens
  begun-alone f s u asset =
      let o : Open = record { on = 1; entry = j; begin = T; until = u; content = asset } in
      omega (
        arith,
        sum-upd (use_in j) p o opn 16 pl,
        own-use j (opn p) (λ x. clash x off),
        ap one off,
        own-use j o (λ x. refl),
        sum-none (λ q. use_in j (opn q)) 16 (λ q k. ap one (none_open q)),
      )
    where
      none_open : (q : ℕ) → opens j (opn q) ≡ false
      none_open q =
          on_test (is_on (opn q))
          (λ x.
          on_same (opn q).entry j
          (λ y. clash (eq-eqb _ _ (subst (λ (i : ℕ). flagged 16 (lim i) ≡ true → (met i).started ≡ 1) y ((h.opens q).runs x).started f)) s)
          (λ y. rw (x, ne_eqb (opn q).entry j y)))
          (λ x. rw x)

  pub begun_first : flagged 16 lⱼ ≡ true → is_started mⱼ ≡ false → (u : ℕ) → (begun p T u lⱼ mⱼ).first ≡ T
  unfolding begun
  begun_first f s u = rw (f, s)

  -- a granted use runs for at least one second
  pub begun-live : T < least_until T T lⱼ mⱼ
  begun-live = least-ge T T lⱼ mⱼ (suc T) (omega (arith, length-pos lⱼ.kind)) (λ f. omega (arith, g.upto f)) g.interval
      (λ f. omega (arith, g.seconds f))

pub grant-near : (t : ℕ) (l : Limits) (m : Meters) → grant_until t l m ≤ t + 300
unfolding grant_until
grant-near t l m =
    on_test (momentary l.kind)
    (λ q. omega (arith, cond-on (momentary l.kind) t (least_until t t l m) q))
    (λ q. omega (arith, cond-off (momentary l.kind) t (least_until t t l m) q, least-near t t l m, grant-most l.kind))
