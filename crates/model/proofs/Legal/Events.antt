-- From lists of entries and players to functions of a position: settling all players, and then the event itself, preserve the rules.
use mathlib.Core.Path.{◌≡◌, refl, sym, ap, ◌∙◌, subst, fun_ext}
use Prim.Native.Nat.{ℕ, zero, suc, ◌+◌, ◌≤◌, ◌<◌, zero-le}
use mathlib.Core.Bool.{Bool, true, false, not, ◌&&◌, ◌||◌, cond}
use mathlib.Core.List.{List, [], ◌∷◌, map}
use lib.ListN.{length, take}
use lib.Seq.{take_all}
use lib.Dec.{leb, ltb, eqb}
use native.Mathlib.Omega.{arith}
use native.Mathlib.Nat.{add-zero, zero-add}
use borrow.Author.Tests.{not-true, eqb-true, lt-ltb, le-ltb, leb-false}
use Rattle.numbers.proofs.TableLaws.{below_or_not}
use Rattle.book.specs.declared.Limits.{Limits}
use Rattle.book.specs.declared.Meters.{Meters}
use Rattle.book.specs.declared.Entry.{Entry}
use Rattle.book.specs.declared.Answer.{Answer}
use Rattle.book.specs.declared.Open.{Open}
use Rattle.book.specs.declared.Ask.{Ask}
use Rattle.book.specs.declared.Player.{Player}
use Rattle.book.specs.declared.Kind.{Kind}
use Rattle.book.specs.declared.Kind.TheVariants.{Play, Display, Execute, Print, Export}
use Rattle.book.specs.declared.Recent.{Recent}
use Rattle.book.specs.declared.Request.{Request}
use Rattle.book.specs.declared.Request.TheVariants.{Begin, Continue, Stop, Cancel}
use Rattle.book.specs.Blank.{closed}
use Rattle.model.specs.Book.{limits_at, meters_at, between, flagged, momentary, taken_code, content_legal}
use Rattle.model.specs.Record.{kind_number}
use Rattle.model.specs.Meters.{amend, begun, continued, ended, cancelled, is_started, is_on, expired, shut, released, settled_from}
use Rattle.model.specs.Meters.{settled}
use Rattle.model.specs.Choice.{Catalog, suitable, usable, parent_of, own, grantable, Choice, nobody, chosen, any_of, suits, allowed}
use Rattle.model.specs.Choice.{goes_before, choose, least_until, grant_until, fails_for_switch, none_grantable}
use Rattle.model.specs.Step.{Done, unchanged, starts_interval, granted, do_begin, more, do_continue, do_stop, taken_back, do_cancel, done}
use Rattle.model.specs.Step.{open_at}
use Rattle.model.proofs.Ledger.Facts.{on_test, on_same, clash, and_left, and_right, cond-on, cond-off, upd, upd_same, upd_other}
use Rattle.model.proofs.Legal.Facts.{upd-own}
use Rattle.model.proofs.Ledger.Invariant.{shut_o}
use Rattle.model.proofs.Ledger.Concrete.{amend-length, amend-limits, amend-meters, shut_open, Sure, choose-sound}
use Rattle.model.proofs.Legal.Rules.{MeterOk, UseOk, uses_of, Sound, Live, Named}
use Rattle.model.proofs.Legal.Meters.{ended-sound, continued-sound, more-near, Grant, grant-of, momentary-sound, begun-sound}
use Rattle.model.proofs.Legal.Meters.{begun-live, grant-near, Alone, cancelled-sound, begun-alone, begun_first}

-- ## A later time

later-use : {S T n : ℕ} {l : Limits} {m : Meters} {o : Open} → S ≤ T → UseOk S n l m o → UseOk T n l m o
later-use h u = record {
  begun = omega (arith, u.begun);
  near = omega (arith, u.near);
  entry = u.entry;
  kind = u.kind;
  from = u.from;
  last = u.last;
  started = u.started;
  since = u.since;
  span = u.span;
}

later-meter : {S T : ℕ} {l : Limits} {m : Meters} {k s x : ℕ} → S ≤ T → MeterOk S l m k s x → MeterOk T l m k s x
later-meter h w = record {
  count = w.count;
  timed = w.timed;
  seconds = w.seconds;
  mark = w.mark;
  unstarted = w.unstarted;
  unset = w.unset;
  past = omega (arith, w.past);
  marks = w.marks;
  together = w.together;
}

pub later-sound : {S T n : ℕ} {lim : ℕ → Limits} {met : ℕ → Meters} {opn : ℕ → Open} → S ≤ T → Sound S n lim met opn → Sound T n lim met opn
later-sound h w = record {
  opens = λ p. record { shut = (w.opens p).shut; runs = λ on. later-use h ((w.opens p).runs on) };
  meters = λ i k. later-meter h (w.meters i k);
  blank = w.blank;
}

-- ## Settling

-- players below q are settled
unfoldable pub stage : ℕ → (ℕ → Open) → ℕ → ℕ → Open
stage T opn q p = cond (ltb p q) (shut_o T (opn p)) (opn p)

stage-none : (T : ℕ) (opn : ℕ → Open) → stage T opn 0 ≡ opn
unfolding stage
stage-none T opn = fun_ext (λ p. cond-off (ltb p 0) _ _ (le-ltb p 0 zero-le))

pub stage-own : (T : ℕ) (opn : ℕ → Open) (q : ℕ) → stage T opn q q ≡ opn q
unfolding stage
stage-own T opn q = cond-off (ltb q q) _ _ (le-ltb q q (omega arith))

stage-next : (T : ℕ) (opn : ℕ → Open) (q : ℕ) → stage T opn (suc q) ≡ upd q (shut_o T (opn q)) (stage T opn q)
unfolding stage
stage-next T opn q =
    fun_ext (λ p.
    on_same p q
    (λ x. rw x (cond-on (ltb q (suc q)) _ _ (lt-ltb q (suc q) (omega arith)) ∙ sym (upd_same q (shut_o T (opn q)) (stage T opn q))))
    (λ x.
    below_or_not p q
    (λ k. cond-on (ltb p (suc q)) _ _ (lt-ltb p (suc q) (omega arith)) ∙ sym (cond-on (ltb p q) _ _ (lt-ltb p q k)) ∙ sym
    (upd_other q (shut_o T (opn q)) (stage T opn q) p x))
    (λ k. cond-off (ltb p (suc q)) _ _ (le-ltb p (suc q) (omega arith)) ∙ sym (cond-off (ltb p q) _ _ (le-ltb p q k)) ∙ sym
    (upd_other q (shut_o T (opn q)) (stage T opn q) p x))))

-- the entries while the players are settled
pub record Effect (T n : ℕ) (lim : ℕ → Limits) (es : List Entry) (opn : ℕ → Open) : Type 0 where
  pub slots : length es ≡ 64
  pub limits : (i : ℕ) → limits_at es i ≡ lim i
  pub sound : Sound T n lim (meters_at es) opn

module _ (T n : ℕ) (room : n ≤ 64) (lim : ℕ → Limits) where
  -- the meters of an entry change as they do over positions
  amend-part : (es : List Entry) (opn : ℕ → Open) (i : ℕ) (g : Limits → Meters → Meters) → i < n → length es ≡ 64 →
      ((j : ℕ) → limits_at es j ≡ lim j) →
      Sound T n lim (upd i (g (lim i) (meters_at es i)) (meters_at es)) opn → Effect T n lim (amend i g es) opn
  amend-part es opn i g k s e h = record {
    slots = amend-length i g es ∙ s;
    limits = λ j. amend-limits i g es j ∙ e j;
    sound =
        let x : meters_at (amend i g es) ≡ upd i (g (lim i) (meters_at es i)) (meters_at es) =
        fun_ext (λ j. amend-meters i g es (omega arith) j ∙ ap (λ (l : Limits). upd i (g l (meters_at es i)) (meters_at es) j) (e i)) in
        subst (λ (met : ℕ → Meters). Sound T n lim met opn) (sym x) h;
  }

  release-part : (opn : ℕ → Open) (q : ℕ) (o : Open) (es : List Entry) → q < 16 → opn q ≡ o → Effect T n lim es opn → Effect T n lim
      (released T q o es) (upd q (shut_o T o) opn)
  unfolding released expired
  release-part opn q o es k e h =
      on_test (expired T o)
      (λ x. rw x
      (amend-part es (upd q closed opn) o.entry (ended q o.begin o.until o.until) (entry x) h.slots h.limits
      (subst (λ (y : Open). Sound T n lim (upd y.entry (ended q y.begin y.until y.until (lim y.entry)
      (meters_at es y.entry)) (meters_at es)) (upd q closed opn)) e
      (ended-sound h.sound q k (ap is_on e ∙ on x) (opn q).until (omega arith)))))
      (λ x. rw x (subst (λ (f : ℕ → Open). Effect T n lim es f) (sym (ap (λ (y : Open). upd q y opn) (sym e) ∙ upd-own q opn)) h))
    where
      on : expired T o ≡ true → is_on o ≡ true
      on x = and_left (is_on o) (leb o.until T) x

      entry : expired T o ≡ true → o.entry < n
      entry x = subst (λ (y : Open). y.entry < n) e ((h.sound.opens q).runs (ap is_on e ∙ on x)).entry

  -- the first p of the players ps, who start at position q, are settled
  pub settle-part : (opn : ℕ → Open) (p : ℕ) (ps : List Player) (q : ℕ) (es : List Entry) → p ≤ length ps → q + length ps ≡ 16 →
      ((j : ℕ) → open_at ps j ≡ opn (q + j)) → Effect T n lim es (stage T opn q) →
      Effect T n lim (settled_from T q (take p ps) es) (stage T opn (q + p))
  unfolding settled_from
  settle-part opn zero ps q es r k e h = rw (add-zero q) h
  settle-part opn (suc p) [] q es r k e h = absurd (omega (arith, r))
  settle-part opn (suc p) (x ∷ ps) q es r k e h =
      let own : x.current ≡ opn q = e 0 ∙ ap opn (add-zero q) in
      let z : q + suc (length ps) ≡ 16 = k in
      let w : suc p ≤ suc (length ps) = r in
      let v : suc q + p ≡ q + suc p = omega arith in
      subst (λ (s : ℕ). Effect T n lim (settled_from T (suc q) (take p ps) (released T q x.current es)) (stage T opn s)) v
      (settle-part opn p ps (suc q) (released T q x.current es) (omega arith) (omega arith)
      (λ j. let y : q + suc j ≡ suc q + j = omega arith in e (suc j) ∙ ap opn y)
      (subst (Effect T n lim (released T q x.current es)) (ap (λ (y : Open). upd q (shut_o T y) (stage T opn q)) own ∙ sym
      (stage-next T opn q))
      (release-part (stage T opn q) q x.current es (omega arith) (stage-own T opn q ∙ sym own) h)))

shut-live : (T : ℕ) (o : Open) → is_on (shut_o T o) ≡ true → T < (shut_o T o).until
unfolding expired
shut-live T o =
    on_test (expired T o)
    (λ x. rw x (λ on. clash on refl))
    (λ x. rw x (λ on. leb-false o.until T (rw on at x)))

module _ (S T n : ℕ) (es : List Entry) (ps : List Player) where
  all-shut : ((p : ℕ) → 16 ≤ p → open_at ps p ≡ closed) → stage T (open_at ps) 16 ≡ open_at (map (shut T) ps)
  unfolding stage expired
  all-shut none =
      fun_ext (λ p.
      below_or_not p 16
      (λ k. cond-on (ltb p 16) _ _ (lt-ltb p 16 k) ∙ sym (shut_open T ps p))
      (λ k. cond-off (ltb p 16) _ _ (le-ltb p 16 k) ∙ none p k ∙ sym (shut_open T ps p ∙ ap (shut_o T) (none p k))))

  module _ (room : n ≤ 64) (later : S ≤ T) (slots : length es ≡ 64) (players : length ps ≡ 16)
      (h : Sound S n (limits_at es) (meters_at es) (open_at ps)) where
    -- when it is player p's turn
    pub turn-part : (p : ℕ) → p ≤ 16 → Effect T n (limits_at es) (settled T (take p ps) es) (stage T (open_at ps) p)
    turn-part p k =
        subst (λ (q : ℕ). Effect T n (limits_at es) (settled T (take p ps) es) (stage T (open_at ps) q)) (zero-add p)
        (settle-part T n room (limits_at es) (open_at ps) p ps 0 es (omega arith) (omega arith) (λ j. ap (open_at ps) (sym (zero-add j)))
        (record {
          slots = slots;
          limits = λ i. refl;
          sound = subst (Sound T n (limits_at es) (meters_at es))
              (sym (stage-none T (open_at ps))) (later-sound later h);
        }))

    pub settled-part : ((p : ℕ) → 16 ≤ p → open_at ps p ≡ closed) → Effect T n (limits_at es) (settled T ps es) (open_at (map (shut T) ps))
    settled-part none =
        subst (Effect T n (limits_at es) (settled T ps es)) (all-shut none)
        (subst (λ (l : List Player). Effect T n (limits_at es) (settled T l es) (stage T (open_at ps) 16)) (take_all 16 ps (omega arith))
        (turn-part 16 (omega arith)))

pub settled-live : (T : ℕ) (ps : List Player) → Live T (open_at (map (shut T) ps))
settled-live T ps p = subst (λ (o : Open). is_on o ≡ true → T < o.until) (sym (shut_open T ps p)) (shut-live T (open_at ps p))

-- ## What a taken event does

-- a kind that is requested and not momentary
kind-runs : (k : Kind) (n : ℕ) → eqb n (kind_number k) ≡ true → momentary n ≡ false → between 1 3 n ≡ true
unfolding momentary
kind-runs k n e f = rw (eqb-true n (kind_number k) e) (go k (rw (eqb-true n (kind_number k) e) at f))
  where
    go : (k : Kind) → between 4 5 (kind_number k) ≡ false → between 1 3 (kind_number k) ≡ true
    go Play q = refl
    go Display q = refl
    go Execute q = refl
    go Print q = clash refl q
    go Export q = clash refl q

-- what rule 26 requires of an answer
pub record AnswerOk (T n : ℕ) (a : Answer) : Type 0 where
  pub code : taken_code a.code ≡ true
  pub grants : eqb a.code 0 ≡ true → a.entry < n
  pub refuses : eqb a.code 0 ≡ false → (a.entry ≡ 255) × (a.until ≡ 0)
  pub near : a.until ≤ T + 300

-- what it requires of a use that started an interval: it is an interval entry's only open one, begun at first
pub record Starts (lim : ℕ → Limits) (met : ℕ → Meters) (opn : ℕ → Open) (o : Open) : Type 0 where
  pub on : is_on o ≡ true
  pub interval : flagged 16 (lim o.entry) ≡ true
  pub first : o.begin ≡ (met o.entry).first
  pub only : uses_of opn o.entry ≡ 1

pub record DoneOk (has : ℕ → Bool) (T n p : ℕ) (lim : ℕ → Limits) (opn : ℕ → Open) (d : Done) : Type 0 where
  pub answer : AnswerOk T n d.answer
  pub part : Effect T n lim d.entries (upd p d.current opn)
  pub live : is_on d.current ≡ true → T < d.current.until
  pub named : Named has lim d.current
  pub starts : d.started ≡ true → Starts lim (meters_at d.entries) (upd p d.current opn) d.current

module _ (ask : Ask) {n : ℕ} (room : n ≤ 64) (es : List Entry) {opn : ℕ → Open} (slots : length es ≡ 64)
    (h : Sound ask.time n (limits_at es) (meters_at es) opn) (running : Live ask.time opn) (pl : ask.player < 16)
    (has : ℕ → Bool) (named : (p : ℕ) → Named has (limits_at es) (opn p)) where
  abbrev T : ℕ
  T = ask.time

  abbrev p : ℕ
  p = ask.player

  unchanged-ok : (code : ℕ) → taken_code code ≡ true → eqb code 0 ≡ false → DoneOk has T n p (limits_at es) opn (unchanged code es (opn p))
  unchanged-ok code e f = record {
    answer = record { code = e; grants = λ q. clash q f; refuses = λ q. (refl, refl); near = omega arith };
    part = record { slots = slots; limits = λ i. refl; sound = subst (Sound T n (limits_at es) (meters_at es)) (sym (upd-own p opn)) h };
    live = running p;
    named = named p;
    starts = λ q. clash q refl;
  }

  stop-ok : DoneOk has T n p (limits_at es) opn (do_stop es (opn p) ask)
  unfolding do_stop taken_code
  stop-ok =
      on_test (is_on (opn p))
      (λ on. rw on
      (record {
        answer = record { code = refl; grants = λ q. (use₁ on).entry; refuses = λ q. clash refl q; near = omega arith };
        part =
            amend-part T n room (limits_at es) es (upd p closed opn) (opn p).entry (ended p (opn p).begin (opn p).until T)
            (use₁ on).entry slots (λ i. refl)
            (ended-sound h p pl on T (omega (arith, (use₁ on).begun)));
        live = λ q. clash q refl;
        named = λ q. clash q refl;
        starts = λ q. clash q refl;
      }))
      (λ on. rw on (unchanged-ok 14 refl refl))
    where
      use₁ : is_on (opn p) ≡ true → UseOk T n (limits_at es (opn p).entry) (meters_at es (opn p).entry) (opn p)
      use₁ on = (h.opens p).runs on

  continue-ok : DoneOk has T n p (limits_at es) opn (do_continue es (opn p) T)
  unfolding do_continue taken_code content_legal
  continue-ok =
      on_test (is_on (opn p))
      (λ on. rw on
      (on_test (leb (more es (opn p) T) (opn p).until)
      (λ q. rw q (unchanged-ok 15 refl refl))
      (λ q. rw q
      (record {
        answer = record {
          code = refl;
          grants = λ z. (use₁ on).entry;
          refuses = λ z. clash refl z;
          near = more-near h p pl on
              (running p on);
        };
        part =
            amend-part T n room (limits_at es) es (upd p (record
            { on = 1; entry = (opn p).entry; begin = (opn p).begin; until = more es (opn p) T; content = (opn p).content }) opn) (opn p).entry
            (continued (opn p).until (more es (opn p) T)) (use₁ on).entry slots (λ i. refl)
            (continued-sound h p pl on (running p on) (leb-false _ _ q));
        live = λ z. omega (arith, running p on, leb-false (more es (opn p) T) (opn p).until q);
        named = λ z. named p on;
        starts = λ z. clash z refl;
      }))))
      (λ on. rw on (unchanged-ok 14 refl refl))
    where
      use₁ : is_on (opn p) ≡ true → UseOk T n (limits_at es (opn p).entry) (meters_at es (opn p).entry) (opn p)
      use₁ on = (h.opens p).runs on

  cancel-ok : (r : Recent) → (is_on (opn p) ≡ true → r.begun ≡ true → r.started ≡ true → Alone opn p)
      → DoneOk has T n p (limits_at es) opn (do_cancel es (opn p) p r)
  unfolding do_cancel taken_code
  cancel-ok r alone =
      on_test (is_on (opn p))
      (λ on. rw on (back-or-44 on r.begun refl))
      (λ on. rw on (unchanged-ok 14 refl refl))
    where
      back-or-44 : is_on (opn p) ≡ true → (w : Bool) → r.begun ≡ w
          → DoneOk has T n p (limits_at es) opn (cond (not w) (unchanged 44 es (opn p)) (taken_back p r es (opn p)))
      back-or-44 on true m = record {
        answer = record {
          code = refl;
          grants = λ q. ((h.opens p).runs on).entry;
          refuses = λ q. clash refl q;
          near = omega (arith, ((h.opens p).runs on).begun);
        };
        part =
            amend-part T n room (limits_at es) es (upd p closed opn) (opn p).entry
            (cancelled p r (opn p).begin (opn p).until) ((h.opens p).runs on).entry slots (λ i. refl)
            (cancelled-sound h p pl on r (alone on m));
        live = λ q. clash q refl;
        named = λ q. clash q refl;
        starts = λ q. clash q refl;
      }
      back-or-44 on false m = unchanged-ok 44 refl refl

  chosen-ok : (kind : Kind) (asset none i : ℕ) → has asset ≡ true → is_on (opn p) ≡ false → i < n
      → eqb (limits_at es i).kind (kind_number kind) ≡ true → grantable ask (limits_at es i) (meters_at es i) ≡ true →
      DoneOk has T n p (limits_at es) opn (granted none ask asset es (opn p) (chosen i))
  unfolding grant_until taken_code content_legal starts_interval
  chosen-ok kind asset none i known off k e g =
      let a : AnswerOk T n (record { code = 0; entry = i; until = grant_until T (limits_at es i) (meters_at es i) }) =
      record { code = refl; grants = λ q. k; refuses = λ q. clash refl q; near = grant-near T (limits_at es i) (meters_at es i) } in
      let grant : Grant T (limits_at es i) (meters_at es i) = grant-of ask (limits_at es i) (meters_at es i) g in
      on_test (momentary (limits_at es i).kind)
      (λ q. record {
        answer = a;
        part = rw q (amend-part T n room (limits_at es) es (upd p (opn p) opn) i (begun p T T) k slots (λ j. refl)
            (momentary-sound h p pl off i k grant q));
        live = rw q (running p);
        named = rw q (named p);
        starts = rw q (λ z. clash z refl);
      })
      (λ q. record {
        answer = a;
        part = rw q
            (amend-part T n room (limits_at es) es (upd p (record
            { on = 1; entry = i; begin = T; until = least_until T T (limits_at es i) (meters_at es i); content = asset }) opn) i
            (begun p T (least_until T T (limits_at es i) (meters_at es i))) k slots (λ j. refl)
            (begun-sound h p pl off i k grant (kind-runs kind (limits_at es i).kind e q) q asset));
        live = rw q (λ z. begun-live h p pl off i k grant);
        named = rw q (λ z. rw known);
        starts = rw q (λ z.
            let f : flagged 16 (limits_at es i) ≡ true = and_left (flagged 16 (limits_at es i)) _ z in
            let s : is_started (meters_at es i) ≡ false = not-true _ (and_right (flagged 16 (limits_at es i)) _ z) in
            let w : ℕ = least_until T T (limits_at es i) (meters_at es i) in
            let m : meters_at (amend i (begun p T w) es) i ≡ begun p T w (limits_at es i) (meters_at es i) =
            amend-meters i (begun p T w) es (omega (arith, slots, room)) i ∙ upd_same i (begun p T w (limits_at es i) (meters_at es i)) _ in
            record {
              on = refl;
              interval = f;
              first = sym (ap (λ (x : Meters). x.first) m ∙ begun_first h p pl off i k grant f s w);
              only = begun-alone h p pl off i k grant f s w asset;
            });
      })

  module _ (c : Catalog) (counted : c.entry_count ≡ n) (known : (asset : ℕ) → usable c asset ≡ true → has asset ≡ true) where
    begin-ok : (kind : Kind) (asset : ℕ) → DoneOk has T n p (limits_at es) opn (do_begin c es (opn p) ask asset (kind_number kind))
    unfolding do_begin choose suitable taken_code none_grantable
    begin-ok kind asset =
        on_test (is_on (opn p))
        (λ on. rw on (unchanged-ok 11 refl refl))
        (λ on. rw on
        (on_test (usable c asset)
        (λ q. rw q
        (on_test (any_of (suits c es asset (kind_number kind)) c.entry_count)
        (λ r. rw r (go (known asset q) on (choose c es ask asset (kind_number kind)) refl))
        (λ r. rw r (unchanged-ok 12 refl refl))))
        (λ q. rw q (unchanged-ok 10 refl refl))))
      where
        go : has asset ≡ true → is_on (opn p) ≡ false → (x : Choice) → choose c es ask asset (kind_number kind) ≡ x
            → DoneOk has T n p (limits_at es) opn (granted (none_grantable c es ask asset (kind_number kind)) ask asset es (opn p) x)
        go y off nobody e =
            on_test (any_of (fails_for_switch c es ask asset (kind_number kind)) c.entry_count)
            (λ z. rw z (unchanged-ok 43 refl refl))
            (λ z. rw z (unchanged-ok 13 refl refl))
        go y off (chosen i) e =
            let s : Sure (allowed c es ask asset (kind_number kind)) c.entry_count i = choose-sound _ (goes_before es asset)
            c.entry_count i e in
            let a : suits c es asset (kind_number kind) i ≡ true = and_left _ (grantable ask (limits_at es i) (meters_at es i))
            s.passes in
            let g : grantable ask (limits_at es i) (meters_at es i) ≡ true = and_right (suits c es asset (kind_number kind) i) _
            s.passes in
            chosen-ok kind asset (none_grantable c es ask asset (kind_number kind)) i y off (omega (arith, s.below)) (and_left (eqb
            (limits_at es i).kind (kind_number kind))
            (own asset (limits_at es i) || (not (eqb (parent_of c asset) 0) && eqb (limits_at es i).asset (parent_of c asset))) a) g

    pub done_ok : (r : Request) (x : Recent) → (is_on (opn p) ≡ true → x.begun ≡ true → x.started ≡ true → Alone opn p)
        → DoneOk has T n p (limits_at es) opn (done r c es (opn p) ask x)
    unfolding done
    done_ok (Begin kind asset) x alone = begin-ok kind asset
    done_ok Continue x alone = continue-ok
    done_ok Stop x alone = stop-ok
    done_ok Cancel x alone = cancel-ok x alone
