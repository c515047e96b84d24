-- Each event preserves the invariant between the book and the account, whatever the gate decides.
-- The ledger and the rules agree on which events are resends.
use mathlib.Core.Path.{◌≡◌, refl, sym, ap, subst, ◌∙◌, fun_ext}
use Prim.Native.Nat.{ℕ, ◌+◌, ◌-◌, ◌≤◌, ◌<◌}
use mathlib.Core.Bool.{Bool, true, false, not, ◌&&◌, ◌||◌, cond, and-false, or-true}
use mathlib.Core.List.{List, [], ◌∷◌, map}
use mathlib.Core.Option.{Option, none, some}
use lib.ListN.{length, set, length-set, length-map}
use lib.Dec.{leb, ltb, eqb}
use native.Mathlib.Omega.{arith}
use native.Mathlib.Nat.{add-zero}
use borrow.Author.Tests.{eqb-true, eq-eqb, ne_eqb, ltb-true, ltb-false, lt-ltb, le-ltb, leb-true, leb-false, not-false}
use Rattle.numbers.specs.Count.{one}
use Rattle.numbers.proofs.Tests.{otherwise-at, Pass, row-passed}
use Rattle.book.specs.declared.Limits.{Limits}
use Rattle.book.specs.declared.Meters.{Meters}
use Rattle.book.specs.declared.Entry.{Entry}
use Rattle.book.specs.declared.Answer.{Answer}
use Rattle.book.specs.declared.Last.{Last}
use Rattle.book.specs.declared.Latest.{Latest}
use Rattle.book.specs.declared.Recent.{Recent}
use Rattle.book.specs.declared.Open.{Open}
use Rattle.book.specs.declared.Player.{Player}
use Rattle.book.specs.declared.Book.{Book}
use Rattle.book.specs.declared.Event.{Event}
use Rattle.book.specs.declared.Kind.{Kind}
use Rattle.book.specs.declared.Request.{Request}
use Rattle.book.specs.declared.Request.TheVariants.{Begin, Continue, Stop, Cancel}
use Rattle.book.specs.Decoded.{Decoded, Invalid, Valid}
use Rattle.book.specs.Gate.{Gate, Refuse, Resend, Take}
use Rattle.book.specs.Blank.{closed}
use Rattle.model.specs.Book.{limits_at, meters_at, momentary, flagged, latest_time}
use Rattle.model.specs.Choice.{asks, Catalog, catalog_of, usable, suits, allowed, grantable, Choice, nobody, chosen, any_of, choose}
use Rattle.model.specs.Choice.{suitable, grant_until, fails_for_switch, none_grantable}
use Rattle.model.specs.Record.{operation_number, request_asset, request_kind, kind_number}
use Rattle.model.specs.Gate.{same_request, same_number, boot_of, counter_of, in_line, largest_number, timely, gate}
use Rattle.model.specs.Meters.{amend, begun, continued, ended, cancelled, is_started, is_on, shut, settled}
use Rattle.model.specs.Step.{refusal, Done, unchanged, granted, do_begin, more, do_continue, do_stop, done, last_at, open_at, noted}
use Rattle.model.specs.Step.{starts_interval, taken_back, do_cancel, just_begun, recent_of, stored, taken_step, step_by, step, arrive}
use Rattle.model.specs.Report.{ended_at, overdue, ended_by, endings, Arrival, good, admitted, receive}
use Rattle.model.specs.Ledger.{Use, Taken, Account, latest_taken, repeats, resent, called_taken, time_of, latest, is_open, posted, note}
use Rattle.model.specs.Ledger.{sum_of, ran, stop_at, go_on, without, begun_use, earliest}
use Rattle.model.specs.Ledger.{note_arrival}
use Rattle.model.specs.Demand3.{Every, is_some, figures, last_by, last_of, granted_begin, AddedBy}
use Rattle.model.specs.Agrees.{player_last}
use Rattle.model.proofs.Ledger.Facts.{on_test, on_same, clash, and_left, and_right, and_both, cond-on, one-is, upd, upd_same}
use Rattle.model.proofs.Ledger.Facts.{upd_other, one-le}
use Rattle.model.proofs.Ledger.Sums.{all_map, latest-here, latest-player, open-falls, sum-revise, length-revise}
use Rattle.model.proofs.Ledger.Figures.{open-until}
use Rattle.model.proofs.Ledger.Invariant.{Invariant, Lawful, held-cases, held_as, own-sound, stopped-held, continued-held, begun-held}
use Rattle.model.proofs.Ledger.Invariant.{cancelled-held, until-now, until-after, more-near, grant-most}
use Rattle.model.proofs.Ledger.Reports.{Value, weighs, gain, total, total-one, total-none, weighs-open, weighs-shut}
use Rattle.model.proofs.Ledger.Reports.{report-continued, report-stopped, cancel-ends, report-cancelled, settled-report}
use Rattle.model.proofs.Ledger.Reports.{total-append}
use Rattle.model.proofs.Ledger.Concrete.{amend-length, amend-limits, amend-meters, store-last, store-open, shut-last, held-ext}
use Rattle.model.proofs.Ledger.Concrete.{settled-held, settled-limits, settled-size, choose-sound}
use Rattle.model.proofs.Ledger.WellFormed.{WellFormed, formed-static, taken-static, step-static}

-- the use u is the ledger's newest; `mark` tells whether it started an interval
pub record IsNewest (lim : ℕ → Limits) (us : List Use) (u : Use) (mark : Bool) : Type 0 where
  pub rest : List Use
  pub is : us ≡ u ∷ rest
  pub begins : Every (λ v. v.begin ≤ u.begin) rest
  pub marked : mark ≡ (flagged 16 (lim u.entry) && not (is_some (earliest u.entry rest)))

-- such a use, added by the granted begin x
pub record Newest (lim : ℕ → Limits) (x : Taken) (mark : Bool) (us : List Use) : Type 0 where
  pub current : Use
  pub added : AddedBy x (request_asset x.event.request) current
  pub newest : IsNewest lim us current mark

-- x is a begin that opened a use
abbrev pub opens_use : Taken → Bool
opens_use x = granted_begin x && ltb x.event.time x.answer.until

-- The event x was taken last, and its player then had o open. `mark` is the header's. Of x's use something is claimed only if x opened it:
-- until another event is taken it stays open.
pub record TakenLast (lim : ℕ → Limits) (x : Taken) (o : Open) (mark : Bool) (us : List Use) : Type 0 where
  pub opens : opens_use x ≡ true → Newest lim x mark us
  pub unmarked : opens_use x ≡ false → mark ≡ false
  pub quiet : granted_begin x ≡ true → opens_use x ≡ false → o ≡ closed

-- what is known of the book and the account between two events
pub record Inv (b : Book) (a : Account) : Type 0 where
  pub time : b.time ≡ time_of a.taken
  pub lasts : (p : ℕ) → last_at b.players p ≡ last_of p a.taken
  pub numbered : (p : ℕ) (x : Taken) → latest_taken p a.taken ≡ some x → 0 < x.event.number
  pub held : Invariant b.time (length b.players) (length b.entries) (limits_at b.entries) (meters_at b.entries)
      (open_at b.players) a.uses
  pub formed : WellFormed b
  pub player : b.latest.player ≡ player_last a.taken
  pub mark : b.latest.started ≤ 1
  pub none : a.taken ≡ [] → b.latest.started ≡ 0
  pub taken-last : (x : Taken) (xs : List Taken) → a.taken ≡ x ∷ xs
      → TakenLast (limits_at b.entries) x (open_at b.players x.event.player) (eqb b.latest.started 1) a.uses

-- ## What a taken event does, once all players are settled

abbrev pub entered : Event → Answer → List Use → List Use
entered e r us = cond (eqb r.code 0) (posted e.request e r us) us

pub without-newest : (p : ℕ) (u : Use) (us : List Use) → u.player ≡ p → without p (u ∷ us) ≡ us
unfolding without
without-newest p u us e = cond-on (eqb u.player p) _ _ (eq-eqb u.player p e)

-- the result d of event e, on entries es with the open uses opn
pub record Did (e : Event) (k : ℕ) (es : List Entry) (opn : ℕ → Open) (us : List Use) (d : Done) : Type 0 where
  pub taken : called_taken d.answer.code ≡ true
  pub held : Invariant e.time k (length d.entries) (limits_at d.entries) (meters_at d.entries)
      (upd e.player d.current opn) (entered e d.answer us)
  -- the sums for the report rise by what the request ends
  pub ends : (v : Value) (c : ℕ) → sum_of (weighs v (λ _. e.time) (limits_at es) c) (entered e d.answer us)
      ≡ sum_of (weighs v (λ _. e.time) (limits_at es) c) us
      + total v (limits_at es) c (ended_by e.request e.time (opn e.player) d.answer)
  -- at most one use is added, and at most 300 seconds over all uses
  pub uses : length (entered e d.answer us) ≤ length us + 1
  pub seconds : sum_of ran (entered e d.answer us) ≤ sum_of ran us + 300
  pub taken-last : TakenLast (limits_at d.entries) (record { event = e; answer = d.answer }) d.current d.started
      (entered e d.answer us)

taken-last-as : {lim : ℕ → Limits} {us : List Use} {x y : Taken} {o o' : Open} {m m' : Bool} → x ≡ y → o ≡ o' → m ≡ m' → TakenLast lim x o m us
    → TakenLast lim y o' m' us
taken-last-as {lim} {us} {x} {y} {o} {o'} {m} {m'} e f g h =
    subst (λ (z : Taken). TakenLast lim z o' m' us) e
    (subst (λ (z : Open). TakenLast lim x z m' us) f (subst (λ (z : Bool). TakenLast lim x o z us) g h))

taken-last-on : {lim : ℕ → Limits} {us vs : List Use} {x : Taken} {o : Open} {m : Bool} → us ≡ vs → TakenLast lim x o m us → TakenLast lim x o m vs
taken-last-on {lim} {us} {vs} {x} {o} {m} e h = subst (TakenLast lim x o m) e h

-- an event that is no granted begin
no-begin : {lim : ℕ → Limits} {o : Open} {us : List Use} (x : Taken) → granted_begin x ≡ false → TakenLast lim x o false us
no-begin x q = record {
  opens = λ z. clash (and_left (granted_begin x) _ z) q;
  unmarked = λ z. refl;
  quiet = λ g z. clash g q;
}

-- a request that is no begin
no-begin-at : {lim : ℕ → Limits} {o : Open} {us : List Use} (e : Event) (a : Answer) → eqb (operation_number e.request) 1 ≡ false
    → TakenLast lim (record { event = e; answer = a }) o false us
no-begin-at e a q = no-begin (record { event = e; answer = a }) (rw q refl)

sub_same : (t : ℕ) → t - t ≡ 0
sub_same t = omega arith

-- a refusal ends nothing
ended-none : (r : Request) (t : ℕ) (o : Open) (a : Answer) → eqb a.code 0 ≡ false → ended_by r t o a ≡ []
unfolding ended_by
ended-none (Begin kind asset) t o a q = rw q
ended-none Continue t o a q = refl
ended-none Stop t o a q = rw q
ended-none Cancel t o a q = cancel-ends t o a

module _ (b : Book) (e : Event) (k : ℕ) (pk : e.player < k) (es : List Entry) (opn : ℕ → Open) (us : List Use)
    (h : Invariant e.time k (length es) (limits_at es) (meters_at es) opn us) (lawful : (i : ℕ) → Lawful (limits_at es i)) where
  same-open : (q : ℕ) → upd e.player (opn e.player) opn q ≡ opn q
  same-open q = on_same q e.player (λ x. rw x (upd_same e.player (opn e.player) opn))
      (λ x. upd_other e.player (opn e.player) opn q x)

  did-unchanged : (c : ℕ) → called_taken c ≡ true → eqb c 0 ≡ false → Did e k es opn us (unchanged c es (opn e.player))
  did-unchanged c t z = record {
    taken = t;
    held = rw z (held-ext refl refl (λ i. refl) (λ i. refl) same-open h);
    ends = λ v w. rw (z, ended-none e.request e.time (opn e.player) (refusal c) z) (omega (arith, total-none v (limits_at es) w));
    uses = rw z (omega arith);
    seconds = rw z (omega arith);
    taken-last = no-begin _ (rw z (and-false (eqb (operation_number e.request) 1)));
  }

  -- an entry is amended in a way for which the invariant was shown
  amended : (i : ℕ) → i < length es → (g : Limits → Meters → Meters) (o : Open) (us' : List Use) →
      Invariant e.time k (length es) (limits_at es) (upd i (g (limits_at es i) (meters_at es i)) (meters_at es)) (upd e.player o opn)
      us' →
      Invariant e.time k (length (amend i g es)) (limits_at (amend i g es)) (meters_at (amend i g es)) (upd e.player o opn) us'
  amended i n g o us' x = held-ext refl (amend-length i g es) (amend-limits i g es) (amend-meters i g es n) (λ q. refl) x

  did-stop : e.request ≡ Stop → Did e k es opn us (do_stop es (opn e.player) (asks b e))
  unfolding do_stop posted called_taken ended_by
  did-stop x =
      held-cases e.time e.player us (opn e.player) (h.opens e.player)
      (λ c g. rw c (rw c at (did-unchanged 14 refl refl)))
      (λ u s o c. rw c (record {
        taken = refl;
        held = rw x (amended u.entry (own-sound h e.player u s o).entry (ended e.player u.begin u.until e.time) closed _
            (stopped-held h e.player u s o));
        ends = λ v w. rw (x, c) (
            report-stopped v (λ _. e.time) (limits_at es) w us e.player u s o e.time
            ∙ ap (λ (n : ℕ). sum_of (weighs v (λ _. e.time) (limits_at es) w) us + n)
            (sym (total-one v (limits_at es) w (ended_at e.time (held_as u)))));
        uses = rw x (omega (arith, length-revise e.player (stop_at e.time) us));
        seconds = rw x (omega (arith, sum-revise ran e.player (stop_at e.time) us u s, open-until e.time u o));
        taken-last = no-begin-at e _ (ap (λ (y : Request). eqb (operation_number y) 1) x);
      }))

  did-continue : e.request ≡ Continue → Did e k es opn us (do_continue es (opn e.player) e.time)
  unfolding do_continue posted called_taken ended_by
  did-continue x =
      held-cases e.time e.player us (opn e.player) (h.opens e.player)
      (λ c g. rw c (rw c at (did-unchanged 14 refl refl)))
      (λ u s o c. rw c
      (on_test (leb (more es (held_as u) e.time) u.until)
      (λ q. rw q (rw c at (did-unchanged 15 refl refl)))
      (λ q. rw q (record {
        taken = refl;
        held = rw x (amended u.entry (own-sound h e.player u s o).entry (continued u.until (more es (held_as u) e.time)) _ _
            (continued-held h e.player u s o (more es (held_as u) e.time) refl));
        ends = λ v w. rw x (
            report-continued v (λ _. e.time) (limits_at es) w us e.player u s o (more es (held_as u) e.time)
            (omega (arith, leb-false (more es (held_as u) e.time) u.until q))
            ∙ sym (add-zero (sum_of (weighs v (λ _. e.time) (limits_at es) w) us))
            ∙ ap (λ (n : ℕ). sum_of (weighs v (λ _. e.time) (limits_at es) w) us + n) (sym (total-none v (limits_at es) w)));
        uses = rw x (omega (arith, length-revise e.player (go_on (more es (held_as u) e.time)) us));
        seconds = rw x (omega (
          arith,
          sum-revise ran e.player (go_on (more es (held_as u) e.time)) us u s,
          (own-sound h e.player u s o).ordered,
          open-until e.time u o,
          more-near h e.player u s o (more es (held_as u) e.time) refl,
          grant-most (limits_at es u.entry).kind,
        ));
        taken-last = no-begin-at e _ (ap (λ (y : Request). eqb (operation_number y) 1) x);
      }))))

  -- whether the interval starts is told alike by meters and ledger
  same-started : (f x : Bool) → (f && not (eqb (one (f && x)) 1)) ≡ (f && not x)
  same-started true true = refl
  same-started true false = refl
  same-started false x = refl

  starts_is : (i : ℕ) (l : Limits) (m : Meters) → m ≡ figures (λ _. e.time) us i l → momentary l.kind ≡ false
      → starts_interval l m ≡ (flagged 16 l && not (is_some (earliest i us)))
  unfolding figures starts_interval
  starts_is i l m p run = rw (run, p) (same-started (flagged 16 l) (is_some (earliest i us)))

  -- a momentary use starts nothing that a cancel could take back
  starts_none : (l : Limits) (m : Meters) → momentary l.kind ≡ true → starts_interval l m ≡ false
  unfolding starts_interval
  starts_none l m now = rw now

  module _ (c : Catalog) (fits : c.entry_count ≤ length es) (kind : Kind) (asset : ℕ) (x : e.request ≡ Begin kind asset) where
    -- "A momentary use ends as it begins."; any other is open
    begun-ends : (v : Value) (w i : ℕ) → grantable (asks b e) (limits_at es i) (meters_at es i) ≡ true → (limits_at es i).kind ≡ kind_number kind
        → sum_of (weighs v (λ _. e.time) (limits_at es) w) (record {
          entry = i;
          player = e.player;
          begin = e.time;
          until = grant_until e.time (limits_at es i) (meters_at es i);
          stopped = false;
          content = asset;
        } ∷ us)
        ≡ sum_of (weighs v (λ _. e.time) (limits_at es) w) us
        + total v (limits_at es) w (ended_by (Begin kind asset) e.time (opn e.player)
        (record { code = 0; entry = i; until = grant_until e.time (limits_at es i) (meters_at es i) }))
    unfolding sum_of ended_by is_open
    begun-ends v w i ok k =
        let l = limits_at es i in
        let m = meters_at es i in
        let u : Use = record {
          entry = i;
          player = e.player;
          begin = e.time;
          until = grant_until e.time l m;
          stopped = false;
          content = asset;
        } in
        on_test (momentary (kind_number kind))
        (λ q.
        let now : grant_until e.time l m ≡ e.time = until-now (asks b e) l m ok (ap momentary k ∙ q) in
        rw q (omega (
          arith,
          weighs-shut v (λ _. e.time) (limits_at es) w u (le-ltb e.time (grant_until e.time l m) (omega arith)),
          ap (λ (t : ℕ). gain v (limits_at es) w (record { entry = i; content = asset; seconds = t - e.time })) now,
          ap (λ (t : ℕ). gain v (limits_at es) w (record { entry = i; content = asset; seconds = t })) (sub_same e.time),
          total-one v (limits_at es) w (record { entry = i; content = asset; seconds = 0 }),
        )))
        (λ q. rw q (omega (
          arith,
          weighs-open v (λ _. e.time) (limits_at es) w u
              (lt-ltb e.time (grant_until e.time l m) (until-after (asks b e) l m ok (ap momentary k ∙ q))),
          total-none v (limits_at es) w,
        )))

    -- a grant of entry i until u is the event taken last
    begun-taken : (i : ℕ) → grantable (asks b e) (limits_at es i) (meters_at es i) ≡ true
        → let u = grant_until e.time (limits_at es i) (meters_at es i) in
        let r : Answer = record { code = 0; entry = i; until = u } in
        TakenLast (limits_at (amend i (begun e.player e.time u) es)) (record { event = e; answer = r })
        (cond (momentary (limits_at es i).kind) closed (record { on = 1; entry = i; begin = e.time; until = u; content = asset }))
        (starts_interval (limits_at es i) (meters_at es i)) (begun_use e asset r ∷ us)
    begun-taken i ok =
        let l = limits_at es i in
        let m = meters_at es i in
        let u = grant_until e.time l m in
        on_test (momentary l.kind)
        (λ q.
        let shut : ltb e.time u ≡ false = le-ltb e.time u (omega (arith, until-now (asks b e) l m ok q)) in
        record {
          opens = λ z. clash (and_right (eqb (operation_number e.request) 1 && true) (ltb e.time u) z) shut;
          unmarked = λ z. starts_none l m q;
          quiet = λ g z. rw q;
        })
        (λ q.
        let runs : ltb e.time u ≡ true = lt-ltb e.time u (until-after (asks b e) l m ok q) in
        let begin : eqb (operation_number e.request) 1 ≡ true = rw x in
        let same = amend-limits i (begun e.player e.time u) es i in
        record {
          opens = λ z. record {
            current = _;
            added = record { entry = refl; player = refl; begin = refl; until = refl; stopped = refl; content = rw x };
            newest = record {
              rest = us;
              is = refl;
              begins = all_map (λ v w. w.begun) us h.sound;
              marked = starts_is i l m (h.meters i) q ∙ ap (λ (k : Limits). flagged 16 k && not (is_some (earliest i us))) (sym same);
            };
          };
          unmarked = λ z. clash (and_both (and_both begin refl) runs) z;
          quiet = λ g z. clash (and_both (and_both begin refl) runs) z;
        })

    did-granted : ((u : Use) → latest e.player us ≡ some u → is_open e.time u ≡ false) → opn e.player ≡ closed
        → (w : Choice) → choose c es (asks b e) asset (kind_number kind) ≡ w
        → Did e k es opn us (granted (none_grantable c es (asks b e) asset (kind_number kind)) (asks b e) asset es closed w)
    unfolding posted called_taken choose none_grantable suitable sum_of
    did-granted g z nobody q =
        on_test (any_of (fails_for_switch c es (asks b e) asset (kind_number kind)) c.entry_count)
        (λ y. rw y (rw z at (did-unchanged 43 refl refl)))
        (λ y. rw y (rw z at (did-unchanged 13 refl refl)))
    did-granted g z (chosen i) q =
        let y = choose-sound (allowed c es (asks b e) asset (kind_number kind)) _ c.entry_count i q in
        let ok : grantable (asks b e) (limits_at es i) (meters_at es i) ≡ true = and_right (suits c es asset (kind_number kind) i) _
        y.passes in
        let n : i < length es = omega (arith, y.below) in
        let now = begun-held (asks b e) h pk g i n ok (lawful i) asset in
        record {
          taken = refl;
          held = rw x (amended i n (begun e.player e.time (grant_until e.time (limits_at es i) (meters_at es i))) _ _ now);
          ends = λ v w. rw x (begun-ends v w i ok
              (eqb-true _ _ (and_left (eqb (limits_at es i).kind (kind_number kind)) _
              (and_left (suits c es asset (kind_number kind) i) _ y.passes))));
          uses = rw x (omega arith);
          seconds = rw x (omega (arith, now.sound.0.near, grant-most (limits_at es i).kind));
          taken-last =
              taken-last-on
              (ap (λ (y : Request). posted y e (record { code = 0; entry = i; until = grant_until e.time (limits_at es i) (meters_at es i) }) us)
              (sym x)) (begun-taken i ok);
        }

    did-begin : Did e k es opn us (do_begin c es (opn e.player) (asks b e) asset (kind_number kind))
    unfolding do_begin called_taken
    did-begin =
        held-cases e.time e.player us (opn e.player) (h.opens e.player)
        (λ z g. rw z
        (on_test (not (usable c asset))
        (λ q. rw q (rw z at (did-unchanged 10 refl refl)))
        (λ q. rw q
        (on_test (not (any_of (suits c es asset (kind_number kind)) c.entry_count))
        (λ r. rw r (rw z at (did-unchanged 12 refl refl)))
        (λ r. rw r (did-granted g z (choose c es (asks b e) asset (kind_number kind)) refl))))))
        (λ u s o z. rw z (rw z at (did-unchanged 11 refl refl)))

  module _ (r : Recent)
      (known : (u : Use) → latest e.player us ≡ some u → is_open e.time u ≡ true → opn e.player ≡ held_as u → r.begun ≡ true
      → IsNewest (limits_at es) us u r.started) where
    taken_back_lem : e.request ≡ Cancel → (u : Use) → latest e.player us ≡ some u → is_open e.time u ≡ true
        → (m : IsNewest (limits_at es) us u r.started) → Did e k es opn us (taken_back e.player r es (held_as u))
    unfolding posted called_taken ended_by sum_of
    taken_back_lem x u s o m =
        let p : u.player ≡ e.player = latest-player e.player us u s in
        let left : entered e (record { code = 0; entry = u.entry; until = u.begin }) us ≡ m.rest =
        ap (λ (y : Request). posted y e (record { code = 0; entry = u.entry; until = u.begin }) us) x
        ∙ ap (without e.player) m.is ∙ without-newest e.player u m.rest p in
        record {
          taken = refl;
          held =
              subst (λ (vs : List Use). Invariant e.time k _ _ _ _ vs) (sym left)
              (amended u.entry (own-sound h e.player u s o).entry (cancelled e.player r u.begin u.until) closed _
              (subst (λ (z : ℕ). Invariant e.time k (length es) (limits_at es)
              (upd u.entry (cancelled z r u.begin u.until (limits_at es u.entry) (meters_at es u.entry))
              (meters_at es))
              (upd z closed opn) m.rest) p
              (cancelled-held u (subst (λ (vs : List Use). Invariant e.time k (length es) (limits_at es) (meters_at es) opn vs) m.is h)
              m.begins o r m.marked)));
          ends = λ v w.
              ap (sum_of (weighs v (λ _. e.time) (limits_at es) w)) left
              ∙ report-cancelled v (λ _. e.time) (limits_at es) w u m.rest o
              ∙ ap (sum_of (weighs v (λ _. e.time) (limits_at es) w)) (sym m.is)
              ∙ sym (add-zero (sum_of (weighs v (λ _. e.time) (limits_at es) w) us))
              ∙ ap (λ (n : ℕ). sum_of (weighs v (λ _. e.time) (limits_at es) w) us + n) (sym (total-none v (limits_at es) w))
              ∙ ap (λ (y : Request). sum_of (weighs v (λ _. e.time) (limits_at es) w) us + total v (limits_at es) w
              (ended_by y e.time (opn e.player) (record { code = 0; entry = u.entry; until = u.begin }))) (sym x);
          uses = omega (arith, ap length left, ap length m.is);
          seconds = omega (arith, ap (sum_of ran) left, ap (sum_of ran) m.is);
          taken-last = no-begin-at e _ (ap (λ (y : Request). eqb (operation_number y) 1) x);
        }

    back-or-44 : e.request ≡ Cancel → (u : Use) → latest e.player us ≡ some u → is_open e.time u ≡ true
        → opn e.player ≡ held_as u → (w : Bool) → r.begun ≡ w
        → Did e k es opn us (cond (not w) (unchanged 44 es (held_as u)) (taken_back e.player r es (held_as u)))
    unfolding called_taken
    back-or-44 x u s o c true q = taken_back_lem x u s o (known u s o c q)
    back-or-44 x u s o c false q = rw c at (did-unchanged 44 refl refl)

    did-cancel : e.request ≡ Cancel → Did e k es opn us (do_cancel es (opn e.player) e.player r)
    unfolding do_cancel called_taken
    did-cancel x =
        held-cases e.time e.player us (opn e.player) (h.opens e.player)
        (λ c g. rw c (rw c at (did-unchanged 14 refl refl)))
        (λ u s o c. rw c (back-or-44 x u s o c r.begun refl))

  did : (c : Catalog) → c.entry_count ≤ length es → (r : Recent)
      → ((u : Use) → latest e.player us ≡ some u → is_open e.time u ≡ true → opn e.player ≡ held_as u → r.begun ≡ true
      → IsNewest (limits_at es) us u r.started)
      → Did e k es opn us (done e.request c es (opn e.player) (asks b e) r)
  unfolding done
  did c fits r known = go e.request refl
    where
      go : (q : Request) → e.request ≡ q → Did e k es opn us (done q c es (opn e.player) (asks b e) r)
      go (Begin kind asset) x = did-begin c fits kind asset x
      go Continue x = did-continue x
      go Stop x = did-stop x
      go Cancel x = did-cancel r known x

-- ## The gate

-- the rules' test for a resend
abbrev pub again : Last → Event → Bool
again l e = same_number l e.number && same_request l e.request

pub gate-refuse : (now : ℕ) (l : Last) (e : Event) (c : ℕ) → gate now l e ≡ Refuse c → called_taken c ≡ false
unfolding gate called_taken
gate-refuse now l e c z =
    on_test (ltb 15 e.player) (λ q. code 2 refl (rw q at z)) (λ q.
    on_test (same_number l e.number)
    (λ r. on_test (same_request l e.request) (λ s. let w : true ≡ false = cc in clash refl w) (λ s. code 4 refl (rw (q, r, s) at z)))
    (λ r. on_test (not (in_line l e.number)) (λ s. code 3 refl (rw (q, r, s) at z)) (λ s.
    on_test (not (timely now e.time)) (λ t. code 5 refl (rw (q, r, s, t) at z)) (λ t. let w : true ≡ false = cc in clash refl w))))
  where
    code : (d : ℕ) → called_taken d ≡ false → ◌≡◌ {A = Gate} (Refuse d) (Refuse c) → called_taken c ≡ false
    code d x y = let w : d ≡ c = cc in rw (← w) x

pub record Taking (now : ℕ) (l : Last) (e : Event) : Type 0 where
  pub player : e.player < 16
  pub fresh : again l e ≡ false
  pub number : (0 < e.number) × (e.number ≤ largest_number)
  pub later : now ≤ e.time
  pub early : e.time ≤ latest_time

-- a number in line is not 0 and has 64 bits
pub in-line : (l : Last) (n : ℕ) → in_line l n ≡ true → (0 < n) × (n ≤ largest_number)
unfolding in_line
in-line l n e =
    let most = leb-true n largest_number (and_left (leb n largest_number) _ e) in
    on_same n (l.number + 1)
    (λ q. (omega (arith, q), most))
    (λ q.
    let w = otherwise-at (eqb n (l.number + 1)) _ (and_right (leb n largest_number) _ e) (ne_eqb n (l.number + 1) q) in
    (omega (arith, eqb-true (counter_of n) 1 (and_right (ltb (boot_of l.number) (boot_of n)) _ w)), most))

in-time : (now t : ℕ) → timely now t ≡ true → now ≤ t
unfolding timely
in-time now t e = leb-true now t (and_left (leb now t) (leb t latest_time) e)

not_late : (now t : ℕ) → timely now t ≡ true → t ≤ latest_time
unfolding timely
not_late now t e = leb-true t latest_time (and_right (leb now t) (leb t latest_time) e)

pub gate-take : (now : ℕ) (l : Last) (e : Event) → gate now l e ≡ Take → Taking now l e
unfolding gate
gate-take now l e z =
    on_test (ltb 15 e.player) (λ q. let w : true ≡ false = cc in clash refl w) (λ q.
    on_test (same_number l e.number)
    (λ r. on_test (same_request l e.request) (λ s. let w : true ≡ false = cc in clash refl w)
    (λ s. let w : true ≡ false = cc in clash refl w))
    (λ r. on_test (not (in_line l e.number)) (λ s. let w : true ≡ false = cc in clash refl w) (λ s.
    on_test (not (timely now e.time)) (λ t. let w : true ≡ false = cc in clash refl w) (λ t.
    record {
      player = omega (arith, ltb-false 15 e.player q);
      fresh = rw r;
      number = in-line l e.number (not-false (in_line l e.number) s);
      later = in-time now e.time (not-false (timely now e.time) t);
      early = not_late now e.time (not-false (timely now e.time) t);
    }))))

pub gate-resend : (now : ℕ) (l : Last) (e : Event) → gate now l e ≡ Resend → again l e ≡ true
unfolding gate
gate-resend now l e z =
    on_test (ltb 15 e.player) (λ q. let w : true ≡ false = cc in clash refl w) (λ q.
    on_test (same_number l e.number)
    (λ r. on_test (same_request l e.request) (λ s. rw (r, s)) (λ s. let w : true ≡ false = cc in clash refl w))
    (λ r. on_test (not (in_line l e.number)) (λ s. let w : true ≡ false = cc in clash refl w) (λ s.
    on_test (not (timely now e.time)) (λ t. let w : true ≡ false = cc in clash refl w)
    (λ t. let w : true ≡ false = cc in clash refl w))))

-- ## The account

pub note-skip : (a : Account) (e : Event) (r : Answer) → (resent a e || not (called_taken r.code)) ≡ true → note a e r ≡ a
unfolding note
note-skip a e r x = rw x

pub note-take : (a : Account) (e : Event) (r : Answer) → resent a e ≡ false → called_taken r.code ≡ true
    → note a e r ≡ record { uses = entered e r a.uses; taken = record { event = e; answer = r } ∷ a.taken }
unfolding note
note-take a e r x y = rw (x, y)

and-regroup : (a b c d : Bool) → (a && b && c && d) ≡ (a && (b && c && d))
and-regroup true b c d = refl
and-regroup false b c d = refl

repeats-is : (e : Event) (s : Option Taken) → ((x : Taken) → s ≡ some x → 0 < x.event.number) → repeats e s ≡ again (last_by s) e
unfolding same_number same_request
repeats-is e none n = refl
repeats-is e (some x) n =
    let z : eqb x.event.number 0 ≡ false = ne_eqb x.event.number 0 (λ w. absurd (omega (arith, n x refl))) in
    rw z (and-regroup (eqb e.number x.event.number) (eqb (operation_number e.request) (operation_number x.event.request))
    (eqb (request_asset e.request) (request_asset x.event.request)) (eqb (request_kind e.request) (request_kind x.event.request)))

-- the asking player's use and what is known of the event taken last, once all players are settled
abbrev pub opened : Book → Event → Open
opened b e = open_at (map (shut e.time) b.players) e.player

abbrev pub recently : Book → Event → Recent
recently b e = recent_of b.latest e.player (last_at b.players e.player) (opened b e)

module _ (b : Book) (a : Account) (e : Event) (h : Inv b a) where
  -- a use that is open at the event's time was open before, so its player had it open
  held-before : (u : Use) → latest e.player a.uses ≡ some u → is_open e.time u ≡ true → b.time ≤ e.time
      → open_at b.players e.player ≡ held_as u
  held-before u s z later =
      on_test (is_open b.time u)
      (λ y. h.held.opens e.player ∙ rw (s, y) refl)
      (λ y. clash z (open-falls b.time e.time u later y))

  -- the player's open use is that of its granted begin, if this was the event taken last
  pub newest-open : (u : Use) → latest e.player a.uses ≡ some u → is_open e.time u ≡ true → b.time ≤ e.time
      → (x : Taken) (xs : List Taken) → a.taken ≡ x ∷ xs → x.event.player ≡ e.player → granted_begin x ≡ true
      → IsNewest (limits_at b.entries) a.uses u (eqb b.latest.started 1)
      × AddedBy x (request_asset x.event.request) u
  newest-open u s z later x xs y p g =
      let k = h.taken-last x xs y in
      on_test (opens_use x)
      (λ q.
      let n = k.opens q in
      let v : n.current ≡ u =
      latest-here e.player n.current n.newest.rest u (ap (latest e.player) (sym n.newest.is) ∙ s)
      (eq-eqb n.current.player e.player (n.added.player ∙ p)) in (
        subst (λ (w : Use). IsNewest (limits_at b.entries) a.uses w (eqb b.latest.started 1)) v n.newest,
        subst (AddedBy x (request_asset x.event.request)) v n.added,
      ))
      (λ q.
      clash refl (ap (λ (o : Open). is_on o) (sym (held-before u s z later) ∙ ap (open_at b.players) (sym p) ∙ k.quiet g q)))

  -- the open use of the player is that of the event taken last, by the header
  newest-is : (es : List Entry) → ((i : ℕ) → limits_at es i ≡ limits_at b.entries i) → (o : Open) → b.time ≤ e.time → (u : Use)
      → latest e.player a.uses ≡ some u → is_open e.time u ≡ true
      → just_begun b.latest e.player (last_at b.players e.player) o ≡ true
      → IsNewest (limits_at es) a.uses u (eqb b.latest.started 1)
  unfolding just_begun latest_taken
  newest-is es lim o later u s z q = go a.taken refl
    where
      last : Last
      last = last_at b.players e.player

      tests : (eqb b.latest.player (e.player + 1) ≡ true)
          × Pass (eqb last.operation 1 ∷ eqb last.answer.code 0 ∷ eqb last.answer.entry o.entry
          ∷ eqb last.answer.until o.until ∷ [])
      tests = row-passed _ (_ ∷ _ ∷ eqb last.answer.entry o.entry ∷ eqb last.answer.until o.until ∷ []) q

      go : (t : List Taken) → a.taken ≡ t → IsNewest (limits_at es) a.uses u (eqb b.latest.started 1)
      go [] y = absurd (omega (arith, eqb-true b.latest.player (e.player + 1) tests.0, h.player ∙ ap player_last y))
      go (x ∷ xs) y =
          let p : x.event.player ≡ e.player =
          omega (arith, eqb-true b.latest.player (e.player + 1) tests.0, h.player ∙ ap player_last y) in
          let w : last ≡ noted x.event x.answer =
          h.lasts e.player ∙ ap (last_of e.player) y
          ∙ ap last_by (cond-on (eqb x.event.player e.player) _ _ (eq-eqb x.event.player e.player p)) in
          let g : granted_begin x ≡ true =
          and_both (ap (λ (v : Last). eqb v.operation 1) (sym w) ∙ tests.1.0)
          (ap (λ (v : Last). eqb v.answer.code 0) (sym w) ∙ tests.1.1.0) in
          subst (λ (f : ℕ → Limits). IsNewest f a.uses u (eqb b.latest.started 1)) (sym (fun_ext lim))
          (newest-open u s z later x xs y p g).0

  -- the ledger and the rules find the same resends
  pub resent-is : resent a e ≡ again (last_at b.players e.player) e
  unfolding resent
  resent-is = rw (h.lasts e.player) (repeats-is e (latest_taken e.player a.taken) (h.numbered e.player))

  stored-keeps : (ps : List Player) (es : List Entry) (d : Done) → e.player < length ps → resent a e ≡ false → 0 < e.number
      → ((p : ℕ) → last_at ps p ≡ last_at b.players p) → WellFormed (stored b e ps d).book
      → Did e (length ps) es (open_at ps) a.uses d → Inv (stored b e ps d).book (note a e d.answer)
  unfolding time_of latest_taken
  stored-keeps ps es d pk fresh number lasts formed x =
      rw (note-take a e d.answer fresh x.taken)
      (record {
        time = refl;
        lasts = λ p.
            store-last e.player (record { last = noted e d.answer; current = d.current }) ps pk p ∙
            on_same p e.player
            (λ z. rw (z, upd_same e.player (noted e d.answer) (last_at ps), eq-eqb e.player e.player refl))
            (λ z. upd_other e.player (noted e d.answer) (last_at ps) p z ∙ lasts p ∙ h.lasts p ∙ rw
            (ne_eqb e.player p (λ w. z (sym w))));
        numbered = λ p y q.
            on_test (eqb e.player p)
            (λ z. let w : ◌≡◌ {A = Taken} (record { event = e; answer = d.answer }) y = cc in rw (← w) number)
            (λ z. h.numbered p y (rw z at q));
        held = held-ext (length-set ps e.player _) refl (λ i. refl) (λ i. refl) (store-open e.player _ ps pk) x.held;
        formed = formed;
        player = refl;
        mark = one-le d.started;
        none = λ q. let w : true ≡ false = cc in clash refl w;
        taken-last = λ y ys q.
            let w : ◌≡◌ {A = Taken} (record { event = e; answer = d.answer }) y = cc in
            let new : Player = record { last = noted e d.answer; current = d.current } in
            taken-last-as w
            (sym (store-open e.player new ps pk e.player ∙ upd_same e.player d.current (open_at ps))
            ∙ ap (λ (z : Taken). open_at (set ps e.player new) z.event.player) w)
            (sym (one-is d.started)) x.taken-last;
      })

  -- what a taken event does, on the settled book
  pub taken-did : Taking b.time (last_at b.players e.player) e
      → Did e (length (map (shut e.time) b.players)) (settled e.time b.players b.entries)
      (open_at (map (shut e.time) b.players)) a.uses
      (done e.request (catalog_of b) (settled e.time b.players b.entries) (opened b e) (asks b e) (recently b e))
  unfolding catalog_of
  taken-did t =
      let ps : List Player = map (shut e.time) b.players in
      let es : List Entry = settled e.time b.players b.entries in
      let pk : e.player < length ps = rw (length-map b.players (shut e.time), h.formed.players) t.player in
      did b e (length ps) pk es (open_at ps) a.uses (settled-held b.time e.time b.entries b.players a.uses t.later
      h.held)
      (λ i. rw (settled-limits e.time b.players b.entries i) (h.formed.limits i))
      (catalog_of b) (rw (settled-size e.time b.players b.entries) h.formed.entries)
      (recently b e)
      (λ u s o c q. newest-is es (settled-limits e.time b.players b.entries) (opened b e) t.later u s o q)

  pub taken-called : Taking b.time (last_at b.players e.player) e → called_taken (taken_step b e).answer.code ≡ true
  unfolding taken_step
  taken-called t = (taken-did t).taken

  taken-keeps : Taking b.time (last_at b.players e.player) e → WellFormed (taken_step b e).book → Inv (taken_step b e).book
      (note a e (taken_step b e).answer)
  unfolding taken_step
  taken-keeps t formed =
      let ps : List Player = map (shut e.time) b.players in
      let es : List Entry = settled e.time b.players b.entries in
      let pk : e.player < length ps = rw (length-map b.players (shut e.time), h.formed.players) t.player in
      stored-keeps ps es _ pk (resent-is ∙ t.fresh) t.number.0 (shut-last e.time b.players) formed (taken-did t)

  -- a taken event raises the ledger's sums for the report by what the uses that it ends add
  pub taken-report : Taking b.time (last_at b.players e.player) e → (v : Value) (c : ℕ)
      → sum_of (weighs v (λ _. time_of (note a e (taken_step b e).answer).taken) (limits_at b.entries) c)
      (note a e (taken_step b e).answer).uses
      ≡ sum_of (weighs v (λ _. time_of a.taken) (limits_at b.entries) c) a.uses + total v (limits_at b.entries) c (endings b e)
  unfolding taken_step time_of endings
  taken-report t v c =
      let ps : List Player = map (shut e.time) b.players in
      let es : List Entry = settled e.time b.players b.entries in
      let d = taken-did t in
      let r = (done e.request (catalog_of b) es (open_at ps e.player) (asks b e) (recently b e)).answer in
      let same : limits_at es ≡ limits_at b.entries = fun_ext (settled-limits e.time b.players b.entries) in
      rw (note-take a e r (resent-is ∙ t.fresh) d.taken, ← h.time)
      ((rw same at (d.ends v c))
      ∙ ap (λ (n : ℕ). n + total v (limits_at b.entries) c (ended_by e.request e.time (open_at ps e.player) r))
      (settled-report v c b.time e.time (length b.entries) (limits_at b.entries) (meters_at b.entries) b.players a.uses
      t.later h.held)
      ∙ omega (
        arith,
        total-append v (limits_at b.entries) c (overdue e.time b.players)
            (ended_by e.request e.time (open_at ps e.player) r),
      ))

  pub step_keeps : Inv (step b e).book (note a e (step b e).answer)
  unfolding step step_by
  step_keeps = go (gate b.time (last_at b.players e.player) e) refl (formed-static (step-static b e) h.formed)
    where
      go : (g : Gate) → gate b.time (last_at b.players e.player) e ≡ g → WellFormed (step_by g b e).book → Inv
          (step_by g b e).book (note a e (step_by g b e).answer)
      go (Refuse c) q z = rw (note-skip a e (refusal c) (rw (gate-refuse _ _ e c q) (or-true (resent a e)))) h
      go Resend q z = rw (note-skip a e (last_at b.players e.player).answer (rw (resent-is, gate-resend _ _ e q))) h
      go Take q z = taken-keeps (gate-take _ _ e q) z

pub arrive-keeps : (b : Book) (a : Account) (d : Decoded) → Inv b a → Inv (arrive b d).book (note_arrival a d (arrive b d).answer)
unfolding arrive note_arrival
arrive-keeps b a (Invalid code) h = h
arrive-keeps b a (Valid e) h = step_keeps b a e h

-- an event answered 30 is not taken
bad-noted : (a : Account) (d : Decoded) → note_arrival a d (refusal 30) ≡ a
unfolding note_arrival called_taken
bad-noted a (Invalid code) = refl
bad-noted a (Valid e) = note-skip a e (refusal 30) (or-true (resent a e))

pub bad-kept : (b : Book) (a : Account) (x : Arrival) → good b x.lines ≡ false → note_arrival a x.event (receive b x).answer ≡ a
unfolding receive admitted arrive
bad-kept b a x q = rw q (bad-noted a x.event)

pub receive-keeps : (b : Book) (a : Account) (x : Arrival) → Inv b a
    → Inv (receive b x).book (note_arrival a x.event (receive b x).answer)
unfolding receive admitted arrive
receive-keeps b a x h =
    on_test (good b x.lines)
    (λ q. rw q (arrive-keeps b a x.event h))
    (λ q. rw (q, bad-noted a x.event) h)
