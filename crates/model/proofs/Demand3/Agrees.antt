-- The book agrees with the ledger after every list of events, and a cancel behind a begin gives the meters back.
use Prim.Native.Nat.{ℕ, ◌≤◌, ◌<◌}
use mathlib.Core.Path.{◌≡◌, refl, sym, ap, subst, ◌∙◌}
use mathlib.Core.Bool.{Bool, true, false, not, ◌&&◌, cond}
use mathlib.Core.List.{List, [], ◌∷◌}
use lib.Dec.{ltb, eqb}
use native.Mathlib.Omega.{arith}
use borrow.Author.Tests.{eqb-true, eqb-false, eq-eqb, ne_eqb, not-true}
use Rattle.numbers.specs.Count.{one}
use Rattle.numbers.specs.Bits.{bit, put_bit}
use Rattle.numbers.proofs.BitLaws.{put_back}
use Rattle.book.specs.declared.Limits.{Limits}
use Rattle.book.specs.declared.Meters.{Meters}
use Rattle.book.specs.declared.Recent.{Recent}
use Rattle.book.specs.declared.Book.{Book}
use Rattle.model.specs.Book.{limits_at, meters_at, entries_in, momentary, flagged, Legal}
use Rattle.model.specs.Record.{operation_number, request_asset}
use Rattle.model.specs.Meters.{where_flagged, is_started, interval_from, begun, cancelled}
use Rattle.model.specs.Step.{starts_interval}
use Rattle.model.specs.Ledger.{Use, Taken, time_of, is_open, earliest}
use Rattle.model.specs.Demand3.{State, starting, after, Every, is_some, figures, held_in, granted_begin, AddedBy}
use Rattle.model.specs.Agrees.{StartedLast, KeptBy, Agrees}
use Rattle.model.proofs.Ledger.Facts.{on_test, clash, and_left, and_right, and_both, cond-off, meters-path}
use Rattle.model.proofs.Ledger.Steps.{Inv, Newest, opens_use}
use Rattle.model.proofs.Ledger.WellFormed.{legal-formed}
use Rattle.model.proofs.Demand3.History.{fresh-inv, after-inv}
use Rattle.model.proofs.Demand3.Cancel.{is-begin, granted-last}
use Rattle.model.proofs.Legal.Rules.{MeterOk, sound-of}
use Rattle.model.proofs.Image.Marks.{marks-fit}

-- ## Whether an entry has a use

first-none : (i : ℕ) (us : List Use) → is_some (earliest i us) ≡ false → Every (λ u. u.entry ≡ i → ⊥) us
unfolding earliest
first-none i [] e = tt
first-none i (u ∷ us) e =
    on_test (eqb u.entry i)
    (λ q. clash refl (rw q at e))
    (λ q. (eqb-false u.entry i q, first-none i us (rw q at e)))

none_first : (i : ℕ) (us : List Use) → Every (λ u. u.entry ≡ i → ⊥) us → is_some (earliest i us) ≡ false
unfolding earliest
none_first i [] h = refl
none_first i (u ∷ us) h = rw (ne_eqb u.entry i h.0) (none_first i us h.1)

-- ## The header's mark

same_head : (u v : Use) (us vs : List Use) → u ∷ us ≡ v ∷ vs → u ≡ v
same_head u v us vs e = cc

same-tail : (u v : Use) (us vs : List Use) → u ∷ us ≡ v ∷ vs → us ≡ vs
same-tail u v us vs e = cc

module _ (s : State) (h : Inv s.book s.account) where
  abbrev starts : Use → List Use → Bool
  starts u us = flagged 16 (limits_at s.book.entries u.entry) && not (is_some (earliest u.entry us))

  started-last : s.book.latest.started ≡ 1 → StartedLast s
  unfolding is_open time_of
  started-last marked = go s.account.taken refl
    where
      mark : eqb s.book.latest.started 1 ≡ true
      mark = eq-eqb s.book.latest.started 1 marked

      go : (ts : List Taken) → s.account.taken ≡ ts → StartedLast s
      go [] y = absurd (omega (arith, h.none y, marked))
      go (x ∷ xs) y =
          on_test (opens_use x)
          (λ q.
          let n = (h.taken-last x xs y).opens q in
          let g = and_left (granted_begin x) _ q in
          let k = is-begin x.event.request (and_left (eqb (operation_number x.event.request) 1) _ g) in
          let w : starts n.current n.newest.rest ≡ true = sym n.newest.marked ∙ mark in
          record {
            begun = record {
              last = x;
              earlier = xs;
              is_last = y;
              kind = k.0;
              asset = k.1.0;
              begin = k.1.1;
              granted = eqb-true _ _ (and_right (eqb (operation_number x.event.request) 1) _ g);
            };
            current = n.current;
            others = n.newest.rest;
            is-newest = n.newest.is;
            added = subst (λ (asset : ℕ). AddedBy x asset n.current) (ap request_asset k.1.1) n.added;
            opened =
                ap (λ (t : ℕ). is_open t n.current) (ap time_of y)
                ∙ and_both (ap not n.added.stopped)
                (ap (ltb x.event.time) n.added.until ∙ and_right (granted_begin x) (ltb x.event.time x.answer.until) q);
            interval = and_left (flagged 16 (limits_at s.book.entries n.current.entry)) _ w;
            first = first-none n.current.entry n.newest.rest
                (not-true (is_some (earliest n.current.entry n.newest.rest))
                (and_right (flagged 16 (limits_at s.book.entries n.current.entry)) _ w));
          })
          (λ q. clash mark ((h.taken-last x xs y).unmarked q))

  marked-so : (w : StartedLast s)
      → Newest (limits_at s.book.entries) w.begun.last (eqb s.book.latest.started 1) s.account.uses
      → s.book.latest.started ≡ 1
  marked-so w n =
      let same = sym n.newest.is ∙ w.is-newest in
      eqb-true s.book.latest.started 1
      (n.newest.marked
      ∙ ap (λ (u : Use). starts u n.newest.rest) (same_head n.current w.current n.newest.rest w.others same)
      ∙ ap (starts w.current) (same-tail n.current w.current n.newest.rest w.others same)
      ∙ and_both w.interval (ap not (none_first w.current.entry w.others w.first)))

  last-started : StartedLast s → s.book.latest.started ≡ 1
  unfolding is_open time_of
  last-started w =
      let x : Taken = w.begun.last in
      let runs : ltb x.event.time x.answer.until ≡ true =
      sym (ap (ltb x.event.time) w.added.until)
      ∙ sym (ap (λ (t : ℕ). ltb t w.current.until) (ap time_of w.begun.is_last))
      ∙ and_right (not w.current.stopped) (ltb (time_of s.account.taken) w.current.until) w.opened in
      marked-so w ((h.taken-last x w.begun.earlier w.begun.is_last).opens (and_both (granted-last w.begun) runs))

  pub kept_by : KeptBy s
  kept_by = record {
    meters = λ i. h.held.meters i
        ∙ ap (λ (t : ℕ). figures (λ p. t) s.account.uses i (limits_at s.book.entries i)) h.time;
    opens = λ p. h.held.opens p ∙ ap (λ (t : ℕ). held_in t p s.account.uses) h.time;
    lasts = h.lasts;
    player = h.player;
    started = (started-last, last-started);
    mark = h.mark;
  }

-- ## A cancel behind a begin

module _ (m : Meters) (t : ℕ) (w : Bool) where
  back-first : (f : Bool) → w ≡ (f && not (is_started m)) → (f ≡ false → m.started ≡ 0) → (is_started m ≡ false → m.first ≡ 0)
      → cond w 0 (where_flagged f (interval_from t m)) ≡ m.first
  back-first true e u v = on_test (is_started m) (λ q. rw (e, q)) (λ q. rw (e, q) (sym (v q)))
  back-first false e u v = rw e (sym (v (ap (λ (n : ℕ). eqb n 1) (u refl))))

  back-started : (f : Bool) → w ≡ (f && not (is_started m)) → (f ≡ false → m.started ≡ 0) → m.started ≤ 1
      → cond w 0 (one f) ≡ m.started
  back-started true e u l =
      on_test (is_started m) (λ q. rw (e, q) (sym (eqb-true m.started 1 q)))
      (λ q. rw (e, q) (omega (arith, l, eqb-false m.started 1 q)))
  back-started false e u l = rw e (sym (u refl))

starts-running : (l : Limits) (m : Meters) → momentary l.kind ≡ false → starts_interval l m ≡ (flagged 16 l && not (is_started m))
unfolding starts_interval
starts-running l m q = rw q

back : {T k n x : ℕ} (p t until : ℕ) (r : Recent) (l : Limits) (m : Meters) → MeterOk T l m k n x → m.marks < 65536
    → bit p m.marks ≡ false → momentary l.kind ≡ false → r.started ≡ starts_interval l m
    → cancelled p r t until l (begun p t until l m) ≡ m
unfolding begun cancelled
back p t until r l m h fits clear q e =
    let w = e ∙ starts-running l m q in
    meters-path
    (omega arith)
    (omega arith)
    (back-started m t r.started (flagged 16 l) w h.unstarted h.mark)
    (back-first m t r.started (flagged 16 l) w h.unstarted h.unset)
    (omega arith)
    (ap (put_bit p false) (cond-off (momentary l.kind) m.marks (put_bit p true m.marks) q) ∙ put_back p m.marks fits clear)

pub agrees : Agrees
agrees = record {
  kept = λ b h f xs. kept_by (after (starting b) xs) (after-inv xs (starting b) (fresh-inv b (legal-formed b h) f));
  inverse = λ b i p t until r h k clear q e.
      back p t until r (limits_at b.entries i) (meters_at b.entries i) ((sound-of b h).meters i k) (marks-fit b h i) clear q e;
}
