-- The answer to a cancel, by the ledger: whether the event taken last was its player's granted begin of a use still open.
use mathlib.Core.Path.{◌≡◌, refl, sym, ap, subst, ◌∙◌}
use Prim.Native.Nat.{ℕ}
use mathlib.Core.Bool.{true, false, cond}
use mathlib.Core.List.{List, [], ◌∷◌}
use mathlib.Core.Option.{some}
use lib.Dec.{eqb}
use native.Mathlib.Omega.{arith}
use borrow.Author.Tests.{eqb-true, eq-eqb}
use Rattle.book.specs.declared.Entry.{Entry}
use Rattle.book.specs.declared.Answer.{Answer}
use Rattle.book.specs.declared.Open.{Open}
use Rattle.book.specs.declared.Book.{Book}
use Rattle.book.specs.declared.Event.{Event}
use Rattle.book.specs.declared.Kind.{Kind}
use Rattle.book.specs.declared.Recent.{Recent}
use Rattle.book.specs.declared.Request.{Request}
use Rattle.book.specs.declared.Request.TheVariants.{Begin, Continue, Stop, Cancel}
use Rattle.book.specs.Blank.{closed}
use Rattle.model.specs.Record.{operation_number, request_asset}
use Rattle.model.specs.Meters.{is_on}
use Rattle.model.specs.Step.{refusal, do_cancel, done, step}
use Rattle.model.specs.Ledger.{Use, Taken, Account, without, posted, note_arrival, latest, is_open}
use Rattle.model.specs.Demand3.{State, Takes, NothingOpen, filled, held_in, recent_by, LastBegin, JustBegun, AddedBy, TakenBack}
use Rattle.model.specs.Demand3.{Cancels, granted_begin, begun_last}
use Rattle.model.proofs.Ledger.Facts.{on_test, clash, and_left, and_right, and_both}
use Rattle.model.proofs.Ledger.Sums.{latest-player}
use Rattle.model.proofs.Ledger.Invariant.{held_as, held-cases}
use Rattle.model.proofs.Ledger.Steps.{Inv, newest-open, without-newest, entered, note-take, gate-take}
use Rattle.model.proofs.Demand3.Current.{taking, answer-is, idle-on, busy}

pub is-begin : (q : Request) → eqb (operation_number q) 1 ≡ true → (k : Kind) × ((n : ℕ) × (q ≡ Begin k n))
is-begin (Begin k n) y = (k, (n, refl))
is-begin Continue y = clash y refl
is-begin Stop y = clash y refl
is-begin Cancel y = clash y refl

pub granted-last : {s : State} (j : LastBegin s) → granted_begin j.last ≡ true
granted-last j = and_both (ap (λ (q : Request). eqb (operation_number q) 1) j.begin) (eq-eqb _ _ j.granted)

module _ (s : State) (e : Event) (h : Inv s.book s.account) (t : Takes s e) (x : e.request ≡ Cancel) where
  abbrev B : Book
  B = s.book

  abbrev F : List Entry
  F = filled e.time s.account.uses B.entries

  abbrev O : Open
  O = held_in e.time e.player s.account.uses

  abbrev R : Recent
  R = recent_by e.player s.account.taken

  abbrev begun : Type 0
  begun = begun_last e.player s.account.taken ≡ true

  cancel-is : (o : Open) → O ≡ o → (step B e).answer ≡ (do_cancel F o e.player R).answer
  unfolding done
  cancel-is o c = answer-is s e h t Cancel x ∙ ap (λ (y : Open). (do_cancel F y e.player R).answer) c

  cancel-closed : O ≡ closed → (step B e).answer ≡ refusal 14
  unfolding do_cancel
  cancel-closed c = cancel-is closed c

  cancel-since : (u : Use) → O ≡ held_as u → begun_last e.player s.account.taken ≡ false → (step B e).answer ≡ refusal 44
  unfolding do_cancel
  cancel-since u c q = cancel-is (held_as u) c ∙ rw q

  cancel_back : (u : Use) → O ≡ held_as u → begun → (step B e).answer ≡ record { code = 0; entry = u.entry; until = u.begin }
  unfolding do_cancel
  cancel_back u c q = cancel-is (held_as u) c ∙ rw q

  -- in words
  just-begun : (u : Use) → latest e.player s.account.uses ≡ some u → is_open e.time u ≡ true → begun → JustBegun s e
  just-begun u l o q = go s.account.taken refl q
    where
      go : (ts : List Taken) → s.account.taken ≡ ts → begun_last e.player ts ≡ true → JustBegun s e
      go [] y z = clash z refl
      go (w ∷ ws) y z =
          let g = and_right (eqb w.event.player e.player) _ z in
          let k = is-begin w.event.request (and_left (eqb (operation_number w.event.request) 1) _ g) in
          record {
            begun = record {
              last = w;
              earlier = ws;
              is_last = y;
              kind = k.0;
              asset = k.1.0;
              begin = k.1.1;
              granted = eqb-true _ _ (and_right (eqb (operation_number w.event.request) 1) _ g);
            };
            player = eqb-true _ _ (and_left (eqb w.event.player e.player) _ z);
            current = u;
            is-current = record { latest-use = l; still_open = o };
          }

  begun-last : JustBegun s e → begun
  begun-last j = ap (begun_last e.player) j.begun.is_last ∙ and_both (eq-eqb _ _ j.player) (granted-last j.begun)

  held-now : (j : JustBegun s e) → O ≡ held_as j.current
  held-now j = rw (j.is-current.latest-use, j.is-current.still_open) refl

  entered-cancel : (r : Answer) (us : List Use) → r.code ≡ 0 → entered e r us ≡ without e.player us
  unfolding posted
  entered-cancel r us z = ap (λ (c : ℕ). cond (eqb c 0) (posted e.request e r us) us) z ∙ ap (λ (w : Request). posted w e r us) x

  back : (j : JustBegun s e) → TakenBack s e j (step B e).answer
  unfolding note_arrival
  back j =
      let a = cancel_back j.current (held-now j) (begun-last j) in
      let k =
      newest-open B s.account e h j.current j.is-current.latest-use j.is-current.still_open
      (gate-take _ _ e (taking s e h t)).later j.begun.last j.begun.earlier j.begun.is_last j.player
      (granted-last j.begun) in
      let n = k.0 in
      record {
        answer = a;
        added = subst (λ (asset : ℕ). AddedBy j.begun.last asset j.current) (ap request_asset j.begun.begin) k.1;
        dropped = n.is ∙ ap (λ (r : List Use). j.current ∷ r)
            (sym
            (ap (λ (y : Account). y.uses) (note-take s.account e (step B e).answer t.new t.taken)
            ∙ entered-cancel (step B e).answer s.account.uses (ap (λ (y : Answer). y.code) a)
            ∙ (ap (without e.player) n.is ∙ without-newest e.player j.current n.rest
            (latest-player e.player s.account.uses j.current j.is-current.latest-use))));
      }

  pub cancels : Cancels s e
  cancels =
      held-cases e.time e.player s.account.uses O refl
      (λ c g.
      let idle : NothingOpen e.time e.player s.account.uses = idle-on s e h t (ap (λ (o : Open). is_on o) c) in
      let a = ap (λ (y : Answer). y.code) (cancel-closed c) in
      record {
        nothing = (λ y. idle, λ n. cancel-closed c);
        since = (λ y. absurd (omega (arith, y, a)), λ n. absurd (n.0 idle));
        back = back;
        granted = λ y z. absurd (y a);
      })
      (λ u l o c.
      on_test (begun_last e.player s.account.taken)
      (λ q.
      let a = ap (λ (y : Answer). y.code) (cancel_back u c q) in
      record {
        nothing = (λ y. absurd (omega (arith, y, a)), λ n. absurd (busy s e h t u c n));
        since = (λ y. absurd (omega (arith, y, a)), λ n. absurd (n.1 (just-begun u l o q)));
        back = back;
        granted = λ y z. just-begun u l o q;
      })
      (λ q.
      let a = ap (λ (y : Answer). y.code) (cancel-since u c q) in
      record {
        nothing = (λ y. absurd (omega (arith, y, a)), λ n. absurd (busy s e h t u c n));
        since = (λ y. (busy s e h t u c, λ k. clash (begun-last k) q), λ n. cancel-since u c q);
        back = back;
        granted = λ y z. absurd (z a);
      }))
