-- A taken event, by the ledger: whether its player has a use open, and hence the answer to a continue and to a stop.
-- The rules look at the player's latest use; all earlier ones have ended.
use mathlib.Core.Path.{◌≡◌, refl, ap, ◌∙◌}
use Prim.Native.Nat.{ℕ, ◌≤◌, ◌<◌}
use mathlib.Core.Bool.{true, false}
use mathlib.Core.Logic.{◌⊎◌, inl, inr}
use mathlib.Core.List.{List, [], ◌∷◌, map}
use mathlib.Core.Option.{some}
use lib.ListN.{length}
use lib.Dec.{leb}
use native.Mathlib.Omega.{arith}
use borrow.Author.Tests.{leb-true, le-leb}
use Rattle.book.specs.declared.Entry.{Entry}
use Rattle.book.specs.declared.Answer.{Answer}
use Rattle.book.specs.declared.Open.{Open}
use Rattle.book.specs.declared.Book.{Book}
use Rattle.book.specs.declared.Event.{Event}
use Rattle.book.specs.declared.Recent.{Recent}
use Rattle.book.specs.declared.Request.{Request}
use Rattle.book.specs.declared.Request.TheVariants.{Continue, Stop}
use Rattle.book.specs.Gate.{Gate, Refuse, Resend, Take}
use Rattle.book.specs.Blank.{closed}
use Rattle.model.specs.Book.{limits_at, meters_at}
use Rattle.model.specs.Choice.{asks, catalog_of, more_until}
use Rattle.model.specs.Meters.{is_on, shut}
use Rattle.model.specs.Step.{refusal, more, do_continue, do_stop, done, last_at, open_at, step_by, step}
use Rattle.model.specs.Gate.{gate}
use Rattle.model.specs.Ledger.{Use, Account, resent, called_taken, latest, is_open}
use Rattle.model.specs.Demand3.{State, Takes, NothingOpen, SomeOpen, IsLeast, filled, Lengthened, Continues, Stops, held_in}
use Rattle.model.specs.Demand3.{Every, figures, recent_by}
use Rattle.model.proofs.Ledger.Facts.{on_test, on_same, clash}
use Rattle.model.proofs.Ledger.Sums.{ShutFor, Tidy, all_map, all-latest, all-shut, latest-player}
use Rattle.model.proofs.Ledger.Invariant.{Invariant, held_as, held-cases, more-ge}
use Rattle.model.proofs.Ledger.Concrete.{settled-held}
use Rattle.model.proofs.Ledger.Steps.{Inv, gate-refuse, gate-take, gate-resend, resent-is}
use Rattle.model.proofs.Demand3.Until.{until-least}
use Rattle.model.proofs.Demand3.History.{settled-filled, filled-limits, filled-meters, judged}

-- either nothing is open or some use is, and not both
none_or_some : (T p : ℕ) (us : List Use) → NothingOpen T p us ⊎ SomeOpen T p us
none_or_some T p [] = inl tt
none_or_some T p (u ∷ us) = behind (none_or_some T p us)
  where
    behind : NothingOpen T p us ⊎ SomeOpen T p us → NothingOpen T p (u ∷ us) ⊎ SomeOpen T p (u ∷ us)
    behind (inr x) = inr (inr x)
    behind (inl n) =
        on_same u.player p
        (λ q. on_test (is_open T u) (λ o. inr (inl (q, o))) (λ o. inl (λ r. o, n)))
        (λ q. inl (λ r. absurd (q r), n))

none-not-some : (T p : ℕ) (us : List Use) → NothingOpen T p us → SomeOpen T p us → ⊥
none-not-some T p [] n x = x
none-not-some T p (u ∷ us) n (inl x) = clash x.1 (n.0 x.0)
none-not-some T p (u ∷ us) n (inr x) = none-not-some T p us n.1 x

-- an event that is no resend and is answered as taken has passed the gate
takes-gate : (b : Book) (a : Account) (e : Event) → Inv b a → resent a e ≡ false → called_taken (step b e).answer.code ≡ true
    → gate b.time (last_at b.players e.player) e ≡ Take
unfolding step step_by
takes-gate b a e h r t = go (gate b.time (last_at b.players e.player) e) refl t
  where
    go : (g : Gate) → gate b.time (last_at b.players e.player) e ≡ g → called_taken (step_by g b e).answer.code ≡ true
        → gate b.time (last_at b.players e.player) e ≡ Take
    go (Refuse c) q x = clash x (gate-refuse _ _ e c q)
    go Resend q x = clash (resent-is b a e h ∙ gate-resend _ _ e q) r
    go Take q x = q

-- the new until at t of use u, by the ledger
abbrev new_until : State → Event → Use → ℕ
new_until s e u = more (filled e.time s.account.uses s.book.entries) (held_as u) e.time

module _ (s : State) (e : Event) (h : Inv s.book s.account) (t : Takes s e) where
  abbrev B : Book
  B = s.book

  abbrev F : List Entry
  F = filled e.time s.account.uses B.entries

  abbrev O : Open
  O = held_in e.time e.player s.account.uses

  abbrev Idle : Type 0
  Idle = NothingOpen e.time e.player s.account.uses

  pub taking : gate B.time (last_at B.players e.player) e ≡ Take
  taking = takes-gate B s.account e h t.new t.taken

  abbrev R : Recent
  R = recent_by e.player s.account.taken

  pub answer-is : (q : Request) → e.request ≡ q → (step B e).answer ≡ (done q (catalog_of B) F O (asks B e) R).answer
  unfolding step step_by
  answer-is q x = rw taking (judged B s.account e h taking ∙ ap (λ (r : Request). (done r (catalog_of B) F O (asks B e) R).answer) x)

  -- the invariant at the event's time, on the ledger's figures
  now : Invariant e.time (length (map (shut e.time) B.players)) (length F) (limits_at F) (meters_at F)
      (open_at (map (shut e.time) B.players)) s.account.uses
  now =
      let later : B.time ≤ e.time = (gate-take _ _ e taking).later in
      rw (settled-filled B.time e.time B.entries B.players s.account.uses later h.held) at
      (settled-held B.time e.time B.entries B.players s.account.uses later h.held)

  -- each use is of an entry and of a player that the book has
  seated : Every (λ u. (u.entry < length B.entries) × (u.player < 16)) s.account.uses
  seated = all_map (λ u w. (w.entry, omega (arith, w.player, h.formed.players))) s.account.uses h.held.sound

  pub figures-at : (i : ℕ) → meters_at F i ≡ figures (λ p. e.time) s.account.uses i (limits_at B.entries i)
  figures-at = filled-meters e.time s.account.uses B.entries (all_map (λ u w. w.0) s.account.uses seated)

  pub tidy-now : Tidy e.time s.account.uses
  tidy-now = now.tidy

  pub players-below : Every (λ u. u.player < 16) s.account.uses
  players-below = all_map (λ u w. w.1) s.account.uses seated

  -- nothing open, by the latest use and by all uses
  pub idle-on : is_on O ≡ false → Idle
  idle-on q =
      all-shut e.time e.player s.account.uses now.tidy (λ u l.
      on_test (is_open e.time u)
      (λ o. let z : is_on O ≡ true = rw (l, o) refl in clash z q)
      (λ o. o))

  pub on-idle : Idle → is_on O ≡ false
  on-idle n =
      held-cases e.time e.player s.account.uses O refl
      (λ c g. ap (λ (o : Open). is_on o) c)
      (λ u l o c. clash o (all-latest (ShutFor e.time e.player) e.player s.account.uses u l n
      (latest-player e.player s.account.uses u l)))

  -- the same for an open use
  pub some-on : is_on O ≡ true → SomeOpen e.time e.player s.account.uses
  some-on q = go (none_or_some e.time e.player s.account.uses)
    where
      go : Idle ⊎ SomeOpen e.time e.player s.account.uses → SomeOpen e.time e.player s.account.uses
      go (inl n) = clash q (on-idle n)
      go (inr x) = x

  pub on_some : SomeOpen e.time e.player s.account.uses → is_on O ≡ true
  on_some x = on_test (is_on O) (λ q. q) (λ q. absurd (none-not-some e.time e.player s.account.uses (idle-on q) x))

  -- if a use is open, it is not the case that nothing is open
  pub busy : (u : Use) → O ≡ held_as u → Idle → ⊥
  busy u c n = clash (ap (λ (o : Open). is_on o) c) (on-idle n)

  -- ## Continue

  new-least : (u : Use) → IsLeast e.time u.until (limits_at B.entries u.entry) s.account.uses u.entry (new_until s e u)
  unfolding more_until
  new-least u =
      rw (
        filled-limits e.time s.account.uses 0 B.entries u.entry,
        figures-at u.entry,
      )
      (until-least e.time s.account.uses u.entry (limits_at B.entries u.entry) u.until)

  module _ (x : e.request ≡ Continue) where
    continue-is : (o : Open) → O ≡ o → (step B e).answer ≡ (do_continue F o e.time).answer
    unfolding done
    continue-is o c = answer-is Continue x ∙ ap (λ (y : Open). (do_continue F y e.time).answer) c

    continue-closed : O ≡ closed → (step B e).answer ≡ refusal 14
    unfolding do_continue
    continue-closed c = continue-is closed c

    continue-over : (u : Use) → O ≡ held_as u → leb (new_until s e u) u.until ≡ true → (step B e).answer ≡ refusal 15
    unfolding do_continue
    continue-over u c q = continue-is (held_as u) c ∙ rw q

    continue-more : (u : Use) → O ≡ held_as u → leb (new_until s e u) u.until ≡ false
        → (step B e).answer ≡ record { code = 0; entry = u.entry; until = new_until s e u }
    unfolding do_continue
    continue-more u c q = continue-is (held_as u) c ∙ rw q

    lengthened : (u : Use) → latest e.player s.account.uses ≡ some u → is_open e.time u ≡ true → O ≡ held_as u → Lengthened s e
        (step B e).answer
    lengthened u l o c =
        let above : u.until ≤ new_until s e u = more-ge now e.player u l o (new_until s e u) refl in
        record {
          current = u;
          is-current = record { latest-use = l; still_open = o };
          until = new_until s e u;
          least = new-least u;
          not-below = above;
          no_more = (
            λ y.
                on_test (leb (new_until s e u) u.until)
                (λ q. omega (arith, above, leb-true (new_until s e u) u.until q))
                (λ q. absurd (omega (arith, y, ap (λ (a : Answer). a.code) (continue-more u c q)))),
            λ y. continue-over u c (le-leb (new_until s e u) u.until (omega (arith, y))),
          );
          more = λ y.
              on_test (leb (new_until s e u) u.until)
              (λ q. absurd (y (omega (arith, above, leb-true (new_until s e u) u.until q))))
              (continue-more u c);
        }

    not-14 : (u : Use) → O ≡ held_as u → (step B e).answer.code ≡ 14 → ⊥
    not-14 u c y =
        on_test (leb (new_until s e u) u.until)
        (λ q. omega (arith, y, ap (λ (a : Answer). a.code) (continue-over u c q)))
        (λ q. omega (arith, y, ap (λ (a : Answer). a.code) (continue-more u c q)))

    pub continues : Continues s e
    continues =
        held-cases e.time e.player s.account.uses O refl
        (λ c g.
        let idle : Idle = idle-on (ap (λ (o : Open). is_on o) c) in
        record { nothing = (λ y. idle, λ n. continue-closed c); lengthened = λ n. absurd (n idle) })
        (λ u l o c. record { nothing = (λ y. absurd (not-14 u c y), λ n. absurd (busy u c n)); lengthened = λ n. lengthened u l o c })

  -- ## Stop

  module _ (x : e.request ≡ Stop) where
    stop_is : (o : Open) → O ≡ o → (step B e).answer ≡ (do_stop F o (asks B e)).answer
    unfolding done
    stop_is o c = answer-is Stop x ∙ ap (λ (y : Open). (do_stop F y (asks B e)).answer) c

    stop-closed : O ≡ closed → (step B e).answer ≡ refusal 14
    unfolding do_stop
    stop-closed c = stop_is closed c

    stop-open : (u : Use) → O ≡ held_as u → (step B e).answer ≡ record { code = 0; entry = u.entry; until = e.time }
    unfolding do_stop
    stop-open u c = stop_is (held_as u) c

    pub stops : Stops s e
    stops =
        held-cases e.time e.player s.account.uses O refl
        (λ c g.
        let idle : Idle = idle-on (ap (λ (o : Open). is_on o) c) in
        record { nothing = (λ y. idle, λ n. stop-closed c); halted = λ n. absurd (n idle) })
        (λ u l o c. record {
          nothing = (λ y. absurd (omega (arith, y, ap (λ (a : Answer). a.code) (stop-open u c))), λ n. absurd (busy u c n));
          halted = λ n. record { current = u; is-current = record { latest-use = l; still_open = o }; answer = stop-open u c };
        })
