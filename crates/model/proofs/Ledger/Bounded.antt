-- How many uses and seconds a ledger can have after so many events: no more uses than events, at most 300 seconds for each.
use mathlib.Core.Path.{◌≡◌, refl, sym, subst, ◌∙◌}
use Prim.Native.Nat.{ℕ, suc, ◌+◌, ◌*◌, ◌≤◌}
use mathlib.Core.Bool.{or-true}
use mathlib.Core.List.{List, [], ◌∷◌}
use lib.ListN.{length}
use native.Mathlib.Omega.{arith}
use Rattle.book.specs.declared.Book.{Book}
use Rattle.book.specs.declared.Event.{Event}
use Rattle.book.specs.Decoded.{Decoded, Invalid, Valid}
use Rattle.book.specs.Gate.{Gate, Refuse, Resend, Take}
use Rattle.model.specs.Gate.{gate}
use Rattle.model.specs.Step.{refusal, last_at, taken_step, step_by, step, arrive}
use Rattle.model.specs.Report.{Arrival, good, admitted, receive}
use Rattle.model.specs.Ledger.{Account, empty, resent, ran, sum_of, note, note_arrival}
use Rattle.model.specs.Demand3.{State, advance, after}
use Rattle.model.proofs.Ledger.Facts.{on_test}
use Rattle.model.proofs.Ledger.Steps.{Inv, gate-take, gate-refuse, gate-resend, resent-is, note-skip, note-take, taken-did, bad-kept}
use Rattle.model.proofs.Ledger.Steps.{receive-keeps}

-- after n events
pub record Bounded (n : ℕ) (a : Account) : Type 0 where
  pub uses : length a.uses ≤ n
  pub seconds : sum_of ran a.uses ≤ 300 * n

pub empty-bounded : Bounded 0 empty
unfolding sum_of
empty-bounded = record { uses = omega arith; seconds = omega arith }

-- ## One event

-- it leaves the account as it is
skips : (n : ℕ) (a : Account) → Bounded n a → Bounded (suc n) a
skips n a g = record { uses = omega (arith, g.uses); seconds = omega (arith, g.seconds) }

module _ (n : ℕ) (b : Book) (a : Account) (h : Inv b a) (g : Bounded n a) where
  taken-bounded : (e : Event) → gate b.time (last_at b.players e.player) e ≡ Take
      → Bounded (suc n) (note a e (taken_step b e).answer)
  unfolding taken_step
  taken-bounded e q =
      let t = gate-take _ _ e q in
      let d = taken-did b a e h t in
      subst (Bounded (suc n)) (sym (note-take a e (taken_step b e).answer (resent-is b a e h ∙ t.fresh) d.taken))
      (record { uses = omega (arith, d.uses, g.uses); seconds = omega (arith, d.seconds, g.seconds) })

  arrive-bounded : (d : Decoded) → Bounded (suc n) (note_arrival a d (arrive b d).answer)
  unfolding arrive note_arrival step step_by
  arrive-bounded (Invalid code) = skips n a g
  arrive-bounded (Valid e) = go (gate b.time (last_at b.players e.player) e) refl
    where
      go : (w : Gate) → gate b.time (last_at b.players e.player) e ≡ w → Bounded (suc n) (note a e (step_by w b e).answer)
      go (Refuse code) q =
          subst (Bounded (suc n)) (sym (note-skip a e (refusal code) (rw (gate-refuse _ _ e code q) (or-true (resent a e))))) (skips n a g)
      go Resend q =
          subst (Bounded (suc n))
          (sym (note-skip a e (last_at b.players e.player).answer (rw (resent-is b a e h, gate-resend _ _ e q)))) (skips n a g)
      go Take q = taken-bounded e q

  receive-bounded : (x : Arrival) → Bounded (suc n) (note_arrival a x.event (receive b x).answer)
  unfolding receive admitted
  receive-bounded x =
      on_test (good b x.lines)
      (λ q. rw q (arrive-bounded x.event))
      (λ q. subst (Bounded (suc n)) (sym (bad-kept b a x q)) (skips n a g))

-- ## A list of them

pub after-bounded : (xs : List Arrival) (n most : ℕ) (s : State) → n + length xs ≤ most → Inv s.book s.account
    → Bounded n s.account → Bounded most (after s xs).account
unfolding after advance
after-bounded [] n most s k h g = record { uses = omega (arith, g.uses, k); seconds = omega (arith, g.seconds, k) }
after-bounded (x ∷ xs) n most s k h g =
    after-bounded xs (suc n) most (advance s x) (omega (arith, k)) (receive-keeps s.book s.account x h)
    (receive-bounded n s.book s.account h g x)
