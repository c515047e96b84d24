-- An entry's marks are its open uses, in every legal book and by the ledger.
use Prim.Native.Nat.{ℕ, ◌≤◌, ◌<◌}
use mathlib.Core.Path.{◌≡◌, refl, sym, ap, subst, ◌∙◌}
use mathlib.Core.Logic.{◌↔◌, ◌⊎◌, inl, inr}
use mathlib.Core.Bool.{true, false, not}
use mathlib.Core.List.{List, [], ◌∷◌}
use lib.Dec.{eqb}
use native.Mathlib.Omega.{arith}
use borrow.Author.Tests.{eqb-true, eq-eqb, ne_eqb}
use Rattle.numbers.specs.Bits.{bit, ones}
use Rattle.numbers.proofs.BitLaws.{mask-bit, ones-mask}
use Rattle.book.specs.declared.Meters.{Meters}
use Rattle.book.specs.declared.Book.{Book}
use Rattle.model.specs.Book.{limits_at, meters_at, player_at, entries_in, is_group, opens, open_uses, marks_of, Legal, Fresh}
use Rattle.model.specs.Step.{open_at}
use Rattle.model.specs.Report.{Arrival, receive}
use Rattle.model.specs.Ledger.{Use, Account, time_of, latest, is_open, open_by, marks_by, open_together}
use Rattle.model.specs.Demand3.{State, starting, after, Every, figures}
use Rattle.model.specs.Marked.{marks_in, HasOpen, SomeUse, MarksAreUses, MarksByLedger, Marked}
use Rattle.model.proofs.Ledger.Facts.{on_test, on_same, clash, and_left, and_right, and_both}
use Rattle.model.proofs.Ledger.Sums.{ShutFor, Tidy, all_map}
use Rattle.model.proofs.Ledger.Marks.{marks-together}
use Rattle.model.proofs.Ledger.Steps.{Inv}
use Rattle.model.proofs.Ledger.WellFormed.{legal-formed}
use Rattle.model.proofs.Demand3.History.{fresh-inv, after-inv}
use Rattle.model.proofs.Legal.Rules.{sound-of}
use Rattle.model.proofs.Legal.Step.{receive-legal}
use Rattle.model.proofs.Image.Marks.{legal-marks, marks-fit}

-- ## A legal book

module _ (b : Book) (h : Legal b) where
  each-bit : (i p : ℕ) → i < entries_in b → p < 16 → bit p (marks_in b i) ≡ opens i (open_at b.players p)
  unfolding marks_of
  each-bit i p k l = ap (bit p) (legal-marks b h i k) ∙ mask-bit (λ q. opens i (open_at b.players q)) 16 p l

  counted : (i : ℕ) → i < entries_in b → ones (marks_in b i) ≡ open_uses b.players i
  unfolding marks_of open_uses
  counted i k = ap ones (legal-marks b h i k) ∙ ones-mask (λ q. opens i (open_at b.players q))

  pub marks-are-uses : MarksAreUses b
  unfolding opens
  marks-are-uses = record {
    each = λ i p k l.
        let o = open_at b.players p in (
          λ e.
              let z = sym (each-bit i p k l) ∙ e in
              record {
                on = eqb-true o.on 1 (and_left (eqb o.on 1) _ z);
                entry = eqb-true o.entry i (and_right (eqb o.on 1) _ z);
              },
          λ w. each-bit i p k l ∙ and_both (eq-eqb o.on 1 w.on) (eq-eqb o.entry i w.entry),
        );
    sixteen = marks-fit b h;
    number = counted;
    together = λ i k d.
        let m = (sound-of b h).meters i k in
        let f : is_group (limits_at b.entries i) ≡ true = ap not (ne_eqb (limits_at b.entries i).threshold 0 d) in
        omega (arith, m.together f, ap ones m.marks, counted i k);
  }

-- ## The ledger

module _ (T i p : ℕ) where
  open-some : (us : List Use) → open_by T i (latest p us) ≡ true → SomeUse T i p us
  unfolding latest
  open-some [] e = clash e refl
  open-some (u ∷ us) e =
      on_test (eqb u.player p)
      (λ q.
      let z = rw q at e in
      inl (eqb-true u.player p q, eqb-true u.entry i (and_left (eqb u.entry i) _ z), and_right (eqb u.entry i) _ z))
      (λ q. inr (open-some us (rw q at e)))

  none-some : (us : List Use) → Every (ShutFor T p) us → SomeUse T i p us → ⊥
  none-some [] h w = elim w [ ]
  none-some (u ∷ us) h (inl w) = clash w.2 (h.0 w.0)
  none-some (u ∷ us) h (inr w) = none-some us h.1 w

  some-open : (us : List Use) → Tidy T us → SomeUse T i p us → open_by T i (latest p us) ≡ true
  unfolding latest
  some-open [] h w = elim w [ ]
  some-open (u ∷ us) h (inl w) = rw (eq-eqb u.player p w.0) (and_both (eq-eqb u.entry i w.1) w.2)
  some-open (u ∷ us) h (inr w) =
      on_same u.player p
      (λ e. absurd (none-some us (subst (λ (x : ℕ). Every (ShutFor T x) us) e h.0) w))
      (λ d. rw (ne_eqb u.player p d) (some-open us h.1 w))

module _ (s : State) (h : Inv s.book s.account) where
  abbrev T : ℕ
  T = time_of s.account.taken

  abbrev us : List Use
  us = s.account.uses

  tidy : Tidy T us
  tidy = subst (λ (t : ℕ). Tidy t us) h.time h.held.tidy

  players : Every (λ u. u.player < 16) us
  players = all_map (λ u w. omega (arith, w.player, h.formed.players)) us h.held.sound

  marks-by : (i : ℕ) → marks_in s.book i ≡ marks_by (λ q. T) us i
  unfolding figures
  marks-by i = ap (λ (m : Meters). m.marks) (h.held.meters i) ∙ ap (λ (t : ℕ). marks_by (λ q. t) us i) h.time

  bit-by : (i p : ℕ) → p < 16 → bit p (marks_in s.book i) ≡ open_by T i (latest p us)
  unfolding marks_by
  bit-by i p k = ap (bit p) (marks-by i) ∙ mask-bit (λ q. open_by T i (latest q us)) 16 p k

  pub marks-by-ledger : MarksByLedger s
  marks-by-ledger = record {
    each = λ i p k. (λ e. open-some T i p us (sym (bit-by i p k) ∙ e), λ w. bit-by i p k ∙ some-open T i p us tidy w);
    number = λ i. ap ones (marks-by i) ∙ marks-together T i us tidy players;
  }

pub marked : Marked
marked = record {
  legal = marks-are-uses;
  kept = λ b x h. marks-are-uses (receive b x).book (receive-legal b x h);
  ledger = λ b h f xs.
      marks-by-ledger (after (starting b) xs) (after-inv xs (starting b) (fresh-inv b (legal-formed b h) f));
}
