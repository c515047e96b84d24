-- Until, by the ledger's figures, is the least of the statement's bounds, and one of them.
-- For a momentary kind it is the time itself.
use mathlib.Core.Path.{◌≡◌, refl, ap, ◌∙◌}
use Prim.Native.Nat.{ℕ, ◌+◌, ◌-◌, ◌≤◌}
use mathlib.Core.Bool.{Bool, true, false, cond}
use mathlib.Core.List.{List}
use mathlib.Core.Option.{Option, none, some}
use lib.Dec.{leb}
use native.Mathlib.Omega.{arith}
use borrow.Author.Tests.{leb-true, leb-false}
use Rattle.book.specs.declared.Limits.{Limits}
use Rattle.book.specs.declared.Kind.{Kind}
use Rattle.book.specs.declared.Kind.TheVariants.{Play, Display, Execute, Print, Export}
use Rattle.model.specs.Book.{flagged, momentary, grant_length}
use Rattle.model.specs.Record.{kind_number}
use Rattle.model.specs.Choice.{cap, least_until, grant_until}
use Rattle.model.specs.Meters.{interval_from}
use Rattle.model.specs.Ledger.{Use, spent_seconds, earliest}
use Rattle.model.specs.Demand3.{start_or, is_some, figures, Bound, near, last, span, unused, IsLeast, UntilIs}
use Rattle.model.proofs.Ledger.Facts.{on_test, flag-on, one-is}
use Rattle.model.proofs.Ledger.Invariant.{caps, caps-le, caps-first, caps-second, caps-third}

cap-pick : {P : Type 0} (f : Bool) (v x : ℕ) → (f ≡ true → cap f v x ≡ v → P) → (cap f v x ≡ x → P) → P
cap-pick false v x g h = h refl
cap-pick true v x g h = on_test (leb v x) (λ q. g refl (omega (arith, leb-true v x q))) (λ q. h (omega (arith, leb-false v x q)))

-- the capped time is one of the caps that apply, or the time itself
caps-pick : {P : Type 0} (f g h : Bool) (a b c d : ℕ) → (f ≡ true → caps f g h a b c d ≡ a → P) → (g ≡ true → caps f g h a b c d ≡ b → P)
    → (h ≡ true → caps f g h a b c d ≡ c → P) → (caps f g h a b c d ≡ d → P) → P
unfolding caps
caps-pick f g h a b c d w x y z =
    cap-pick f a (cap g b (cap h c d)) w (λ p.
    cap-pick g b (cap h c d) (λ q r. x q (p ∙ r)) (λ r.
    cap-pick h c d (λ q s. y q (p ∙ r ∙ s)) (λ s. z (p ∙ r ∙ s))))

module _ (t : ℕ) (us : List Use) (i : ℕ) (l : Limits) where
  from-figures : flagged 16 l ≡ true → interval_from t (figures (λ p. t) us i l) ≡ start_or t (earliest i us)
  unfolding figures
  from-figures f = rw (f, one-is (is_some (earliest i us))) (go (earliest i us))
    where
      go : (s : Option ℕ) → cond (is_some s) (start_or 0 s) t ≡ start_or t s
      go none = refl
      go (some c) = refl

  seconds-figures : flagged 32 l ≡ true → (figures (λ p. t) us i l).seconds ≡ spent_seconds us i
  unfolding figures
  seconds-figures f = flag-on (flagged 32 l) (spent_seconds us i) f

  abbrev lent : ℕ → ℕ
  lent from = caps (flagged 8 l) (flagged 16 l) (flagged 32 l) (l.end + 1) (interval_from t (figures (λ p. t) us i l) + l.interval)
      (from + (l.accumulated - (figures (λ p. t) us i l).seconds)) (t + grant_length l.kind)

  lent_is : (from : ℕ) → least_until t from l (figures (λ p. t) us i l) ≡ lent from
  unfolding least_until caps
  lent_is from = refl

  lent-least : (from x : ℕ) → Bound t from l us i x → lent from ≤ x
  unfolding grant_length
  lent-least from x (near e) = rw e (caps-le _ _ _ _ _ _ _)
  lent-least from x (last f e) = rw e (caps-first _ _ _ _ _ _ _ f)
  lent-least from x (span f e) = rw (e, ← from-figures f) (caps-second _ _ _ _ _ _ _ f)
  lent-least from x (unused f e) = rw (e, ← seconds-figures f) (caps-third _ _ _ _ _ _ _ f)

  pub until-least : (from : ℕ) → IsLeast t from l us i (least_until t from l (figures (λ p. t) us i l))
  unfolding grant_length
  until-least from = rw (lent_is from) (record {
    listed = caps-pick (flagged 8 l) (flagged 16 l) (flagged 32 l) _ _ _ _
        (λ f e. last f e)
        (λ f e. span f (e ∙ ap (λ (x : ℕ). x + l.interval) (from-figures f)))
        (λ f e. unused f (e ∙ ap (λ (x : ℕ). from + (l.accumulated - x)) (seconds-figures f)))
        (λ e. near e);
    least = lent-least from;
  })

  lasting : momentary l.kind ≡ false → IsLeast t t l us i (grant_until t l (figures (λ p. t) us i l))
  unfolding grant_until
  lasting m = rw m (until-least t)

  at_once : momentary l.kind ≡ true → grant_until t l (figures (λ p. t) us i l) ≡ t
  unfolding grant_until
  at_once m = rw m

  pub grant-until : (kind : Kind) → l.kind ≡ kind_number kind → UntilIs kind t l us i (grant_until t l (figures (λ p. t) us i l))
  unfolding momentary
  grant-until Play e = lasting (ap momentary e)
  grant-until Display e = lasting (ap momentary e)
  grant-until Execute e = lasting (ap momentary e)
  grant-until Print e = at_once (ap momentary e)
  grant-until Export e = at_once (ap momentary e)
