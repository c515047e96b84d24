-- Which number is in line after a player's last one, and the verdict on a number that is not.
use Rattle.std.specs.Prelude.{ℕ, ◌+◌, ◌≤◌, ◌≡◌, Bool, true, false, ◌&&◌, cond, eqb, ltb}
use Rattle.std.proofs.Common.{sym, ap, subst, ◌∙◌, arith, le-leb, lt-ltb, le-ltb, ltb-true, ltb-false, ne_eqb}
use Rattle.std.proofs.Math.Bool.{and-false}
use Rattle.numbers.proofs.Tests.{on_test, on_same}
use Rattle.numbers.proofs.TableLaws.{below_or_not}
use Rattle.book.specs.declared.Last.{Last}
use Rattle.book.specs.declared.Event.{Event}
use Rattle.book.specs.Gate.{Gate, Refuse, Resend}
use Rattle.model.specs.Gate.{largest_number, boot_of, counter_of, same_number, same_request, in_line}
use Rattle.model.specs.Demand1.{Follows}
use Rattle.model.proofs.Demand3.Checks.{none_after, other-number, line-is, line-follows, follows-not}

-- "Equal to the player's last number (not 0): a *resend* if operation, asset and kind are equal. ... else 4. Anything but last + 1: 3", and by
-- order 4 anything but that and counter 1 under a greater boot number
unfoldable pub out_of_line : Last → Event → Gate
out_of_line l e = cond (same_number l e.number) (cond (same_request l e.request) Resend (Refuse 4)) (Refuse 3)

-- after the largest number none is in line
pub none-in-line : (l : Last) (number : ℕ) → l.number ≡ largest_number → in_line l number ≡ false
none-in-line l number e = line-follows l number (λ f. none_after number (subst (λ (m : ℕ). Follows m number) e f))

-- with counter 1, and not the next one, a greater number is one with a greater boot number
greater-boot-number : (m n : ℕ) → counter_of n ≡ 1 → (n ≡ m + 1 → ⊥) → ltb m n ≡ ltb (boot_of m) (boot_of n)
greater-boot-number m n c other =
    on_test (ltb m n)
    (λ q.
    let above = ltb-true m n q in
    q ∙ sym (below_or_not (m + 1) n
    (λ h. lt-ltb (boot_of m) (boot_of n) (omega (arith, c, h)))
    (λ h. absurd (other (omega (arith, above, h))))))
    (λ q. q ∙ sym (le-ltb (boot_of m) (boot_of n) (omega (arith, ltb-false m n q))))

pub by-boot : (l : Last) (number : ℕ) → number ≤ largest_number → (number ≡ l.number + 1 → ⊥)
    → (ltb l.number number && eqb (counter_of number) 1) ≡ in_line l number
unfolding in_line
by-boot l number h other =
    rw (le-leb number largest_number h, ne_eqb number (l.number + 1) other)
    (on_same (counter_of number) 1
    (λ c. ap (λ (t : Bool). t && eqb (counter_of number) 1) (greater-boot-number l.number number c other))
    (λ c. rw (ne_eqb (counter_of number) 1 c) (and-false (ltb l.number number) ∙ sym (and-false (ltb (boot_of l.number) (boot_of number))))))

-- a number in line is not the last one, so it can be tested first
pub in-line-other : (l : Last) (number : ℕ) → in_line l number ≡ true → same_number l number ≡ false
in-line-other l number e = other-number l number (λ p q. follows-not l number (line-is l number e) q)
