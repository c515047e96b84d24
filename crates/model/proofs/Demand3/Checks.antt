-- The checks before an event is taken, by the ledger: the gate in the statement's words.
use Prim.Native.Nat.{ℕ, ◌+◌, ◌≤◌, ◌<◌}
use mathlib.Core.Path.{◌≡◌, refl, sym, ap, subst, ◌∙◌}
use mathlib.Core.Bool.{true, false, ◌&&◌}
use mathlib.Core.Option.{Option, none, some}
use native.Mathlib.Omega.{arith}
use lib.Dec.{ltb, leb, eqb}
use borrow.Author.Tests.{lt-ltb, le-ltb, le-leb, eq-eqb, ne_eqb, eqb-true, ltb-true, ltb-false, leb-true}
use Rattle.numbers.proofs.Tests.{otherwise, otherwise-at}
use Rattle.book.specs.declared.Answer.{Answer}
use Rattle.book.specs.declared.Last.{Last}
use Rattle.book.specs.declared.Event.{Event}
use Rattle.book.specs.Gate.{Refuse, Resend, Take}
use Rattle.model.specs.Book.{latest_time}
use Rattle.model.specs.Gate.{same_request, same_number, largest_number, boot_of, counter_of, in_line, timely, gate}
use Rattle.model.specs.Step.{refusal, last_at, step_by, step}
use Rattle.model.specs.Ledger.{Taken, latest_taken, resent, called_taken}
use Rattle.model.specs.Demand1.{Follows, same-boot, next-boot, greater-boot}
use Rattle.model.specs.Demand3.{State, last_by, number_by, number_of, InLine, OnlyAnswers, Checked}
use Rattle.model.proofs.Ledger.Facts.{on_test, on_same, and_left, and_right, and_both}
use Rattle.model.proofs.Ledger.Steps.{Inv, again, gate-take, resent-is, taken-called}

-- ## The gate of one event

module _ (now : ℕ) (l : Last) (e : Event) where
  gate-2 : 15 < e.player → gate now l e ≡ Refuse 2
  unfolding gate
  gate-2 h = rw (lt-ltb 15 e.player h)

  module _ (known : e.player ≤ 15) where
    pub gate-again : again l e ≡ true → gate now l e ≡ Resend
    unfolding gate
    gate-again h =
        rw (
          le-ltb 15 e.player known,
          and_left (same_number l e.number) (same_request l e.request) h,
          and_right
              (same_number l e.number) (same_request l e.request) h,
        )

    pub gate-4 : same_number l e.number ≡ true → again l e ≡ false → gate now l e ≡ Refuse 4
    unfolding gate
    gate-4 h n = let z : same_request l e.request ≡ false = rw h at n in rw (le-ltb 15 e.player known, h, z)

    module _ (other : same_number l e.number ≡ false) where
      pub gate-3 : in_line l e.number ≡ false → gate now l e ≡ Refuse 3
      unfolding gate
      gate-3 h = rw (le-ltb 15 e.player known, other, h)

      module _ (line : in_line l e.number ≡ true) where
        pub gate-5 : timely now e.time ≡ false → gate now l e ≡ Refuse 5
        unfolding gate
        gate-5 h = rw (le-ltb 15 e.player known, other, line, h)

        pub gate-0 : timely now e.time ≡ true → gate now l e ≡ Take
        unfolding gate
        gate-0 h = rw (le-ltb 15 e.player known, other, line, h)

-- ## Its tests in words

-- the number after another, in boot number and counter
pub next-follows : (m n : ℕ) → n ≤ largest_number → n ≡ m + 1 → Follows m n
next-follows m n h q =
    on_test (ltb (counter_of m) 4294967295)
    (λ z.
    let c = ltb-true (counter_of m) 4294967295 z in
    same-boot (boot_of m) (counter_of m) (omega (arith, h, q)) c (omega arith) (omega (arith, q)))
    (λ z.
    let c = ltb-false (counter_of m) 4294967295 z in
    next-boot (boot_of m) (omega (arith, h, q, c)) (omega (arith, c)) (omega (arith, q, c)))

-- none follows the largest
pub none_after : (n : ℕ) → Follows largest_number n → ⊥
none_after n (same-boot boot counter b c p q) = omega (arith, b, c, p)
none_after n (next-boot boot b p q) = omega (arith, b, p)
none_after n (greater-boot boot counter greater c b g p q) = omega (arith, c, b, g, p)

module _ (l : Last) (n : ℕ) where
  pub same_number_lem : 0 < l.number → n ≡ l.number → same_number l n ≡ true
  unfolding same_number
  same_number_lem p q = rw (ne_eqb l.number 0 (λ z. omega arith)) (eq-eqb n l.number q)

  pub other-number : (0 < l.number → n ≡ l.number → ⊥) → same_number l n ≡ false
  unfolding same_number
  other-number h =
      on_same l.number 0
      (λ z. rw (eq-eqb l.number 0 z))
      (λ z. rw (ne_eqb l.number 0 z) (ne_eqb n l.number (λ q. h (omega arith) q)))

  -- the number after the last, whatever that makes of boot number and counter
  pub next-line : n ≤ largest_number → n ≡ l.number + 1 → in_line l n ≡ true
  unfolding in_line
  next-line p q = and_both (le-leb n largest_number p) (rw (eq-eqb n (l.number + 1) q))

  pub follows-line : Follows l.number n → in_line l n ≡ true
  unfolding in_line
  follows-line (same-boot boot counter b c p q) = next-line (omega (arith, b, c, q)) (omega (arith, p, q))
  follows-line (next-boot boot b p q) = next-line (omega (arith, b, q)) (omega (arith, p, q))
  follows-line (greater-boot boot counter greater c b g p q) =
      and_both (le-leb n largest_number (omega (arith, g, q)))
      (otherwise (eqb n (l.number + 1)) (ltb (boot_of l.number) (boot_of n) && eqb (counter_of n) 1)
      (λ z. and_both (lt-ltb (boot_of l.number) (boot_of n) (omega (arith, c, b, p, q))) (eq-eqb (counter_of n) 1 (omega (arith, q)))))

  pub line-is : in_line l n ≡ true → Follows l.number n
  unfolding in_line
  line-is e =
      let m = leb-true n largest_number (and_left (leb n largest_number) _ e) in
      on_same n (l.number + 1)
      (λ q. next-follows l.number n m q)
      (λ q.
      let w = otherwise-at (eqb n (l.number + 1)) _ (and_right (leb n largest_number) _ e) (ne_eqb n (l.number + 1) q) in
      let b = ltb-true (boot_of l.number) (boot_of n) (and_left (ltb (boot_of l.number) (boot_of n)) _ w) in
      let c = eqb-true (counter_of n) 1 (and_right (ltb (boot_of l.number) (boot_of n)) _ w) in
      greater-boot (boot_of l.number) (counter_of l.number) (boot_of n) (omega arith) b (omega (arith, m)) (omega arith)
      (omega (arith, c)))

  pub line-follows : (Follows l.number n → ⊥) → in_line l n ≡ false
  line-follows h = on_test (in_line l n) (λ q. absurd (h (line-is q))) (λ q. q)

  pub follows-not : Follows l.number n → n ≡ l.number → ⊥
  follows-not (same-boot boot counter b c p q) e = omega (arith, p, q, e)
  follows-not (next-boot boot b p q) e = omega (arith, p, q, e)
  follows-not (greater-boot boot counter greater c b g p q) e = omega (arith, c, b, p, q, e)

module _ (now t : ℕ) where
  pub in-time : now ≤ t → t ≤ 4000000000 → timely now t ≡ true
  unfolding timely
  in-time p q = and_both (le-leb now t p) (le-leb t latest_time q)

  pub not-in-time : (now ≤ t → t ≤ 4000000000 → ⊥) → timely now t ≡ false
  unfolding timely
  not-in-time h =
      on_test (leb now t)
      (λ p. on_test (leb t latest_time) (λ q. absurd (h (leb-true now t p) (leb-true t latest_time q))) (λ q. rw (p, q)))
      (λ p. rw p)

-- ## By the ledger

number_by_lem : (x : Option Taken) → (last_by x).number ≡ number_by x
number_by_lem none = refl
number_by_lem (some x) = refl

module _ (s : State) (e : Event) (h : Inv s.book s.account) where
  abbrev l : Last
  l = last_at s.book.players e.player

  number_is : l.number ≡ number_of s e
  number_is = ap (λ (x : Last). x.number) (h.lasts e.player) ∙ number_by_lem (latest_taken e.player s.account.taken)

  answer-is : (x : Taken) → latest_taken e.player s.account.taken ≡ some x → l.answer ≡ x.answer
  answer-is x q = ap (λ (y : Last). y.answer) (h.lasts e.player) ∙ ap (λ (y : Option Taken). (last_by y).answer) q

  refuses : (code : ℕ) → gate s.book.time l e ≡ Refuse code → OnlyAnswers s e (refusal code)
  unfolding step step_by
  refuses code g = rw g

  -- in line after the book's number, and after the account's
  follows-in : InLine s e → Follows l.number e.number
  follows-in f = subst (λ (n : ℕ). Follows n e.number) (sym number_is) f

  follows-out : Follows l.number e.number → InLine s e
  follows-out f = subst (λ (n : ℕ). Follows n e.number) number_is f

  follows-other : InLine s e → same_number l e.number ≡ false
  follows-other f = other-number l e.number (λ p q. follows-not l e.number (follows-in f) q)

  repeats-line : resent s.account e ≡ again l e
  repeats-line = resent-is s.book s.account e h

  taken-gate : gate s.book.time l e ≡ Take → called_taken (step s.book e).answer.code ≡ true
  unfolding step step_by
  taken-gate g = rw g (taken-called s.book s.account e h (gate-take s.book.time l e g))

  pub checked : Checked s e
  unfolding step step_by
  checked = record {
    no-player = λ p. refuses 2 (gate-2 s.book.time l e p);
    again = λ k x q r. rw (gate-again s.book.time l e k (sym repeats-line ∙ r))
        (ap (λ (a : Answer). record { answer = a; book = s.book }) (answer-is x q));
    unlike = λ k r p q. refuses 4 (gate-4 s.book.time l e k
        (same_number_lem l e.number (omega (arith, number_is)) (omega (arith, number_is, q))) (sym repeats-line ∙ r));
    out-of-line = λ k n f.
        refuses 3
        (gate-3 s.book.time l e k
        (other-number l e.number (λ p q. n (omega (arith, number_is)) (omega (arith, number_is, q))))
        (line-follows l e.number (λ y. f (follows-out y))));
    out-of-time = λ k f n.
        refuses 5
        (gate-5 s.book.time l e k (follows-other f) (follows-line l e.number (follows-in f))
        (not-in-time s.book.time e.time (λ p q. n (omega (arith, h.time), q))));
    takes = λ k f t.
        let g = gate-0 s.book.time l e k (follows-other f) (follows-line l e.number (follows-in f))
        (in-time s.book.time e.time (omega (arith, h.time, t.0)) t.1) in
        record { new = repeats-line ∙ (gate-take s.book.time l e g).fresh; taken = taken-gate g };
  }
