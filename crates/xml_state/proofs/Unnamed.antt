-- A number that no role has opens and closes an element as a constraint's does.
use Rattle.std.specs.Prelude.{ℕ, ◌≡◌, ◌≤◌, ◌<◌, false, ◌||◌, List, eqb, leb, nat_lt, IsTrue, Result, Ok, Err, MatchResult}
use Rattle.std.proofs.Common.{arith}
use Rattle.std.specs.Result.{result_unwrap_or}
use Rattle.std.proofs.lemmas.Bool.{ltb-true, leb-true, lt-leb, ne_eqb}
use Rattle.numbers.proofs.Tests.{on_test}
use Rattle.model.specs.Book.{between}
use Rattle.xml_model.specs.Shapes.{Tag}
use Rattle.xml_model.specs.declared.State.{State}
use Rattle.xml_model.specs.Elements.{is_kind, holds_text, closes_from}
use Rattle.xml_table.specs.declared.Role.{Role}
use Rattle.xml_table.specs.Codes.{role_code}
use Rattle.xml_model.specs.State.{begun, with_idref, with_timer_of, opening, container_done, closing}

module _ (n : ℕ) (h : IsTrue (nat_lt n 1 || nat_lt 28 n)) where
  beyond : {P : Type 0} → (n < 1 → P) → (28 < n → P) → P
  beyond f g = on_test (nat_lt n 1) (λ q. f (ltb-true n 1 q)) (λ q. g (ltb-true 28 n (rw q at h)))

  differs : (k : ℕ) → 1 ≤ k → k ≤ 28 → eqb n k ≡ false
  differs k lo hi = ne_eqb n k (λ e. beyond (λ q. omega arith) (λ q. omega arith))

  outside : (a z : ℕ) → 1 ≤ a → z ≤ 28 → between a z n ≡ false
  outside a z lo hi = on_test (leb a n)
      (λ q. rw q (beyond (λ w. absurd (omega (arith, leb-true a n q))) (λ w. lt-leb n z (omega arith))))
      (λ q. rw q)

  opening-unnamed : (s : List ℕ) (t : Tag) (st : State) → opening s t n st ≡ opening s t 21 st
  unfolding begun with_idref with_timer_of opening is_kind
  opening-unnamed s t st =
      rw (
        differs 10 (omega arith) (omega arith),
        differs 14 (omega arith) (omega arith),
        outside 16 20 (omega arith) (omega arith),
        differs 15 (omega arith) (omega arith),
        differs 23 (omega arith) (omega arith),
      )

  closing-unnamed : (s : List ℕ) (a b state : ℕ) (st : State) → closing s a b n state st ≡ closing s a b 21 state st
  unfolding holds_text closes_from container_done closing is_kind
  closing-unnamed s a b state st =
      rw (
        differs 13 (omega arith) (omega arith),
        differs 12 (omega arith) (omega arith),
        outside 5 8 (omega arith) (omega arith),
        outside 22 23 (omega arith) (omega arith),
        outside 25 28 (omega arith) (omega arith),
        outside 1 4 (omega arith) (omega arith),
        outside 9 11 (omega arith) (omega arith),
        differs 10 (omega arith) (omega arith),
        outside 16 20 (omega arith) (omega arith),
      )

-- the role of that number, if there is one
abbrev IsRole : {E : Type 0} → ℕ → Result Role E → Type 0
IsRole n r = MatchResult r (λ x. n ≡ role_code x) (λ _. IsTrue (nat_lt n 1 || nat_lt 28 n))

pub opening_by_role : {E : Type 0} (s : List ℕ) (t : Tag) (n : ℕ) (r : Result Role E) (st : State) → IsRole n r
    → opening s t (role_code (result_unwrap_or r Role.Constraint)) st ≡ opening s t n st
opening_by_role s t n (Ok x) st h = rw h
opening_by_role s t n (Err e) st h = rw (opening-unnamed n h s t st)

pub closing_by_role : {E : Type 0} (s : List ℕ) (a b n state : ℕ) (r : Result Role E) (st : State) → IsRole n r
    → closing s a b (role_code (result_unwrap_or r Role.Constraint)) state st ≡ closing s a b n state st
closing_by_role s a b n state (Ok x) st h = rw h
closing_by_role s a b n state (Err e) st h = rw (closing-unnamed n h s a b state st)
