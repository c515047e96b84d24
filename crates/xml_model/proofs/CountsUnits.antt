-- Where a text opens elements: at the `<` that no `/` follows. A unit opens one, an end tag none.
use Prim.Native.Nat.{ℕ, zero, suc, ◌+◌, ◌<◌, ◌≤◌}
use mathlib.Core.Path.{◌≡◌, refl, sym, ap, ◌∙◌}
use mathlib.Core.Bool.{Bool, true, false, cond, not, ◌&&◌, ◌||◌, false≢true}
use mathlib.Core.List.{List}
use native.Mathlib.Omega.{arith}
use lib.Dec.{eqb, leb}
use borrow.Author.Tests.{eqb-false, eq-eqb, ne_eqb, leb-true, leb-false}
use Rattle.numbers.specs.Count.{sum, one}
use Rattle.numbers.proofs.Tests.{on_test, clash}
use Rattle.numbers.proofs.Loops.{sum-turn}
use Rattle.xml_model.specs.Bytes.{byte_at, spaces, names, texts, digits, in_class, run_end}
use Rattle.xml_model.specs.Tags.{attribute_at, tailed, tail_of, start_tag, unit_at}
use Rattle.xml_model.proofs.Runs.{byte-in, inside, run-from, run-off, in-run}
use Rattle.xml_model.proofs.Units.{attribute-written, tail-ind, tail-ends, unit-cases}

-- ## Where elements are opened

-- no class has `<`
class-lt : (k : ℕ) → in_class k 60 ≡ false
unfolding in_class
class-lt k = by (eqb k spaces) (eqb k names) (eqb k texts) (eqb k digits)
  where
    by : (a b c d : Bool) → cond a false (cond b false (cond c false (cond d false false))) ≡ false
    by true b c d = refl
    by false true c d = refl
    by false false true d = refl
    by false false false true = refl
    by false false false false = refl

-- no text stands at a `<`
pub text-empty : (s : List ℕ) (i : ℕ) → byte_at s i ≡ 60 → run_end texts s i ≡ i
text-empty s i e =
    let h = inside s i 60 (omega arith) e in
    run-off texts s i h (ap (in_class texts) (sym (byte-in s i h) ∙ e) ∙ class-lt texts)

-- an element is opened at i
unfoldable pub opens_at : List ℕ → ℕ → Bool
opens_at s i = eqb (byte_at s i) 60 && not (eqb (byte_at s (i + 1)) 47)

-- how many of the first n bytes open one
unfoldable pub opens : List ℕ → ℕ → ℕ
opens s n = sum (λ i. one (opens_at s i)) n

module _ (s : List ℕ) where
  -- no byte from a to b opens one
  pub none_between : (a b : ℕ) → a ≤ b → ((j : ℕ) → a ≤ j → j < b → byte_at s j ≡ 60 → ⊥) → opens s b ≡ opens s a
  unfolding opens opens_at sum
  none_between a zero h f = let e : a ≡ 0 = omega arith in rw e
  none_between a (suc b) h f = on_test (leb a b)
      (λ q. let e : eqb (byte_at s b) 60 ≡ false = ne_eqb _ _ (f b (leb-true a b q) (omega arith)) in
      rw e (omega (arith, none_between a b (leb-true a b q) (λ j l m. f j l (omega arith)))))
      (λ q. let e : a ≡ suc b = omega (arith, leb-false a b q) in rw e)

  pub at_byte : (i c : ℕ) → (c ≡ 60 → ⊥) → byte_at s i ≡ c → opens s (i + 1) ≡ opens s i
  at_byte i c n e = none_between i (i + 1) (omega arith) (λ j h l z. let k : j ≡ i = omega arith in n (sym e ∙ ap (byte_at s) (sym k) ∙ z))

  pub run-opens : (k i : ℕ) → opens s (run_end k s i) ≡ opens s i
  run-opens k i = none_between i (run_end k s i) (run-from k s i)
      (λ j h l e. clash (in-run k s i j h l) (ap (in_class k) (sym (byte-in s j (inside s j 60 (omega arith) e)) ∙ e) ∙ class-lt k))

  -- ## A tag behind its name opens nothing

  quote-opens : (i c : ℕ) → (eqb c 34 || eqb c 39) ≡ true → byte_at s i ≡ c → opens s (i + 1) ≡ opens s i
  quote-opens i c q = at_byte i c (λ e. false≢true (ap (λ (c : ℕ). eqb c 34 || eqb c 39) (sym e) ∙ q))

  attribute-opens : (i : ℕ) → (attribute_at s i).code ≡ 0 → opens s ((attribute_at s i).to + 1) ≡ opens s i
  attribute-opens i o =
      let a = attribute_at s i in
      let w = attribute-written s i o in
      let q = run_end spaces s a.end in
      quote-opens a.to (byte_at s w.quote) w.quoted w.closed
      ∙ ap (opens s) w.to ∙ run-opens (byte_at s w.quote) a.from
      ∙ ap (opens s) w.from ∙ quote-opens w.quote (byte_at s w.quote) w.quoted refl
      ∙ ap (opens s) w.at ∙ run-opens spaces (q + 1)
      ∙ at_byte q 61 (λ e. omega arith) w.equals ∙ run-opens spaces a.end
      ∙ ap (opens s) w.end ∙ run-opens names i

  tail-opens : (first : ℕ) → (tail_of s first).code ≡ 0 → opens s (tail_of s first).next ≡ opens s first
  unfolding tailed
  tail-opens first =
      tail-ind s first (λ j t. opens s t.next ≡ opens s j)
      (λ j e. at_byte (run_end spaces s j) 62 (λ w. omega arith) e ∙ run-opens spaces j)
      (λ j e q. let g = run_end spaces s j in
      let x : g + 2 ≡ g + 1 + 1 = omega arith in
      ap (opens s) x ∙ at_byte (g + 1) 62 (λ w. omega arith) q ∙ at_byte g 47 (λ w. omega arith) e ∙ run-opens spaces j)
      (λ j t _ o _ f. f ∙ attribute-opens (run_end spaces s j) o ∙ run-opens spaces j)

  -- ## A unit opens one element, an end tag none

  -- a `<` with a `/` behind it or not
  lt-opens : (at : ℕ) (b : Bool) → byte_at s at ≡ 60 → eqb (byte_at s (at + 1)) 47 ≡ b → opens s (at + 1) ≡ opens s at + cond b 0 1
  unfolding opens opens_at
  lt-opens at b e q = sum-turn _ at ∙ rw (eq-eqb _ _ e, q) (by b)
    where
      by : (b : Bool) → sum (λ i. one (opens_at s i)) at + one (not b) ≡ sum (λ i. one (opens_at s i)) at + cond b 0 1
      by true = refl
      by false = refl

  pub unit-opens : (p : ℕ) → (unit_at s p).code ≡ 0 → opens s (unit_at s p).next ≡ opens s p + cond (eqb (unit_at s p).form 2) 0 1
  unfolding start_tag
  unit-opens p =
      unit-cases s p at refl (λ t. opens s t.next ≡ opens s p + cond (eqb t.form 2) 0 1)
      (λ lt sl _ e g u v q.
      let x : at + 1 + 1 ≡ at + 2 = omega arith in
      let a = lt-opens at true lt (eq-eqb _ _ sl) in
      let b = at_byte (at + 1) 47 (λ w. omega arith) sl in
      let c = run-opens names (at + 2) in
      let d = run-opens spaces e in
      omega (arith, run-opens texts p, ap (opens s) x, ap (opens s) u, ap (opens s) v, at_byte g 62 (λ w. omega arith) q))
      (λ lt sl _ e u o.
      let a = lt-opens at false lt (ne_eqb _ _ sl) in
      let b = run-opens names (at + 1) in
      let l = (tail-ends s e o).form in
      rw (ne_eqb (tail_of s e).form 2 (λ w. omega arith)) (omega (arith, run-opens texts p, ap (opens s) u, tail-opens e o)))
    where
      at : ℕ
      at = run_end texts s p

  -- a unit that starts with a `<` and no `/` behind it is no end tag
  pub first-form : (i : ℕ) → byte_at s i ≡ 60 → eqb (byte_at s (i + 1)) 47 ≡ false → (unit_at s i).code ≡ 0 → (unit_at s i).form ≡ 2 → ⊥
  unfolding start_tag
  first-form i lt sl =
      unit-cases s i i (sym (text-empty s i lt)) (λ t. t.form ≡ 2 → ⊥) (λ _ q _ _ _ _ _ _ _. eqb-false _ _ sl q)
      (λ _ _ _ e _ o z. omega (arith, (tail-ends s e o).form))
