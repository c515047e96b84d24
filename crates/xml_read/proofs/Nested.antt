-- The two readers: one law for each way through them.
use Prim.Native.Nat.{ℕ, ◌+◌, ◌-◌, ◌<◌, ◌≤◌}
use mathlib.Core.Path.{◌≡◌, refl, sym, ap, ◌∙◌}
use mathlib.Core.Bool.{true, false, true≢false, false≢true}
use mathlib.Core.List.{List, [], ◌∷◌}
use native.Mathlib.Omega.{arith}
use lib.ListN.{length}
use lib.Dec.{eqb, leb}
use borrow.Author.Tests.{eqb-true, eqb-false, eq-eqb, ne_eqb, le-leb, lt-leb}
use Rattle.numbers.proofs.Tests.{on_test}
use Rattle.xml_model.specs.Shapes.{Tag}
use Rattle.xml_model.specs.declared.State.{State}
use Rattle.xml_model.specs.Bytes.{part, bare}
use Rattle.xml_model.specs.Tags.{unit_at}
use Rattle.xml_model.specs.Elements.{name_of, row_of, row_count, holds_anything}
use Rattle.xml_model.specs.State.{Done, no, and_then}
use Rattle.xml_model.specs.Text.{Progress, Frame, frame, leads_to, entered, opened, ended, child, judge, refusal, go, follow, finish}
use Rattle.xml_model.proofs.Units.{Lies, unit-lies}
use Rattle.xml_read.specs.Nesting.{Child, child_at, entering, opening_tag, empty_tag, reached, after, Element, Contents, Turn}
use Rattle.xml_read.proofs.Units.{go-unit, go-done, follow-leads, follow-good, follow-fault, after-good, after-fault}

-- where a unit lies
pub lies_at : (s : List ℕ) (p : ℕ) {t : Tag} → t ≡ unit_at s p → t.code ≡ 0 → Lies (length s) p t
lies_at s p u = rw u (unit-lies s p)

reached-at : (p : ℕ) (d : Done) → (reached p d).at ≡ p
unfolding reached refusal
reached-at p d = on_test (eqb d.code 0) (λ q. rw q) (λ q. rw q)

reached-code : (p : ℕ) (d : Done) → (reached p d).code ≡ d.code
unfolding reached refusal
reached-code p d = on_test (eqb d.code 0) (λ q. rw q (sym (eqb-true _ _ q))) (λ q. rw q)

reached-good : (p : ℕ) (d : Done) → d.code ≡ 0 → reached p d ≡ record { code = 0; at = p; state = d.state }
unfolding reached
reached-good p d h = rw (eq-eqb _ _ h)

reached-fault : (p : ℕ) (d : Done) → (d.code ≡ 0 → ⊥) → reached p d ≡ refusal d.code p
unfolding reached
reached-fault p d h = rw (ne_eqb _ _ h)

refusal-code : (c p : ℕ) → (refusal c p).code ≡ c
unfolding refusal
refusal-code c p = refl

-- a second step, behind one that was no fault and one that was
pub reached-then : (p : ℕ) (d : Done) (f : State → Done) (at : ℕ) (st : State)
    → record { code = 0; at = at; state = st } ≡ reached p d → reached p (f st) ≡ reached p (and_then d f)
unfolding and_then
reached-then p d f at st e =
    let w : d.code ≡ 0 = sym (reached-code p d) ∙ sym (ap (λ (x : Progress). x.code) e) in
    let b : st ≡ d.state = ap (λ (x : Progress). x.state) (e ∙ reached-good p d w) in
    rw (eq-eqb _ _ w, b)

pub reached-refused : (p : ℕ) (d : Done) (f : State → Done) (c at : ℕ) → (c ≡ 0 → ⊥)
    → refusal c at ≡ reached p d → refusal c at ≡ reached p (and_then d f)
unfolding and_then
reached-refused p d f c at n e =
    let w : d.code ≡ c = sym (reached-code p d) ∙ sym (ap (λ (x : Progress). x.code) e) ∙ refusal-code c at in
    let m : d.code ≡ 0 → ⊥ = λ q. n (sym w ∙ q) in
    e ∙ rw (ne_eqb _ _ m)

-- ## Refusals

after-refusal : (s : List ℕ) (k : List Frame) (c p : ℕ) → (c ≡ 0 → ⊥) → after s k (refusal c p) ≡ refusal c p
unfolding refusal
after-refusal s k c p h = after-fault s k (refusal c p) h

pub not-refused : {P : Type 0} (c p : ℕ) → (c ≡ 0 → ⊥) → (refusal c p).code ≡ 0 → P
unfolding refusal
not-refused c p h e = absurd (h e)

-- ## An element

-- an opening tag that is not too deep
opens : (s : List ℕ) (t : Tag) (role : ℕ) (st : State) (k : List Frame) (d : Done) → d ≡ opening_tag s t role st
    → length k < 12 → t.form ≡ 0 → opened s t role k st ≡ leads_to (frame t.name t.end role 0 ∷ k) d
unfolding opened entered opening_tag entering
opens s t role st k d u h f = rw (u, lt-leb 12 (length k) h, eq-eqb _ _ f)

module _ {s : List ℕ} {t : Tag} {role left : ℕ} {st : State} where
  refused : (c : ℕ) → (c ≡ 0 → ⊥)
      → ((k : List Frame) → length k + left ≡ 12 → follow s t.next (opened s t role k st) ≡ refusal c t.next)
      → Element s t role left st (refusal c t.next)
  refused c h f = record {
    reads = λ k e. f k e ∙ sym (after-refusal s k c t.next h);
    moved = not-refused c t.next h;
    within = not-refused c t.next h;
  }

  pub el-deep : left ≡ 0 → Element s t role left st (refusal 41 t.next)
  unfolding opened entered and_then no
  el-deep z = refused 41 (λ e. omega arith) (λ k e. deep k e)
    where
      deep : (k : List Frame) → length k + left ≡ 12 → follow s t.next (opened s t role k st) ≡ refusal 41 t.next
      deep k e = rw (le-leb 12 (length k) (omega arith)) (on_test (eqb t.form 0)
          (λ q. rw q (follow-fault s t.next (frame t.name t.end role 0 ∷ k) (no 41) (λ e. omega arith)))
          (λ q. rw q (follow-fault s t.next k (no 41) (λ e. omega arith))))

  module _ (z : left ≡ 0 → ⊥) where
    -- an empty-element tag
    pub el-empty : t.next ≤ length s → (t.form ≡ 0 → ⊥)
        → Element s t role left st (reached t.next (empty_tag s t role st))
    unfolding opened entered empty_tag entering
    el-empty w f = record {
      reads = λ k e. ap (follow s t.next) (empty k e) ∙ follow-leads s t.next k (empty_tag s t role st);
      moved = λ _. omega (arith, reached-at t.next (empty_tag s t role st));
      within = λ _. omega (arith, w, reached-at t.next (empty_tag s t role st));
    }
      where
        empty : (k : List Frame) → length k + left ≡ 12 → opened s t role k st ≡ leads_to k (empty_tag s t role st)
        empty k e = rw (lt-leb 12 (length k) (omega (arith, z)), ne_eqb _ _ f)

    -- an opening tag, and d is what it gives
    module _ (f : t.form ≡ 0) {d : Done} (u : d ≡ opening_tag s t role st) where
      pub el-fault : (d.code ≡ 0 → ⊥) → Element s t role left st (refusal d.code t.next)
      el-fault n = refused d.code n (λ k e.
          ap (follow s t.next) (opens s t role st k d u (omega (arith, z)) f) ∙ follow-fault s t.next _ d n)

      pub el-open : d.code ≡ 0 → {r : Progress} → Contents s t.next t.name t.end role (left - 1) d.state r
          → Element s t role left st r
      el-open q h = record {
        reads = λ k e.
            ap (follow s t.next) (opens s t role st k d u (omega (arith, z)) f) ∙ follow-good s t.next _ d q
            ∙ h.reads k (omega (arith, z));
        moved = h.moved;
        within = h.within;
      }

      -- the same, of what the step gives at the tag's end
      pub el-refused : (c p : ℕ) → (c ≡ 0 → ⊥) → refusal c p ≡ reached t.next d → Element s t role left st (refusal c p)
      el-refused c p n e =
          let w : d.code ≡ c = sym (reached-code t.next d) ∙ sym (ap (λ (x : Progress). x.code) e) ∙ refusal-code c p in
          let m : d.code ≡ 0 → ⊥ = λ q. n (sym w ∙ q) in
          rw (e ∙ reached-fault t.next d m) (el-fault m)

      pub el-inside : (p : ℕ) (st' : State) → record { code = 0; at = p; state = st' } ≡ reached t.next d → {r : Progress}
          → Contents s p t.name t.end role (left - 1) st' r → Element s t role left st r
      el-inside p st' e h =
          let w : d.code ≡ 0 = sym (reached-code t.next d) ∙ sym (ap (λ (x : Progress). x.code) e) in
          let g = e ∙ reached-good t.next d w in
          let a : p ≡ t.next = ap (λ (x : Progress). x.at) g in
          let b : st' ≡ d.state = ap (λ (x : Progress). x.state) g in
          el-open w (rw (a, b) at h)

-- an element that is in no other
pub el-root : {s : List ℕ} {t : Tag} {role : ℕ} {st : State} {r : Progress} → Element s t role 12 st r
    → r ≡ follow s t.next (opened s t role [] st)
el-root {s} {t} {role} {st} {r} h = whole ∙ sym (h.reads [] refl)
  where
    good : r.code ≡ 0 → r ≡ record { code = 0; at = r.at; state = r.state }
    good e = λ i. record { code = e i; at = r.at; state = r.state }

    whole : r ≡ after s [] r
    whole = on_test (eqb r.code 0)
        (λ q. good (eqb-true _ _ q) ∙ sym (go-done s r.at r.state) ∙ sym (after-good s [] r (eqb-true _ _ q)))
        (λ q. sym (after-fault s [] r (eqb-false _ _ q)))

-- a fault is still one behind the outermost element
pub refused-ends : (s : List ℕ) (c p : ℕ) → (c ≡ 0 → ⊥) → refusal c p ≡ finish s (refusal c p)
unfolding refusal finish
refused-ends s c p h = rw (ne_eqb _ _ h)

-- ## Contents

-- a child, in an element of that role and state
module _ (s : List ℕ) (t : Tag) (q : t.code ≡ 0) (f : t.form ≡ 2 → ⊥) (name end role state : ℕ) (k : List Frame) (st : State) where
  abbrev row : ℕ
  row = row_of role state (name_of (part s t.name t.end))

  judge-child : (child_at s t role state).accepted ≡ true
      → judge s t (frame name end role state) k st
      ≡ opened s t (child_at s t role state).role (frame name end role (child_at s t role state).state ∷ k) st
  unfolding judge child child_at
  judge-child h = on_test (holds_anything role)
      (λ x. rw (eq-eqb _ _ q, ne_eqb _ _ f, x))
      (λ x. on_test (leb row_count row)
      (λ y. absurd (false≢true (rw (x, y) at h)))
      (λ y. on_test (bare s t.from t.at)
      (λ z. rw (eq-eqb _ _ q, ne_eqb _ _ f, x, y, z))
      (λ z. absurd (false≢true (rw (x, y, z) at h)))))

  judge-none : (child_at s t role state).accepted ≡ false → judge s t (frame name end role state) k st ≡ leads_to [] (no 41)
  unfolding judge child child_at
  judge-none h = on_test (holds_anything role)
      (λ x. absurd (true≢false (rw x at h)))
      (λ x. on_test (leb row_count row)
      (λ y. rw (eq-eqb _ _ q, ne_eqb _ _ f, x, y))
      (λ y. on_test (bare s t.from t.at)
      (λ z. absurd (true≢false (rw (x, y, z) at h)))
      (λ z. rw (eq-eqb _ _ q, ne_eqb _ _ f, x, y, z))))

module _ {s : List ℕ} {at name end role left : ℕ} {st₀ : State} where
  pub co-start : Turn s at name end role left st₀ at 0 st₀
  co-start = record { reads = λ k e. refl; moved = omega arith }

  -- the contents up to p are read, and t is the unit there
  module _ {p state : ℕ} {st : State} (h : Turn s at name end role left st₀ p state st) {t : Tag} (u : t ≡ unit_at s p) where
    unit : (k : List Frame) → length k + left ≡ 11
        → go s at (frame name end role 0 ∷ k) st₀ ≡ follow s t.next (judge s t (frame name end role state) k st)
    unit k e = rw u (h.reads k e ∙ go-unit s p (frame name end role state) k st)

    -- a unit at fault
    stopped : (c : ℕ) → (c ≡ 0 → ⊥) → ((k : List Frame) → judge s t (frame name end role state) k st ≡ leads_to [] (no c))
        → Contents s at name end role left st₀ (refusal c t.next)
    unfolding no
    stopped c n f = record {
      reads = λ k e.
          unit k e ∙ ap (follow s t.next) (f k) ∙ follow-fault s t.next [] (no c) n ∙ sym (after-refusal s k c t.next n);
      moved = not-refused c t.next n;
      within = not-refused c t.next n;
    }

    pub co-stuck : (t.code ≡ 0 → ⊥) → Contents s at name end role left st₀ (refusal t.code t.next)
    unfolding judge
    co-stuck n = stopped t.code n (λ k. rw (ne_eqb _ _ n))

    abbrev last : Done
    last = ended s t (frame name end role state) st

    module _ (q : t.code ≡ 0) where
      lies : Lies (length s) p t
      lies = lies_at s p u q

      -- the end tag
      pub co-ended : t.form ≡ 2 → Contents s at name end role left st₀ (reached t.next last)
      unfolding judge
      co-ended f = record {
        reads = λ k e. unit k e ∙ rw (eq-eqb _ _ q, eq-eqb _ _ f) (follow-leads s t.next k last);
        moved = λ _. let w = lies in omega (arith, h.moved, reached-at t.next last);
        within = λ _. let w = lies in omega (arith, reached-at t.next last);
      }

      -- a child, and c is what the element makes of it
      module _ (f : t.form ≡ 2 → ⊥) {c : Child} (g : c ≡ child_at s t role state) where
        pub co-none : c.accepted ≡ false → Contents s at name end role left st₀ (refusal 41 t.next)
        co-none m = stopped 41 (λ e. omega arith) (λ k. judge-none s t q f name end role state k st (rw g at m))

        module _ (m : c.accepted ≡ true) {r : Progress} (el : Element s t c.role left st r) where
          holds : (k : List Frame) → length k + left ≡ 11
              → go s at (frame name end role 0 ∷ k) st₀ ≡ after s (frame name end role c.state ∷ k) r
          holds k e =
              unit k e ∙ ap (follow s t.next) (rw g (judge-child s t q f name end role state k st (rw g at m)))
              ∙ el.reads (frame name end role c.state ∷ k) (omega arith)

          pub co-fault : (r.code ≡ 0 → ⊥) → Contents s at name end role left st₀ r
          co-fault n = record {
            reads = λ k e. holds k e ∙ after-fault s _ r n ∙ sym (after-fault s k r n);
            moved = λ g. absurd (n g);
            within = λ g. absurd (n g);
          }

          pub co-child : r.code ≡ 0 → Turn s at name end role left st₀ r.at c.state r.state
          co-child o = record {
            reads = λ k e. holds k e ∙ after-good s _ r o;
            moved = let w = lies in omega (arith, h.moved, el.moved o);
          }

          pub co-less : r.code ≡ 0 → length s - r.at < length s - p
          co-less o = let w = lies in omega (arith, el.moved o, el.within o)
