-- Reading unit by unit: one unit is judged, and then come those behind it.
use Prim.Native.Nat.{ℕ, ◌+◌, ◌-◌, ◌<◌}
use mathlib.Core.Path.{◌≡◌, refl, ap, ◌∙◌}
use mathlib.Core.Bool.{Bool, true, false, cond, not}
use mathlib.Core.List.{List, [], ◌∷◌}
use native.Mathlib.Omega.{arith}
use lib.ListN.{length}
use lib.Dec.{eqb}
use borrow.Author.Tests.{eqb-true, eq-eqb, ne_eqb}
use Rattle.numbers.proofs.Tests.{on_test}
use Rattle.xml_model.specs.Shapes.{Tag}
use Rattle.xml_model.specs.declared.State.{State}
use Rattle.xml_model.specs.Repeat.{Next, stop, more}
use Rattle.xml_model.specs.Tags.{unit_at}
use Rattle.xml_model.specs.State.{Done, no}
use Rattle.xml_model.specs.Text.{Progress, Frame, Verdict, Config, leads_to, judge, refusal, ruled, unit_step, go, follow}
use Rattle.xml_model.proofs.Repeats.{repeat-stop, repeat-more}
use Rattle.xml_model.proofs.Units.{unit-lies}
use Rattle.xml_read.specs.Nesting.{reached, after}

-- a unit that is no fault has been scanned
judge-scanned : (s : List ℕ) (t : Tag) (e : Frame) (k : List Frame) (st : State) → (judge s t e k st).code ≡ 0 → t.code ≡ 0
unfolding judge leads_to no
judge-scanned s t e k st = by (eqb t.code 0) refl _
  where
    by : (b : Bool) → eqb t.code 0 ≡ b → (v : Verdict) → (cond (not b) (leads_to [] (no t.code)) v).code ≡ 0 → t.code ≡ 0
    by true q v z = eqb-true _ _ q
    by false q v z = z

-- a verdict after which there are more units is no fault
ruled-more : (p : ℕ) (v : Verdict) (d : Config) → ruled p v ≡ more d → (v.code ≡ 0) × (p ≡ d.at)
unfolding ruled
ruled-more p v d = by (eqb v.code 0) refl
  where
    by : (b : Bool) → eqb v.code 0 ≡ b
        → cond b (more (record { at = p; stack = v.stack; state = v.state })) (stop (refusal v.code p)) ≡ more d
        → (v.code ≡ 0) × (p ≡ d.at)
    by true q e =
        let k : record { at = p; stack = v.stack; state = v.state } ≡ d = cc in
        (eqb-true _ _ q, ap (λ (c : Config). c.at) k)
    by false q e = let z : ◌≡◌ {A = ℕ} 0 1 = cc in absurd (omega arith)

-- a unit that is no fault ends behind its start
falls_at : (s : List ℕ) (p : ℕ) (k : List Frame) (st : State) (d : Config) → unit_step s p k st ≡ more d
    → length s - d.at < length s - p
unfolding unit_step
falls_at s p [] st d e = let z : ◌≡◌ {A = ℕ} 0 1 = cc in absurd (omega arith)
falls_at s p (f ∷ k) st d e =
    let r = ruled-more (unit_at s p).next (judge s (unit_at s p) f k st) d e in
    let w = unit-lies s p (judge-scanned s (unit_at s p) f k st r.0) in
    omega (arith, r.1)

falls : (s : List ℕ) (c d : Config) → unit_step s c.at c.stack c.state ≡ more d → length s - d.at < length s - c.at
falls s c d = falls_at s c.at c.stack c.state d

module _ (s : List ℕ) where
  abbrev size : Config → ℕ
  size c = length s - c.at

  abbrev step : Config → Next Config Progress
  step c = unit_step s c.at c.stack c.state

  pub go-unit : (p : ℕ) (e : Frame) (k : List Frame) (st : State)
      → go s p (e ∷ k) st ≡ follow s (unit_at s p).next (judge s (unit_at s p) e k st)
  unfolding go follow unit_step ruled
  go-unit p e k st = by (judge s (unit_at s p) e k st) refl
    where
      by : (v : Verdict) → judge s (unit_at s p) e k st ≡ v → go s p (e ∷ k) st ≡ follow s (unit_at s p).next v
      by v j = on_test (eqb v.code 0)
          (λ q.
          repeat-more size step (refusal 40 (length s + 1)) (falls s) (record { at = p; stack = e ∷ k; state = st })
          (record { at = (unit_at s p).next; stack = v.stack; state = v.state }) (rw (j, q))
          ∙ rw q)
          (λ q.
          repeat-stop size step (refusal 40 (length s + 1)) (record { at = p; stack = e ∷ k; state = st })
          (refusal v.code (unit_at s p).next) (rw (j, q))
          ∙ rw q)

  pub go-done : (p : ℕ) (st : State) → go s p [] st ≡ record { code = 0; at = p; state = st }
  unfolding go unit_step
  go-done p st = repeat-stop size step (refusal 40 (length s + 1)) (record { at = p; stack = []; state = st }) _ refl

  -- ## What a reader gives back, and what then follows

  pub follow-leads : (p : ℕ) (k : List Frame) (d : Done) → follow s p (leads_to k d) ≡ after s k (reached p d)
  unfolding follow leads_to after reached refusal
  follow-leads p k d = on_test (eqb d.code 0) (λ q. rw q) (λ q. rw (q, q))

  pub follow-good : (p : ℕ) (k : List Frame) (d : Done) → d.code ≡ 0 → follow s p (leads_to k d) ≡ go s p k d.state
  unfolding follow leads_to
  follow-good p k d h = rw (eq-eqb _ _ h)

  pub follow-fault : (p : ℕ) (k : List Frame) (d : Done) → (d.code ≡ 0 → ⊥) → follow s p (leads_to k d) ≡ refusal d.code p
  unfolding follow leads_to
  follow-fault p k d h = rw (ne_eqb _ _ h)

  pub after-good : (k : List Frame) (r : Progress) → r.code ≡ 0 → after s k r ≡ go s r.at k r.state
  unfolding after
  after-good k r h = rw (eq-eqb _ _ h)

  pub after-fault : (k : List Frame) (r : Progress) → (r.code ≡ 0 → ⊥) → after s k r ≡ r
  unfolding after
  after-fault k r h = rw (ne_eqb _ _ h)
