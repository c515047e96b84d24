-- "The reader reports the number of elements it opened, the same as in the text".
use Prim.Native.Nat.{ℕ, zero, suc, ◌+◌, ◌-◌, ◌≤◌}
use mathlib.Core.Path.{◌≡◌, refl, sym, ◌∙◌}
use mathlib.Core.Bool.{Bool, true, false, cond, not, ◌&&◌}
use mathlib.Core.List.{List, [], ◌∷◌}
use native.Mathlib.Omega.{arith}
use lib.ListN.{length}
use lib.Dec.{eqb, ltb}
use borrow.Author.Tests.{eqb-true, eqb-false, ltb-false, not-true, not-false, ne_eqb}
use Rattle.numbers.specs.Count.{sum, one}
use Rattle.numbers.proofs.Tests.{on_test}
use Rattle.xml_model.specs.Shapes.{Tag}
use Rattle.xml_model.specs.declared.State.{State}
use Rattle.xml_model.specs.Repeat.{Next, stop, more, repeat}
use Rattle.xml_model.specs.Bytes.{byte_at, part, spaces, run_end, stuck}
use Rattle.xml_model.specs.Tags.{unit_at}
use Rattle.xml_model.specs.Elements.{name_of, rights_name, rights_role}
use Rattle.xml_model.specs.State.{blank, with_elements, with_ids}
use Rattle.xml_model.specs.State.{no, counted}
use Rattle.xml_model.specs.Text.{Progress, Frame, Verdict, leads_to, opened, ended, judge, refusal, Config}
use Rattle.xml_model.specs.Text.{ruled, unit_step, go, follow, finish, root, progress_of, reading_of}
use Rattle.xml_model.proofs.Runs.{byte-out, stuck-pos}
use Rattle.xml_model.proofs.CountsKept.{Keeps, keeps-ok, keeps-no, keeps-cond, ended-keeps, opened-keeps, judge-cases}
use Rattle.xml_model.proofs.CountsKept.{judge-scanned}
use Rattle.xml_model.proofs.Repeats.{repeat-ind}
use Rattle.xml_model.proofs.CountsUnits.{opens_at, opens, none_between, run-opens, unit-opens, first-form}

-- ## What a unit counts

unfoldable Elements : ℕ → State → Type 0
Elements n st = st.elements ≡ n

-- one element more
counted-more : (n : ℕ) (st : State) → Elements n st → Keeps (Elements (n + 1)) (counted st)
unfolding counted with_elements Elements
counted-more n st e = keeps-cond (Elements (n + 1)) (ltb st.elements 256) _ _
    (keeps-ok (Elements (n + 1)) _ (omega arith)) (keeps-no (Elements (n + 1)) 42 (λ z. omega arith))

opened-counts : (s : List ℕ) (t : Tag) (role : ℕ) (k : List Frame) (st : State) → (opened s t role k st).code ≡ 0
    → (opened s t role k st).state.elements ≡ st.elements + 1
unfolding Elements with_ids
opened-counts s t role k st =
    opened-keeps (Elements st.elements) (λ a b e _ q. sym e ∙ q) (λ u q. q) s t (λ u q. q) st refl (Elements (st.elements + 1))
    (counted-more st.elements) role k

ended-counts : (s : List ℕ) (t : Tag) (f : Frame) (st : State) → (ended s t f st).code ≡ 0 → (ended s t f st).state.elements ≡ st.elements
unfolding Elements with_ids Keeps
ended-counts s t f st = ended-keeps (Elements st.elements) (λ a b e _ q. sym e ∙ q) (λ u q. q) st refl s t f

judge-counts : (s : List ℕ) (t : Tag) (e : Frame) (k : List Frame) (st : State) → (judge s t e k st).code ≡ 0
    → (judge s t e k st).state.elements ≡ st.elements + cond (eqb t.form 2) 0 1
unfolding leads_to no
judge-counts s t e k st =
    judge-cases s t e k st (λ v. v.code ≡ 0 → v.state.elements ≡ st.elements + cond (eqb t.form 2) 0 1) (λ c f z. absurd (f z))
    (λ _ f c. rw f (omega (arith, ended-counts s t e st c))) (λ _ f role x c. rw f (opened-counts s t role _ st c))

-- ## Loops

-- what holds of a turn that stops, and of a turn if of all that comes after it
abbrev pub Leads : {A R : Type 0} → (A → R → Type 0) → A → Next A R → Type 0
Leads P a (stop r) = P a r
Leads {R = R} P a (more b) = (r : R) → P b r → P a r

pub leads-cond : {A R : Type 0} (P : A → R → Type 0) (a : A) (b : Bool) (x y : Next A R)
    → (b ≡ true → Leads P a x) → (b ≡ false → Leads P a y)
    → Leads P a (cond b x y)
leads-cond P a true x y f g = f refl
leads-cond P a false x y f g = g refl

pub repeat-leads : {A R : Type 0} (size : A → ℕ) (f : A → Next A R) (none : R) (P : A → R → Type 0)
    → ((a : A) → P a none) → ((a : A) → Leads P a (f a)) → (a : A) → P a (repeat size f none a)
repeat-leads size f none P z h = repeat-ind size f none P z (λ a r e. rw e at (h a)) (λ a b r e. (rw e at (h a)) r)

-- ## The text

module _ (s : List ℕ) where
  -- reading on from p with n elements, and what it comes to
  unfoldable Adds : ℕ → ℕ → Progress → Type 0
  Adds p n r = r.code ≡ 0 → r.state.elements + opens s p ≡ n + opens s r.at

  refusal-adds : (p n c q : ℕ) → (c ≡ 0 → ⊥) → Adds p n (refusal c q)
  unfolding Adds refusal
  refusal-adds p n c q f e = absurd (f e)

  unfoldable From : Config → Progress → Type 0
  From c = Adds c.at c.state.elements

  unit-adds : (p : ℕ) (k : List Frame) (st : State) → Leads From (record { at = p; stack = k; state = st }) (unit_step s p k st)
  unfolding unit_step ruled From Adds
  unit-adds p [] st = λ _. refl
  unit-adds p (e ∷ k) st = leads-cond From (record { at = p; stack = e ∷ k; state = st }) (eqb (judge s t e k st).code 0) _ _
      (λ q. onwards (eqb-true _ _ q)) (λ q. refusal-adds p _ _ _ (eqb-false _ _ q))
    where
      t : Tag
      t = unit_at s p

      onwards : (judge s t e k st).code ≡ 0 → (r : Progress) → Adds t.next (judge s t e k st).state.elements r → Adds p st.elements r
      onwards z r f c = omega (arith, f c, judge-counts s t e k st z, unit-opens s p (judge-scanned s t e k st z))

  go-adds : (p : ℕ) (k : List Frame) (st : State) → Adds p st.elements (go s p k st)
  unfolding go From
  go-adds p k st = repeat-leads (λ c. length s - c.at) (λ c. unit_step s c.at c.stack c.state) (refusal 40 (length s + 1)) From
      (λ c. refusal-adds _ _ 40 _ (λ z. omega arith)) (λ c. unit-adds c.at c.stack c.state)
      (record { at = p; stack = k; state = st })

  follow-adds : (p n : ℕ) (v : Verdict) → (v.code ≡ 0 → v.state.elements ≡ n) → Adds p n (follow s p v)
  unfolding follow
  follow-adds p n v f = on_test (eqb v.code 0) (λ q. rw (q, ← f (eqb-true _ _ q)) (go-adds p v.stack v.state))
      (λ q. rw q (refusal-adds p n _ p (eqb-false _ _ q)))

  -- nothing is opened behind the end
  past_end : (z : ℕ) → length s ≤ z → opens s z ≡ opens s (length s)
  past_end z h = none_between s (length s) z h (λ j l _ e. omega (arith, byte-out s j l))

  -- an accepted text has counted the elements from i on
  unfoldable Whole : ℕ → Progress → Type 0
  Whole i r = r.code ≡ 0 → r.state.elements + opens s i ≡ opens s (length s)

  refusal-whole : (i c q : ℕ) → (c ≡ 0 → ⊥) → Whole i (refusal c q)
  unfolding Whole refusal
  refusal-whole i c q f e = absurd (f e)

  finish-whole : (i : ℕ) (r : Progress) → Adds i 0 r → Whole i (finish s r)
  unfolding finish Whole Adds
  finish-whole i r f = on_test (not (eqb r.code 0))
      (λ q. rw q (λ e. absurd (eqb-false _ _ (not-true _ q) e)))
      (λ q. rw q (on_test (ltb z (length s)) (λ l. rw l (refusal-whole i (stuck s z) _ (stuck-pos s z)))
      (λ l. rw l (λ _. omega (arith, f (eqb-true _ _ (not-false _ q)), run-opens s spaces r.at, past_end z (ltb-false _ _ l))))))
    where
      z : ℕ
      z = run_end spaces s r.at

  root-whole : (i : ℕ) → byte_at s i ≡ 60 → eqb (byte_at s (i + 1)) 47 ≡ false → Whole i (root s (unit_at s i))
  unfolding root Adds blank
  root-whole i lt sl = on_test (not (eqb t.code 0))
      (λ q. rw q (refusal-whole i _ _ (eqb-false _ _ (not-true _ q))))
      (λ q. rw q (on_test (eqb (name_of (part s t.name t.end)) rights_name)
      (λ r. rw r (finish-whole i _ (λ z.
      omega (arith, follow-adds t.next 1 _ (opened-counts s t rights_role [] blank) z, first (eqb-true _ _ (not-false _ q))))))
      (λ r. rw r (refusal-whole i 41 _ (λ z. omega arith)))))
    where
      t : Tag
      t = unit_at s i

      first : t.code ≡ 0 → opens s t.next ≡ opens s i + 1
      first z = unit-opens s i z ∙ rw (ne_eqb _ _ (first-form s i lt sl z))

  text-whole : Whole 0 (progress_of s)
  unfolding progress_of Whole
  text-whole = on_test (not (eqb (byte_at s i) 60)) (λ q. rw q (refusal-whole 0 _ _ (stuck-pos s i)))
      (λ q. rw q (on_test (eqb (byte_at s (i + 1)) 47) (λ r. rw r (refusal-whole 0 40 _ (λ z. omega arith)))
      (λ r. rw r (λ z. omega (arith, root-whole i (eqb-true _ _ (not-false _ q)) r z, run-opens s spaces 0)))))
    where
      i : ℕ
      i = run_end spaces s 0

-- a `<` has a `/` behind it or none
sorted : (s : List ℕ) (n : ℕ) → sum (λ i. one (eqb (byte_at s i) 60)) n
    ≡ opens s n + sum (λ i. one (eqb (byte_at s i) 60 && eqb (byte_at s (i + 1)) 47)) n
unfolding opens opens_at sum
sorted s zero = refl
sorted s (suc n) = omega (arith, sorted s n, by (eqb (byte_at s n) 60) (eqb (byte_at s (n + 1)) 47))
  where
    by : (a b : Bool) → one a ≡ one (a && not b) + one (a && b)
    by true true = refl
    by true false = refl
    by false b = refl

-- Of an accepted text: the `<` are the elements that were opened and the `</`.
pub counts_same : (s : List ℕ) → (reading_of s).code ≡ 0
    → sum (λ i. one (eqb (byte_at s i) 60)) (length s)
    ≡ (reading_of s).elements + sum (λ i. one (eqb (byte_at s i) 60 && eqb (byte_at s (i + 1)) 47)) (length s)
unfolding reading_of Whole opens sum
counts_same s z = omega (arith, sorted s (length s), text-whole s z)
