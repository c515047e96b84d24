-- "The first tag at fault decides": what stands behind the unit at fault of a refused text does not matter.
use Prim.Native.Nat.{ℕ, ◌+◌, ◌-◌, ◌<◌, ◌≤◌}
use mathlib.Core.Path.{◌≡◌, refl, sym, ap, ◌∙◌}
use mathlib.Core.Bool.{Bool, true, false, cond, not}
use mathlib.Core.List.{List, [], ◌∷◌, ◌++◌}
use native.Mathlib.Omega.{arith}
use lib.ListN.{length, get_or, take, length-append, get_or-append}
use lib.Seq.{get_or-take, length-take-le}
use lib.Dec.{eqb, ltb}
use borrow.Author.Tests.{eqb-true, eqb-false, ne_eqb, lt-ltb, ltb-false, ltb-true, not-true, not-false}
use Rattle.numbers.proofs.Tests.{on_test}
use Rattle.xml_model.specs.Shapes.{Tag}
use Rattle.xml_model.specs.declared.State.{State}
use Rattle.xml_model.specs.Repeat.{Next, stop, more}
use Rattle.xml_model.specs.Bytes.{byte_at, part, spaces, run_end, stuck, looked}
use Rattle.xml_model.specs.Tags.{unit_at}
use Rattle.xml_model.specs.Elements.{name_of, rights_name, rights_role}
use Rattle.xml_model.specs.State.{blank}
use Rattle.xml_model.specs.Text.{Progress, Frame, Verdict, opened, judge, refusal, Config, ruled, unit_step, go, follow, finish, root}
use Rattle.xml_model.specs.Text.{progress_of, reading_of}
use Rattle.xml_model.proofs.Runs.{byte-in, byte-out, byte_inside, run-within, stuck-pos, looked-on}
use Rattle.xml_model.proofs.Units.{unit-lies}
use Rattle.xml_model.proofs.CountsUnits.{first-form}
use Rattle.xml_model.proofs.Counts.{Leads, leads-cond, repeat-leads}
use Rattle.xml_model.proofs.CountsKept.{judge-scanned}
use Rattle.xml_model.specs.Import.{Agree}
use Rattle.xml_model.proofs.DecidesScan.{part-agree, looked-agree, stuck-agree, Told, told-leaf, told-less}
use Rattle.xml_model.proofs.DecidesScan.{told-as, told-branch, told-cond, told-byte, told-run, told-map}
use Rattle.xml_model.proofs.DecidesTags.{next_reach, told-repeat, tag_reach, unit-told, first-told}
use Rattle.xml_model.proofs.DecidesState.{ids-blank, Before, unit-opened, unit-after, judge-agree, Leaves, opened-leaves}
use Rattle.xml_model.proofs.DecidesState.{judge-leaves}

-- ## The units

abbrev progress_reach : Progress → ℕ
progress_reach r = r.at

abbrev config_place : Config → ℕ
config_place c = c.at

-- where reading may stand: in the text, with no id and no name of an open element behind it
record Stands (s : List ℕ) (c : Config) : Type 0 where
  within : c.at ≤ length s
  before : Before c.at c.stack c.state

ruled-reach : (p : ℕ) (v : Verdict) → next_reach config_place progress_reach (ruled p v) ≡ p
unfolding ruled refusal
ruled-reach p v = on_test (eqb v.code 0) (λ q. rw q) (λ q. rw q)

-- a unit that leads on is no fault
ruled-more : (p : ℕ) (v : Verdict) (c : Config) → ruled p v ≡ more c
    → (v.code ≡ 0) × (record { at = p; stack = v.stack; state = v.state } ≡ c)
unfolding ruled
ruled-more p v c = by (eqb v.code 0) refl
  where
    by : (b : Bool) → eqb v.code 0 ≡ b
        → cond b (more (record { at = p; stack = v.stack; state = v.state })) (stop (refusal v.code p)) ≡ more c
        → (v.code ≡ 0) × (record { at = p; stack = v.stack; state = v.state } ≡ c)
    by true q e = (eqb-true _ _ q, cc)
    by false q e = let o : ◌≡◌ {A = ℕ} 0 1 = cc in absurd (omega arith)

-- a unit that leads on lies in the text
unit-more : (s : List ℕ) (p : ℕ) (k : List Frame) (st : State) (c : Config) → unit_step s p k st ≡ more c
    → ((unit_at s p).code ≡ 0) × (c.at ≡ (unit_at s p).next) × (Before p k st → Before c.at c.stack c.state)
unfolding unit_step Leaves
unit-more s p [] st c e = let o : ◌≡◌ {A = ℕ} 0 1 = cc in absurd (omega arith)
unit-more s p (f ∷ k) st c e =
    let t = unit_at s p in
    let m = ruled-more t.next (judge s t f k st) c e in
    (judge-scanned s t f k st m.0, sym (ap (λ (d : Config). d.at) m.1), λ b. rw (← m.1) (judge-leaves s p f k st b m.0))

unit-falls : (s : List ℕ) (c d : Config) → unit_step s c.at c.stack c.state ≡ more d → length s - d.at < length s - c.at
unit-falls s c d e =
    let m = unit-more s c.at c.stack c.state d e in
    omega (arith, m.1, unit-after s c.at m.0, (unit-lies s c.at m.0).next)

module _ {s z : List ℕ} where
  step-told : (p : ℕ) (k : List Frame) (st : State) → p ≤ length s → Before p k st
      → Told s z (next_reach config_place progress_reach) p (unit_step s p k st) (unit_step z p k st)
  unfolding unit_step
  step-told p [] st h b = told-leaf (next_reach config_place progress_reach) p _ (omega arith)
  step-told p (e ∷ k) st h b =
      told-map tag_reach (next_reach config_place progress_reach) p (verdict s) (verdict z)
      (told-less tag_reach p (p + 1) (omega arith) (unit-told p h))
      (record {
        on = omega (arith, reach);
        same = λ g. ap (ruled (unit_at s p).next) (judge-agree p e k st b (rw reach at g));
      })
    where
      verdict : List ℕ → Tag → Next Config Progress
      verdict x t = ruled t.next (judge x t e k st)

      reach : next_reach config_place progress_reach (verdict s (unit_at s p)) ≡ (unit_at s p).next
      reach = ruled-reach (unit_at s p).next (judge s (unit_at s p) e k st)

  go-told : (p : ℕ) (k : List Frame) (st : State) → p ≤ length s → Before p k st → Told s z progress_reach p (go s p k st) (go z p k st)
  unfolding go
  go-told p k st h b =
      told-repeat config_place progress_reach (λ c. length s - c.at) (λ c. length z - c.at) (λ c. unit_step s c.at c.stack c.state)
      (λ c. unit_step z c.at c.stack c.state) (refusal 40 (length s + 1)) (refusal 40 (length z + 1))
      (unit-falls s) (unit-falls z) (Stands s)
      (λ c d q e. let m = unit-more s c.at c.stack c.state d e in
      let l = unit-lies s c.at m.0 in
      record { within = omega (arith, m.1, l.next); before = m.2 q.before })
      (λ c q. step-told c.at c.stack c.state q.within q.before)
      (record { at = p; stack = k; state = st }) (record { within = h; before = b })

  follow-told : (p : ℕ) (v : Verdict) → p ≤ length s → (v.code ≡ 0 → Before p v.stack v.state)
      → Told s z progress_reach p (follow s p v) (follow z p v)
  unfolding follow refusal
  follow-told p v h b = on_test (eqb v.code 0) (λ q. rw q (go-told p v.stack v.state h (b (eqb-true _ _ q))))
      (λ q. rw q (told-leaf progress_reach p _ (omega arith)))

-- ## Where an accepted rights ends

module _ (s : List ℕ) where
  unfoldable Within : Config → Progress → Type 0
  Within c r = c.at ≤ length s → r.code ≡ 0 → r.at ≤ length s

  unit-within : (p : ℕ) (k : List Frame) (st : State) → Leads Within (record { at = p; stack = k; state = st }) (unit_step s p k st)
  unfolding unit_step ruled refusal Within
  unit-within p [] st = λ h _. h
  unit-within p (e ∷ k) st = leads-cond Within (record { at = p; stack = e ∷ k; state = st }) (eqb (judge s (unit_at s p) e k st).code 0) _ _
      (λ q r f _ c. f (unit-lies s p (judge-scanned s (unit_at s p) e k st (eqb-true _ _ q))).next c) (λ q _ c. absurd (eqb-false _ _ q c))

  follow-within : (p : ℕ) (v : Verdict) → p ≤ length s → (follow s p v).code ≡ 0 → (follow s p v).at ≤ length s
  unfolding follow go refusal Within
  follow-within p v h = on_test (eqb v.code 0)
      (λ q. rw q (repeat-leads (λ c. length s - c.at) (λ c. unit_step s c.at c.stack c.state) (refusal 40 (length s + 1)) Within
      (λ c _ e. absurd (omega arith)) (λ c. unit-within c.at c.stack c.state)
      (record { at = p; stack = v.stack; state = v.state }) h))
      (λ q. rw q (λ c. absurd (eqb-false _ _ q c)))

-- ## The whole text

-- a refused text is looked at up to its fault, an accepted one as a whole, with its end
unfoldable reach : List ℕ → Progress → ℕ
reach s r = cond (eqb r.code 0) (length s + 1) r.at

reach-refused : (s : List ℕ) (r : Progress) → (r.code ≡ 0 → ⊥) → reach s r ≡ r.at
unfolding reach
reach-refused s r n = rw (ne_eqb _ _ n)

module _ {s z : List ℕ} where
  refusal-told : (p c q : ℕ) → (c ≡ 0 → ⊥) → p ≤ q → Told s z (reach s) p (refusal c q) (refusal c q)
  unfolding refusal
  refusal-told p c q n h = told-leaf (reach s) p (refusal c q) (rw (reach-refused s (refusal c q) n) h)

  stuck-told : (p : ℕ) → p ≤ length s → Told s z (reach s) (p + 1) (refusal (stuck s p) (looked s p)) (refusal (stuck z p) (looked z p))
  unfolding refusal
  stuck-told p h =
      let e = reach-refused s (refusal (stuck s p) (looked s p)) (stuck-pos s p) in
      record { on = rw e (omega (arith, looked-on s p h)); same = λ g. let w = rw e at g in rw (looked-agree p h w, stuck-agree p h w) }

  finish-told : (r : Progress) → (r.code ≡ 0 → r.at ≤ length s) → Told s z (reach s) r.at (finish s r) (finish z r)
  unfolding finish reach
  finish-told r f = told-branch (reach s) r.at (not (eqb r.code 0)) _ _ _ _
      (λ q. let e = reach-refused s r (eqb-false _ _ (not-true _ q)) in told-leaf (reach s) r.at r (omega (arith, e)))
      (λ q. let l = run-within spaces s r.at (f (eqb-true _ _ (not-false _ q))) in
      told-run (reach s) r.at spaces r.at (ends z) (omega arith)
      (told-cond (reach s) (e + 1) (ltb e (length s)) (ltb e (length z)) _ _ _ _ (λ g. sym (g.ends e (omega arith)))
      (λ _. stuck-told e l) (λ _. told-leaf (reach s) (e + 1) _ (omega arith))))
    where
      e : ℕ
      e = run_end spaces s r.at

      ends : List ℕ → ℕ → Progress
      ends x e = cond (ltb e (length x)) (refusal (stuck x e) (looked x e)) (record { code = 0; at = e; state = r.state })

  root_told : (i : ℕ) → byte_at s i ≡ 60 → eqb (byte_at s (i + 1)) 47 ≡ false
      → Told s z (reach s) (unit_at s i).next (root s (unit_at s i)) (root z (unit_at s i))
  unfolding root blank Leaves
  root_told i lt sl = told-branch (reach s) t.next (not (eqb t.code 0)) _ _ _ _
      (λ q. refusal-told t.next t.code t.next (eqb-false _ _ (not-true _ q)) (omega arith))
      (λ q.
      let o = eqb-true t.code 0 (not-false _ q) in
      let f = ne_eqb t.form 2 (first-form s i lt sl o) in
      let l = unit-lies s i o in
      told-cond (reach s) t.next (is_rights s) (is_rights z) _ _ _ _
      (λ g. ap (λ (v : List ℕ). eqb (name_of v) rights_name)
      (part-agree t.name t.end (omega (arith, l.ended)) (omega (arith, l.ended, l.next)) g))
      (λ _. told-map progress_reach (reach s) t.next (finish s) (finish z)
      (told-as progress_reach t.next (follow z t.next (first z))
      (λ g. ap (follow z t.next) (unit-opened i o f g rights_role [] blank (ids-blank t.next)))
      (follow-told t.next (first s) l.next
      (opened-leaves s i o f rights_role [] blank (record { ids = ids-blank t.next; names = tt }))))
      (finish-told (follow s t.next (first s)) (follow-within s t.next (first s) l.next)))
      (λ _. refusal-told t.next 41 _ (λ e. omega arith) (omega arith)))
    where
      t : Tag
      t = unit_at s i

      is_rights : List ℕ → Bool
      is_rights x = eqb (name_of (part x (unit_at s i).name (unit_at s i).end)) rights_name

      first : List ℕ → Verdict
      first x = opened x (unit_at s i) rights_role [] blank

  progress-told : Told s z (reach s) 0 (progress_of s) (progress_of z)
  unfolding progress_of
  progress-told = told-run (reach s) 0 spaces 0 (starts z) (omega arith)
      (told-byte (reach s) (i + 1) i (λ c. not (eqb c 60)) (omega arith) (λ _. stuck-told i (run-within spaces s 0 (omega arith)))
      (λ q.
      let lt = eqb-true (byte_at s i) 60 (not-false _ q) in
      told-less (reach s) (i + 1) (i + 1 + 1) (omega arith)
      (told-byte (reach s) (i + 1 + 1) (i + 1) (λ c. eqb c 47) (omega arith)
      (λ _. refusal-told (i + 1 + 1) 40 (i + 2) (λ e. omega arith) (omega arith))
      (λ sl. told-map tag_reach (reach s) (i + 1 + 1) (root s) (root z) (first-told i lt) (root_told i lt sl)))))
    where
      i : ℕ
      i = run_end spaces s 0

      starts : List ℕ → ℕ → Progress
      starts x i =
          cond (not (eqb (byte_at x i) 60)) (refusal (stuck x i) (looked x i))
          (cond (eqb (byte_at x (i + 1)) 47) (refusal 40 (i + 2)) (root x (unit_at x i)))

-- ## The first tag at fault decides

-- a text that agrees with a refused one as far as that was looked at gets the same answer
pub decides : (s z : List ℕ) → ((progress_of s).code ≡ 0 → ⊥) → Agree s z (progress_of s).at → progress_of z ≡ progress_of s
decides s z n g = progress-told.same (rw (reach-refused s (progress_of s) n) g)

pub reading-decides : (s z : List ℕ) → ((progress_of s).code ≡ 0 → ⊥) → Agree s z (progress_of s).at → reading_of z ≡ reading_of s
unfolding reading_of
reading-decides s z n g = rw (decides s z n g)

-- of texts of bytes, the bytes say where the text ends
pub agree-bytes : (s z : List ℕ) (n : ℕ) → ((k : ℕ) → get_or s k 0 < 256) → ((k : ℕ) → get_or z k 0 < 256)
    → ((i : ℕ) → i < n → byte_at s i ≡ byte_at z i) → Agree s z n
agree-bytes s z n b d f = record { bytes = f; ends = ends }
  where
    ends : (i : ℕ) → i < n → ltb i (length s) ≡ ltb i (length z)
    ends i h = on_test (ltb i (length s))
        (λ q. let w = byte-in s i (ltb-true i (length s) q) in
        q ∙ sym (lt-ltb i (length z) (byte_inside z i (omega (arith, f i h, w, b i)))))
        (λ q. on_test (ltb i (length z))
        (λ r. let w = byte-in z i (ltb-true i (length z) r) in
        absurd (omega (arith, f i h, w, d i, byte-out s i (ltb-false i (length s) q))))
        (λ r. q ∙ sym r))

-- the first n bytes of a text, and any bytes behind them
cut-agrees : (s rest : List ℕ) (n : ℕ) → n ≤ length s → Agree s (take n s ++ rest) n
cut-agrees s rest n h = record { bytes = bytes; ends = ends }
  where
    front : length (take n s) ≡ n
    front = length-take-le n s h

    longer : (i : ℕ) → i < n → i < length (take n s ++ rest)
    longer i l = omega (arith, length-append (take n s) rest, front)

    ends : (i : ℕ) → i < n → ltb i (length s) ≡ ltb i (length (take n s ++ rest))
    ends i l = lt-ltb i (length s) (omega arith) ∙ sym (lt-ltb i (length (take n s ++ rest)) (longer i l))

    bytes : (i : ℕ) → i < n → byte_at s i ≡ byte_at (take n s ++ rest) i
    bytes i l =
        byte-in s i (omega arith) ∙ sym (get_or-take n s i 0 l) ∙ sym (get_or-append (take n s) rest 0 i (omega (arith, front)))
        ∙ sym (byte-in (take n s ++ rest) i (longer i l))

-- a refused text, cut behind its fault: whatever follows gets the same answer
pub cut : (s rest : List ℕ) → ((progress_of s).code ≡ 0 → ⊥) → (progress_of s).at ≤ length s
    → reading_of (take (progress_of s).at s ++ rest) ≡ reading_of s
cut s rest n h = reading-decides s (take (progress_of s).at s ++ rest) n (cut-agrees s rest (progress_of s).at h)
