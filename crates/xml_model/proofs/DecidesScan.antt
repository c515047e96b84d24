-- Two texts that agree as far as the scan of one of them looks are scanned alike.
use Prim.Native.Nat.{ℕ, zero, suc, ◌+◌, ◌-◌, ◌<◌, ◌≤◌}
use mathlib.Core.Path.{◌≡◌, refl, sym, ap, ◌∙◌}
use mathlib.Core.Bool.{Bool, true, false, cond, ◌||◌}
use mathlib.Core.List.{List}
use native.Mathlib.Omega.{arith}
use lib.ListN.{length, drop, length-take, length-drop}
use lib.Seq.{get_or-take, get_or-drop, ext_get_or}
use lib.Dec.{eqb, ltb}
use borrow.Author.Tests.{eqb-true, eq-eqb, ne_eqb, lt-ltb, le-ltb, ltb-false, le-leb, leb-true}
use Rattle.numbers.proofs.Tests.{on_test, clash}
use Rattle.numbers.proofs.TableLaws.{below_or_not}
use Rattle.xml_model.specs.Import.{Agree}
use Rattle.xml_model.specs.Shapes.{Attribute}
use Rattle.xml_model.specs.Bytes.{byte_at, part, same, is_name_start, spaces, names, texts, digits, in_class, run_end, bare}
use Rattle.xml_model.specs.Bytes.{is_mark, stuck, looked}
use Rattle.xml_model.specs.Tags.{stuck_attribute, value_at, equals_at, attribute_at, given}
use Rattle.xml_model.proofs.Runs.{byte-in, byte-out, byte_inside, inside, quote-small, run_on, run_out, run-from}
use Rattle.xml_model.proofs.Runs.{run-within, in-run, run_ends, stuck-pos, looked-on}
use Rattle.xml_model.proofs.Units.{next_attribute, next_name, attribute-written, attribute-held, given_out, given-here, given-on}

pub agree_less : {s z : List ℕ} {n : ℕ} (m : ℕ) → m ≤ n → Agree s z n → Agree s z m
agree_less m h g = record { bytes = λ i l. g.bytes i (omega arith); ends = λ i l. g.ends i (omega arith) }

-- ## Runs

class-end : (k : ℕ) → in_class k 256 ≡ false
unfolding in_class
class-end k = by (eqb k spaces) (eqb k names) (eqb k texts) (eqb k digits)
  where
    by : (a b c d : Bool) → cond a false (cond b false (cond c false (cond d false false))) ≡ false
    by true b c d = refl
    by false true c d = refl
    by false false true d = refl
    by false false false true = refl
    by false false false false = refl

module _ (k : ℕ) (s : List ℕ) where
  class-inside : (j : ℕ) → in_class k (byte_at s j) ≡ true → j < length s
  class-inside j q = below_or_not j (length s) (λ h. h) (λ h. clash q (ap (in_class k) (byte-out s j h) ∙ class-end k))

  run-class : (i j : ℕ) → i ≤ j → j < run_end k s i → in_class k (byte_at s j) ≡ true
  run-class i j l m = below_or_not j (length s) (λ h. ap (in_class k) (byte-in s j h) ∙ in-run k s i j l m)
      (λ h. below_or_not i (length s) (λ q. absurd (omega (arith, run-within k s i (omega arith))))
      (λ q. absurd (omega (arith, run_out k s i q))))

  run-stops : (i : ℕ) → in_class k (byte_at s (run_end k s i)) ≡ false
  run-stops i = below_or_not (run_end k s i) (length s) (λ h. ap (in_class k) (byte-in s (run_end k s i) h) ∙ run_ends k s i h)
      (λ h. ap (in_class k) (byte-out s (run_end k s i) h) ∙ class-end k)

  -- a run goes as far as the bytes are of its class
  run-covers : (n i : ℕ) → ((j : ℕ) → i ≤ j → j < i + n → in_class k (byte_at s j) ≡ true) → i + n ≤ run_end k s i
  run-covers zero i f = omega (arith, run-from k s i)
  run-covers (suc n) i f =
      let q = f i (omega arith) (omega arith) in
      let h = class-inside i q in
      let e = run_on k s i h (ap (in_class k) (sym (byte-in s i h)) ∙ q) in
      omega (arith, e, run-covers n (i + 1) (λ j l m. f j (omega arith) (omega arith)))

pub run_agree : {s z : List ℕ} (k i : ℕ) → Agree s z (run_end k s i + 1) → run_end k z i ≡ run_end k s i
run_agree {s} {z} k i g =
    let h = run-from k s i in
    let c = run-covers k z (run_end k s i - i) i
    (λ j l m. ap (in_class k) (sym (g.bytes j (omega arith))) ∙ run-class k s i j l (omega arith)) in
    below_or_not (run_end k s i) (run_end k z i)
    (λ m. clash (run-class k z i (run_end k s i) h m) (ap (in_class k) (sym (g.bytes (run_end k s i) (omega arith))) ∙ run-stops k s i))
    (λ m. omega arith)

bare-as : (s z : List ℕ) (a b : ℕ) → ((i : ℕ) → i < b → byte_at s i ≡ byte_at z i) → bare s a b ≡ true → bare z a b ≡ true
unfolding bare
bare-as s z a b f q = le-leb b (run_end spaces z a) (below_or_not a b
    (λ h. let c = run-covers spaces z (b - a) a
    (λ j l m. ap (in_class spaces) (sym (f j (omega arith))) ∙ run-class spaces s a j l (omega (arith, leb-true b (run_end spaces s a) q))) in
    omega arith)
    (λ h. omega (arith, run-from spaces z a)))

pub bare-agree : {s z : List ℕ} (a b : ℕ) → Agree s z b → bare z a b ≡ bare s a b
bare-agree {s} {z} a b g = on_test (bare s a b) (λ q. bare-as s z a b (λ i l. g.bytes i l) q ∙ sym q)
    (λ q. on_test (bare z a b) (λ r. clash (bare-as z s a b (λ i l. sym (g.bytes i l)) r) q) (λ r. r ∙ sym q))

-- a place of the one text is one of the other
within-agree : {s z : List ℕ} {n : ℕ} (b : ℕ) → b ≤ n → b ≤ length s → Agree s z n → b ≤ length z
within-agree {s} {z} b h l g = below_or_not (length z) b
    (λ q. clash (lt-ltb (length z) (length s) (omega arith))
    (g.ends (length z) (omega arith) ∙ le-ltb (length z) (length z) (omega arith)))
    (λ q. q)

-- the bytes from a to b
pub part-agree : {s z : List ℕ} {n : ℕ} (a b : ℕ) → b ≤ n → b ≤ length s → Agree s z n → part z a b ≡ part s a b
part-agree {s} {z} a b h l g =
    let m = within-agree b h l g in
    let e : length (part z a b) ≡ b - a = rw (length-take, length-drop) (omega arith) in
    let d : length (part s a b) ≡ b - a = rw (length-take, length-drop) (omega arith) in
    ext_get_or 0 (part z a b) (part s a b) (e ∙ sym d)
    (λ i q. let w : i < b - a = omega arith in
    get_or-take (b - a) (drop a z) i 0 w ∙ get_or-drop a z i 0
    ∙ sym (byte-in z (a + i) (omega arith)) ∙ sym (g.bytes (a + i) (omega arith)) ∙ byte-in s (a + i) (omega arith)
    ∙ sym (get_or-take (b - a) (drop a s) i 0 w ∙ get_or-drop a s i 0))

-- ## Where the scan is stuck

pub looked-mark : (s : List ℕ) (i : ℕ) → byte_at s i ≡ 60 → looked s i ≡ i + 2
unfolding looked
looked-mark s i e = rw (lt-ltb i (length s) (inside s i 60 (omega arith) e), eq-eqb (byte_at s i) 60 e)

module _ {s z : List ℕ} (i : ℕ) (h : i ≤ length s) (g : Agree s z (looked s i)) where
  pub looked-agree : looked z i ≡ looked s i
  unfolding looked
  looked-agree =
      let l = looked-on s i h in
      let e = g.ends i l in
      on_test (ltb i (length s)) (λ q. rw (← e, ← g.bytes i l, q))
      (λ q. let w = within-agree i (omega arith) h g in
      rw (← e, q) (omega (arith, ltb-false i (length s) q, ltb-false i (length z) (sym e ∙ q))))

  pub mark-agree : is_mark z i ≡ is_mark s i
  unfolding is_mark
  mark-agree =
      let l = looked-on s i h in
      on_test (eqb (byte_at s i) 60)
      (λ q. rw (← g.bytes i l, ← g.bytes (i + 1) (omega (arith, looked-mark s i (eqb-true _ _ q)))))
      (λ q. rw (← g.bytes i l, q))

  pub stuck-agree : stuck z i ≡ stuck s i
  unfolding stuck
  stuck-agree = rw mark-agree

-- ## What is told by the first p places

-- x is told by the first p places and those behind them, up to reach x, and y is the same of a text that agrees there
pub record Told {A : Type 0} (s z : List ℕ) (reach : A → ℕ) (p : ℕ) (x y : A) : Type 0 where
  pub on : p ≤ reach x
  pub same : Agree s z (reach x) → y ≡ x

module _ {s z : List ℕ} {A : Type 0} (reach : A → ℕ) where
  pub told-leaf : (p : ℕ) (x : A) → p ≤ reach x → Told s z reach p x x
  told-leaf p x h = record { on = h; same = λ _. refl }

  pub told-less : {x y : A} (p q : ℕ) → p ≤ q → Told s z reach q x y → Told s z reach p x y
  told-less p q h t = record { on = omega (arith, t.on); same = t.same }

  pub told-as : {x y : A} (p : ℕ) (w : A) → (Agree s z p → w ≡ y) → Told s z reach p x y → Told s z reach p x w
  told-as p w e t = record { on = t.on; same = λ g. e (agree_less p t.on g) ∙ t.same g }

  pub told-branch : (p : ℕ) (b : Bool) (x y v w : A) → (b ≡ true → Told s z reach p x v) → (b ≡ false → Told s z reach p y w)
      → Told s z reach p (cond b x y) (cond b v w)
  told-branch p true x y v w f g = f refl
  told-branch p false x y v w f g = g refl

  -- a test that the first p places decide
  pub told-cond : (p : ℕ) (b c : Bool) (x y v w : A) → (Agree s z p → c ≡ b) → (b ≡ true → Told s z reach p x v)
      → (b ≡ false → Told s z reach p y w) → Told s z reach p (cond b x y) (cond c v w)
  told-cond p b c x y v w e f g = told-as p (cond c v w) (λ a. ap (λ (d : Bool). cond d v w) (e a)) (told-branch p b x y v w f g)

  -- a test of the byte at i
  pub told-byte : {x y v w : A} (p i : ℕ) (f : ℕ → Bool) → i < p → (f (byte_at s i) ≡ true → Told s z reach p x v)
      → (f (byte_at s i) ≡ false → Told s z reach p y w) → Told s z reach p (cond (f (byte_at s i)) x y) (cond (f (byte_at z i)) v w)
  told-byte {x} {y} {v} {w} p i f h = told-cond p (f (byte_at s i)) (f (byte_at z i)) x y v w (λ g. ap f (sym (g.bytes i h)))

  -- the run from p on
  pub told-run : {x : A} (q k p : ℕ) (f : ℕ → A) → q ≤ p + 1 → Told s z reach (run_end k s p + 1) x (f (run_end k s p))
      → Told s z reach q x (f (run_end k z p))
  told-run q k p f h t = told-less q (run_end k s p + 1) (omega (arith, run-from k s p))
      (told-as (run_end k s p + 1) (f (run_end k z p)) (λ g. ap f (run_agree k p g)) t)

-- what is made of a part that is told
pub told-map : {s z : List ℕ} {A B : Type 0} {x y : A} (read : A → ℕ) (reach : B → ℕ) (p : ℕ) (f g : A → B) → Told s z read p x y
    → Told s z reach (read x) (f x) (g x) → Told s z reach p (f x) (g y)
told-map {x = x} read reach p f g t u =
    told-less reach p (read x) t.on (told-as reach (read x) (g _) (λ a. ap g (t.same a)) u)

-- ## Attributes

-- an accepted attribute ends with its closing quote
unfoldable pub attribute_reach : Attribute → ℕ
attribute_reach a = cond (eqb a.code 0) (a.to + 1) a.to

reach-stuck : (s : List ℕ) (p : ℕ) → attribute_reach (stuck_attribute s p) ≡ looked s p
unfolding attribute_reach stuck_attribute
reach-stuck s p = rw (ne_eqb (stuck s p) 0 (stuck-pos s p))

pub reach-accepted : (a : Attribute) → a.code ≡ 0 → attribute_reach a ≡ a.to + 1
unfolding attribute_reach
reach-accepted a e = rw (eq-eqb a.code 0 e)

-- the value from v + 1 on, and the place w at which its quote q is looked for
ending : List ℕ → ℕ → ℕ → ℕ → ℕ → ℕ → Attribute
ending s i e v q w = cond (eqb (byte_at s w) q) (record { code = 0; name = i; end = e; from = v + 1; to = w }) (stuck_attribute s w)

module _ {s z : List ℕ} where
  attribute-stuck : (p : ℕ) → p ≤ length s → Told s z attribute_reach (p + 1) (stuck_attribute s p) (stuck_attribute z p)
  unfolding stuck_attribute
  attribute-stuck p h = record {
    on = omega (arith, reach-stuck s p, looked-on s p h);
    same = λ g. let w = rw (reach-stuck s p) at g in rw (looked-agree p h w, stuck-agree p h w);
  }

  ending-told : (i e v q w : ℕ) → w ≤ length s → Told s z attribute_reach (w + 1) (ending s i e v q w) (ending z i e v q w)
  unfolding ending attribute_reach
  ending-told i e v q w h = told-byte attribute_reach (w + 1) w (λ c. eqb c q) (omega arith)
      (λ _. told-leaf attribute_reach (w + 1) _ (omega arith)) (λ _. attribute-stuck w h)

  value-told : (i e v : ℕ) → v ≤ length s → Told s z attribute_reach (v + 1) (value_at s i e v) (value_at z i e v)
  unfolding value_at ending
  value-told i e v h = told-byte attribute_reach (v + 1) v quoted (omega arith)
      (λ q. let l = byte_inside s v (quote-small (byte_at s v) q) in
      told-as attribute_reach (v + 1) (ended (byte_at z v)) (λ g. ap ended (sym (g.bytes v (omega arith))))
      (told-run attribute_reach (v + 1) (byte_at s v) (v + 1) (λ w. ending z i e v (byte_at s v) w) (omega arith)
      (ending-told i e v (byte_at s v) (run_end (byte_at s v) s (v + 1)) (run-within (byte_at s v) s (v + 1) (omega arith)))))
      (λ _. attribute-stuck v h)
    where
      quoted : ℕ → Bool
      quoted c = eqb c 34 || eqb c 39

      ended : ℕ → Attribute
      ended c = ending z i e v c (run_end c z (v + 1))

  equals-told : (i e q : ℕ) → q ≤ length s → Told s z attribute_reach (q + 1) (equals_at s i e q) (equals_at z i e q)
  unfolding equals_at
  equals-told i e q h = told-byte attribute_reach (q + 1) q (λ c. eqb c 61) (omega arith)
      (λ y. let l = inside s q 61 (omega arith) (eqb-true _ _ y) in
      told-run attribute_reach (q + 1) spaces (q + 1) (λ v. value_at z i e v) (omega arith)
      (value-told i e (run_end spaces s (q + 1)) (run-within spaces s (q + 1) (omega arith))))
      (λ _. attribute-stuck q h)

  pub attribute-told : (i : ℕ) → i ≤ length s → Told s z attribute_reach (i + 1) (attribute_at s i) (attribute_at z i)
  unfolding attribute_at
  attribute-told i h = told-byte attribute_reach (i + 1) i (λ c. is_name_start c) (omega arith)
      (λ _. let l = run-within names s i h in
      told-run attribute_reach (i + 1) names i (λ e. equals_at z i e (run_end spaces z e)) (omega arith)
      (told-run attribute_reach (e + 1) spaces e (λ q. equals_at z i e q) (omega arith)
      (equals-told i e (run_end spaces s e) (run-within spaces s e l))))
      (λ _. attribute-stuck i h)
    where
      e : ℕ
      e = run_end names s i

  -- the one behind the white space from j on
  pub next-told : (j : ℕ) → j ≤ length s → Told s z attribute_reach (j + 1) (next_attribute s j) (next_attribute z j)
  next-told j h = told-run attribute_reach (j + 1) spaces j (λ g. attribute_at z g) (omega arith)
      (attribute-told (run_end spaces s j) (run-within spaces s j h))

-- ## "no Name twice in one tag"

-- the attributes from j on lead to p
pub data Reaches (s : List ℕ) : ℕ → ℕ → Type 0 where
  here : {j : ℕ} → Reaches s j j
  onto : {j p : ℕ} → (next_attribute s j).code ≡ 0 → Reaches s ((next_attribute s j).to + 1) p → Reaches s j p

pub attribute-after : (s : List ℕ) (j : ℕ) → (next_attribute s j).code ≡ 0 → j < (next_attribute s j).to
attribute-after s j o = let w = attribute-held s (run_end spaces s j) o in omega (arith, run-from spaces s j, w.moved)

reaches-less : {s : List ℕ} {j p : ℕ} → Reaches s j p → j ≤ p
reaches-less here = omega arith
reaches-less {s} {j} (onto o r) = omega (arith, attribute-after s j o, reaches-less r)

pub reaches-next : {s : List ℕ} {j p : ℕ} → Reaches s j p → (next_attribute s p).code ≡ 0 → Reaches s j ((next_attribute s p).to + 1)
reaches-next here o = onto o here
reaches-next (onto q r) o = onto q (reaches-next r o)

module _ {s z : List ℕ} (j : ℕ) (o : (next_attribute s j).code ≡ 0) (g : Agree s z ((next_attribute s j).to + 1)) where
  pub held : (next_attribute s j).end ≤ (next_attribute s j).to
  held =
      let a = next_attribute s j in
      let w = attribute-written s (run_end spaces s j) o in
      let q = run-from spaces s a.end in
      let v = run-from spaces s (run_end spaces s a.end + 1) in
      omega (arith, w.at, w.from, w.to, run-from (byte_at s w.quote) s a.from)

  pub next_agree : next_attribute z j ≡ next_attribute s j
  next_agree = let w = attribute-held s (run_end spaces s j) o in
      (next-told {s = s} {z = z} j (omega (arith, run-from spaces s j, w.moved, w.to))).same (rw (reach-accepted (next_attribute s j) o) g)

  pub name_agree : next_name z j ≡ next_name s j
  name_agree = let w = attribute-held s (run_end spaces s j) o in
      rw next_agree (part-agree (next_attribute s j).name (next_attribute s j).end (omega (arith, held)) w.ended g)

pub given-agree : {s z : List ℕ} {j p : ℕ} (v : List ℕ) → Reaches s j p → Agree s z p → given z p v j ≡ given s p v j
given-agree {s} {z} {j} {p} v here g = given_out z p v j (omega arith) ∙ sym (given_out s p v j (omega arith))
given-agree {s} {z} {j} {p} v (onto o r) g =
    let l : (next_attribute s j).to + 1 ≤ p = reaches-less r in
    let h : j < p = omega (arith, attribute-after s j o) in
    let w = agree_less ((next_attribute s j).to + 1) l g in
    let e = next_agree j o w in
    let n = name_agree j o w in
    let c : (next_attribute z j).code ≡ 0 = ap (λ (a : Attribute). a.code) e ∙ o in
    on_test (same v (next_name s j))
    (λ q. given-here z p v j h c (ap (same v) n ∙ q) ∙ sym (given-here s p v j h o q))
    (λ q. given-on z p v j h c (ap (same v) n ∙ q) ∙ ap (λ (a : Attribute). given z p v (a.to + 1)) e
    ∙ given-agree v r g ∙ sym (given-on s p v j h o q))
