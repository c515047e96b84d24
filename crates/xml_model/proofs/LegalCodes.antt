-- The codes that a text can be answered, and that the scan of a unit gives no other.
use Prim.Native.Nat.{ℕ, ◌+◌, ◌-◌}
use mathlib.Core.Path.{◌≡◌, refl, subst}
use mathlib.Core.Bool.{Bool, true, false, cond, not, ◌&&◌, ◌||◌}
use mathlib.Core.List.{List}
use lib.ListN.{length}
use lib.Dec.{eqb}
use Rattle.xml_model.specs.Shapes.{Attribute}
use Rattle.xml_model.specs.Shapes.{Tail}
use Rattle.xml_model.specs.Shapes.{Tag}
use Rattle.xml_model.specs.Repeat.{Next, stop, more}
use Rattle.xml_model.specs.Bytes.{byte_at, part, is_name_start, spaces, names, texts, run_end, is_mark, stuck, looked}
use Rattle.xml_model.specs.Tags.{stuck_attribute, value_at, equals_at, attribute_at, given, tailed, stuck_tail, empty_tail}
use Rattle.xml_model.specs.Tags.{attribute_step, tail_step, tail_of, stuck_tag, end_tag, start_tag, tag_at, unit_at}
use Rattle.xml_model.specs.Import.{Code, accepted, not-formed, not-accepted}
use Rattle.xml_model.proofs.Repeats.{repeat-ind}

-- what holds of both values of a choice
pub on-cond : {A : Type 0} (P : A → Type 0) (b : Bool) (x y : A) → (b ≡ true → P x) → (b ≡ false → P y) → P (cond b x y)
on-cond P true x y f g = f refl
on-cond P false x y f g = g refl

pub stuck-code : (s : List ℕ) (i : ℕ) → Code (stuck s i)
unfolding stuck
stuck-code s i = on-cond Code (is_mark s i) 41 40 (λ q. not-accepted refl) (λ q. not-formed refl)

-- ## Attributes

module _ (s : List ℕ) where
  abbrev AttributeCode : Attribute → Type 0
  AttributeCode a = Code a.code

  stuck-attribute : (i : ℕ) → AttributeCode (stuck_attribute s i)
  unfolding stuck_attribute
  stuck-attribute i = stuck-code s i

  value-code : (i e v : ℕ) → AttributeCode (value_at s i e v)
  unfolding value_at
  value-code i e v =
      on-cond AttributeCode (eqb (byte_at s v) 34 || eqb (byte_at s v) 39) _ _
      (λ q. on-cond AttributeCode (eqb (byte_at s (run_end (byte_at s v) s (v + 1))) (byte_at s v)) _ _
      (λ r. accepted refl) (λ r. stuck-attribute (run_end (byte_at s v) s (v + 1))))
      (λ q. stuck-attribute v)

  equals-code : (i e q : ℕ) → AttributeCode (equals_at s i e q)
  unfolding equals_at
  equals-code i e q =
      on-cond AttributeCode (eqb (byte_at s q) 61) _ _ (λ r. value-code i e (run_end spaces s (q + 1))) (λ r. stuck-attribute q)

  attribute-code : (i : ℕ) → AttributeCode (attribute_at s i)
  unfolding attribute_at
  attribute-code i =
      on-cond AttributeCode (is_name_start (byte_at s i)) _ _
      (λ q. equals-code i (run_end names s i) (run_end spaces s (run_end names s i)))
      (λ q. stuck-attribute i)

-- ## What follows a tag's name

abbrev TailCode : Tail → Type 0
TailCode x = Code x.code

-- a turn that stops
abbrev StopCode : Next ℕ Tail → Type 0
StopCode (stop x) = TailCode x
StopCode (more j) = Unit {0}

module _ (s : List ℕ) where
  tailed-code : (c form next : ℕ) → Code c → TailCode (tailed c form next)
  unfolding tailed
  tailed-code c form next k = k

  stuck-tail : (i : ℕ) → TailCode (stuck_tail s i)
  stuck-tail i = tailed-code (stuck s i) 0 (looked s i) (stuck-code s i)

  empty_code : (g : ℕ) → TailCode (empty_tail s g)
  unfolding empty_tail
  empty_code g =
      on-cond TailCode (eqb (byte_at s (g + 1)) 62) _ _ (λ q. tailed-code 0 1 (g + 2) (accepted refl)) (λ q. stuck-tail (g + 1))

  step-code : (first j : ℕ) (a : Attribute) → Code a.code → StopCode (attribute_step s first j a)
  unfolding attribute_step
  step-code first j a k =
      on-cond StopCode (eqb a.code 0) _ _
      (λ q. on-cond StopCode (given s j (part s a.name a.end) first) _ _
      (λ r. tailed-code 40 0 (a.to + 1) (not-formed refl)) (λ r. tt))
      (λ q. tailed-code a.code 0 a.to k)

  turn-code : (first j : ℕ) → StopCode (tail_step s first j)
  unfolding tail_step
  turn-code first j =
      let g = run_end spaces s j in
      on-cond StopCode (eqb (byte_at s g) 62) _ _
      (λ q. tailed-code 0 0 (g + 1) (accepted refl))
      (λ q. on-cond StopCode (eqb (byte_at s g) 47) _ _
      (λ r. empty_code g)
      (λ r. on-cond StopCode (eqb g j) _ _ (λ t. stuck-tail g) (λ t. step-code first j (attribute_at s g) (attribute-code s g))))

  tail-code : (first : ℕ) → TailCode (tail_of s first)
  unfolding tail_of
  tail-code first =
      repeat-ind (λ j. length s - j) (tail_step s first) (stuck_tail s (length s)) (λ j x. TailCode x)
      (λ j. stuck-tail (length s))
      (λ j x e. subst StopCode e (turn-code first j))
      (λ j i x e h. h)
      first

-- ## A unit

abbrev TagCode : Tag → Type 0
TagCode t = Code t.code

module _ (s : List ℕ) where
  stuck-tag : (i : ℕ) → TagCode (stuck_tag s i)
  unfolding stuck_tag
  stuck-tag i = stuck-code s i

  end-code : (from at e : ℕ) → TagCode (end_tag s from at e)
  unfolding end_tag
  end-code from at e =
      on-cond TagCode (eqb (byte_at s (run_end spaces s e)) 62) _ _ (λ q. accepted refl) (λ q. stuck-tag (run_end spaces s e))

  start-code : (from at e : ℕ) → TagCode (start_tag s from at e)
  unfolding start_tag
  start-code from at e = tail-code s e

  tag-code : (from at : ℕ) → TagCode (tag_at s from at)
  unfolding tag_at
  tag-code from at =
      on-cond TagCode (eqb (byte_at s (at + 1)) 47) _ _
      (λ q. on-cond TagCode (is_name_start (byte_at s (at + 2))) _ _
      (λ r. end-code from at (run_end names s (at + 2))) (λ r. stuck-tag (at + 2)))
      (λ q. on-cond TagCode (is_name_start (byte_at s (at + 1))) _ _
      (λ r. start-code from at (run_end names s (at + 1))) (λ r. stuck-tag (at + 1)))

  pub unit-code : (i : ℕ) → TagCode (unit_at s i)
  unfolding unit_at
  unit-code i =
      let at = run_end texts s i in
      on-cond TagCode (eqb (byte_at s at) 60 && not (is_mark s at)) _ _ (λ q. tag-code i at) (λ q. stuck-tag at)
