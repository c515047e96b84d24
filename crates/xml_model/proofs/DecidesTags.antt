-- Loops, the tail of a tag, the attribute of a name, and a unit: alike in two texts that agree as far as the scan of one looks.
use Prim.Native.Nat.{ℕ, zero, suc, ◌+◌, ◌-◌, ◌<◌, ◌≤◌}
use mathlib.Core.Path.{◌≡◌, refl, sym, ap, ◌∙◌}
use mathlib.Core.Bool.{false, cond, not, ◌&&◌}
use mathlib.Core.List.{List}
use native.Mathlib.Omega.{arith}
use lib.ListN.{length}
use lib.Dec.{eqb}
use borrow.Author.Tests.{eqb-true, eq-eqb}
use Rattle.numbers.proofs.Tests.{on_test, clash}
use Rattle.xml_model.specs.Shapes.{Attribute}
use Rattle.xml_model.specs.Shapes.{Tail}
use Rattle.xml_model.specs.Shapes.{Tag}
use Rattle.xml_model.specs.Repeat.{Next, stop, more, repeat}
use Rattle.xml_model.specs.Bytes.{byte_at, part, same, is_name_start, spaces, names, texts, run_end}
use Rattle.xml_model.specs.Bytes.{is_mark, looked}
use Rattle.xml_model.specs.Tags.{attribute_at, given, tailed, stuck_tail, empty_tail}
use Rattle.xml_model.specs.Tags.{attribute_step, tail_step, tail_of, look, stuck_tag, end_tag, start_tag, tag_at, unit_at}
use Rattle.xml_model.proofs.Repeats.{repeat-stop, repeat-more}
use Rattle.xml_model.proofs.Runs.{inside, run-from}
use Rattle.xml_model.proofs.Runs.{run-within, looked-on}
use Rattle.xml_model.proofs.CountsUnits.{text-empty}
use Rattle.xml_model.proofs.Units.{next_attribute, next_name, attribute-written, attribute-held}
use Rattle.xml_model.proofs.Units.{look-stuck, look-here, look-on, tail_more, tail-falls, tail-ind}
use Rattle.xml_model.specs.Import.{Agree}
use Rattle.xml_model.proofs.DecidesScan.{agree_less, run_agree, part-agree, looked-mark, looked-agree, mark-agree}
use Rattle.xml_model.proofs.DecidesScan.{stuck-agree, Told, told-leaf, told-less, told-as, told-branch}
use Rattle.xml_model.proofs.DecidesScan.{told-cond, told-byte, told-run, told-map, attribute_reach, reach-accepted, attribute-told}
use Rattle.xml_model.proofs.DecidesScan.{Reaches}
use Rattle.xml_model.proofs.DecidesScan.{here, attribute-after, reaches-next, held, next_agree, name_agree, given-agree}

-- ## Loops

-- how far a turn has looked: up to the place of the next one, or as far as its result says
abbrev pub next_reach : {A R : Type 0} → (A → ℕ) → (R → ℕ) → Next A R → ℕ
next_reach pos reach (stop r) = reach r
next_reach pos reach (more a) = pos a

pub told-stop : {s z : List ℕ} {A R : Type 0} {x y : R} (pos : A → ℕ) (reach : R → ℕ) (p : ℕ) → Told s z reach p x y
    → Told {A = Next A R} s z (next_reach pos reach) p (stop x) (stop y)
told-stop pos reach p t = record { on = t.on; same = λ g. ap stop (t.same g) }

-- two loops whose turns are told, as long as Good holds
module _ {s z : List ℕ} {A R : Type 0} (pos : A → ℕ) (reach : R → ℕ) (size size' : A → ℕ) (f f' : A → Next A R) (none none' : R)
    (falls : (a b : A) → f a ≡ more b → size b < size a) (falls' : (a b : A) → f' a ≡ more b → size' b < size' a)
    (Good : A → Type 0) (keeps : (a b : A) → Good a → f a ≡ more b → Good b)
    (turn : (a : A) → Good a → Told s z (next_reach pos reach) (pos a) (f a) (f' a)) where
  told-turns : (n : ℕ) (a : A) → size a < n → Good a → Told s z reach (pos a) (repeat size f none a) (repeat size' f' none' a)
  told-turns zero a h c = absurd (omega arith)
  told-turns (suc n) a h c = by (f a) refl (turn a c) (told-turns n)
    where
      by : (x : Next A R) → f a ≡ x → Told s z (next_reach pos reach) (pos a) x (f' a)
          → ((b : A) → size b < n → Good b → Told s z reach (pos b) (repeat size f none b) (repeat size' f' none' b))
          → Told s z reach (pos a) (repeat size f none a) (repeat size' f' none' a)
      by (stop r) e t ih =
          rw (repeat-stop size f none a r e)
          (record { on = t.on; same = λ g. repeat-stop size' f' none' a r (t.same g) })
      by (more b) e t ih =
          let u = ih b (omega (arith, falls a b e)) (keeps a b c e) in
          rw (repeat-more size f none falls a b e)
          (record {
            on = omega (arith, t.on, u.on);
            same = λ g. repeat-more size' f' none' falls' a b (t.same (agree_less (pos b) u.on g)) ∙ u.same g;
          })

  pub told-repeat : (a : A) → Good a → Told s z reach (pos a) (repeat size f none a) (repeat size' f' none' a)
  told-repeat a = told-turns (suc (size a)) a (omega arith)

-- ## What follows a tag's name

abbrev pub tail_reach : Tail → ℕ
tail_reach t = t.next

-- a turn that starts at j looks at the byte there
abbrev behind : ℕ → ℕ
behind j = j + 1

step-reach : (s : List ℕ) (first j : ℕ) (a : Attribute) → attribute_reach a ≤ next_reach behind tail_reach (attribute_step s first j a)
unfolding attribute_step attribute_reach tailed
step-reach s first j a = on_test (eqb a.code 0)
    (λ q. rw q (on_test (given s j (part s a.name a.end) first) (λ r. rw r (omega arith)) (λ r. rw r (omega arith))))
    (λ q. rw q (omega arith))

-- one turn, where the white space ends at g
tail_turn : List ℕ → ℕ → ℕ → ℕ → Next ℕ Tail
tail_turn s first j g =
    cond (eqb (byte_at s g) 62) (stop (tailed 0 0 (g + 1)))
    (cond (eqb (byte_at s g) 47) (stop (empty_tail s g))
    (cond (eqb g j) (stop (stuck_tail s g))
    (attribute_step s first j (attribute_at s g))))

module _ {s z : List ℕ} where
  tail-stuck : (p : ℕ) → p ≤ length s → Told s z tail_reach (p + 1) (stuck_tail s p) (stuck_tail z p)
  unfolding tailed
  tail-stuck p h = record { on = omega (arith, looked-on s p h); same = λ g. rw (looked-agree p h g, stuck-agree p h g) }

  empty-told : (g : ℕ) → g < length s → Told s z tail_reach (g + 1 + 1) (empty_tail s g) (empty_tail z g)
  unfolding empty_tail tailed
  empty-told g h = told-byte tail_reach (g + 1 + 1) (g + 1) (λ c. eqb c 62) (omega arith)
      (λ _. told-leaf tail_reach (g + 1 + 1) _ (omega arith)) (λ _. tail-stuck (g + 1) (omega arith))

  -- the attribute at the end of the white space from j on
  step-told : (first j : ℕ) → Reaches s first j → j ≤ length s → Told s z (next_reach behind tail_reach) (run_end spaces s j + 1)
      (attribute_step s first j (next_attribute s j)) (attribute_step z first j (attribute_at z (run_end spaces s j)))
  unfolding attribute_step
  step-told first j r h =
      told-map attribute_reach (next_reach behind tail_reach) (run_end spaces s j + 1) (attribute_step s first j) (attribute_step z first j)
      (attribute-told (run_end spaces s j) (run-within spaces s j h))
      (record { on = step-reach s first j a; same = λ g. agrees (agree_less (attribute_reach a) (step-reach s first j a) g) })
    where
      a : Attribute
      a = next_attribute s j

      agrees : Agree s z (attribute_reach (next_attribute s j))
          → attribute_step z first j (next_attribute s j) ≡ attribute_step s first j (next_attribute s j)
      agrees g = on_test (eqb (next_attribute s j).code 0)
          (λ q. let o = eqb-true (next_attribute s j).code 0 q in
          let w = rw (reach-accepted (next_attribute s j) o) at g in
          let u = attribute-held s (run_end spaces s j) o in
          rw (
            q,
            part-agree (next_attribute s j).name (next_attribute s j).end (omega (arith, held {s = s} {z = z} j o w)) u.ended w,
            given-agree (next_name s j) r (agree_less j (omega (arith, attribute-after s j o)) w),
          ))
          (λ q. rw q)

  turn-told : (first j : ℕ) → Reaches s first j → j ≤ length s
      → Told s z (next_reach behind tail_reach) (run_end spaces s j + 1) (tail_turn s first j (run_end spaces s j))
      (tail_turn z first j (run_end spaces s j))
  unfolding tail_turn tailed
  turn-told first j r h =
      told-byte R (g + 1) g (λ c. eqb c 62) (omega arith)
      (λ _. told-leaf R (g + 1) _ (omega arith))
      (λ _. told-byte R (g + 1) g (λ c. eqb c 47) (omega arith)
      (λ q. told-stop behind tail_reach (g + 1) (told-less tail_reach (g + 1) (g + 1 + 1) (omega arith)
      (empty-told g (inside s g 47 (omega arith) (eqb-true _ _ q)))))
      (λ _. told-branch R (g + 1) (eqb g j) _ _ _ _ (λ _. told-stop behind tail_reach (g + 1) (tail-stuck g (run-within spaces s j h)))
      (λ _. step-told first j r h)))
    where
      g : ℕ
      g = run_end spaces s j

      R : Next ℕ Tail → ℕ
      R = next_reach behind tail_reach

  pub tail-told : (first : ℕ) → first ≤ length s → Told s z tail_reach (first + 1) (tail_of s first) (tail_of z first)
  unfolding tail_of tail_step tail_turn
  tail-told first h =
      told-repeat behind tail_reach (λ j. length s - j) (λ j. length z - j) (tail_step s first) (tail_step z first) (stuck_tail s (length s))
      (stuck_tail z (length z)) (tail-falls s first) (tail-falls z first) (λ j. Reaches s first j × (j ≤ length s))
      (λ j b c e. let m = tail_more s first j b e in
      let w = attribute-held s (run_end spaces s j) m.1 in
      rw (← m.3) (reaches-next c.0 m.1, omega (arith, w.to)))
      (λ j c. told-run (next_reach behind tail_reach) (j + 1) spaces j (λ g. tail_turn z first j g) (omega arith)
      (turn-told first j c.0 c.1))
      first (here, h)

-- ## The attribute of a name

no-attribute : (s : List ℕ) (j c : ℕ) → is_name_start c ≡ false → byte_at s (run_end spaces s j) ≡ c → (next_attribute s j).code ≡ 0 → ⊥
no-attribute s j c n e o = clash (attribute-written s (run_end spaces s j) o).starts (ap (λ (b : ℕ). is_name_start b) e ∙ n)

-- what is found from j on, in a tag that ends with tail t
pub record Found (s z : List ℕ) (j : ℕ) (t : Tail) : Type 0 where
  pub moved : j < t.next
  pub to : (v : List ℕ) → (look s v j).to ≤ t.next
  pub same : Agree s z t.next → (v : List ℕ) → look z v j ≡ look s v j

module _ {s z : List ℕ} where
  -- no attribute is left, but the byte c
  none_found : (j c : ℕ) (t : Tail) → is_name_start c ≡ false → byte_at s (run_end spaces s j) ≡ c → run_end spaces s j < t.next → Found s z j t
  none_found j c t n e h =
      let f = run-from spaces s j in
      record {
        moved = omega arith;
        to = λ v. rw (look-stuck s v j (no-attribute s j c n e)) (omega arith);
        same = λ g v.
            let w = run_agree spaces j (agree_less (run_end spaces s j + 1) (omega arith) g) in
            look-stuck z v j (no-attribute z j c n (ap (byte_at z) w ∙ sym (g.bytes (run_end spaces s j) h) ∙ e))
            ∙ sym (look-stuck s v j (no-attribute s j c n e));
      }

  more-found : (j : ℕ) (t : Tail) → (next_attribute s j).code ≡ 0 → Found s z ((next_attribute s j).to + 1) t → Found s z j t
  more-found j t o f =
      record {
        moved = omega (arith, attribute-after s j o, f.moved);
        to = λ v. on_test (same v (next_name s j))
            (λ q. rw (look-here s v j o q) (omega (arith, f.moved))) (λ q. rw (look-on s v j o q) (f.to v));
        same = λ g v.
            let w = agree_less ((next_attribute s j).to + 1) (omega (arith, f.moved)) g in
            let e = next_agree j o w in
            let n = name_agree j o w in
            let c : (next_attribute z j).code ≡ 0 = ap (λ (a : Attribute). a.code) e ∙ o in
            on_test (same v (next_name s j))
            (λ q. look-here z v j c (ap (same v) n ∙ q) ∙ ap (λ (a : Attribute). record { from = a.from; to = a.to }) e
            ∙ sym (look-here s v j o q))
            (λ q. look-on z v j c (ap (same v) n ∙ q) ∙ ap (λ (a : Attribute). look z v (a.to + 1)) e ∙ f.same g v
            ∙ sym (look-on s v j o q));
      }

  pub look-found : (first : ℕ) → (tail_of s first).code ≡ 0 → Found s z first (tail_of s first)
  unfolding tailed
  look-found first =
      tail-ind s first (Found s z) (λ j e. none_found j 62 _ refl e (omega arith)) (λ j e _. none_found j 47 _ refl e (omega arith))
      (λ j t _ o _ f. more-found j t o f)

-- ## A unit

abbrev pub tag_reach : Tag → ℕ
tag_reach t = t.next

module _ {s z : List ℕ} where
  tag_stuck : (p : ℕ) → p ≤ length s → Told s z tag_reach (p + 1) (stuck_tag s p) (stuck_tag z p)
  unfolding stuck_tag
  tag_stuck p h = record { on = omega (arith, looked-on s p h); same = λ g. rw (looked-agree p h g, stuck-agree p h g) }

  end-told : (from at e : ℕ) → e ≤ length s → Told s z tag_reach (e + 1) (end_tag s from at e) (end_tag z from at e)
  unfolding end_tag
  end-told from at e h = told-run tag_reach (e + 1) spaces e (ended z) (omega arith)
      (told-byte tag_reach (g + 1) g (λ c. eqb c 62) (omega arith)
      (λ _. told-leaf tag_reach (g + 1) _ (omega arith)) (λ _. tag_stuck g (run-within spaces s e h)))
    where
      g : ℕ
      g = run_end spaces s e

      ended : List ℕ → ℕ → Tag
      ended t g =
          cond (eqb (byte_at t g) 62) (record { code = 0; form = 2; from = from; at = at; name = at + 2; end = e; next = g + 1 })
          (stuck_tag t g)

  start-told : (from at e : ℕ) → e ≤ length s → Told s z tag_reach (e + 1) (start_tag s from at e) (start_tag z from at e)
  unfolding start_tag
  start-told from at e h = let t = tail-told {s = s} {z = z} e h in record { on = t.on; same = λ g. rw (t.same g) }

  tag-told : (from at : ℕ) → at < length s → Told s z tag_reach (at + 1 + 1) (tag_at s from at) (tag_at z from at)
  unfolding tag_at
  tag-told from at h =
      told-byte tag_reach (at + 1 + 1) (at + 1) (λ c. eqb c 47) (omega arith)
      (λ q. let l = inside s (at + 1) 47 (omega arith) (eqb-true _ _ q) in
      told-less tag_reach (at + 1 + 1) (at + 2 + 1) (omega arith)
      (told-byte tag_reach (at + 2 + 1) (at + 2) (λ c. is_name_start c) (omega arith)
      (λ _. told-run tag_reach (at + 2 + 1) names (at + 2) (λ e. end_tag z from at e) (omega arith)
      (end-told from at (run_end names s (at + 2)) (run-within names s (at + 2) (omega arith))))
      (λ _. tag_stuck (at + 2) (omega arith))))
      (λ _. told-byte tag_reach (at + 1 + 1) (at + 1) (λ c. is_name_start c) (omega arith)
      (λ _. told-run tag_reach (at + 1 + 1) names (at + 1) (λ e. start_tag z from at e) (omega arith)
      (start-told from at (run_end names s (at + 1)) (run-within names s (at + 1) (omega arith))))
      (λ _. tag_stuck (at + 1) (omega arith)))

  -- a `<` that is a mark or not
  mark-told : (i at : ℕ) → byte_at s at ≡ 60
      → Told s z tag_reach (at + 1 + 1) (cond (not (is_mark s at)) (tag_at s i at) (stuck_tag s at))
      (cond (not (is_mark z at)) (tag_at z i at) (stuck_tag z at))
  unfolding stuck_tag
  mark-told i at e =
      let h = inside s at 60 (omega arith) e in
      told-cond tag_reach (at + 1 + 1) (not (is_mark s at)) (not (is_mark z at)) _ _ _ _
      (λ g. ap not (mark-agree at (omega arith) (agree_less (looked s at) (omega (arith, looked-mark s at e)) g)))
      (λ _. tag-told i at h)
      (λ _. record { on = omega (arith, looked-mark s at e); same = (tag_stuck at (omega arith)).same })

  pub unit-told : (i : ℕ) → i ≤ length s → Told s z tag_reach (i + 1) (unit_at s i) (unit_at z i)
  unfolding unit_at
  unit-told i h = told-run tag_reach (i + 1) texts i (tagged z) (omega arith)
      (told-as tag_reach {y = cond (eqb (byte_at s at) 60 && not (is_mark z at)) (tag_at z i at) (stuck_tag z at)} (at + 1) (tagged z at)
      (λ g. rw (← g.bytes at (omega arith)))
      (on_test (eqb (byte_at s at) 60)
      (λ q. rw q (told-less tag_reach (at + 1) (at + 1 + 1) (omega arith) (mark-told i at (eqb-true _ _ q))))
      (λ q. rw q (tag_stuck at (run-within texts s i h)))))
    where
      at : ℕ
      at = run_end texts s i

      tagged : List ℕ → ℕ → Tag
      tagged t j = cond (eqb (byte_at t j) 60 && not (is_mark t j)) (tag_at t i j) (stuck_tag t j)

  -- at a `<`, the byte behind it is looked at
  pub first-told : (i : ℕ) → byte_at s i ≡ 60 → Told s z tag_reach (i + 1 + 1) (unit_at s i) (unit_at z i)
  unfolding unit_at
  first-told i e =
      let h = inside s i 60 (omega arith) e in
      record { on = rw (text-empty s i e, eq-eqb (byte_at s i) 60 e) (mark-told i i e).on; same = (unit-told i (omega arith)).same }
