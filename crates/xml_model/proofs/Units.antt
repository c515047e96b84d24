-- Laws of attributes, of tags and of units: where an accepted one lies, and what a turn of each of their loops does.
use Prim.Native.Nat.{ℕ, ◌+◌, ◌-◌, ◌<◌, ◌≤◌}
use mathlib.Core.Path.{◌≡◌, refl, sym, ap, ◌∙◌}
use mathlib.Core.Bool.{Bool, true, false, cond, ◌&&◌, ◌||◌, not}
use mathlib.Core.List.{List}
use native.Mathlib.Omega.{arith}
use lib.ListN.{length}
use lib.Dec.{eqb, ltb}
use borrow.Author.Tests.{eqb-true, eqb-false, eq-eqb, ne_eqb, lt-ltb, le-ltb}
use Rattle.numbers.proofs.Tests.{and_left}
use Rattle.xml_model.specs.Shapes.{Attribute}
use Rattle.xml_model.specs.Shapes.{Tail}
use Rattle.xml_model.specs.Shapes.{Tag}
use Rattle.xml_model.specs.declared.Range.{Range}
use Rattle.xml_model.specs.Repeat.{Next, stop, more, repeat}
use Rattle.xml_model.specs.Bytes.{byte_at, part, same, is_name_start, spaces, names, texts, run_end, is_mark}
use Rattle.xml_model.specs.Tags.{stuck_attribute, value_at, equals_at, attribute_at, given_step, given, tailed, stuck_tail, empty_tail}
use Rattle.xml_model.specs.Tags.{attribute_step, tail_step, tail_of, look_step, look, stuck_tag, end_tag, start_tag, tag_at, unit_at}
use Rattle.xml_model.proofs.Repeats.{repeat-stop, repeat-more, repeat-ind}
use Rattle.xml_model.proofs.Runs.{inside, name-inside, quote-small, run-from, run-within, stuck-pos}

-- a test whose failing side is refused: what is accepted is the passing side
pub accepted : {A : Type 0} (code : A → ℕ) (P : A → Type 0) (b : Bool) (x y : A) → (code y ≡ 0 → ⊥)
    → (b ≡ true → code x ≡ 0 → P x) → code (cond b x y) ≡ 0 → P (cond b x y)
accepted code P true x y n f e = f refl e
accepted code P false x y n f e = absurd (n e)

-- the attribute that starts behind the white space from j on, and its name
abbrev pub next_attribute : List ℕ → ℕ → Attribute
next_attribute s j = attribute_at s (run_end spaces s j)

abbrev pub next_name : List ℕ → ℕ → List ℕ
next_name s j = part s (next_attribute s j).name (next_attribute s j).end

-- ## One attribute

pub stuck-attribute : (s : List ℕ) (i : ℕ) → (stuck_attribute s i).code ≡ 0 → ⊥
unfolding stuck_attribute
stuck-attribute s i = stuck-pos s i

-- the parts of an accepted attribute that starts at i: name, white space, `=`, white space, quote, value, the same quote
pub record Written (s : List ℕ) (i : ℕ) (a : Attribute) : Type 0 where
  pub starts : is_name_start (byte_at s i) ≡ true
  pub name : a.name ≡ i
  pub end : a.end ≡ run_end names s i
  pub equals : byte_at s (run_end spaces s a.end) ≡ 61
  pub quote : ℕ
  pub at : quote ≡ run_end spaces s (run_end spaces s a.end + 1)
  pub quoted : (eqb (byte_at s quote) 34 || eqb (byte_at s quote) 39) ≡ true
  pub from : a.from ≡ quote + 1
  pub to : a.to ≡ run_end (byte_at s quote) s a.from
  pub closed : byte_at s a.to ≡ byte_at s quote

module _ (s : List ℕ) where
  pub attribute-written : (i : ℕ) → (attribute_at s i).code ≡ 0 → Written s i (attribute_at s i)
  unfolding attribute_at equals_at value_at
  attribute-written i =
      accepted (λ a. a.code) (Written s i) (is_name_start (byte_at s i)) _ (stuck_attribute s i) (stuck-attribute s i)
      (λ n. accepted (λ a. a.code) (Written s i) (eqb (byte_at s q) 61) _ (stuck_attribute s q) (stuck-attribute s q)
      (λ h. accepted (λ a. a.code) (Written s i) (eqb (byte_at s v) 34 || eqb (byte_at s v) 39) _ (stuck_attribute s v) (stuck-attribute s v)
      (λ k. accepted (λ a. a.code) (Written s i) (eqb (byte_at s z) (byte_at s v)) _ (stuck_attribute s z) (stuck-attribute s z)
      (λ l _. record {
        starts = n;
        name = refl;
        end = refl;
        equals = eqb-true _ _ h;
        quote = v;
        at = refl;
        quoted = k;
        from = refl;
        to = refl;
        closed = eqb-true _ _ l;
      }))))
    where
      e : ℕ
      e = run_end names s i

      q : ℕ
      q = run_end spaces s e

      v : ℕ
      v = run_end spaces s (q + 1)

      z : ℕ
      z = run_end (byte_at s v) s (v + 1)

-- where an accepted attribute that starts at i lies in a text of n bytes
pub record Held (n i : ℕ) (a : Attribute) : Type 0 where
  pub named : a.name ≤ a.end
  pub ended : a.end ≤ n
  pub filled : 0 < a.from
  pub from : a.from ≤ a.to
  pub moved : i < a.to
  pub to : a.to < n

module _ (s : List ℕ) where
  pub attribute-held : (i : ℕ) → (attribute_at s i).code ≡ 0 → Held (length s) i (attribute_at s i)
  attribute-held i o =
      let w = attribute-written s i o in
      let a = attribute_at s i in
      let n = name-inside s i w.starts in
      let e = run-from names s i in
      let h = run-within names s i (omega arith) in
      let q = run-from spaces s a.end in
      let v = run-from spaces s (run_end spaces s a.end + 1) in
      let z = run-from (byte_at s w.quote) s a.from in
      let t = inside s a.to (byte_at s w.quote) (quote-small (byte_at s w.quote) w.quoted) w.closed in
      record {
        named = omega (arith, w.name, w.end);
        ended = omega (arith, w.end);
        filled = omega (arith, w.from);
        from = omega (arith, w.to);
        moved = omega (arith, w.name, w.end, w.at, w.from, w.to);
        to = t;
      }

  -- each attribute leaves fewer bytes
  pub attribute-falls : (j : ℕ) → (next_attribute s j).code ≡ 0 → length s - ((next_attribute s j).to + 1) < length s - j
  attribute-falls j o =
      let w = attribute-held (run_end spaces s j) o in
      let f = run-from spaces s j in
      omega (arith, w.moved, w.to)

  -- ### The attributes before a place, one by one

  module _ (p : ℕ) (v : List ℕ) where
    pub given-falls : (j b : ℕ) → given_step s p v j ≡ more b → length s - b < length s - j
    unfolding given_step
    given-falls j b = by (ltb j p) (eqb (next_attribute s j).code 0) refl (same v (next_name s j))
      where
        by : (x y : Bool) → eqb (next_attribute s j).code 0 ≡ y → (z : Bool)
            → cond x (cond y (cond z (stop true) (more ((next_attribute s j).to + 1))) (stop false)) (stop false) ≡ more b
            → length s - b < length s - j
        by true true q false e = let k : (next_attribute s j).to + 1 ≡ b = cc in omega (arith, attribute-falls j (eqb-true _ _ q))
        by true true q true e = let z : ◌≡◌ {A = ℕ} 0 1 = cc in absurd (omega arith)
        by true false q z e = let z : ◌≡◌ {A = ℕ} 0 1 = cc in absurd (omega arith)
        by false y q z e = let z : ◌≡◌ {A = ℕ} 0 1 = cc in absurd (omega arith)

    module _ (j : ℕ) where
      pub given_out : p ≤ j → given s p v j ≡ false
      unfolding given given_step
      given_out h = repeat-stop (λ i. length s - i) (given_step s p v) false j false (rw (le-ltb j p h))

      module _ (h : j < p) where
        pub given-stuck : ((next_attribute s j).code ≡ 0 → ⊥) → given s p v j ≡ false
        unfolding given given_step
        given-stuck n = repeat-stop (λ i. length s - i) (given_step s p v) false j false (rw (lt-ltb j p h, ne_eqb _ _ n))

        module _ (o : (next_attribute s j).code ≡ 0) where
          pub given-here : same v (next_name s j) ≡ true → given s p v j ≡ true
          unfolding given given_step
          given-here e = repeat-stop (λ i. length s - i) (given_step s p v) false j true (rw (lt-ltb j p h, eq-eqb _ _ o, e))

          pub given-on : same v (next_name s j) ≡ false → given s p v j ≡ given s p v ((next_attribute s j).to + 1)
          unfolding given given_step
          given-on e =
              repeat-more (λ i. length s - i) (given_step s p v) false given-falls j _ (rw (lt-ltb j p h, eq-eqb _ _ o, e))

  -- ### The attribute of a name

  module _ (v : List ℕ) where
    pub look-falls : (j b : ℕ) → look_step s v j ≡ more b → length s - b < length s - j
    unfolding look_step
    look-falls j b = by (eqb (next_attribute s j).code 0) refl (same v (next_name s j))
      where
        by : (y : Bool) → eqb (next_attribute s j).code 0 ≡ y → (z : Bool)
            → cond {A = Next ℕ Range} y
            (cond {A = Next ℕ Range} z
            (stop (record { from = (next_attribute s j).from; to = (next_attribute s j).to }))
            (more ((next_attribute s j).to + 1)))
            (stop (record { from = 0; to = 0 }))
            ≡ more b
            → length s - b < length s - j
        by true q false e = let k : (next_attribute s j).to + 1 ≡ b = cc in omega (arith, attribute-falls j (eqb-true _ _ q))
        by true q true e = let z : ◌≡◌ {A = ℕ} 0 1 = cc in absurd (omega arith)
        by false q z e = let z : ◌≡◌ {A = ℕ} 0 1 = cc in absurd (omega arith)

    module _ (j : ℕ) where
      pub look-stuck : ((next_attribute s j).code ≡ 0 → ⊥) → look s v j ≡ record { from = 0; to = 0 }
      unfolding look look_step
      look-stuck n =
          repeat-stop (λ i. length s - i) (look_step s v) (record { from = 0; to = 0 }) j (record { from = 0; to = 0 })
          (rw (ne_eqb _ _ n))

      module _ (o : (next_attribute s j).code ≡ 0) where
        pub look-here : same v (next_name s j) ≡ true
            → look s v j ≡ record { from = (next_attribute s j).from; to = (next_attribute s j).to }
        unfolding look look_step
        look-here e = repeat-stop (λ i. length s - i) (look_step s v) (record { from = 0; to = 0 }) j _ (rw (eq-eqb _ _ o, e))

        pub look-on : same v (next_name s j) ≡ false → look s v j ≡ look s v ((next_attribute s j).to + 1)
        unfolding look look_step
        look-on e =
            repeat-more (λ i. length s - i) (look_step s v) (record { from = 0; to = 0 }) look-falls j _ (rw (eq-eqb _ _ o, e))

    -- what is found lies in the text
    pub look-lies : (j : ℕ) → ((look s v j).from ≤ (look s v j).to) × ((look s v j).to ≤ length s)
    unfolding look look_step
    look-lies =
        repeat-ind (λ i. length s - i) (look_step s v) (record { from = 0; to = 0 }) (λ _ r. (r.from ≤ r.to) × (r.to ≤ length s))
        (λ j. (omega arith, omega arith)) (λ j r e. by j r (eqb (next_attribute s j).code 0) refl (same v (next_name s j)) e)
        (λ j b r e h. h)
      where
        by : (j : ℕ) (r : Range) (y : Bool) → eqb (next_attribute s j).code 0 ≡ y → (z : Bool)
            → cond {A = Next ℕ Range} y
            (cond {A = Next ℕ Range} z
            (stop (record { from = (next_attribute s j).from; to = (next_attribute s j).to }))
            (more ((next_attribute s j).to + 1)))
            (stop (record { from = 0; to = 0 }))
            ≡ stop r
            → (r.from ≤ r.to) × (r.to ≤ length s)
        by j r true q true e =
            let w = attribute-held (run_end spaces s j) (eqb-true _ _ q) in
            let k : record { from = (next_attribute s j).from; to = (next_attribute s j).to } ≡ r = cc in
            rw (← k) (w.from, omega (arith, w.to))
        by j r true q false e = let z : ◌≡◌ {A = ℕ} 0 1 = cc in absurd (omega arith)
        by j r false q z e = let k : record { from = 0; to = 0 } ≡ r = cc in rw (← k) (omega arith, omega arith)

-- ## What follows a tag's name

-- one turn, by its tests: `>`, `/`, no white space, an attribute, given before
pub turned : List ℕ → ℕ → (a b c d e : Bool) → Next ℕ Tail
turned s j a b c d e =
    cond a (stop (tailed 0 0 (run_end spaces s j + 1)))
    (cond b (stop (empty_tail s (run_end spaces s j)))
    (cond c (stop (stuck_tail s (run_end spaces s j)))
    (cond d (cond e (stop (tailed 40 0 ((next_attribute s j).to + 1))) (more ((next_attribute s j).to + 1)))
    (stop (tailed (next_attribute s j).code 0 (next_attribute s j).to)))))

module _ (s : List ℕ) (first : ℕ) where
  -- from j on, of a tag whose attributes start at first
  unfoldable pub rest : ℕ → Tail
  rest j = repeat (λ i. length s - i) (tail_step s first) (stuck_tail s (length s)) j

  pub rest-first : tail_of s first ≡ rest first
  unfolding tail_of rest
  rest-first = refl

  turn_is : (j : ℕ) → tail_step s first j ≡ turned s j (eqb (byte_at s (run_end spaces s j)) 62) (eqb (byte_at s (run_end spaces s j)) 47)
      (eqb (run_end spaces s j) j) (eqb (next_attribute s j).code 0) (given s j (next_name s j) first)
  unfolding tail_step attribute_step turned
  turn_is j = refl

  -- only an attribute whose name is not given before leads on
  pub tail_more : (j b : ℕ) → tail_step s first j ≡ more b
      → (run_end spaces s j ≡ j → ⊥) × ((next_attribute s j).code ≡ 0) × (given s j (next_name s j) first ≡ false)
      × ((next_attribute s j).to + 1 ≡ b)
  unfolding turned
  tail_more j b m =
      by (eqb (byte_at s (run_end spaces s j)) 62) (eqb (byte_at s (run_end spaces s j)) 47) (eqb (run_end spaces s j) j) refl
      (eqb (next_attribute s j).code 0) refl (given s j (next_name s j) first) refl (sym (turn_is j) ∙ m)
    where
      by : (a b' c : Bool) → eqb (run_end spaces s j) j ≡ c → (d : Bool) → eqb (next_attribute s j).code 0 ≡ d → (e : Bool)
          → given s j (next_name s j) first ≡ e → turned s j a b' c d e ≡ more b
          → (run_end spaces s j ≡ j → ⊥) × ((next_attribute s j).code ≡ 0) × (given s j (next_name s j) first ≡ false)
          × ((next_attribute s j).to + 1 ≡ b)
      by false false false p true q false r h = (eqb-false _ _ p, eqb-true _ _ q, r, cc)
      by true b' c p d q e r h = let o : ◌≡◌ {A = ℕ} 0 1 = cc in absurd (omega arith)
      by false true c p d q e r h = let o : ◌≡◌ {A = ℕ} 0 1 = cc in absurd (omega arith)
      by false false true p d q e r h = let o : ◌≡◌ {A = ℕ} 0 1 = cc in absurd (omega arith)
      by false false false p true q true r h = let o : ◌≡◌ {A = ℕ} 0 1 = cc in absurd (omega arith)
      by false false false p false q e r h = let o : ◌≡◌ {A = ℕ} 0 1 = cc in absurd (omega arith)

  pub tail-falls : (j b : ℕ) → tail_step s first j ≡ more b → length s - b < length s - j
  tail-falls j b m = let t = tail_more j b m in omega (arith, attribute-falls s j t.1, t.3)

  module _ (j : ℕ) where
    stops : (t : Tail) → tail_step s first j ≡ stop t → rest j ≡ t
    unfolding rest
    stops t e = repeat-stop (λ i. length s - i) (tail_step s first) (stuck_tail s (length s)) j t e

    pub rest-open : byte_at s (run_end spaces s j) ≡ 62 → rest j ≡ tailed 0 0 (run_end spaces s j + 1)
    unfolding tail_step
    rest-open e = stops _ (rw (eq-eqb _ _ e))

    module _ (a : byte_at s (run_end spaces s j) ≡ 62 → ⊥) where
      pub rest-empty : byte_at s (run_end spaces s j) ≡ 47 → rest j ≡ empty_tail s (run_end spaces s j)
      unfolding tail_step
      rest-empty e = stops _ (rw (ne_eqb _ _ a, eq-eqb _ _ e))

      module _ (b : byte_at s (run_end spaces s j) ≡ 47 → ⊥) where
        pub rest-tight : run_end spaces s j ≡ j → rest j ≡ stuck_tail s (run_end spaces s j)
        unfolding tail_step
        rest-tight e = stops _ (rw (ne_eqb _ _ a, ne_eqb _ _ b, eq-eqb _ _ e))

        module _ (c : run_end spaces s j ≡ j → ⊥) where
          pub rest-stuck : ((next_attribute s j).code ≡ 0 → ⊥) → rest j ≡ tailed (next_attribute s j).code 0 (next_attribute s j).to
          unfolding tail_step attribute_step
          rest-stuck e = stops _ (rw (ne_eqb _ _ a, ne_eqb _ _ b, ne_eqb _ _ c, ne_eqb _ _ e))

          module _ (d : (next_attribute s j).code ≡ 0) where
            pub rest-twice : given s j (next_name s j) first ≡ true → rest j ≡ tailed 40 0 ((next_attribute s j).to + 1)
            unfolding tail_step attribute_step
            rest-twice e = stops _ (rw (ne_eqb _ _ a, ne_eqb _ _ b, ne_eqb _ _ c, eq-eqb _ _ d, e))

            pub rest-on : given s j (next_name s j) first ≡ false → rest j ≡ rest ((next_attribute s j).to + 1)
            unfolding rest tail_step attribute_step
            rest-on e =
                repeat-more (λ i. length s - i) (tail_step s first) (stuck_tail s (length s)) tail-falls j _
                (rw (ne_eqb _ _ a, ne_eqb _ _ b, ne_eqb _ _ c, eq-eqb _ _ d, e))

pub stuck-tail : (s : List ℕ) (i : ℕ) → (stuck_tail s i).code ≡ 0 → ⊥
unfolding tailed
stuck-tail s i = stuck-pos s i

-- what holds of an accepted tail: of `>`, of `/>`, and of an attribute with what follows it if it holds of the latter
module _ (s : List ℕ) (first : ℕ) (P : ℕ → Tail → Type 0)
    (opened : (j : ℕ) → byte_at s (run_end spaces s j) ≡ 62 → P j (tailed 0 0 (run_end spaces s j + 1)))
    (empty : (j : ℕ) → byte_at s (run_end spaces s j) ≡ 47 → byte_at s (run_end spaces s j + 1) ≡ 62
    → P j (tailed 0 1 (run_end spaces s j + 2)))
    (attribute : (j : ℕ) (t : Tail) → j < run_end spaces s j → (next_attribute s j).code ≡ 0 → given s j (next_name s j) first ≡ false
    → P ((next_attribute s j).to + 1) t → P j t) where
  tail-stops : (j : ℕ) (a b c d e : Bool) → eqb (byte_at s (run_end spaces s j)) 62 ≡ a → eqb (byte_at s (run_end spaces s j)) 47 ≡ b
      → eqb (next_attribute s j).code 0 ≡ d → (t : Tail) → turned s j a b c d e ≡ stop t → t.code ≡ 0 → P j t
  unfolding turned empty_tail tailed
  tail-stops j true b c d e u v w t h z =
      let k : tailed 0 0 (run_end spaces s j + 1) ≡ t = cc in rw (← k) (opened j (eqb-true _ _ u))
  tail-stops j false true c d e u v w t h z =
      let k : empty_tail s (run_end spaces s j) ≡ t = cc in
      rw (← k)
      (accepted (λ x. x.code) (P j) (eqb (byte_at s (run_end spaces s j + 1)) 62) (tailed 0 1 (run_end spaces s j + 2))
      (stuck_tail s (run_end spaces s j + 1)) (stuck-tail s (run_end spaces s j + 1)) (λ l _. empty j (eqb-true _ _ v) (eqb-true _ _ l))
      (ap (λ (x : Tail). x.code) k ∙ z))
  tail-stops j false false true d e u v w t h z =
      let k : stuck_tail s (run_end spaces s j) ≡ t = cc in
      absurd (stuck-tail s (run_end spaces s j) (ap (λ (x : Tail). x.code) k ∙ z))
  tail-stops j false false false true true u v w t h z =
      let k : tailed 40 0 ((next_attribute s j).to + 1) ≡ t = cc in
      let l : ◌≡◌ {A = ℕ} 40 0 = ap (λ (x : Tail). x.code) k ∙ z in
      absurd (omega arith)
  tail-stops j false false false true false u v w t h z = let o : ◌≡◌ {A = ℕ} 0 1 = cc in absurd (omega arith)
  tail-stops j false false false false e u v w t h z =
      let k : tailed (next_attribute s j).code 0 (next_attribute s j).to ≡ t = cc in
      absurd (eqb-false _ _ w (ap (λ (x : Tail). x.code) k ∙ z))

  pub tail-ind : (tail_of s first).code ≡ 0 → P first (tail_of s first)
  unfolding tail_of
  tail-ind =
      repeat-ind (λ i. length s - i) (tail_step s first) (stuck_tail s (length s)) (λ j t. t.code ≡ 0 → P j t)
      (λ j z. absurd (stuck-tail s (length s) z))
      (λ j t e. tail-stops j (eqb (byte_at s (run_end spaces s j)) 62) (eqb (byte_at s (run_end spaces s j)) 47) (eqb (run_end spaces s j) j)
      (eqb (next_attribute s j).code 0) (given s j (next_name s j) first) refl refl refl t (sym (turn_is s first j) ∙ e))
      (λ j b t e f z.
      let m = tail_more s first j b e in
      let l : j < run_end spaces s j = omega (arith, run-from spaces s j, m.0) in
      attribute j t l m.1 m.2 (rw m.3 (f z)))
      first

-- where an accepted tail that starts at i ends in a text of n bytes
pub record Ends (n i : ℕ) (t : Tail) : Type 0 where
  pub moved : i < t.next
  pub within : t.next ≤ n
  pub form : t.form ≤ 1

pub tail-ends : (s : List ℕ) (first : ℕ) → (tail_of s first).code ≡ 0 → Ends (length s) first (tail_of s first)
unfolding tailed
tail-ends s first =
    tail-ind s first (Ends (length s))
    (λ j e.
    let f = run-from spaces s j in
    let w = inside s (run_end spaces s j) 62 (omega arith) e in
    record { moved = omega arith; within = omega arith; form = omega arith })
    (λ j e q.
    let f = run-from spaces s j in
    let w = inside s (run_end spaces s j + 1) 62 (omega arith) q in
    record { moved = omega arith; within = omega arith; form = omega arith })
    (λ j t l o _ x.
    let w = attribute-held s (run_end spaces s j) o in
    record { moved = omega (arith, w.moved, x.moved); within = x.within; form = x.form })

-- ## A unit

pub stuck-tag : (s : List ℕ) (i : ℕ) → (stuck_tag s i).code ≡ 0 → ⊥
unfolding stuck_tag
stuck-tag s i = stuck-pos s i

-- what holds of an accepted unit that starts at i: of an end tag, and of a tag that opens an element
module _ (s : List ℕ) (i at : ℕ) (text : at ≡ run_end texts s i) (P : Tag → Type 0)
    (closes : byte_at s at ≡ 60 → byte_at s (at + 1) ≡ 47 → is_name_start (byte_at s (at + 2)) ≡ true → (e g : ℕ) → e ≡ run_end names s (at + 2)
    → g ≡ run_end spaces s e → byte_at s g ≡ 62
    → P (record { code = 0; form = 2; from = i; at = at; name = at + 2; end = e; next = g + 1 }))
    (opens : byte_at s at ≡ 60 → (byte_at s (at + 1) ≡ 47 → ⊥) → is_name_start (byte_at s (at + 1)) ≡ true → (e : ℕ)
    → e ≡ run_end names s (at + 1) → (tail_of s e).code ≡ 0 → P (start_tag s i at e)) where
  either : (b : Bool) (x y : Tag) → (b ≡ true → x.code ≡ 0 → P x) → (b ≡ false → y.code ≡ 0 → P y) → (cond b x y).code ≡ 0
      → P (cond b x y)
  either true x y f g = f refl
  either false x y f g = g refl

  tag-cases : byte_at s at ≡ 60 → (tag_at s i at).code ≡ 0 → P (tag_at s i at)
  unfolding tag_at end_tag start_tag
  tag-cases l =
      either (eqb (byte_at s (at + 1)) 47) _ _
      (λ q. accepted (λ t. t.code) P (is_name_start (byte_at s (at + 2))) (end_tag s i at (run_end names s (at + 2))) (stuck_tag s (at + 2))
      (stuck-tag s (at + 2))
      (λ n. accepted (λ t. t.code) P (eqb (byte_at s (run_end spaces s (run_end names s (at + 2)))) 62) _
      (stuck_tag s (run_end spaces s (run_end names s (at + 2)))) (stuck-tag s (run_end spaces s (run_end names s (at + 2))))
      (λ z _. closes l (eqb-true _ _ q) n (run_end names s (at + 2)) _ refl refl (eqb-true _ _ z))))
      (λ q. accepted (λ t. t.code) P (is_name_start (byte_at s (at + 1))) (start_tag s i at (run_end names s (at + 1))) (stuck_tag s (at + 1))
      (stuck-tag s (at + 1)) (λ n z. opens l (eqb-false _ _ q) n (run_end names s (at + 1)) refl z))

  pub unit-cases : (unit_at s i).code ≡ 0 → P (unit_at s i)
  unfolding unit_at
  unit-cases =
      rw (← text)
      (accepted (λ t. t.code) P (eqb (byte_at s at) 60 && not (is_mark s at)) (tag_at s i at) (stuck_tag s at) (stuck-tag s at)
      (λ q. tag-cases (eqb-true _ _ (and_left _ _ q))))

-- where an accepted unit that starts at i lies in a text of n bytes
pub record Lies (n i : ℕ) (t : Tag) : Type 0 where
  pub from : t.from ≡ i
  pub text : i ≤ t.at
  pub before : t.at < t.name
  pub named : t.name ≤ t.end
  pub ended : t.end < t.next
  pub next : t.next ≤ n
  pub form : t.form ≤ 2

pub unit-lies : (s : List ℕ) (i : ℕ) → (unit_at s i).code ≡ 0 → Lies (length s) i (unit_at s i)
unfolding start_tag
unit-lies s i =
    unit-cases s i (run_end texts s i) refl (Lies (length s) i)
    (λ l q n e g p r z.
    let t = run-from texts s i in
    let a = run-from names s (run_end texts s i + 2) in
    let f = run-from spaces s e in
    let w = inside s g 62 (omega arith) z in
    record {
      from = refl;
      text = t;
      before = omega arith;
      named = omega arith;
      ended = omega arith;
      next = omega arith;
      form = omega arith;
    })
    (λ l q n e p z.
    let t = run-from texts s i in
    let a = run-from names s (run_end texts s i + 1) in
    let x = tail-ends s e z in
    record {
      from = refl;
      text = t;
      before = omega arith;
      named = omega arith;
      ended = x.moved;
      next = x.within;
      form = omega (arith, x.form);
    })
