-- A unit is judged alike in two texts that agree up to its end, if no id and no name of an open element lies behind it.
use Prim.Native.Nat.{ℕ, zero, suc, ◌+◌, ◌-◌, ◌<◌, ◌≤◌}
use mathlib.Core.Path.{◌≡◌, refl, ap, ◌∙◌}
use mathlib.Core.Bool.{Bool, false, cond, not, true≢false}
use mathlib.Core.List.{List, [], ◌∷◌}
use native.Mathlib.Omega.{arith}
use lib.ListN.{length, get_or, set}
use lib.Seq.{set_out, get_or-set_same, get_or-set_other}
use lib.Dec.{eqb, ltb, leb}
use borrow.Author.Tests.{eqb-true, not-false}
use Rattle.numbers.specs.Count.{first}
use Rattle.numbers.proofs.Tests.{on_test, on_same}
use Rattle.numbers.proofs.TableLaws.{all_same, below_or_not, blanks}
use Rattle.xml_model.specs.declared.Range.{Range}
use Rattle.xml_model.specs.Shapes.{Tag}
use Rattle.xml_model.specs.declared.Id.{Id}
use Rattle.xml_model.specs.declared.State.{State}
use Rattle.xml_model.specs.Tags.{look, tail_of, unit_at, start_tag}
use Rattle.xml_model.specs.Elements.{id_bytes, idref_bytes, timer_bytes, skipped_role, child_role, next_state}
use Rattle.xml_model.specs.State.{Done, no_id, blank, ok, no, and_then, counted, with_elements, with_ids, alike, same_range, is_id, ids_in}
use Rattle.xml_model.specs.State.{id_position}
use Rattle.xml_model.specs.State.{id_of, new_id, asset_named, named, begun, with_idref, with_timer_of, opening, closing}
use Rattle.xml_model.specs.Text.{Frame, frame, Verdict, leads_to, entered, opened, ended, child, judge}
use Rattle.xml_model.proofs.Units.{look-lies, unit-cases, unit-lies}
use Rattle.xml_model.proofs.CountsKept.{Keeps, with_id, keeps-ok, keeps-no, keeps-cond, new-keeps, begun-keeps, ended-keeps}
use Rattle.xml_model.proofs.CountsKept.{opened-keeps, judge-cases}
use Rattle.xml_model.specs.Import.{Agree}
use Rattle.xml_model.proofs.DecidesScan.{agree_less, bare-agree, part-agree}
use Rattle.xml_model.proofs.DecidesTags.{Found, look-found}

-- ## Ids and names that end at n or before

first-same : (f g : ℕ → Bool) (n : ℕ) → ((i : ℕ) → f i ≡ g i) → first f n ≡ first g n
unfolding first
first-same f g zero h = refl
first-same f g (suc n) h = rw (first-same f g n h, h n)

-- every id of the table
unfoldable pub IdsTo : ℕ → State → Type 0
IdsTo n st = (i : ℕ) → (get_or st.ids.table i no_id).to ≤ n

-- the name of every open element
abbrev pub NamesTo : ℕ → List Frame → Type 0
NamesTo n [] = Unit {0}
NamesTo n (e ∷ k) = (e.end ≤ n) × NamesTo n k

pub ids-less : (m n : ℕ) (st : State) → m ≤ n → IdsTo m st → IdsTo n st
unfolding IdsTo
ids-less m n st h f i = omega (arith, f i)

pub names-less : (m n : ℕ) (k : List Frame) → m ≤ n → NamesTo m k → NamesTo n k
names-less m n [] h f = tt
names-less m n (e ∷ k) h f = (omega (arith, f.0), names-less m n k h f.1)

-- no id and no name of an open element lies behind n
pub record Before (n : ℕ) (k : List Frame) (st : State) : Type 0 where
  pub ids : IdsTo n st
  pub names : NamesTo n k

-- an id in a table
set_to : (n : ℕ) (l : List Id) (j : ℕ) (x : Id) → x.to ≤ n → ((i : ℕ) → (get_or l i no_id).to ≤ n) → (i : ℕ) → (get_or (set l j x) i no_id).to ≤ n
set_to n l j x h f i = below_or_not j (length l)
    (λ q. on_same i j (λ e. rw (e, get_or-set_same l j x no_id q) h) (λ e. rw (get_or-set_other l j i x no_id e) (f i)))
    (λ q. rw (set_out l j x q) (f i))

module _ (n : ℕ) where
  ids-like : (a b : State) → a.elements ≡ b.elements → a.ids ≡ b.ids → IdsTo n a → IdsTo n b
  unfolding IdsTo
  ids-like a b _ e f = rw (← e) f

  ids-named : (st : State) → IdsTo n st → IdsTo n (with_ids (named st.assetid st.asset.number st.ids) st)
  unfolding IdsTo with_ids named
  ids-named st f = set_to n st.ids.table st.assetid _ (f st.assetid) f

  ids-fresh : (r : Range) → r.to ≤ n → (st : State) → IdsTo n st → IdsTo n (with_id r st)
  unfolding IdsTo with_ids id_of
  ids-fresh r h st f = set_to n st.ids.table (ids_in st.ids) (id_of r) h f

  ids-counted : (st : State) → IdsTo n st → Keeps (IdsTo n) (counted st)
  unfolding counted with_elements IdsTo
  ids-counted st f = keeps-cond (IdsTo n) (ltb st.elements 256) _ _
      (keeps-ok (IdsTo n) (with_elements (st.elements + 1) st) f) (keeps-no (IdsTo n) 42 (λ z. omega arith))

  pub ids-blank : IdsTo n blank
  unfolding IdsTo blank
  ids-blank i = rw (blanks 256 i no_id) (omega arith)

-- ## The steps

module _ {s z : List ℕ} {n : ℕ} (g : Agree s z n) where
  range-agree : (a b x y : ℕ) → b ≤ n → y ≤ n → same_range z a b x y ≡ same_range s a b x y
  unfolding same_range alike
  range-agree a b x y h l = on_test (eqb (b - a) (y - x))
      (λ q. let e = eqb-true (b - a) (y - x) q in
      rw q (all_same _ _ (b - a) (λ i m. rw (← g.bytes (a + i) (omega arith), ← g.bytes (x + i) (omega arith)))))
      (λ q. rw q)

  position-agree : (st : State) (r : Range) → r.to ≤ n → IdsTo n st → id_position z st.ids r ≡ id_position s st.ids r
  unfolding id_position is_id IdsTo
  position-agree st r h f = first-same _ _ (ids_in st.ids) (λ i. range-agree r.from r.to _ _ h (f i))

  new-agree : (r : Range) (st : State) → r.to ≤ n → IdsTo n st → new_id z r st ≡ new_id s r st
  unfolding new_id
  new-agree r st h f = rw (position-agree st r h f)

  idref-agree : (r : Range) (role : ℕ) (st : State) → r.to ≤ n → IdsTo n st → with_idref z r role st ≡ with_idref s r role st
  unfolding with_idref asset_named
  idref-agree r role st h f = rw (position-agree st r h f)

  timer-agree : (r : Range) (role : ℕ) (st : State) → r.to ≤ n → r.to ≤ length s → with_timer_of z r role st ≡ with_timer_of s r role st
  unfolding with_timer_of
  timer-agree r role st h l = rw (part-agree r.from r.to h l g)

  closing-agree : (a b role state : ℕ) (st : State) → b ≤ n → b ≤ length s → closing z a b role state st ≡ closing s a b role state st
  unfolding closing
  closing-agree a b role state st h l = rw (part-agree a b h l g, bare-agree a b (agree_less b h g))

then-agree : (d : Done) (f g : State → Done) → (d.code ≡ 0 → g d.state ≡ f d.state) → and_then d g ≡ and_then d f
unfolding and_then
then-agree d f g h = on_test (eqb d.code 0) (λ q. rw q (h (eqb-true _ _ q))) (λ q. rw q)

module _ {s z : List ℕ} {n : ℕ} (g : Agree s z n) (t : Tag) (looks : (v : List ℕ) → look z v t.end ≡ look s v t.end)
    (to : (v : List ℕ) → (look s v t.end).to ≤ n) (st : State) (f : IdsTo n st) where
  opening-agree : (role : ℕ) → opening z t role st ≡ opening s t role st
  unfolding opening Keeps
  opening-agree role =
      rw (looks id_bytes, looks idref_bytes, looks timer_bytes)
      (ap (λ (d : Done). and_then d (others z)) (new-agree g id (begun role id st) (to id_bytes) begins)
      ∙ then-agree (new_id s id (begun role id st)) (others s) (others z) (λ c. after (new_id s id (begun role id st)).state
      (new-keeps (IdsTo n) (ids-like n) (ids-named n) (begun role id st) begins s id
      (ids-fresh n id (to id_bytes) (begun role id st) begins) c)))
    where
      id : Range
      id = look s id_bytes t.end

      idref : Range
      idref = look s idref_bytes t.end

      timer : Range
      timer = look s timer_bytes t.end

      begins : IdsTo n (begun role id st)
      begins = begun-keeps (IdsTo n) (ids-like n) (ids-named n) st f role id

      timed : List ℕ → State → Done
      timed x u = with_timer_of x timer role u

      others : List ℕ → State → Done
      others x u = and_then (with_idref x idref role u) (timed x)

      after : (u : State) → IdsTo n u → others z u ≡ others s u
      after u h =
          ap (λ (d : Done). and_then d (timed z)) (idref-agree g idref role u (to idref_bytes) h)
          ∙ then-agree (with_idref s idref role u) (timed s) (timed z)
          (λ _. timer-agree g timer role _ (to timer_bytes) (look-lies s timer_bytes t.end).1)

  opened-agree : t.next ≤ n → t.next ≤ length s → (role : ℕ) (k : List Frame) → opened z t role k st ≡ opened s t role k st
  unfolding opened entered
  opened-agree h l role k =
      rw (opening-agree role)
      (ap (λ (d : Done). cond (eqb t.form 0) opens (leads_to k (and_then d counted)))
      (then-agree enters (closes s) (closes z) (λ _. closing-agree g t.next t.next role 0 _ h l)))
    where
      enters : Done
      enters = cond (leb 12 (length k)) (no 41) (cond (eqb role skipped_role) (ok st) (opening s t role st))

      opens : Verdict
      opens = leads_to (frame t.name t.end role 0 ∷ k) (and_then enters counted)

      closes : List ℕ → State → Done
      closes x u = closing x t.next t.next role 0 u

-- ## A unit

pub unit-after : (s : List ℕ) (p : ℕ) → (unit_at s p).code ≡ 0 → p < (unit_at s p).next
unit-after s p o = let l = unit-lies s p o in omega (arith, l.text, l.before, l.named, l.ended)

-- a tag that opens an element ends where its tail does
unit-found : {s z : List ℕ} (p : ℕ) → (unit_at s p).code ≡ 0 → eqb (unit_at s p).form 2 ≡ false
    → Found s z (unit_at s p).end (tail_of s (unit_at s p).end) × ((tail_of s (unit_at s p).end).next ≡ (unit_at s p).next)
unfolding start_tag
unit-found {s} {z} p = unit-cases s p _ refl
    (λ t. eqb t.form 2 ≡ false → Found s z t.end (tail_of s t.end) × ((tail_of s t.end).next ≡ t.next))
    (λ _ _ _ e c _ _ _ f. absurd (true≢false f)) (λ _ _ _ e _ o _. (look-found e o, refl))

module _ {s z : List ℕ} (p : ℕ) (o : (unit_at s p).code ≡ 0) (q : eqb (unit_at s p).form 2 ≡ false) (g : Agree s z (unit_at s p).next) where
  pub unit-opened : (role : ℕ) (k : List Frame) (st : State) → IdsTo (unit_at s p).next st
      → opened z (unit_at s p) role k st ≡ opened s (unit_at s p) role k st
  unit-opened role k st f =
      let w = unit-found {s = s} {z = z} p o q in
      let l = unit-lies s p o in
      opened-agree g (unit_at s p) (λ v. w.0.same (rw w.1 g) v) (λ v. rw w.1 at (w.0.to v)) st f (omega arith) l.next role k

module _ {s z : List ℕ} (p : ℕ) (e : Frame) (k : List Frame) (st : State) (b : Before p (e ∷ k) st) (g : Agree s z (unit_at s p).next) where
  ended-agree : (unit_at s p).code ≡ 0 → ended z (unit_at s p) e st ≡ ended s (unit_at s p) e st
  unfolding ended
  ended-agree o =
      let t = unit_at s p in
      let l = unit-lies s p o in
      let h = unit-after s p o in
      let m : t.at ≤ t.next = omega (arith, l.before, l.named, l.ended) in
      rw (
        range-agree g t.name t.end e.name e.end (omega (arith, l.ended)) (omega (arith, b.names.0)),
        closing-agree g t.from t.at e.role e.state st m (omega (arith, l.next)),
      )

  -- an element that it opens in e
  in-agree : (o : (unit_at s p).code ≡ 0) → eqb (unit_at s p).form 2 ≡ false → (role x : ℕ)
      → opened z (unit_at s p) role (frame e.name e.end e.role x ∷ k) st
      ≡ opened s (unit_at s p) role (frame e.name e.end e.role x ∷ k) st
  in-agree o q role x =
      let h = unit-after s p o in unit-opened p o q g role _ st (ids-less p (unit_at s p).next st (omega arith) b.ids)

  child-agree : (o : (unit_at s p).code ≡ 0) → eqb (unit_at s p).form 2 ≡ false → (m : ℕ)
      → child z (unit_at s p) e k st m ≡ child s (unit_at s p) e k st m
  unfolding child
  child-agree o q m =
      let t = unit_at s p in
      let l = unit-lies s p o in
      rw (
        bare-agree t.from t.at (agree_less t.at (omega (arith, l.before, l.named, l.ended)) g),
        in-agree o q (child_role m) (next_state m),
      )

  pub judge-agree : judge z (unit_at s p) e k st ≡ judge s (unit_at s p) e k st
  unfolding judge
  judge-agree = on_test (not (eqb (unit_at s p).code 0)) (λ c. rw c)
      (λ c.
      let t = unit_at s p in
      let o = eqb-true t.code 0 (not-false _ c) in
      let l = unit-lies s p o in
      let w = part-agree t.name t.end (omega (arith, l.ended)) (omega (arith, l.ended, l.next)) g in
      rw c
      (on_test (eqb (unit_at s p).form 2) (λ q. rw (q, ended-agree o))
      (λ q. rw (q, w, child-agree o q, in-agree o q skipped_role e.state))))

-- ## What a unit leads to lies before its end

module _ (s : List ℕ) (p : ℕ) where
  unfoldable pub Leaves : Verdict → Type 0
  Leaves v = v.code ≡ 0 → Before (unit_at s p).next v.stack v.state

  opened-names : (n : ℕ) (t : Tag) (role : ℕ) (k : List Frame) (st : State) → t.end ≤ n → NamesTo n k
      → NamesTo n (opened s t role k st).stack
  unfolding opened leads_to
  opened-names n t role k st h f = on_test (eqb t.form 0) (λ q. rw q (h, f)) (λ q. rw q f)

  pub opened-leaves : (unit_at s p).code ≡ 0 → eqb (unit_at s p).form 2 ≡ false → (role : ℕ) (k : List Frame) (st : State)
      → Before (unit_at s p).next k st → Leaves (opened s (unit_at s p) role k st)
  unfolding Leaves
  opened-leaves o q role k st b c =
      let t = unit_at s p in
      let l = unit-lies s p o in
      let w = unit-found {s = s} {z = s} p o q in
      record {
        ids = opened-keeps (IdsTo t.next) (ids-like t.next) (ids-named t.next) s t
            (ids-fresh t.next (look s id_bytes t.end) (rw w.1 at (w.0.to id_bytes))) st b.ids (IdsTo t.next)
            (ids-counted t.next) role k c;
        names = opened-names t.next t role k st (omega (arith, l.ended)) b.names;
      }

  pub judge-leaves : (e : Frame) (k : List Frame) (st : State) → Before p (e ∷ k) st → Leaves (judge s (unit_at s p) e k st)
  unfolding leads_to no Leaves Keeps
  judge-leaves e k st b =
      judge-cases s (unit_at s p) e k st Leaves (λ c f z. absurd (f z))
      (λ o _ c. let n = (unit_at s p).next in
      let h : p ≤ (unit_at s p).next = omega (arith, unit-after s p o) in
      record {
        ids = ended-keeps (IdsTo n) (ids-like n) (ids-named n) st (ids-less p n st h b.ids) s (unit_at s p) e c;
        names = names-less p n k h b.names.1;
      })
      (λ o q role x. let n = (unit_at s p).next in
      let h : p ≤ (unit_at s p).next = omega (arith, unit-after s p o) in
      opened-leaves o q role (frame e.name e.end e.role x ∷ k) st
      (record { ids = ids-less p n st h b.ids; names = names-less p n (e ∷ k) h b.names }))
