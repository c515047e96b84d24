-- What a step, and a unit, keep of what has been read so far. Only `counted` changes the number of elements; only a new id and the
-- closing tag of an asset change the ids.
use Prim.Native.Nat.{ℕ, ◌+◌, ◌-◌, min}
use mathlib.Core.Path.{◌≡◌, refl}
use mathlib.Core.Bool.{Bool, true, false, cond, not, ◌&&◌, ◌||◌}
use mathlib.Core.List.{List, [], ◌∷◌}
use native.Mathlib.Omega.{arith}
use lib.ListN.{length, set}
use lib.Dec.{eqb, ltb, leb}
use borrow.Author.Tests.{eqb-true, eqb-false, not-true, not-false}
use Rattle.numbers.proofs.Tests.{on_test}
use Rattle.model.specs.Book.{assets_in, entries_in, asset_legal, most_times}
use Rattle.xml_model.specs.declared.Range.{Range}
use Rattle.xml_model.specs.Shapes.{Tag}
use Rattle.xml_model.specs.declared.State.{State}
use Rattle.xml_model.specs.Bytes.{part, bare}
use Rattle.xml_model.specs.Tags.{look}
use Rattle.xml_model.specs.Elements.{id_bytes, idref_bytes, name_of, asset_role, permission_role, key_info_role, reference_role}
use Rattle.xml_model.specs.Elements.{timed_count_role, skipped_role, version_role, object_uid_role, asset_uid_role, inherit_uid_role}
use Rattle.xml_model.specs.Elements.{is_kind, kinds_from, holds_text, closes_from, row_of, row_count, child_role, next_state, holds_anything}
use Rattle.xml_model.specs.Values.{number_in, value_of}
use Rattle.xml_model.specs.State.{Done, with_ids, with_asset, with_references, with_limits, with_book, ok, no, and_then, counted, same_range}
use Rattle.xml_model.specs.State.{ids_in, id_position, is_given, id_of, new_id, asset_named, named, begun, with_idref, with_timer_of}
use Rattle.xml_model.specs.State.{opening}
use Rattle.xml_model.specs.State.{stored, text_done, key_done, asset_done, kind_legal, kind_done, how_many, container_done, closing}
use Rattle.xml_model.specs.Text.{Frame, frame, Verdict, leads_to, entered, opened, ended, child, judge}

-- a step that is no fault leads to a state of which Q holds
unfoldable pub Keeps : (State → Type 0) → Done → Type 0
Keeps Q d = d.code ≡ 0 → Q d.state

-- the value r as one id more
abbrev pub with_id : Range → State → State
with_id r st =
    with_ids (record { count = min (ids_in st.ids + 1) 256; table = set st.ids.table (ids_in st.ids) (id_of r) }) st

-- the asset that is open has closed
abbrev pub with_named : State → State
with_named st = with_ids (named st.assetid st.asset.number st.ids) st

pub keeps-ok : (Q : State → Type 0) (st : State) → Q st → Keeps Q (ok st)
unfolding Keeps ok
keeps-ok Q st q _ = q

pub keeps-no : (Q : State → Type 0) (c : ℕ) → (c ≡ 0 → ⊥) → Keeps Q (no c)
unfolding Keeps no
keeps-no Q c f e = absurd (f e)

pub keeps-cond : (Q : State → Type 0) (b : Bool) (x y : Done) → Keeps Q x → Keeps Q y → Keeps Q (cond b x y)
keeps-cond Q true x y f g = f
keeps-cond Q false x y f g = g

keeps_then : (Q Q' : State → Type 0) (d : Done) (f : State → Done) → Keeps Q d → ((u : State) → Q u → Keeps Q' (f u))
    → Keeps Q' (and_then d f)
unfolding Keeps and_then
keeps_then Q Q' d f g h = on_test (eqb d.code 0)
    (λ q. rw q (h d.state (g (eqb-true _ _ q)))) (λ q. rw q (λ e. absurd (eqb-false _ _ q e)))

either : (Q : State → Type 0) (b : Bool) (x y : State) → Q x → Q y → Q (cond b x y)
either Q true x y f g = f
either Q false x y f g = g

-- ## Opening and closing

module _ (Q : State → Type 0) (like : (a b : State) → a.elements ≡ b.elements → a.ids ≡ b.ids → Q a → Q b)
    (closed : (st : State) → Q st → Q (with_named st)) where
  refused : Keeps Q (no 41)
  refused = keeps-no Q 41 (λ z. omega arith)

  full : Keeps Q (no 42)
  full = keeps-no Q 42 (λ z. omega arith)

  -- a state with the same ids and as many elements
  changed : (a b : State) → a.elements ≡ b.elements → a.ids ≡ b.ids → Q a → Keeps Q (ok b)
  changed a b e i q = keeps-ok Q b (like a b e i q)

  module _ (st : State) (q : Q st) where
    pub begun-keeps : (role : ℕ) (r : Range) → Q (begun role r st)
    unfolding begun with_asset with_references with_limits
    begun-keeps role r = either Q (eqb role asset_role) _ _ (like st _ refl refl q)
        (either Q (eqb role permission_role) _ _ (like st _ refl refl q) (either Q (is_kind role) _ _ (like st _ refl refl q) q))

    pub new-keeps : (s : List ℕ) (r : Range) → Q (with_id r st) → Keeps Q (new_id s r st)
    unfolding new_id
    new-keeps s r f = keeps-cond Q (not (is_given r)) _ _ (keeps-ok Q st q)
        (keeps-cond Q (ltb (id_position s st.ids r) (ids_in st.ids)) _ _ refused (keeps-ok Q (with_id r st) f))

    idref-keeps : (s : List ℕ) (r : Range) (role : ℕ) → Keeps Q (with_idref s r role st)
    unfolding with_idref with_references
    idref-keeps s r role = keeps-cond Q (is_given r && eqb (asset_named s st.ids r) 0) _ _ refused
        (keeps-cond Q (eqb role reference_role) _ _ (keeps-cond Q (is_given r) _ _ (changed st _ refl refl q) refused) (keeps-ok Q st q))

    timer-keeps : (s : List ℕ) (r : Range) (role : ℕ) → Keeps Q (with_timer_of s r role st)
    unfolding with_timer_of with_limits
    timer-keeps s r role = keeps-cond Q (eqb role timed_count_role && is_given r) _ _
        (keeps-cond Q (number_in 0 most_times (part s r.from r.to)).valid _ _ (changed st _ refl refl q) refused) (keeps-ok Q st q)

    stored-keeps : (role x : ℕ) → Q (stored role x st)
    unfolding stored with_asset with_limits
    stored-keeps role x = either Q (eqb role version_role) _ _ q
        (either Q (eqb role object_uid_role) _ _ (like st _ refl refl q)
        (either Q (eqb role asset_uid_role) _ _ (like st _ refl refl q)
        (either Q (eqb role inherit_uid_role) _ _ (like st _ refl refl q) (like st _ refl refl q))))

    text-keeps : (role : ℕ) (v : List ℕ) → Keeps Q (text_done role v st)
    unfolding text_done
    text-keeps role v = keeps-cond Q (value_of role v).valid _ _ (keeps-ok Q _ (stored-keeps role _)) refused

    asset-keeps : Keeps Q (asset_done st)
    unfolding asset_done with_book
    asset-keeps =
        keeps-cond Q (not (asset_legal st.book.assets (assets_in st.book) (assets_in st.book) st.asset)) _ _ refused
        (keeps-cond Q (leb 64 (assets_in st.book)) _ _ full (keeps-ok Q _ (closed _ (like st _ refl refl q))))

    kind-keeps : (kind : ℕ) → Keeps Q (kind_done kind st)
    unfolding kind_done with_book
    kind-keeps kind = keeps-cond Q (not (kind_legal kind st)) _ _ refused
        (keeps-cond Q (ltb 64 (entries_in st.book + how_many st)) _ _ full (changed st _ refl refl q))

    container-keeps : (role : ℕ) → Keeps Q (container_done role st)
    unfolding container_done
    container-keeps role = keeps-cond Q (eqb role asset_role) _ _ asset-keeps
        (keeps-cond Q (is_kind role) _ _ (kind-keeps (role - kinds_from)) (keeps-ok Q st q))

    closing-keeps : (s : List ℕ) (a b role state : ℕ) → Keeps Q (closing s a b role state st)
    unfolding closing key_done with_asset
    closing-keeps s a b role state = keeps-cond Q (eqb role skipped_role) _ _ (keeps-ok Q st q)
        (keeps-cond Q (eqb role key_info_role) _ _ (changed st _ refl refl q)
        (keeps-cond Q (holds_text role) _ _ (text-keeps role (part s a b))
        (keeps-cond Q (not (bare s a b) || ltb state (closes_from role)) _ _ refused (container-keeps role))))

    pub ended-keeps : (s : List ℕ) (t : Tag) (f : Frame) → Keeps Q (ended s t f st)
    unfolding ended
    ended-keeps s t f = keeps-cond Q (same_range s t.name t.end f.name f.end) _ _
        (closing-keeps s t.from t.at f.role f.state) (keeps-no Q 40 (λ z. omega arith))

  -- where the tag may bring a new id
  module _ (s : List ℕ) (t : Tag) (fresh : (st : State) → Q st → Q (with_id (look s id_bytes t.end) st)) (st : State) (q : Q st) where
    opening-keeps : (role : ℕ) → Keeps Q (opening s t role st)
    unfolding opening
    opening-keeps role = keeps_then Q Q (new_id s id (begun role id st)) _
        (new-keeps (begun role id st) (begun-keeps st q role id) s id (fresh _ (begun-keeps st q role id)))
        (λ u f. keeps_then Q Q (with_idref s (look s idref_bytes t.end) role u) _ (idref-keeps u f s _ role)
        (λ w g. timer-keeps w g s _ role))
      where
        id : Range
        id = look s id_bytes t.end

    entered-keeps : (role : ℕ) (k : List Frame) → Keeps Q (entered s t role k st)
    unfolding entered
    entered-keeps role k = keeps-cond Q (leb 12 (length k)) _ _ refused
        (keeps-cond Q (eqb role skipped_role) _ _ (keeps-ok Q st q) (opening-keeps role))

    -- what it opens is counted
    pub opened-keeps : (Q' : State → Type 0) → ((u : State) → Q u → Keeps Q' (counted u)) → (role : ℕ) (k : List Frame)
        → (opened s t role k st).code ≡ 0 → Q' (opened s t role k st).state
    unfolding opened leads_to Keeps
    opened-keeps Q' more role k = by (eqb t.form 0)
      where
        d : Done
        d = entered s t role k st

        closes : State → Done
        closes u = closing s t.next t.next role 0 u

        first : Verdict
        first = leads_to (frame t.name t.end role 0 ∷ k) (and_then d counted)

        empty : Verdict
        empty = leads_to k (and_then (and_then d closes) counted)

        by : (b : Bool) → (cond b first empty).code ≡ 0 → Q' (cond b first empty).state
        by true = keeps_then Q Q' d counted (entered-keeps role k) more
        by false = keeps_then Q Q' (and_then d closes) counted
            (keeps_then Q Q d closes (entered-keeps role k) (λ u f. closing-keeps u f s t.next t.next role 0)) more

-- ## A unit

-- what a unit leads to: a fault, what its end tag leads to, or what the element that it opens leads to
pub judge-cases : (s : List ℕ) (t : Tag) (e : Frame) (k : List Frame) (st : State) (P : Verdict → Type 0)
    → ((c : ℕ) → (c ≡ 0 → ⊥) → P (leads_to [] (no c)))
    → (t.code ≡ 0 → eqb t.form 2 ≡ true → P (leads_to k (ended s t e st)))
    → (t.code ≡ 0 → eqb t.form 2 ≡ false → (role x : ℕ) → P (opened s t role (frame e.name e.end e.role x ∷ k) st))
    → P (judge s t e k st)
unfolding judge child
judge-cases s t e k st P fault ends opens = on_test (not (eqb t.code 0)) (λ q. rw q (fault t.code (eqb-false _ _ (not-true _ q))))
    (λ q. let z = eqb-true _ _ (not-false _ q) in
    rw q
    (on_test (eqb t.form 2) (λ f. rw f (ends z f))
    (λ f. rw f
    (on_test (holds_anything e.role) (λ h. rw h (opens z f skipped_role e.state))
    (λ h. rw h
    (on_test (leb row_count r || not (bare s t.from t.at)) (λ b. rw b (fault 41 (λ w. omega arith)))
    (λ b. rw b (opens z f (child_role r) (next_state r)))))))))
  where
    r : ℕ
    r = row_of e.role e.state (name_of (part s t.name t.end))

-- a tag at which the scan is stuck is a fault
pub judge-scanned : (s : List ℕ) (t : Tag) (e : Frame) (k : List Frame) (st : State) → (judge s t e k st).code ≡ 0 → t.code ≡ 0
unfolding leads_to no
judge-scanned s t e k st =
    judge-cases s t e k st (λ v. v.code ≡ 0 → t.code ≡ 0) (λ c f z. absurd (f z)) (λ o _ _. o) (λ o _ _ _ _. o)
