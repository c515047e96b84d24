-- What the element reader and the contents reader are to show. The definition judges units with a stack of open elements; the
-- readers know only the innermost one. So each says: whatever is open around it, the units from here on give what its result and
-- the units behind it give.
use Rattle.std.specs.Prelude.{ℕ, ◌+◌, ◌≤◌, ◌≡◌, Bool, true, cond, not, ◌&&◌, List, ◌∷◌, length, eqb, leb}
use Rattle.xml_model.specs.Shapes.{Tag}
use Rattle.xml_model.specs.declared.State.{State}
use Rattle.xml_model.specs.Bytes.{part, bare}
use Rattle.xml_model.specs.Elements.{name_of, skipped_role, row_of, row_count, child_role, next_state, holds_anything}
use Rattle.xml_model.specs.State.{Done, ok, and_then, counted, opening, closing}
use Rattle.xml_model.specs.Text.{Progress, Frame, frame, opened, refusal, go, follow}

-- ## One tag

-- what an open element makes of a child: whether it is accepted, its role, and the state to which it leads its parent
pub record Child : Type 0 where
  pub accepted : Bool
  pub role : ℕ
  pub state : ℕ

-- the child of tag t, in an open element of that role and state: what holds anything takes it as skipped, and stays in its state
unfoldable pub child_at : List ℕ → Tag → ℕ → ℕ → Child
child_at s t role state =
    let r = row_of role state (name_of (part s t.name t.end)) in
    cond (holds_anything role) (record { accepted = true; role = skipped_role; state = state })
    (record { accepted = not (leb row_count r) && bare s t.from t.at; role = child_role r; state = next_state r })

-- an element that is not too deep, at its first tag
unfoldable pub entering : List ℕ → Tag → ℕ → State → Done
entering s t role st = cond (eqb role skipped_role) (ok st) (opening s t role st)

-- an opening tag, and an empty-element tag, which is also the element's last tag
unfoldable pub opening_tag : List ℕ → Tag → ℕ → State → Done
opening_tag s t role st = and_then (entering s t role st) counted

unfoldable pub empty_tag : List ℕ → Tag → ℕ → State → Done
empty_tag s t role st = and_then (and_then (entering s t role st) (λ u. closing s t.next t.next role 0 u)) counted

-- a step at a tag that ends at p
unfoldable pub reached : ℕ → Done → Progress
reached p d = cond (eqb d.code 0) (record { code = 0; at = p; state = d.state }) (refusal d.code p)

-- ## An element and its contents

-- what a reader gives back, and then the units behind it, inside the open elements k
unfoldable pub after : List ℕ → List Frame → Progress → Progress
after s k r = let x = go s r.at k r.state in cond (eqb r.code 0) x r

-- r is what comes of the element whose first tag is t, with `left` levels for it and what it holds. If it is no fault, it lies
-- behind that tag, in the text: by this the loop over the contents ends.
pub record Element (s : List ℕ) (t : Tag) (role left : ℕ) (st : State) (r : Progress) : Type 0 where
  pub reads : (k : List Frame) → length k + left ≡ 12 → follow s t.next (opened s t role k st) ≡ after s k r
  pub moved : r.code ≡ 0 → t.next ≤ r.at
  pub within : r.code ≡ 0 → r.at ≤ length s

-- r is what comes of what stands from `at` up to the end tag of the element whose name stands from `name` to `end`
pub record Contents (s : List ℕ) (at name end role left : ℕ) (st : State) (r : Progress) : Type 0 where
  pub reads : (k : List Frame) → length k + left ≡ 11 → go s at (frame name end role 0 ∷ k) st ≡ after s k r
  pub moved : r.code ≡ 0 → at ≤ r.at
  pub within : r.code ≡ 0 → r.at ≤ length s

-- the contents up to p are read, and led to state `state`
pub record Turn (s : List ℕ) (at name end role left : ℕ) (st₀ : State) (p state : ℕ) (st : State) : Type 0 where
  pub reads : (k : List Frame) → length k + left ≡ 11
      → go s at (frame name end role 0 ∷ k) st₀ ≡ go s p (frame name end role state ∷ k) st
  pub moved : at ≤ p
