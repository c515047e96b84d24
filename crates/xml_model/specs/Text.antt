-- Order 1: what a text is answered. Units are judged from left to right, with the open elements on a stack: "the first tag at fault
-- decides". In one unit the faults are judged "in that order": 40, then 41, then 42.
use Rattle.std.specs.Prelude.{ℕ, ◌+◌, ◌-◌, cond, not, ◌||◌, List, [], ◌∷◌, length, eqb, leb, ltb}
use Rattle.xml_model.specs.Shapes.{Tag}
use Rattle.xml_model.specs.declared.State.{State}
use Rattle.book.specs.declared.Book.{Book}
use Rattle.xml_model.specs.Repeat.{Next, stop, more, repeat}
use Rattle.xml_model.specs.Bytes.{byte_at, part, spaces, run_end, bare, stuck, looked}
use Rattle.xml_model.specs.Tags.{unit_at}
use Rattle.xml_model.specs.Elements.{name_of, rights_name, rights_role, skipped_role, row_of, row_count, child_role, next_state}
use Rattle.xml_model.specs.Elements.{holds_anything}
use Rattle.xml_model.specs.State.{Done, blank, ok, no, and_then, counted, same_range, opening, closing}

-- an open element: where its name stands, its role, and the state to which its children have led
pub record Frame : Type 0 where
  pub name : ℕ
  pub end : ℕ
  pub role : ℕ
  pub state : ℕ

abbrev pub frame : ℕ → ℕ → ℕ → ℕ → Frame
frame name end role state = record { name = name; end = end; role = role; state = state }

-- what a unit leads to: the code of a fault, or 0 with the elements that are then open and the state
pub record Verdict : Type 0 where
  pub code : ℕ
  pub stack : List Frame
  pub state : State

unfoldable pub leads_to : List Frame → Done → Verdict
leads_to k d = record { code = d.code; stack = k; state = d.state }

-- ## One unit

-- the element that tag t opens inside the open elements k: "to depth 12, rights being 1"; what a KeyInfo holds is only counted
unfoldable pub entered : List ℕ → Tag → ℕ → List Frame → State → Done
entered s t role k st = cond (leb 12 (length k)) (no 41) (cond (eqb role skipped_role) (ok st) (opening s t role st))

-- an opening tag; an empty-element tag is opening and closing tag in one, and all that gets 41 goes before what gets 42
unfoldable pub opened : List ℕ → Tag → ℕ → List Frame → State → Verdict
opened s t role k st =
    let d = entered s t role k st in
    cond (eqb t.form 0)
    (leads_to (frame t.name t.end role 0 ∷ k) (and_then d counted))
    (leads_to k (and_then (and_then d (λ u. closing s t.next t.next role 0 u)) counted))

-- an end tag, where e is the innermost open element
unfoldable pub ended : List ℕ → Tag → Frame → State → Done
ended s t e st =
    cond (same_range s t.name t.end e.name e.end)
    (closing s t.from t.at e.role e.state st)
    (no 40)

-- a child of e, where k are the elements around e; r is the row that accepts it
unfoldable pub child : List ℕ → Tag → Frame → List Frame → State → ℕ → Verdict
child s t e k st r =
    cond (leb row_count r || not (bare s t.from t.at)) (leads_to [] (no 41))
    (opened s t (child_role r) (frame e.name e.end e.role (next_state r) ∷ k) st)

unfoldable pub judge : List ℕ → Tag → Frame → List Frame → State → Verdict
judge s t e k st =
    cond (not (eqb t.code 0)) (leads_to [] (no t.code))
    (cond (eqb t.form 2) (leads_to k (ended s t e st))
    (cond (holds_anything e.role) (opened s t skipped_role (e ∷ k) st)
    (child s t e k st (row_of e.role e.state (name_of (part s t.name t.end))))))

-- ## The text

-- reading up to a place: the state there, or the code of the first fault and how far the text was looked at to tell
pub record Progress : Type 0 where
  pub code : ℕ
  pub at : ℕ
  pub state : State

-- what a text is answered: 0, 40, 41 or 42, the number of its elements, and the book; not 0: no elements and a blank book
pub record Reading : Type 0 where
  pub code : ℕ
  pub elements : ℕ
  pub book : Book

-- "nothing is stored, 0 elements reported"; the text was looked at up to p
unfoldable pub refusal : ℕ → ℕ → Progress
refusal c p = record { code = c; at = p; state = blank }

-- where the next unit starts, the open elements, the state
pub record Config : Type 0 where
  pub at : ℕ
  pub stack : List Frame
  pub state : State

unfoldable pub ruled : ℕ → Verdict → Next Config Progress
ruled p v =
    cond (eqb v.code 0)
    (more (record { at = p; stack = v.stack; state = v.state }))
    (stop (refusal v.code p))

-- one unit, or the end if nothing is open any more
unfoldable pub unit_step : List ℕ → ℕ → List Frame → State → Next Config Progress
unit_step s p [] st = stop (record { code = 0; at = p; state = st })
unit_step s p (e ∷ k) st = let t = unit_at s p in ruled t.next (judge s t e k st)

-- the units from p on, until nothing is open
unfoldable pub go : List ℕ → ℕ → List Frame → State → Progress
go s p k st =
    repeat (λ c. length s - c.at) (λ c. unit_step s c.at c.stack c.state) (refusal 40 (length s + 1))
    (record { at = p; stack = k; state = st })

-- after a verdict: its fault, or the units behind it
unfoldable pub follow : List ℕ → ℕ → Verdict → Progress
follow s p v = let r = go s p v.stack v.state in cond (eqb v.code 0) r (refusal v.code p)

-- behind rights: "white space is skipped ... around rights"
unfoldable pub finish : List ℕ → Progress → Progress
finish s r =
    let z = run_end spaces s r.at in
    cond (not (eqb r.code 0)) r
    (cond (ltb z (length s)) (refusal (stuck s z) (looked s z)) (record { code = 0; at = z; state = r.state }))

-- the first tag: an opening tag or an empty-element tag of rights
unfoldable pub root : List ℕ → Tag → Progress
root s t =
    cond (not (eqb t.code 0)) (refusal t.code t.next)
    (cond (eqb (name_of (part s t.name t.end)) rights_name)
    (finish s (follow s t.next (opened s t rights_role [] blank)))
    (refusal 41 t.next))

-- the whole text: white space, `<` and no `/` behind it, the units
unfoldable pub progress_of : List ℕ → Progress
progress_of s =
    let i = run_end spaces s 0 in
    cond (not (eqb (byte_at s i) 60)) (refusal (stuck s i) (looked s i))
    (cond (eqb (byte_at s (i + 1)) 47) (refusal 40 (i + 2))
    (root s (unit_at s i)))

-- "The reader reports the number of elements it opened"; the answer, that number, the book
unfoldable pub reading_of : List ℕ → Reading
reading_of s =
    let r = progress_of s in
    record { code = r.code; elements = r.state.elements; book = r.state.book }
