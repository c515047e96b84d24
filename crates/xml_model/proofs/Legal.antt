-- What is read from a text is a fresh and legal book whose numbers fit their types: it can be written as an image, read back, and
-- run. A refusal leaves nothing. All of it is claimed of every list of numbers as a text; `one` of `Examples` runs one that is
-- accepted, with an asset and an entry.
use Prim.Native.Nat.{ℕ, ◌+◌, ◌-◌, ◌≤◌}
use mathlib.Core.Path.{◌≡◌, refl, ap, subst}
use mathlib.Core.Bool.{not, ◌||◌}
use mathlib.Core.List.{List, [], ◌∷◌}
use lib.ListN.{length}
use lib.Dec.{eqb, leb, ltb}
use Rattle.book.specs.declared.Book.{Book}
use Rattle.book.specs.Blank.{no_book}
use Rattle.model.specs.Book.{limits_at, Fresh, Legal}
use Rattle.model.specs.Image.{Typed, image, read_code, read_book}
use Rattle.model.specs.Demand3.{Demand3}
use Rattle.model.proofs.Image.RoundTrip.{demand2}
use Rattle.model.proofs.Demand3.Proof.{demand3}
use Rattle.xml_model.specs.Shapes.{Tag}
use Rattle.xml_model.specs.declared.State.{State}
use Rattle.xml_model.specs.Repeat.{Next, stop, more}
use Rattle.xml_model.specs.Bytes.{byte_at, part, spaces, run_end, bare, stuck, looked}
use Rattle.xml_model.specs.Tags.{unit_at}
use Rattle.xml_model.specs.Elements.{name_of, rights_name, rights_role, skipped_role, row_of, row_count, child_role, holds_anything}
use Rattle.xml_model.specs.State.{Done, blank, no, and_then, counted, same_range, closing}
use Rattle.xml_model.specs.Text.{Progress, Frame, Verdict, leads_to, entered, opened, ended, child, judge, refusal, Config, ruled}
use Rattle.xml_model.specs.Text.{unit_step, go, follow, finish, root, progress_of, reading_of}
use Rattle.xml_model.proofs.Repeats.{repeat-ind}
use Rattle.xml_model.proofs.LegalBook.{fresh-typed}
use Rattle.xml_model.specs.Import.{Code, not-formed, not-accepted, Unmetered, Ungrouped}
use Rattle.xml_model.proofs.LegalCodes.{on-cond, stuck-code, unit-code}
use Rattle.xml_model.proofs.LegalState.{Good, Sound, SoundDone, blank-good, sound-ok, sound-no, no-sound, then-sound}
use Rattle.xml_model.proofs.LegalState.{counted-sound, opening-sound, closing-sound, ok-sound}

-- ## One unit

abbrev SoundVerdict : Verdict → Type 0
SoundVerdict v = Sound v.code v.state

leads-sound : (k : List Frame) (d : Done) → SoundDone d → SoundVerdict (leads_to k d)
unfolding leads_to
leads-sound k d h = h

entered-sound : (s : List ℕ) (t : Tag) (role : ℕ) (k : List Frame) (st : State) → Good st → SoundDone (entered s t role k st)
unfolding entered
entered-sound s t role k st g =
    on-cond SoundDone (leb 12 (length k)) _ _
    (λ q. no-sound 41 (not-accepted refl))
    (λ q. on-cond SoundDone (eqb role skipped_role) _ _ (λ w. ok-sound st g) (λ w. opening-sound s t role st g))

opened-sound : (s : List ℕ) (t : Tag) (role : ℕ) (k : List Frame) (st : State) → Good st → SoundVerdict (opened s t role k st)
unfolding opened
opened-sound s t role k st g =
    let d = entered s t role k st in
    let h = entered-sound s t role k st g in
    on-cond SoundVerdict (eqb t.form 0) _ _
    (λ q. leads-sound _ (and_then d counted) (then-sound d counted h counted-sound))
    (λ q. leads-sound k (and_then (and_then d (λ u. closing s t.next t.next role 0 u)) counted)
    (then-sound (and_then d (λ u. closing s t.next t.next role 0 u)) counted
    (then-sound d (λ u. closing s t.next t.next role 0 u) h (λ u z. closing-sound s t.next t.next role 0 u z)) counted-sound))

ended-sound : (s : List ℕ) (t : Tag) (e : Frame) (st : State) → Good st → SoundDone (ended s t e st)
unfolding ended
ended-sound s t e st g =
    on-cond SoundDone (same_range s t.name t.end e.name e.end) _ _
    (λ q. closing-sound s t.from t.at e.role e.state st g)
    (λ q. no-sound 40 (not-formed refl))

child-sound : (s : List ℕ) (t : Tag) (e : Frame) (k : List Frame) (st : State) (r : ℕ) → Good st → SoundVerdict (child s t e k st r)
unfolding child
child-sound s t e k st r g =
    on-cond SoundVerdict (leb row_count r || not (bare s t.from t.at)) _ _
    (λ q. leads-sound [] (no 41) (no-sound 41 (not-accepted refl)))
    (λ q. opened-sound s t (child_role r) _ st g)

judge-sound : (s : List ℕ) (t : Tag) (e : Frame) (k : List Frame) (st : State) → Code t.code → Good st
    → SoundVerdict (judge s t e k st)
unfolding judge
judge-sound s t e k st c g =
    on-cond SoundVerdict (not (eqb t.code 0)) _ _
    (λ q. leads-sound [] (no t.code) (no-sound t.code c))
    (λ q. on-cond SoundVerdict (eqb t.form 2) _ _
    (λ w. leads-sound k (ended s t e st) (ended-sound s t e st g))
    (λ w. on-cond SoundVerdict (holds_anything e.role) _ _
    (λ z. opened-sound s t skipped_role (e ∷ k) st g)
    (λ z. child-sound s t e k st (row_of e.role e.state (name_of (part s t.name t.end))) g)))

-- ## The text

abbrev SoundProgress : Progress → Type 0
SoundProgress r = Sound r.code r.state

refusal-sound : (c p : ℕ) → Code c → SoundProgress (refusal c p)
unfolding refusal
refusal-sound c p k = sound-no c k

-- a turn: it stops with a sound result, or goes on with a good state
abbrev SoundNext : Next Config Progress → Type 0
SoundNext (stop r) = SoundProgress r
SoundNext (more c) = Good c.state

ruled-sound : (p : ℕ) (v : Verdict) → SoundVerdict v → SoundNext (ruled p v)
unfolding ruled
ruled-sound p v h =
    on-cond SoundNext (eqb v.code 0) _ _ (λ q. h.good) (λ q. refusal-sound v.code p h.code)

unit-sound : (s : List ℕ) (p : ℕ) (k : List Frame) (st : State) → Good st → SoundNext (unit_step s p k st)
unfolding unit_step
unit-sound s p [] st g = sound-ok 0 st refl g
unit-sound s p (e ∷ k) st g =
    ruled-sound (unit_at s p).next (judge s (unit_at s p) e k st) (judge-sound s (unit_at s p) e k st (unit-code s p) g)

go-sound : (s : List ℕ) (p : ℕ) (k : List Frame) (st : State) → Good st → SoundProgress (go s p k st)
unfolding go
go-sound s p k st =
    repeat-ind (λ c. length s - c.at) (λ c. unit_step s c.at c.stack c.state) (refusal 40 (length s + 1))
    (λ c r. Good c.state → SoundProgress r)
    (λ c g. refusal-sound 40 (length s + 1) (not-formed refl))
    (λ c r e g. subst SoundNext e (unit-sound s c.at c.stack c.state g))
    (λ c d r e h g. h (subst SoundNext e (unit-sound s c.at c.stack c.state g)))
    (record { at = p; stack = k; state = st })

follow-sound : (s : List ℕ) (p : ℕ) (v : Verdict) → SoundVerdict v → SoundProgress (follow s p v)
unfolding follow
follow-sound s p v h =
    on-cond SoundProgress (eqb v.code 0) _ _
    (λ q. go-sound s p v.stack v.state h.good)
    (λ q. refusal-sound v.code p h.code)

finish-sound : (s : List ℕ) (r : Progress) → SoundProgress r → SoundProgress (finish s r)
unfolding finish
finish-sound s r h =
    let z = run_end spaces s r.at in
    on-cond SoundProgress (not (eqb r.code 0)) _ _
    (λ q. h)
    (λ q. on-cond SoundProgress (ltb z (length s)) _ _
    (λ w. refusal-sound (stuck s z) (looked s z) (stuck-code s z))
    (λ w. sound-ok 0 r.state refl h.good))

root-sound : (s : List ℕ) (t : Tag) → Code t.code → SoundProgress (root s t)
unfolding root
root-sound s t c =
    on-cond SoundProgress (not (eqb t.code 0)) _ _
    (λ q. refusal-sound t.code t.next c)
    (λ q. on-cond SoundProgress (eqb (name_of (part s t.name t.end)) rights_name) _ _
    (λ w. finish-sound s (follow s t.next (opened s t rights_role [] blank))
    (follow-sound s t.next (opened s t rights_role [] blank) (opened-sound s t rights_role [] blank blank-good)))
    (λ w. refusal-sound 41 t.next (not-accepted refl)))

progress-sound : (s : List ℕ) → SoundProgress (progress_of s)
unfolding progress_of
progress-sound s =
    let i = run_end spaces s 0 in
    on-cond SoundProgress (not (eqb (byte_at s i) 60)) _ _
    (λ q. refusal-sound (stuck s i) (looked s i) (stuck-code s i))
    (λ q. on-cond SoundProgress (eqb (byte_at s (i + 1)) 47) _ _
    (λ w. refusal-sound 40 (i + 2) (not-formed refl))
    (λ w. root-sound s (unit_at s i) (unit-code s i)))

-- ## The book

pub reading-fresh : (s : List ℕ) → Fresh (reading_of s).book
unfolding reading_of
reading-fresh s = (progress-sound s).good.fresh

pub reading-legal : (s : List ℕ) → Legal (reading_of s).book
unfolding reading_of
reading-legal s = (progress-sound s).good.legal

pub reading-typed : (s : List ℕ) → Typed (reading_of s).book
unfolding reading_of
reading-typed s =
    let g = (progress-sound s).good in
    fresh-typed (progress_of s).state.book g.legal g.fresh g.plain g.inherits

pub reading-unmetered : (s : List ℕ) → Unmetered (reading_of s).book
unfolding reading_of
reading-unmetered s =
    let p = (progress-sound s).good.plain in
    record { switch = p.switch; entries = λ i. (p.entries i).0 }

pub reading-ungrouped : (s : List ℕ) (i : ℕ) → Ungrouped (limits_at (reading_of s).book.entries i)
unfolding reading_of
reading-ungrouped s i = ((progress-sound s).good.plain.entries i).1

-- written as an image and read back, whatever book was held before, it is the same book
pub reading-image : (held : Book) (s : List ℕ)
    → (read_code (image (reading_of s).book) ≡ 0) × (read_book held (image (reading_of s).book) ≡ (reading_of s).book)
reading-image held s = demand2.reads_back held (reading_of s).book (reading-legal s) (reading-typed s)

-- demand 3 of every list of events run from it
pub reading-demand3 : (s : List ℕ) → Demand3 (reading_of s).book
reading-demand3 s = demand3 (reading_of s).book (reading-legal s) (reading-fresh s)

-- ## The answer

pub reading-code : (s : List ℕ) → Code (reading_of s).code
unfolding reading_of
reading-code s = (progress-sound s).code

pub reading-most : (s : List ℕ) → (reading_of s).elements ≤ 256
unfolding reading_of
reading-most s = (progress-sound s).good.most

-- "nothing is stored, 0 elements reported"
pub refused-nothing : (s : List ℕ) → ((reading_of s).code ≡ 0 → ⊥) → ((reading_of s).elements ≡ 0) × ((reading_of s).book ≡ no_book)
unfolding reading_of blank
refused-nothing s n =
    let e = (progress-sound s).nothing n in
    (ap (λ (st : State). st.elements) e, ap (λ (st : State). st.book) e)
