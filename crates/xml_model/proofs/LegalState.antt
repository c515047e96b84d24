-- Whatever an element does, the book so far is fresh and legal, and a fault leaves nothing.
use Prim.Native.Nat.{ℕ, ◌+◌, ◌-◌, ◌≤◌}
use mathlib.Core.Path.{◌≡◌, refl}
use mathlib.Core.Bool.{not, ◌&&◌, ◌||◌}
use mathlib.Core.List.{List}
use native.Mathlib.Omega.{arith}
use native.Mathlib.Nat.{lt_of_le_of_lt}
use lib.ListN.{drop, take}
use lib.Dec.{eqb, leb, ltb}
use borrow.Author.Tests.{eqb-true, ltb-true, ltb-false, leb-true, leb-false, not-false}
use Rattle.numbers.proofs.TableLaws.{blanks}
use Rattle.numbers.proofs.Tests.{and_right}
use Rattle.book.specs.declared.Asset.{Asset}
use Rattle.book.specs.declared.Limits.{Limits}
use Rattle.book.specs.declared.Book.{Book}
use Rattle.book.specs.Blank.{no_asset, no_entry}
use Rattle.model.specs.Book.{asset_at, assets_in, entries_in, between, asset_legal, most_times, Legal, Fresh}
use Rattle.model.proofs.Examples.Books.{no_book-legal, no_book-fresh}
use Rattle.xml_model.specs.declared.Range.{Range}
use Rattle.xml_model.specs.Shapes.{Value}
use Rattle.xml_model.specs.Shapes.{Tag}
use Rattle.xml_model.specs.declared.State.{State}
use Rattle.xml_model.specs.Bytes.{bytes, part, bare, same}
use Rattle.xml_model.specs.Tags.{look}
use Rattle.xml_model.specs.Elements.{id_bytes, idref_bytes, timer_bytes, version_role, object_uid_role, asset_uid_role, inherit_uid_role}
use Rattle.xml_model.specs.Elements.{asset_role, key_info_role, skipped_role, permission_role, reference_role, timed_count_role}
use Rattle.xml_model.specs.Elements.{is_kind, kinds_from, holds_text, closes_from}
use Rattle.xml_model.specs.Values.{value_if, number_of, is_number, number_in, uid_of, value_of}
use Rattle.xml_model.specs.State.{Done, blank, with_elements, with_ids, with_asset, with_references, with_limits, with_book, ok, no, and_then}
use Rattle.xml_model.specs.State.{counted, ids_in, id_position, is_given, new_id, asset_named, begun, with_idref, with_timer_of, opening}
use Rattle.xml_model.specs.State.{object_alone, with_timer, with_limit}
use Rattle.xml_model.specs.State.{stored, text_done, key_done, with_one_asset, asset_done, how_many, kind_legal}
use Rattle.xml_model.specs.State.{with_entries, kind_done, container_done, closing}
use Rattle.xml_model.specs.Import.{Code, accepted, not-accepted, too_much}
use Rattle.xml_model.proofs.LegalBook.{Small, Untold, Plain, asset-fresh, asset-legal, asset-plain, asset-inherits}
use Rattle.xml_model.proofs.LegalBook.{entries-fresh, entries-legal, entries-plain}
use Rattle.xml_model.proofs.LegalCodes.{on-cond}

-- ## What is kept

-- of the book so far, and of the open limits, the open asset and the number of elements
pub record Kept (b : Book) (l : Limits) (inherit elements : ℕ) : Type 0 where
  pub fresh : Fresh b
  pub legal : Legal b
  pub plain : Plain b
  pub untold : Untold l
  pub inherits : (i : ℕ) → Small (asset_at b.assets i).inherit
  pub open-inherit : Small inherit
  pub most : elements ≤ 256

abbrev pub Good : State → Type 0
Good st = Kept st.book st.limits st.asset.inherit st.elements

-- a step: its code is one of the four, and "nothing is stored, 0 elements reported" if it is not 0
pub record Sound (c : ℕ) (st : State) : Type 0 where
  pub code : Code c
  pub good : Good st
  pub nothing : (c ≡ 0 → ⊥) → st ≡ blank

abbrev pub SoundDone : Done → Type 0
SoundDone d = Sound d.code d.state

-- the open limits of a new kind
object-untold : (x : ℕ) → Untold (object_alone x)
unfolding object_alone
object-untold x = ((refl, refl, refl), refl)

pub blank-good : Good blank
unfolding blank object_alone
blank-good = record {
  fresh = no_book-fresh;
  legal = no_book-legal;
  plain = record { switch = refl; entries = λ i. rw (blanks 64 i no_entry) (object-untold 0) };
  untold = object-untold 0;
  inherits = λ i. rw (blanks 64 i no_asset) (omega arith);
  open-inherit = omega arith;
  most = omega arith;
}

pub sound-ok : (c : ℕ) (st : State) → c ≡ 0 → Good st → Sound c st
sound-ok c st e g = record { code = accepted e; good = g; nothing = λ n. absurd (n e) }

pub sound-no : (c : ℕ) → Code c → Sound c blank
sound-no c k = record { code = k; good = blank-good; nothing = λ n. refl }

pub ok-sound : (st : State) → Good st → SoundDone (ok st)
unfolding ok
ok-sound st g = sound-ok 0 st refl g

pub no-sound : (c : ℕ) → Code c → SoundDone (no c)
unfolding no
no-sound c k = sound-no c k

pub then-sound : (d : Done) (f : State → Done) → SoundDone d → ((u : State) → Good u → SoundDone (f u)) → SoundDone (and_then d f)
unfolding and_then
then-sound d f h k = on-cond SoundDone (eqb d.code 0) (f d.state) d (λ q. k d.state h.good) (λ q. h)

-- 41, the fault of most tests
refused : SoundDone (no 41)
refused = no-sound 41 (not-accepted refl)

-- ## A state with one part changed

-- another open asset
asset-good : (a : Asset) (i : ℕ) (st : State) → Good st → Small a.inherit → Good (with_asset a i st)
unfolding with_asset
asset-good a i st g k = record {
  fresh = g.fresh;
  legal = g.legal;
  plain = g.plain;
  untold = g.untold;
  inherits = g.inherits;
  open-inherit = k;
  most = g.most;
}

-- other open limits
limits-good : (l : Limits) (st : State) → Good st → Untold l → Good (with_limits l st)
unfolding with_limits
limits-good l st g k = record {
  fresh = g.fresh;
  legal = g.legal;
  plain = g.plain;
  untold = k;
  inherits = g.inherits;
  open-inherit = g.open-inherit;
  most = g.most;
}

-- another book
book-good : (b : Book) (st : State) → Good st → Fresh b → Legal b → Plain b → ((i : ℕ) → Small (asset_at b.assets i).inherit)
    → Good (with_book b st)
unfolding with_book
book-good b st g f l u k = record {
  fresh = f;
  legal = l;
  plain = u;
  untold = g.untold;
  inherits = k;
  open-inherit = g.open-inherit;
  most = g.most;
}

-- "at most 256"
pub counted-sound : (st : State) → Good st → SoundDone (counted st)
unfolding counted with_elements
counted-sound st g =
    on-cond SoundDone (ltb st.elements 256) _ _
    (λ q. ok-sound (with_elements (st.elements + 1) st) (record {
      fresh = g.fresh;
      legal = g.legal;
      plain = g.plain;
      untold = g.untold;
      inherits = g.inherits;
      open-inherit = g.open-inherit;
      most = omega (arith, ltb-true st.elements 256 q);
    }))
    (λ q. no-sound 42 (too_much refl))

-- ## Opening

begun-good : (role : ℕ) (r : Range) (st : State) → Good st → Good (begun role r st)
unfolding begun with_references
begun-good role r st g =
    on-cond Good (eqb role asset_role) _ _
    (λ q. asset-good no_asset _ st g (omega arith))
    (λ q. on-cond Good (eqb role permission_role) _ _
    (λ w. g)
    (λ w. on-cond Good (is_kind role) _ _ (λ z. limits-good _ st g (object-untold st.limits.object)) (λ z. g)))

id-sound : (s : List ℕ) (r : Range) (st : State) → Good st → SoundDone (new_id s r st)
unfolding new_id with_ids
id-sound s r st g =
    on-cond SoundDone (not (is_given r)) _ _
    (λ q. ok-sound st g)
    (λ q. on-cond SoundDone (ltb (id_position s st.ids r) (ids_in st.ids)) _ _
    (λ w. refused)
    (λ w. ok-sound _ g))

idref-sound : (s : List ℕ) (r : Range) (role : ℕ) (st : State) → Good st → SoundDone (with_idref s r role st)
unfolding with_idref with_references
idref-sound s r role st g =
    on-cond SoundDone (is_given r && eqb (asset_named s st.ids r) 0) _ _
    (λ q. refused)
    (λ q. on-cond SoundDone (eqb role reference_role) _ _
    (λ w. on-cond SoundDone (is_given r) _ _ (λ z. ok-sound _ g) (λ z. refused))
    (λ w. ok-sound st g))

timer-sound : (s : List ℕ) (r : Range) (role : ℕ) (st : State) → Good st → SoundDone (with_timer_of s r role st)
unfolding with_timer_of with_timer
timer-sound s r role st g =
    on-cond SoundDone (eqb role timed_count_role && is_given r) _ _
    (λ q. on-cond SoundDone (number_in 0 most_times (part s r.from r.to)).valid _ _
    (λ w. ok-sound _ (limits-good _ st g g.untold)) (λ w. refused))
    (λ q. ok-sound st g)

pub opening-sound : (s : List ℕ) (t : Tag) (role : ℕ) (st : State) → Good st → SoundDone (opening s t role st)
unfolding opening
opening-sound s t role st g =
    let id = look s id_bytes t.end in
    let idref = look s idref_bytes t.end in
    let timer = look s timer_bytes t.end in
    then-sound (new_id s id (begun role id st)) _ (id-sound s id (begun role id st) (begun-good role id st g))
    (λ u k. then-sound (with_idref s idref role u) _ (idref-sound s idref role u k) (λ w z. timer-sound s timer role w z))

-- ## Closing

pub number-most : (least most : ℕ) (v : List ℕ) → (number_in least most v).number ≤ most
unfolding number_in value_if
number-most least most v =
    let good = is_number v && between least most (number_of v) in
    on-cond (λ x. x ≤ most) good (number_of v) 0
    (λ q. leb-true (number_of v) most (and_right (leb least (number_of v)) (leb (number_of v) most)
    (and_right (is_number v) (between least most (number_of v)) q)))
    (λ q. omega arith)

pub uid-small : (v : List ℕ) → Small (uid_of v).number
unfolding uid_of value_if
uid-small v =
    on-cond (λ (x : Value). Small x.number)
    (same (take 4 v) (bytes "cid:") || same (take 4 v) (bytes "pid:"))
    _ _
    (λ q. lt_of_le_of_lt (number-most _ _ (drop 4 v)) (omega arith))
    (λ q. omega arith)

-- the number that an asset inherits from is a uid
value-small : (role : ℕ) (v : List ℕ) → role ≡ inherit_uid_role → Small (value_of role v).number
unfolding value_of
value-small role v e = rw e (uid-small v)

stored-good : (role x : ℕ) (st : State) → Good st → (role ≡ inherit_uid_role → Small x) → Good (stored role x st)
unfolding stored with_limit
stored-good role x st g k =
    on-cond Good (eqb role version_role) _ _
    (λ q. g)
    (λ q. on-cond Good (eqb role object_uid_role) _ _
    (λ w. limits-good _ st g (object-untold x))
    (λ w. on-cond Good (eqb role asset_uid_role) _ _
    (λ y. asset-good _ _ st g g.open-inherit)
    (λ y. on-cond Good (eqb role inherit_uid_role) _ _
    (λ z. asset-good _ _ st g (k (eqb-true role inherit_uid_role z)))
    (λ z. limits-good _ st g g.untold))))

text-sound : (role : ℕ) (v : List ℕ) (st : State) → Good st → SoundDone (text_done role v st)
unfolding text_done
text-sound role v st g =
    on-cond SoundDone (value_of role v).valid _ _
    (λ q. ok-sound _ (stored-good role (value_of role v).number st g (value-small role v)))
    (λ q. refused)

key-good : (st : State) → Good st → Good (key_done st)
unfolding key_done
key-good st g = asset-good _ _ st g g.open-inherit

asset-sound : (st : State) → Good st → SoundDone (asset_done st)
unfolding asset_done with_ids
asset-sound st g =
    let b = st.book in
    let n = assets_in b in
    on-cond SoundDone (not (asset_legal b.assets n n st.asset)) _ _
    (λ q. refused)
    (λ q. on-cond SoundDone (leb 64 n) _ _
    (λ w. no-sound 42 (too_much refl))
    (λ w.
    let test = not-false (asset_legal b.assets n n st.asset) q in
    let room = leb-false 64 n w in
    ok-sound _ (book-good (with_one_asset st.asset b) st g
    (asset-fresh b st.asset g.legal room test g.fresh)
    (asset-legal b st.asset g.legal room test g.fresh)
    (asset-plain b st.asset g.legal room test g.plain)
    (asset-inherits b st.asset g.legal room test g.inherits g.open-inherit))))

kind-sound : (kind : ℕ) (st : State) → Good st → SoundDone (kind_done kind st)
unfolding kind_done with_entries
kind-sound kind st g =
    on-cond SoundDone (not (kind_legal kind st)) _ _
    (λ q. refused)
    (λ q. on-cond SoundDone (ltb 64 (entries_in st.book + how_many st)) _ _
    (λ w. no-sound 42 (too_much refl))
    (λ w.
    let test = not-false (kind_legal kind st) q in
    let room = ltb-false 64 (entries_in st.book + how_many st) w in
    ok-sound _ (book-good (with_entries kind st st.book) st g
    (entries-fresh kind st g.legal g.fresh room test)
    (entries-legal kind st g.legal g.fresh room test)
    (entries-plain kind st g.legal g.fresh room test g.untold g.plain)
    g.inherits)))

container-sound : (role : ℕ) (st : State) → Good st → SoundDone (container_done role st)
unfolding container_done
container-sound role st g =
    on-cond SoundDone (eqb role asset_role) _ _
    (λ q. asset-sound st g)
    (λ q. on-cond SoundDone (is_kind role) _ _ (λ w. kind-sound (role - kinds_from) st g) (λ w. ok-sound st g))

pub closing-sound : (s : List ℕ) (a b role state : ℕ) (st : State) → Good st → SoundDone (closing s a b role state st)
unfolding closing
closing-sound s a b role state st g =
    on-cond SoundDone (eqb role skipped_role) _ _
    (λ q. ok-sound st g)
    (λ q. on-cond SoundDone (eqb role key_info_role) _ _
    (λ w. ok-sound (key_done st) (key-good st g))
    (λ w. on-cond SoundDone (holds_text role) _ _
    (λ y. text-sound role (part s a b) st g)
    (λ y. on-cond SoundDone (not (bare s a b) || ltb state (closes_from role)) _ _
    (λ z. refused)
    (λ z. container-sound role st g))))
