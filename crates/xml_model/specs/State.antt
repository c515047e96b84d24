-- What an element does to what has been read so far: order 1, where its first tag is read ("opening") and where its last tag is
-- read ("closing"). A step gives the state after it, or the code of a fault.
use Rattle.std.specs.Prelude.{ℕ, zero, suc, ◌+◌, ◌-◌, min, Bool, cond, not, ◌&&◌, ◌||◌, List, get_or, set, replicate, eqb, leb, ltb}
use Rattle.std.specs.Prelude.{Result, Ok, Err}
use Rattle.numbers.specs.Count.{all, first}
use Rattle.book.specs.declared.Asset.{Asset}
use Rattle.book.specs.declared.Limits.{Limits}
use Rattle.book.specs.declared.Entry.{Entry}
use Rattle.book.specs.declared.Book.{Book}
use Rattle.book.specs.Blank.{no_asset, no_limits, no_meters, no_book}
use Rattle.model.specs.Book.{asset_at, assets_in, entries_in, in_book, flagged, asset_legal, limits_legal, most_times}
use Rattle.model.specs.Book.{count_flag, timed_flag, start_flag, end_flag, interval_flag, accumulated_flag}
use Rattle.xml_model.specs.declared.Range.{Range}
use Rattle.xml_model.specs.Shapes.{Tag}
use Rattle.xml_model.specs.declared.Id.{Id}
use Rattle.xml_model.specs.declared.Ids.{Ids}
use Rattle.xml_model.specs.declared.References.{References}
use Rattle.xml_model.specs.declared.State.{State}
use Rattle.xml_model.specs.declared.TextError.{TextError}
use Rattle.xml_model.specs.Codes.{text_code}
use Rattle.xml_model.specs.Bytes.{byte_at, part, bare}
use Rattle.xml_model.specs.Tags.{look}
use Rattle.xml_model.specs.Elements.{id_bytes, idref_bytes, timer_bytes}
use Rattle.xml_model.specs.Elements.{version_role, object_uid_role, asset_uid_role, inherit_uid_role, asset_role, key_info_role, skipped_role}
use Rattle.xml_model.specs.Elements.{permission_role, reference_role, count_role, timed_count_role, start_role, end_role, interval_role}
use Rattle.xml_model.specs.Elements.{accumulated_role, is_kind, kinds_from, holds_text, closes_from}
use Rattle.xml_model.specs.Values.{number_in, value_of}

-- ## Nothing read yet, and a state with one part changed

abbrev pub no_id : Id
no_id = record { from = 0; to = 0; asset = 0 }

-- the position that stands for "no id"
abbrev pub no_position : ℕ
no_position = 256

unfoldable pub blank : State
blank = record {
  elements = 0;
  ids = record { count = 0; table = replicate 256 no_id };
  asset = no_asset;
  assetid = no_position;
  references = record { count = 0; table = replicate 64 0 };
  limits = no_limits;
  book = no_book;
}

unfoldable pub with_elements : ℕ → State → State
with_elements n st = record {
  elements = n;
  ids = st.ids;
  asset = st.asset;
  assetid = st.assetid;
  references = st.references;
  limits = st.limits;
  book = st.book;
}

unfoldable pub with_ids : Ids → State → State
with_ids g st = record {
  elements = st.elements;
  ids = g;
  asset = st.asset;
  assetid = st.assetid;
  references = st.references;
  limits = st.limits;
  book = st.book;
}

unfoldable pub with_asset : Asset → ℕ → State → State
with_asset a i st = record {
  elements = st.elements;
  ids = st.ids;
  asset = a;
  assetid = i;
  references = st.references;
  limits = st.limits;
  book = st.book;
}

unfoldable pub with_references : References → State → State
with_references r st = record {
  elements = st.elements;
  ids = st.ids;
  asset = st.asset;
  assetid = st.assetid;
  references = r;
  limits = st.limits;
  book = st.book;
}

unfoldable pub with_limits : Limits → State → State
with_limits l st = record {
  elements = st.elements;
  ids = st.ids;
  asset = st.asset;
  assetid = st.assetid;
  references = st.references;
  limits = l;
  book = st.book;
}

unfoldable pub with_book : Book → State → State
with_book b st = record {
  elements = st.elements;
  ids = st.ids;
  asset = st.asset;
  assetid = st.assetid;
  references = st.references;
  limits = st.limits;
  book = b;
}

-- ## Steps

-- one step of reading: the state after it, or the code of a fault with a blank state
pub record Done : Type 0 where
  pub code : ℕ
  pub state : State

unfoldable pub ok : State → Done
ok st = record { code = 0; state = st }

unfoldable pub no : ℕ → Done
no c = record { code = c; state = blank }

-- the step that the code returns
abbrev pub as_done : Result State TextError → Done
as_done (Ok st) = ok st
as_done (Err e) = no (text_code e)

-- a step, and a second one if the first is no fault
unfoldable pub and_then : Done → (State → Done) → Done
and_then d f = let r = f d.state in cond (eqb d.code 0) r d

-- "at most 256": one element more, or 42
unfoldable pub counted : State → Done
counted st = cond (ltb st.elements 256) (ok (with_elements (st.elements + 1) st)) (no 42)

-- ## Ids

-- the n bytes at a and those at x are the same
unfoldable pub alike : List ℕ → ℕ → ℕ → ℕ → Bool
alike s a x n = all (λ i. eqb (byte_at s (a + i)) (byte_at s (x + i))) n

-- the bytes from a to b and those from x to y are the same
unfoldable pub same_range : List ℕ → ℕ → ℕ → ℕ → ℕ → Bool
same_range s a b x y = eqb (b - a) (y - x) && alike s a x (b - a)

-- whether id i has the bytes of the value r
unfoldable pub is_id : List ℕ → List Id → Range → ℕ → Bool
is_id s ids r i = same_range s r.from r.to (get_or ids i no_id).from (get_or ids i no_id).to

-- how many ids there are
unfoldable pub ids_in : Ids → ℕ
ids_in g = min g.count 256

-- the position of the value r among the ids; ids_in if it is none of them
unfoldable pub id_position : List ℕ → Ids → Range → ℕ
id_position s g r = first (is_id s g.table r) (ids_in g)

-- whether the tag has that attribute
unfoldable pub is_given : Range → Bool
is_given r = ltb 0 r.from

-- the value r as an id
unfoldable pub id_of : Range → Id
id_of r = record { from = r.from; to = r.to; asset = 0 }

-- "an id given twice ... gets 41". The table has room for one id of each of 256 elements; the element after them gets 42.
unfoldable pub new_id : List ℕ → Range → State → Done
new_id s r st =
    let g = st.ids in
    let n = ids_in g in
    cond (not (is_given r)) (ok st)
    (cond (ltb (id_position s g r) n) (no 41)
    (ok (with_ids (record { count = min (n + 1) 256; table = set g.table n (id_of r) }) st)))

-- the number of the asset whose id the value r is; 0 if there is none, or it is not closed yet
unfoldable pub asset_named : List ℕ → Ids → Range → ℕ
asset_named s g r = cond (ltb (id_position s g r) (ids_in g)) (get_or g.table (id_position s g r) no_id).asset 0

-- the id at position i is that of asset x, which is now closed
unfoldable pub named : ℕ → ℕ → Ids → Ids
named i x g =
    let d = get_or g.table i no_id in
    record { count = g.count; table = set g.table i (record { from = d.from; to = d.to; asset = x }) }

-- ## Limits

-- no limits yet, but the rights object's number
unfoldable pub object_alone : ℕ → Limits
object_alone x = record {
  object = x;
  asset = 0;
  kind = 0;
  flags = 0;
  count = 0;
  timed = 0;
  timer = 0;
  start = 0;
  end = 0;
  interval = 0;
  accumulated = 0;
  tracked = 0;
  timedvalue = 0;
  mark = 0;
  threshold = 0;
}

unfoldable pub with_timer : ℕ → Limits → Limits
with_timer x l = record {
  object = l.object;
  asset = l.asset;
  kind = l.kind;
  flags = l.flags;
  count = l.count;
  timed = l.timed;
  timer = x;
  start = l.start;
  end = l.end;
  interval = l.interval;
  accumulated = l.accumulated;
  tracked = l.tracked;
  timedvalue = l.timedvalue;
  mark = l.mark;
  threshold = l.threshold;
}

unfoldable pub flag_of : ℕ → ℕ
flag_of role =
    cond (eqb role count_role) count_flag
    (cond (eqb role timed_count_role) timed_flag
    (cond (eqb role start_role) start_flag
    (cond (eqb role end_role) end_flag
    (cond (eqb role interval_role) interval_flag
    accumulated_flag))))

-- the flags with flag w set
unfoldable pub with_flag : ℕ → Limits → ℕ
with_flag w l = cond (flagged w l) l.flags (l.flags + w)

-- the limit of that role, with its flag
unfoldable pub with_limit : ℕ → ℕ → Limits → Limits
with_limit role x l = record {
  object = l.object;
  asset = l.asset;
  kind = l.kind;
  flags = with_flag (flag_of role) l;
  count = cond (eqb role count_role) x l.count;
  timed = cond (eqb role timed_count_role) x l.timed;
  timer = l.timer;
  start = cond (eqb role start_role) x l.start;
  end = cond (eqb role end_role) x l.end;
  interval = cond (eqb role interval_role) x l.interval;
  accumulated = cond (eqb role accumulated_role) x l.accumulated;
  tracked = l.tracked;
  timedvalue = l.timedvalue;
  mark = l.mark;
  threshold = l.threshold;
}

-- the limits for an asset, as an entry of that kind
unfoldable pub for_asset : ℕ → ℕ → Limits → Limits
for_asset kind asset l = record {
  object = l.object;
  asset = asset;
  kind = kind;
  flags = l.flags;
  count = l.count;
  timed = l.timed;
  timer = l.timer;
  start = l.start;
  end = l.end;
  interval = l.interval;
  accumulated = l.accumulated;
  tracked = l.tracked;
  timedvalue = l.timedvalue;
  mark = l.mark;
  threshold = l.threshold;
}

-- ## Opening

-- an asset, a permission and a kind start anew
unfoldable pub begun : ℕ → Range → State → State
begun role r st =
    cond (eqb role asset_role) (with_asset no_asset (cond (is_given r) (ids_in st.ids) no_position) st)
    (cond (eqb role permission_role) (with_references (record { count = 0; table = st.references.table }) st)
    (cond (is_kind role) (with_limits (object_alone st.limits.object) st)
    st))

-- one reference more
unfoldable pub referred : ℕ → References → References
referred x r = record { count = min (r.count + 1) 65; table = set r.table r.count x }

-- "an idref without its id" gets 41; an asset reference needs an idref
unfoldable pub with_idref : List ℕ → Range → ℕ → State → Done
with_idref s r role st =
    let x = asset_named s st.ids r in
    cond (is_given r && eqb x 0) (no 41)
    (cond (eqb role reference_role)
    (cond (is_given r) (ok (with_references (referred x st.references) st)) (no 41))
    (ok st))

-- "timer (0 if missing)": of a timed count, "timer 0 to 1,000,000"
unfoldable pub with_timer_of : List ℕ → Range → ℕ → State → Done
with_timer_of s r role st =
    let m = number_in 0 most_times (part s r.from r.to) in
    cond (eqb role timed_count_role && is_given r)
    (cond m.valid (ok (with_limits (with_timer m.number st.limits) st)) (no 41))
    (ok st)

-- "Attributes id, idref and timer (0 if missing) are read"
unfoldable pub opening : List ℕ → Tag → ℕ → State → Done
opening s t role st =
    let id = look s id_bytes t.end in
    let idref = look s idref_bytes t.end in
    let timer = look s timer_bytes t.end in
    and_then (new_id s id (begun role id st)) (λ u. and_then (with_idref s idref role u) (λ w. with_timer_of s timer role w))

-- ## Closing

-- a text value in its place
unfoldable pub stored : ℕ → ℕ → State → State
stored role x st =
    let a = st.asset in
    cond (eqb role version_role) st
    (cond (eqb role object_uid_role) (with_limits (object_alone x) st)
    (cond (eqb role asset_uid_role) (with_asset (record { number = x; inherit = a.inherit; key = a.key }) st.assetid st)
    (cond (eqb role inherit_uid_role) (with_asset (record { number = a.number; inherit = x; key = a.key }) st.assetid st)
    (with_limits (with_limit role x st.limits) st))))

-- "a text value with its range at its closing tag"
unfoldable pub text_done : ℕ → List ℕ → State → Done
text_done role v st = let x = value_of role v in cond x.valid (ok (stored role x.number st)) (no 41)

-- "KeyInfo (its content counted and skipped)": the asset has a key
unfoldable pub key_done : State → State
key_done st = with_asset (record { number = st.asset.number; inherit = st.asset.inherit; key = 1 }) st.assetid st

-- the asset behind the others in the book
unfoldable pub with_one_asset : Asset → Book → Book
with_one_asset a b = record {
  time = b.time;
  switch = b.switch;
  latest = b.latest;
  assetcount = assets_in b + 1;
  entrycount = b.entrycount;
  assets = set b.assets (assets_in b) a;
  entries = b.entries;
  players = b.players;
}

-- "other book rules and the 64s at their asset's or kind's" closing tag: rule 24 among the assets before it, then "over ... 64 assets"
unfoldable pub asset_done : State → Done
asset_done st =
    let b = st.book in
    let n = assets_in b in
    cond (not (asset_legal b.assets n n st.asset)) (no 41)
    (cond (leb 64 n) (no 42)
    (ok (with_ids (named st.assetid st.asset.number st.ids) (with_book (with_one_asset st.asset b) st))))

-- "Each kind gives an entry for each asset reference in its permission, in text order, or for every asset if it has none."
unfoldable pub how_many : State → ℕ
how_many st = cond (eqb st.references.count 0) (assets_in st.book) st.references.count

-- the asset of the i-th of them
unfoldable pub asset_for : State → ℕ → ℕ
asset_for st i =
    cond (eqb st.references.count 0) (asset_at st.book.assets i).number (get_or st.references.table i 0)

-- the limits of the i-th of them
unfoldable pub limits_for : ℕ → State → ℕ → Limits
limits_for kind st i = for_asset kind (asset_for st i) st.limits

-- rule 25 of each of them, of those that are kept
unfoldable pub kind_legal : ℕ → State → Bool
kind_legal kind st = all (λ i. limits_legal (in_book st.book (asset_for st i)) (limits_for kind st i)) (min (how_many st) 64)

-- k entries of f in a table, from position n on
unfoldable pub filled : (ℕ → Entry) → ℕ → ℕ → List Entry → List Entry
filled f n zero es = es
filled f n (suc k) es = set (filled f n k es) (n + k) (f k)

-- the entries behind the others in the book; they are fresh
unfoldable pub with_entries : ℕ → State → Book → Book
with_entries kind st b = record {
  time = b.time;
  switch = b.switch;
  latest = b.latest;
  assetcount = b.assetcount;
  entrycount = entries_in b + how_many st;
  assets = b.assets;
  entries = filled (λ i. record { limits = limits_for kind st i; meters = no_meters }) (entries_in b) (how_many st) b.entries;
  players = b.players;
}

-- rule 25, then "over ... 64 entries"
unfoldable pub kind_done : ℕ → State → Done
kind_done kind st =
    cond (not (kind_legal kind st)) (no 41)
    (cond (ltb 64 (entries_in st.book + how_many st)) (no 42)
    (ok (with_book (with_entries kind st st.book) st)))

-- an element that holds elements: only white space in front of its end tag, and no required child missing
unfoldable pub container_done : ℕ → State → Done
container_done role st = cond (eqb role asset_role) (asset_done st) (cond (is_kind role) (kind_done (role - kinds_from) st) (ok st))

-- the last tag of an element, with the text from a to b in front of it; its children have led to state `state`
unfoldable pub closing : List ℕ → ℕ → ℕ → ℕ → ℕ → State → Done
closing s a b role state st =
    cond (eqb role skipped_role) (ok st)
    (cond (eqb role key_info_role) (ok (key_done st))
    (cond (holds_text role) (text_done role (part s a b) st)
    (cond (not (bare s a b) || ltb state (closes_from role)) (no 41)
    (container_done role st))))
