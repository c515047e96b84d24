-- The elements of document 004 that order 1 accepts: their names, their roles, and which may hold which, "with document 004's
-- prefixes and child order".
use Rattle.std.specs.Prelude.{ℕ, suc, ◌+◌, ◌*◌, Bool, cond, ◌&&◌, ◌||◌, List, [], ◌∷◌, get_or, eqb, leb}
use Rattle.numbers.specs.Count.{first}
use Rattle.model.specs.Book.{between}
use Rattle.xml_model.specs.Bytes.{bytes, same}

-- ## Names, as bytes

abbrev pub rights_bytes : List ℕ
rights_bytes = bytes "o-ex:rights"

abbrev pub context_bytes : List ℕ
context_bytes = bytes "o-ex:context"

abbrev pub version_bytes : List ℕ
version_bytes = bytes "o-dd:version"

abbrev pub uid_bytes : List ℕ
uid_bytes = bytes "o-dd:uid"

abbrev pub agreement_bytes : List ℕ
agreement_bytes = bytes "o-ex:agreement"

abbrev pub asset_bytes : List ℕ
asset_bytes = bytes "o-ex:asset"

abbrev pub inherit_bytes : List ℕ
inherit_bytes = bytes "o-ex:inherit"

abbrev pub key_info_bytes : List ℕ
key_info_bytes = bytes "ds:KeyInfo"

abbrev pub permission_bytes : List ℕ
permission_bytes = bytes "o-ex:permission"

abbrev pub play_bytes : List ℕ
play_bytes = bytes "o-dd:play"

abbrev pub display_bytes : List ℕ
display_bytes = bytes "o-dd:display"

abbrev pub execute_bytes : List ℕ
execute_bytes = bytes "o-dd:execute"

abbrev pub print_bytes : List ℕ
print_bytes = bytes "o-dd:print"

abbrev pub export_bytes : List ℕ
export_bytes = bytes "oma-dd:export"

abbrev pub constraint_bytes : List ℕ
constraint_bytes = bytes "o-ex:constraint"

abbrev pub count_bytes : List ℕ
count_bytes = bytes "o-dd:count"

abbrev pub timed_count_bytes : List ℕ
timed_count_bytes = bytes "oma-dd:timed-count"

abbrev pub datetime_bytes : List ℕ
datetime_bytes = bytes "o-dd:datetime"

abbrev pub start_bytes : List ℕ
start_bytes = bytes "o-dd:start"

abbrev pub end_bytes : List ℕ
end_bytes = bytes "o-dd:end"

abbrev pub interval_bytes : List ℕ
interval_bytes = bytes "o-dd:interval"

abbrev pub accumulated_bytes : List ℕ
accumulated_bytes = bytes "o-dd:accumulated"

-- attributes
abbrev pub id_bytes : List ℕ
id_bytes = bytes "o-ex:id"

abbrev pub idref_bytes : List ℕ
idref_bytes = bytes "o-ex:idref"

abbrev pub timer_bytes : List ℕ
timer_bytes = bytes "oma-dd:timer"

-- the names of elements, in the order of their numbers, which start from 1
unfoldable pub known : List (List ℕ)
known =
    rights_bytes ∷
    context_bytes ∷
    version_bytes ∷
    uid_bytes ∷
    agreement_bytes ∷
    asset_bytes ∷
    inherit_bytes ∷
    key_info_bytes ∷
    permission_bytes ∷
    play_bytes ∷
    display_bytes ∷
    execute_bytes ∷
    print_bytes ∷
    export_bytes ∷
    constraint_bytes ∷
    count_bytes ∷
    timed_count_bytes ∷
    datetime_bytes ∷
    start_bytes ∷
    end_bytes ∷
    interval_bytes ∷
    accumulated_bytes ∷
    []

-- the position of v in a list of names whose first has number k; 0 if it is not there
unfoldable pub find : List ℕ → ℕ → List (List ℕ) → ℕ
find v k [] = 0
find v k (n ∷ l) = let r = find v (suc k) l in cond (same v n) k r

-- the number of a name; 0 for every other name
unfoldable pub name_of : List ℕ → ℕ
name_of v = find v 1 known

abbrev pub rights_name : ℕ
rights_name = 1

abbrev pub context_name : ℕ
context_name = 2

abbrev pub version_name : ℕ
version_name = 3

abbrev pub uid_name : ℕ
uid_name = 4

abbrev pub agreement_name : ℕ
agreement_name = 5

abbrev pub asset_name : ℕ
asset_name = 6

abbrev pub inherit_name : ℕ
inherit_name = 7

abbrev pub key_info_name : ℕ
key_info_name = 8

abbrev pub permission_name : ℕ
permission_name = 9

abbrev pub play_name : ℕ
play_name = 10

abbrev pub display_name : ℕ
display_name = 11

abbrev pub execute_name : ℕ
execute_name = 12

abbrev pub print_name : ℕ
print_name = 13

abbrev pub export_name : ℕ
export_name = 14

abbrev pub constraint_name : ℕ
constraint_name = 15

abbrev pub count_name : ℕ
count_name = 16

abbrev pub timed_count_name : ℕ
timed_count_name = 17

abbrev pub datetime_name : ℕ
datetime_name = 18

abbrev pub start_name : ℕ
start_name = 19

abbrev pub end_name : ℕ
end_name = 20

abbrev pub interval_name : ℕ
interval_name = 21

abbrev pub accumulated_name : ℕ
accumulated_name = 22

-- ## Roles: an element by its name and by what holds it
--
-- A context is one of the rights, of an asset or of an inherit, and its uid likewise; an asset in a permission is a reference.
-- Skipped is whatever stands in a KeyInfo.

abbrev pub rights_role : ℕ
rights_role = 1

abbrev pub rights_context_role : ℕ
rights_context_role = 2

abbrev pub asset_context_role : ℕ
asset_context_role = 3

abbrev pub inherit_context_role : ℕ
inherit_context_role = 4

abbrev pub version_role : ℕ
version_role = 5

abbrev pub object_uid_role : ℕ
object_uid_role = 6

abbrev pub asset_uid_role : ℕ
asset_uid_role = 7

abbrev pub inherit_uid_role : ℕ
inherit_uid_role = 8

abbrev pub agreement_role : ℕ
agreement_role = 9

abbrev pub asset_role : ℕ
asset_role = 10

abbrev pub inherit_role : ℕ
inherit_role = 11

abbrev pub key_info_role : ℕ
key_info_role = 12

abbrev pub skipped_role : ℕ
skipped_role = 13

abbrev pub permission_role : ℕ
permission_role = 14

abbrev pub reference_role : ℕ
reference_role = 15

abbrev pub play_role : ℕ
play_role = 16

abbrev pub display_role : ℕ
display_role = 17

abbrev pub execute_role : ℕ
execute_role = 18

abbrev pub print_role : ℕ
print_role = 19

abbrev pub export_role : ℕ
export_role = 20

abbrev pub constraint_role : ℕ
constraint_role = 21

abbrev pub count_role : ℕ
count_role = 22

abbrev pub timed_count_role : ℕ
timed_count_role = 23

abbrev pub datetime_role : ℕ
datetime_role = 24

abbrev pub start_role : ℕ
start_role = 25

abbrev pub end_role : ℕ
end_role = 26

abbrev pub interval_role : ℕ
interval_role = 27

abbrev pub accumulated_role : ℕ
accumulated_role = 28

-- "the five kinds", and the number of one in document 01
unfoldable pub is_kind : ℕ → Bool
is_kind role = between play_role export_role role

abbrev pub kinds_from : ℕ
kinds_from = 15

-- the elements that hold a text and no elements
unfoldable pub holds_text : ℕ → Bool
holds_text role =
    between version_role inherit_uid_role role
    || between count_role timed_count_role role
    || between start_role accumulated_role role

-- ## Which element may hold which
--
-- An element starts in state 0, and an accepted child leads to its next state. A row: the element's role, the lowest and the highest
-- state in which the child is accepted, the child's name, its role, the state that follows. Document 004, in lines cut to the
-- accepted elements:
--   rights: context, agreement.  context: version?, uid.  agreement: asset+, permission*.  asset: context, inherit?, KeyInfo?.
--   inherit: context.  permission: asset*, play?, display?, execute?, print?, export?.  a kind: constraint?.
--   constraint: count?, timed-count?, datetime?, interval?, accumulated?.  datetime: start?, end?.
abbrev pub rows : List ℕ
rows =
    rights_role ∷ 0 ∷ 0 ∷ context_name ∷ rights_context_role ∷ 1 ∷
    rights_role ∷ 1 ∷ 1 ∷ agreement_name ∷ agreement_role ∷ 2 ∷
    rights_context_role ∷ 0 ∷ 0 ∷ version_name ∷ version_role ∷ 1 ∷
    rights_context_role ∷ 0 ∷ 1 ∷ uid_name ∷ object_uid_role ∷ 2 ∷
    asset_context_role ∷ 0 ∷ 0 ∷ version_name ∷ version_role ∷ 1 ∷
    asset_context_role ∷ 0 ∷ 1 ∷ uid_name ∷ asset_uid_role ∷ 2 ∷
    inherit_context_role ∷ 0 ∷ 0 ∷ version_name ∷ version_role ∷ 1 ∷
    inherit_context_role ∷ 0 ∷ 1 ∷ uid_name ∷ inherit_uid_role ∷ 2 ∷
    agreement_role ∷ 0 ∷ 1 ∷ asset_name ∷ asset_role ∷ 1 ∷
    agreement_role ∷ 1 ∷ 2 ∷ permission_name ∷ permission_role ∷ 2 ∷
    asset_role ∷ 0 ∷ 0 ∷ context_name ∷ asset_context_role ∷ 1 ∷
    asset_role ∷ 1 ∷ 1 ∷ inherit_name ∷ inherit_role ∷ 2 ∷
    asset_role ∷ 1 ∷ 2 ∷ key_info_name ∷ key_info_role ∷ 3 ∷
    inherit_role ∷ 0 ∷ 0 ∷ context_name ∷ inherit_context_role ∷ 1 ∷
    permission_role ∷ 0 ∷ 0 ∷ asset_name ∷ reference_role ∷ 0 ∷
    permission_role ∷ 0 ∷ 0 ∷ play_name ∷ play_role ∷ 1 ∷
    permission_role ∷ 0 ∷ 1 ∷ display_name ∷ display_role ∷ 2 ∷
    permission_role ∷ 0 ∷ 2 ∷ execute_name ∷ execute_role ∷ 3 ∷
    permission_role ∷ 0 ∷ 3 ∷ print_name ∷ print_role ∷ 4 ∷
    permission_role ∷ 0 ∷ 4 ∷ export_name ∷ export_role ∷ 5 ∷
    play_role ∷ 0 ∷ 0 ∷ constraint_name ∷ constraint_role ∷ 1 ∷
    display_role ∷ 0 ∷ 0 ∷ constraint_name ∷ constraint_role ∷ 1 ∷
    execute_role ∷ 0 ∷ 0 ∷ constraint_name ∷ constraint_role ∷ 1 ∷
    print_role ∷ 0 ∷ 0 ∷ constraint_name ∷ constraint_role ∷ 1 ∷
    export_role ∷ 0 ∷ 0 ∷ constraint_name ∷ constraint_role ∷ 1 ∷
    constraint_role ∷ 0 ∷ 0 ∷ count_name ∷ count_role ∷ 1 ∷
    constraint_role ∷ 0 ∷ 1 ∷ timed_count_name ∷ timed_count_role ∷ 2 ∷
    constraint_role ∷ 0 ∷ 2 ∷ datetime_name ∷ datetime_role ∷ 3 ∷
    constraint_role ∷ 0 ∷ 3 ∷ interval_name ∷ interval_role ∷ 4 ∷
    constraint_role ∷ 0 ∷ 4 ∷ accumulated_name ∷ accumulated_role ∷ 5 ∷
    datetime_role ∷ 0 ∷ 0 ∷ start_name ∷ start_role ∷ 1 ∷
    datetime_role ∷ 0 ∷ 1 ∷ end_name ∷ end_role ∷ 2 ∷
    []

abbrev pub row_count : ℕ
row_count = 32

abbrev pub child_role : ℕ → ℕ
child_role k = get_or rows (6 * k + 4) 0

abbrev pub next_state : ℕ → ℕ
next_state k = get_or rows (6 * k + 5) 0

-- row k accepts a child of that name, in an element of that role and state
unfoldable pub fits : ℕ → ℕ → ℕ → ℕ → Bool
fits role state name k =
    eqb (get_or rows (6 * k) 0) role
    && leb (get_or rows (6 * k + 1) 0) state
    && leb state (get_or rows (6 * k + 2) 0)
    && eqb (get_or rows (6 * k + 3) 0) name

-- the first such row; row_count if there is none
unfoldable pub row_of : ℕ → ℕ → ℕ → ℕ
row_of role state name = first (fits role state name) row_count

-- the state that an element must have reached to close: a required child that never came is missed there
unfoldable pub closes_from : ℕ → ℕ
closes_from role =
    cond (between rights_role inherit_context_role role) 2
    (cond (between agreement_role inherit_role role) 1
    0)

-- what holds any elements and any text
unfoldable pub holds_anything : ℕ → Bool
holds_anything role = eqb role key_info_role || eqb role skipped_role
