-- Accepted texts and their books.
use Prim.Native.Nat.{ℕ}
use mathlib.Core.Path.{◌≡◌, refl}
use mathlib.Core.List.{List, [], ◌∷◌, ◌++◌}
use lib.ListN.{take}
use Rattle.book.specs.declared.Asset.{Asset}
use Rattle.book.specs.declared.Entry.{Entry}
use Rattle.xml_model.specs.Bytes.{bytes}
use Rattle.xml_model.specs.Text.{Reading, reading_of}
use Rattle.xml_model.proofs.Examples.Computes.{reading-run}

unfoldable pub assets : List Asset → List (List ℕ)
assets [] = []
assets (a ∷ l) = (a.number ∷ a.inherit ∷ a.key ∷ []) ∷ assets l

unfoldable pub entries : List Entry → List (List ℕ)
entries [] = []
entries (e ∷ l) =
    (e.limits.object
    ∷ e.limits.asset
    ∷ e.limits.kind
    ∷ e.limits.flags
    ∷ e.limits.count
    ∷ e.limits.timed
    ∷ e.limits.timer
    ∷ e.limits.start
    ∷ e.limits.end
    ∷ e.limits.interval
    ∷ e.limits.accumulated
    ∷ [])
    ∷ entries l

-- what a reading holds, as numbers: code and elements; each asset's number, inherit and key; each entry's limits
unfoldable pub told : Reading → List (List ℕ)
told r =
    (r.code ∷ r.elements ∷ [])
    ∷ (assets (take r.book.assetcount r.book.assets) ++ entries (take r.book.entrycount r.book.entries))

-- rights object 7: a film that may be shown five times
unfoldable pub film : List ℕ
film =
    bytes "<o-ex:rights><o-ex:context><o-dd:version>2.2</o-dd:version><o-dd:uid>7</o-dd:uid></o-ex:context><o-ex:agreement>"
    ++ bytes "<o-ex:asset><o-ex:context><o-dd:uid>cid:1</o-dd:uid></o-ex:context><ds:KeyInfo/></o-ex:asset>"
    ++ bytes "<o-ex:permission><o-dd:play><o-ex:constraint><o-dd:count>5</o-dd:count></o-ex:constraint></o-dd:play>"
    ++ bytes "</o-ex:permission></o-ex:agreement></o-ex:rights>"

pub film-told :
    told (reading_of film) ≡ (0 ∷ 13 ∷ []) ∷ (1 ∷ 0 ∷ 1 ∷ []) ∷ (7 ∷ 1 ∷ 1 ∷ 1 ∷ 5 ∷ 0 ∷ 0 ∷ 0 ∷ 0 ∷ 0 ∷ 0 ∷ []) ∷ []
unfolding reading-run film told assets entries
film-told = refl

-- A season subscription: asset 9 is its parent, film 1 inherits from it. Ids, references by idref, a timer, white space, a version left
-- out, numbers with zeros in front, a date, durations. Play has one entry for each of two references, display one for each too.
unfoldable pub season : List ℕ
season =
    bytes " <o-ex:rights o-ex:id='r'>\n <o-ex:context><o-dd:uid>0012</o-dd:uid></o-ex:context>\n <o-ex:agreement>"
    ++ bytes "<o-ex:asset o-ex:id=\"s\"><o-ex:context><o-dd:uid>pid:9</o-dd:uid></o-ex:context></o-ex:asset>"
    ++ bytes "<o-ex:asset o-ex:id=\"f\"><o-ex:context><o-dd:uid>cid:1</o-dd:uid></o-ex:context><o-ex:inherit><o-ex:context>"
    ++ bytes "<o-dd:uid>pid:9</o-dd:uid></o-ex:context></o-ex:inherit><ds:KeyInfo><x y='1'>any</x>text</ds:KeyInfo></o-ex:asset>"
    ++ bytes "<o-ex:permission><o-ex:asset o-ex:idref='f'/><o-ex:asset o-ex:idref='s'/><o-dd:play><o-ex:constraint>"
    ++ bytes "<oma-dd:timed-count oma-dd:timer=\"30\">3</oma-dd:timed-count><o-dd:datetime><o-dd:start>2000-02-29T00:00:01Z"
    ++ bytes "</o-dd:start></o-dd:datetime><o-dd:interval>P1DT1M</o-dd:interval></o-ex:constraint></o-dd:play>"
    ++ bytes "<o-dd:display><o-ex:constraint><o-dd:accumulated>PT2H</o-dd:accumulated></o-ex:constraint></o-dd:display>"
    ++ bytes "</o-ex:permission></o-ex:agreement></o-ex:rights>\n"

pub season-told :
    told (reading_of season)
    ≡ (0 ∷ 27 ∷ [])
    ∷ (9 ∷ 0 ∷ 0 ∷ [])
    ∷ (1 ∷ 9 ∷ 1 ∷ [])
    ∷ (12 ∷ 1 ∷ 1 ∷ 22 ∷ 0 ∷ 3 ∷ 30 ∷ 951782401 ∷ 0 ∷ 86460 ∷ 0 ∷ [])
    ∷ (12 ∷ 9 ∷ 1 ∷ 22 ∷ 0 ∷ 3 ∷ 30 ∷ 951782401 ∷ 0 ∷ 86460 ∷ 0 ∷ [])
    ∷ (12 ∷ 1 ∷ 2 ∷ 32 ∷ 0 ∷ 0 ∷ 0 ∷ 0 ∷ 0 ∷ 0 ∷ 7200 ∷ [])
    ∷ (12 ∷ 9 ∷ 2 ∷ 32 ∷ 0 ∷ 0 ∷ 0 ∷ 0 ∷ 0 ∷ 0 ∷ 7200 ∷ [])
    ∷ []
unfolding reading-run season told assets entries
season-told = refl

-- A promotional object, order 2 of document 02: each of the four limits as 0 by itself, then all of them in one entry.
unfoldable pub promotional : List ℕ
promotional =
    bytes "<o-ex:rights><o-ex:context><o-dd:uid>5</o-dd:uid></o-ex:context><o-ex:agreement>"
    ++ bytes "<o-ex:asset><o-ex:context><o-dd:uid>cid:1</o-dd:uid></o-ex:context><ds:KeyInfo/></o-ex:asset><o-ex:permission>"
    ++ bytes "<o-dd:play><o-ex:constraint><o-dd:count>0</o-dd:count></o-ex:constraint></o-dd:play>"
    ++ bytes "<o-dd:display><o-ex:constraint><oma-dd:timed-count oma-dd:timer='9'>000</oma-dd:timed-count></o-ex:constraint></o-dd:display>"
    ++ bytes "<o-dd:execute><o-ex:constraint><o-dd:interval>PT0S</o-dd:interval></o-ex:constraint></o-dd:execute>"
    ++ bytes "</o-ex:permission><o-ex:permission>"
    ++ bytes "<o-dd:play><o-ex:constraint><o-dd:accumulated>P0D</o-dd:accumulated></o-ex:constraint></o-dd:play>"
    ++ bytes "<o-dd:display><o-ex:constraint><o-dd:count>0</o-dd:count><oma-dd:timed-count>0</oma-dd:timed-count>"
    ++ bytes "<o-dd:interval>P0DT0H0M0S</o-dd:interval><o-dd:accumulated>PT0M</o-dd:accumulated></o-ex:constraint></o-dd:display>"
    ++ bytes "</o-ex:permission></o-ex:agreement></o-ex:rights>"

pub promotional-told :
    told (reading_of promotional)
    ≡ (0 ∷ 28 ∷ [])
    ∷ (1 ∷ 0 ∷ 1 ∷ [])
    ∷ (5 ∷ 1 ∷ 1 ∷ 1 ∷ 0 ∷ 0 ∷ 0 ∷ 0 ∷ 0 ∷ 0 ∷ 0 ∷ [])
    ∷ (5 ∷ 1 ∷ 2 ∷ 2 ∷ 0 ∷ 0 ∷ 9 ∷ 0 ∷ 0 ∷ 0 ∷ 0 ∷ [])
    ∷ (5 ∷ 1 ∷ 3 ∷ 16 ∷ 0 ∷ 0 ∷ 0 ∷ 0 ∷ 0 ∷ 0 ∷ 0 ∷ [])
    ∷ (5 ∷ 1 ∷ 1 ∷ 32 ∷ 0 ∷ 0 ∷ 0 ∷ 0 ∷ 0 ∷ 0 ∷ 0 ∷ [])
    ∷ (5 ∷ 1 ∷ 2 ∷ 51 ∷ 0 ∷ 0 ∷ 0 ∷ 0 ∷ 0 ∷ 0 ∷ 0 ∷ [])
    ∷ []
unfolding reading-run promotional told assets entries
promotional-told = refl
