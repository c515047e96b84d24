-- A text for each ground of 40, 41 and 42, and what goes before what.
use Prim.Native.Nat.{ℕ, zero, suc}
use mathlib.Core.Path.{◌≡◌, refl}
use mathlib.Core.List.{List, [], ◌∷◌, ◌++◌}
use lib.ListN.{replicate}
use Rattle.book.specs.declared.Book.{Book}
use Rattle.book.specs.Blank.{no_entry, no_player, no_latest}
use Rattle.numbers.specs.Count.{listed}
use Rattle.xml_model.specs.Bytes.{bytes}
use Rattle.xml_model.specs.Tags.{unit_at}
use Rattle.xml_model.specs.Elements.{skipped_role}
use Rattle.xml_model.specs.Text.{frame, opened, progress_of, reading_of}
use Rattle.xml_model.specs.State.{blank, with_elements, with_asset, with_limits, with_book, object_alone, counted, asset_done, kind_done}
use Rattle.xml_model.proofs.Examples.Computes.{reading-run}

-- the answer to each text
unfoldable pub codes : List (List ℕ) → List ℕ
codes [] = []
codes (s ∷ l) = (reading_of s).code ∷ codes l

-- the text up to its agreement, an asset of number 1, the end
unfoldable pub front : List ℕ
front = bytes "<o-ex:rights><o-ex:context><o-dd:uid>7</o-dd:uid></o-ex:context><o-ex:agreement>"

unfoldable pub one : List ℕ
one = bytes "<o-ex:asset o-ex:id='a'><o-ex:context><o-dd:uid>cid:1</o-dd:uid></o-ex:context></o-ex:asset>"

unfoldable pub back : List ℕ
back = bytes "</o-ex:agreement></o-ex:rights>"

-- an asset of number 2 with that id
unfoldable pub two : List ℕ → List ℕ
two id = bytes "<o-ex:asset o-ex:id='" ++ id ++ bytes "'><o-ex:context><o-dd:uid>cid:2</o-dd:uid></o-ex:context></o-ex:asset>"

-- a text with this after its asset, and one with these limits of a kind
unfoldable pub after : List ℕ → List ℕ
after x = front ++ one ++ x ++ back

unfoldable pub limited : List ℕ → List ℕ → List ℕ
limited kind x =
    let end = bytes "</o-ex:constraint></" ++ kind ++ bytes "></o-ex:permission>" in
    after (bytes "<o-ex:permission><" ++ kind ++ bytes "><o-ex:constraint>" ++ x ++ end)

unfoldable pub play : List ℕ → List ℕ
play x = limited (bytes "o-dd:play") x

-- the same texts are accepted where nothing is wrong in them
pub good :
    codes
    (after []
    ∷ after (two (bytes "b"))
    ∷ after (bytes "<o-ex:permission/>")
    ∷ play []
    ∷ play (bytes "<o-dd:count>1000000</o-dd:count>")
    ∷ limited (bytes "o-dd:print") (bytes "<oma-dd:timed-count>2</oma-dd:timed-count>")
    ∷ (bytes "\t\r\n" ++ after [] ++ bytes " ")
    ∷ [])
    ≡ replicate 7 0
unfolding reading-run codes front one two back after limited play
good = refl

-- "40 not well formed": no element; text in front of rights; an end tag first; `<` and no name; a tag cut off; a space before a name; a
-- space in `/>`; no quotes; no space between attributes; `<` in a value; an attribute twice; another end tag; a control byte; an element
-- left open; text behind rights; a second element
pub not-formed :
    codes
    (bytes ""
    ∷ bytes "x"
    ∷ bytes "</o-ex:rights>"
    ∷ bytes "<"
    ∷ bytes "<o-ex:rights"
    ∷ bytes "< o-ex:rights>"
    ∷ bytes "<o-ex:rights / >"
    ∷ bytes "<o-ex:rights a=b>"
    ∷ bytes "<o-ex:rights a='1'b='2'>"
    ∷ bytes "<o-ex:rights a='<'>"
    ∷ bytes "<o-ex:rights a='1' a='2'>"
    ∷ bytes "<o-ex:rights></o-ex:right>"
    ∷ bytes "<o-ex:rights>\u{1}"
    ∷ bytes "<o-ex:rights>"
    ∷ (after [] ++ bytes "x")
    ∷ (after [] ++ bytes "<o-ex:rights/>")
    ∷ [])
    ≡ replicate 16 40
unfolding reading-run codes front one back after limited play
not-formed = refl

-- "any `<!`, `<?` or `&` (whatever follows) gets 41": in front, in a text, in a tag, in a value, in an end tag, behind rights
pub marks :
    codes
    (bytes "<?xml version='1.0'?>"
    ∷ bytes "<!DOCTYPE"
    ∷ bytes "&"
    ∷ bytes "<o-ex:rights>&lt;"
    ∷ bytes "<o-ex:rights &"
    ∷ bytes "<o-ex:rights a=&"
    ∷ bytes "<o-ex:rights a='<!"
    ∷ bytes "<o-ex:rights></o-ex:rights&"
    ∷ (after [] ++ bytes "<!-- -->")
    ∷ [])
    ≡ replicate 9 41
unfolding reading-run codes front one back after limited play
marks = refl

-- "41 element": another root; an unknown child; an agreement before the context; a context without its uid, or with two; a permission
-- before the assets; no asset; an asset without context; a KeyInfo before the context; kinds in another order; a kind twice; an element
-- in a text; text between elements; a constraint outside a kind
pub elements :
    codes
    (bytes "<rights>"
    ∷ bytes "<o-ex:rights><x>"
    ∷ bytes "<o-ex:rights><o-ex:agreement>"
    ∷ bytes "<o-ex:rights><o-ex:context></o-ex:context>"
    ∷ bytes "<o-ex:rights><o-ex:context><o-dd:uid>7</o-dd:uid><o-dd:uid>"
    ∷ (front ++ bytes "<o-ex:permission>")
    ∷ (front ++ bytes "</o-ex:agreement>")
    ∷ (front ++ bytes "<o-ex:asset/>")
    ∷ (front ++ bytes "<o-ex:asset><ds:KeyInfo>")
    ∷ after (bytes "<o-ex:permission><o-dd:display/><o-dd:play/></o-ex:permission>")
    ∷ after (bytes "<o-ex:permission><o-dd:play/><o-dd:play/></o-ex:permission>")
    ∷ bytes "<o-ex:rights><o-ex:context><o-dd:uid>7<x/>"
    ∷ bytes "<o-ex:rights>x<o-ex:context>"
    ∷ after (bytes "<o-ex:permission><o-ex:constraint/>")
    ∷ [])
    ≡ replicate 14 41
unfolding reading-run codes front one back after limited play
elements = refl

-- an element with content, and such elements in one another
unfoldable pub within : ℕ → List ℕ → List ℕ
within zero x = x
within (suc n) x = bytes "<k>" ++ within n x ++ bytes "</k>"

unfoldable pub keyed : List ℕ → List ℕ
keyed x =
    front
    ++ bytes "<o-ex:asset><o-ex:context><o-dd:uid>cid:1</o-dd:uid></o-ex:context><ds:KeyInfo>"
    ++ x
    ++ bytes "</ds:KeyInfo></o-ex:asset>"
    ++ back

-- "41 ... depth": a KeyInfo stands at depth 4, so 8 levels fit in it
pub depth : codes (keyed (within 8 []) ∷ keyed (within 9 []) ∷ []) ≡ 0 ∷ 41 ∷ []
unfolding reading-run codes front one back within keyed
depth = refl

-- "an id given twice, an idref without its id": the id of no element; of an element that is no asset; of an asset that is still open; a
-- reference without idref. A timer that is no number, or too great
pub attributes :
    codes
    (after (two (bytes "a"))
    ∷ after (bytes "<o-ex:permission><o-ex:asset o-ex:idref='b'/></o-ex:permission>")
    ∷ after (bytes "<o-ex:permission o-ex:id='p'><o-ex:asset o-ex:idref='p'/></o-ex:permission>")
    ∷ (front ++ bytes "<o-ex:asset o-ex:id='x'><o-ex:context o-ex:idref='x'>")
    ∷ after (bytes "<o-ex:permission><o-ex:asset/></o-ex:permission>")
    ∷ play (bytes "<oma-dd:timed-count oma-dd:timer='x'>1</oma-dd:timed-count>")
    ∷ play (bytes "<oma-dd:timed-count oma-dd:timer='1000001'>1</oma-dd:timed-count>")
    ∷ [])
    ≡ replicate 7 41
unfolding reading-run codes front one two back after limited play
attributes = refl

-- "41 ... value": version, uid, numbers, times and durations
pub values :
    codes
    (bytes "<o-ex:rights><o-ex:context><o-dd:version>2.1</o-dd:version>"
    ∷ bytes "<o-ex:rights><o-ex:context><o-dd:uid>cid:7</o-dd:uid>"
    ∷ bytes "<o-ex:rights><o-ex:context><o-dd:uid>65536</o-dd:uid>"
    ∷ (front ++ bytes "<o-ex:asset><o-ex:context><o-dd:uid>7</o-dd:uid>")
    ∷ (front ++ bytes "<o-ex:asset><o-ex:context><o-dd:uid>CID:7</o-dd:uid>")
    ∷ play (bytes "<o-dd:count>1000001</o-dd:count>")
    ∷ play (bytes "<o-dd:count> 1</o-dd:count>")
    ∷ play (bytes "<o-dd:count/>")
    ∷ play (bytes "<o-dd:datetime><o-dd:end>2001-02-29T00:00:00Z</o-dd:end></o-dd:datetime>")
    ∷ play (bytes "<o-dd:datetime><o-dd:end>2096-10-02T07:06:41Z</o-dd:end></o-dd:datetime>")
    ∷ play (bytes "<o-dd:interval>P1DT</o-dd:interval>")
    ∷ play (bytes "<o-dd:interval>P1H</o-dd:interval>")
    ∷ play (bytes "<oma-dd:timed-count>1000001</oma-dd:timed-count>")
    ∷ play (bytes "<o-dd:interval>PT100000001S</o-dd:interval>")
    ∷ play (bytes "<o-dd:accumulated>PT100000001S</o-dd:accumulated>")
    ∷ [])
    ≡ replicate 15 41
unfolding reading-run codes front one back after limited play
values = refl

-- "41 ... book rule": an asset number twice; start after end; accumulated, or a timer, of a momentary kind
pub rules :
    codes
    (after (bytes "<o-ex:asset><o-ex:context><o-dd:uid>pid:1</o-dd:uid></o-ex:context></o-ex:asset>")
    ∷ play (bytes "<o-dd:datetime><o-dd:start>1970-01-02T00:00:00Z</o-dd:start><o-dd:end>1970-01-01T23:59:59Z</o-dd:end></o-dd:datetime>")
    ∷ limited (bytes "o-dd:print") (bytes "<o-dd:accumulated>P1D</o-dd:accumulated>")
    ∷ limited (bytes "oma-dd:export") (bytes "<oma-dd:timed-count oma-dd:timer='1'>1</oma-dd:timed-count>")
    ∷ [])
    ≡ replicate 4 41
unfolding reading-run codes front one back after limited play
rules = refl

-- "42 over 256 elements": the 256th and the 257th
pub most : (counted (with_elements 255 blank)).code ∷ (counted (with_elements 256 blank)).code ∷ [] ≡ 0 ∷ 42 ∷ []
unfolding reading-run
most = refl

-- a book of n assets, numbered from 1, and m entries
unfoldable pub book : ℕ → ℕ → Book
book n m = record {
  time = 0;
  switch = 0;
  latest = no_latest;
  assetcount = n;
  entrycount = m;
  assets = listed (λ i. record { number = suc i; inherit = 0; key = 0 }) 64;
  entries = replicate 64 no_entry;
  players = replicate 16 no_player;
}

-- "42 over ... 64 assets or 64 entries": asset 70 as the 64th and as the 65th; a number of the book as the 65th is 41 first. A kind without
-- limits for each of two assets, as entries 63 and 64, and as 64 and 65; one of no legal kind is 41 first.
pub sixty-four :
    (asset_done (with_asset (record { number = 70; inherit = 0; key = 0 }) 256 (with_book (book 63 0) blank))).code
    ∷ (asset_done (with_asset (record { number = 70; inherit = 0; key = 0 }) 256 (with_book (book 64 0) blank))).code
    ∷ (asset_done (with_asset (record { number = 64; inherit = 0; key = 0 }) 256 (with_book (book 64 0) blank))).code
    ∷ (kind_done 1 (with_limits (object_alone 7) (with_book (book 2 62) blank))).code
    ∷ (kind_done 1 (with_limits (object_alone 7) (with_book (book 2 63) blank))).code
    ∷ (kind_done 6 (with_limits (object_alone 7) (with_book (book 2 63) blank))).code
    ∷ []
    ≡ 0 ∷ 42 ∷ 41 ∷ 0 ∷ 42 ∷ 41 ∷ []
unfolding reading-run book listed
sixty-four = refl

-- "the first tag at fault decides, in that order": in one tag 40 goes before 41; a tag before goes before a tag behind
pub order :
    codes
    (bytes "<o-ex:rights><o-ex:context><o-dd:uid>x</o-dd:version>"
    ∷ bytes "<x y='1' y='2'>"
    ∷ bytes "<o-ex:rights><o-ex:context><o-dd:uid>x</o-dd:uid></o-ex:rights>"
    ∷ [])
    ≡ 40 ∷ 40 ∷ 41 ∷ []
unfolding reading-run codes
order = refl

-- the empty-element tag `<k/>` as the 257th element, inside n others
unfoldable pub last : ℕ → ℕ
last n = (opened (bytes "<k/>") (unit_at (bytes "<k/>") 0) skipped_role (replicate n (frame 1 2 skipped_role 0)) (with_elements 256 blank)).code

-- in one tag 41 goes before 42: at depth 13 it is 41
pub deepest : last 11 ∷ last 12 ∷ [] ≡ 42 ∷ 41 ∷ []
unfolding reading-run last
deepest = refl

-- how far the text was looked at: to the end of the tag at fault; to the byte where the scan is stuck, and one further where that is `<`
pub places :
    (progress_of (bytes "<x>&&&&")).at
    ∷ (progress_of (bytes "<o-ex:rights a='1' a='2' b=&")).at
    ∷ (progress_of (bytes "<o-ex:rights><!--")).at
    ∷ (progress_of (bytes "<o-ex:rights a='&'>")).at
    ∷ (progress_of (bytes "<o-ex:rights>")).at
    ∷ []
    ≡ 3 ∷ 24 ∷ 15 ∷ 17 ∷ 14 ∷ []
unfolding reading-run
places = refl
