-- What a begin for an asset reaches: the asset in the book, whether it can be used, and its parent.
use Rattle.std.specs.Prelude.{ℕ, ◌<◌, ◌≤◌, min, take, length, Option, None, Some, ◌≡◌, refl, Bool, true, false, cond, ◌&&◌, List, eqb, ltb}
use Rattle.std.proofs.Common.{sym, ap, ap₂, length-take-le, ◌∙◌, lt-ltb, le-ltb, arith}
use Rattle.numbers.specs.Count.{first}
use Rattle.std.specs.List.{find, slice_get}
use Rattle.std.proofs.lemmas.List.Folds.{find_at}
use Rattle.std.proofs.lemmas.Option.{slice_get-get_or, slice_get_past}
use Rattle.std.proofs.lemmas.List.{get_or-take}
use borrow.Author.Tests.{ltb-true, ltb-false}
use Rattle.numbers.proofs.Loops.{first_found}
use Rattle.numbers.proofs.ListLaws.{position-first, first_same}
use Rattle.numbers.proofs.Tests.{on_test}
use Rattle.book.specs.declared.Asset.{Asset}
use Rattle.book.specs.declared.Book.{Book}
use Rattle.book.specs.Blank.{no_asset}
use Rattle.model.specs.Book.{asset_at, asset_position, assets_in, is_parent}
use Rattle.model.specs.Choice.{Catalog, catalog_of, holds, asset_named, usable, parent_of}
use Rattle.choice.specs.declared.Reach.{Reach}

-- a table of assets as a catalogue with no entries: the questions about assets do not look at entries
unfoldable pub table_of : List Asset → ℕ → Catalog
table_of ats count = record { assets = ats; asset_count = min count 64; entry_count = 0 }

-- the same with all assets of a list
unfoldable pub catalog_from : List Asset → Catalog
catalog_from ats = record { assets = ats; asset_count = length ats; entry_count = 0 }

-- whether the asset is there, and the asset, blank if it is not
pub record Found : Type 0 where
  pub there : Bool
  pub asset : Asset

abbrev pub found_of : Option Asset → Found
found_of None = record { there = false; asset = no_asset }
found_of (Some a) = record { there = true; asset = a }

unfoldable pub found_in : Catalog → ℕ → Found
found_in c number = record { there = holds c number; asset = asset_named c number }

unfoldable pub reach_in : Catalog → ℕ → Reach
reach_in c number = record { usable = usable c number; parent = parent_of c number }

-- the book's own assets
pub reach-in-book : (b : Book) (number : ℕ) → reach_in (table_of b.assets b.assetcount) number ≡ reach_in (catalog_of b) number
unfolding reach_in table_of catalog_of usable parent_of asset_named holds assets_in
reach-in-book b number = refl

-- what the search tests at a position
abbrev pub numbered : List Asset → ℕ → ℕ → Bool
numbered ats number i = eqb (asset_at ats i).number number

-- the search ends at a position, or at the end of the table
pub found_at :
    (ats : List Asset) (count number n i : ℕ) →
    n ≡ min count 64 →
    i < n →
    first (numbered ats number) i ≡ i →
    numbered ats number i ≡ true →
    record { there = true; asset = asset_at ats i } ≡ found_in (table_of ats count) number
unfolding found_in table_of asset_named holds asset_position
found_at ats count number n i e h none here =
    let f = numbered ats number in
    rw (ap (first f) (sym e) ∙ first_found f i n h none here, lt-ltb i (min count 64) (omega arith))

pub found_none :
    (ats : List Asset) (count number n : ℕ) →
    n ≡ min count 64 →
    first (numbered ats number) n ≡ n →
    record { there = false; asset = no_asset } ≡ found_in (table_of ats count) number
unfolding found_in table_of asset_named holds asset_position
found_none ats count number n e none =
    rw (ap (first (numbered ats number)) (sym e) ∙ none, le-ltb n (min count 64) (omega arith))

-- an inherit if it names a parent, otherwise 0
unfoldable pub parent_in : Catalog → ℕ → ℕ
parent_in c inherit = cond (holds c inherit && is_parent (asset_named c inherit)) inherit 0

-- no inherit, whatever stands before it
pub either-zero : (w : Bool) (v : ℕ) → v ≡ 0 → 0 ≡ cond w v 0
either-zero true v h = sym h
either-zero false v h = refl

-- no inherit, no parent
pub parent-none : (c : Catalog) (number : ℕ) → (asset_named c number).inherit ≡ 0 → 0 ≡ parent_of c number
unfolding parent_of
parent-none c number h =
    either-zero (holds c (asset_named c number).inherit && is_parent (asset_named c (asset_named c number).inherit))
    (asset_named c number).inherit h

-- a search through a list finds what the catalogue of all of it names
pub found-listed : (ats : List Asset) (number : ℕ) → found_of (find (λ (a : Asset). eqb a.number number) ats) ≡ found_in (catalog_from ats) number
unfolding found_in catalog_from asset_named holds asset_position
found-listed ats number =
    let p = λ (a : Asset). eqb a.number number in
    let k = first (λ i. p (asset_at ats i)) (length ats) in
    let e = position-first p ats no_asset in
    on_test (ltb k (length ats))
    (λ q. ap found_of (find_at p ats ∙ ap (slice_get ats) e ∙ slice_get-get_or ats k no_asset (ltb-true k (length ats) q)) ∙ rw q refl)
    (λ q. ap found_of (find_at p ats ∙ ap (slice_get ats) e ∙ slice_get_past ats k (ltb-false k (length ats) q)) ∙ rw q refl)

module _ (ats : List Asset) (number : ℕ) where
  abbrev all : Catalog
  all = catalog_from ats

  abbrev search-in : Option Asset
  search-in = find (λ (a : Asset). eqb a.number number) ats

  pub named-some : (a : Asset) → Some a ≡ search-in → (holds all number ≡ true) × (asset_named all number ≡ a)
  unfolding found_in
  named-some a h =
      let e = ap found_of h ∙ found-listed ats number in
      (sym (ap (λ (f : Found). f.there) e), sym (ap (λ (f : Found). f.asset) e))

  pub named-none : None ≡ search-in → (holds all number ≡ false) × (asset_named all number ≡ no_asset)
  unfolding found_in
  named-none h =
      let e = ap found_of h ∙ found-listed ats number in
      (sym (ap (λ (f : Found). f.there) e), sym (ap (λ (f : Found). f.asset) e))

-- the used slots of a table, as a list
module _ (ats : List Asset) (count number : ℕ) (h : min count 64 ≤ length ats) where
  abbrev n : ℕ
  n = min count 64

  abbrev used : Catalog
  used = catalog_from (take n ats)

  abbrev table : Catalog
  table = table_of ats count

  size : length (take n ats) ≡ n
  size = length-take-le n ats h

  read : (i : ℕ) → i < n → asset_at (take n ats) i ≡ asset_at ats i
  read i l = get_or-take n ats i no_asset l

  position-used : (x : ℕ) → asset_position (take n ats) (length (take n ats)) x ≡ asset_position ats n x
  unfolding asset_position
  position-used x =
      ap (first (numbered (take n ats) x)) size
      ∙ first_same (numbered (take n ats) x) (numbered ats x) n (λ i l. ap (λ (a : Asset). eqb a.number x) (read i l))

  holds-used : (x : ℕ) → holds used x ≡ holds table x
  unfolding holds catalog_from table_of
  holds-used x = ap₂ ltb (position-used x) size

  named-used : (x : ℕ) → asset_named used x ≡ asset_named table x
  unfolding asset_named holds catalog_from table_of
  named-used x =
      ap₂ (λ (w : Bool) (k : ℕ). cond w (asset_at (take n ats) k) no_asset) (holds-used x) (position-used x)
      ∙ on_test (ltb (asset_position ats n x) n)
      (λ q. rw q (read (asset_position ats n x) (ltb-true (asset_position ats n x) n q)))
      (λ q. rw q refl)

  parent-used : (x : ℕ) → parent_in used x ≡ parent_in table x
  unfolding parent_in
  parent-used x = ap₂ (λ (w : Bool) (a : Asset). cond (w && is_parent a) x 0) (holds-used x) (named-used x)

  pub reach-used : reach_in used number ≡ reach_in table number
  unfolding reach_in usable parent_of parent_in
  reach-used =
      let usable-same : usable used number ≡ usable table number =
      ap₂ (λ (w : Bool) (a : Asset). w && eqb a.key 1) (holds-used number) (named-used number) in
      let parent-same : parent_of used number ≡ parent_of table number =
      ap (λ (a : Asset). parent_in used a.inherit) (named-used number) ∙ parent-used (asset_named table number).inherit in
      λ i. record { usable = usable-same i; parent = parent-same i }

-- all of a list of at most 64 as a table
pub table-of-list : (ats : List Asset) → length ats ≤ 64 → table_of ats (length ats) ≡ catalog_from ats
unfolding table_of catalog_from
table-of-list ats h =
    let e : min (length ats) 64 ≡ length ats = omega arith in
    ap (λ (k : ℕ). record { assets = ats; asset_count = k; entry_count = 0 }) e
