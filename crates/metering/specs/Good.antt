-- When a list of lines, by value in 64 places, is good: the same as for the list.
use Rattle.std.specs.Prelude.{ℕ, zero, suc, ◌<◌, ◌≤◌, min, ◌≡◌, refl, Bool, not, ◌&&◌, ◌||◌, List, [], ◌∷◌, length, get_or, set, replicate, take}
use Rattle.std.proofs.lemmas.List.{get_or-take}
use Rattle.std.proofs.Common.{length-take-le, not-suc-le-zero, le_of_suc-le-suc, arith, sym, ◌∙◌, get_or-set_same, get_or-set_other}
use Rattle.std.proofs.Math.Path.{ap}
use Rattle.std.proofs.Math.Bool.{true}
use Rattle.std.proofs.Math.ListN.{get_or-eq_default}
use Rattle.std.proofs.Math.Dec.{ltb, leb, eqb}
use borrow.Author.Tests.{eqb-true, eq-eqb, ltb-true, lt-ltb, leb-true, le-leb}
use Rattle.numbers.specs.Count.{all, one}
use Rattle.numbers.proofs.TableLaws.{below_or_not, all_same}
use Rattle.numbers.proofs.Tests.{on_test, on_same, clash, and_left, and_right, and_both, implied, implied-at, row-passed, all-below}
use Rattle.book.specs.declared.Asset.{Asset}
use Rattle.book.specs.declared.Limits.{Limits}
use Rattle.book.specs.declared.Line.{Line}
use Rattle.book.specs.declared.Book.{Book}
use Rattle.book.specs.Blank.{no_asset, no_line}
use Rattle.model.specs.Book.{asset_at, assets_in}
use Rattle.model.specs.Report.{line_at, line_bound, good, sum64, raised}
use Rattle.model.specs.Demand1.{GoodList}
use Rattle.model.proofs.Demand3.Lines.{good-list, list-good}
use Rattle.model.proofs.Legal.Facts.{all_of}
use Rattle.report.specs.Report.{copied, taken_lines}

-- a line, under an asset's name if one belongs there
abbrev pub fine : Bool → ℕ → Line → Bool
fine named number l =
    (not named || eqb l.content number) && ltb l.content line_bound && ltb l.times line_bound && ltb l.seconds line_bound

abbrev pub fine_at : List Asset → ℕ → List Line → ℕ → Bool
fine_at ats n lines k = fine (ltb k n) (asset_at ats k).number (line_at lines k)

unfoldable pub good_lines : List Asset → ℕ → List Line → ℕ → Bool
good_lines ats assetcount lines count =
    (leb (min assetcount 64) count && leb count 64) && all (fine_at ats (min assetcount 64) lines) 64

-- ## A line by value is the list's

blank-line : (m k : ℕ) → get_or (replicate m no_line) k no_line ≡ no_line
blank-line zero k = refl
blank-line (suc m) zero = refl
blank-line (suc m) (suc k) = blank-line m k

copied-line : (n m k : ℕ) (ls : List Line) → n ≡ min (length ls) m → k < m
    → get_or (copied n ls (replicate m no_line)) k no_line ≡ get_or ls k no_line
unfolding copied
copied-line n zero k ls e l = absurd (not-suc-le-zero l)
copied-line zero (suc m) k [] e l = blank-line (suc m) k
copied-line (suc n) (suc m) k [] e l = blank-line (suc m) k
copied-line zero (suc m) k (x ∷ xs) e l = absurd (omega (arith, e))
copied-line (suc n) (suc m) zero (x ∷ xs) e l = refl
copied-line (suc n) (suc m) (suc k) (x ∷ xs) e l = copied-line n m k xs (omega (arith, e)) (le_of_suc-le-suc l)

pub taken-line : (k : ℕ) (ls : List Line) → k < 64 → line_at (taken_lines ls) k ≡ line_at ls k
unfolding taken_lines
taken-line k ls l = copied-line (min (length ls) 64) 64 k ls refl l

-- ## Good by value is good

module _ (b : Book) (ls : List Line) where
  abbrev by_value : Bool
  by_value = good_lines b.assets b.assetcount (taken_lines ls) (length ls)

  -- what each line by value says
  fine-tests : by_value ≡ true → (k : ℕ) → k < 64 → fine (ltb k (assets_in b)) (asset_at b.assets k).number (line_at ls k) ≡ true
  unfolding good_lines assets_in
  fine-tests h k l =
      ap (fine (ltb k (min b.assetcount 64)) (asset_at b.assets k).number) (sym (taken-line k ls l))
      ∙ all-below (fine_at b.assets (min b.assetcount 64) (taken_lines ls)) 64
      (and_right (leb (min b.assetcount 64) (length ls) && leb (length ls) 64) _ h) k l

  most-64 : by_value ≡ true → length ls ≤ 64
  unfolding good_lines
  most-64 h = leb-true _ _ (and_right (leb (min b.assetcount 64) (length ls)) _
      (and_left (leb (min b.assetcount 64) (length ls) && leb (length ls) 64) _ h))

  past-line : by_value ≡ true → (k : ℕ) → 64 ≤ k → line_at ls k ≡ no_line
  past-line h k l = get_or-eq_default ls no_line (omega (arith, most-64 h))

  -- the four tests of a line
  line-tests : (named : Bool) (number : ℕ) (l : Line) → fine named number l ≡ true
      → ((not named || eqb l.content number) ≡ true) × (l.content < line_bound) × (l.times < line_bound) × (l.seconds < line_bound)
  line-tests named number l e =
      let h = row-passed (not named || eqb l.content number)
      (ltb l.content line_bound ∷ ltb l.times line_bound ∷ ltb l.seconds line_bound ∷ []) e in
      (h.0, ltb-true _ _ h.1.0, ltb-true _ _ h.1.1.0, ltb-true _ _ h.1.1.1.0)

  tests-at : by_value ≡ true → (k : ℕ) → k < 64
      → ((not (ltb k (assets_in b)) || eqb (line_at ls k).content (asset_at b.assets k).number) ≡ true)
      × ((line_at ls k).content < line_bound) × ((line_at ls k).times < line_bound) × ((line_at ls k).seconds < line_bound)
  tests-at h k l = line-tests (ltb k (assets_in b)) (asset_at b.assets k).number (line_at ls k) (fine-tests h k l)

  from-value : by_value ≡ true → GoodList b ls
  unfolding good_lines assets_in
  from-value h = record {
    enough = leb-true _ _ (and_left (leb (min b.assetcount 64) (length ls)) _
        (and_left (leb (min b.assetcount 64) (length ls) && leb (length ls) 64) _ h));
    most = most-64 h;
    names = λ k q. eqb-true _ _ (implied-at (ltb k (min b.assetcount 64)) _ (tests-at h k (omega arith)).0 (lt-ltb k _ q));
    contents = λ k. below_or_not k 64 (λ q. (tests-at h k q).1) (λ q. rw (past-line h k q) (omega arith));
    times = λ k. below_or_not k 64 (λ q. (tests-at h k q).2) (λ q. rw (past-line h k q) (omega arith));
    seconds = λ k. below_or_not k 64 (λ q. (tests-at h k q).3) (λ q. rw (past-line h k q) (omega arith));
  }

  to-value : GoodList b ls → by_value ≡ true
  unfolding good_lines assets_in
  to-value g =
      and_both
      (and_both (le-leb _ _ g.enough) (le-leb _ _ g.most))
      (all_of (fine_at b.assets (min b.assetcount 64) (taken_lines ls)) 64 (λ k q.
      ap (fine (ltb k (min b.assetcount 64)) (asset_at b.assets k).number) (taken-line k ls q)
      ∙ and_both (and_both (and_both
      (implied (ltb k (min b.assetcount 64)) _ (λ w. eq-eqb _ _ (g.names k (ltb-true k _ w))))
      (lt-ltb _ _ (g.contents k)))
      (lt-ltb _ _ (g.times k)))
      (lt-ltb _ _ (g.seconds k))))

  pub good-taken : by_value ≡ good b ls
  good-taken =
      on_test by_value
      (λ q. q ∙ sym (list-good b ls (from-value q)))
      (λ q. on_test (good b ls) (λ r. clash (to-value (good-list b ls r)) q) (λ r. q ∙ sym r))

-- the used slots of a table, as a list
pub good-used : (ats : List Asset) (assetcount : ℕ) (lines : List Line) (count : ℕ) → min assetcount 64 ≤ length ats →
    good_lines (take (min assetcount 64) ats) (length (take (min assetcount 64) ats)) lines count ≡ good_lines ats assetcount lines count
unfolding good_lines
good-used ats assetcount lines count h =
    let n = min assetcount 64 in
    let size : min (length (take n ats)) 64 ≡ n = omega (arith, length-take-le n ats h) in
    rw size (ap (λ (w : Bool). (leb n count && leb count 64) && w)
    (all_same (fine_at (take n ats) n lines) (fine_at ats n lines) 64
    (λ k q. on_test (ltb k n)
    (λ r. ap (λ (a : Asset). fine (ltb k n) a.number (line_at lines k)) (get_or-take n ats k no_asset (ltb-true k n r)))
    (λ r. rw r refl))))

-- ## A line raised

-- the test of a raised line's own numbers
abbrev pub good_after : Bool → Line → Bool
good_after w y = w && (ltb y.times line_bound && ltb y.seconds line_bound)

sum_more : (a c : ℕ) → sum64 a c < line_bound → a < line_bound
unfolding sum64
sum_more a c h = omega (arith, h)

-- a list stays good exactly if the raised line is within the bound
module _ (ats : List Asset) (assetcount : ℕ) (lines : List Line) (count k : ℕ) (l : Limits) (s : ℕ) (h : k < length lines) where
  abbrev y : Line
  y = raised l s (line_at lines k)

  abbrev n : ℕ
  n = min assetcount 64

  abbrev after : List Line
  after = set lines k y

  -- a line that is fine after it was fine before, and the other way with the test
  line_before : (named : Bool) (number : ℕ) (x : Line) → fine named number (raised l s x) ≡ true → fine named number x ≡ true
  unfolding raised
  line_before named number x e =
      let t = row-passed (not named || eqb x.content number) (ltb x.content line_bound ∷ ltb (sum64 x.times
      (one (leb l.timedvalue s))) line_bound ∷ ltb (sum64 x.seconds s) line_bound ∷ []) e in
      and_both (and_both (and_both t.0 t.1.0)
      (lt-ltb _ _ (sum_more x.times _ (ltb-true _ _ t.1.1.0))))
      (lt-ltb _ _ (sum_more x.seconds _ (ltb-true _ _ t.1.1.1.0)))

  line_after : (named : Bool) (number : ℕ) (x : Line) → fine named number x ≡ true
      → (ltb (raised l s x).times line_bound && ltb (raised l s x).seconds line_bound) ≡ true → fine named number (raised l s x) ≡ true
  unfolding raised
  line_after named number x e q =
      let t = row-passed (not named || eqb x.content number)
      (ltb x.content line_bound ∷ ltb x.times line_bound ∷ ltb x.seconds line_bound ∷ []) e in
      and_both (and_both (and_both t.0 t.1.0) (and_left _ _ q)) (and_right (ltb (sum64 x.times (one (leb l.timedvalue s)))
      line_bound) _ q)

  at-line : line_at after k ≡ y
  at-line = get_or-set_same lines k y no_line h

  at_other : (j : ℕ) → (j ≡ k → ⊥) → line_at after j ≡ line_at lines j
  at_other j e = get_or-set_other lines k j y no_line e

  down : good_lines ats assetcount after count ≡ true → k < 64 → good_after (good_lines ats assetcount lines count) y ≡ true
  unfolding good_lines
  down e small =
      let fine-there : (j : ℕ) → j < 64 → fine_at ats n after j ≡ true = all-below (fine_at ats n after) 64 (and_right
      (leb n count && leb count 64) _ e) in
      let here : fine (ltb k n) (asset_at ats k).number y ≡ true = ap (fine (ltb k n) (asset_at ats k).number) (sym at-line) ∙ fine-there
      k small in
      let t = row-passed (not (ltb k n) || eqb y.content (asset_at ats k).number)
      (ltb y.content line_bound ∷ ltb y.times line_bound ∷ ltb y.seconds line_bound ∷ []) here in
      and_both
      (and_both (and_left (leb n count && leb count 64) _ e)
      (all_of (fine_at ats n lines) 64 (λ j q. on_same j k
      (λ w. rw w (line_before (ltb k n) (asset_at ats k).number (line_at lines k) here))
      (λ w. ap (fine (ltb j n) (asset_at ats j).number) (sym (at_other j w)) ∙ fine-there j q))))
      (and_both t.1.1.0 t.1.1.1.0)

  up : good_after (good_lines ats assetcount lines count) y ≡ true → good_lines ats assetcount after count ≡ true
  unfolding good_lines
  up e =
      let g = and_left (good_lines ats assetcount lines count) _ e in
      let fine-there : (j : ℕ) → j < 64 → fine_at ats n lines j ≡ true = all-below (fine_at ats n lines) 64 (and_right
      (leb n count && leb count 64) _ g) in
      and_both (and_left (leb n count && leb count 64) _ g)
      (all_of (fine_at ats n after) 64 (λ j q. on_same j k
      (λ w. rw w (ap (fine (ltb k n) (asset_at ats k).number) at-line ∙ line_after (ltb k n) (asset_at ats k).number (line_at lines k)
      (rw w at (fine-there j q)) (and_right (good_lines ats assetcount lines count) _ e)))
      (λ w. ap (fine (ltb j n) (asset_at ats j).number) (at_other j w) ∙ fine-there j q)))

  pub good-raised : k < 64 → good_after (good_lines ats assetcount lines count) y ≡ good_lines ats assetcount after count
  good-raised small =
      on_test (good_lines ats assetcount after count)
      (λ q. down q small ∙ sym q)
      (λ q. on_test (good_after (good_lines ats assetcount lines count) y) (λ r. clash (up r) q) (λ r. r ∙ sym q))
