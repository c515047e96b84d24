-- What is known of an image that passes the reader's first stages: its version, its counts, its time and its length.
use Prim.Native.Nat.{ℕ, zero, suc, ◌≤◌}
use mathlib.Core.Path.{◌≡◌, ap}
use mathlib.Core.Bool.{Bool, false, cond, ◌||◌, not}
use mathlib.Core.List.{List, [], ◌∷◌}
use native.Mathlib.Omega.{arith}
use lib.ListN.{length}
use lib.Dec.{ltb, leb, eqb}
use borrow.Author.Tests.{ltb-false, leb-true, eqb-true, ne_eqb, not-false}
use Rattle.numbers.specs.Fields.{size, values_at}
use Rattle.numbers.proofs.Tests.{and_left, and_right, neither, row-passed, passed, both_zero}
use Rattle.book.specs.declared.Book.{Book}
use Rattle.model.specs.Book.{latest_time, between, rule_broken}
use Rattle.model.specs.Image.{header_start, start_values, newest, header_size, asset_size, entry_size, player_size, image_length}
use Rattle.model.specs.Image.{header_field, mark_in}
use Rattle.model.specs.Image.{version_in, asset_count_in, entry_count_in, time_in, book_in, header_broken, read_code, read_book}

-- ## Versions

-- what holds of each version that is read, one by one, holds of all: a further version is a further case
pub by-version : (P : ℕ → Type 0) → P 1 → P 2 → P 3 → P 4 → P 5 → (v : ℕ) → 1 ≤ v → v ≤ newest → P v
by-version P one two three four five zero h k = absurd (omega arith)
by-version P one two three four five (suc zero) h k = one
by-version P one two three four five (suc (suc zero)) h k = two
by-version P one two three four five (suc (suc (suc zero))) h k = three
by-version P one two three four five (suc (suc (suc (suc zero)))) h k = four
by-version P one two three four five (suc (suc (suc (suc (suc zero))))) h k = five
by-version P one two three four five (suc (suc (suc (suc (suc (suc v)))))) h k = absurd (omega arith)

pub known-version : (v : ℕ) → not (between 1 newest v) ≡ false → (1 ≤ v) × (v ≤ newest)
known-version v e =
    let q = not-false (between 1 newest v) e in
    (leb-true 1 v (and_left (leb 1 v) (leb v newest) q), leb-true v newest (and_right (leb 1 v) (leb v newest) q))

-- "Length 11 + 5A + 51P + 384, at most 3,979."; in version 2 at most 4,815, in version 3 at most 4,879, in version 4 at most 5,391,
-- in version 5 at most 5,399
pub longest : (v assets entries : ℕ) → 1 ≤ v → v ≤ newest → assets ≤ 64 → entries ≤ 64 → image_length v assets entries ≤ 5399
unfolding image_length header_size asset_size entry_size player_size
longest v assets entries h k a p =
    by-version (λ v. image_length v assets entries ≤ 5399) (omega arith) (omega arith) (omega arith) (omega arith) (omega arith) v h k

-- ## The first stages

pub record HeaderPassed (s : List ℕ) : Type 0 where
  pub header : values_at header_start 0 s ≡ start_values (version_in s) (asset_count_in s) (entry_count_in s) (time_in s)
  pub oldest : 1 ≤ version_in s
  pub known : version_in s ≤ newest
  pub assets : asset_count_in s ≤ 64
  pub entries : entry_count_in s ≤ 64
  pub time : time_in s ≤ latest_time
  pub whole : length s ≡ image_length (version_in s) (asset_count_in s) (entry_count_in s)

pub header-passed : (s : List ℕ) → header_broken s ≡ 0 → HeaderPassed s
unfolding header_broken mark_in version_in asset_count_in entry_count_in time_in
header-passed s e =
    let short = passed (ltb (length s) (size header_start)) 19 _ e in
    let mark = passed (not (mark_in s)) 20 _ short.1 in
    let version = passed (not (between 1 newest (version_in s))) 21 _ mark.1 in
    let large = passed (ltb 64 (asset_count_in s) || ltb 64 (entry_count_in s) || ltb latest_time (time_in s)) 22 _ version.1 in
    let wrong = passed (not (eqb (length s) (image_length (version_in s) (asset_count_in s) (entry_count_in s)))) 19 _ large.1 in
    let marks = row-passed (eqb (header_field 0 s) 82) (eqb (header_field 1 s) 66 ∷ eqb (header_field 2 s) 75 ∷ [])
    (not-false (mark_in s) mark.0) in
    let r : header_field 0 s ≡ 82 = eqb-true (header_field 0 s) 82 marks.0 in
    let b : header_field 1 s ≡ 66 = eqb-true (header_field 1 s) 66 marks.1.0 in
    let k : header_field 2 s ≡ 75 = eqb-true (header_field 2 s) 75 marks.1.1.0 in
    let v = known-version (version_in s) version.0 in
    let three = neither (ltb 64 (asset_count_in s) || ltb 64 (entry_count_in s)) (ltb latest_time (time_in s)) large.0 in
    let two = neither (ltb 64 (asset_count_in s)) (ltb 64 (entry_count_in s)) three.0 in
    record {
      header = λ i. r i ∷ b i ∷ k i ∷ version_in s ∷ asset_count_in s ∷ entry_count_in s ∷ time_in s ∷ [];
      oldest = v.0;
      known = v.1;
      assets = ltb-false 64 (asset_count_in s) two.0;
      entries = ltb-false 64 (entry_count_in s) two.1;
      time = ltb-false latest_time (time_in s) three.1;
      whole = eqb-true (length s) (image_length (version_in s) (asset_count_in s) (entry_count_in s)) (not-false _ wrong.0);
    }

-- an accepted image has passed the stages of its header and those of its book
pub accepted-stages : (s : List ℕ) → read_code s ≡ 0 → (header_broken s ≡ 0) × (rule_broken (book_in s) ≡ 0)
unfolding read_code
accepted-stages s e = both_zero (header_broken s) (rule_broken (book_in s)) e

pub accepted-book : (held : Book) (s : List ℕ) → read_code s ≡ 0 → read_book held s ≡ book_in s
unfolding read_book
accepted-book held s e = ap (λ (c : ℕ). cond (eqb c 0) (book_in s) held) e

-- "20 to 27 | image refused | the book held before, unchanged"
pub refused-book : (held : Book) (s : List ℕ) → (read_code s ≡ 0 → ⊥) → read_book held s ≡ held
unfolding read_book
refused-book held s h = ap (λ (t : Bool). cond t (book_in s) held) (ne_eqb (read_code s) 0 h)
