-- A file longer than the longest image is refused with the same number from its first 5,400 bytes as from all of them, so no more need
-- be read.
use Rattle.std.specs.Prelude.{ℕ, ◌+◌, ◌*◌, ◌≤◌, ◌≡◌, refl, Bool, true, ◌&&◌, ◌||◌, not, List, [], ◌∷◌, length, take, get_or, ltb}
use Rattle.std.proofs.Common.{sym, ap₂, ◌∙◌, arith, take_all, get_or-take, length-take-le}
use Rattle.std.proofs.Math.Path.{ap}
use Rattle.std.proofs.Math.Bool.{false, cond}
use Rattle.std.proofs.Math.Dec.{eqb}
use borrow.Author.Tests.{ltb-false, le-ltb, ne_eqb}
use Rattle.numbers.specs.Fields.{Width, bits8, bits16, bits32, bits64, bytes, size, four_at, number_at, values_at}
use Rattle.numbers.proofs.TableLaws.{below_or_not}
use Rattle.numbers.proofs.Tests.{neither, cond-off, passed}
use Rattle.book.specs.declared.Book.{Book}
use Rattle.model.specs.Book.{latest_time, between, rule_broken}
use Rattle.model.specs.Image.{header_start, newest, image_length, mark_in, version_in, asset_count_in, entry_count_in, time_in, book_in, header_broken}
use Rattle.model.specs.Image.{read_code, read_book}
use Rattle.model.proofs.Image.Header.{known-version, longest, refused-book}

-- ## The numbers of a header are in the first bytes

module _ (m : ℕ) (s : List ℕ) where
  four-cut : (o : ℕ) → o + 4 ≤ m → four_at o (take m s) ≡ four_at o s
  four-cut o h =
      rw (
        get_or-take m s o 0 (omega arith),
        get_or-take m s (o + 1) 0 (omega arith),
        get_or-take m s (o + 2) 0 (omega arith),
        get_or-take m s (o + 3) 0 (omega arith),
      )

  number_cut : (w : Width) (o : ℕ) → o + bytes w ≤ m → number_at w o (take m s) ≡ number_at w o s
  number_cut bits8 o h = get_or-take m s o 0 (omega arith)
  number_cut bits16 o h = rw (get_or-take m s o 0 (omega arith), get_or-take m s (o + 1) 0 (omega arith))
  number_cut bits32 o h = four-cut o (omega arith)
  number_cut bits64 o h =
      ap₂ (λ (upper lower : ℕ). upper * 4294967296 + lower) (four-cut o (omega arith)) (four-cut (o + 4) (omega arith))

  values-cut : (ws : List Width) (o : ℕ) → o + size ws ≤ m → values_at ws o (take m s) ≡ values_at ws o s
  values-cut [] o h = refl
  values-cut (w ∷ ws) o h = ap₂ (λ (v : ℕ) (vs : List ℕ). v ∷ vs) (number_cut w o (omega arith)) (values-cut ws (o + bytes w) (omega arith))

-- ## The stages of a header, by its numbers, if there are more bytes than the longest image has

long_stages : List ℕ → ℕ
long_stages vs =
    cond (not (eqb (get_or vs 0 0) 82 && eqb (get_or vs 1 0) 66 && eqb (get_or vs 2 0) 75)) 21
    (cond (not (between 1 newest (get_or vs 3 0))) 22
    (cond (ltb 64 (get_or vs 4 0) || ltb 64 (get_or vs 5 0) || ltb latest_time (get_or vs 6 0)) 23 20))

never-passed : (vs : List ℕ) → long_stages vs ≡ 0 → ⊥
unfolding long_stages
never-passed vs e =
    let mark = passed (not (eqb (get_or vs 0 0) 82 && eqb (get_or vs 1 0) 66 && eqb (get_or vs 2 0) 75)) 20 _ e in
    let version = passed (not (between 1 newest (get_or vs 3 0))) 21 _ mark.1 in
    let large = passed (ltb 64 (get_or vs 4 0) || ltb 64 (get_or vs 5 0) || ltb latest_time (get_or vs 6 0)) 22 20 version.1 in
    let z : ◌≡◌ {A = ℕ} 20 0 = large.1 in
    omega arith

unless : (t : Bool) (c x y : ℕ) → (t ≡ false → x ≡ y) → cond t c x ≡ cond t c y
unless true c x y f = refl
unless false c x y f = f refl

-- at most 3,979 bytes in version 1, 4,815 in version 2, 4,879 in version 3, 5,391 in version 4 and 5,399 in version 5
wrong-length : (n v a p : ℕ) (late : Bool) → 1 ≤ v → v ≤ newest → 5400 ≤ n
    → cond {A = ℕ} (ltb 64 a || ltb 64 p || late) 23 (cond (not (eqb n (image_length v a p))) 20 0) ≡ cond (ltb 64 a || ltb 64 p || late)
    23 20
wrong-length n v a p late oldest known h =
    unless (ltb 64 a || ltb 64 p || late) 23 _ _ (λ q.
    let two = neither (ltb 64 a) (ltb 64 p) (neither (ltb 64 a || ltb 64 p) late q).0 in
    let la : a ≤ 64 = ltb-false 64 a two.0 in
    let lp : p ≤ 64 = ltb-false 64 p two.1 in
    ap (λ (t : Bool). cond {A = ℕ} (not t) 20 0) (ne_eqb n (image_length v a p)
    (λ e. let m = longest v a p oldest known la lp in omega (arith, e, m))))

module _ (s : List ℕ) (long : 5400 ≤ length s) where
  long-header : header_broken s ≡ long_stages (values_at header_start 0 s)
  unfolding header_broken mark_in version_in asset_count_in entry_count_in time_in long_stages
  long-header =
      cond-off (ltb (length s) (size header_start)) _ _ (le-ltb (length s) (size header_start) (omega arith))
      ∙ ap
      (λ (x : ℕ). cond (not (mark_in s)) 21 x)
      (unless (not (between 1 newest (version_in s))) 22 _ _ (λ q.
      let k = known-version (version_in s) q in
      wrong-length (length s) (version_in s) (asset_count_in s) (entry_count_in s) (ltb latest_time (time_in s)) k.0 k.1 long))

  long-code : read_code s ≡ long_stages (values_at header_start 0 s)
  unfolding read_code
  long-code =
      let broken : eqb (header_broken s) 0 ≡ false = ne_eqb (header_broken s) 0 (λ e. never-passed _ (sym long-header ∙ e)) in
      cond-off (eqb (header_broken s) 0) (rule_broken (book_in s)) (header_broken s) broken ∙ long-header

  long-book : (held : Book) → read_book held s ≡ held
  long-book held = refused-book held s (λ e. never-passed _ (sym long-code ∙ e))

-- ## The answer to a file is the answer to its first bytes, one more than the longest image has

module _ (m : ℕ) (enough : 5400 ≤ m) (s : List ℕ) where
  pub cut-code : read_code (take m s) ≡ read_code s
  cut-code =
      below_or_not m (length s)
      (λ h.
      let l : 5400 ≤ length (take m s) = rw (length-take-le m s (omega arith)) enough in
      long-code (take m s) l ∙ ap long_stages (values-cut m s header_start 0 (omega arith)) ∙ sym (long-code s (omega arith)))
      (λ h. ap read_code (take_all m s h))

  pub cut-book : (held : Book) → read_book held (take m s) ≡ read_book held s
  cut-book held =
      below_or_not m (length s)
      (λ h.
      let l : 5400 ≤ length (take m s) = rw (length-take-le m s (omega arith)) enough in
      long-book (take m s) l held ∙ sym (long-book s (omega arith) held))
      (λ h. ap (read_book held) (take_all m s h))
