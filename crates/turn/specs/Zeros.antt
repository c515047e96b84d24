-- The list that a run begins with, by value: a line of zeros for each asset, and blank ones after the last.
use Rattle.std.specs.Prelude.{ℕ, zero, suc, ◌-◌, ◌≤◌, min, ◌≡◌, List, [], ◌∷◌, ◌++◌, length, replicate}
use Rattle.std.proofs.Common.{sym, ap, ◌∙◌, arith}
use Rattle.numbers.specs.Count.{listed}
use Rattle.numbers.proofs.TableLaws.{length-listed}
use Rattle.book.specs.declared.Asset.{Asset}
use Rattle.book.specs.declared.Line.{Line}
use Rattle.book.specs.declared.Book.{Book}
use Rattle.book.specs.Blank.{no_line}
use Rattle.model.specs.Book.{asset_at, assets_in}
use Rattle.model.specs.Run.{zero_lines}
use Rattle.report.specs.Report.{copied, taken_lines}

abbrev pub zero_line : List Asset → ℕ → Line
zero_line assets k = record { content = (asset_at assets k).number; times = 0; seconds = 0 }

-- after n lines
abbrev pub zeros_to : List Asset → ℕ → List Line
zeros_to assets n = listed (zero_line assets) n ++ replicate (64 - n) no_line

-- as many as the book has assets
pub zeros-length : (b : Book) → length (zero_lines b) ≡ assets_in b
unfolding zero_lines
zeros-length b = length-listed (zero_line b.assets) (assets_in b)

copied_all : (m : ℕ) (ls : List Line) → length ls ≤ m → copied (length ls) ls (replicate m no_line) ≡ ls ++ replicate (m - length ls) no_line
unfolding copied
copied_all m [] h = let e : m ≡ m - 0 = omega arith in ap (λ (k : ℕ). replicate k no_line) e
copied_all zero (x ∷ ls) h = absurd (omega (arith, h))
copied_all (suc m) (x ∷ ls) h =
    let e : suc m - suc (length ls) ≡ m - length ls = omega arith in
    ap (λ (r : List Line). x ∷ r) (copied_all m ls (omega (arith, h)) ∙ ap (λ (k : ℕ). ls ++ replicate k no_line) (sym e))

few-assets : (b : Book) → assets_in b ≤ 64
unfolding assets_in
few-assets b = omega arith

pub zeros-taken : (b : Book) → zeros_to b.assets (assets_in b) ≡ taken_lines (zero_lines b)
unfolding taken_lines zero_lines
zeros-taken b =
    let n : length (zero_lines b) ≡ assets_in b = zeros-length b in
    let f : assets_in b ≤ 64 = few-assets b in
    let m : min (length (zero_lines b)) 64 ≡ length (zero_lines b) = omega (arith, n, f) in
    sym (ap (λ (k : ℕ). copied k (zero_lines b) (replicate 64 no_line)) m
    ∙ copied_all 64 (zero_lines b) (omega (arith, n, f))
    ∙ ap (λ (k : ℕ). zero_lines b ++ replicate (64 - k) no_line) n)
