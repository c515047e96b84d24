-- The rows of the code are the cells of the definition's list.
use Rattle.std.specs.Prelude.{◌≡◌, ℕ, zero, suc, ◌+◌, ◌*◌, ◌<◌, List, [], ◌∷◌, length, get_or}
use Rattle.std.proofs.Math.Path.{refl, ap}
use Rattle.std.proofs.Common.{◌∙◌, arith}
use Rattle.xml_model.specs.Elements.{rows, fits, child_role, next_state}
use Rattle.xml_table.specs.declared.Row.{Row}
use Rattle.xml_table.specs.declared.TheConstants.{ROWS}
use Rattle.xml_table.specs.Codes.{role_code, name_code}
use Rattle.xml_table.specs.Rows.{row_fits}

-- the cells of a row, in front of those behind it
unfoldable line : Row → List ℕ → List ℕ
line r t = role_code r.holder ∷ r.lowest ∷ r.highest ∷ name_code r.name ∷ role_code r.child ∷ r.next ∷ t

unfoldable cells : List Row → List ℕ
cells [] = []
cells (r ∷ l) = line r (cells l)

-- cell j of row i
cell-at : (j : ℕ) (cell : Row → ℕ) → ((r : Row) (t : List ℕ) → get_or (line r t) j 0 ≡ cell r)
    → (l : List Row) (i : ℕ) (d : Row) → i < length l → get_or (cells l) (6 * i + j) 0 ≡ cell (get_or l i d)
unfolding line cells
cell-at j cell f [] i d h = absurd (omega arith)
cell-at j cell f (r ∷ l) zero d h = let e : 6 * zero + j ≡ j = omega arith in rw e (f r (cells l))
cell-at j cell f (r ∷ l) (suc i) d h =
    let e : 6 * suc i + j ≡ suc (suc (suc (suc (suc (suc (6 * i + j)))))) = omega arith in
    rw e (cell-at j cell f l i d (omega arith))

all-rows : rows ≡ cells ROWS
unfolding cells line
all-rows = refl

module _ (i : ℕ) (d : Row) (h : i < 32) where
  at : (j : ℕ) (cell : Row → ℕ) → ((r : Row) (t : List ℕ) → get_or (line r t) j 0 ≡ cell r)
      → get_or rows (6 * i + j) 0 ≡ cell (get_or ROWS i d)
  at j cell f = rw all-rows (cell-at j cell f ROWS i d h)

  pub fits-row : (role state name : ℕ) → fits role state name i ≡ row_fits (get_or ROWS i d) role state name
  unfolding fits line
  fits-row role state name =
      let z : get_or rows (6 * i) 0 ≡ role_code (get_or ROWS i d).holder =
      ap (λ (n : ℕ). get_or rows n 0) {x = 6 * i} {y = 6 * i + 0} (omega arith) ∙ at 0 (λ r. role_code r.holder) (λ r t. refl) in
      rw (
        z,
        at 1 (λ r. r.lowest) (λ r t. refl),
        at 2 (λ r. r.highest) (λ r t. refl),
        at 3 (λ r. name_code r.name) (λ r t. refl),
      )

  pub child-row : child_role i ≡ role_code (get_or ROWS i d).child
  unfolding line
  child-row = at 4 (λ r. role_code r.child) (λ r t. refl)

  pub next-row : next_state i ≡ (get_or ROWS i d).next
  unfolding line
  next-row = at 5 (λ r. r.next) (λ r t. refl)
