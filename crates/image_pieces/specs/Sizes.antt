-- Where the tables of an image begin, by its version.
use Rattle.std.specs.Prelude.{ℕ, ◌+◌, ◌*◌, ◌≤◌}
use Rattle.std.proofs.Common.{mul-le-mul_left, arith}
use Rattle.model.specs.Image.{header_size, asset_size, entry_size}

abbrev pub entries_at : ℕ → ℕ → ℕ
entries_at v assets = header_size v + asset_size v * assets

abbrev pub players_at : ℕ → ℕ → ℕ → ℕ
players_at v assets entries = entries_at v assets + entry_size v * entries

-- a table is small
pub rows-most : (w n : ℕ) → w ≤ 200 → n ≤ 255 → w * n ≤ 51000
rows-most w n h k = omega (arith, mul-le-mul_left w k, h)
