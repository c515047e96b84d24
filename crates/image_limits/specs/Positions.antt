-- The position of an asset among those given, if one has the number.
use Rattle.std.specs.Prelude.{ℕ, cond, List, Option, Some, None, length, ltb}
use Rattle.book.specs.declared.Asset.{Asset}
use Rattle.model.specs.Book.{asset_position}

abbrev pub position_in : List Asset → ℕ → Option ℕ
position_in ats number = cond (ltb (asset_position ats (length ats) number) (length ats)) (Some (asset_position ats (length ats) number)) None
