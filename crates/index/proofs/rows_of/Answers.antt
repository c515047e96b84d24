use Rattle.std.proofs.Common.{rules, tests}
use Rattle.book.specs.Blank.{no_entry}
use Rattle.index.specs.Rows.{row_of_entry, no_row}
use Rattle.index.specs.Mapped.{map-computes}
use Rattle.index.proofs.rows_of.Goals as goal

pub returns : goal.returns
returns c = map-computes _ _ c.args.es c.map.result _ row_of_entry no_entry no_row c.map.ensures.items (search rules)
    (λ x y p q k. search (rules, tests))
