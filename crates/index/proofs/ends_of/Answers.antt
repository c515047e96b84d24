use Rattle.std.proofs.Common.{rules, tests}
use Rattle.book.specs.Blank.{no_player}
use Rattle.index.specs.Ends.{end_of_player}
use Rattle.index.specs.Mapped.{map-computes}
use Rattle.index.proofs.ends_of.Goals as goal

pub returns : goal.returns
returns c = map-computes _ _ c.args.players c.map.result _ end_of_player no_player 0 c.map.ensures.items (search rules)
    (λ x y p q k. search (rules, tests))
