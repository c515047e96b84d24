-- `image_players::player_legal` meets its contract: its tests are the definition's.
use Rattle.model.specs.Book.{player_legal}
use borrow.Author.Rules.{rules}
use Rattle.image_players.proofs.player_legal.Goals as goal

pub returns : goal.returns
unfolding player_legal
returns c =
    rw (
      c.pick.ensures,
      c.player_blank.ensures,
      c.request_legal.ensures,
      c.answer_legal.ensures,
      c.open_legal.ensures,
    )
