-- `image_players::latest_passes` meets its contract: the open uses of the entry are counted by their marks.
use Prim.Native.Nat.{ℕ}
use mathlib.Core.Path.{◌≡◌, ap, ap₂, ◌∙◌}
use Rattle.numbers.specs.Bits.{ones}
use Rattle.book.specs.declared.Entry.{Entry}
use Rattle.book.specs.declared.Player.{Player}
use Rattle.model.specs.Book.{player_at, open_entry, open_uses, latest_player, latest_legal, latest_passes}
use Rattle.rules.specs.Uses.{uses-marked}
use borrow.Author.Rules.{rules}
use Rattle.image_players.proofs.latest_passes.Goals as goal

pub returns : goal.returns
unfolding latest_passes
returns c =
    let at-player = c.before in
    let b = at-player.args.b in
    let p = at-player.player_at-p.result in
    let is-player : p ≡ latest_player b =
    at-player.player_at-p.ensures ∙ ap (player_at b.players) at-player.saturating_sub-i.ensures in
    let uses : c.ones-uses.result ≡ open_uses b.players p.current.entry =
    c.ones-uses.ensures ∙ ap ones c.marks_of.ensures ∙ uses-marked b.players p.current.entry in
    c.latest_legal.ensures
    ∙ ap₂ (λ (n : ℕ) (e : Entry). latest_legal b.latest n e p) uses c.entry_at-e.ensures
    ∙ ap (λ (q : Player). latest_legal b.latest (open_uses b.players q.current.entry) (open_entry b.entries q) q) is-player
