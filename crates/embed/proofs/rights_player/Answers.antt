-- `embed::rights_player` meets its contract: the view finds the player.
use Rattle.std.proofs.Common.{rules, ◌∙◌}
use Rattle.embed.specs.Seen.{has_player, player_seen}
use Rattle.embed.proofs.SeenLeft.{seen-found}
use Rattle.embed.proofs.rights_player.Goals as goal

pub returns : goal.returns
unfolding has_player player_seen
returns c =
    let a = c.args in
    let v = c.view.ensures in
    let seen =
    seen-found (λ x. x) a.image.now (player_seen a.image.now a.player) (has_player a.player) v.0 _ a.out.now _
    (λ z. let p = v.1 z in search rules) (c.code_of.ensures ∙ v.2) v.3 in
    record { value = seen.0; out_after = seen.1 }
