-- `embed::rights_grounds` meets its contract: the view finds the grounds against the entry.
use Rattle.std.proofs.Common.{rules, ◌∙◌}
use Rattle.embed.specs.Seen.{has_entry, entry_found, grounds_seen}
use Rattle.embed.proofs.SeenLeft.{seen-found}
use Rattle.embed.proofs.rights_grounds.Goals as goal

pub returns : goal.returns
unfolding has_entry entry_found grounds_seen
returns c =
    let a = c.args in
    let v = c.view.ensures in
    let seen =
    seen-found (λ x. x) a.image.now (grounds_seen a.image.now a.player a.time a.position) (has_entry a.image.now a.position) v.0 _ a.out.now _
    (λ z. let p = v.1 z in search rules) (c.code_of.ensures ∙ v.2) v.3 in
    record { value = seen.0; out_after = seen.1 }
