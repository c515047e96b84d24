use Rattle.std.proofs.Common.{◌<◌, ◌∙◌, sym, ap, arith}
use Rattle.choice.specs.declared.Best as code
use Rattle.choice.specs.declared.Row.{Row}
use Rattle.choice.specs.Best.{choice_after, found_after, entry_taken, found-turn}
use Rattle.choice.specs.Row.{row_taken, row-taken}
use Rattle.model.specs.Choice.{no_end, choose_of, any_of}
use Rattle.model.specs.Book.{limits_at, meters_at}
use Rattle.choice.proofs.chosen.Goals as goal

pub loop-i-init : goal.loop-i-init
unfolding found_after choice_after choose_of any_of
loop-i-init c = c.none-best.ensures

pub loop-i-preserved : goal.loop-i-preserved
loop-i-preserved c =
    let a = c.args in
    let l = c.loop-i in
    let es = a.entries.now in
    let lim = limits_at es l.i in
    let m = meters_at es l.i in
    let early : a.ask.time < no_end = omega arith in
    c.consider_row-best.ensures
    ∙ ap (λ (x : Row). row_taken a.asset a.parent a.kind a.ask l.i x l.best) c.row_of-row.ensures
    ∙ row-taken a.asset a.parent a.kind a.ask l.i lim m l.best early
    ∙ ap (λ (x : code.Best). entry_taken a.asset a.parent a.kind a.ask l.i lim m x) l.invariant
    ∙ sym (found-turn es a.asset a.parent a.kind a.ask l.i)
