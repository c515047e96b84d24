use Rattle.std.proofs.Common.{◌≡◌, ◌≤◌, ℕ, length, take, min, ap, ◌∙◌, arith, rules}
use Rattle.metering.specs.Good.{good_lines, good-used}
use Rattle.step.proofs.good_list.Goals as goal

pub returns : goal.returns
returns c =
    let a = c.args in
    let size : length a.b.assets ≡ 64 = search rules in
    let room : min a.b.assetcount 64 ≤ length a.b.assets = omega arith in
    c.good_lines.ensures
    ∙ ap (λ (n : ℕ). good_lines (take n a.b.assets) (length (take n a.b.assets)) a.report.lines a.report.lent) c.at_most_64.ensures
    ∙ good-used a.b.assets a.b.assetcount a.report.lines a.report.lent room
