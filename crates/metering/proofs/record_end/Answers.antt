use Rattle.std.proofs.Common.{◌≡◌, ◌≤◌, ℕ, Option, sym, ap, ◌∙◌, min, length, arith, rules}
use Rattle.std.specs.Option.{unwrap_or}
use Rattle.model.specs.Report.{Ended, line_at, raised}
use Rattle.report.specs.Report.{raised_is}
use Rattle.metering.specs.Recording.{line_for, used-as, used-below, raised-there, raised-nowhere}
use Rattle.metering.proofs.record_end.Goals as goal

pub raise_line-requires : goal.raise_line-requires
raise_line-requires c =
    let b = c.args.b in
    let size : length b.assets ≡ 64 = search rules in
    let room : min b.assetcount 64 ≤ length b.assets = omega arith in
    used-below b _ c.at_most_64.ensures room c.entry_at.result.limits c.args.content c.in-Some.k c.in-Some.ensures

pub returns-in-Some : goal.returns-in-Some
returns-in-Some c =
    let a = c.args in
    let size : length a.b.assets ≡ 64 = search rules in
    let room : min a.b.assetcount 64 ≤ length a.b.assets = omega arith in
    let x : Ended = record { entry = a.entry; content = a.content; seconds = a.seconds } in
    let l = c.entry_at.result.limits in
    let k = c.in-Some.k in
    let y = line_at a.lines k in
    let here : k ≡ line_for a.b.switch l a.b.assets a.b.assetcount a.content =
    ap (λ (r : Option ℕ). unwrap_or r 64) c.in-Some.ensures ∙ used-as a.b _ c.at_most_64.ensures room l a.content in
    c.raise_line.ensures
    ∙ raised-there a.b a.lines x c.entry_at.result k c.entry_at.ensures here (raised l a.seconds y)
    (used-below a.b _ c.at_most_64.ensures room l a.content k c.in-Some.ensures)
    (sym (raised_is l a.seconds y))

pub returns-in_default : goal.returns-in_default
returns-in_default c =
    let a = c.args in
    let size : length a.b.assets ≡ 64 = search rules in
    let room : min a.b.assetcount 64 ≤ length a.b.assets = omega arith in
    let x : Ended = record { entry = a.entry; content = a.content; seconds = a.seconds } in
    let l = c.entry_at.result.limits in
    let out : 64 ≡ line_for a.b.switch l a.b.assets a.b.assetcount a.content =
    ap (λ (r : Option ℕ). unwrap_or r 64) c.in_default.ensures ∙ used-as a.b _ c.at_most_64.ensures room l a.content in
    raised-nowhere a.b a.lines x c.entry_at.result 64 c.entry_at.ensures out (omega arith)
