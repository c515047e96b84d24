use Rattle.std.proofs.Math.Path.{refl, sym, ap}
use Rattle.std.proofs.Common.{◌∙◌, arith}
use Rattle.xml_model.specs.Bytes.{same}
use Rattle.xml_model.specs.Elements.{name_of}
use Rattle.xml_model.proofs.Runs.{same_slices}
use Rattle.xml_table.proofs.Names.{number-at, find-here, find-past, find-end}
use Rattle.xml_table.proofs.name_of.Goals as goal

pub loop-name-init : goal.loop-name-init
loop-name-init c = refl

pub returns-then-eq : goal.returns-then-eq
unfolding name_of
returns-then-eq c =
    let v = c.args.v.now in
    let l = c.loop-name in
    let q = sym (c.eq.ensures ∙ same_slices _ _ ∙ ap (same v) c.text_of.ensures) ∙ c.if-eq.true in
    number-at l.name-index _ (omega arith) ∙ sym (l.invariant ∙ find-here l.name-index _ (omega arith) v q)

pub loop-name-preserved : goal.loop-name-preserved
loop-name-preserved c =
    let v = c.args.v.now in
    let l = c.loop-name in
    let q = sym (c.eq.ensures ∙ same_slices _ _ ∙ ap (same v) c.text_of.ensures) ∙ c.if-eq.false in
    l.invariant ∙ find-past l.name-index _ (omega arith) v q

pub returns : goal.returns
unfolding name_of
returns c =
    let l = c.loop-name in
    sym (l.invariant ∙ find-end c.args.v.now l.name-index (omega arith))
