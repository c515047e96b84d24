use Rattle.std.specs.Prelude.{◌≡◌}
use Rattle.std.proofs.Math.Path.{refl, sym, ap}
use Rattle.std.proofs.Common.{◌∙◌, arith}
use Rattle.numbers.specs.Count.{first}
use Rattle.numbers.proofs.Loops.{first_on, first_found}
use Rattle.xml_model.specs.Elements.{row_count, fits, row_of}
use Rattle.xml_table.specs.Codes.{role_code, name_number}
use Rattle.xml_table.proofs.Table.{fits-row, child-row, next-row}
use Rattle.xml_table.proofs.child_of.Goals as goal

pub loop-row-init : goal.loop-row-init
unfolding first
loop-row-init c = refl

pub returns-then-row_fits : goal.returns-then-row_fits
unfolding row_of
returns-then-row_fits c =
    let a = c.args in
    let l = c.loop-row in
    let f = fits (role_code a.role) a.state (name_number a.name) in
    let e : first f row_count ≡ l.row-index =
    first_found f l.row-index row_count (omega arith) l.invariant
    (fits-row l.row-index _ (omega arith) _ _ _ ∙ sym c.row_fits.ensures ∙ c.if-row_fits.true) in (
      omega (arith, e),
      rw e (sym (child-row l.row-index _ (omega arith))),
      rw e (sym (next-row l.row-index _ (omega arith))),
    )

pub loop-row-preserved : goal.loop-row-preserved
loop-row-preserved c =
    let a = c.args in
    let l = c.loop-row in
    first_on (fits (role_code a.role) a.state (name_number a.name)) l.row-index l.invariant
    (fits-row l.row-index _ (omega arith) _ _ _ ∙ sym c.row_fits.ensures ∙ c.if-row_fits.false)

pub returns : goal.returns
unfolding row_of
returns c =
    let a = c.args in
    let l = c.loop-row in
    let e : l.row-index ≡ row_count = omega arith in
    ap (first (fits (role_code a.role) a.state (name_number a.name))) (sym e) ∙ l.invariant ∙ e
