-- `xml_read::root_at` meets its contract: the element reader, with nothing open around it, gives what the units give.
use native.Mathlib.Omega.{arith}
use lib.Dec.{eqb}
use mathlib.Core.Bool.{true, false, not, true≢false}
use borrow.Author.Rules.{rules}
use denote.Enum.Bare.{sameb, differs_false}
use Rattle.std.specs.Prelude.{Option, Some, None}
use Rattle.std.specs.Option.{option_eq}
use Rattle.xml_model.specs.Elements.{rights_name}
use Rattle.xml_table.specs.declared.Name.{Name}
use Rattle.xml_table.specs.contracts.Name.{the_type}
use Rattle.xml_table.specs.Codes.{name_code, name_number}
use mathlib.Core.Path.{◌≡◌, refl, sym, ap, ◌∙◌}
use Rattle.std.proofs.lemmas.Result.{err_from_is_err_and}
use Rattle.xml_model.proofs.Steps.{refuses}
use Rattle.xml_model.specs.Text.{finish, root}
use Rattle.xml_read.proofs.Nested.{el-root, lies_at, refused-ends}
use Rattle.xml_read.proofs.root_at.Goals as goal

is_rights : (o : Option Name) → not (option_eq (sameb the_type) o (Some Name.Rights)) ≡ false → eqb (name_number o) rights_name ≡ true
is_rights None e = absurd (true≢false e)
is_rights (Some n) e = ap (λ (m : Name). eqb (name_code m) rights_name) (differs_false the_type (search rules) n Name.Rights e)

pub slice_bounds-name_of-count : goal.slice_bounds-name_of-count
slice_bounds-name_of-count c = let w = lies_at _ _ c.in_ok-t.ensures refl in omega arith

pub slice_bounds-name_of-start : goal.slice_bounds-name_of-start
slice_bounds-name_of-start c = let w = lies_at _ _ c.in_ok-t.ensures refl in omega arith

pub slice_bounds-name_of-end : goal.slice_bounds-name_of-end
slice_bounds-name_of-end c = let w = lies_at _ _ c.in_ok-t.ensures refl in omega arith

pub element-requires : goal.element-requires
element-requires c = (lies_at _ _ c.in_ok-t.ensures refl).next

pub returns-in_err-at : goal.returns-in_err-at
unfolding root
returns-in_err-at c =
    let p = err_from_is_err_and c.from_residual-in_err-at.result c.from_residual-in_err-at.ensures.1 in
    rw (p.1, p.2, ← c.in_ok-t.ensures, ← c.name_of.ensures, is_rights c.name_of.result (sym c.ne.ensures ∙ c.if-ne.false), ← c.blank_state-state.ensures)
    (refused-ends c.args.s.now _ _ (refuses _) ∙ ap (finish c.args.s.now) (el-root c.in_err-at.ensures))

pub returns : goal.returns
unfolding root
returns c =
    rw (← c.in_ok-t.ensures, ← c.name_of.ensures, is_rights c.name_of.result (sym c.ne.ensures ∙ c.if-ne.false), ← c.blank_state-state.ensures)
    (c.finished.ensures ∙ ap (finish c.args.s.now) (el-root c.in_ok-at.ensures))
