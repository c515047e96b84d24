-- `xml_state::open_element` meets its contract: the first of the three steps that is a fault is the result.
use Rattle.std.proofs.lemmas.Result.{err_from_is_err_and}
use Rattle.xml_model.specs.State.{opening}
use Rattle.xml_model.proofs.Steps.{no-then, ok-then}
use Rattle.xml_state.proofs.Looks.{looked}
use Rattle.xml_state.proofs.open_element.Goals as goal

pub returns-in_err-st : goal.returns-in_err-st
unfolding opening
returns-in_err-st c =
    let p = err_from_is_err_and c.from_residual.result c.from_residual.ensures.1 in
    rw (p.1, p.2, ← (looked _ _ c.look-id.ensures).0, ← c.begun.ensures, ← c.in_err-st.ensures) (no-then _ _)

pub returns-in_err-st-2 : goal.returns-in_err-st-2
unfolding opening
returns-in_err-st-2 c =
    let p = err_from_is_err_and c.from_residual-in_err-st-2.result c.from_residual-in_err-st-2.ensures.1 in
    rw (p.1, p.2, ← (looked _ _ c.look-id.ensures).0, ← c.begun.ensures, ← c.in_ok-st.ensures, ← ok-then, ← (looked _ _ c.look-idref.ensures).0, ← c.in_err-st-2.ensures)
    (no-then _ _)

pub returns : goal.returns
unfolding opening
returns c =
    rw (
      ← (looked _ _ c.look-id.ensures).0,
      ← c.begun.ensures,
      ← c.in_ok-st.ensures,
      ← ok-then,
      ← (looked _ _ c.look-idref.ensures).0,
      ← c.in_ok-st-2.ensures,
      ← ok-then,
      ← (looked _ _ c.look-timer.ensures).0,
    ) c.with_timer_of.ensures
