-- `xml_state::id_position` meets its contract: an iterator over the ids finds what the definition finds.
use Rattle.std.proofs.Common.{◌≡◌, ◌≤◌, rules, arith, tests, length, take}
use Rattle.std.proofs.lemmas.Iterator.{YieldsList-from_slice}
use Rattle.std.proofs.lemmas.Iterator.Search.{position_from_yields_List}
use Rattle.std.proofs.lemmas.List.{length-take}
use Rattle.xml_model.specs.declared.Id.{Id}
use Rattle.xml_model.specs.State.{no_id, same_range, is_id, ids_in, id_position}
use Rattle.xml_state.proofs.Search.{position-told}
use Rattle.xml_state.proofs.id_position.Goals as goal

pub returns : goal.returns
unfolding id_position is_id ids_in
returns c =
    let a = c.args in
    let p = λ (d : Id). same_range a.s.now a.value.from a.value.to d.from d.to in
    let size : length (take (ids_in a.ids.now) a.ids.now.table) ≡ ids_in a.ids.now = rw (← c.as_slice.ensures.items) c.as_slice.ensures.size in
    let room : ids_in a.ids.now ≤ length a.ids.now.table = omega (arith, length-take (ids_in a.ids.now) a.ids.now.table) in
    position-told p a.ids.now.table no_id (ids_in a.ids.now) room c.position.result
    (position_from_yields_List p _ _ c.position.result c.position.ensures.ran (YieldsList-from_slice _ (cc)) (λ x b q k. search (rules, tests)))
