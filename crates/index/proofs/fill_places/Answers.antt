use Rattle.std.proofs.Common.{◌≡◌, ℕ, ◌≤◌, ◌<◌, ◌-◌, ◌∙◌, sym, ap, ap₂, min, length, take, cond, arith}
use Rattle.std.proofs.Math.ListN.{set}
use Rattle.model.specs.Book.{asset_at}
use Rattle.choice.specs.declared.Reach.{Reach}
use Rattle.choice.specs.Reach.{catalog_from, reach_in, table_of, reach-used}
use Rattle.index.specs.Places.{down, put_place, put_parent, places_of, parents_of, slots-new}
use Rattle.index.proofs.Places.{down_turn, down-none}
use Rattle.index.proofs.fill_places.Goals as goal

pub loop-i-init : goal.loop-i-init
unfolding places_of parents_of
loop-i-init c =
    let ats = c.args.assets.now in
    let n = c.min-n in (
      ap₂ (down (put_place ats (length ats))) n.ensures (slots-new 64 65536),
      ap₂ (down (put_parent ats (length ats))) n.ensures (slots-new 0 64),
    )

pub loop-i-preserved : goal.loop-i-preserved
unfolding put_place put_parent
loop-i-preserved c =
    let ats = c.args.assets.now in
    let l = c.loop-i in
    let number = (asset_at ats (l.i - 1)).number in
    let few : min (length ats) 64 ≤ length ats = omega arith in
    let r : c.reach_of-r.result ≡ reach_in (table_of ats (length ats)) number =
    c.reach_of-r.ensures ∙ ap (λ (k : ℕ). reach_in (catalog_from (take k ats)) number) c.min-n.ensures ∙ reach-used ats (length ats) number few in
    let more : 0 < l.i = c.loop-i-test.true in
    let onPlaces = put_place ats (length ats) in
    let onParents = put_parent ats (length ats) in (
      ap (λ (v : ℕ). down onPlaces (l.i - 1) (set l.places number v))
          (c.place_of.ensures ∙ ap (λ (x : Reach). cond x.usable (l.i - 1) 64) r)
          ∙ sym (down_turn onPlaces l.i l.places more)
          ∙ l.invariant.0,
      ap (λ (x : Reach). down onParents (l.i - 1) (set l.parents (l.i - 1) x.parent)) r
          ∙ sym (down_turn onParents l.i l.parents more)
          ∙ l.invariant.1,
    )

pub returns : goal.returns
returns c =
    let ats = c.args.assets.now in
    let l = c.loop-i in
    let end : l.i ≤ 0 = c.loop-i-test.false in (
      sym (down-none (put_place ats (length ats)) l.i l.places end) ∙ l.invariant.0,
      sym (down-none (put_parent ats (length ats)) l.i l.parents end) ∙ l.invariant.1,
    )
