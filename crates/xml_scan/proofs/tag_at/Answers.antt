use Rattle.std.specs.Prelude.{◌≡◌, ℕ, ◌+◌, Bool, true, false, cond, List, eqb}
use borrow.Author.Tests.{eq-eqb, ne_eqb}
use Rattle.xml_model.specs.Shapes.{Tag}
use Rattle.xml_model.specs.Bytes.{byte_at, is_name_start, names, run_end}
use Rattle.xml_model.specs.Tags.{stuck_tag, end_tag, start_tag, tag_at}
use Rattle.xml_scan.proofs.tag_at.Goals as goal

-- the tag whose name starts at a, where `ends` tells an end tag
named : List ℕ → ℕ → ℕ → Bool → ℕ → Tag
named s from at ends a =
    cond (is_name_start (byte_at s a))
    (cond ends (end_tag s from at (run_end names s a)) (start_tag s from at (run_end names s a)))
    (stuck_tag s a)

as-named : (s : List ℕ) (from at a : ℕ) (ends : Bool) → ends ≡ eqb (byte_at s (at + 1)) 47 → a ≡ cond ends (at + 2) (at + 1)
    → tag_at s from at ≡ named s from at ends a
unfolding tag_at named
as-named s from at a true e p = rw (← e, p)
as-named s from at a false e p = rw (← e, p)

pub returns-then-not-name_starts : goal.returns-then-not-name_starts
unfolding named stuck_tag
returns-then-not-name_starts c =
    let a = c.args in
    rw (
      as-named a.s.now a.from a.at c.pick-a.result _ (rw c.byte_at-ends.ensures) c.pick-a.ensures,
      ← c.name_starts.ensures,
      c.if-not-name_starts.true,
    )
    c.stuck.ensures

pub returns-then-ends : goal.returns-then-ends
unfolding named
returns-then-ends c =
    let a = c.args in
    rw (
      as-named a.s.now a.from a.at c.pick-a.result _ (rw c.byte_at-ends.ensures) c.pick-a.ensures,
      ← c.name_starts.ensures,
      c.if-not-name_starts.false,
      eq-eqb _ _ c.if-ends.true,
      ← c.run_end-e.ensures,
    )
    c.end_tag.ensures

pub returns : goal.returns
unfolding named
returns c =
    let a = c.args in
    rw (
      as-named a.s.now a.from a.at c.pick-a.result _ (rw c.byte_at-ends.ensures) c.pick-a.ensures,
      ← c.name_starts.ensures,
      c.if-not-name_starts.false,
      ne_eqb _ _ c.if-ends.false,
      ← c.run_end-e.ensures,
    )
    c.start_tag.ensures
