use mathlib.Core.Path.{◌≡◌, ap, ap₂, ◌∙◌}
use mathlib.Core.List.{List}
use Prim.Native.Nat.{ℕ, ◌<◌}
use native.Mathlib.Omega.{arith}
use lib.ListN.{length, get_or, set}
use Rattle.numbers.proofs.Loops.{length-mapped}
use Rattle.book.specs.declared.Entry.{Entry}
use Rattle.book.specs.Blank.{no_entry}
use Rattle.model.specs.Image.{with_marks, marked_entries}
use Rattle.image_parse.specs.Older.{marked-none, marked_turn}
use Rattle.image_parse.proofs.marked_entries.Goals as goal
use Rattle.image_parse.proofs.marked_entries.Goals.{Start}

entries-64 : (c : Start) → length c.args.entries ≡ 64
entries-64 c = search length-mapped

pub loop-i-init : goal.loop-i-init
loop-i-init c = (omega arith, marked-none c.args.players c.args.entries)

pub loop-i-preserved : goal.loop-i-preserved
loop-i-preserved c =
    let z = c.before in
    let l = c.loop-i in
    let e = get_or z.args.entries l.i no_entry in
    let here = c.with_marks.ensures ∙ ap (λ (m : ℕ). with_marks m e) c.marks_of.ensures in
    let within : l.i < length z.args.entries = omega (arith, entries-64 z.before.before.before.before) in (
      omega arith,
      ap₂ (λ (t : List Entry) (x : Entry). set t l.i x) l.invariant.1 here ∙ marked_turn z.args.players z.args.entries l.i within,
    )

pub returns : goal.returns
returns c =
    let a = c.args in
    let l = c.loop-i in
    let e : l.i ≡ a.n = omega arith in
    l.invariant.1 ∙ ap (marked_entries a.players a.entries) e
