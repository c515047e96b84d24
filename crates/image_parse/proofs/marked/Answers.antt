-- `image_parse::marked` meets its contract: from version 4 on the book stays as it is.
use mathlib.Core.Path.{◌≡◌, refl, ap, ◌∙◌}
use mathlib.Core.Bool.{true, false}
use mathlib.Core.List.{List}
use native.Mathlib.Omega.{arith}
use lib.Dec.{leb}
use borrow.Author.Tests.{le-leb, lt-leb}
use Rattle.book.specs.declared.Entry.{Entry}
use Rattle.book.specs.Changed.{changed}
use Rattle.model.specs.Book.{entries_in}
use Rattle.model.specs.Image.{marked_entries, marked}
use Rattle.image_parse.proofs.marked.Goals as goal

pub returns-then-v-ge4 : goal.returns-then-v-ge4
unfolding marked
returns-then-v-ge4 c = let newer : leb 4 c.args.v ≡ true = le-leb 4 c.args.v (omega arith) in rw newer refl

pub returns : goal.returns
unfolding marked entries_in
returns c =
    let a = c.args in
    let older : leb 4 a.v ≡ false = lt-leb 4 a.v (omega arith) in
    let table = c.marked_entries-table.ensures ∙ ap (marked_entries a.b.players a.b.entries) c.at_most_64.ensures in
    rw older (ap (λ (es : List Entry). changed a.b a.b.time a.b.latest es a.b.players) table)
