-- `xml_entries::kind_legal` meets its contract. The invariant: the first i entries are legal.
use mathlib.Core.Path.{◌≡◌}
use mathlib.Core.Bool.{Bool, true}
use Prim.Native.Nat.{ℕ}
use Rattle.numbers.specs.Count.{all}
use Rattle.model.specs.Book.{in_book, limits_legal}
use Rattle.xml_model.specs.declared.State.{State}
use Rattle.xml_model.specs.State.{asset_for, limits_for}
use Rattle.xml_entries.proofs.kind_legal.Given as goal

abbrev pub judged : ℕ → State → ℕ → Bool
judged kind st i = limits_legal (in_book st.book (asset_for st i)) (limits_for kind st i)

abbrev pub invariant-loop-i : goal.invariant-loop-i
invariant-loop-i l = all (judged l.kind l.st) l.i ≡ true
