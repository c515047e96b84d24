-- `xml_entries::with_entries` meets its contract. The invariant: the first i entries of the kind are in the book.
use mathlib.Core.Path.{◌≡◌}
use Prim.Native.Nat.{ℕ}
use Rattle.book.specs.declared.Entry.{Entry}
use Rattle.book.specs.Blank.{no_meters}
use Rattle.xml_model.specs.declared.State.{State}
use Rattle.xml_model.specs.State.{limits_for, filled}
use Rattle.xml_entries.proofs.with_entries.Given as goal

abbrev pub fresh : ℕ → State → ℕ → Entry
fresh kind st i = record { limits = limits_for kind st i; meters = no_meters }

abbrev pub invariant-loop-i : goal.invariant-loop-i
invariant-loop-i l = l.b ≡ record l.st.book { entries = filled (fresh l.kind l.st) l.n l.i l.st.book.entries }
