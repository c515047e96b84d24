-- What the checks say of an event before the book is touched: turned away with a code, a resend, or taken.
use Rattle.std.specs.Prelude.{ℕ}
use Rattle.book.specs.declared.Admission.{Admission}

pub data Gate : Type 0 where
  Refuse : ℕ → Gate
  Resend : Gate
  Take : Gate

-- an event that is let through
abbrev pub passed : Admission → Gate
passed Admission.Resend = Resend
passed Admission.Take = Take
