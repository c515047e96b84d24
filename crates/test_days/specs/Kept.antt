-- Putting a line into a buffer does not change the buffer's length.
use Rattle.std.specs.Prelude.{ℕ, ◌+◌, ◌≤◌, ◌≡◌, refl, List, length, leb}
use Rattle.std.proofs.Common.{◌∙◌, arith, leb-true}
use Rattle.numbers.proofs.Tests.{on_test}
use Rattle.book.specs.declared.Answer.{Answer}
use Rattle.model.specs.Run.{line}
use Rattle.text.specs.Lines.{line_end, line_buffer}
use Rattle.text.specs.Digits.{length-lay}

pub buffer-length : (a : Answer) (at r : ℕ) (old : List ℕ) → r ≡ line_end a at (length old) → r ≤ at + 19 → length (line_buffer a at old)
    ≡ length old
unfolding line_end line_buffer
buffer-length a at r old e h =
    on_test (leb (at + 19) (length old))
    (λ w.
    let n : r ≡ at + length (line a) = e ∙ rw w refl in
    rw w (length-lay old at (line a) (omega (arith, leb-true (at + 19) (length old) w))))
    (λ w. rw w refl)
