-- `embed::view` meets its contract: the image is refused, nothing is there, the buffer is too short, or the numbers are copied.
use Rattle.std.proofs.Common.{rules, ◌≡◌, refl, sym, ap, true, false, None, Some, Err, [], ◌∙◌}
use Rattle.embed.specs.declared.Failure.{Failure}
use Rattle.embed.specs.Failure.{result_code}
use Rattle.embed.proofs.SeenLeft.{seen-refused, seen-absent, seen-given}
use Rattle.embed.proofs.view.Goals as goal

pub returns-in_err-load : goal.returns-in_err-load
returns-in_err-load g c =
    let a = c.args in
    let h = c.in_err-load.ensures in
    let e : c.from_residual.result ≡ Err c.in_err-load.field-0.0 = search rules in
    let seen = seen-refused a.image.now false [] a.out.now _ h.0 (λ z. h.1 (sym h.0 ∙ z)) in
    (None, λ z. absurd (h.1 z), ap result_code e ∙ seen.0, seen.1)

pub returns-in_err-numbers : goal.returns-in_err-numbers
returns-in_err-numbers g c =
    let a = c.args in
    let h = c.in_ok-load.ensures in
    let e : c.from_residual-in_err-numbers.result ≡ Err (Failure.Absent) = search rules in
    let n : c.values.result ≡ None = search rules in
    let seen = seen-absent a.image.now false [] a.out.now h.0 refl in
    (None, λ z. rw (n, h.1) at c.values.ensures, ap result_code e ∙ seen.0, seen.1)

pub returns-in_err-fill : goal.returns-in_err-fill
returns-in_err-fill g c =
    let a = c.args in
    let h = c.in_ok-load.ensures in
    let e : c.from_residual-in_err-fill.result ≡ Err (Failure.NoRoom) = search rules in
    let n : c.values.result ≡ Some c.in_ok-numbers.numbers = search rules in
    let seen = seen-given a.image.now true _ a.out.now _ _ _ h.0 refl c.as_slice.ensures (sym c.in_err-fill.ensures.value, c.fill.ensures.out_after) in
    (Some c.in_ok-numbers.numbers, λ z. rw (n, h.1) at c.values.ensures, ap result_code e ∙ seen.0, seen.1)

pub returns : goal.returns
returns g c =
    let a = c.args in
    let h = c.in_ok-load.ensures in
    let n : c.values.result ≡ Some c.in_ok-numbers.numbers = search rules in
    let seen = seen-given a.image.now true _ a.out.now _ _ _ h.0 refl c.as_slice.ensures (sym c.in_ok-fill.ensures.value, c.fill.ensures.out_after) in
    (Some c.in_ok-numbers.numbers, λ z. rw (n, h.1) at c.values.ensures, seen.0, seen.1)
