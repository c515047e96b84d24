-- `text::put_line` meets its contract: three numbers, each with the byte after it, written one after another.
use Prim.Native.Nat.{◌+◌, ◌<◌, ◌≤◌}
use mathlib.Core.Path.{◌≡◌, refl, ◌∙◌}
use native.Mathlib.Omega.{arith}
use lib.ListN.{length, length-set}
use borrow.Author.Tests.{le-leb, lt-leb}
use Rattle.text.specs.Lines.{line_end, line_buffer}
use Rattle.text.specs.Digits.{byte-places, number-places, line-most, refused-line, line-laid}
use borrow.Author.Rules.{rules}
use Rattle.text.proofs.put_line.Goals as goal
use Rattle.text.proofs.put_line.Goals.{After-put_short-first, After-put_short-second, After-put_number-third}

-- each number leaves the buffer's length unchanged, and room for the rest of the line
first : (c : After-put_short-first) → (c.put_short-first.result + 16 ≤ length c.args.out.now) ×
    (length c.put_short-first.new.out ≡ length c.args.out.now)
first c =
    let a = c.args in
    let k : a.a.code < 256 = search rules in
    (omega (arith, byte-places a.a.code k), search rules)

second : (c : After-put_short-second) → (c.put_short-second.result + 12 ≤ length
    c.args.out.now) ×
    (length c.put_short-second.new.out ≡ length c.args.out.now)
second c =
    let a = c.args in
    let k : a.a.entry < 256 = search rules in
    let f = first c.before.before.before.before.before.before.before.before in
    let o = c.put_short-first in
    (omega (arith, byte-places a.a.entry k), omega (arith, length-set o.new.out o.result 32))

third : (c : After-put_number-third) → (c.put_number-third.result + 1 ≤ length
    c.args.out.now) × (length c.put_number-third.new.out ≡ length
    c.args.out.now)
third c =
    let f = second c.before.before.before.before in
    let o = c.put_short-second in (
      omega (
        arith,
        number-places c.args.a.until,
      ),
      omega (arith, length-set o.new.out o.result 32),
    )

pub returns-then-out-lt19 : goal.returns-then-out-lt19
unfolding line_end line_buffer
returns-then-out-lt19 c =
    let a = c.args in
    let h : length a.out.now < a.at + 19 = omega arith in
    rw (lt-leb (a.at + 19) (length a.out.now) h) (refl, refl, omega arith)

pub returns-then-out-at : goal.returns-then-out-at
unfolding line_end line_buffer
returns-then-out-at c =
    let a = c.args in
    let h : length a.out.now < a.at + 19 = omega arith in
    rw (lt-leb (a.at + 19) (length a.out.now) h) (refl, refl, omega arith)

pub put_short-first-requires : goal.put_short-first-requires
put_short-first-requires c =
    let a = c.args in
    let k : a.a.code < 256 = search rules in
    (omega (arith, byte-places a.a.code k), omega arith)

pub put_refused-requires : goal.put_refused-requires
put_refused-requires c = omega (arith, first c.before.before.before.before.before.before)

pub overflow_add-result : goal.overflow_add-result
overflow_add-result c = omega (arith, first c.before.before.before.before.before.before.before.before.before.before)

pub returns-then-a : goal.returns-then-a
unfolding line_end line_buffer
returns-then-a c =
    let a = c.args in
    let o₁ = c.put_short-first in
    let o₂ = c.put_refused in
    let h : a.at + 19 ≤ length a.out.now = omega arith in
    let k : a.a.code < 256 = search rules in
    let w = refused-line a.a a.out.now o₁.new.out a.at o₁.result h k c.if-a.true
    o₁.ensures.0 o₁.ensures.1 in
    rw (le-leb (a.at + 19) (length a.out.now) h) (w.0, o₂.ensures ∙ w.1, omega (arith, byte-places a.a.code k))

pub bounds-out-first : goal.bounds-out-first
bounds-out-first c = omega (arith, first c.before.before.before.before.before)

pub overflow_add-first : goal.overflow_add-first
overflow_add-first c = omega (arith, first c.before.before.before.before.before.before)

pub put_short-second-requires : goal.put_short-second-requires
put_short-second-requires c =
    let a = c.args in
    let o = c.put_short-first in
    let k : a.a.entry < 256 = search rules in (
      omega (
        arith,
        first c.before.before.before.before.before.before.before,
        byte-places a.a.entry k,
        length-set o.new.out o.result 32,
      ),
      omega arith,
    )

pub bounds-out-second : goal.bounds-out-second
bounds-out-second c = omega (arith, second c.before.before)

pub overflow_add-second : goal.overflow_add-second
overflow_add-second c = omega (arith, second c.before.before.before)

pub put_number-third-requires : goal.put_number-third-requires
put_number-third-requires c =
    let a = c.args in
    let o = c.put_short-second in
    omega (arith, second c.before.before.before, number-places a.a.until, length-set o.new.out o.result 32)

pub bounds-out-third : goal.bounds-out-third
bounds-out-third c = omega (arith, third c.before.before)

pub overflow_add-result-2 : goal.overflow_add-result-2
overflow_add-result-2 c = omega (arith, third c.before.before)

pub returns : goal.returns
unfolding line_end line_buffer
returns c =
    let a = c.args in
    let o₁ = c.put_short-first in
    let o₂ = c.put_short-second in
    let o₃ = c.put_number-third in
    let h : a.at + 19 ≤ length a.out.now = omega arith in
    let k : a.a.code < 256 = search rules in
    let k' : a.a.entry < 256 = search rules in
    let w =
    line-laid a.a a.out.now o₁.new.out o₂.new.out o₃.new.out a.at o₁.result o₂.result o₃.result h k k'
    o₁.ensures.0 o₁.ensures.1 o₂.ensures.0 o₂.ensures.1 o₃.ensures.0 o₃.ensures.1 in
    rw (le-leb (a.at + 19) (length a.out.now) h) (w.0, w.1, omega (arith, line-most a.a k k', w.0))
