use mathlib.Core.Path.{◌≡◌, refl, sym, ap, ap₂, ◌∙◌}
use mathlib.Core.Bool.{Bool, cond}
use mathlib.Core.List.{List}
use Prim.Native.Nat.{ℕ, ◌+◌, ◌*◌, ◌-◌, ◌^◌, ◌≤◌}
use native.Mathlib.Omega.{arith}
use native.Mathlib.Numerals.{add-one}
use native.Mathlib.Nat.{pow-suc}
use borrow.Author.Rules.{rules}
use Rattle.numbers.specs.Count.{sum}
use Rattle.numbers.specs.Bits.{mask_of}
use Rattle.numbers.proofs.Loops.{sum-turn}
use Rattle.numbers.proofs.BitLaws.{mask_fits, cond-most, weight-most}
use Rattle.book.specs.declared.Player.{Player}
use Rattle.model.specs.Book.{player_at, opens, marks_of}
use Rattle.rules.proofs.marks_of.Invariants.{opened}
use Rattle.rules.proofs.marks_of.Goals as goal

pub loop-p-init : goal.loop-p-init
unfolding mask_of sum
loop-p-init c = (omega arith, refl, refl)

pub overflow_add-marks : goal.overflow_add-marks
overflow_add-marks c =
    let a = c.args in
    let l = c.loop-p in
    let t = mask_fits (opened a.i a.players) l.p in
    let w = weight-most l.p (omega arith) in
    let r = cond-most c.opens_entry-w.result l.weight in
    omega (arith, t, w, r, c.pick-marks.ensures, l.invariant.1, l.invariant.2)

pub overflow_mul-weight : goal.overflow_mul-weight
overflow_mul-weight c =
    let l = c.loop-p in
    let w = weight-most l.p (omega arith) in
    omega (arith, w, l.invariant.1)

-- one player more
turn : (f : ℕ → Bool) (p : ℕ) → mask_of f (p + 1) ≡ mask_of f p + cond (f p) (2 ^ p) 0
unfolding mask_of
turn f p = sum-turn _ p

doubled : (p : ℕ) → 2 ^ p * 2 ≡ 2 ^ (p + 1)
doubled p = rw add-one (sym (pow-suc 2 p))

pub loop-p-preserved : goal.loop-p-preserved
loop-p-preserved c =
    let a = c.args in
    let l = c.loop-p in
    let more = c.pick-marks.ensures ∙ ap₂ (λ (b : Bool) (k : ℕ). cond b k 0) c.opens_entry-w.ensures l.invariant.1 in (
      omega arith,
      ap (λ (k : ℕ). k * 2) l.invariant.1 ∙ doubled l.p,
      ap₂ ◌+◌ l.invariant.2 more ∙ sym (turn (opened a.i a.players) l.p),
    )

pub returns : goal.returns
unfolding marks_of
returns c =
    let a = c.args in
    let l = c.loop-p in
    let e : l.p ≡ 16 = omega arith in
    l.invariant.2 ∙ ap (mask_of (opened a.i a.players)) e
