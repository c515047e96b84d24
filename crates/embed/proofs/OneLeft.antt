-- What each exit of `answer_event` leaves is what `ByValue` says.
use Prim.Native.Nat.{ℕ, ◌≤◌, ◌<◌}
use mathlib.Core.Path.{◌≡◌, refl, sym, ap, ◌∙◌}
use mathlib.Core.Bool.{true, false}
use mathlib.Core.List.{List}
use native.Mathlib.Omega.{arith}
use lib.ListN.{length}
use lib.Dec.{eqb}
use borrow.Author.Tests.{ne_eqb}
use Rattle.book.specs.declared.Line.{Line}
use Rattle.book.specs.declared.Reported.{Reported}
use Rattle.model.specs.Image.{length_of, write_buffer, read_code}
use Rattle.fill.specs.Fill.{no_room}
use Rattle.embed.specs.Calls.{image_in, room_code, call_code}
use Rattle.embed.specs.ByValue.{step_by, result_by, OneBy}
use Rattle.embed.proofs.Left.{room-there, room-short}

module _ (buffer : List ℕ) (size : ℕ) (r : List ℕ) (code₀ entry₀ until₀ : ℕ) (ls : List Line) (count : ℕ) where
  abbrev s : List ℕ
  s = image_in buffer size

  abbrev step : Reported
  step = step_by buffer size r code₀ entry₀ until₀ ls count

  abbrev result_is : ℕ
  result_is = result_by buffer size r code₀ entry₀ until₀ ls count

  abbrev pub One : ℕ → List ℕ → ℕ → ℕ → ℕ → ℕ → List Line → Type 0
  One = OneBy buffer size r code₀ entry₀ until₀ ls count

  kept : (result : ℕ) → result ≡ result_is → (result ≡ 0 → ⊥) → One result buffer size code₀ entry₀ until₀ ls
  kept result e n =
      let w : eqb result_is 0 ≡ false = ap (λ (k : ℕ). eqb k 0) (sym e) ∙ ne_eqb result 0 n in
      (e, (rw w refl, (rw w refl, (rw w refl, (rw w refl, (rw w refl, rw w refl))))))

  refused-result : (result : ℕ) → result ≡ read_code s → (result ≡ 0 → ⊥) → result ≡ result_is
  unfolding call_code
  refused-result result e n = e ∙ rw (ne_eqb (read_code s) 0 (λ z. n (e ∙ z))) refl

  pub one-refused : (result : ℕ) → result ≡ read_code s → (result ≡ 0 → ⊥) → One result buffer size code₀ entry₀ until₀ ls
  one-refused result e n = kept result (refused-result result e n) n

  -- the image is accepted, x is what the step gives, and needed the length of the next image
  module _ (x : Reported) (needed : ℕ) (e : read_code s ≡ 0) (same : x ≡ step) (n : needed ≡ length_of x.book) where
    next-length : needed ≡ length_of step.book
    next-length = n ∙ ap (λ (y : Reported). length_of y.book) same

    next-result : (y : ℕ) → room_code step.book buffer ≡ y → y ≡ result_is
    unfolding call_code
    next-result y q = sym (rw e q)

    pub one-unwritten : length buffer < needed → One no_room buffer size code₀ entry₀ until₀ ls
    one-unwritten k = kept no_room (next-result no_room (room-short step.book buffer (rw (next-length) at k))) (λ z. omega arith)

    pub one-answered : (buffer' : List ℕ) → needed ≤ length buffer → buffer' ≡ write_buffer x.book buffer
        → One 0 buffer' needed x.answer.code x.answer.entry x.answer.until x.lines
    one-answered buffer' k q =
        let c = next-result 0 (room-there step.book buffer (rw (next-length) at k)) in
        let w : eqb result_is 0 ≡ true = ap (λ (y : ℕ). eqb y 0) (sym c) in (
          c,
          (
            rw w (q ∙ ap (λ (y : Reported). write_buffer y.book buffer) same),
            (
              rw w next-length,
              (
                rw w (ap (λ (y : Reported). y.answer.code) same),
                (
                  rw w (ap (λ (y : Reported). y.answer.entry) same),
                  (rw w (ap (λ (y : Reported). y.answer.until) same), rw w (ap (λ (y : Reported). y.lines) same)),
                ),
              ),
            ),
          ),
        )
