-- An event record from its numbers: document 01, "13-byte events (player 8, number 32, operation 8, asset 16, kind 8, time 32)", with the
-- number of 64 bits of order 4 in document 02.
use Rattle.std.specs.Prelude.{ℕ, ◌≡◌, not, length, get_or, ltb, eqb}
use Rattle.std.proofs.Math.Path.{refl, ap}
use Rattle.std.proofs.Common.{sym, ◌∙◌}
use Rattle.std.proofs.Math.Bool.{cond}
use mathlib.Core.List.{List, [], ◌∷◌, append-nil}
use Rattle.numbers.specs.Fields.{laid_out, values_at, Fit}
use Rattle.numbers.proofs.FieldLaws.{values-back, laid-bytes}
use Rattle.book.specs.Decoded.{Decoded, Invalid, Valid}
use Rattle.model.specs.Book.{request_legal}
use Rattle.model.specs.Image.{Bytes}
use Rattle.model.specs.Record.{record_widths, record_size, request_of, event_in, decoded}

-- the six numbers in the order of the record
abbrev pub record_values : ℕ → ℕ → ℕ → ℕ → ℕ → ℕ → List ℕ
record_values player number operation asset kind time = player ∷ number ∷ operation ∷ asset ∷ kind ∷ time ∷ []

-- the record that holds them
unfoldable pub record_bytes : ℕ → ℕ → ℕ → ℕ → ℕ → ℕ → List ℕ
record_bytes player number operation asset kind time = laid_out record_widths (record_values player number operation asset kind time)

-- what the numbers mean: "Order of checks: 2, 1", then the event
unfoldable pub event_of : ℕ → ℕ → ℕ → ℕ → ℕ → ℕ → Decoded
event_of player number operation asset kind time =
    cond (ltb 15 player) (Invalid 2)
    (cond (not (request_legal operation asset kind)) (Invalid 1)
    (Valid (record { player = player; number = number; request = request_of operation asset kind; time = time })))

-- ## The round trip

-- the same for values that are read from a record
abbrev decoded_of : List ℕ → Decoded
decoded_of vs =
    cond (ltb 15 (get_or vs 0 0)) (Invalid 2)
    (cond (not (request_legal (get_or vs 2 0) (get_or vs 3 0) (get_or vs 4 0))) (Invalid 1)
    (Valid (record {
      player = get_or vs 0 0;
      number = get_or vs 1 0;
      request = request_of (get_or vs 2 0) (get_or vs 3 0) (get_or vs 4 0);
      time = get_or vs 5 0;
    })))

module _ (player number operation asset kind time : ℕ) where
  abbrev bytes : List ℕ
  bytes = record_bytes player number operation asset kind time

  pub record-shut : laid_out record_widths (record_values player number operation asset kind time) ≡ bytes
  unfolding record_bytes
  record-shut = refl

  pub record-length : length bytes ≡ record_size
  unfolding record_bytes
  record-length = refl

  -- each number fits its field
  module _ (fit : Fit record_widths (record_values player number operation asset kind time)) where
    pub record-bytes : Bytes bytes
    unfolding record_bytes
    record-bytes = laid-bytes record_widths (record_values player number operation asset kind time) fit

    -- the fields of the record are the numbers
    pub record-values : values_at record_widths 0 bytes ≡ record_values player number operation asset kind time
    unfolding record_bytes
    record-values =
        ap (values_at record_widths 0) (sym (append-nil (laid_out record_widths (record_values player number operation asset kind time))))
        ∙ values-back record_widths 0 (record_values player number operation asset kind time) [] [] refl fit

    -- so the record decodes to the event with these numbers, or to the code that refuses them
    pub record-decodes : decoded bytes ≡ event_of player number operation asset kind time
    unfolding decoded event_in event_of
    record-decodes =
        ap (λ (n : ℕ). cond (not (eqb n record_size)) (Invalid 6) (decoded_of (values_at record_widths 0 bytes))) record-length
        ∙ ap decoded_of record-values
