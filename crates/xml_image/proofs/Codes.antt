-- The laws of the returns of an accepted text by the codes of document 01: what writing the image returns tells whether it has room.
use Rattle.std.specs.Prelude.{ℕ, ◌≡◌, Bool}
use Rattle.std.proofs.Math.Path.{refl}
use Rattle.std.proofs.Math.Bool.{true, false, cond}
use Rattle.std.proofs.Common.{arith}
use Rattle.std.proofs.Math.Dec.{leb}
use borrow.Author.Tests.{eq-eqb}
use Rattle.model.specs.Image.{length_of, write_answer}
use Rattle.model.proofs.Image.RoundTrip.{demand2}
use Rattle.fill.specs.Fill.{no_room}
use Rattle.xml_model.specs.Text.{Reading}
use Rattle.xml_image.specs.Imported.{import_code, imported_from}
use Rattle.xml_image.specs.ImportLaws.{nothing}

module _ (r : Reading) where
  pub short : (room : ℕ) → r.code ≡ 0 → write_answer r.book room ≡ 30 → nothing no_room ≡ imported_from r room
  unfolding imported_from import_code write_answer
  short room z = by (leb (length_of r.book) room) refl
    where
      by : (b : Bool) → leb (length_of r.book) room ≡ b → cond b (length_of r.book) 30 ≡ 30 → nothing no_room ≡ imported_from r room
      by true q e = absurd (omega (arith, (demand2.length_bounds r.book).0))
      by false q e = rw (eq-eqb _ _ z, q)

  pub whole : (room : ℕ) → r.code ≡ 0 → (write_answer r.book room ≡ 30 → ⊥)
      → record { code = 0; elements = r.elements; length = write_answer r.book room } ≡ imported_from r room
  unfolding imported_from import_code write_answer
  whole room z = by (leb (length_of r.book) room) refl
    where
      by : (b : Bool) → leb (length_of r.book) room ≡ b → (cond b (length_of r.book) 30 ≡ 30 → ⊥)
          → record { code = 0; elements = r.elements; length = cond b (length_of r.book) 30 } ≡ imported_from r room
      by true q n = rw (eq-eqb _ _ z, q)
      by false q n = absurd (n refl)
