-- One law for each return of the code.
use Rattle.std.specs.Prelude.{ℕ, ◌<◌, ◌≤◌, ◌≡◌, List}
use Rattle.std.proofs.Common.{arith}
use borrow.Author.Tests.{eq-eqb, ne_eqb, le-leb, lt-leb}
use Rattle.model.specs.Image.{length_of, write_answer, write_buffer}
use Rattle.fill.specs.Fill.{no_room}
use Rattle.xml_model.specs.Text.{Reading}
use Rattle.xml_model.proofs.Steps.{refuses}
use Rattle.xml_image.specs.declared.ImportError.{ImportError}
use Rattle.xml_image.specs.Results.{import_error}
use Rattle.xml_image.specs.Imported.{Imported, import_code, imported_from, buffer_from}

-- the number of an error is not 0
pub fails : (e : ImportError) → import_error e ≡ 0 → ⊥
fails (ImportError.Text e) q = refuses e q
fails (ImportError.NoRoom e) q = absurd (omega arith)

abbrev pub nothing : ℕ → Imported
nothing c = record { code = c; elements = 0; length = 0 }

module _ (r : Reading) where
  pub refused : (room : ℕ) → (r.code ≡ 0 → ⊥) → nothing r.code ≡ imported_from r room
  unfolding imported_from import_code
  refused room n = rw (ne_eqb _ _ n, ne_eqb _ _ n)

  pub refused-buffer : (old : List ℕ) → (r.code ≡ 0 → ⊥) → old ≡ buffer_from r old
  unfolding buffer_from
  refused-buffer old n = rw (ne_eqb _ _ n)

  pub buffer : (old : List ℕ) → r.code ≡ 0 → write_buffer r.book old ≡ buffer_from r old
  unfolding buffer_from
  buffer old z = rw (eq-eqb _ _ z)

  pub short : (room : ℕ) → r.code ≡ 0 → room < length_of r.book → nothing no_room ≡ imported_from r room
  unfolding imported_from import_code
  short room z h = rw (eq-eqb _ _ z, lt-leb _ _ h)

  pub whole : (room n : ℕ) → r.code ≡ 0 → length_of r.book ≤ room → write_answer r.book room ≡ n
      → record { code = 0; elements = r.elements; length = n } ≡ imported_from r room
  unfolding imported_from import_code write_answer
  whole room n z h e = let q = rw (le-leb _ _ h) at e in rw (eq-eqb _ _ z, le-leb _ _ h, q)
