-- What each exit of `rights_from_xml` leaves is what `FromXml` says.
use Prim.Native.Nat.{ℕ}
use mathlib.Core.Path.{◌≡◌, refl, sym, ap, ◌∙◌}
use mathlib.Core.Bool.{Bool, true, false, cond}
use mathlib.Core.List.{List}
use lib.ListN.{length}
use lib.Dec.{eqb, leb}
use borrow.Author.Tests.{ne_eqb}
use Rattle.model.specs.Image.{length_of, write_buffer}
use Rattle.fill.specs.Fill.{no_room}
use Rattle.xml_model.specs.Text.{Reading}
use Rattle.xml_image.specs.Imported.{Imported, import_code, imported_from, buffer_from, imported, import_buffer}
use Rattle.embed.specs.FromXml.{xml_code, xml_image, xml_size, xml_elements}

-- a text that is refused, and an image that does not fit, leave the buffer
kept : (accepted fits : Bool) (code : ℕ) (x old : List ℕ) → (cond accepted (cond fits 0 no_room) code ≡ 0 → ⊥)
    → cond accepted (cond fits x old) old ≡ old
kept true true code x old n = absurd (n refl)
kept true false code x old n = refl
kept false fits code x old n = refl

buffer-kept : (r : Reading) (old : List ℕ) → (import_code r (length old) ≡ 0 → ⊥) → buffer_from r old ≡ old
unfolding import_code buffer_from write_buffer
buffer-kept r old n = kept (eqb r.code 0) (leb (length_of r.book) (length old)) r.code _ old n

-- buffer', size and elements are what is lent after a call that returns code
module _ (text buffer : List ℕ) (size₀ elements₀ : ℕ) where
  abbrev pub FromXml : ℕ → List ℕ → ℕ → ℕ → Type 0
  FromXml code buffer' size elements =
      (code ≡ xml_code text buffer)
      × ((buffer' ≡ xml_image text buffer)
      × ((size ≡ xml_size text buffer size₀) × (elements ≡ xml_elements text buffer elements₀)))

  pub xml-refused :
      (r : Imported) (buffer' : List ℕ) → r ≡ imported text (length buffer) → (r.code ≡ 0 → ⊥)
      → buffer' ≡ import_buffer text buffer → FromXml r.code buffer' size₀ elements₀
  unfolding imported imported_from import_buffer xml_code xml_image xml_size xml_elements
  xml-refused r buffer' e n w =
      let c : r.code ≡ xml_code text buffer = ap (λ (x : Imported). x.code) e in
      let f = ne_eqb (xml_code text buffer) 0 (λ z. n (c ∙ z)) in
      (c, (rw f (w ∙ buffer-kept _ buffer (λ z. n (c ∙ z))), (rw f refl, rw f refl)))

  pub xml-made :
      (r : Imported) (buffer' : List ℕ) → r ≡ imported text (length buffer) → r.code ≡ 0
      → buffer' ≡ import_buffer text buffer → FromXml 0 buffer' r.length r.elements
  unfolding xml_code xml_image xml_size xml_elements
  xml-made r buffer' e z w =
      let c : xml_code text buffer ≡ 0 = sym (ap (λ (x : Imported). x.code) e) ∙ z in
      (sym c, (rw c w, (rw c (ap (λ (x : Imported). x.length) e), rw c (ap (λ (x : Imported). x.elements) e))))
