-- `xml_image::import_text` meets its contract, by a law for each return.
use mathlib.Core.Path.{◌≡◌, refl, sym, ap, ◌∙◌}
use lib.ListN.{length}
use Rattle.std.proofs.lemmas.Result.{err_from_is_err_and}
use Rattle.xml_model.specs.Text.{Reading}
use Rattle.xml_model.proofs.Steps.{refuses}
use Rattle.xml_image.specs.Imported.{imported_from, buffer_from, imported, import_buffer}
use Rattle.xml_image.specs.ImportLaws.{refused, refused-buffer, buffer, short, whole}
use Rattle.xml_image.proofs.import_text.Goals as goal

pub returns-in_err-r-clause-value : goal.returns-in_err-r-clause-value
unfolding imported
returns-in_err-r-clause-value c =
    let p = err_from_is_err_and c.from_residual.result c.from_residual.ensures.1 in
    rw (p.1, p.2, ← c.in_err-r.ensures) (refused _ _ (refuses _))

pub returns-in_err-r-clause-image_after : goal.returns-in_err-r-clause-image_after
unfolding import_buffer
returns-in_err-r-clause-image_after c = rw (← c.in_err-r.ensures) (refused-buffer _ _ (refuses _))

pub returns-in_err-length-clause-value : goal.returns-in_err-length-clause-value
unfolding imported
returns-in_err-length-clause-value c =
    let p = err_from_is_err_and c.from_residual-in_err-length.result c.from_residual-in_err-length.ensures.1 in
    rw (p.1, p.2, ← c.in_ok-r.ensures) (short _ _ refl c.in_err-length.ensures.value.0)

pub returns-in_err-length-clause-image_after : goal.returns-in_err-length-clause-image_after
unfolding import_buffer
returns-in_err-length-clause-image_after c = rw (← c.in_ok-r.ensures) (c.write.ensures.buf_after ∙ buffer _ _ refl)

pub returns-clause-value : goal.returns-clause-value
unfolding imported
returns-clause-value c = rw (← c.in_ok-r.ensures) (whole _ _ _ refl c.in_ok-length.ensures.value.0 c.in_ok-length.ensures.value.1)

pub returns-clause-image_after : goal.returns-clause-image_after
unfolding import_buffer
returns-clause-image_after c = rw (← c.in_ok-r.ensures) (c.write.ensures.buf_after ∙ buffer _ _ refl)
