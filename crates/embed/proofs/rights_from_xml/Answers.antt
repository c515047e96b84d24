-- `embed::rights_from_xml` meets its contract: each of its exits leaves what `FromXml` says.
use mathlib.Core.Path.{refl, ◌∙◌}
use Rattle.xml_image.specs.ImportLaws.{fails}
use Rattle.embed.proofs.XmlLeft.{xml-refused, xml-made}
use Rattle.embed.proofs.rights_from_xml.Goals as goal

pub returns-in-Err : goal.returns-in-Err
returns-in-Err c =
    let a = c.args in
    let x =
    xml-refused a.text.now a.image.now a.size.now a.elements.now _ _
    c.in-Err.ensures.value (fails c.in-Err.e) c.import_text.ensures.image_after in
    record { value = c.from.ensures ∙ x.0; image_after = x.1.0; size_after = x.1.1.0; elements_after = x.1.1.1 }

pub returns-in-Ok : goal.returns-in-Ok
returns-in-Ok c =
    let a = c.args in
    let x =
    xml-made a.text.now a.image.now a.size.now a.elements.now _ _
    c.in-Ok.ensures.value refl c.import_text.ensures.image_after in
    record { value = x.0; image_after = x.1.0; size_after = x.1.1.0; elements_after = x.1.1.1 }
