-- A fault and a tag are known by their numbers: no two errors and no two forms of a tag have the same one.
use Rattle.std.specs.Prelude.{ℕ, ◌≡◌, List, [], ◌∷◌, Some}
use Rattle.std.proofs.Common.{refl, sym, ap, ap₂, ◌∙◌}
use Rattle.numbers.proofs.OneResult.{One, numbered, one_number}
use Rattle.xml_model.specs.declared.TextError.{TextError}
use Rattle.xml_model.specs.declared.Form.{Form}
use Rattle.xml_model.specs.declared.Tag.{Tag}
use Rattle.xml_model.specs.Codes.{text_code, form_code, IsFault, as_tag}
use Rattle.xml_model.specs.Shapes as S

text_errors : List TextError
text_errors = TextError.Malformed ∷ TextError.Unaccepted ∷ TextError.TooMany ∷ []

text-found : (e : TextError) → numbered text_code text_errors (text_code e) ≡ Some e
unfolding text_errors
text-found TextError.Malformed = refl
text-found TextError.Unaccepted = refl
text-found TextError.TooMany = refl

-- that none has 0 is `refuses` of proofs/Steps
pub one-text : (d e : TextError) → text_code d ≡ text_code e → d ≡ e
one-text = one_number text_code text_errors text-found

forms : List Form
forms = Form.Open ∷ Form.Empty ∷ Form.End ∷ []

form-found : (f : Form) → numbered form_code forms (form_code f) ≡ Some f
unfolding forms
form-found Form.Open = refl
form-found Form.Empty = refl
form-found Form.End = refl

pub one-form : (f g : Form) → form_code f ≡ form_code g → f ≡ g
one-form = one_number form_code forms form-found

pub one-fault : (code at : ℕ) → One (λ f. IsFault f code at)
one-fault code at f g h k =
    ap₂ (λ (e : TextError) (i : ℕ). record { error = e; at = i }) (one-text f.error g.error (h.0 ∙ sym k.0)) (h.1 ∙ sym k.1)

-- the tag of that form, with the other fields of a tag of the definitions
tag-from : S.Tag → Form → Tag
tag-from x f = record { form = f; from = x.from; at = x.at; name = x.name; end = x.end; next = x.next }

pub one-tag : (x : S.Tag) → One (λ t. as_tag t ≡ x)
unfolding tag-from
one-tag x t u h k =
    let e : as_tag t ≡ as_tag u = h ∙ sym k in
    ap₂ tag-from e (one-form t.form u.form (ap (λ (y : S.Tag). y.form) e))
