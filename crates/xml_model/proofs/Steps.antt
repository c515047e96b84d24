-- One step after another: the first that is a fault is the result.
use mathlib.Core.Path.{◌≡◌, refl}
use native.Mathlib.Omega.{arith}
use Rattle.xml_model.specs.declared.State.{State}
use Rattle.xml_model.specs.declared.TextError.{TextError}
use Rattle.xml_model.specs.Codes.{text_code}
use Rattle.xml_model.specs.State.{Done, ok, no, and_then}

pub no-then : (e : TextError) (f : State → Done) → no (text_code e) ≡ and_then (no (text_code e)) f
unfolding no and_then
no-then TextError.Malformed f = refl
no-then TextError.Unaccepted f = refl
no-then TextError.TooMany f = refl

pub ok-then : (st : State) (f : State → Done) → f st ≡ and_then (ok st) f
unfolding ok and_then
ok-then st f = refl

-- the number of a refusal is not 0
pub refuses : (e : TextError) → text_code e ≡ 0 → ⊥
refuses TextError.Malformed q = absurd (omega arith)
refuses TextError.Unaccepted q = absurd (omega arith)
refuses TextError.TooMany q = absurd (omega arith)
