-- Where the attribute that a loop has just read lies.
use Rattle.std.specs.Prelude.{ℕ, ◌≡◌, List, length}
use Rattle.std.proofs.Common.{◌∙◌, arith}
use Rattle.xml_model.specs.declared.TextError.{TextError}
use Rattle.xml_model.specs.declared.Fault.{Fault}
use Rattle.xml_model.specs.Shapes.{Attribute}
use Rattle.xml_model.specs.Codes.{text_code, IsFault}
use Rattle.xml_model.specs.Bytes.{spaces, run_end}
use Rattle.xml_model.specs.Tags.{attribute_at}
use Rattle.xml_model.proofs.Runs.{run-from}
use Rattle.xml_model.proofs.Units.{Held, attribute-held}

-- the attribute a at i, where the white space from j on ends, lies behind j
pub held-as : (s : List ℕ) (j i : ℕ) (a : Attribute) → i ≡ run_end spaces s j → a ≡ attribute_at s i → a.code ≡ 0 → Held (length s) j a
held-as s j i a p q o =
    let f = run-from spaces s j in
    let w = rw (← q) at (attribute-held s i (rw q at o)) in
    record {
      named = w.named;
      ended = w.ended;
      filled = w.filled;
      from = w.from;
      moved = omega (arith, w.moved);
      to = w.to;
    }

error-code : (e : TextError) → text_code e ≡ 0 → ⊥
error-code TextError.Malformed e = absurd (omega (arith, e))
error-code TextError.Unaccepted e = absurd (omega (arith, e))
error-code TextError.TooMany e = absurd (omega (arith, e))

-- a fault's code is not 0
pub fault-code : (f : Fault) (code at : ℕ) → IsFault f code at → code ≡ 0 → ⊥
fault-code f code at w e = error-code f.error (w.0 ∙ e)
