-- The value of an attribute, if the tag has it.
use Rattle.std.specs.Prelude.{◌<◌, ◌≡◌, Option, Some, None, MatchOption, IfSome}
use Rattle.std.proofs.Common.{sym}
use Rattle.xml_model.specs.declared.Range.{Range}
use Rattle.xml_model.specs.Codes.{no_range, as_range}

pub looked : (o : Option Range) (x : Range) → MatchOption o (x ≡ no_range) (λ r. (x ≡ r) × (0 < r.from))
    → (as_range o ≡ x) × IfSome o (λ r. 0 < r.from)
looked None x h = (sym h, tt)
looked (Some r) x h = (sym h.0, h.1)
