-- Two results that meet the contract of `look` are equal, for every text and every place, and likewise of `stuck` and `unit_at`.
use Rattle.std.specs.Prelude.{ℕ, ◌≡◌, ◌<◌, List, Option, Result, MatchOption}
use Rattle.std.proofs.Common.{sym, ap, ◌∙◌, arith}
use Rattle.numbers.proofs.OneResult.{one_result, one_option}
use Rattle.xml_model.specs.declared.Fault.{Fault}
use Rattle.xml_model.specs.declared.Range.{Range}
use Rattle.xml_model.specs.declared.Tag.{Tag}
use Rattle.xml_model.specs.Shapes as S
use Rattle.xml_model.specs.Bytes as B
use Rattle.xml_model.specs.Codes.{IsFault, IsTag, as_tag, no_range}
use Rattle.xml_model.specs.Tags as T
use Rattle.xml_model.proofs.OneNumber.{one-fault, one-tag}
use Rattle.xml_scan.specs.Attributes.{fault-code}

module _ (s name : List ℕ) (first : ℕ) where
  -- the clause of the contract
  abbrev pub Looks : Option Range → Type 0
  Looks result = MatchOption result (T.look s name first ≡ no_range) (λ r. (T.look s name first ≡ r) × (0 < r.from))

  pub look : (r r' : Option Range) → Looks r → Looks r' → r ≡ r'
  look =
      one_option _ _
      (λ x y h k. sym h.0 ∙ k.0)
      (λ x h k. let e : x.from ≡ 0 = ap (λ (r : Range). r.from) (sym k.0 ∙ h) in omega (arith, e, k.1))

-- that tag, or the fault that it tells
one-unit : (x : S.Tag) (r r' : Result Tag Fault) → IsTag r x → IsTag r' x → r ≡ r'
one-unit x =
    one_result (λ t. as_tag t ≡ x) (λ f. IsFault f x.code x.next) (one-tag x) (one-fault x.code x.next)
    (λ t f h k. fault-code f x.code x.next k (ap (λ (y : S.Tag). y.code) (sym h)))

module _ (s : List ℕ) (i : ℕ) where
  -- the clause of the contract
  abbrev pub Sticks : Fault → Type 0
  Sticks result = IsFault result (B.stuck s i) (B.looked s i)

  pub stuck : (f f' : Fault) → Sticks f → Sticks f' → f ≡ f'
  stuck = one-fault (B.stuck s i) (B.looked s i)

  -- the clause of the contract
  abbrev pub Units : Result Tag Fault → Type 0
  Units result = IsTag result (T.unit_at s i)

  pub unit_at : (r r' : Result Tag Fault) → Units r → Units r' → r ≡ r'
  unit_at = one-unit (T.unit_at s i)
