-- Two results that meet the contract of `gate_of` are equal, for all arguments, and likewise of `begin_entry`.
use Rattle.std.specs.Prelude.{ℕ, ◌≡◌, Bool, true, Option, Some, is_some, Result, MatchResult}
use Rattle.std.proofs.Common.{sym, ap, ◌∙◌}
use Rattle.numbers.proofs.OneResult.{one_result, one_of}
use Rattle.book.specs.Codes.{event_code}
use Rattle.book.specs.Gate.{Refuse, passed}
use Rattle.book.specs.declared.Admission.{Admission}
use Rattle.book.specs.declared.Event.{Event}
use Rattle.book.specs.declared.EventError.{EventError}
use Rattle.book.specs.declared.Last.{Last}
use Rattle.book.proofs.Codes.{never-granted}
use Rattle.book.proofs.OneNumber.{one-event}
use Rattle.model.specs.Gate.{gate}
use Rattle.rules.specs.Codes.{begin_code}

one-admission : (a b : Admission) → passed a ≡ passed b → a ≡ b
one-admission Admission.Resend b h = resend b h
  where
    resend : (b : Admission) → passed Admission.Resend ≡ passed b → Admission.Resend ≡ b
    resend Admission.Resend h = cc
    resend Admission.Take h = cc
one-admission Admission.Take b h = take b h
  where
    take : (b : Admission) → passed Admission.Take ≡ passed b → Admission.Take ≡ b
    take Admission.Resend h = cc
    take Admission.Take h = cc

never-refused : (a : Admission) (e : EventError) → passed a ≡ Refuse (event_code e) → ⊥
never-refused Admission.Resend e h = cc
never-refused Admission.Take e h = cc

module _ (now : ℕ) (last : Last) (e : Event) where
  -- the clause of the contract
  abbrev pub Admits : Result Admission EventError → Type 0
  Admits result = MatchResult result (λ a. gate now last e ≡ passed a) (λ x. gate now last e ≡ Refuse (event_code x))

  pub gate_of : (r r' : Result Admission EventError) → Admits r → Admits r' → r ≡ r'
  gate_of =
      one_of passed (λ x. Refuse (event_code x)) (gate now last e) one-admission
      (λ x y h. let same : event_code x ≡ event_code y = cc in one-event x y same)
      never-refused

module _ (on usable suits : Bool) (at : Option ℕ) (switched : Bool) where
  -- the clause of the contract
  abbrev pub Begins : Result ℕ EventError → Type 0
  Begins result =
      MatchResult result
      (λ k. (at ≡ Some k) × (begin_code on usable suits true switched ≡ 0))
      (λ e. event_code e ≡ begin_code on usable suits (is_some at) switched)

  pub begin_entry : (r r' : Result ℕ EventError) → Begins r → Begins r' → r ≡ r'
  begin_entry =
      one_result _ _
      (λ k j h i. let same : Some k ≡ Some j = sym h.0 ∙ i.0 in cc)
      (λ d e h i. one-event d e (h ∙ sym i))
      (λ k e h i. never-granted e (i ∙ ap (λ (o : Option ℕ). begin_code on usable suits (is_some o) switched) h.0 ∙ h.1))
