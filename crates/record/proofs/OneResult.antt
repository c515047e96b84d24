-- Two results that meet the contract of `decode` are equal, for all bytes.
use Rattle.std.specs.Prelude.{ℕ, ◌≡◌, List, Result, MatchResult}
use Rattle.numbers.proofs.OneResult.{one_of}
use Rattle.book.specs.Codes.{event_code}
use Rattle.book.specs.Decoded.{Invalid, Valid}
use Rattle.book.specs.declared.Event.{Event}
use Rattle.book.specs.declared.EventError.{EventError}
use Rattle.book.proofs.OneNumber.{one-event}
use Rattle.model.specs.Record.{decoded}

-- the clause of the contract
abbrev pub Decodes : List ℕ → Result Event EventError → Type 0
Decodes s result = MatchResult result (λ e. decoded s ≡ Valid e) (λ e. decoded s ≡ Invalid (event_code e))

pub decode : (s : List ℕ) (r r' : Result Event EventError) → Decodes s r → Decodes s r' → r ≡ r'
decode s =
    one_of Valid (λ e. Invalid (event_code e)) (decoded s)
    (λ a b h. cc)
    (λ d e h. let same : event_code d ≡ event_code e = cc in one-event d e same)
    (λ a e h. cc)
