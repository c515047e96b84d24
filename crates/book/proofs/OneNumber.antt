-- No two kinds and no two refusals have the same number, and none has 0, the number of a grant.
use Rattle.std.specs.Prelude.{◌≡◌, List, [], ◌∷◌, Some}
use Rattle.std.proofs.Common.{refl}
use Rattle.numbers.proofs.OneResult.{numbered, one_number, no_number}
use Rattle.book.specs.declared.Kind.{Kind}
use Rattle.book.specs.declared.EventError.{EventError}
use Rattle.book.specs.declared.ImageError.{ImageError}
use Rattle.book.specs.Codes.{kind_code, event_code, image_code}

kinds : List Kind
kinds = Kind.Play ∷ Kind.Display ∷ Kind.Execute ∷ Kind.Print ∷ Kind.Export ∷ []

kind-found : (k : Kind) → numbered kind_code kinds (kind_code k) ≡ Some k
unfolding kinds
kind-found Kind.Play = refl
kind-found Kind.Display = refl
kind-found Kind.Execute = refl
kind-found Kind.Print = refl
kind-found Kind.Export = refl

pub one-kind : (k l : Kind) → kind_code k ≡ kind_code l → k ≡ l
one-kind = one_number kind_code kinds kind-found

event_errors : List EventError
event_errors =
    EventError.Request
    ∷ EventError.Player
    ∷ EventError.OutOfLine
    ∷ EventError.OtherRequest
    ∷ EventError.Time
    ∷ EventError.Length
    ∷ EventError.Unusable
    ∷ EventError.AlreadyOpen
    ∷ EventError.Unsuitable
    ∷ EventError.Spent
    ∷ EventError.NotOpen
    ∷ EventError.NoMore
    ∷ EventError.Lines
    ∷ EventError.SwitchOff
    ∷ EventError.TooLate
    ∷ []

event-found : (e : EventError) → numbered event_code event_errors (event_code e) ≡ Some e
unfolding event_errors
event-found EventError.Request = refl
event-found EventError.Player = refl
event-found EventError.OutOfLine = refl
event-found EventError.OtherRequest = refl
event-found EventError.Time = refl
event-found EventError.Length = refl
event-found EventError.Unusable = refl
event-found EventError.AlreadyOpen = refl
event-found EventError.Unsuitable = refl
event-found EventError.Spent = refl
event-found EventError.NotOpen = refl
event-found EventError.NoMore = refl
event-found EventError.Lines = refl
event-found EventError.SwitchOff = refl
event-found EventError.TooLate = refl

-- that none has 0 is `never-granted` of proofs/Codes
pub one-event : (d e : EventError) → event_code d ≡ event_code e → d ≡ e
one-event = one_number event_code event_errors event-found

image_errors : List ImageError
image_errors =
    ImageError.Length
    ∷ ImageError.Mark
    ∷ ImageError.Version
    ∷ ImageError.Header
    ∷ ImageError.Assets
    ∷ ImageError.Entries
    ∷ ImageError.Players
    ∷ ImageError.Meters
    ∷ []

image-found : (e : ImageError) → numbered image_code image_errors (image_code e) ≡ Some e
unfolding image_errors
image-found ImageError.Length = refl
image-found ImageError.Mark = refl
image-found ImageError.Version = refl
image-found ImageError.Header = refl
image-found ImageError.Assets = refl
image-found ImageError.Entries = refl
image-found ImageError.Players = refl
image-found ImageError.Meters = refl

pub one-image : (d e : ImageError) → image_code d ≡ image_code e → d ≡ e
one-image = one_number image_code image_errors image-found

pub image-some : (e : ImageError) → image_code e ≡ 0 → ⊥
unfolding image_errors
image-some = no_number image_code image_errors image-found 0 refl
