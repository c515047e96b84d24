-- The codes of a call: 0, or the number of what made it fail.
use Rattle.std.specs.Prelude.{ℕ, ◌≡◌, ◌≢◌, Bool, true, false, cond, Option, None, Some, Result, Ok, Err, List, [], MatchResult}
use Rattle.book.specs.declared.Book.{Book}
use Rattle.book.specs.Codes.{image_code}
use Rattle.model.specs.Image.{read_code}
use Rattle.fill.specs.Fill.{no_room}
use Rattle.embed.specs.declared.Failure.{Failure}
use Rattle.embed.specs.Calls.{held_book}
use Rattle.embed.specs.Seen.{absent, seen_code, seen_out}

abbrev pub failure_code : Failure → ℕ
failure_code (Failure.Image e) = image_code e
failure_code Failure.NoRoom = no_room
failure_code Failure.Absent = absent

abbrev pub result_code : {A : Type 0} → Result A Failure → ℕ
result_code (Ok x) = 0
result_code (Err f) = failure_code f

-- a part of what a call hands on; what was there before if it failed
abbrev pub result_or : {A B : Type 0} → Result A Failure → (A → B) → B → B
result_or (Ok x) part old = part x
result_or (Err f) part old = old

-- the book in an image, or why the image is refused
abbrev pub Loads : List ℕ → Result Book Failure → Type 0
Loads s r =
    MatchResult r
    (λ b. (read_code s ≡ 0) × (b ≡ held_book s))
    (λ f. (failure_code f ≡ read_code s) × (read_code s ≢ 0))

-- ## A view: what it finds in the book, and what is returned and left for that

abbrev pub found : {A : Type 0} → Bool → A → Option A
found there x = cond there (Some x) None

-- the numbers are the items of what is found
module _ {A : Type 0} (items : A → List ℕ) where
  abbrev pub viewed_code : List ℕ → Option A → ℕ → ℕ
  viewed_code s (Some x) room = seen_code s true (items x) room
  viewed_code s None room = seen_code s false [] room

  abbrev pub viewed_out : List ℕ → Option A → List ℕ → List ℕ
  viewed_out s (Some x) old = seen_out s true (items x) old
  viewed_out s None old = seen_out s false [] old
