-- What the definitions give where the scan or a value may fail: a code beside the parts of an attribute, of a tail and of a tag, a test
-- beside a number. The code has a Result or an Option there (`Codes`).
use Rattle.std.specs.Prelude.{ℕ, Bool}

-- An attribute: its name and, between the quotes, its value. Code 0, or 40 or 41 where the scan is stuck; `to` is then how far it
-- looked.
pub record Attribute : Type 0 where
  pub code : ℕ
  pub name : ℕ
  pub end : ℕ
  pub from : ℕ
  pub to : ℕ

-- What follows the name of a tag: its attributes and its end. Form 0 is `>`, 1 is `/>`; next is the place behind it.
pub record Tail : Type 0 where
  pub code : ℕ
  pub form : ℕ
  pub next : ℕ

-- A unit: one tag with the text in front of it. Form 0 is an opening tag, 1 an empty-element tag, 2 an end tag. The text goes from
-- `from` to `at`, the name from `name` to `end`; next is the place behind the tag. Code 0, or 40 or 41 where the scan is stuck; next
-- is then how far it looked.
pub record Tag : Type 0 where
  pub code : ℕ
  pub form : ℕ
  pub from : ℕ
  pub at : ℕ
  pub name : ℕ
  pub end : ℕ
  pub next : ℕ

-- What a text value stands for, if it is accepted.
pub record Value : Type 0 where
  pub valid : Bool
  pub number : ℕ

-- One part of a duration: a number with its letter, if it is there, and the place behind it.
pub record Piece : Type 0 where
  pub there : Bool
  pub number : ℕ
  pub next : ℕ
