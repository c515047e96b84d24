-- When the use of each player ends, kept beside the book: one comparison then tells whether a use is due.
use Rattle.std.specs.Prelude.{ℕ, ◌≤◌, ◌≡◌, refl, Bool, true, false, ◌&&◌, cond, leb}
use Rattle.std.proofs.Common.{arith}
use Rattle.std.proofs.lemmas.Bool.{lt-leb}
use Rattle.book.specs.declared.Open.{Open}
use Rattle.book.specs.declared.Player.{Player}
use Rattle.model.specs.Book.{latest_time}
use Rattle.model.specs.Meters.{is_on, expired}

-- later than any until
abbrev pub never : ℕ
never = 4294967295

-- when a use ends, if there is one
abbrev pub end_of : Open → ℕ
end_of o = cond (is_on o) o.until never

abbrev pub end_of_player : Player → ℕ
end_of_player p = end_of p.current

-- a use is due when its end is reached
pub end-reached : (t : ℕ) (o : Open) → t ≤ latest_time → leb (end_of o) t ≡ expired t o
unfolding expired
end-reached t o h = by-mark (is_on o)
  where
    by-mark : (w : Bool) → leb (cond w o.until never) t ≡ (w && leb o.until t)
    by-mark true = refl
    by-mark false = lt-leb never t (omega arith)
