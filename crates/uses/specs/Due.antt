-- Whether any player's use is due, and that settling changes nothing if none is.
use Rattle.std.specs.Prelude.{ℕ, zero, suc, ◌+◌, ◌≤◌, ◌≡◌, refl, Bool, false, ◌||◌, List, [], ◌∷◌, map, length}
use Rattle.std.specs.List.{list_any}
use Rattle.std.proofs.Common.{sym, ap₂, ap, ◌∙◌, arith, add-one}
use Rattle.std.proofs.Math.Bool.{or-false, or_assoc}
use Rattle.numbers.proofs.Tests.{neither}
use Rattle.book.specs.declared.Entry.{Entry}
use Rattle.book.specs.declared.Player.{Player}
use Rattle.book.specs.declared.Open.{Open}
use Rattle.model.specs.Book.{player_at}
use Rattle.model.specs.Choice.{any_of}
use Rattle.model.specs.Meters.{expired, shut, released, settled_from, settled}

unfoldable pub due_at : ℕ → List Player → ℕ → Bool
due_at t ps i = expired t (player_at ps i).current

-- of the sixteen players
unfoldable pub any_due : ℕ → List Player → Bool
any_due t ps = any_of (due_at t ps) 16

-- a turn of the loop
pub any-of-next : (f : ℕ → Bool) (n : ℕ) → any_of f (n + 1) ≡ (any_of f n || f n)
unfolding any_of
any-of-next f n = rw add-one

-- the first separated from the others
any-of-first : (f : ℕ → Bool) (n : ℕ) → any_of f (suc n) ≡ (f 0 || any_of (λ i. f (suc i)) n)
unfolding any_of
any-of-first f zero = sym (or-false (f 0))
any-of-first f (suc n) =
    ap (λ (a : Bool). a || f (suc n)) (any-of-first f n) ∙ or_assoc (f 0) (any_of (λ i. f (suc i)) n) (f (suc n))

-- the test of each player in turn
any-listed : (t : ℕ) (ps : List Player) → list_any (λ (p : Player). expired t p.current) ps ≡ any_of (due_at t ps) (length ps)
unfolding due_at any_of
any-listed t [] = refl
any-listed t (p ∷ ps) =
    ap (λ (b : Bool). expired t p.current || b) (any-listed t ps) ∙ sym (any-of-first (due_at t (p ∷ ps)) (length ps))

pub due-listed : (t : ℕ) (ps : List Player) → length ps ≡ 16 → list_any (λ (p : Player). expired t p.current) ps ≡ any_due t ps
unfolding any_due
due-listed t ps h = any-listed t ps ∙ ap (any_of (due_at t ps)) h

shut-same : (t : ℕ) (p : Player) → expired t p.current ≡ false → shut t p ≡ p
unfolding shut
shut-same t p h = rw h

released-same : (t q : ℕ) (o : Open) (es : List Entry) → expired t o ≡ false → released t q o es ≡ es
unfolding released
released-same t q o es h = rw h

none_from :
    (t q : ℕ) (ps : List Player) (es : List Entry) (n : ℕ) →
    length ps ≤ n →
    any_of (due_at t ps) n ≡ false →
    (map (shut t) ps ≡ ps) × (settled_from t q ps es ≡ es)
unfolding due_at settled_from
none_from t q [] es n h e = (refl, refl)
none_from t q (p ∷ ps) es zero h e = absurd (omega arith)
none_from t q (p ∷ ps) es (suc n) h e =
    let d = neither (expired t p.current) (any_of (due_at t ps) n) (sym (any-of-first (due_at t (p ∷ ps)) n) ∙ e) in
    let rest = none_from t (suc q) ps es n (omega arith) d.1 in (
      ap₂ (λ (q : Player) (qs : List Player). q ∷ qs) (shut-same t p d.0) rest.0,
      ap (λ (l : List Entry). settled_from t (suc q) ps l) (released-same t q p.current es d.0) ∙ rest.1,
    )

-- "each open use of any player with until ≤ t ends": none, so settling leaves players and entries as they are
pub none-due :
    (t : ℕ) (ps : List Player) (es : List Entry) →
    length ps ≡ 16 →
    any_due t ps ≡ false →
    (map (shut t) ps ≡ ps) × (settled t ps es ≡ es)
unfolding any_due
none-due t ps es h e = none_from t 0 ps es 16 (omega arith) e
