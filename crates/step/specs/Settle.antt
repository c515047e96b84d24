-- Settling as the loop over the book sees it: players 0 to i - 1 are settled, the others are as they were.
use Rattle.std.specs.Prelude.{ℕ, suc, ◌+◌, ◌<◌, ◌≤◌, ◌≡◌, refl, Bool, true, false, cond, List, [], ◌∷◌, ◌++◌, map, length, set, take, drop}
use Rattle.std.proofs.Common.{sym, ap, ap₂, ◌∙◌, append_assoc, append-nil, length-set, drop_of_length-le, take-suc, drop-cons, length-take-le, take_all, add-one, arith}
use Rattle.std.proofs.lemmas.List.{length-map, set_at, get_or_at}
use Rattle.std.proofs.Math.Seq.{set_out}
use Rattle.book.specs.declared.Entry.{Entry}
use Rattle.book.specs.declared.Open.{Open}
use Rattle.book.specs.declared.Player.{Player}
use Rattle.book.specs.declared.Book.{Book}
use Rattle.book.specs.Blank.{no_player}
use Rattle.book.specs.Changed.{changed}
use Rattle.model.specs.Book.{player_at}
use Rattle.model.specs.Meters.{shut, expired, amend, ended, released, settled_from, settled}
use Rattle.model.specs.Step.{open_at}
use Rattle.model.proofs.Ledger.Concrete.{settled-both}

-- a book with other entries and players
abbrev pub with : Book → List Entry → List Player → Book
with b es ps = changed b b.time b.latest es ps

-- all players settled at t
unfoldable pub settled_book : ℕ → Book → Book
settled_book t b = with b (settled t b.players b.entries) (map (shut t) b.players)

-- the first i of them
unfoldable pub settled_to : ℕ → ℕ → Book → Book
settled_to t i b = with b (settled t (take i b.players) b.entries) (map (shut t) (take i b.players) ++ drop i b.players)

map-append : {A B : Type 0} (f : A → B) (xs ys : List A) → map f (xs ++ ys) ≡ map f xs ++ map f ys
map-append f [] ys = refl
map-append f (x ∷ xs) ys = ap (λ (r : List _). f x ∷ r) (map-append f xs ys)

settled-next : (t i : ℕ) (ps : List Player) (es : List Entry) → i < length ps
    → settled t (take (i + 1) ps) es ≡ released t i (open_at ps i) (settled t (take i ps) es)
unfolding settled_from
settled-next t i ps es h =
    let n : 0 + length (take i ps) ≡ i = omega (arith, length-take-le i ps (omega arith)) in
    rw (add-one, take-suc ps i no_player h)
    (settled-both t 0 (take i ps) (player_at ps i ∷ []) es
    ∙ ap (λ (q : ℕ). released t q (open_at ps i) (settled t (take i ps) es)) n)

mapped-length : (t i : ℕ) (ps : List Player) → i < length ps → length (map (shut t) (take i ps)) ≡ i
mapped-length t i ps h = length-map (take i ps) (shut t) ∙ length-take-le i ps (omega arith)

pub player-next : (t i : ℕ) (ps : List Player) → i < length ps
    → player_at (map (shut t) (take i ps) ++ drop i ps) i ≡ player_at ps i
player-next t i ps h =
    rw (drop-cons ps i no_player h)
    (get_or_at (map (shut t) (take i ps)) (player_at ps i) (drop (suc i) ps) no_player i (mapped-length t i ps h))

players-next : (t i : ℕ) (ps : List Player) → i < length ps
    → set (map (shut t) (take i ps) ++ drop i ps) i (shut t (player_at ps i)) ≡ map (shut t) (take (i + 1) ps) ++ drop (i + 1) ps
players-next t i ps h =
    let one : map (shut t) (take (suc i) ps) ≡ map (shut t) (take i ps) ++ (shut t (player_at ps i) ∷ []) = rw (take-suc ps i no_player h)
    (map-append (shut t) (take i ps) (player_at ps i ∷ [])) in
    rw (add-one, one, drop-cons ps i no_player h)
    (set_at (map (shut t) (take i ps)) (player_at ps i) (drop (suc i) ps) (shut t (player_at ps i)) i (mapped-length t i ps h)
    ∙ sym (append_assoc (map (shut t) (take i ps)) (shut t (player_at ps i) ∷ []) (drop (suc i) ps)))

-- player i of a book settled
abbrev pub settle_one : ℕ → ℕ → Book → Book
settle_one t i n = with n (released t i (open_at n.players i) n.entries) (set n.players i (shut t (player_at n.players i)))

-- one turn of the loop
pub settle-turn : (t i : ℕ) (b : Book) → i < length b.players → settle_one t i (settled_to t i b) ≡ settled_to t (i + 1) b
unfolding settled_to
settle-turn t i b h =
    let ps = b.players in
    let m = map (shut t) (take i ps) ++ drop i ps in
    let es = settled t (take i ps) b.entries in
    ap₂ (with b)
    (ap (λ (x : Player). released t i x.current es) (player-next t i ps h) ∙ sym (settled-next t i ps b.entries h))
    (ap (λ (x : Player). set m i (shut t x)) (player-next t i ps h) ∙ players-next t i ps h)

pub settle-none : (t : ℕ) (b : Book) → b ≡ settled_to t 0 b
unfolding settled_to settled_from
settle-none t b = refl

pub settle-all : (t : ℕ) (b n : Book) (i : ℕ) → n ≡ settled_to t i b → length b.players ≤ i → n ≡ settled_book t b
unfolding settled_to settled_book
settle-all t b n i e h = e ∙ rw (take_all i b.players h, drop_of_length-le b.players h, append-nil)

-- a use of a position that no book has changes nothing
pub released-out : (t p : ℕ) (o : Open) (es : List Entry) → length es ≤ o.entry → released t p o es ≡ es
unfolding released amend
released-out t p o es h = go (expired t o)
  where
    go : (w : Bool) → cond w (amend o.entry (ended p o.begin o.until o.until) es) es ≡ es
    go true = set_out es o.entry _ h
    go false = refl
