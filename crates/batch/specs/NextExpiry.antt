-- A lower bound of the next until: no open use ends before it. While the time is below it, settling changes nothing.
use Rattle.std.specs.Prelude.{ℕ, zero, suc, ◌+◌, ◌<◌, ◌≤◌, min, ◌≡◌, refl, Bool, true, false, not, ◌&&◌, cond, List, [], ◌∷◌, map, get_or, set, take, leb, ltb}
use Rattle.std.proofs.Common.{sym, ◌∙◌, ⊎_elim, get_or-set_same, get_or-set_other, take_all, add-one, lt-ltb, le-leb, le-ltb, leb-true, leb-false}
use Rattle.std.proofs.Math.Path.{ap, subst}
use Rattle.std.proofs.lemmas.Bool.{false≢true, lt-leb}
use Rattle.std.proofs.Math.ListN.{length, length-map, get_or-map, get_or-eq_default}
use Rattle.std.proofs.Math.Seq.{map-set_same}
use Rattle.std.proofs.Math.Nat.{min-le_left, min-le_right}
use native.Mathlib.Omega.{arith}
use Rattle.book.specs.declared.Line.{Line}
use Rattle.book.specs.declared.Open.{Open}
use Rattle.book.specs.declared.Player.{Player}
use Rattle.book.specs.declared.Book.{Book}
use Rattle.book.specs.Blank.{no_player}
use Rattle.model.specs.Book.{player_at, latest_time}
use Rattle.model.specs.Meters.{is_on, expired, shut}
use Rattle.model.specs.Step.{open_at}
use Rattle.model.specs.Choice.{any_of}
use Rattle.model.specs.Report.{overdue, recorded_all}
use Rattle.numbers.proofs.Tests.{on_test, and_left, and_right}
use Rattle.uses.specs.Due.{due_at, any_due}
use Rattle.index.specs.Mapped.{mapped_at, mapped-set}
use Rattle.index.specs.Ends.{never, end_of, end_of_player, end-reached}
use Rattle.text.specs.Digits.{below}
use Rattle.step.specs.Settle.{settled_book, settled_to, settle-all, player-next}
use Rattle.model.proofs.Ledger.Concrete.{settled-size}
use Rattle.step.specs.Step.{settled-none}

-- no use of these players ends before n
abbrev Late : ℕ → Player → Type 0
Late n p = is_on p.current ≡ true → n ≤ p.current.until

abbrev pub NextExpiry : ℕ → List Player → Type 0
NextExpiry n ps = (i : ℕ) → Late n (player_at ps i)

-- the end of a use that settling at t leaves open
unfoldable pub runs_until : ℕ → Open → ℕ
runs_until t o = cond (is_on o && ltb t o.until) o.until never

-- the least of these over the first n players
unfoldable pub least_end : ℕ → List Player → ℕ → ℕ
least_end t ps zero = never
least_end t ps (suc n) = min (least_end t ps n) (runs_until t (open_at ps n))

pub expiry-start : (ps : List Player) → NextExpiry 0 ps
expiry-start ps i on = omega arith

any_none : (f : ℕ → Bool) → ((i : ℕ) → f i ≡ false) → (n : ℕ) → any_of f n ≡ false
unfolding any_of
any_none f h zero = refl
any_none f h (suc n) = rw (any_none f h n) (h n)

not-due : (t : ℕ) (o : Open) (w : Bool) → is_on o ≡ w → (w ≡ true → t < o.until) → (w && leb o.until t) ≡ false
not-due t o true e h = lt-leb o.until t (h refl)
not-due t o false e h = refl

pub expiry-settled : (t n : ℕ) (b : Book) → NextExpiry n b.players → t < n → length b.players ≡ 16 → b ≡ settled_book t b
unfolding any_due due_at expired
expiry-settled t n b q h l =
    settled-none t b l
    (any_none (due_at t b.players)
    (λ i. not-due t (open_at b.players i) (is_on (open_at b.players i)) refl (λ on. omega (arith, q i on)))
    16)

pub end-next : (t : ℕ) (ps : List Player) (n : ℕ) → least_end t ps (n + 1) ≡ min (least_end t ps n) (runs_until t (open_at ps n))
unfolding least_end
end-next t ps n = rw add-one

least_under : (t : ℕ) (ps : List Player) (n i : ℕ) → i < n → least_end t ps n ≤ runs_until t (open_at ps i)
unfolding least_end
least_under t ps zero i h = absurd (omega arith)
least_under t ps (suc n) i h =
    let a = min-le_left (least_end t ps n) (runs_until t (open_at ps n)) in
    let z = min-le_right (least_end t ps n) (runs_until t (open_at ps n)) in
    ⊎_elim (λ lt. omega (arith, least_under t ps n i lt)) (λ ge. let e : i ≡ n = omega arith in rw e z) (below i n)

-- a use that settling leaves open
left_open : (t n : ℕ) (o : Open) (w : Bool) → is_on o && leb o.until t ≡ w → n ≤ runs_until t o → is_on
    (cond w (record { on = 0; entry = 0; begin = 0; until = 0; content = 0 }) o) ≡ true → n ≤ (cond w
    (record { on = 0; entry = 0; begin = 0; until = 0; content = 0 }) o).until
unfolding runs_until
left_open t n o true e h on = absurd (false≢true on)
left_open t n o false e h on =
    ⊎_elim (λ lt. let z : (is_on o && ltb t o.until) ≡ true = rw (on) (lt-ltb t o.until lt) in rw z at h)
    (λ ge. let z : true ≡ false = sym (rw (on) (le-leb o.until t ge)) ∙ e in absurd (false≢true (sym z)))
    (below t o.until)

blank-off : (t : ℕ) → shut t no_player ≡ no_player
unfolding shut expired
blank-off t = refl

-- the bound after settling
pub expiry-least : (t : ℕ) (ps : List Player) → length ps ≡ 16 → NextExpiry (least_end t ps 16) (map (shut t) ps)
unfolding shut expired
expiry-least t ps l i =
    let e : player_at (map (shut t) ps) i ≡ shut t (player_at ps i) = ap (λ (x : Player). get_or (map (shut t) ps) i x) (sym (blank-off t))
    ∙ get_or-map (shut t) ps i no_player in
    ⊎_elim (λ lt. subst (Late (least_end t ps 16)) (sym e) (left_open t (least_end t ps 16) (open_at ps i)
    (is_on (open_at ps i) && leb (open_at ps i).until t) refl (least_under t ps 16 i lt)))
    (λ ge. let z : player_at ps i ≡ no_player = get_or-eq_default ps no_player (omega arith) in subst (Late (least_end t ps 16))
    (sym (e ∙ ap (shut t) z)) (λ on. absurd (false≢true on)))
    (below i 16)

either : (w : Bool) (u n : ℕ) → w ≡ true → min n (cond w u never) ≤ u
either true u n e = min-le_right n u
either false u n e = absurd (false≢true e)

-- the bound after a player's use has changed
pub expiry-store : (n : ℕ) (ps : List Player) (j : ℕ) (p : Player) → NextExpiry n ps → j < length ps → NextExpiry
    (min n (end_of p.current)) (set ps j p)
expiry-store n ps j p q h i =
    let m = min n (end_of p.current) in
    let other : (i ≡ j → ⊥) → Late m (player_at (set ps j p) i) =
    λ ne. subst (Late m) (sym (get_or-set_other ps j i p no_player ne)) (λ on. omega (arith, q i on, min-le_left n (end_of p.current))) in
    ⊎_elim (λ lt. other (λ e. omega arith))
    (λ ge. ⊎_elim (λ gt. other (λ e. omega arith))
    (λ le. let e : i ≡ j = omega arith in
    subst (Late m) (sym (ap (player_at (set ps j p)) e ∙ get_or-set_same ps j p no_player h))
    (λ on. either (is_on p.current) p.current.until n on))
    (below j i))
    (below i j)

-- and if the use stays as it was
pub expiry-keep : (n : ℕ) (ps : List Player) (j : ℕ) (p : Player) → NextExpiry n ps → j < length ps → p.current ≡ open_at ps j →
    NextExpiry n (set ps j p)
expiry-keep n ps j p q h same i =
    let other : (i ≡ j → ⊥) → Late n (player_at (set ps j p) i) =
    λ ne. subst (Late n) (sym (get_or-set_other ps j i p no_player ne)) (q i) in
    ⊎_elim (λ lt. other (λ e. omega arith))
    (λ ge. ⊎_elim (λ gt. other (λ e. omega arith))
    (λ le. let e : i ≡ j = omega arith in
    subst (Late n) (sym (ap (player_at (set ps j p)) e ∙ get_or-set_same ps j p no_player h))
    (subst (λ (o : Open). is_on o ≡ true → n ≤ o.until) (sym same) (q j)))
    (below j i))
    (below i j)

-- m is b settled at t, and no use of it ends before next
pub record Settled (t : ℕ) (b m : Book) (next : ℕ) : Type 0 where
  pub is-settled : m ≡ settled_book t b
  pub expiry : NextExpiry next m.players
  pub entries : length m.entries ≡ 64
  pub players : length m.players ≡ 16

module _ (t : ℕ) (b m : Book) (entries : length b.entries ≡ 64) (players : length b.players ≡ 16) where
  settled-entries : m ≡ settled_book t b → length m.entries ≡ 64
  unfolding settled_book
  settled-entries e = ap (λ (x : Book). length x.entries) e ∙ settled-size t b.players b.entries ∙ entries

  settled-players : m ≡ settled_book t b → length m.players ≡ 16
  unfolding settled_book
  settled-players e = ap (λ (x : Book). length x.players) e ∙ length-map b.players (shut t) ∙ players

  -- by the loop over the players
  pub settled-by : (next p : ℕ) → p ≤ 16 → 16 ≤ p → m ≡ settled_to t p b → next ≡ least_end t b.players p → Settled t b m next
  unfolding settled_book
  settled-by next p le ge e n =
      let s : m ≡ settled_book t b = settle-all t b m p e (omega arith) in
      let z : p ≡ 16 = omega arith in
      let n' : next ≡ least_end t b.players 16 = n ∙ ap (least_end t b.players) z in
      record {
        is-settled = s;
        expiry = subst (λ (k : ℕ). NextExpiry k m.players) (sym n')
            (subst (λ (x : Book). NextExpiry (least_end t b.players 16) x.players) (sym s) (expiry-least t b.players players));
        entries = settled-entries s;
        players = settled-players s;
      }

  -- by doing nothing
  pub settled-still : (n next : ℕ) → NextExpiry n b.players → t < n → m ≡ b → next ≡ n → Settled t b m next
  settled-still n next q h e k =
      let s : m ≡ settled_book t b = e ∙ expiry-settled t n b q h players in
      record {
        is-settled = s;
        expiry = subst (λ (x : ℕ). NextExpiry x m.players) (sym k) (subst (λ (x : Book). NextExpiry n x.players) (sym e) q);
        entries = settled-entries s;
        players = settled-players s;
      }

-- the bound, one player further
end-turn : (t p : ℕ) (b n : Book) (next : ℕ) → n ≡ settled_to t p b → p < length b.players → next ≡ least_end t b.players p
    → min next (runs_until t (open_at n.players p)) ≡ least_end t b.players (p + 1)
unfolding settled_to
end-turn t p b n next e h k =
    let o : open_at n.players p ≡ open_at b.players p = ap (λ (m : Book). open_at m.players p) e ∙ ap (λ (x : Player). x.current)
    (player-next t p b.players h) in
    ap (λ (x : ℕ). min x (runs_until t (open_at n.players p))) k
    ∙ ap (λ (x : Open). min (least_end t b.players p) (runs_until t x)) o
    ∙ sym (end-next t b.players p)

-- ## The ends kept beside the book

least-never : (t : ℕ) (ps : List Player) (n : ℕ) → least_end t ps n ≤ never
unfolding least_end
least-never t ps zero = omega arith
least-never t ps (suc n) = let h = min-le_left (least_end t ps n) (runs_until t (open_at ps n)) in omega (arith, least-never t ps n)

-- a use that is due does not go on, any other runs until its end
runs-due : (t : ℕ) (o : Open) → expired t o ≡ true → runs_until t o ≡ never
unfolding runs_until expired
runs-due t o h = rw (
  and_left (is_on o) (leb o.until t) h,
  le-ltb t o.until
      (leb-true o.until t (and_right (is_on o) (leb o.until t) h)),
)

runs_on : (t : ℕ) (o : Open) → expired t o ≡ false → runs_until t o ≡ end_of o
unfolding runs_until expired
runs_on t o h =
    on_test (is_on o)
    (λ on. let z : leb o.until t ≡ false = rw on at h in rw (on, lt-ltb t o.until (leb-false o.until t z)))
    (λ off. rw off)

module _ (t p : ℕ) (b n : Book) (next : ℕ) (is-book : n ≡ settled_to t p b) (few : p < length b.players)
    (is-next : next ≡ least_end t b.players p) where
  -- the bound, one player further: a use that is due adds nothing, any other its end
  pub end-due : expired t (open_at n.players p) ≡ true → next ≡ least_end t b.players (p + 1)
  end-due d =
      let h : next ≤ never = omega (arith, is-next, least-never t b.players p) in
      let e : min next never ≡ next = omega arith in
      sym e ∙ ap (min next) (sym (runs-due t (open_at n.players p) d)) ∙ end-turn t p b n next is-book few is-next

  pub end_on : expired t (open_at n.players p) ≡ false → min next (end_of (open_at n.players p)) ≡ least_end t b.players (p + 1)
  end_on d = ap (min next) (sym (runs_on t (open_at n.players p) d)) ∙ end-turn t p b n next is-book few is-next

module _ (ps : List Player) (ends : List ℕ) (is-ends : ends ≡ map end_of_player ps) where
  -- whether the end kept for a player is reached
  pub reached : (t p : ℕ) → t ≤ latest_time → p < length ps → leb (get_or ends p 0) t ≡ expired t (open_at ps p)
  reached t p h l = ap (λ (x : List ℕ). leb (get_or x p 0) t) is-ends ∙ ap (λ (x : ℕ). leb x t) (mapped_at end_of_player ps p no_player 0 l)
      ∙ end-reached t (open_at ps p) h

  pub kept-end : (p : ℕ) → p < length ps → get_or ends p 0 ≡ end_of (open_at ps p)
  kept-end p l = ap (λ (x : List ℕ). get_or x p 0) is-ends ∙ mapped_at end_of_player ps p no_player 0 l

  -- a player and its end stored at the same position
  pub ends_next : (p : ℕ) (q : Player) (end : ℕ) → end ≡ end_of q.current → set ends p end ≡ map end_of_player (set ps p q)
  ends_next p q end e = ap (λ (x : List ℕ). set x p end) is-ends ∙ ap (set (map end_of_player ps) p) e ∙ sym (mapped-set end_of_player ps p q)

  -- a player stored with the same use
  pub ends_same : (p : ℕ) (q : Player) → q.current ≡ open_at ps p → ends ≡ map end_of_player (set ps p q)
  ends_same p q e = is-ends ∙ sym (map-set_same end_of_player ps p q no_player (ap end_of e))

-- a closed use has no end
pub shut-end : (t : ℕ) (p : Player) → expired t p.current ≡ true → never ≡ end_of (shut t p).current
unfolding shut
shut-end t p d = rw d

-- ## What settling records

-- nothing is due before the next expiry
none-overdue : (t n : ℕ) (ps : List Player) → NextExpiry n ps → t < n → overdue t ps ≡ []
unfolding overdue expired
none-overdue t n [] q h = refl
none-overdue t n (p ∷ ps) q h =
    rw (not-due t p.current (is_on p.current) refl (λ on. omega (arith, h, q 0 on)))
    (none-overdue t n ps (λ i. q (suc i)) h)

pub recorded-still : (b : Book) (ls : List Line) (t n : ℕ) → NextExpiry n b.players → t < n
    → ls ≡ recorded_all b ls (overdue t b.players)
unfolding recorded_all
recorded-still b ls t n q h = rw (none-overdue t n b.players q h) refl

-- all players in turn
pub recorded-by : (b : Book) (ls : List Line) (t p : ℕ) (A : List Line) → length b.players ≤ p
    → A ≡ recorded_all b ls (overdue t (take p b.players)) → A ≡ recorded_all b ls (overdue t b.players)
recorded-by b ls t p A h e = e ∙ ap (λ (ps : List Player). recorded_all b ls (overdue t ps)) (take_all p b.players h)
