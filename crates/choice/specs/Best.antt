-- The best entry among the first n, as the loop over the entries carries it, and the law of one turn.
use Rattle.std.specs.Prelude.{ℕ, ◌+◌, Option, None, Some, ◌≡◌, refl, Bool, not, ◌&&◌, ◌||◌, List, ltb, eqb}
use Rattle.std.proofs.Common.{sym, ◌∙◌, arith, eqb-true, ne_eqb, add-one}
use Rattle.std.proofs.Math.Path.{ap, ap₂}
use Rattle.std.proofs.Math.Bool.{true, false, cond, or-true, or-false, and-false}
use Rattle.std.proofs.lemmas.Bool.{false≢true}
use Rattle.numbers.specs.Count.{one, how_many}
use Rattle.book.specs.declared.Ask.{Ask}
use Rattle.book.specs.declared.Limits.{Limits}
use Rattle.book.specs.declared.Meters.{Meters}
use Rattle.book.specs.declared.Entry.{Entry}
use Rattle.model.specs.Book.{limits_at, meters_at}
use Rattle.model.specs.Choice.{Choice, nobody, chosen, prefer, choose_of, any_of, suitable, grantable, goes_before, rank_of, ranks_before}
use Rattle.model.specs.Choice.{grounds_of, ground_list, switch_only}
use Rattle.book.specs.declared.Rank.{Rank}
use Rattle.choice.specs.declared.Best as code
use Rattle.choice.specs.declared.Candidate.{Candidate}

-- whether any entry is suitable, whether one fails for the switch only, the position of the one chosen, and its rank
pub record Best : Type 0 where
  pub suits : Bool
  pub switched : Bool
  pub at : ℕ
  pub rank : Rank

-- the chosen position, 64 if there is none
abbrev pub position : Choice → ℕ
position nobody = 64
position (chosen i) = i

-- a rank after that of every entry
abbrev pub last_rank : Rank
last_rank = record { flags = 2; last = 0; inherited = 0 }

abbrev pub rank_chosen : List Entry → ℕ → Choice → Rank
rank_chosen es asset nobody = last_rank
rank_chosen es asset (chosen i) = rank_of asset (limits_at es i) (meters_at es i)

-- ## The best so far, as the code holds it

abbrev pub place : Option Candidate → ℕ
place None = 64
place (Some c) = c.at

abbrev pub at_of : Option Candidate → Option ℕ
at_of None = None
at_of (Some c) = Some c.at

abbrev pub held : Option Candidate → Rank
held None = last_rank
held (Some c) = c.rank

-- with position 64 and the last rank for none
abbrev pub seen : code.Best → Best
seen x = record { suits = x.suits; switched = x.switched; at = place x.granted; rank = held x.granted }

abbrev pub none_found : code.Best
none_found = record { suits = false; switched = false; granted = None }

abbrev pub candidate : List Entry → ℕ → Choice → Option Candidate
candidate es asset nobody = None
candidate es asset (chosen i) = Some (record { at = i; rank = rank_of asset (limits_at es i) (meters_at es i) })

held-is : (es : List Entry) (asset : ℕ) (c : Choice) → held (candidate es asset c) ≡ rank_chosen es asset c
held-is es asset nobody = refl
held-is es asset (chosen i) = refl

place-is : (es : List Entry) (asset : ℕ) (c : Choice) → place (candidate es asset c) ≡ position c
place-is es asset nobody = refl
place-is es asset (chosen i) = refl

-- ## The entries

abbrev pub suits_at : List Entry → ℕ → ℕ → ℕ → ℕ → Bool
suits_at es asset parent kind i = suitable asset parent kind (limits_at es i)

abbrev pub allowed_at : List Entry → ℕ → ℕ → ℕ → Ask → ℕ → Bool
allowed_at es asset parent kind ask i = suits_at es asset parent kind i && grantable ask (limits_at es i) (meters_at es i)

-- entry i is suitable and fails for the switch only
abbrev pub switched_at : List Entry → ℕ → ℕ → ℕ → Ask → ℕ → Bool
switched_at es asset parent kind ask i = suits_at es asset parent kind i && switch_only ask (limits_at es i) (meters_at es i)

-- the entry chosen among the first n
unfoldable pub choice_after : List Entry → ℕ → ℕ → ℕ → Ask → ℕ → Choice
choice_after es asset parent kind ask n = choose_of (allowed_at es asset parent kind ask) (goes_before es asset) n

-- for the first n entries: whether any is suitable, whether one fails for the switch only, the position of the one chosen, and its rank
unfoldable pub best_after : List Entry → ℕ → ℕ → ℕ → Ask → ℕ → Best
best_after es asset parent kind ask n = record {
  suits = any_of (suits_at es asset parent kind) n;
  switched = any_of (switched_at es asset parent kind ask) n;
  at = position (choice_after es asset parent kind ask n);
  rank = rank_chosen es asset (choice_after es asset parent kind ask n);
}

-- the same as the code holds it
unfoldable pub found_after : List Entry → ℕ → ℕ → ℕ → Ask → ℕ → code.Best
found_after es asset parent kind ask n = record {
  suits = any_of (suits_at es asset parent kind) n;
  switched = any_of (switched_at es asset parent kind ask) n;
  granted = candidate es asset (choice_after es asset parent kind ask n);
}

pub seen-found : (es : List Entry) (asset parent kind : ℕ) (ask : Ask) (n : ℕ)
    → seen (found_after es asset parent kind ask n) ≡ best_after es asset parent kind ask n
unfolding found_after best_after
seen-found es asset parent kind ask n =
    let c = choice_after es asset parent kind ask n in
    rw (place-is es asset c, held-is es asset c) refl

-- entry i, with those limits and meters, against the best so far
unfoldable pub considered : ℕ → ℕ → ℕ → Ask → ℕ → Limits → Meters → Best → Best
considered asset parent kind ask i l m best =
    cond (suitable asset parent kind l)
    (cond (ranks_before (rank_of asset l m) best.rank && grantable ask l m)
    (record { suits = true; switched = best.switched; at = i; rank = rank_of asset l m })
    (record { suits = true; switched = best.switched || switch_only ask l m; at = best.at; rank = best.rank }))
    best

unfoldable pub entry_taken : ℕ → ℕ → ℕ → Ask → ℕ → Limits → Meters → code.Best → code.Best
entry_taken asset parent kind ask i l m x =
    cond (suitable asset parent kind l)
    (cond (ranks_before (rank_of asset l m) (held x.granted) && grantable ask l m)
    (record { suits = true; switched = x.switched; granted = Some (record { at = i; rank = rank_of asset l m }) })
    (record { suits = true; switched = x.switched || switch_only ask l m; granted = x.granted }))
    x

one_below : (w : Bool) → ltb (one w) 2 ≡ true
one_below true = refl
one_below false = refl

before_last : (asset : ℕ) (l : Limits) (m : Meters) → ranks_before (rank_of asset l m) last_rank ≡ true
unfolding ranks_before rank_of
before_last asset l m = rw (one_below (not (eqb l.flags 0)))

-- an entry that is grantable does not fail for the switch
able-not-switched : (ask : Ask) (l : Limits) (m : Meters) → grantable ask l m ≡ true → switch_only ask l m ≡ false
unfolding grantable switch_only
able-not-switched ask l m h =
    let n = how_many (ground_list (grounds_of ask l m)) in
    rw (ne_eqb n 1 (λ z. absurd (omega (arith, eqb-true n 0 h)))) (and-false (grounds_of ask l m).switchoff)

-- one turn, for either form
module _ (es : List Entry) (asset k : ℕ) (any sw : Bool) {X : Type 0} (form : Bool → Bool → Choice → X) where
  suits-now : (w : Bool) (c : Choice) → form (any || true) w c ≡ form true w c
  suits-now w c = ap (λ (s : Bool). form s w c) (or-true any)

  none-now : (c : Choice) → form (any || true) (sw || false) c ≡ form true sw c
  none-now c = suits-now (sw || false) c ∙ ap (λ (w : Bool). form true w c) (or-false sw)

  against : (b : Bool) (j : ℕ) → form (any || true) (sw || false) (cond b (chosen k) (chosen j))
      ≡ cond (b && true) (form true sw (chosen k)) (form true (sw || false) (chosen j))
  against true j = none-now (chosen k)
  against false j = suits-now (sw || false) (chosen j)

  turn :
      (s g o : Bool) (c : Choice) → (g ≡ true → o ≡ false) →
      form (any || s) (sw || (s && o)) (prefer (s && g) k (goes_before es asset k) c)
      ≡ cond s
      (cond (ranks_before (rank_of asset (limits_at es k) (meters_at es k)) (rank_chosen es asset c) && g)
      (form true sw (chosen k))
      (form true (sw || o) c))
      (form any sw c)
  unfolding rank_of
  turn false g o c h = ap₂ (λ (s w : Bool). form s w c) (or-false any) (or-false sw)
  turn true false o c h =
      suits-now (sw || o) c
      ∙ ap (λ (b : Bool). cond b (form true sw (chosen k)) (form true (sw || o) c))
      (sym (and-false (ranks_before (rank_of asset (limits_at es k) (meters_at es k)) (rank_chosen es asset c))))
  turn true true true c h = absurd (false≢true (sym (h refl)))
  turn true true false nobody h = rw (before_last asset (limits_at es k) (meters_at es k)) (none-now (chosen k))
  turn true true false (chosen j) h = against (goes_before es asset k j) j

-- what the loop over the entries carries, one entry further
pub best-turn :
    (es : List Entry) (asset parent kind : ℕ) (ask : Ask) (k : ℕ) →
    best_after es asset parent kind ask (k + 1)
    ≡ considered asset parent kind ask k (limits_at es k) (meters_at es k) (best_after es asset parent kind ask k)
unfolding best_after considered choice_after choose_of any_of
best-turn es asset parent kind ask k =
    rw add-one
    (turn es asset k (any_of (suits_at es asset parent kind) k) (any_of (switched_at es asset parent kind ask) k)
    (λ s w c. record { suits = s; switched = w; at = position c; rank = rank_chosen es asset c })
    (suits_at es asset parent kind k) (grantable ask (limits_at es k) (meters_at es k)) (switch_only ask (limits_at es k) (meters_at es k))
    (choice_after es asset parent kind ask k) (able-not-switched ask (limits_at es k) (meters_at es k)))

pub found-turn :
    (es : List Entry) (asset parent kind : ℕ) (ask : Ask) (k : ℕ) →
    found_after es asset parent kind ask (k + 1)
    ≡ entry_taken asset parent kind ask k (limits_at es k) (meters_at es k) (found_after es asset parent kind ask k)
unfolding found_after entry_taken choice_after choose_of any_of
found-turn es asset parent kind ask k =
    let c = choose_of (allowed_at es asset parent kind ask) (goes_before es asset) k in
    rw (add-one, held-is es asset c)
    (turn es asset k (any_of (suits_at es asset parent kind) k) (any_of (switched_at es asset parent kind ask) k)
    (λ s w c. record { suits = s; switched = w; granted = candidate es asset c })
    (suits_at es asset parent kind k) (grantable ask (limits_at es k) (meters_at es k)) (switch_only ask (limits_at es k) (meters_at es k))
    c (able-not-switched ask (limits_at es k) (meters_at es k)))
