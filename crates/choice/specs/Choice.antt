-- What the best entry says about the model's choice: it is the one chosen and is grantable, or none is chosen.
use Prim.Native.Nat.{ℕ, zero, suc, ◌<◌, ◌≤◌}
use Rattle.std.specs.Prelude.{◌≡◌, Bool, true, false, cond, ◌&&◌, ◌||◌, List, Some, None, get_or, take, length, ltb}
use Rattle.std.proofs.Math.Path.{refl, ap, ap₂, ◌∙◌}
use Rattle.std.proofs.Common.{arith, length-take-le, lt-ltb}
use Rattle.book.specs.declared.Ask.{Ask}
use Rattle.book.specs.declared.Entry.{Entry}
use Rattle.model.specs.Book.{limits_at, meters_at}
use Rattle.model.specs.Choice.{Catalog, Choice, nobody, chosen, prefer, choose_of, any_of, choose, suits, grantable, goes_before, parent_of}
use Rattle.model.specs.Choice.{fails_for_switch}
use Rattle.model.specs.Choice.{suitable, switch_only, rank_of, ranks_before}
use Rattle.book.specs.Blank.{no_entry}
use Rattle.std.proofs.lemmas.List.{get_or-take}
use Rattle.numbers.proofs.Tests.{and_right}
use Rattle.choice.specs.Best.{Best, candidate, at_of, found_after, switched_at, position, suits_at, allowed_at, choice_after, best_after}

-- a choice among the first n is one of them, and allowed
abbrev Good : (ℕ → Bool) → ℕ → Choice → Type 0
Good ok n nobody = Unit {0}
Good ok n (chosen i) = (ok i ≡ true) × (i < n)

module _ (ok : ℕ → Bool) where
  further : (n : ℕ) (c : Choice) → Good ok n c → Good ok (suc n) c
  further n nobody g = tt
  further n (chosen i) g = (g.0, omega (arith, g.1))

  picked : (b : Bool) (n j : ℕ) → ok n ≡ true → Good ok n (chosen j) → Good ok (suc n) (cond b (chosen n) (chosen j))
  picked true n j h g = (h, omega arith)
  picked false n j h g = further n (chosen j) g

  preferred : (w : Bool) (n : ℕ) (first : ℕ → Bool) (c : Choice) → ok n ≡ w → Good ok n c → Good ok (suc n) (prefer w n first c)
  preferred false n first c h g = further n c g
  preferred true n first nobody h g = (h, omega arith)
  preferred true n first (chosen j) h g = picked (first j) n j h g

  good : (first : ℕ → ℕ → Bool) (n : ℕ) → Good ok n (choose_of ok first n)
  unfolding choose_of
  good first zero = tt
  good first (suc n) = preferred (ok n) n (first n) (choose_of ok first n) refl (good first n)

  at_some : (n : ℕ) (c : Choice) → Good ok n c → position c < 64 → (c ≡ chosen (position c)) × (ok (position c) ≡ true) × (position c < n)
  at_some n nobody g h = absurd (omega arith)
  at_some n (chosen i) g h = (refl, g.0, g.1)

  at-nobody : (n : ℕ) (c : Choice) → Good ok n c → n ≤ 64 → 64 ≤ position c → c ≡ nobody
  at-nobody n nobody g h p = refl
  at-nobody n (chosen i) g h p = absurd (omega (arith, g.1))

module _ (c : Catalog) (es : List Entry) (ask : Ask) (asset kind : ℕ) where
  abbrev best : Best
  best = best_after es asset (parent_of c asset) kind ask c.entry_count

  -- 12 is answered if this is false
  pub best-suits : best.suits ≡ any_of (suits c es asset kind) c.entry_count
  unfolding best_after
  best-suits = refl

  -- 43 in place of 13 if this is true
  pub best-switched : best.switched ≡ any_of (fails_for_switch c es ask asset kind) c.entry_count
  unfolding best_after
  best-switched = refl

  pub best-some :
      best.at < 64 →
      (choose c es ask asset kind ≡ chosen best.at)
      × (grantable ask (limits_at es best.at) (meters_at es best.at) ≡ true)
      × (best.at < c.entry_count)
  unfolding best_after choice_after choose
  best-some h =
      let ok = allowed_at es asset (parent_of c asset) kind ask in
      let p = at_some ok c.entry_count (choose_of ok (goes_before es asset) c.entry_count)
      (good ok (goes_before es asset) c.entry_count) h in (
        p.0,
        and_right (suits_at es asset (parent_of c asset) kind best.at)
            (grantable ask (limits_at es best.at) (meters_at es best.at)) p.1,
        p.2,
      )

  pub best-nobody : c.entry_count ≤ 64 → 64 ≤ best.at → choose c es ask asset kind ≡ nobody
  unfolding best_after choice_after choose
  best-nobody h p =
      let ok = allowed_at es asset (parent_of c asset) kind ask in
      at-nobody ok c.entry_count (choose_of ok (goes_before es asset) c.entry_count) (good ok (goes_before es asset) c.entry_count) h p

-- ## The first n entries of a table, as a list

any-same : (f g : ℕ → Bool) (n : ℕ) → ((i : ℕ) → i < n → f i ≡ g i) → any_of f n ≡ any_of g n
unfolding any_of
any-same f g zero h = refl
any-same f g (suc n) h = ap₂ (λ (a b : Bool). a || b) (any-same f g n (λ i l. h i (omega arith))) (h n (omega arith))

prefer-same : (ok : ℕ → Bool) (w : Bool) (n : ℕ) (f g : ℕ → Bool) (c : Choice) → Good ok n c → ((j : ℕ) → j < n → f j ≡ g j)
    → prefer w n f c ≡ prefer w n g c
prefer-same ok false n f g c b h = refl
prefer-same ok true n f g nobody b h = refl
prefer-same ok true n f g (chosen j) b h = ap (λ (w : Bool). cond w (chosen n) (chosen j)) (h j b.1)

choose-same :
    (ok able : ℕ → Bool) (f g : ℕ → ℕ → Bool) (n : ℕ) →
    ((i : ℕ) → i < n → ok i ≡ able i) →
    ((k j : ℕ) → k < n → j < k → f k j ≡ g k j) →
    choose_of ok f n ≡ choose_of able g n
unfolding choose_of
choose-same ok able f g zero h e = refl
choose-same ok able f g (suc n) h e =
    ap₂ (λ (w : Bool) (c : Choice). prefer w n (f n) c) (h n (omega arith))
    (choose-same ok able f g n (λ i l. h i (omega arith)) (λ k j l m. e k j (omega arith) m))
    ∙ prefer-same able (able n) n (f n) (g n) (choose_of able g n) (good able g n) (λ j l. e n j (omega arith) l)

module _ (es : List Entry) (asset parent kind : ℕ) (ask : Ask) (n : ℕ) where
  read : (i : ℕ) → i < n → get_or (take n es) i no_entry ≡ get_or es i no_entry
  read i h = get_or-take n es i no_entry h

  candidate-same : (ok : ℕ → Bool) (c : Choice) → Good ok n c → candidate (take n es) asset c ≡ candidate es asset c
  candidate-same ok nobody g = refl
  candidate-same ok (chosen i) g = ap (λ (e : Entry). Some (record { at = i; rank = rank_of asset e.limits e.meters })) (read i g.1)

  -- the best of them is the best of the first n of the table
  pub found-used : found_after (take n es) asset parent kind ask n ≡ found_after es asset parent kind ask n
  unfolding found_after choice_after
  found-used =
      let ok = allowed_at es asset parent kind ask in
      let same : choose_of (allowed_at (take n es) asset parent kind ask) (goes_before (take n es) asset) n
      ≡ choose_of ok (goes_before es asset) n =
      choose-same (allowed_at (take n es) asset parent kind ask) ok (goes_before (take n es) asset) (goes_before es asset) n
      (λ i h. ap (λ (e : Entry). suitable asset parent kind e.limits && grantable ask e.limits e.meters) (read i h))
      (λ k j h l. ap₂ (λ (x y : Entry). ranks_before (rank_of asset x.limits x.meters) (rank_of asset y.limits y.meters)) (read k h)
      (read j (omega arith))) in
      let suits-same : any_of (suits_at (take n es) asset parent kind) n ≡ any_of (suits_at es asset parent kind) n =
      any-same (suits_at (take n es) asset parent kind) (suits_at es asset parent kind) n
      (λ i h. ap (λ (e : Entry). suitable asset parent kind e.limits) (read i h)) in
      let switched-same : any_of (switched_at (take n es) asset parent kind ask) n ≡ any_of (switched_at es asset parent kind ask) n =
      any-same (switched_at (take n es) asset parent kind ask) (switched_at es asset parent kind ask) n
      (λ i h. ap (λ (e : Entry). suitable asset parent kind e.limits && switch_only ask e.limits e.meters) (read i h)) in
      let granted-same = ap (candidate (take n es) asset) same ∙ candidate-same ok (choose_of ok (goes_before es asset) n)
      (good ok (goes_before es asset) n) in
      λ i. record { suits = suits-same i; switched = switched-same i; granted = granted-same i }

  -- all of a list that holds them is looked at
  pub found-slots : n ≤ length es → found_after (take n es) asset parent kind ask (length (take n es)) ≡ found_after es asset parent kind ask n
  found-slots h = ap (found_after (take n es) asset parent kind ask) (length-take-le n es h) ∙ found-used

  at-of : (ok : ℕ → Bool) (c : Choice) → Good ok n c → n ≤ 64
      → at_of (candidate es asset c) ≡ cond (ltb (position c) 64) (Some (position c)) None
  at-of ok nobody g h = refl
  at-of ok (chosen i) g h = rw (lt-ltb i 64 (omega (arith, g.1))) refl

  -- the position is that of the best, if that is below 64
  pub found-at : n ≤ 64 → at_of (found_after es asset parent kind ask n).granted
      ≡ cond (ltb (best_after es asset parent kind ask n).at 64) (Some (best_after es asset parent kind ask n).at) None
  unfolding found_after best_after choice_after
  found-at h =
      let ok = allowed_at es asset parent kind ask in
      at-of ok (choose_of ok (goes_before es asset) n) (good ok (goes_before es asset) n) h
