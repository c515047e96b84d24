-- The order of the choice: the entry chosen goes before every other that is allowed, by the statement's words.
-- Each rank becomes one number, and the choice takes the least; the statement's words are read off two such numbers.
use mathlib.Core.Path.{◌≡◌, refl, sym, ap, subst, ◌∙◌}
use mathlib.Core.Logic.{◌↔◌}
use Prim.Native.Nat.{ℕ, zero, suc, ◌+◌, ◌*◌, ◌≤◌, ◌<◌, min}
use mathlib.Core.Bool.{Bool, true, false, not, ◌&&◌, cond}
use mathlib.Core.List.{List}
use mathlib.Core.Option.{Option, none, some}
use lib.Dec.{ltb, eqb}
use native.Mathlib.Omega.{arith}
use borrow.Author.Tests.{eqb-true, eqb-false, eq-eqb, ltb-true, ltb-false, lt-ltb, le-ltb}
use Rattle.numbers.specs.Count.{one}
use Rattle.book.specs.declared.Limits.{Limits}
use Rattle.book.specs.declared.Entry.{Entry}
use Rattle.book.specs.declared.Rank.{Rank}
use Rattle.model.specs.Book.{limits_at, latest_time, flagged}
use Rattle.model.specs.Meters.{where_flagged}
use Rattle.model.specs.Choice.{own, no_end, last_moment, rank_of, ranks_before, Choice, nobody, chosen, prefer, choose_of}
use Rattle.model.specs.Ledger.{Use, earliest}
use Rattle.model.specs.Demand3.{start_or, is_some, running, figures, SameFlags, Moment, at-end, at-interval, LastMoment, NoMoment}
use Rattle.model.specs.Demand3.{EarlierMoment, only-first, both-sooner, SameMoment, neither, both-same}
use Rattle.model.specs.Demand3.{Precedes, by_flags, by-moment, by-owner, by-position}
use Rattle.model.proofs.Ledger.Facts.{on_test, on_same, clash, and_left, and_right, one-is, one-le}
use Rattle.model.proofs.Ledger.Invariant.{Lawful}
use Rattle.model.proofs.Ledger.Concrete.{choose-sound, choose-none}

-- ## The first by a weight

pub record Ahead (w : ℕ → ℕ) (i j : ℕ) : Type 0 where
  pub least : w i ≤ w j
  pub sooner : j < i → w i < w j

module _ (ok : ℕ → Bool) (first : ℕ → ℕ → Bool) (w : ℕ → ℕ) (by : (i j : ℕ) → first i j ≡ ltb (w i) (w j)) where
  pub choose-first : (k i : ℕ) → choose_of ok first k ≡ chosen i → (j : ℕ) → j < k → ok j ≡ true → Ahead w i j
  unfolding choose_of
  choose-first zero i e j h q = absurd (omega arith)
  choose-first (suc k) i e j h q = go (ok k) refl (choose_of ok first k) refl e (choose-first k)
    where
      go : (b : Bool) → ok k ≡ b → (c : Choice) → choose_of ok first k ≡ c → prefer b k (first k) c ≡ chosen i
          → ((x : ℕ) → choose_of ok first k ≡ chosen x → (y : ℕ) → y < k → ok y ≡ true → Ahead w x y) → Ahead w i j
      go false r c s z ih = ih i (s ∙ z) j (on_same j k (λ x. clash q (rw x r)) (λ x. omega arith)) q
      go true r nobody s z ih =
          let x : k ≡ i = cc in
          on_same j k
          (λ y. record { least = rw (y, ← x) (omega arith); sooner = λ u. absurd (omega arith) })
          (λ y. clash q (choose-none ok first k s j (omega arith)))
      go true r (chosen x) s z ih =
          on_test (first k x)
          (λ y.
          let v : k ≡ i = cc in
          let f : w k < w x = ltb-true (w k) (w x) (sym (by k x) ∙ y) in
          rw (← v)
          (on_same j k
          (λ u. record { least = rw u (omega arith); sooner = λ t. absurd (omega arith) })
          (λ u. let g = ih x s j (omega arith) q in record { least = omega (arith, g.least); sooner = λ t. omega (arith, g.least) })))
          (λ y.
          let v : x ≡ i = cc in
          let f : w x ≤ w k = ltb-false (w k) (w x) (sym (by k x) ∙ y) in
          rw (← v)
          (on_same j k
          (λ u. record { least = rw u f; sooner = λ t. absurd (omega (arith, (choose-sound ok first k x s).below)) })
          (λ u. ih x s j (omega arith) q)))

-- ## Ranks as one number

record Bounded (r : Rank) : Type 0 where
  flags : r.flags ≤ 1
  last : r.last ≤ no_end
  inherited : r.inherited ≤ 1

abbrev weight : Rank → ℕ
weight r = 8589934594 * r.flags + 2 * r.last + r.inherited

ranks-weight : (a b : Rank) → Bounded a → Bounded b → ranks_before a b ≡ ltb (weight a) (weight b)
unfolding ranks_before
ranks-weight a b x y =
    on_test (ltb a.flags b.flags)
    (λ q. rw q (sym (lt-ltb (weight a) (weight b) (omega (arith, ltb-true a.flags b.flags q, x.last, x.inherited)))))
    (λ q. on_test (eqb a.flags b.flags)
    (λ r. on_test (ltb a.last b.last)
    (λ s. rw (q, r, s) (sym (lt-ltb (weight a) (weight b) (omega
    (arith, eqb-true a.flags b.flags r, ltb-true a.last b.last s, x.inherited)))))
    (λ s. on_test (eqb a.last b.last)
    (λ t. rw (q, r, s, t)
    (on_test (ltb a.inherited b.inherited)
    (λ z. rw z (sym (lt-ltb (weight a) (weight b) (omega
    (arith, eqb-true a.flags b.flags r, eqb-true a.last b.last t, ltb-true a.inherited b.inherited z)))))
    (λ z. rw z (sym (le-ltb (weight a) (weight b) (omega
    (arith, eqb-true a.flags b.flags r, eqb-true a.last b.last t, ltb-false a.inherited b.inherited z)))))))
    (λ t. rw (q, r, s, t)
    (sym (le-ltb (weight a) (weight b) (omega (
      arith,
      eqb-true a.flags b.flags r,
      ltb-false a.last b.last s,
      eqb-false a.last b.last t,
      y.inherited,
    )))))))
    (λ r. rw (q, r) (sym (le-ltb (weight a) (weight b) (omega
    (arith, ltb-false a.flags b.flags q, eqb-false a.flags b.flags r, y.last, y.inherited))))))

-- the first difference between two ranks, where a's weight is not the larger
by_rank : {P : Type 0} (a b : Rank) → Bounded a → Bounded b → weight a ≤ weight b → (a.flags < b.flags → P)
    → (a.flags ≡ b.flags → a.last < b.last → P)
    → (a.flags ≡ b.flags → a.last ≡ b.last → a.inherited < b.inherited → P)
    → (a.flags ≡ b.flags → a.last ≡ b.last → a.inherited ≡ b.inherited → P) → P
by_rank a b x y h f g m n =
    on_test (ltb a.flags b.flags)
    (λ q. f (ltb-true a.flags b.flags q))
    (λ q.
    let e : a.flags ≡ b.flags = omega (arith, ltb-false a.flags b.flags q, y.last, y.inherited) in
    on_test (ltb a.last b.last)
    (λ r. g e (ltb-true a.last b.last r))
    (λ r.
    let i : a.last ≡ b.last = omega (arith, ltb-false a.last b.last r, y.inherited) in
    on_test (ltb a.inherited b.inherited)
    (λ t. m e i (ltb-true a.inherited b.inherited t))
    (λ t. n e i (omega (arith, ltb-false a.inherited b.inherited t)))))

-- ## The last moment

-- the smaller of two moments is one of them
picked : {P : Type 0} (f g : Bool) (a b : ℕ) → min (cond f a no_end) (cond g b no_end) < no_end
    → (f ≡ true → min (cond f a no_end) (cond g b no_end) ≡ a → P) → (g ≡ true → min (cond f a no_end) (cond g b no_end) ≡ b → P) → P
picked true true a b h x y =
    on_test (ltb b a) (λ q. y refl (omega (arith, ltb-true b a q))) (λ q. x refl (omega (arith, ltb-false b a q)))
picked true false a b h x y = x refl (omega arith)
picked false true a b h x y = y refl (omega arith)
picked false false a b h x y = absurd (omega arith)

module _ (us : List Use) (i : ℕ) (l : Limits) (lawful : Lawful l) (soon : (c : ℕ) → earliest i us ≡ some c → c ≤ latest_time) where
  -- the interval's start, by the ledger's figures
  abbrev begins : ℕ
  begins = where_flagged (flagged 16 l) (start_or 0 (earliest i us))

  -- the rules' last moment, on the ledger's figures
  abbrev moment_of : ℕ
  moment_of = min (cond (flagged 8 l) (l.end + 1) no_end) (cond (flagged 16 l && running us i l) (begins + l.interval) no_end)

  moment-early : (x : ℕ) → Moment us i l x → x < no_end
  moment-early x (at-end f e) = omega (arith, lawful.end f)
  moment-early x (at-interval c f s e) = omega (arith, lawful.span f, soon c s)

  moment-least : (x : ℕ) → Moment us i l x → moment_of ≤ x
  moment-least x (at-end f e) = rw (f, e) (omega arith)
  moment-least x (at-interval c f s e) = rw (f, s, e) (omega arith)

  moment-most : moment_of ≤ no_end
  moment-most = on_test (flagged 8 l) (λ f. rw f (omega (arith, lawful.end f))) (λ f. rw f (omega arith))

  in-interval : (s : Option ℕ) → earliest i us ≡ s → (flagged 16 l && running us i l) ≡ true → moment_of ≡ begins + l.interval
      → Moment us i l moment_of
  in-interval none q g e = clash (and_right (flagged 16 l) _ (and_right (flagged 16 l) _ g)) (ap is_some q)
  in-interval (some c) q g e = let f = and_left (flagged 16 l) _ g in at-interval c f q (e ∙ rw (f, q) refl)

  last-moment : moment_of < no_end → LastMoment us i l moment_of
  last-moment h = record {
    listed =
        picked (flagged 8 l) (flagged 16 l && running us i l) (l.end + 1) (begins + l.interval) h (λ f e. at-end f e)
        (λ g e. in-interval (earliest i us) refl g e);
    least = moment-least;
  }

  no-moment : no_end ≤ moment_of → NoMoment us i l
  no-moment h x m = omega (arith, moment-early x m, moment-least x m)

-- ## From ranks to words

-- an entry's rank, with its last moment
abbrev rank : ℕ → Limits → ℕ → Rank
rank asset l last = record {
  flags = one (not (eqb l.flags 0));
  last = last;
  inherited = one (not (eqb l.asset asset));
}

less-on : (a b : Bool) → one (not a) < one (not b) → a ≡ true
less-on true b h = refl
less-on false true h = absurd (omega arith)
less-on false false h = absurd (omega arith)

less-off : (a b : Bool) → one (not a) < one (not b) → b ≡ false
less-off a false h = refl
less-off true true h = absurd (omega arith)
less-off false true h = absurd (omega arith)

one_same : (a b : Bool) → one (not a) ≡ one (not b) → a ≡ b
one_same true true h = refl
one_same true false h = absurd (omega arith)
one_same false true h = absurd (omega arith)
one_same false false h = refl

both_zero : (x y z : ℕ) → eqb x z ≡ eqb y z → (x ≡ z) ↔ (y ≡ z)
both_zero x y z e = (λ h. eqb-true y z (sym e ∙ eq-eqb x z h), λ h. eqb-true x z (e ∙ eq-eqb y z h))

module _ (es : List Entry) (us : List Use) (asset : ℕ) (lawful : (i : ℕ) → Lawful (limits_at es i))
    (soon : (i c : ℕ) → earliest i us ≡ some c → c ≤ latest_time) where
  abbrev moment_at : ℕ → ℕ
  moment_at i = moment_of us i (limits_at es i) (lawful i) (soon i)

  abbrev rank_at : ℕ → Rank
  rank_at i = rank asset (limits_at es i) (moment_at i)

  -- the weight of entry i
  abbrev pub weight_at : ℕ → ℕ
  weight_at i = weight (rank_at i)

  bounded : (i : ℕ) → Bounded (rank_at i)
  bounded i = record {
    flags = one-le (not (eqb (limits_at es i).flags 0));
    last = moment-most us i (limits_at es i) (lawful i) (soon i);
    inherited = one-le (not (eqb (limits_at es i).asset asset));
  }

  rank_is : (T i : ℕ) → rank_of asset (limits_at es i) (figures (λ p. T) us i (limits_at es i)) ≡ rank_at i
  unfolding rank_of last_moment figures own
  rank_is T i = rw (one-is (running us i (limits_at es i)))

  pub before-weight : (T i j : ℕ)
      → ranks_before (rank_of asset (limits_at es i) (figures (λ p. T) us i (limits_at es i)))
      (rank_of asset (limits_at es j) (figures (λ p. T) us j (limits_at es j)))
      ≡ ltb (weight_at i) (weight_at j)
  before-weight T i j = rw (rank_is T i, rank_is T j) (ranks-weight _ _ (bounded i) (bounded j))

  module _ (i j : ℕ) where
    abbrev li : Limits
    li = limits_at es i

    abbrev lj : Limits
    lj = limits_at es j

    same_flags : one (not (eqb li.flags 0)) ≡ one (not (eqb lj.flags 0)) → SameFlags li lj
    same_flags e = both_zero li.flags lj.flags 0 (one_same _ _ e)

    earlier : moment_at i < moment_at j → EarlierMoment us i j li lj
    earlier h =
        let near : LastMoment us i li (moment_at i) =
        last-moment us i li (lawful i) (soon i) (omega (arith, moment-most us j lj (lawful j) (soon j))) in
        on_test (ltb (moment_at j) no_end)
        (λ q. both-sooner (moment_at i) (moment_at j) near
        (last-moment us j lj (lawful j) (soon j) (ltb-true (moment_at j) no_end q)) h)
        (λ q. only-first (moment_at i) near (no-moment us j lj (lawful j) (soon j) (ltb-false (moment_at j) no_end q)))

    same-moment : moment_at i ≡ moment_at j → SameMoment us i j li lj
    same-moment e =
        on_test (ltb (moment_at j) no_end)
        (λ q.
        let k = ltb-true (moment_at j) no_end q in
        both-same (moment_at j) (subst (LastMoment us i li) e (last-moment us i li (lawful i) (soon i) (omega arith)))
        (last-moment us j lj (lawful j) (soon j) k))
        (λ q.
        let k = ltb-false (moment_at j) no_end q in
        neither (no-moment us i li (lawful i) (soon i) (omega arith)) (no-moment us j lj (lawful j) (soon j) k))

    pub precedes : (j ≡ i → ⊥) → Ahead weight_at i j → Precedes es us asset i j
    precedes n h =
        by_rank (rank_at i) (rank_at j) (bounded i) (bounded j) h.least
        (λ a. by_flags (eqb-true li.flags 0 (less-on (eqb li.flags 0) (eqb lj.flags 0) a))
        (eqb-false lj.flags 0 (less-off (eqb li.flags 0) (eqb lj.flags 0) a)))
        (λ a b. by-moment (same_flags a) (earlier b))
        (λ a b d. by-owner (same_flags a) (same-moment b)
        (eqb-true li.asset asset (less-on (eqb li.asset asset) (eqb lj.asset asset) d))
        (eqb-false lj.asset asset (less-off (eqb li.asset asset) (eqb lj.asset asset) d)))
        (λ a b d. by-position (same_flags a) (same-moment b)
        (both_zero li.asset lj.asset asset (one_same (eqb li.asset asset) (eqb lj.asset asset) d))
        (on_test (ltb j i)
        (λ q. absurd (omega (arith, h.sooner (ltb-true j i q))))
        (λ q. omega (arith, ltb-false j i q))))
