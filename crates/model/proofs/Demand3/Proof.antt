-- Demand 3 holds of every legal fresh book.
-- What is left for this file is begins: which of 10 to 13 each is answered, or else which entry and until.
use mathlib.Core.Path.{◌≡◌, refl, sym, ap, ◌∙◌, subst, fun_ext}
use Prim.Native.Nat.{ℕ, ◌+◌, ◌≤◌, ◌<◌}
use mathlib.Core.Bool.{Bool, true, false, not, ◌&&◌, ◌||◌}
use mathlib.Core.List.{List, [], ◌∷◌, map}
use mathlib.Core.Option.{Option, none, some}
use mathlib.Core.Logic.{◌⊎◌, inl, inr}
use lib.Dec.{leb, ltb, eqb}
use native.Mathlib.Omega.{arith}
use borrow.Author.Tests.{eq-eqb, ne_eqb, eqb-true, leb-true, leb-false, lt-ltb, le-ltb, le-leb}
use Rattle.numbers.specs.Count.{one, how_many}
use Rattle.numbers.proofs.Tests.{Fail, none_pass}
use Rattle.book.specs.declared.Limits.{Limits}
use Rattle.book.specs.declared.Entry.{Entry}
use Rattle.book.specs.declared.Answer.{Answer}
use Rattle.book.specs.declared.Open.{Open}
use Rattle.book.specs.declared.Book.{Book}
use Rattle.book.specs.declared.Event.{Event}
use Rattle.book.specs.declared.Ask.{Ask}
use Rattle.book.specs.declared.Grounds.{Grounds}
use Rattle.book.specs.declared.Kind.{Kind}
use Rattle.book.specs.declared.Request.TheVariants.{Begin}
use Rattle.book.specs.Decoded.{Decoded}
use Rattle.model.specs.Report.{Arrival}
use Rattle.model.specs.Book.{limits_at, entries_in, latest_time, flagged, Legal, Fresh}
use Rattle.model.specs.Record.{kind_number}
use Rattle.model.specs.Meters.{where_flagged, is_on}
use Rattle.model.specs.Choice.{Catalog, catalog_of, usable, parent_of, suitable, fails, grounds_of, ground_list, grantable, asks, suits}
use Rattle.model.specs.Choice.{allowed, goes_before, Choice, nobody, chosen, any_of, choose, switch_only, fails_for_switch, none_grantable}
use Rattle.model.specs.Step.{refusal, granted, do_begin, done, step}
use Rattle.model.specs.Ledger.{Use, empty, spent_count, spent_timed, spent_seconds, earliest, over, Ground, count-spent, timed-spent}
use Rattle.model.specs.Ledger.{seconds-spent, interval-over, interval-zero, before-start, after-end, switch-off, threshold-full}
use Rattle.model.specs.Ledger.{stands, marks_by}
use Rattle.model.specs.Demand3.{State, after, starting, Takes, PastChecks, InBookWithKey, Suits, OutOrSpent, Left, NoneLeft, start_or}
use Rattle.model.specs.Demand3.{is_some, figures, filled, chosen_answer, Granted, Chosen, Begins, held_in, Demand3, Every}
use Rattle.model.specs.Demand3.{ZeroLimit, zero-count, zero-timed, zero-interval, zero-accumulated, Spent, is_spent, NeverGranted}
use Rattle.model.specs.Demand3.{ForSwitch}
use Rattle.model.proofs.Ledger.Facts.{on_test, clash, and_left, and_right, and_both, not-positive}
use Rattle.model.proofs.Ledger.Sums.{all_map, Tidy}
use Rattle.model.proofs.Ledger.Marks.{marks-together}
use Rattle.model.proofs.Ledger.Figures.{earliest-le}
use Rattle.model.proofs.Ledger.Concrete.{held-ext, choose-sound, choose-none, none-choose}
use Rattle.model.proofs.Ledger.WellFormed.{legal-formed, static-self}
use Rattle.model.proofs.Demand3.Checks.{checked}
use Rattle.model.proofs.Ledger.Steps.{Inv, gate-take}
use Rattle.model.proofs.Demand3.Suitable.{any-sure, sure-any, usable-in, in-usable, suits-to, to-suits}
use Rattle.model.proofs.Demand3.Choice.{choose-first, weight_at, before-weight, precedes}
use Rattle.model.proofs.Demand3.Until.{grant-until}
use Rattle.model.proofs.Demand3.Current.{taking, answer-is, figures-at, tidy-now, players-below, idle-on, on-idle, some-on}
use Rattle.model.proofs.Demand3.Current.{on_some, continues, stops}
use Rattle.model.proofs.Demand3.Cancel.{cancels}
use Rattle.model.proofs.Demand3.History.{fresh-inv, after-inv, after-static, limited, struck-answers, struck-book, filled-limits}
use Rattle.model.proofs.Demand3.History.{answers-predicted, record-answers, record-final, record-lines}
use Rattle.model.proofs.Demand3.Gains.{lent_of, gains-of, reported-of}
use Rattle.model.proofs.Demand3.Zeros.{from-zeros, zeros-good, handed-good}
use Rattle.numbers.specs.Bits.{ones}

-- ## Grantable by the ledger

not-ltb : (a b : ℕ) → not (ltb a b) ≡ leb b a
not-ltb a b = on_test (leb b a) (λ q. rw (q, le-ltb a b (leb-true b a q))) (λ q. rw (q, lt-ltb a b (leb-false b a q)))

not-leb : (a b : ℕ) → not (leb a b) ≡ ltb b a
not-leb a b = on_test (leb a b) (λ q. rw (q, le-ltb b a (leb-true a b q))) (λ q. rw (q, lt-ltb b a (leb-false a b q)))

-- neither the one nor the other
neither-of : (f a b : Bool) → fails f (a || b) ≡ (f && not a && not b)
neither-of false a b = refl
neither-of true true b = refl
neither-of true false b = refl

meter-spent : (f : Bool) (c n : ℕ) → fails f (ltb (where_flagged f c) n) ≡ (f && leb n c)
meter-spent true c n = not-ltb c n
meter-spent false c n = refl

span-over : (f : Bool) (T n : ℕ) (s : Option ℕ)
    → fails f (not (eqb (one (f && is_some s)) 1) || ltb T (where_flagged f (start_or 0 s) + n)) ≡ (f && over T n s)
span-over false T n s = refl
span-over true T n none = refl
span-over true T n (some c) = not-ltb T (c + n)

-- a ground of the rules under the ledger's name
abbrev named : Grounds → Ground → Bool
named g count-spent = g.countspent
named g timed-spent = g.timedspent
named g seconds-spent = g.secondsspent
named g interval-over = g.intervalover
named g interval-zero = g.intervalzero
named g before-start = g.beforestart
named g after-end = g.afterend
named g switch-off = g.switchoff
named g threshold-full = g.thresholdfull

-- the names in the order of `ground_list`
abbrev names : List Ground
names = count-spent ∷ timed-spent ∷ before-start ∷ after-end ∷ interval-over ∷ seconds-spent ∷ interval-zero ∷ switch-off
    ∷ threshold-full ∷ []

some-stands : (f : Ground → Bool) (gs : List Ground) → eqb (how_many (map f gs)) 0 ≡ false → (g : Ground) × (f g ≡ true)
some-stands f [] e = clash refl e
some-stands f (g ∷ gs) e =
    on_test (f g) (λ q. (g, q)) (λ q.
    some-stands f gs (ne_eqb (how_many (map f gs)) 0 (λ z.
    clash (eq-eqb (one (f g) + how_many (map f gs)) 0 (omega (arith, z, ap one q))) e)))

-- which name is the switch's
abbrev is_switch : Ground → Bool
is_switch count-spent = false
is_switch timed-spent = false
is_switch seconds-spent = false
is_switch interval-over = false
is_switch interval-zero = false
is_switch before-start = false
is_switch after-end = false
is_switch switch-off = true
is_switch threshold-full = false

module _ (b : Book) (e : Event) (us : List Use) (i : ℕ) (l : Limits) where
  -- the rules' grounds on the ledger's figures
  abbrev figured : Grounds
  figured = grounds_of (asks b e) l (figures (λ p. e.time) us i l)

  abbrev able : Bool
  able = grantable (asks b e) l (figures (λ p. e.time) us i l)

  -- the switch stands alone, by rules and ledger
  abbrev alone : Bool
  alone = switch_only (asks b e) l (figures (λ p. e.time) us i l)

-- the uses of a ledger as the invariant has them
record Orderly (T : ℕ) (us : List Use) : Type 0 where
  tidy : Tidy T us
  players : Every (λ u. u.player < 16) us

module _ (b : Book) (e : Event) (us : List Use) (orderly : Orderly e.time us) (i : ℕ) (l : Limits) where
  -- each is the ledger's
  same-ground : (g : Ground) → named (figured b e us i l) g ≡ stands b.switch e us i l g
  unfolding grounds_of figures stands
  same-ground count-spent = meter-spent (flagged 1 l) (spent_count us i) l.count
  same-ground timed-spent = meter-spent (flagged 2 l) (spent_timed e.time us i l) l.timed
  same-ground seconds-spent = meter-spent (flagged 32 l) (spent_seconds us i) l.accumulated
  same-ground interval-over = span-over (flagged 16 l) e.time l.interval (earliest i us)
  same-ground interval-zero = ap (λ (b : Bool). flagged 16 l && b) (not-positive l.interval)
  same-ground before-start = ap (λ (b : Bool). flagged 4 l && b) (not-leb l.start e.time)
  same-ground after-end = ap (λ (b : Bool). flagged 8 l && b) (not-leb e.time l.end)
  same-ground switch-off = neither-of (eqb l.tracked 1) (eqb b.switch 1) (eqb l.mark 1)
  same-ground threshold-full =
      ap (λ (b : Bool). not (eqb l.threshold 0) && b)
      (not-ltb (ones (marks_by (λ p. e.time) us i)) l.threshold
      ∙ ap (leb l.threshold) (marks-together e.time i us orderly.tidy orderly.players))

  able-left : able b e us i l ≡ true → (g : Ground) → stands b.switch e us i l g ≡ false
  unfolding grantable
  able-left h g = sym (same-ground g) ∙ off g
    where
      none : Fail (ground_list (figured b e us i l))
      none = none_pass (ground_list (figured b e us i l)) h

      off : (g : Ground) → named (figured b e us i l) g ≡ false
      off count-spent = none.0
      off timed-spent = none.1.0
      off before-start = none.1.1.0
      off after-end = none.1.1.1.0
      off interval-over = none.1.1.1.1.0
      off seconds-spent = none.1.1.1.1.1.0
      off interval-zero = none.1.1.1.1.1.1.0
      off switch-off = none.1.1.1.1.1.1.1.0
      off threshold-full = none.1.1.1.1.1.1.1.1.0

  unable-stands : able b e us i l ≡ false → (g : Ground) × (stands b.switch e us i l g ≡ true)
  unfolding grantable
  unable-stands h = let x = some-stands (named (figured b e us i l)) names h in (x.0, sym (same-ground x.0) ∙ x.1)

  alone-stands : alone b e us i l ≡ true → stands b.switch e us i l switch-off ≡ true
  unfolding switch_only
  alone-stands h = sym (same-ground switch-off) ∙ and_left (figured b e us i l).switchoff _ h

  alone-only : alone b e us i l ≡ true → (g : Ground) → stands b.switch e us i l g ≡ true → g ≡ switch-off
  unfolding switch_only
  alone-only h g z = go g (same-ground g ∙ z)
    where
      on : one (figured b e us i l).switchoff ≡ 1
      on = ap one (and_left (figured b e us i l).switchoff _ h)

      sum_one : how_many (ground_list (figured b e us i l)) ≡ 1
      sum_one = eqb-true _ 1 (and_right (figured b e us i l).switchoff _ h)

      go : (g : Ground) → named (figured b e us i l) g ≡ true → g ≡ switch-off
      go switch-off q = refl
      go count-spent q = absurd (omega (arith, on, sum_one, ap one q))
      go timed-spent q = absurd (omega (arith, on, sum_one, ap one q))
      go seconds-spent q = absurd (omega (arith, on, sum_one, ap one q))
      go interval-over q = absurd (omega (arith, on, sum_one, ap one q))
      go interval-zero q = absurd (omega (arith, on, sum_one, ap one q))
      go before-start q = absurd (omega (arith, on, sum_one, ap one q))
      go after-end q = absurd (omega (arith, on, sum_one, ap one q))
      go threshold-full q = absurd (omega (arith, on, sum_one, ap one q))

  is-alone : stands b.switch e us i l switch-off ≡ true → ((g : Ground) → stands b.switch e us i l g ≡ true → g ≡ switch-off)
      → alone b e us i l ≡ true
  unfolding switch_only
  is-alone h only =
      let on : (figured b e us i l).switchoff ≡ true = same-ground switch-off ∙ h in
      let off : (g : Ground) → is_switch g ≡ false → one (named (figured b e us i l) g) ≡ 0 = λ g n.
      on_test (named (figured b e us i l) g)
      (λ q. clash (ap is_switch (only g (sym (same-ground g) ∙ q))) n)
      (λ q. ap one q) in
      and_both on (eq-eqb (how_many (ground_list (figured b e us i l))) 1 (omega (
        arith,
        ap one on,
        off count-spent refl,
        off timed-spent refl,
        off seconds-spent refl,
        off interval-over refl,
        off interval-zero refl,
        off before-start refl,
        off after-end refl,
        off threshold-full refl,
      )))

-- ## A begin, once all players are settled

granted-answer : (code : ℕ) (t : Ask) (asset : ℕ) (es : List Entry) (o : Open) (c : Choice)
    → (granted code t asset es o c).answer ≡ chosen_answer code t.time es c
granted-answer code t asset es o nobody = refl
granted-answer code t asset es o (chosen i) = refl

-- the four outcomes of a begin, each with its answer
data Way (c : Catalog) (es : List Entry) (o : Open) (t : Ask) (asset kind : ℕ) : Type 0 where
  is-busy : is_on o ≡ true → (do_begin c es o t asset kind).answer ≡ refusal 11 → Way c es o t asset kind
  is-unknown : is_on o ≡ false → usable c asset ≡ false → (do_begin c es o t asset kind).answer ≡ refusal 10 → Way c es o t asset kind
  is-unsuited : is_on o ≡ false → usable c asset ≡ true → any_of (suits c es asset kind) c.entry_count ≡ false
      → (do_begin c es o t asset kind).answer ≡ refusal 12 → Way c es o t asset kind
  is-past : is_on o ≡ false → usable c asset ≡ true → any_of (suits c es asset kind) c.entry_count ≡ true
      → (do_begin c es o t asset kind).answer ≡ chosen_answer (none_grantable c es t asset kind) t.time es (choose c es t asset kind)
      → Way c es o t asset kind

way : (c : Catalog) (es : List Entry) (o : Open) (t : Ask) (asset kind : ℕ) → Way c es o t asset kind
unfolding do_begin
way c es o t asset kind =
    on_test (is_on o) (λ q. is-busy q (rw q)) (λ q.
    on_test (usable c asset)
    (λ r.
    on_test (any_of (suits c es asset kind) c.entry_count)
    (λ u. is-past q r u (rw (q, r, u) (granted-answer _ t asset es _ (choose c es t asset kind))))
    (λ u. is-unsuited q r u (rw (q, r, u))))
    (λ r. is-unknown q r (rw (q, r))))

-- 13 or 43
none-code : (c : Catalog) (es : List Entry) (t : Ask) (asset kind : ℕ)
    → (none_grantable c es t asset kind ≡ 13) ⊎ (none_grantable c es t asset kind ≡ 43)
unfolding none_grantable
none-code c es t asset kind = on_test (any_of (fails_for_switch c es t asset kind) c.entry_count) (λ q. inr (rw q)) (λ q. inl (rw q))

chosen-past : (code t : ℕ) (es : List Entry) (c : Choice) → (code ≡ 13) ⊎ (code ≡ 43) → PastChecks (chosen_answer code t es c)
chosen-past code t es nobody (inl z) = record { not-10 = λ x. omega arith; not-11 = λ x. omega arith; not-12 = λ x. omega arith }
chosen-past code t es nobody (inr z) = record { not-10 = λ x. omega arith; not-11 = λ x. omega arith; not-12 = λ x. omega arith }
chosen-past code t es (chosen i) z = record { not-10 = λ x. omega arith; not-11 = λ x. omega arith; not-12 = λ x. omega arith }

-- ## A begin that is taken

module _ (s : State) (e : Event) (h : Inv s.book s.account) (kind : Kind) (asset : ℕ) (x : e.request ≡ Begin kind asset)
    (t : Takes s e) where
  abbrev B : Book
  B = s.book

  abbrev F : List Entry
  F = filled e.time s.account.uses B.entries

  abbrev O : Open
  O = held_in e.time e.player s.account.uses

  begin-is : (step B e).answer ≡ (do_begin (catalog_of B) F O (asks B e) asset (kind_number kind)).answer
  unfolding done
  begin-is = answer-is s e h t (Begin kind asset) x

  suits-same : suits (catalog_of B) F asset (kind_number kind) ≡ suits (catalog_of B) B.entries asset (kind_number kind)
  suits-same = fun_ext (λ j. ap (suitable asset (parent_of (catalog_of B) asset) (kind_number kind))
      (filled-limits e.time s.account.uses 0 B.entries j))

  some-suits : any_of (suits (catalog_of B) F asset (kind_number kind)) (entries_in B) ≡ true → (i : ℕ) × Suits B asset (kind_number kind) i
  some-suits u =
      let y = any-sure (suits (catalog_of B) B.entries asset (kind_number kind)) (entries_in B) (rw suits-same at u) in
      (y.0, suits-to B h.formed asset (kind_number kind) y.0 y.1.below y.1.passes)

  any-suits : (i : ℕ) → Suits B asset (kind_number kind) i → any_of (suits (catalog_of B) F asset (kind_number kind)) (entries_in B) ≡ true
  any-suits i z =
      rw suits-same
      (sure-any (suits (catalog_of B) B.entries asset (kind_number kind)) (entries_in B) i z.below
      (to-suits B h.formed asset (kind_number kind) i z))

  -- ## The choice

  orderly : Orderly e.time s.account.uses
  orderly = record { tidy = tidy-now s e h t; players = players-below s e h t }

  -- entry j is grantable by the ledger's figures
  abbrev able_at : ℕ → Bool
  able_at j = able B e s.account.uses j (limits_at B.entries j)

  allowed-is : (j : ℕ) → allowed (catalog_of B) F (asks B e) asset (kind_number kind) j
      ≡ (suits (catalog_of B) B.entries asset (kind_number kind) j && able_at j)
  allowed-is j = rw (filled-limits e.time s.account.uses 0 B.entries j, figures-at s e h t j)

  left_at : (j : ℕ) → able_at j ≡ true → Left e s j
  left_at j = able-left B e s.account.uses orderly j (limits_at B.entries j)

  unable-out : (j : ℕ) → able_at j ≡ false → OutOrSpent e s j
  unable-out j q =
      let x = unable-stands B e s.account.uses orderly j (limits_at B.entries j) q in
      record { ground = x.0; holds = x.1 }

  left-able : (j : ℕ) → Left e s j → able_at j ≡ true
  left-able j f = on_test (able_at j) (λ q. q) (λ q. let o = unable-out j q in clash o.holds (f o.ground))

  out-unable : (j : ℕ) → OutOrSpent e s j → able_at j ≡ false
  out-unable j o = on_test (able_at j) (λ q. clash o.holds (left_at j q o.ground)) (λ q. q)

  -- an interval started at a time that an event can have
  soon : (i c : ℕ) → earliest i s.account.uses ≡ some c → c ≤ latest_time
  soon i c z =
      let k = gate-take _ _ e (taking s e h t) in
      omega (
        arith,
        k.later,
        k.early,
        earliest-le B.time i s.account.uses c (all_map (λ u w. w.begun) s.account.uses h.held.sound) z,
      )

  -- the weight of entry j by the ledger
  abbrev weighs : ℕ → ℕ
  weighs j = weight_at B.entries s.account.uses asset h.formed.limits soon j

  goes-is : (i j : ℕ) → goes_before F asset i j ≡ ltb (weighs i) (weighs j)
  goes-is i j =
      rw (
        filled-limits e.time s.account.uses 0 B.entries i,
        figures-at s e h t i,
        filled-limits e.time s.account.uses 0 B.entries j,
        figures-at s e h t j,
      )
      (before-weight B.entries s.account.uses asset h.formed.limits soon e.time i j)

  -- ## None grantable

  -- 13, or 43
  abbrev N : ℕ
  N = none_grantable (catalog_of B) F (asks B e) asset (kind_number kind)

  abbrev switch_at : ℕ → Bool
  switch_at = fails_for_switch (catalog_of B) F (asks B e) asset (kind_number kind)

  switch-is : (j : ℕ) → switch_at j
      ≡ (suits (catalog_of B) B.entries asset (kind_number kind) j && alone B e s.account.uses j (limits_at B.entries j))
  switch-is j = rw (filled-limits e.time s.account.uses 0 B.entries j, figures-at s e h t j)

  for-switch : any_of switch_at (entries_in B) ≡ true → ForSwitch s e asset (kind_number kind)
  for-switch q =
      let y = any-sure switch_at (entries_in B) q in
      let z = sym (switch-is y.0) ∙ y.1.passes in
      let a = and_right (suits (catalog_of B) B.entries asset (kind_number kind) y.0) _ z in
      record {
        entry = y.0;
        suits = suits-to B h.formed asset (kind_number kind) y.0 y.1.below
            (and_left (suits (catalog_of B) B.entries asset (kind_number kind) y.0) _ z);
        stands = alone-stands B e s.account.uses orderly y.0 (limits_at B.entries y.0) a;
        only = alone-only B e s.account.uses orderly y.0 (limits_at B.entries y.0) a;
      }

  switch-for : ForSwitch s e asset (kind_number kind) → any_of switch_at (entries_in B) ≡ true
  switch-for f =
      sure-any switch_at (entries_in B) f.entry f.suits.below
      (switch-is f.entry ∙ and_both (to-suits B h.formed asset (kind_number kind) f.entry f.suits)
      (is-alone B e s.account.uses orderly f.entry (limits_at B.entries f.entry) f.stands f.only))

  code-43 : ForSwitch s e asset (kind_number kind) → N ≡ 43
  unfolding none_grantable catalog_of
  code-43 f = rw (switch-for f)

  code-13 : (ForSwitch s e asset (kind_number kind) → ⊥) → N ≡ 13
  unfolding none_grantable catalog_of
  code-13 n = on_test (any_of switch_at (entries_in B)) (λ q. absurd (n (for-switch q))) (λ q. rw q)

  is-43 : N ≡ 43 → ForSwitch s e asset (kind_number kind)
  unfolding none_grantable catalog_of
  is-43 z = on_test (any_of switch_at (entries_in B)) for-switch (λ q. absurd (omega (arith, rw q at z)))

  module _ (choice-is : (step B e).answer ≡ chosen_answer N e.time F (choose (catalog_of B) F (asks B e) asset (kind_number kind))) where
    nobody-code : (c : Choice) → ((chosen_answer N e.time F c).code ≡ 0 → ⊥) → c ≡ nobody
    nobody-code nobody y = refl
    nobody-code (chosen i) y = absurd (y refl)

    -- refused: nothing was chosen, and the code is N
    refused : (k : ℕ) → (k ≡ 0 → ⊥) → (step B e).answer.code ≡ k
        → (choose (catalog_of B) F (asks B e) asset (kind_number kind) ≡ nobody) × (N ≡ k)
    refused k p y =
        let x = ap (λ (a : Answer). a.code) (sym choice-is) ∙ y in
        let c = nobody-code (choose (catalog_of B) F (asks B e) asset (kind_number kind)) (λ z. p (sym x ∙ z)) in
        (c, sym (ap (λ (w : Choice). (chosen_answer N e.time F w).code) c) ∙ x)

    none_left : choose (catalog_of B) F (asks B e) asset (kind_number kind) ≡ nobody → NoneLeft s e asset (kind_number kind)
    unfolding choose catalog_of
    none_left c j z =
        let q : allowed (catalog_of B) F (asks B e) asset (kind_number kind) j ≡ false = choose-none _ _ (entries_in B) c j z.below in
        unable-out j (rw (to-suits B h.formed asset (kind_number kind) j z) at (sym (allowed-is j) ∙ q))

    left-none : NoneLeft s e asset (kind_number kind) → (step B e).answer ≡ refusal N
    unfolding choose catalog_of
    left-none y =
        let c : choose (catalog_of B) F (asks B e) asset (kind_number kind) ≡ nobody =
        none-choose _ _ (entries_in B) (λ j z.
        allowed-is j ∙
        on_test (suits (catalog_of B) B.entries asset (kind_number kind) j)
        (λ q. rw (q, out-unable j (y j (suits-to B h.formed asset (kind_number kind) j z q))))
        (λ q. rw q)) in
        choice-is ∙ ap (chosen_answer N e.time F) c

    -- entry i is chosen
    granted-entry : (i : ℕ) → choose (catalog_of B) F (asks B e) asset (kind_number kind) ≡ chosen i → Granted s e kind asset
        (chosen_answer N e.time F (chosen i))
    unfolding choose catalog_of
    granted-entry i q =
        let y = choose-sound (allowed (catalog_of B) F (asks B e) asset (kind_number kind)) _ (entries_in B) i q in
        let z : (suits (catalog_of B) B.entries asset (kind_number kind) i && able_at i) ≡ true = sym (allowed-is i) ∙ y.passes in
        let v : Suits B asset (kind_number kind) i = suits-to B h.formed asset (kind_number kind) i y.below
        (and_left (suits (catalog_of B) B.entries asset (kind_number kind) i) _ z) in
        record {
          code = refl;
          suits = v;
          left = left_at i (and_right (suits (catalog_of B) B.entries asset (kind_number kind) i) _ z);
          first = λ j w l d.
              precedes B.entries s.account.uses asset h.formed.limits soon i j d
              (choose-first _ _ weighs goes-is (entries_in B) i q j w.below
              (allowed-is j ∙ and_both (to-suits B h.formed asset (kind_number kind) j w) (left-able j l)));
          until =
              rw (filled-limits e.time s.account.uses 0 B.entries i, figures-at s e h t i)
              (grant-until e.time s.account.uses i (limits_at B.entries i) kind v.kind-is);
        }

    granted-is : ((step B e).answer.code ≡ 13 → ⊥) → ((step B e).answer.code ≡ 43 → ⊥) → Granted s e kind asset (step B e).answer
    granted-is y w = go (choose (catalog_of B) F (asks B e) asset (kind_number kind)) refl
      where
        none : (N ≡ 13) ⊎ (N ≡ 43) → (step B e).answer ≡ refusal N → Granted s e kind asset (step B e).answer
        none (inl z) x = absurd (y (ap (λ (a : Answer). a.code) x ∙ z))
        none (inr z) x = absurd (w (ap (λ (a : Answer). a.code) x ∙ z))

        go : (c : Choice) → choose (catalog_of B) F (asks B e) asset (kind_number kind) ≡ c → Granted s e kind asset (step B e).answer
        go nobody q = none (none-code (catalog_of B) F (asks B e) asset (kind_number kind)) (choice-is ∙ ap (chosen_answer N e.time F) q)
        go (chosen i) q = subst (Granted s e kind asset) (sym (choice-is ∙ ap (chosen_answer N e.time F) q)) (granted-entry i q)

    either : NoneLeft s e asset (kind_number kind) → ((step B e).answer ≡ refusal 13) ⊎ ((step B e).answer ≡ refusal 43)
    either y = go (none-code (catalog_of B) F (asks B e) asset (kind_number kind))
      where
        go : (N ≡ 13) ⊎ (N ≡ 43) → ((step B e).answer ≡ refusal 13) ⊎ ((step B e).answer ≡ refusal 43)
        go (inl z) = inl (left-none y ∙ ap refusal z)
        go (inr z) = inr (left-none y ∙ ap refusal z)

    choice : Chosen s e kind asset
    choice = record {
      none = (
        λ y.
            let x = refused 13 (λ z. omega arith) y in
            (none_left x.0, λ f. absurd (omega (arith, x.1, code-43 f))),
        λ y. left-none y.0 ∙ ap refusal (code-13 y.1),
      );
      switch = (
        λ y. let x = refused 43 (λ z. omega arith) y in (none_left x.0, is-43 x.1),
        λ y. left-none y.0 ∙ ap refusal (code-43 y.1),
      );
      either = either;
      granted = granted-is;
      answer = choice-is;
    }

  -- ## The four outcomes, in words

  pub begins : Begins s e kind asset
  unfolding catalog_of
  begins = go (way (catalog_of B) F O (asks B e) asset (kind_number kind))
    where
      code_of : (a : Answer) → (step B e).answer ≡ a → (step B e).answer.code ≡ a.code
      code_of a x = ap (λ (y : Answer). y.code) x

      go : Way (catalog_of B) F O (asks B e) asset (kind_number kind) → Begins s e kind asset
      go (is-busy q x) =
          let y : (step B e).answer.code ≡ 11 = code_of (refusal 11) (begin-is ∙ x) in
          record {
            busy = (λ z. some-on s e h t q, λ z. begin-is ∙ x);
            unknown = (λ z. absurd (omega (arith, y, z)), λ z. clash q (on-idle s e h t z.idle));
            unsuited = (λ z. absurd (omega (arith, y, z)), λ z. clash q (on-idle s e h t z.idle));
            reaches = (λ n. absurd (n.not-11 y), λ m. clash q (on-idle s e h t m.idle));
            choice = λ n. absurd (n.not-11 y);
          }
      go (is-unknown q r x) =
          let y : (step B e).answer.code ≡ 10 = code_of (refusal 10) (begin-is ∙ x) in
          record {
            busy = (λ z. absurd (omega (arith, y, z)), λ z. clash (on_some s e h t z) q);
            unknown = (
              λ z. record { idle = idle-on s e h t q; not_in = λ k. clash (in-usable B h.formed asset k) r },
              λ z. begin-is ∙ x,
            );
            unsuited = (λ z. absurd (omega (arith, y, z)), λ z. clash (in-usable B h.formed asset z.asset-in) r);
            reaches = (λ n. absurd (n.not-10 y), λ m. clash (in-usable B h.formed asset m.asset-in) r);
            choice = λ n. absurd (n.not-10 y);
          }
      go (is-unsuited q r u x) =
          let y : (step B e).answer.code ≡ 12 = code_of (refusal 12) (begin-is ∙ x) in
          let k : InBookWithKey B asset = usable-in B h.formed asset r in
          record {
            busy = (λ z. absurd (omega (arith, y, z)), λ z. clash (on_some s e h t z) q);
            unknown = (λ z. absurd (omega (arith, y, z)), λ z. absurd (z.not_in k));
            unsuited = (
              λ z. record { idle = idle-on s e h t q; asset-in = k; none-suits = λ i v. clash (any-suits i v) u },
              λ z. begin-is ∙ x,
            );
            reaches = (λ n. absurd (n.not-12 y), λ m. clash (any-suits m.entry m.suits) u);
            choice = λ n. absurd (n.not-12 y);
          }
      go (is-past q r u x) =
          let k : InBookWithKey B asset = usable-in B h.formed asset r in
          let i = some-suits u in
          let past : PastChecks (step B e).answer = rw (begin-is ∙ x)
          (chosen-past N e.time F (choose (catalog_of B) F (asks B e) asset (kind_number kind))
          (none-code (catalog_of B) F (asks B e) asset (kind_number kind))) in
          record {
            busy = (λ z. absurd (past.not-11 z), λ z. clash (on_some s e h t z) q);
            unknown = (λ z. absurd (past.not-10 z), λ z. absurd (z.not_in k));
            unsuited = (λ z. absurd (past.not-12 z), λ z. absurd (z.none-suits i.0 i.1));
            reaches = (
              λ n. record { idle = idle-on s e h t q; asset-in = k; entry = i.0; suits = i.1 },
              λ m. past,
            );
            choice = λ n. choice (begin-is ∙ x);
          }

-- ## A limit of zero

zero-reached : (n m : ℕ) → n ≡ 0 → leb n m ≡ true
zero-reached n m z = le-leb n m (omega arith)

zero-spent : (e : Event) (s : State) (i : ℕ) → ZeroLimit (limits_at s.book.entries i) → Spent e s i
unfolding stands
zero-spent e s i (zero-count f z) = record { ground = count-spent; is-spent = refl; holds = and_both f (zero-reached _ _ z) }
zero-spent e s i (zero-timed f z) = record { ground = timed-spent; is-spent = refl; holds = and_both f (zero-reached _ _ z) }
zero-spent e s i (zero-interval f z) = record { ground = interval-zero; is-spent = refl; holds = and_both f (eq-eqb _ 0 z) }
zero-spent e s i (zero-accumulated f z) = record { ground = seconds-spent; is-spent = refl; holds = and_both f (zero-reached _ _ z) }

module _ (b : Book) (h : (xs : List Arrival) → Inv (after (starting b) xs).book (after (starting b) xs).account) where
  -- the limits of the fresh book are those of every later one
  zero-later : (xs : List Arrival) (i : ℕ) → ZeroLimit (limits_at b.entries i) → ZeroLimit (limits_at
      (after (starting b) xs).book.entries i)
  zero-later xs i = subst ZeroLimit (sym ((after-static xs (starting b)).limits i))

  never-granted : NeverGranted b
  never-granted = record {
    spent = λ xs e i z. zero-spent e (after (starting b) xs) i (zero-later xs i z);
    unused = λ xs i z. all_map (λ u w y. w.allows (zero-later xs u.entry (rw y z))) (after (starting b) xs).account.uses
        (h xs).held.sound;
    only = λ xs e kind asset x t m z.
        let s = after (starting b) xs in
        let g : Begins s e kind asset = begins s e (h xs) kind asset x t in
        (g.choice (g.reaches.1 m)).none.1 (
          λ i v.
              let y = zero-spent e s i (zero-later xs i (z i v)) in
              record { ground = y.ground; holds = y.holds },
          λ f.
              let y = zero-spent e s f.entry (zero-later xs f.entry (z f.entry f.suits)) in
              clash y.is-spent (ap is_spent (f.only y.ground y.holds)),
        );
  }

-- ## Demand 3

pub demand3 : (b : Book) → Legal b → Fresh b → Demand3 b
demand3 b g f =
    let start : Inv b empty = fresh-inv b (legal-formed b g) f in
    let h : (xs : List Arrival) → Inv (after (starting b) xs).book (after (starting b) xs).account = λ xs. after-inv xs (starting b)
    start in
    record {
      time = λ xs. (h xs).time;
      limits = λ xs.
          rw (← (h xs).time)
          (limited _ _ _ b.entries _ _ _ (omega (arith, (h xs).formed.players))
          (held-ext refl refl (λ i. sym ((after-static xs (starting b)).limits i)) (λ i. refl) (λ p. refl) (h xs).held));
      lent = λ xs x. lent_of (after (starting b) xs) x;
      checked = λ xs e. checked (after (starting b) xs) e (h xs);
      begins = λ xs e kind asset x t. begins (after (starting b) xs) e (h xs) kind asset x t;
      continues = λ xs e x t. continues (after (starting b) xs) e (h xs) t x;
      stops = λ xs e x t. stops (after (starting b) xs) e (h xs) t x;
      cancels = λ xs e x t. cancels (after (starting b) xs) e (h xs) t x;
      struck_answers = λ xs. struck-answers xs (starting b) start;
      struck_book = λ xs. struck-book xs (starting b) start;
      predictable = λ xs. answers-predicted b xs (starting b) start (static-self b);
      never = never-granted b h;
      gains = λ xs x. gains-of (after (starting b) xs) x (h xs);
      reported = reported-of b start;
      zeros = (from-zeros b, zeros-good b g);
      stays_good = handed-good b g start;
      records = λ ls rs. (record-answers ls rs b, record-final ls rs b, record-lines ls rs b);
    }
