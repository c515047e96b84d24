-- What a taken event leaves, as the code computes it: an operation on one entry, and the book stored after it.
use Rattle.std.specs.Prelude.{ℕ, suc, ◌%◌, ◌≤◌, ◌<◌, ◌≡◌, refl, Bool, true, false, cond, List, map, length, set, ltb, Result, Ok, Err, Option, None, Some, is_some, unwrap_or}
use Rattle.std.proofs.Common.{arith, sym, ap, ◌∙◌, ltb-true, ltb-false}
use Rattle.std.proofs.Math.Seq.{set_out}
use Rattle.numbers.proofs.Tests.{on_test, clash}
use Rattle.book.proofs.Codes.{never-granted}
use Rattle.book.specs.declared.Entry.{Entry}
use Rattle.book.specs.declared.Open.{Open}
use Rattle.book.specs.declared.Book.{Book}
use Rattle.book.specs.declared.Ask.{Ask}
use Rattle.book.specs.declared.Event.{Event}
use Rattle.book.specs.declared.Player.{Player}
use Rattle.book.specs.declared.Last.{Last}
use Rattle.book.specs.declared.Latest.{Latest}
use Rattle.book.specs.declared.Recent.{Recent}
use Rattle.book.specs.declared.Outcome.{Outcome}
use Rattle.book.specs.Codes.{event_code}
use Rattle.book.specs.declared.EventError.{EventError}
use Rattle.book.specs.Changed.{changed}
use Rattle.model.specs.Book.{limits_at, meters_at, latest_time, assets_in, entries_in}
use Rattle.model.specs.Choice.{asks, Catalog, usable, parent_of, suits, any_of, grantable, chosen, choose, catalog_of, fails_for_switch}
use Rattle.model.specs.Choice.{none_grantable}
use Rattle.model.specs.Step.{Done, unchanged, noted, latest_by, recent_of, granted, do_begin, done, last_at, open_at, taken_step}
use Rattle.model.specs.Meters.{shut, settled, is_on}
use Rattle.model.proofs.Ledger.Concrete.{shut-last}
use Rattle.choice.specs.Best.{Best, best_after}
use Rattle.rules.specs.Codes.{begin_code}
use Rattle.choice.specs.Choice.{best-some, best-nobody}
use Rattle.uses.specs.declared.Effect.{Effect}
use Rattle.uses.specs.Uses.{kept, placed, stored, begin_on, begin-placed}
use Rattle.uses.specs.Due.{any_due, none-due}
use Rattle.step.specs.declared.Act.{Act}
use Rattle.step.specs.Settle.{with, settled_book}

-- what an operation leaves: what it did to an entry, or a refusal, which changes no entry
abbrev pub left : Result Act EventError → Open → List Entry → Done
left (Ok a) o es = placed a.at a.part es
left (Err e) o es = unchanged (event_code e) es o

-- the book after the event is stored
unfoldable pub stored_book : Book → Event → Done → Book
stored_book b e d = changed b e.time (latest_by e d.started) d.entries
    (set b.players e.player (record { last = noted e d.answer; current = d.current }))

-- settling when nothing is due
pub settled-none : (t : ℕ) (b : Book) → length b.players ≡ 16 → any_due t b.players ≡ false → b ≡ settled_book t b
unfolding settled_book
settled-none t b h e = sym (ap (λ (ps : List Player). with b (settled t b.players b.entries) ps)
    (none-due t b.players b.entries h e).0 ∙ ap (λ (es : List Entry). with b es b.players)
    (none-due t b.players b.entries h e).1)

-- ## A begin, by the code's tests in order

-- the position that the choice found
abbrev pub found_at : Best → Option ℕ
found_at x = cond (ltb x.at 64) (Some x.at) None

none-found : (x : Best) → found_at x ≡ None → 64 ≤ x.at
none-found x h =
    on_test (ltb x.at 64)
    (λ l. let z : ◌≡◌ {A = Option ℕ} (Some x.at) None = rw l at h in absurd (some-none z))
    (λ l. ltb-false x.at 64 l)
  where
    some-none : {k : ℕ} → ◌≡◌ {A = Option ℕ} (Some k) None → ⊥
    some-none q = let z : ◌≡◌ {A = Bool} true false = ap is_some q in clash refl z

pub some-found : (x : Best) (k : ℕ) → found_at x ≡ Some k → (x.at < 64) × (x.at ≡ k)
some-found x k h =
    on_test (ltb x.at 64)
    (λ l. let z : ◌≡◌ {A = Option ℕ} (Some x.at) (Some k) = rw l at h in (ltb-true x.at 64 l, ap (λ (m : Option ℕ). unwrap_or m 0) z))
    (λ l. let z : ◌≡◌ {A = Option ℕ} None (Some k) = rw l at h in
    let w : ◌≡◌ {A = Bool} false true = ap is_some z in clash w refl)

module _ (c : Catalog) (es : List Entry) (o : Open) (ask : Ask) (asset kind : ℕ) where
  abbrev best : Best
  best = best_after es asset (parent_of c asset) kind ask c.entry_count

  pub begin-11 : is_on o ≡ true → do_begin c es o ask asset kind ≡ unchanged 11 es o
  unfolding do_begin
  begin-11 on = rw on

  module _ (off : is_on o ≡ false) where
    pub begin-10 : usable c asset ≡ false → do_begin c es o ask asset kind ≡ unchanged 10 es o
    unfolding do_begin
    begin-10 u = rw (off, u)

    module _ (u : usable c asset ≡ true) where
      pub begin-12 : any_of (suits c es asset kind) c.entry_count ≡ false → do_begin c es o ask asset kind ≡ unchanged 12 es o
      unfolding do_begin
      begin-12 s = rw (off, u, s)

      module _ (s : any_of (suits c es asset kind) c.entry_count ≡ true) where
        begin-choice : do_begin c es o ask asset kind
            ≡ granted (none_grantable c es ask asset kind) ask asset es o (choose c es ask asset kind)
        unfolding do_begin
        begin-choice = rw (off, u, s)

        begin-none : c.entry_count ≤ 64 → found_at best ≡ None → do_begin c es o ask asset kind ≡ unchanged (none_grantable c es ask asset kind) es o
        begin-none h p =
            begin-choice
            ∙ ap (granted (none_grantable c es ask asset kind) ask asset es o) (best-nobody c es ask asset kind h (none-found best p))

        begin-grants : (k : ℕ) → found_at best ≡ Some k → (part : Effect) → ask.time ≤ latest_time
            → part ≡ begin_on (k % 256) asset ask (limits_at es k) (meters_at es k) o → placed k part es ≡ do_begin c es o ask asset kind
        begin-grants k p part h q =
            let f = some-found best k p in
            let w = best-some c es ask asset kind f.0 in
            let g : grantable ask (limits_at es k) (meters_at es k) ≡ true = rw (sym f.1) w.1 in
            let whole : k % 256 ≡ k = omega (arith, f.0, f.1) in
            ap (λ (x : Effect). placed k x es) (q ∙ rw whole refl)
            ∙ begin-placed k asset (none_grantable c es ask asset kind) ask es o g h
            ∙ sym (begin-choice ∙ ap (granted (none_grantable c es ask asset kind) ask asset es o) (w.0 ∙ ap chosen f.1))

  -- the same by what `begin_entry` returns: `us`, `su`, `sw` and `at` are what the code found
  module _ (us su sw : Bool) (at : Option ℕ)
      (hu : us ≡ usable c asset)
      (hs : is_on o ≡ false → usable c asset ≡ true → su ≡ any_of (suits c es asset kind) c.entry_count)
      (hk : is_on o ≡ false → usable c asset ≡ true → at ≡ found_at best)
      (hw : is_on o ≡ false → usable c asset ≡ true → sw ≡ any_of (fails_for_switch c es ask asset kind) c.entry_count) where
    none_is : sw ≡ any_of (fails_for_switch c es ask asset kind) c.entry_count → cond sw 43 13 ≡ none_grantable c es ask asset kind
    unfolding none_grantable
    none_is h = rw h

    pub begin-refused : c.entry_count ≤ 64 → (e : EventError) → event_code e ≡ begin_code (is_on o) us su (is_some at) sw
        → unchanged (event_code e) es o ≡ do_begin c es o ask asset kind
    begin-refused few e hc =
        on_test (is_on o)
        (λ on. refused-by 11 (hc ∙ rw on refl) (begin-11 on))
        (λ off. on_test (usable c asset)
        (λ u. on_test su
        (λ s. go off u s at refl)
        (λ s. refused-by 12 (hc ∙ rw (off, hu ∙ u, s) refl) (begin-12 off u (sym (hs off u) ∙ s))))
        (λ u. refused-by 10 (hc ∙ rw (off, hu ∙ u) refl) (begin-10 off u)))
      where
        refused-by : (x : ℕ) → event_code e ≡ x → do_begin c es o ask asset kind ≡ unchanged x es o
            → unchanged (event_code e) es o ≡ do_begin c es o ask asset kind
        refused-by x h d = ap (λ (y : ℕ). unchanged y es o) h ∙ sym d

        go : is_on o ≡ false → usable c asset ≡ true → su ≡ true → (m : Option ℕ) → at ≡ m
            → unchanged (event_code e) es o ≡ do_begin c es o ask asset kind
        go off u s None q =
            refused-by (none_grantable c es ask asset kind) (hc ∙ rw (off, hu ∙ u, s, q) (none_is (hw off u)))
            (begin-none off u (sym (hs off u) ∙ s) few (sym (hk off u) ∙ q))
        go off u s (Some k) q = absurd (never-granted e (hc ∙ rw (off, hu ∙ u, s, q) refl))

    pub begin-granted : (k : ℕ) → at ≡ Some k → begin_code (is_on o) us su true sw ≡ 0 → ask.time ≤ latest_time → (part : Effect)
        → part ≡ begin_on (k % 256) asset ask (limits_at es k) (meters_at es k) o → placed k part es ≡ do_begin c es o ask asset kind
    begin-granted k q none ht part part-is =
        on_test (is_on o)
        (λ on. absurd (not-zero 10 (rw on at none)))
        (λ off. on_test (usable c asset)
        (λ u. on_test su
        (λ s. begin-grants off u (sym (hs off u) ∙ s) k (sym (hk off u) ∙ q) part ht part-is)
        (λ s. absurd (not-zero 11 (rw (off, hu ∙ u, s) at none))))
        (λ u. absurd (not-zero 9 (rw (off, hu ∙ u) at none))))
      where
        not-zero : (x : ℕ) → ◌≡◌ {A = ℕ} (suc x) 0 → ⊥
        not-zero x z = omega (arith, z)

-- ## The step

-- the book after the player's record, the time and the event taken last are stored
abbrev pub finished : Event → Last → Open → Latest → Book → Book
finished e last current latest n =
    changed n e.time latest n.entries (set n.players e.player (record { last = last; current = current }))

-- what a taken event gives on a settled book
abbrev pub taken_from : Book → Event → Done → Outcome
taken_from n e d = record { answer = d.answer; book = stored_book n e d }

-- what a cancel reads of the event taken last, on a settled book
abbrev pub recent_on : Book → Event → Recent
recent_on n e = recent_of n.latest e.player (last_at n.players e.player) (open_at n.players e.player)

-- settling leaves each player's last event as it is
pub taken_is : (b : Book) (e : Event)
    → taken_from (settled_book e.time b) e
    (done e.request (catalog_of (settled_book e.time b)) (settled_book e.time b).entries
    (open_at (settled_book e.time b).players e.player) (asks (settled_book e.time b) e) (recent_on (settled_book e.time b) e))
    ≡ taken_step b e
unfolding settled_book stored_book taken_step catalog_of assets_in entries_in
taken_is b e =
    let t = e.time in
    let ps = map (shut t) b.players in
    let es = settled t b.players b.entries in
    let o = open_at ps e.player in
    ap
    (λ (l : Last). taken_from (with b es ps) e (done e.request (catalog_of b) es o (asks b e) (recent_of b.latest e.player l o)))
    (shut-last t b.players e.player)
