-- From lists of entries and players to functions of a position, and back: amending, settling, choosing.
-- Settling goes player by player, and at each the meters are the ledger's, with earlier players judged at the new time.
use mathlib.Core.Path.{◌≡◌, refl, sym, ap, ◌∙◌, fun_ext}
use Prim.Native.Nat.{ℕ, zero, suc, ◌+◌, ◌≤◌, ◌<◌, zero-le}
use mathlib.Core.Bool.{Bool, true, false}
use mathlib.Core.List.{List, [], ◌∷◌, map, ◌++◌}
use mathlib.Core.Option.{Option, none, some}
use lib.ListN.{length, get_or, set, length-set, length-map, get_or-map}
use lib.Seq.{get_or-set_same, get_or-set_other, set_out}
use lib.Dec.{ltb}
use native.Mathlib.Omega.{arith}
use native.Mathlib.Nat.{add-zero, zero-add}
use borrow.Author.Tests.{ltb-true, ltb-false}
use Rattle.book.specs.declared.Limits.{Limits}
use Rattle.book.specs.declared.Meters.{Meters}
use Rattle.book.specs.declared.Entry.{Entry}
use Rattle.book.specs.declared.Open.{Open}
use Rattle.book.specs.declared.Player.{Player}
use Rattle.book.specs.Blank.{no_entry, no_player}
use Rattle.model.specs.Book.{limits_at, meters_at, flagged}
use Rattle.model.specs.Meters.{where_flagged, amend, ended, expired, released, shut, settled_from, settled}
use Rattle.model.specs.Step.{last_at, open_at}
use Rattle.model.specs.Choice.{Choice, nobody, chosen, prefer, choose_of}
use Rattle.model.proofs.Ledger.Facts.{on_test, on_same, clash, meters-path, upd, upd_same, upd_other}
use Rattle.model.specs.Ledger.{Use, counts_timed, latest, open_by}
use Rattle.model.specs.Demand3.{Every, figures, held_in}
use Rattle.model.proofs.Ledger.Sums.{all_map, all-latest, latest-player, sum-ext, Tidy, tidy-later}
use Rattle.model.proofs.Ledger.Marks.{marks-same}
use Rattle.model.proofs.Ledger.Figures.{stage, stage-done, stage-left}
use Rattle.model.proofs.Ledger.Invariant.{Invariant, Sound, Within, released_m, shut_o, release-meters, release-within, shut-opens}
use Rattle.model.proofs.Ledger.Invariant.{held-cases}

-- ## Amending an entry

pub amend-length : (i : ℕ) (g : Limits → Meters → Meters) (es : List Entry) → length (amend i g es) ≡ length es
unfolding amend
amend-length i g es = length-set es i _

pub amend-limits : (i : ℕ) (g : Limits → Meters → Meters) (es : List Entry) (j : ℕ) → limits_at (amend i g es) j ≡ limits_at es j
unfolding amend
amend-limits i g es j =
    on_same j i
    (λ x. rw x
    (on_test (ltb i (length es))
    (λ q. ap (λ (e : Entry). e.limits) (get_or-set_same es i _ no_entry (ltb-true i (length es) q)))
    (λ q. ap (λ (e : List Entry). limits_at e i) (set_out es i _ (ltb-false i (length es) q)))))
    (λ x. ap (λ (e : Entry). e.limits) (get_or-set_other es i j _ no_entry x))

pub amend-meters : (i : ℕ) (g : Limits → Meters → Meters) (es : List Entry) → i < length es → (j : ℕ) → meters_at (amend i g es) j ≡ upd
    i (g (limits_at es i) (meters_at es i)) (meters_at es) j
unfolding amend
amend-meters i g es h j =
    on_same j i
    (λ x. rw x (ap (λ (e : Entry). e.meters) (get_or-set_same es i _ no_entry h) ∙ sym
    (upd_same i (g (limits_at es i) (meters_at es i)) (meters_at es))))
    (λ x. ap (λ (e : Entry). e.meters) (get_or-set_other es i j _ no_entry x) ∙ sym
    (upd_other i (g (limits_at es i) (meters_at es i)) (meters_at es) j x))

-- ## Storing a player

pub store-last : (p : ℕ) (x : Player) (ps : List Player) → p < length ps → (q : ℕ) → last_at (set ps p x) q ≡ upd p x.last (last_at ps) q
store-last p x ps h q =
    on_same q p
    (λ e. rw e (ap (λ (y : Player). y.last) (get_or-set_same ps p x no_player h) ∙ sym (upd_same p x.last (last_at ps))))
    (λ e. ap (λ (y : Player). y.last) (get_or-set_other ps p q x no_player e) ∙ sym (upd_other p x.last (last_at ps) q e))

pub store-open : (p : ℕ) (x : Player) (ps : List Player) → p < length ps → (q : ℕ) → open_at (set ps p x) q ≡ upd p x.current
    (open_at ps) q
store-open p x ps h q =
    on_same q p
    (λ e. rw e (ap (λ (y : Player). y.current) (get_or-set_same ps p x no_player h) ∙ sym (upd_same p x.current (open_at ps))))
    (λ e. ap (λ (y : Player). y.current) (get_or-set_other ps p q x no_player e) ∙ sym (upd_other p x.current (open_at ps) q e))

pub shut_at : (T : ℕ) (ps : List Player) (p : ℕ) → get_or (map (shut T) ps) p no_player ≡ shut T (get_or ps p no_player)
unfolding shut expired
shut_at T ps p = get_or-map (shut T) ps p no_player

pub shut-last : (T : ℕ) (ps : List Player) (p : ℕ) → last_at (map (shut T) ps) p ≡ last_at ps p
unfolding shut
shut-last T ps p = ap (λ (y : Player). y.last) (shut_at T ps p)

pub shut_open : (T : ℕ) (ps : List Player) (p : ℕ) → open_at (map (shut T) ps) p ≡ shut_o T (open_at ps p)
unfolding shut
shut_open T ps p = ap (λ (y : Player). y.current) (shut_at T ps p)

-- ## The invariant, at equal functions

pub held-ext : {T k n : ℕ} {lim lim' : ℕ → Limits} {met met' : ℕ → Meters} {opn opn' : ℕ → Open} {us : List Use} {k' n' : ℕ} →
    k' ≡ k → n' ≡ n → ((i : ℕ) → lim' i ≡ lim i) → ((i : ℕ) → met' i ≡ met i) → ((p : ℕ) → opn' p ≡ opn p) → Invariant T k n lim met opn
    us → Invariant T k' n' lim' met' opn' us
held-ext a b c d e h = rw (a, b, fun_ext c, fun_ext d, fun_ext e) h

-- ## Settling

pub released-size : (T p : ℕ) (o : Open) (es : List Entry) → length (released T p o es) ≡ length es
unfolding released
released-size T p o es =
    on_test (expired T o) (λ x. rw x (amend-length o.entry (ended p o.begin o.until o.until) es)) (λ x. rw x)

pub released-limits : (T p : ℕ) (o : Open) (es : List Entry) (i : ℕ) → limits_at (released T p o es) i ≡ limits_at es i
unfolding released
released-limits T p o es i = on_test (expired T o) (λ x. rw x (amend-limits o.entry (ended p o.begin o.until o.until) es i))
    (λ x. rw x)

settled-limits-from : (T p : ℕ) (ps : List Player) (es : List Entry) (i : ℕ) → limits_at (settled_from T p ps es) i ≡ limits_at es i
unfolding settled_from
settled-limits-from T p [] es i = refl
settled-limits-from T p (x ∷ ps) es i =
    settled-limits-from T (suc p) ps (released T p x.current es) i ∙ released-limits T p x.current es i

pub settled-limits : (T : ℕ) (ps : List Player) (es : List Entry) (i : ℕ) → limits_at (settled T ps es) i ≡ limits_at es i
settled-limits T ps es i = settled-limits-from T 0 ps es i

settled-size-from : (T p : ℕ) (ps : List Player) (es : List Entry) → length (settled_from T p ps es) ≡ length es
unfolding settled_from
settled-size-from T p [] es = refl
settled-size-from T p (x ∷ ps) es = settled-size-from T (suc p) ps (released T p x.current es) ∙ released-size T p x.current es

pub settled-size : (T : ℕ) (ps : List Player) (es : List Entry) → length (settled T ps es) ≡ length es
settled-size T ps es = settled-size-from T 0 ps es

-- the first players, then the others
pub settled-both : (T q : ℕ) (ps qs : List Player) (es : List Entry)
    → settled_from T q (ps ++ qs) es ≡ settled_from T (q + length ps) qs (settled_from T q ps es)
unfolding settled_from
settled-both T q [] qs es = rw (add-zero q)
settled-both T q (x ∷ ps) qs es =
    let y : q + suc (length ps) ≡ suc q + length ps = omega arith in
    rw y (settled-both T (suc q) ps qs (released T q x.current es))

module _ (S T k n : ℕ) (lim : ℕ → Limits) (us : List Use) (later : S ≤ T) (tidy : Tidy S us) (sound : Every (Sound S k n lim) us) where
  -- players below q are settled
  pub record Effect (q : ℕ) (es : List Entry) : Type 0 where
    pub size : length es ≡ n
    pub limits : (i : ℕ) → limits_at es i ≡ lim i
    pub meters : (i : ℕ) → meters_at es i ≡ figures (stage S T q) us i (lim i)
    pub within : (i : ℕ) → Within (lim i) (meters_at es i)

  expired-entry : (q : ℕ) (o : Open) → o ≡ held_in S q us → expired T o ≡ true → o.entry < n
  unfolding expired
  expired-entry q o e x =
      held-cases S q us o e
      (λ c g. clash x (rw c))
      (λ u s z c. rw c (all-latest (Sound S k n lim) q us u s sound).entry)

  released-meters : (q : ℕ) (o : Open) (es : List Entry) → o ≡ held_in S q us → Effect q es → (i : ℕ) → meters_at (released T q o es) i ≡
      released_m T lim q o (meters_at es) i
  unfolding released
  released-meters q o es e h i =
      on_test (expired T o)
      (λ x. rw (x, ← h.limits o.entry) (amend-meters o.entry (ended q o.begin o.until o.until) es
      (omega (arith, expired-entry q o e x, h.size)) i))
      (λ x. rw x)

  release-part : (q : ℕ) (o : Open) (es : List Entry) → o ≡ held_in S q us → Effect q es → Effect (suc q) (released T q o es)
  release-part q o es e h = record {
    size = released-size T q o es ∙ h.size;
    limits = λ i. released-limits T q o es i ∙ h.limits i;
    meters = λ i. released-meters q o es e h i ∙ release-meters S T lim us later tidy q o (meters_at es) e h.meters i;
    within = λ i. rw (released-meters q o es e h i) (release-within S T lim us later tidy q o (meters_at es) h.within i);
  }

  settle-part : (ps : List Player) (q : ℕ) (es : List Entry) → ((j : ℕ) → open_at ps j ≡ held_in S (q + j) us) → Effect q es → Effect
      (q + length ps) (settled_from T q ps es)
  unfolding settled_from
  settle-part [] q es e h = rw (add-zero q) h
  settle-part (x ∷ ps) q es e h =
      let z : (q + suc (length ps)) ≡ suc q + length ps = omega arith in
      rw z
      (settle-part ps (suc q) (released T q x.current es)
      (λ j. let y : suc q + j ≡ q + suc j = omega arith in rw y (e (suc j)))
      (release-part q x.current es (rw (add-zero q) at (e 0)) h))

sound-later : (S T k n : ℕ) (lim : ℕ → Limits) (u : Use) → S ≤ T → Sound S k n lim u → Sound T k n lim u
sound-later S T k n lim u h w = record {
  entry = w.entry;
  player = w.player;
  begun = omega (arith, w.begun);
  ordered = w.ordered;
  near = omega (arith, w.near);
  dates = w.dates;
  allows = w.allows;
}

figures-staged : (S T k n : ℕ) (lim : ℕ → Limits) (us : List Use) (i : ℕ) (l : Limits) → Every (Sound S k n lim) us → figures
    (stage S T k) us i l ≡ figures (λ _. T) us i l
unfolding figures
figures-staged S T k n lim us i l h =
    meters-path refl
    (ap (where_flagged (flagged 2 l)) (sum-ext {P = Sound S k n lim} (counts_timed (stage S T k) l.timer i)
    (counts_timed (λ _. T) l.timer i) (λ u w. rw (stage-done S T k u.player w.player)) us h))
    refl refl refl
    (marks-same (λ _. T) (stage S T k) us us i (λ p. go p (latest p us) refl))
  where
    go : (p : ℕ) (s : Option Use) → latest p us ≡ s → open_by (stage S T k p) i s ≡ open_by T i s
    go p none e = refl
    go p (some u) e =
        let w : u.player < k = (all-latest (Sound S k n lim) p us u e h).player in
        rw (stage-done S T k p (omega (arith, latest-player p us u e)))

-- a settled book keeps the invariant, at the later time
pub settled-held : (S T : ℕ) (es : List Entry) (ps : List Player) (us : List Use) → S ≤ T → Invariant S (length ps) (length es)
    (limits_at es) (meters_at es) (open_at ps) us →
    Invariant T (length (map (shut T) ps)) (length (settled T ps es)) (limits_at (settled T ps es)) (meters_at (settled T ps es))
    (open_at (map (shut T) ps)) us
settled-held S T es ps us later h =
    let none_yet : stage S T 0 ≡ (λ p. S) = fun_ext (λ p. stage-left S T 0 p zero-le) in
    let part : Effect S T (length ps) (length es) (limits_at es) us later h.tidy h.sound (0 + length ps) (settled T ps es) =
    settle-part S T (length ps) (length es) (limits_at es) us later h.tidy h.sound ps 0 es
    (λ j. rw (zero-add j) (h.opens j))
    (record { size = refl; limits = λ i. refl; meters = λ i. rw none_yet (h.meters i); within = h.within }) in
    held-ext {lim = limits_at es} {met = meters_at (settled T ps es)} {opn = λ p. shut_o T (open_at ps p)}
    (length-map ps (shut T)) part.size part.limits (λ i. refl) (shut_open T ps)
    (record {
      opens = λ p. shut-opens S T (limits_at es) us later h.tidy p (open_at ps p) (h.opens p);
      meters = λ i. part.meters i ∙ rw (zero-add (length ps))
          (figures-staged S T (length ps) (length es) (limits_at es) us i (limits_at es i) h.sound);
      tidy = tidy-later S T us later h.tidy;
      sound = all_map (λ u w. sound-later S T (length ps) (length es) (limits_at es) u later w) us h.sound;
      spans = h.spans;
      within = part.within;
    })

-- ## The choice

pub record Sure (ok : ℕ → Bool) (k j : ℕ) : Type 0 where
  pub below : j < k
  pub passes : ok j ≡ true

pub choose-sound : (ok : ℕ → Bool) (first : ℕ → ℕ → Bool) (k j : ℕ) → choose_of ok first k ≡ chosen j → Sure ok k j
unfolding choose_of
choose-sound ok first zero j e = let z : ◌≡◌ {A = ℕ} 0 1 = cc in absurd (omega arith)
choose-sound ok first (suc k) j e = go (ok k) refl (choose_of ok first k) refl e (choose-sound ok first k j)
  where
    go : (b : Bool) → ok k ≡ b → (c : Choice) → choose_of ok first k ≡ c → prefer b k (first k) c ≡ chosen j →
        (choose_of ok first k ≡ chosen j → Sure ok k j) → Sure ok (suc k) j
    go false q c r z ih = let w = ih (r ∙ z) in record { below = omega (arith, w.below); passes = w.passes }
    go true q nobody r z ih = let x : k ≡ j = cc in record { below = omega arith; passes = rw (← x) q }
    go true q (chosen i) r z ih =
        on_test (first k i)
        (λ y. let x : k ≡ j = cc in record { below = omega arith; passes = rw (← x) q })
        (λ y. let x : i ≡ j = cc in let w = ih (r ∙ ap chosen x) in record { below = omega (arith, w.below); passes = w.passes })

pub choose-none : (ok : ℕ → Bool) (first : ℕ → ℕ → Bool) (k : ℕ) → choose_of ok first k ≡ nobody → (j : ℕ) → j < k → ok j ≡ false
unfolding choose_of
choose-none ok first zero e j h = absurd (omega arith)
choose-none ok first (suc k) e j h = go (ok k) refl (choose_of ok first k) refl e (λ z. choose-none ok first k z j)
  where
    go : (b : Bool) → ok k ≡ b → (c : Choice) → choose_of ok first k ≡ c → prefer b k (first k) c ≡ nobody →
        (choose_of ok first k ≡ nobody → j < k → ok j ≡ false) → ok j ≡ false
    go false q c r z ih = on_same j k (λ x. rw x q) (λ x. ih (r ∙ z) (omega arith))
    go true q nobody r z ih = let w : true ≡ false = cc in clash refl w
    go true q (chosen i) r z ih = on_test (first k i) (λ y. let w : true ≡ false = cc in clash refl w)
        (λ y. let w : true ≡ false = cc in clash refl w)

pub none-choose : (ok : ℕ → Bool) (first : ℕ → ℕ → Bool) (k : ℕ) → ((j : ℕ) → j < k → ok j ≡ false) → choose_of ok first k ≡ nobody
unfolding choose_of
none-choose ok first zero h = refl
none-choose ok first (suc k) h = rw (h k (omega arith)) (none-choose ok first k (λ j x. h j (omega arith)))
