-- What the proofs use of a legal book: lengths, lawful limits, and each asset number once.
-- No event changes any of it.
use mathlib.Core.Path.{◌≡◌, refl, sym, ap, ◌∙◌, subst}
use Prim.Native.Nat.{ℕ, ◌≤◌, ◌<◌, min}
use mathlib.Core.Bool.{Bool, true, false, not, ◌&&◌, ◌||◌, false≢true}
use mathlib.Core.List.{List, [], ◌∷◌, map}
use lib.ListN.{length, length-set, length-map}
use lib.Dec.{leb, ltb, eqb}
use native.Mathlib.Omega.{arith}
use borrow.Author.Tests.{eqb-true, ltb-true, ltb-false, leb-true, not-false}
use Rattle.numbers.proofs.Tests.{Pass, row-passed, passed}
pub use Rattle.numbers.proofs.Tests.{all-below}
use Rattle.book.specs.declared.Limits.{Limits}
use Rattle.book.specs.declared.Entry.{Entry}
use Rattle.book.specs.declared.Open.{Open}
use Rattle.book.specs.declared.Line.{Line}
use Rattle.book.specs.declared.Book.{Book}
use Rattle.book.specs.declared.Event.{Event}
use Rattle.book.specs.declared.Request.{Request}
use Rattle.book.specs.declared.Request.TheVariants.{Begin, Continue, Stop, Cancel}
use Rattle.book.specs.Decoded.{Decoded, Invalid, Valid}
use Rattle.book.specs.declared.Ask.{Ask}
use Rattle.book.specs.declared.Recent.{Recent}
use Rattle.book.specs.Gate.{Gate, Refuse, Resend, Take}
use Rattle.book.specs.Blank.{no_limits}
use Rattle.model.specs.Book.{asset_at, limits_at, assets_in, entries_in, latest_time, asset_position, in_book, between, flagged, momentary}
use Rattle.model.specs.Book.{limit, asset_legal, assets_legal, ranges_legal, limits_legal, entries_legal, rule_broken, Legal}
use Rattle.model.specs.Book.{count_flag, timed_flag, start_flag, end_flag, interval_flag, accumulated_flag, most_times}
use Rattle.model.specs.Book.{most_seconds, track_legal, threshold_legal, switch_legal, players_legal, latest_passes}
use Rattle.model.specs.Record.{kind_number}
use Rattle.model.specs.Meters.{is_on, shut, settled}
use Rattle.model.specs.Choice.{Catalog, catalog_of, usable, suits, asks, any_of, Choice, nobody, chosen, choose, none_grantable}
use Rattle.model.specs.Step.{Done, unchanged, granted, do_begin, more, do_continue, do_stop, done, open_at, taken_step, last_at, step_by}
use Rattle.model.specs.Step.{do_cancel, step, arrive}
use Rattle.model.specs.Report.{Arrival, good, admitted, receive}
use Rattle.model.specs.Gate.{gate}
use Rattle.model.proofs.Ledger.Facts.{on_test, and_left, and_right}
use Rattle.model.proofs.Ledger.Invariant.{Lawful}
use Rattle.model.proofs.Ledger.Concrete.{amend-limits, amend-length, settled-limits, settled-size}

-- ## What is used of a legal book

pub record WellFormed (b : Book) : Type 0 where
  pub players : length b.players ≡ 16
  pub entries : entries_in b ≤ length b.entries
  pub limits : (i : ℕ) → Lawful (limits_at b.entries i)
  pub once : (i : ℕ) → i < assets_in b → asset_position b.assets (assets_in b) (asset_at b.assets i).number ≡ i
  pub numbered : (i : ℕ) → i < assets_in b → 0 < (asset_at b.assets i).number

-- flagged or not
pub limit-most : (flag : Bool) (most v : ℕ) → limit flag most v ≡ true → v ≤ most
unfolding limit
limit-most true most v e = leb-true v most e
limit-most false most v e = omega (arith, eqb-true v 0 e)

pub ranges-tests : (l : Limits) → ranges_legal l ≡ true → (limit (flagged count_flag l) most_times l.count ≡ true)
    × Pass (limit (flagged timed_flag l) most_times l.timed ∷ limit (flagged timed_flag l) most_times l.timer
    ∷ limit (flagged start_flag l) latest_time l.start ∷ limit (flagged end_flag l) latest_time l.end
    ∷ limit (flagged interval_flag l) most_seconds l.interval
    ∷ limit (flagged accumulated_flag l) most_seconds l.accumulated ∷ [])
unfolding ranges_legal
ranges-tests l e = row-passed _ (_ ∷ _ ∷ _ ∷ _ ∷ _ ∷ _ ∷ []) e

pub limits-tests : (known : Bool) (l : Limits) → limits_legal known l ≡ true → (between 1 65535 l.object ≡ true)
    × Pass (known ∷ between 1 5 l.kind ∷ leb l.flags 63 ∷ ranges_legal l
    ∷ (not (flagged start_flag l && flagged end_flag l) || leb l.start l.end) ∷
    (not (momentary l.kind) || (not (flagged accumulated_flag l) && eqb l.timer 0)) ∷ track_legal l ∷ threshold_legal l ∷ [])
unfolding limits_legal
limits-tests known l e = row-passed _ (_ ∷ _ ∷ _ ∷ _ ∷ _ ∷ _ ∷ _ ∷ _ ∷ []) e

limits-lawful : (known : Bool) (l : Limits) → limits_legal known l ≡ true → Lawful l
limits-lawful known l e =
    let behind = (limits-tests known l e).1.1.1.1 in
    let later = (ranges-tests l behind.0).1.1.1.1 in
    record {
      timer = λ m. eqb-true l.timer 0 (and_right (not (flagged 32 l)) (eqb l.timer 0) (rw m at behind.1.1.0));
      end = λ f. limit-most (flagged 8 l) latest_time l.end later.0;
      span = λ f. limit-most (flagged 16 l) most_seconds l.interval later.1.0;
    }

blank-lawful : Lawful no_limits
unfolding flagged momentary
blank-lawful = record { timer = λ m. refl; end = λ f. absurd (false≢true f); span = λ f. absurd (false≢true f) }

broken-24 : (b : Book) → rule_broken b ≡ 0 → assets_legal b ≡ true
unfolding rule_broken
broken-24 b e = not-false _ (passed (not (assets_legal b)) 23 _ e).0

broken-25 : (b : Book) → rule_broken b ≡ 0 → entries_legal b ≡ true
unfolding rule_broken
broken-25 b e = not-false _ (passed (not (entries_legal b)) 24 _ (passed (not (assets_legal b)) 23 _ e).1).0

-- the switch is 0 or 1
pub switch-most : (b : Book) → Legal b → b.switch ≤ 1
unfolding rule_broken switch_legal
switch-most b g =
    leb-true _ _ (and_left (leb b.switch 1) (players_legal b)
    (and_left (switch_legal b && players_legal b) (latest_passes b)
    (not-false _ (passed (not (switch_legal b && players_legal b && latest_passes b)) 25 _
    (passed (not (entries_legal b)) 24 _ (passed (not (assets_legal b)) 23 _ g.rules).1).1).0)))

pub asset-tests : (b : Book) → Legal b → (i : ℕ) → i < assets_in b → (between 1 65535 (asset_at b.assets i).number ≡ true)
    × Pass (eqb (asset_position b.assets (assets_in b) (asset_at b.assets i).number) i ∷ leb (asset_at b.assets i).key 1 ∷ [])
unfolding assets_legal asset_legal
asset-tests b g i h =
    row-passed _ (_ ∷ _ ∷ []) (all-below (λ j. asset_legal b.assets (assets_in b) j (asset_at b.assets j)) (assets_in b)
    (broken-24 b g.rules) i h)

pub legal-formed : (b : Book) → Legal b → WellFormed b
unfolding entries_in entries_legal
legal-formed b g = record {
  players = g.player_slots;
  entries = omega (arith, g.entry_slots);
  limits = λ i.
      on_test (ltb i b.entrycount)
      (λ q. limits-lawful (in_book b (limits_at b.entries i).asset) (limits_at b.entries i)
      (all-below (λ j. limits_legal (in_book b (limits_at b.entries j).asset) (limits_at b.entries j)) (entries_in b)
      (broken-25 b g.rules) i
      (omega (arith, ltb-true i b.entrycount q, g.entry_count))))
      (λ q. subst (λ (x : Entry). Lawful x.limits) (sym (g.entries_blank i (ltb-false i b.entrycount q))) blank-lawful);
  once = λ i h. eqb-true _ i (asset-tests b g i h).1.0;
  numbered = λ i h.
      omega (
        arith,
        leb-true 1 (asset_at b.assets i).number
            (and_left (leb 1 (asset_at b.assets i).number) (leb (asset_at b.assets i).number 65535) (asset-tests b g i h).0),
      );
}

-- ## What no event changes

pub record Static (b c : Book) : Type 0 where
  pub switch : c.switch ≡ b.switch
  pub assets : c.assets ≡ b.assets
  pub assetcount : c.assetcount ≡ b.assetcount
  pub entrycount : c.entrycount ≡ b.entrycount
  pub limits : (i : ℕ) → limits_at c.entries i ≡ limits_at b.entries i
  pub entries : length c.entries ≡ length b.entries
  pub players : length c.players ≡ length b.players

pub static-self : (b : Book) → Static b b
static-self b = record {
  switch = refl;
  assets = refl;
  assetcount = refl;
  entrycount = refl;
  limits = λ i. refl;
  entries = refl;
  players =
      refl;
}

pub static-trans : {b c d : Book} → Static b c → Static c d → Static b d
static-trans x y = record {
  switch = y.switch ∙ x.switch;
  assets = y.assets ∙ x.assets;
  assetcount = y.assetcount ∙ x.assetcount;
  entrycount = y.entrycount ∙ x.entrycount;
  limits = λ i. y.limits i ∙ x.limits i;
  entries = y.entries ∙ x.entries;
  players = y.players ∙ x.players;
}

catalog-path : {a c : Catalog} → a.assets ≡ c.assets → a.asset_count ≡ c.asset_count → a.entry_count ≡ c.entry_count → a ≡ c
catalog-path p q r = λ i. record { assets = p i; asset_count = q i; entry_count = r i }

pub catalog-static : {b c : Book} → Static b c → catalog_of c ≡ catalog_of b
unfolding catalog_of assets_in entries_in
catalog-static s = catalog-path s.assets (ap (λ (n : ℕ). min n 64) s.assetcount) (ap (λ (n : ℕ). min n 64) s.entrycount)

pub formed-static : {b c : Book} → Static b c → WellFormed b → WellFormed c
unfolding assets_in entries_in
formed-static s g = record {
  players = s.players ∙ g.players;
  entries = rw (s.entrycount, s.entries) g.entries;
  limits = λ i. rw (s.limits i) (g.limits i);
  once = rw (s.assets, s.assetcount) g.once;
  numbered = rw (s.assets, s.assetcount) g.numbered;
}

record Steady (es : List Entry) (d : Done) : Type 0 where
  limits : (i : ℕ) → limits_at d.entries i ≡ limits_at es i
  size : length d.entries ≡ length es

steady : (es : List Entry) (code : ℕ) (o : Open) → Steady es (unchanged code es o)
steady es code o = record { limits = λ i. refl; size = refl }

begin-steady : (c : Catalog) (es : List Entry) (o : Open) (t : Ask) (asset kind : ℕ) → Steady es (do_begin c es o t asset kind)
unfolding do_begin
begin-steady c es o t asset kind =
    on_test (is_on o) (λ q. rw q (steady es 11 _)) (λ q.
    on_test (not (usable c asset)) (λ r. rw (q, r) (steady es 10 _)) (λ r.
    on_test (not (any_of (suits c es asset kind) c.entry_count)) (λ u. rw (q, r, u) (steady es 12 _))
    (λ u. rw (q, r, u) (go _ (choose c es t asset kind)))))
  where
    go : (o' : Open) (x : Choice) → Steady es (granted (none_grantable c es t asset kind) t asset es o' x)
    go o' nobody = steady es _ o'
    go o' (chosen i) = record { limits = amend-limits i _ es; size = amend-length i _ es }

done-steady : (q : Request) (c : Catalog) (es : List Entry) (o : Open) (t : Ask) (r : Recent) → Steady es (done q c es o t r)
unfolding done do_continue do_stop do_cancel
done-steady (Begin kind asset) c es o t r = begin-steady c es o t asset (kind_number kind)
done-steady Continue c es o t _ =
    on_test (not (is_on o)) (λ q. rw q (steady es 14 _)) (λ q.
    on_test (leb (more es o t.time) o.until) (λ r. rw (q, r) (steady es 15 _))
    (λ r. rw (q, r) (record { limits = amend-limits o.entry _ es; size = amend-length o.entry _ es })))
done-steady Stop c es o t r =
    on_test (not (is_on o)) (λ q. rw q (steady es 14 _)) (λ q. rw q
    (record { limits = amend-limits o.entry _ es; size = amend-length o.entry _ es }))
done-steady Cancel c es o t r =
    on_test (not (is_on o)) (λ q. rw q (steady es 14 _)) (λ q.
    on_test (not r.begun) (λ x. rw (q, x) (steady es 44 _))
    (λ x. rw (q, x) (record { limits = amend-limits o.entry _ es; size = amend-length o.entry _ es })))

pub taken-static : (b : Book) (e : Event) → Static b (taken_step b e).book
unfolding taken_step
taken-static b e =
    let d : Steady _ _ = done-steady e.request (catalog_of b) (settled e.time b.players b.entries)
    (open_at (map (shut e.time) b.players) e.player) (asks b e) _ in
    record {
      switch = refl;
      assets = refl;
      assetcount = refl;
      entrycount = refl;
      limits = λ i. d.limits i ∙ settled-limits e.time b.players b.entries i;
      entries = d.size ∙ settled-size e.time b.players b.entries;
      players = length-set (map (shut e.time) b.players) e.player _ ∙ length-map b.players (shut e.time);
    }

pub step-static : (b : Book) (e : Event) → Static b (step b e).book
unfolding step step_by
step-static b e = go (gate b.time (last_at b.players e.player) e)
  where
    go : (g : Gate) → Static b (step_by g b e).book
    go (Refuse code) = static-self b
    go Resend = static-self b
    go Take = taken-static b e

pub arrive-static : (b : Book) (d : Decoded) → Static b (arrive b d).book
unfolding arrive
arrive-static b (Invalid code) = static-self b
arrive-static b (Valid e) = step-static b e

-- a list is good by what no event changes
pub good-static : {b c : Book} → Static b c → (ls : List Line) → good c ls ≡ good b ls
unfolding good assets_in
good-static s ls = rw (s.assets, s.assetcount)

pub admitted-static : {b c : Book} → Static b c → (x : Arrival) → admitted c x ≡ admitted b x
unfolding admitted
admitted-static s x = rw (good-static s x.lines)

pub receive-static : (b : Book) (x : Arrival) → Static b (receive b x).book
unfolding receive
receive-static b x = arrive-static b (admitted b x)
