-- A fresh and legal book that gets one asset more, or entries for one kind more, is fresh and legal.
use Prim.Native.Nat.{ℕ, zero, suc, ◌+◌, ◌≤◌, ◌<◌}
use mathlib.Core.Path.{◌≡◌, refl, sym, ap, ◌∙◌, subst}
use mathlib.Core.Bool.{Bool, true, cond}
use mathlib.Core.List.{List, [], ◌∷◌}
use native.Mathlib.Omega.{arith}
use lib.ListN.{length, get_or, length-set}
use lib.Seq.{get_or-set_same, get_or-set_other}
use lib.Dec.{eqb, leb}
use borrow.Author.Tests.{eqb-true, eq-eqb, ltb-true, lt-ltb, leb-true}
use Rattle.numbers.specs.Count.{first, sum, one}
use Rattle.numbers.specs.Fields.{Fit}
use Rattle.numbers.proofs.FieldLaws.{zeros-fit}
use Rattle.numbers.proofs.BitLaws.{mask-none}
use Rattle.numbers.proofs.Loops.{first_found, sum_same}
use Rattle.numbers.proofs.TableLaws.{below_or_not}
use Rattle.numbers.proofs.Tests.{on_same, eqb-self, and_right, and_both, Pass, row-passed, all-below}
use Rattle.book.specs.declared.Asset.{Asset}
use Rattle.book.specs.declared.Limits.{Limits}
use Rattle.book.specs.declared.Entry.{Entry}
use Rattle.book.specs.declared.Latest.{Latest}
use Rattle.book.specs.declared.Player.{Player}
use Rattle.book.specs.declared.Book.{Book}
use Rattle.book.specs.Blank.{no_asset, no_meters, no_entry, no_player, no_latest}
use Rattle.model.specs.Book.{asset_at, limits_at, meters_at, player_at, assets_in, entries_in, asset_position, in_book, between}
use Rattle.model.specs.Book.{asset_legal, assets_legal, limits_legal, entries_legal, player_blank, player_legal}
use Rattle.model.specs.Book.{latest_legal, latest_passes, switch_legal, opens, lasts, open_uses, open_seconds, marks_of, rule_broken, Legal, Fresh}
use Rattle.model.specs.Image.{newest, asset_widths, asset_values, entry_widths, entry_values, player_widths, Typed}
use Rattle.model.proofs.Ledger.WellFormed.{limit-most, ranges-tests, limits-tests}
use Rattle.model.proofs.Demand3.Suitable.{first_found as first_holds}
use Rattle.model.proofs.Legal.Renewed.{unused-meters}
use Rattle.model.proofs.Legal.Facts.{all_of}
use Rattle.model.proofs.Legal.Rules.{lawful_in, player_passes, meter-to, stages-from, stages-to, entries-counted}
use Rattle.xml_model.specs.declared.State.{State}
use Rattle.xml_model.specs.Import.{Untracked, Ungrouped}
use Rattle.xml_model.specs.State.{with_one_asset, how_many, asset_for, limits_for, for_asset, kind_legal, filled, with_entries}

-- a number of an asset that fits its type. The rules bound the number of each asset, but not the number that it inherits from.
abbrev pub Small : ℕ → Type 0
Small x = x < 65536

-- what no text tells: of an entry's limits, and of a book
abbrev pub Untold : Limits → Type 0
Untold l = Untracked l × Ungrouped l

pub record Plain (b : Book) : Type 0 where
  pub switch : b.switch ≡ 0
  pub entries : (i : ℕ) → Untold (limits_at b.entries i)

-- ## Searches for a number

first-same : (f g : ℕ → Bool) (n : ℕ) → ((i : ℕ) → i < n → f i ≡ g i) → first f n ≡ first g n
unfolding first
first-same f g zero h = refl
first-same f g (suc n) h = rw (first-same f g n (λ i l. h i (omega arith)), h n (omega arith))

-- what is found stays found when one position is added
first-kept : (f g : ℕ → Bool) (n : ℕ) → ((i : ℕ) → i < n → f i ≡ g i) → first f n < n → first g (suc n) ≡ first f n
unfolding first
first-kept f g n h l = rw (← first-same f g n h, lt-ltb (first f n) n l)

-- ## The rules of a fresh book

-- players and meters of a fresh book meet their rules, so that those of assets and entries are left
no-uses : (b : Book) → Fresh b → (i : ℕ) → open_uses b.players i ≡ 0
unfolding open_uses opens sum
no-uses b h i = sum_same (λ p. one (opens i (player_at b.players p).current)) (λ p. 0) 16 (λ p l. rw (h.players p))

no-seconds : (b : Book) → Fresh b → (i : ℕ) → open_seconds b.players i ≡ 0
unfolding open_seconds opens sum
no-seconds b h i =
    sum_same (λ p. cond (opens i (player_at b.players p).current) (lasts (player_at b.players p).current) 0) (λ p. 0) 16
    (λ p l. rw (h.players p))

no-marks : (b : Book) → Fresh b → (i : ℕ) → marks_of b.players i ≡ 0
unfolding marks_of opens
no-marks b h i = mask-none (λ p. opens i (player_at b.players p).current) 16 (λ p l. rw (h.players p))

blank-passes : (b : Book) → player_passes b no_player ≡ true
unfolding player_legal player_blank
blank-passes b = refl

-- no event was taken yet
none_passes : (b : Book) → b.latest ≡ no_latest → latest_passes b ≡ true
unfolding latest_passes latest_legal
none_passes b e = rw e

fresh-rules : (b : Book) → Fresh b → switch_legal b ≡ true → assets_legal b ≡ true → entries_legal b ≡ true → rule_broken b ≡ 0
fresh-rules b h w a e =
    stages-to b (record {
      assets = a;
      entries = e;
      switch = w;
      latest = none_passes b h.latest;
      players = λ p k. subst (λ (x : Player). player_passes b x ≡ true) (sym (h.players p)) (blank-passes b);
      meters = λ i k. meter-to b i
          (rw (h.meters i, no-uses b h i, no-seconds b h i, no-marks b h i) (unused-meters b.time (limits_at b.entries i)));
    })

-- ## What the tests say

asset-tests : (ats : List Asset) (n i : ℕ) (a : Asset) → asset_legal ats n i a ≡ true
    → (between 1 65535 a.number ≡ true) × Pass (eqb (asset_position ats n a.number) i ∷ leb a.key 1 ∷ [])
unfolding asset_legal
asset-tests ats n i a e = row-passed _ (_ ∷ _ ∷ []) e

module _ (b : Book) (h : Legal b) where
  assets-counted : assets_in b ≡ b.assetcount
  unfolding assets_in
  assets-counted = omega (arith, h.asset_count)

  asset-at : (i : ℕ) → i < assets_in b → asset_legal b.assets (assets_in b) i (asset_at b.assets i) ≡ true
  unfolding assets_legal
  asset-at i l =
      all-below (λ j. asset_legal b.assets (assets_in b) j (asset_at b.assets j)) (assets_in b) (stages-from b h.rules).assets i l

  lawful-at : (i : ℕ) → i < entries_in b → lawful_in b (limits_at b.entries i) ≡ true
  unfolding entries_legal
  lawful-at i l =
      all-below (λ j. lawful_in b (limits_at b.entries j)) (entries_in b) (stages-from b h.rules).entries i l

-- ## One asset more

module _ (b : Book) (a : Asset) (h : Legal b) (room : assets_in b < 64)
    (test : asset_legal b.assets (assets_in b) (assets_in b) a ≡ true) where
  abbrev new : Book
  new = with_one_asset a b

  abbrev n : ℕ
  n = assets_in b

  grown : assets_in new ≡ suc n
  unfolding assets_in with_one_asset
  grown = omega (arith, room)

  new-asset : asset_at new.assets n ≡ a
  unfolding with_one_asset
  new-asset = get_or-set_same b.assets n a no_asset (omega (arith, h.asset_slots))

  old-asset : (i : ℕ) → (i ≡ n → ⊥) → asset_at new.assets i ≡ asset_at b.assets i
  unfolding with_one_asset
  old-asset i d = get_or-set_other b.assets n i a no_asset d

  -- the same numbers as before below n
  alike : (x i : ℕ) → i < n → eqb (asset_at b.assets i).number x ≡ eqb (asset_at new.assets i).number x
  alike x i l = rw (old-asset i (λ e. omega (arith, e, l)))

  position-kept : (x : ℕ) → asset_position b.assets n x < n → asset_position new.assets (suc n) x ≡ asset_position b.assets n x
  unfolding asset_position
  position-kept x l =
      first-kept (λ i. eqb (asset_at b.assets i).number x) (λ i. eqb (asset_at new.assets i).number x) n (alike x) l

  position-new : asset_position new.assets (suc n) a.number ≡ n
  unfolding asset_position
  position-new =
      first_found (λ i. eqb (asset_at new.assets i).number a.number) n (suc n) (omega arith)
      (sym (first-same (λ i. eqb (asset_at b.assets i).number a.number) (λ i. eqb (asset_at new.assets i).number a.number) n
      (alike a.number))
      ∙ eqb-true _ n (asset-tests b.assets n n a test).1.0)
      (rw new-asset (eqb-self a.number))

  again : (i : ℕ) (x : Asset) → asset_position new.assets (suc n) x.number ≡ i → asset_legal b.assets n i x ≡ true
      → asset_legal new.assets (suc n) i x ≡ true
  unfolding asset_legal
  again i x e t = let p = asset-tests b.assets n i x t in and_both (and_both p.0 (eq-eqb _ i e)) p.1.1.0

  assets-legal : (i : ℕ) → i < suc n → asset_legal new.assets (suc n) i (asset_at new.assets i) ≡ true
  assets-legal i l =
      on_same i n
      (λ e. rw (e, new-asset) (again n a position-new test))
      (λ d.
      let k : i < n = omega (arith, d, l) in
      let t = asset-at b h i k in
      let p = eqb-true _ i (asset-tests b.assets n i (asset_at b.assets i) t).1.0 in
      rw (old-asset i d)
      (again i (asset_at b.assets i) (position-kept (asset_at b.assets i).number (omega (arith, p, k)) ∙ p) t))

  in_kept : (x : ℕ) → in_book b x ≡ true → in_book new x ≡ true
  unfolding in_book
  in_kept x e = let l = ltb-true _ n e in rw (grown, position-kept x l) (lt-ltb _ (suc n) (omega (arith, l)))

  lawful-kept : (l : Limits) → lawful_in b l ≡ true → lawful_in new l ≡ true
  lawful-kept l e =
      let k : in_book b l.asset ≡ true = (limits-tests (in_book b l.asset) l e).1.0 in
      subst (λ (known : Bool). limits_legal known l ≡ true) (k ∙ sym (in_kept l.asset k)) e

  pub asset-fresh : Fresh b → Fresh new
  unfolding with_one_asset
  asset-fresh f = record { time = f.time; meters = f.meters; players = f.players; latest = f.latest }

  pub asset-plain : Plain b → Plain new
  unfolding with_one_asset
  asset-plain u = record { switch = u.switch; entries = u.entries }

  switch-new : switch_legal new ≡ true
  unfolding with_one_asset switch_legal
  switch-new = (stages-from b h.rules).switch

  assets-new : assets_legal new ≡ true
  unfolding assets_legal
  assets-new = rw grown (all_of (λ i. asset_legal new.assets (suc n) i (asset_at new.assets i)) (suc n) assets-legal)

  entries-new : entries_legal new ≡ true
  unfolding entries_legal entries_in with_one_asset
  entries-new =
      all_of (λ i. lawful_in new (limits_at b.entries i)) (entries_in b)
      (λ i l. lawful-kept (limits_at b.entries i) (lawful-at b h i l))

  pub asset-legal : Fresh b → Legal new
  unfolding with_one_asset
  asset-legal f = record {
    asset_slots = length-set b.assets n a ∙ h.asset_slots;
    entry_slots = h.entry_slots;
    player_slots = h.player_slots;
    asset_count = omega (arith, room);
    entry_count = h.entry_count;
    time = h.time;
    assets_blank = λ i l. old-asset i (λ e. omega (arith, e, l)) ∙ h.assets_blank i (omega (arith, assets-counted b h, l));
    entries_blank = h.entries_blank;
    rules = fresh-rules new (asset-fresh f) switch-new assets-new entries-new;
  }

  pub asset-inherits : ((i : ℕ) → Small (asset_at b.assets i).inherit) → Small a.inherit
      → (i : ℕ) → Small (asset_at new.assets i).inherit
  asset-inherits old own i = on_same i n (λ e. rw (e, new-asset) own) (λ d. rw (old-asset i d) (old i))

-- ## Entries from position n on

module _ (f : ℕ → Entry) (n : ℕ) (es : List Entry) where
  length-filled : (k : ℕ) → length (filled f n k es) ≡ length es
  unfolding filled
  length-filled zero = refl
  length-filled (suc k) = length-set (filled f n k es) (n + k) (f k) ∙ length-filled k

  filled-behind : (k i : ℕ) → n + k ≤ i → get_or (filled f n k es) i no_entry ≡ get_or es i no_entry
  unfolding filled
  filled-behind zero i l = refl
  filled-behind (suc k) i l =
      get_or-set_other (filled f n k es) (n + k) i (f k) no_entry (λ e. omega (arith, e, l)) ∙ filled-behind k i (omega (arith, l))

  -- what holds of each entry before n and of each new one
  filled-each : (P : Entry → Type 0) → ((i : ℕ) → i < n → P (get_or es i no_entry)) → (k : ℕ) → n + k ≤ length es
      → ((j : ℕ) → j < k → P (f j)) → (i : ℕ) → i < n + k → P (get_or (filled f n k es) i no_entry)
  unfolding filled
  filled-each P old zero room each i l = old i (omega (arith, l))
  filled-each P old (suc k) room each i l =
      on_same i (n + k)
      (λ e. rw (e, get_or-set_same (filled f n k es) (n + k) (f k) no_entry (omega (arith, length-filled k, room))) (each k (omega arith)))
      (λ d.
      rw (get_or-set_other (filled f n k es) (n + k) i (f k) no_entry d)
      (filled-each P old k (omega (arith, room)) (λ j m. each j (omega (arith, m))) i (omega (arith, l, d))))

-- ## The entries of one kind more

module _ (kind : ℕ) (st : State) (h : Legal st.book) (f : Fresh st.book) (room : entries_in st.book + how_many st ≤ 64)
    (test : kind_legal kind st ≡ true) where
  abbrev held : Book
  held = st.book

  abbrev more : Book
  more = with_entries kind st held

  abbrev one_of : ℕ → Entry
  one_of i = record { limits = limits_for kind st i; meters = no_meters }

  entries-in : entries_in more ≡ entries_in held + how_many st
  unfolding entries_in with_entries
  entries-in = omega (arith, room)

  new-lawful : (i : ℕ) → i < how_many st → lawful_in held (limits_for kind st i) ≡ true
  unfolding kind_legal limits_for for_asset
  new-lawful i l =
      all-below (λ j. limits_legal (in_book held (asset_for st j)) (limits_for kind st j)) _ test i (omega (arith, room, l))

  all-lawful : (i : ℕ) → i < entries_in held + how_many st → lawful_in held (limits_at more.entries i) ≡ true
  unfolding with_entries
  all-lawful =
      filled-each one_of (entries_in held) held.entries (λ e. lawful_in held e.limits ≡ true) (lawful-at held h)
      (how_many st) (omega (arith, room, h.entry_slots)) new-lawful

  all-unused : (i : ℕ) → meters_at more.entries i ≡ no_meters
  unfolding with_entries
  all-unused i =
      below_or_not i (entries_in held + how_many st)
      (filled-each one_of (entries_in held) held.entries (λ e. e.meters ≡ no_meters) (λ j l. f.meters j) (how_many st)
      (omega (arith, room, h.entry_slots)) (λ j l. refl) i)
      (λ l. ap (λ (e : Entry). e.meters) (filled-behind one_of (entries_in held) held.entries (how_many st) i l) ∙ f.meters i)

  pub entries-fresh : Fresh more
  unfolding with_entries
  entries-fresh = record { time = f.time; meters = all-unused; players = f.players; latest = f.latest }

  new-untold : Untold st.limits → (i : ℕ) → Untold (limits_for kind st i)
  unfolding limits_for for_asset
  new-untold own i = own

  pub entries-plain : Untold st.limits → Plain held → Plain more
  unfolding with_entries
  entries-plain own u = record {
    switch = u.switch;
    entries = λ i.
        below_or_not i (entries_in held + how_many st)
        (filled-each one_of (entries_in held) held.entries (λ e. Untold e.limits) (λ j l. u.entries j) (how_many st)
        (omega (arith, room, h.entry_slots)) (λ j l. new-untold own j) i)
        (λ l. rw (filled-behind one_of (entries_in held) held.entries (how_many st) i l) (u.entries i));
  }

  switch-same : switch_legal more ≡ true
  unfolding with_entries switch_legal
  switch-same = (stages-from held h.rules).switch

  assets-same : assets_legal more ≡ true
  unfolding with_entries assets_legal assets_in
  assets-same = (stages-from held h.rules).assets

  entries-lawful : entries_legal more ≡ true
  unfolding with_entries entries_legal in_book assets_in
  entries-lawful = rw entries-in
      (all_of (λ i. lawful_in held (limits_at more.entries i)) (entries_in held + how_many st) all-lawful)

  pub entries-legal : Legal more
  unfolding with_entries
  entries-legal = record {
    asset_slots = h.asset_slots;
    entry_slots = length-filled one_of (entries_in held) held.entries (how_many st) ∙ h.entry_slots;
    player_slots = h.player_slots;
    asset_count = h.asset_count;
    entry_count = room;
    time = h.time;
    assets_blank = h.assets_blank;
    entries_blank = λ i l. filled-behind one_of (entries_in held) held.entries (how_many st) i l
        ∙ h.entries_blank i (omega (arith, entries-counted held h, l));
    rules = fresh-rules more entries-fresh switch-same assets-same entries-lawful;
  }

-- ## The numbers of a fresh and legal book fit their types

between-most : (a z v : ℕ) → between a z v ≡ true → v ≤ z
between-most a z v e = leb-true v z (and_right (leb a v) (leb v z) e)

limits-fit : (known : Bool) (l : Limits) → limits_legal known l ≡ true → Small l.asset → Untold l
    → Fit (entry_widths newest) (entry_values newest (record { limits = l; meters = no_meters }))
limits-fit known l e a u =
    let t = limits-tests known l e in
    let r = ranges-tests l t.1.1.1.1.0 in
    omega (
      arith,
      a,
      between-most 1 65535 l.object t.0,
      between-most 1 5 l.kind t.1.1.0,
      leb-true l.flags 63 t.1.1.1.0,
      limit-most _ _ l.count r.0,
      limit-most _ _ l.timed r.1.0,
      limit-most _ _ l.timer r.1.1.0,
      limit-most _ _ l.start r.1.1.1.0,
      limit-most _ _ l.end r.1.1.1.1.0,
      limit-most _ _ l.interval r.1.1.1.1.1.0,
      limit-most _ _ l.accumulated r.1.1.1.1.1.1.0,
      u.0.0,
      u.0.1,
      u.0.2,
      u.1,
    )

module _ (b : Book) (h : Legal b) where
  number_small : (i : ℕ) → i < assets_in b → Small (asset_at b.assets i).number
  number_small i l =
      omega (
        arith,
        between-most 1 65535 (asset_at b.assets i).number
            (asset-tests b.assets (assets_in b) i (asset_at b.assets i) (asset-at b h i l)).0,
      )

  -- a number in the book is that of an asset
  in_small : (x : ℕ) → in_book b x ≡ true → Small x
  unfolding in_book asset_position
  in_small x e =
      let at : ℕ → Bool = λ i. eqb (asset_at b.assets i).number x in
      let l = ltb-true (first at (assets_in b)) (assets_in b) e in
      omega (arith, number_small (first at (assets_in b)) l, eqb-true _ x (first_holds at (assets_in b) l))

  asset-fits : (i : ℕ) → Small (asset_at b.assets i).inherit → Fit (asset_widths newest) (asset_values (asset_at b.assets i))
  asset-fits i inherit =
      below_or_not i (assets_in b)
      (λ l.
      let t = asset-tests b.assets (assets_in b) i (asset_at b.assets i) (asset-at b h i l) in
      omega (arith, inherit, number_small i l, leb-true (asset_at b.assets i).key 1 t.1.1.0))
      (λ l. rw (h.assets_blank i (omega (arith, assets-counted b h, l))) (zeros-fit (asset_widths newest)))

  entry-fits : Fresh b → Plain b → (i : ℕ) → Fit (entry_widths newest) (entry_values newest (get_or b.entries i no_entry))
  entry-fits f u i =
      below_or_not i (entries_in b)
      (λ l.
      let t = lawful-at b h i l in
      let known = in_book b (limits_at b.entries i).asset in
      rw (f.meters i)
      (limits-fit known (limits_at b.entries i) t (in_small _ (limits-tests known (limits_at b.entries i) t).1.0) (u.entries i)))
      (λ l. rw (h.entries_blank i (omega (arith, entries-counted b h, l))) (zeros-fit (entry_widths newest)))

  pub fresh-typed : Fresh b → Plain b → ((i : ℕ) → Small (asset_at b.assets i).inherit) → Typed b
  fresh-typed f u inherits = record {
    header = omega (
      arith,
      u.switch,
      ap (λ (x : Latest). x.player) f.latest,
      ap (λ (x : Latest). x.started) f.latest,
    );
    assets = λ i. asset-fits i (inherits i);
    entries = entry-fits f u;
    players = λ p. rw (f.players p) (zeros-fit (player_widths newest));
  }
