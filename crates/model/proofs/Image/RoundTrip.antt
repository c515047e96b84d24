-- Demand 2: a book that is written reads back as the same book, and an image that is accepted is written back byte for byte.
use Prim.Native.Nat.{ℕ, suc, ◌+◌, ◌*◌, ◌-◌, ◌<◌, ◌≤◌}
use mathlib.Core.Path.{◌≡◌, refl, sym, ap, ap₂, subst, ◌∙◌}
use mathlib.Core.Bool.{Bool, true, false, cond, ◌&&◌, ◌||◌, not}
use mathlib.Core.List.{List, [], ◌∷◌, ◌++◌, append_assoc, append-nil}
use native.Mathlib.Omega.{arith}
use native.Mathlib.Nat.{mul-suc, mul-le-mul_left, min-eq_left}
use lib.ListN.{length, get_or, take, drop, replicate, length-append, get_or-eq_default}
use lib.Seq.{take_at, drop_at, take-add, take_all}
use lib.Dec.{ltb, leb, eqb}
use borrow.Author.Tests.{eq-eqb, le-ltb, le-leb, lt-leb}
use Rattle.numbers.specs.Count.{all, joined, listed}
use Rattle.numbers.specs.Fields.{Width, bytes, big_endian, number_at, size, laid_out, values_at, Fit}
use Rattle.numbers.proofs.FieldLaws.{values-back, field_back, values-from, values-own, fits_wider, length-laid, laid-back, laid-bytes}
use Rattle.numbers.proofs.FieldLaws.{append-bytes, drop-bytes, zeros-said, padded, older}
use Rattle.numbers.proofs.Tests.{row-passed, all-below}
use Rattle.numbers.proofs.TableLaws.{below_or_not, joined_same, listed_same, length-joined, piece-begins, pieces-joined, listed_at}
use Rattle.numbers.proofs.TableLaws.{blank-at, length-listed, length-slots, slots-back, joined_bytes}
use Rattle.book.specs.declared.Asset.{Asset}
use Rattle.book.specs.declared.Entry.{Entry}
use Rattle.book.specs.declared.Player.{Player}
use Rattle.book.specs.declared.Book.{Book}
use Rattle.book.specs.Blank.{no_asset, no_entry, no_player, no_book}
use Rattle.book.specs.Changed.{changed}
use Rattle.model.specs.Book.{asset_at, player_at, assets_in, entries_in, latest_time, between, rule_broken, Legal}
use Rattle.model.specs.Image.{header_start, header_tail, header_widths, start_values, tail_values, newest, asset_widths, asset_values}
use Rattle.model.specs.Image.{asset_of, entry_widths, entry_values, entry_of, player_widths, player_values, player_of, image_length}
use Rattle.model.specs.Image.{header_bytes, asset_bytes, entry_bytes, player_bytes, image, image_as, header_size, asset_size, entry_size, player_size}
use Rattle.model.specs.Image.{length_of, write_answer, write_buffer, mark_in, version_in, asset_count_in, entry_count_in, time_in, asset_in}
use Rattle.model.specs.Image.{entry_in, player_in, asset_table, entry_table, player_table, entries_from, players_from, tail_in, book_as}
use Rattle.model.specs.Image.{marked}
use Rattle.model.specs.Image.{book_in, header_broken, read_code, read_book, SaidBy, Typed, Bytes}
use Rattle.model.specs.Demand2.{Demand2}
use Rattle.model.proofs.Image.Header.{by-version, HeaderPassed, header-passed, accepted-stages, accepted-book, refused-book}
use Rattle.model.proofs.Image.Marks.{entry_said, entry_read, marked-table, legal-marks, entry_kept, marks-fit, marks-typed}

-- ## One table of records of any layout

module _ {A : Type 0} (ws : List Width) (values : A → List ℕ) (of : List ℕ → A)
    (whole : (x : A) (vs : List ℕ) → ((k : ℕ) → get_or vs k 0 ≡ get_or (values x) k 0) → of vs ≡ x)
    (each : (x : A) → length ws ≤ length (values x)) where
  -- a record written to a table reads back
  record-back : (f : ℕ → A) (n i o : ℕ) (pre rest : List ℕ) → length pre ≡ o → i < n → Fit ws (values (f i))
      → of (values_at ws 0 (drop (o + size ws * i) (pre ++ joined (λ (k : ℕ). laid_out ws (values (f k))) n ++ rest))) ≡ f i
  record-back f n i o pre rest e h fit =
      let g : ℕ → List ℕ = λ (k : ℕ). laid_out ws (values (f k)) in
      let even : (k : ℕ) → length (g k) ≡ size ws = λ k. length-laid ws (values (f k)) (each (f k)) in
      let s = drop (o + size ws * i) (pre ++ joined g n ++ rest) in
      ap (λ (t : List ℕ). of (values_at ws 0 t)) (piece-begins g (size ws) even n i o pre rest e h)
      ∙ whole (f i) _ (λ k.
      ap (λ (vs : List ℕ). get_or vs k 0) (values-back ws 0 (values (f i)) [] (drop (size ws) s) refl fit)
      ∙ field_back ws (values (f i)) fit k)

-- the values that were read by an older layout, with 0 for those that it lacks, are laid out by it as those that were read
laid-own : (ws xs : List Width) (o : ℕ) (s : List ℕ) → length ws ≤ length xs
    → laid_out ws (padded xs (λ k. get_or (values_at ws o s) k 0)) ≡ laid_out ws (values_at ws o s)
laid-own [] xs o s h = refl
laid-own (w ∷ ws) [] o s h = absurd (omega arith)
laid-own (w ∷ ws) (x ∷ xs) o s h = ap (λ (l : List ℕ). big_endian w (number_at w o s) ++ l) (laid-own ws xs (o + bytes w) s (omega arith))

-- a table at an offset, whose records f say what was read there by the layout ws
module _ {A : Type 0} (ws xs : List Width) (few : length ws ≤ length xs) (values : A → List ℕ) (f : ℕ → A)
    (o : ℕ) (s : List ℕ) (b : Bytes s)
    (says : (i : ℕ) → values (f i) ≡ padded xs (λ k. get_or (values_at ws 0 (drop (o + size ws * i) s)) k 0)) where
  -- the contents of every slot are what the layout can say
  slots-said : (n k i : ℕ) (d : A) → Fit ws (values d) → Fit ws (values (get_or (listed f n ++ replicate k d) i d))
  slots-said n k i d blank = below_or_not i n
      (λ h. subst (λ (x : A). Fit ws (values x)) (sym (listed_at f n i d (replicate k d) h))
      (subst (Fit ws) (sym (says i)) (values-own ws xs 0 (drop (o + size ws * i) s) few (drop-bytes (o + size ws * i) s b))))
      (λ h. subst (λ (x : A). Fit ws (values x)) (sym (blank-at f n i k d h)) blank)

  -- the records are written as the bytes of the table
  table-back : (n : ℕ) (rest : List A) (d : A) → o + size ws * n ≤ length s
      → joined (λ (i : ℕ). laid_out ws (values (get_or (listed f n ++ rest) i d))) n ≡ take (size ws * n) (drop o s)
  table-back n rest d h =
      joined_same _ (λ (i : ℕ). take (size ws) (drop (o + size ws * i) s)) n (λ i q.
      ap (λ (x : A). laid_out ws (values x)) (listed_at f n i d rest q)
      ∙ ap (laid_out ws) (says i)
      ∙ laid-own ws xs 0 (drop (o + size ws * i) s) few
      ∙ ap (laid_out ws) (values-from ws (o + size ws * i) s)
      ∙ laid-back ws (o + size ws * i) s b (omega (arith, mul-suc (size ws) i, mul-le-mul_left (size ws) q)))
      ∙ pieces-joined (size ws) n o s

-- ## The parts of an image

abbrev header_part : ℕ → Book → List ℕ
header_part v b = laid_out (header_widths v) (start_values v (assets_in b) (entries_in b) b.time ++ tail_values b)

abbrev asset_part : ℕ → Book → List ℕ
asset_part v b = joined (λ (i : ℕ). laid_out (asset_widths v) (asset_values (asset_at b.assets i))) (assets_in b)

abbrev entry_part : ℕ → Book → List ℕ
entry_part v b = joined (λ (i : ℕ). laid_out (entry_widths v) (entry_values v (get_or b.entries i no_entry))) (entries_in b)

abbrev player_part : ℕ → Book → List ℕ
player_part v b = joined (λ (p : ℕ). laid_out (player_widths v) (player_values (player_at b.players p))) 16

-- the header is its start and what versions added
header-parts : (v assets entries : ℕ) (b : Book)
    → laid_out (header_widths v) (start_values v assets entries b.time ++ tail_values b)
    ≡ laid_out header_start (start_values v assets entries b.time) ++ laid_out (header_tail v) (tail_values b)
header-parts v assets entries b = refl

-- a book has a value for each width of every version
module _ (v : ℕ) (oldest : 1 ≤ v) (known : v ≤ newest) where
  tail-enough : (b : Book) → length (header_tail v) ≤ length (tail_values b)
  tail-enough b =
      by-version (λ v. length (header_tail v) ≤ length (tail_values b)) (omega arith) (omega arith) (omega arith) (omega arith) (omega arith)
      v oldest known

  asset-enough : (a : Asset) → length (asset_widths v) ≤ length (asset_values a)
  asset-enough a =
      by-version (λ v. length (asset_widths v) ≤ length (asset_values a))
      (omega arith) (omega arith) (omega arith) (omega arith) (omega arith) v oldest known

  entry-enough : (e : Entry) → length (entry_widths v) ≤ length (entry_values v e)
  entry-enough e =
      by-version (λ v. length (entry_widths v) ≤ length (entry_values v e))
      (omega arith) (omega arith) (omega arith) (omega arith) (omega arith) v oldest known

  player-enough : (p : Player) → length (player_widths v) ≤ length (player_values p)
  player-enough p =
      by-version (λ v. length (player_widths v) ≤ length (player_values p))
      (omega arith) (omega arith) (omega arith) (omega arith) (omega arith) v oldest known

  header-sizes : header_size v ≡ size header_start + size (header_tail v)
  unfolding header_size
  header-sizes = by-version (λ v. header_size v ≡ size header_start + size (header_tail v)) refl refl refl refl refl v oldest known

  length-header_part : (b : Book) → length (header_part v b) ≡ header_size v
  length-header_part b =
      length-append (laid_out header_start (start_values v (assets_in b) (entries_in b) b.time)) (laid_out (header_tail v) (tail_values b))
      ∙ ap (λ (n : ℕ). size header_start + n) (length-laid (header_tail v) (tail_values b) (tail-enough b))
      ∙ sym header-sizes

  length-asset_part : (b : Book) → length (asset_part v b) ≡ asset_size v * assets_in b
  unfolding asset_size
  length-asset_part b =
      length-joined (λ (i : ℕ). laid_out (asset_widths v) (asset_values (asset_at b.assets i))) (asset_size v)
      (λ i. length-laid (asset_widths v) (asset_values (asset_at b.assets i)) (asset-enough (asset_at b.assets i))) (assets_in b)

  length-entry_part : (b : Book) → length (entry_part v b) ≡ entry_size v * entries_in b
  unfolding entry_size
  length-entry_part b =
      length-joined (λ (i : ℕ). laid_out (entry_widths v) (entry_values v (get_or b.entries i no_entry))) (entry_size v)
      (λ i. length-laid (entry_widths v) (entry_values v (get_or b.entries i no_entry)) (entry-enough (get_or b.entries i no_entry)))
      (entries_in b)

  length-player_part : (b : Book) → length (player_part v b) ≡ player_size v * 16
  unfolding player_size
  length-player_part b =
      length-joined (λ (p : ℕ). laid_out (player_widths v) (player_values (player_at b.players p))) (player_size v)
      (λ p. length-laid (player_widths v) (player_values (player_at b.players p)) (player-enough (player_at b.players p))) 16

  before-entries : (b : Book) → length (header_part v b ++ asset_part v b) ≡ header_size v + asset_size v * assets_in b
  before-entries b = rw (length-append, length-header_part b, length-asset_part b)

  before-players : (b : Book)
      → length (header_part v b ++ asset_part v b ++ entry_part v b) ≡ header_size v + asset_size v * assets_in b + entry_size v * entries_in b
  before-players b = rw (length-append, before-entries b, length-entry_part b)

  length-as : (b : Book) → length (image_as v b) ≡ image_length v (assets_in b) (entries_in b)
  unfolding image_as image_length
  length-as b = rw (length-append, before-players b, length-player_part b)

  long-enough : (b : Book) → size header_start ≤ length (image_as v b)
  unfolding image_length
  long-enough b = rw (length-as b, header-sizes) (omega arith)

-- the layout of the newest version is what is written
as-newest : (b : Book) → image_as newest b ≡ image b
unfolding image_as image header_bytes asset_bytes entry_bytes player_bytes
as-newest b = refl

image-length : (b : Book) → length (image b) ≡ length_of b
unfolding length_of
image-length b = ap length (sym (as-newest b)) ∙ length-as newest (omega arith) (omega arith) b

length-bounds : (b : Book) → (535 ≤ length_of b) × (length_of b ≤ 5399)
unfolding length_of image_length assets_in entries_in header_size asset_size entry_size player_size
length-bounds b = (omega arith, omega arith)

-- ## A stage that passes

passes : (t : Bool) (c x : ℕ) → t ≡ false → x ≡ 0 → cond t c x ≡ 0
passes t c x e z = ap (λ (u : Bool). cond u c x) e ∙ z

-- ## Written and read back

start_fits : (v assets entries time : ℕ) → v ≤ newest → assets ≤ 64 → entries ≤ 64 → time ≤ latest_time → Fit header_start
    (start_values v assets entries time)
start_fits v assets entries time known ha he ht = omega arith

-- a record is told by its values, those that are missing being 0
asset-whole : (x : Asset) (vs : List ℕ) → ((k : ℕ) → get_or vs k 0 ≡ get_or (asset_values x) k 0) → asset_of vs ≡ x
asset-whole x vs h = λ i. asset_of (padded (asset_widths newest) (λ k. h k i))

entry_whole : (x : Entry) (vs : List ℕ) → ((k : ℕ) → get_or vs k 0 ≡ get_or (entry_values newest x) k 0) → entry_of vs ≡ x
entry_whole x vs h = λ i. entry_of (padded (entry_widths newest) (λ k. h k i))

player-whole : (x : Player) (vs : List ℕ) → ((k : ℕ) → get_or vs k 0 ≡ get_or (player_values x) k 0) → player_of vs ≡ x
player-whole x vs h = λ i. player_of (padded (player_widths newest) (λ k. h k i))

module _ (v : ℕ) (oldest : 1 ≤ v) (known : v ≤ newest) (b : Book) (l : Legal b) where
  assets-in : assets_in b ≡ b.assetcount
  unfolding assets_in
  assets-in = min-eq_left l.asset_count

  entries-in : entries_in b ≡ b.entrycount
  unfolding entries_in
  entries-in = min-eq_left l.entry_count

  -- the image after the start of its header
  after : List ℕ
  after = laid_out (header_tail v) (tail_values b) ++ (asset_part v b ++ (entry_part v b ++ player_part v b))

  abbrev laid : List ℕ
  laid = image_as v b

  abbrev start : List ℕ
  start = start_values v b.assetcount b.entrycount b.time

  image-start : laid ≡ laid_out header_start start ++ after
  unfolding image_as after
  image-start =
      append_assoc (header_part v b ++ asset_part v b) (entry_part v b) (player_part v b)
      ∙ append_assoc (header_part v b) (asset_part v b) (entry_part v b ++ player_part v b)
      ∙ ap₂ (λ (n m : ℕ). laid_out (header_widths v) (start_values v n m b.time ++ tail_values b) ++
      (asset_part v b ++ (entry_part v b ++ player_part v b))) assets-in entries-in
      ∙ ap (λ (x : List ℕ). x ++ (asset_part v b ++ (entry_part v b ++ player_part v b)))
      (header-parts v b.assetcount b.entrycount b)
      ∙ append_assoc (laid_out header_start start) (laid_out (header_tail v) (tail_values b))
      (asset_part v b ++ (entry_part v b ++ player_part v b))

  header-back : values_at header_start 0 laid ≡ start
  header-back =
      ap (values_at header_start 0) image-start
      ∙ values-back header_start 0 start [] after refl
      (start_fits v b.assetcount b.entrycount b.time known l.asset_count l.entry_count l.time)

  -- each field that versions added
  tail-back : Fit (header_tail v) (tail_values b) → (k : ℕ) → get_or (tail_in v laid) k 0 ≡ get_or (tail_values b) k 0
  unfolding after
  tail-back f k =
      let rest = asset_part v b ++ (entry_part v b ++ player_part v b) in
      ap (λ (s : List ℕ). get_or (values_at (header_tail v) (size header_start) s) k 0) (image-start ∙ sym
      (append_assoc (laid_out header_start start) (laid_out (header_tail v) (tail_values b)) rest))
      ∙ ap (λ (vs : List ℕ). get_or vs k 0)
      (values-back (header_tail v) (size header_start) (tail_values b) (laid_out header_start start) rest refl f)
      ∙ field_back (header_tail v) (tail_values b) f k

  assets-counted : asset_count_in laid ≡ assets_in b
  unfolding asset_count_in
  assets-counted = ap (λ (vs : List ℕ). get_or vs 4 0) header-back ∙ sym assets-in

  entries-counted : entry_count_in laid ≡ entries_in b
  unfolding entry_count_in
  entries-counted = ap (λ (vs : List ℕ). get_or vs 5 0) header-back ∙ sym entries-in

  time-back : time_in laid ≡ b.time
  unfolding time_in
  time-back = ap (λ (vs : List ℕ). get_or vs 6 0) header-back

  entries_from_lem : entries_from v laid ≡ header_size v + asset_size v * assets_in b
  unfolding entries_from
  entries_from_lem = ap (λ (n : ℕ). header_size v + asset_size v * n) assets-counted

  players-from : players_from v laid ≡ header_size v + asset_size v * assets_in b + entry_size v * entries_in b
  unfolding players_from
  players-from = ap₂ (λ (k n : ℕ). k + entry_size v * n) entries_from_lem entries-counted

  version-back : version_in laid ≡ v
  unfolding version_in
  version-back = ap (λ (vs : List ℕ). get_or vs 3 0) header-back

  module _ (y : SaidBy v b) where
    assets-back : asset_table v laid (header_size v) (assets_in b) ≡ b.assets
    unfolding asset_table image_as asset_in asset_size
    assets-back =
        let n = assets_in b in
        let slots : length b.assets ≡ n + (64 - n) = l.asset_slots ∙ omega (arith, assets-in, l.asset_count) in
        ap (λ (x : List ℕ). asset_table v x (header_size v) n)
        (append_assoc (header_part v b ++ asset_part v b) (entry_part v b) (player_part v b))
        ∙ ap (λ (x : List Asset). x ++ replicate (64 - n) no_asset)
        (listed_same _ (asset_at b.assets) n (λ i h.
        record-back (asset_widths v) asset_values asset_of asset-whole (asset-enough v oldest known) (asset_at b.assets) n i (header_size v)
        (header_part v b) (entry_part v b ++ player_part v b)
        (length-header_part v oldest known b) h (y.assets i)))
        ∙ slots-back b.assets n (64 - n) no_asset slots (λ i h. l.assets_blank i (rw (← assets-in) h))

    -- the entries as the version says them
    abbrev entries_said : List Entry
    entries_said = listed (λ (i : ℕ). entry_said v (get_or b.entries i no_entry)) (entries_in b) ++ replicate (64 - entries_in b) no_entry

    entries-back : entry_table v laid (entries_from v laid) (entries_in b) ≡ entries_said
    unfolding entry_table image_as entry_in entry_size
    entries-back =
        ap (λ (x : List Entry). x ++ replicate (64 - entries_in b) no_entry)
        (listed_same _ _ (entries_in b) (λ i h.
        record-back (entry_widths v) (entry_values newest) entry_of entry_whole (entry-enough v oldest known)
        (λ (i : ℕ). entry_said v (get_or b.entries i no_entry)) (entries_in b)
        i (entries_from v laid) (header_part v b ++ asset_part v b) (player_part v b)
        (before-entries v oldest known b ∙ sym entries_from_lem) h (y.entries i)))

    -- where it says no marks, those of the open uses make them the entries of the book
    entries-kept : listed (λ (i : ℕ). entry_read v b.players i (entry_said v (get_or b.entries i no_entry))) (entries_in b)
        ++ replicate (64 - entries_in b) no_entry ≡ b.entries
    entries-kept =
        let n = entries_in b in
        let slots : length b.entries ≡ n + (64 - n) = l.entry_slots ∙ omega (arith, entries-in, l.entry_count) in
        ap (λ (x : List Entry). x ++ replicate (64 - n) no_entry)
        (listed_same _ (λ (i : ℕ). get_or b.entries i no_entry) n (λ i h.
        entry_kept v oldest known b.players i (get_or b.entries i no_entry) (legal-marks b l i h)))
        ∙ slots-back b.entries n (64 - n) no_entry slots (λ i h. l.entries_blank i (rw (← entries-in) h))

    players-back : player_table v laid (players_from v laid) ≡ b.players
    unfolding player_table image_as player_in player_size
    players-back =
        let past : (i : ℕ) → 16 ≤ i → player_at b.players i ≡ no_player = λ i h. get_or-eq_default b.players no_player
        (rw l.player_slots h) in
        ap (λ (x : List ℕ). player_table v x (players_from v laid))
        (sym (append-nil (header_part v b ++ asset_part v b ++ entry_part v b ++ player_part v b)))
        ∙ listed_same _ (player_at b.players) 16 (λ i h.
        record-back (player_widths v) player_values player_of player-whole (player-enough v oldest known) (player_at b.players) 16 i
        (players_from v laid) (header_part v b ++ asset_part v b ++ entry_part v b) []
        (before-players v oldest known b ∙ sym players-from) h (y.players i))
        ∙ sym (append-nil (listed (player_at b.players) 16))
        ∙ slots-back b.players 16 0 no_player l.player_slots past

    as-back : book_as v laid ≡ changed b b.time b.latest entries_said b.players
    unfolding book_as
    as-back = λ i. record {
      time = time-back i;
      switch = tail-back y.header 0 i;
      latest = record { player = tail-back y.header 1 i; started = tail-back y.header 2 i };
      assetcount = (assets-counted ∙ assets-in) i;
      entrycount = (entries-counted ∙ entries-in) i;
      assets = (ap (asset_table v laid (header_size v)) assets-counted ∙ assets-back) i;
      entries = (ap (entry_table v laid (entries_from v laid)) entries-counted ∙ entries-back) i;
      players = players-back i;
    }

    book-back : book_in laid ≡ b
    unfolding book_in entries_in
    book-back =
        ap (λ (w : ℕ). marked w (book_as w laid)) version-back
        ∙ ap (marked v) as-back
        ∙ marked-table v (entries_in b) (64 - entries_in b) (changed b b.time b.latest entries_said b.players)
        (λ i. entry_said v (get_or b.entries i no_entry)) refl refl
        ∙ ap (λ (es : List Entry). changed b b.time b.latest es b.players) entries-kept

    mark-back : mark_in laid ≡ true
    unfolding mark_in
    mark-back = ap (λ (vs : List ℕ). eqb (get_or vs 0 0) 82 && eqb (get_or vs 1 0) 66 && eqb (get_or vs 2 0) 75) header-back

    version-known : not (between 1 newest (version_in laid)) ≡ false
    version-known =
        ap (λ (w : ℕ). not (between 1 newest w)) version-back
        ∙ by-version (λ w. not (between 1 newest w) ≡ false) refl refl refl refl refl v oldest known

    none-large : (ltb 64 (asset_count_in laid) || ltb 64 (entry_count_in laid) || ltb latest_time (time_in laid)) ≡ false
    none-large =
        let n : asset_count_in laid ≤ 64 = rw (assets-counted, assets-in) l.asset_count in
        let m : entry_count_in laid ≤ 64 = rw (entries-counted, entries-in) l.entry_count in
        let t : time_in laid ≤ latest_time = rw (time-back) l.time in
        rw (le-ltb 64 (asset_count_in laid) n, le-ltb 64 (entry_count_in laid) m, le-ltb latest_time (time_in laid) t)

    whole_back : length laid ≡ image_length (version_in laid) (asset_count_in laid) (entry_count_in laid)
    whole_back =
        length-as v oldest known b
        ∙ sym (ap (λ (w : ℕ). image_length w (asset_count_in laid) (entry_count_in laid)) version-back ∙ ap₂ (image_length v)
        assets-counted entries-counted)

    header-holds : header_broken laid ≡ 0
    unfolding header_broken
    header-holds =
        passes (ltb (length laid) (size header_start)) 20 _ (le-ltb (length laid) (size header_start) (long-enough v oldest known b))
        (passes (not (mark_in laid)) 21 _ (ap not mark-back)
        (passes (not (between 1 newest (version_in laid))) 22 _ version-known
        (passes _ 23 _ none-large
        (passes _ 20 0 (ap not (eq-eqb (length laid) (image_length (version_in laid) (asset_count_in laid)
        (entry_count_in laid)) whole_back)) refl))))

    reads_as_lem : (held : Book) → (read_code laid ≡ 0) × (read_book held laid ≡ b)
    unfolding read_code read_book
    reads_as_lem held =
        let code : read_code laid ≡ 0 = rw (header-holds, book-back) l.rules in
        (code, rw (code) book-back)

module _ (b : Book) (l : Legal b) where
  newest-written : version_in (image b) ≡ newest
  newest-written = ap version_in (sym (as-newest b)) ∙ version-back newest (omega arith) (omega arith) b l

  module _ (y : Typed b) where
    reads-back : (held : Book) → (read_code (image b) ≡ 0) × (read_book held (image b) ≡ b)
    reads-back held =
        subst (λ (s : List ℕ). (read_code s ≡ 0) × (read_book held s ≡ b)) (as-newest b)
        (reads_as_lem newest (omega arith) (omega arith) b l y held)

    image-bytes : Bytes (image b)
    unfolding image_as
    image-bytes =
        let v = newest in
        let start = start_values v (assets_in b) (entries_in b) b.time in
        let fits : Fit header_start start =
        rw (assets-in v (omega arith) (omega arith) b l, entries-in v (omega arith) (omega arith) b l)
        (start_fits v b.assetcount b.entrycount b.time (omega arith) l.asset_count l.entry_count l.time) in
        subst Bytes (as-newest b)
        (append-bytes (header_part v b ++ asset_part v b ++ entry_part v b) (player_part v b)
        (append-bytes (header_part v b ++ asset_part v b) (entry_part v b)
        (append-bytes (header_part v b) (asset_part v b)
        (subst Bytes (sym (header-parts v (assets_in b) (entries_in b) b))
        (append-bytes (laid_out header_start start) (laid_out (header_tail v) (tail_values b))
        (laid-bytes header_start start fits)
        (laid-bytes (header_tail v) (tail_values b) y.header)))
        (joined_bytes _ (λ i. laid-bytes (asset_widths v) (asset_values (asset_at b.assets i)) (y.assets i)) (assets_in b)))
        (joined_bytes _ (λ i. laid-bytes (entry_widths v) (entry_values v (get_or b.entries i no_entry)) (y.entries i)) (entries_in b)))
        (joined_bytes _ (λ i. laid-bytes (player_widths v) (player_values (player_at b.players i)) (y.players i)) 16))

-- ## What an older version can say

-- each layout up to the newest is an older one of the newest: one test of all versions
layouts : all (λ v. older (header_tail v) (header_tail newest) && older (asset_widths v) (asset_widths newest)
    && older (entry_widths v) (entry_widths newest) && older (player_widths v) (player_widths newest)) (suc newest) ≡ true
unfolding all
layouts = refl

-- so what it can say of a legal book fits its type
said_typed : (v : ℕ) (b : Book) → v ≤ newest → Legal b → SaidBy v b → Typed b
said_typed v b known l y =
    let all_old = row-passed _ (older (asset_widths v) (asset_widths newest) ∷ older (entry_widths v) (entry_widths newest) ∷ older
    (player_widths v) (player_widths newest) ∷ [])
    (all-below _ (suc newest) layouts v (omega (arith, known))) in
    record {
      header = fits_wider (header_tail v) (header_tail newest) (tail_values b) all_old.0 refl y.header;
      assets = λ i. fits_wider (asset_widths v) (asset_widths newest) (asset_values (asset_at b.assets i)) all_old.1.0 refl (y.assets i);
      entries = λ i.
          marks-typed v (get_or b.entries i no_entry) (marks-fit b l i)
          (fits_wider (entry_widths v) (entry_widths newest) (entry_values v (get_or b.entries i no_entry)) all_old.1.1.0 refl
          (y.entries i));
      players = λ i. fits_wider (player_widths v) (player_widths newest) (player_values (player_at b.players i)) all_old.1.1.1.0 refl (y.players i);
    }

-- ## An image of any version, read and laid out again

-- n filled slots and the blank ones after them make up the whole table
slots-all : (n : ℕ) → n ≤ 64 → n + (64 - n) ≡ 64
slots-all n h = omega arith

module _ (s : List ℕ) (b : Bytes s) (p : HeaderPassed s) where
  abbrev v : ℕ
  v = version_in s

  abbrev players_read : List Player
  players_read = player_table v s (players_from v s)

  -- the entry at a position, its marks set
  abbrev entry_at : ℕ → Entry
  entry_at i = entry_read v players_read i (entry_in v (drop (entries_from v s + entry_size v * i) s))

  -- the book that is read
  abbrev read : Book
  read = changed (book_as v s) (time_in s) (book_as v s).latest
      (listed entry_at (entry_count_in s) ++ replicate (64 - entry_count_in s) no_entry) players_read

  book-read : book_in s ≡ read
  unfolding book_in book_as entry_table entries_in
  book-read = marked-table v (entry_count_in s) (64 - entry_count_in s) (book_as v s)
      (λ i. entry_in v (drop (entries_from v s + entry_size v * i) s)) (min-eq_left p.entries) refl

  read-legal : rule_broken (book_in s) ≡ 0 → Legal (book_in s)
  unfolding book_as asset_table player_table
  read-legal rules = subst Legal (sym book-read) (record {
    asset_slots = length-slots _ (asset_count_in s) (64 - asset_count_in s) no_asset ∙ slots-all (asset_count_in s) p.assets;
    entry_slots = length-slots _ (entry_count_in s) (64 - entry_count_in s) no_entry ∙ slots-all (entry_count_in s) p.entries;
    player_slots = length-listed _ 16;
    asset_count = p.assets;
    entry_count = p.entries;
    time = p.time;
    assets_blank = λ i h. blank-at _ (asset_count_in s) i (64 - asset_count_in s) no_asset h;
    entries_blank = λ i h. blank-at _ (entry_count_in s) i (64 - entry_count_in s) no_entry h;
    rules = subst (λ (x : Book). rule_broken x ≡ 0) book-read rules;
  })

  -- a version has no more widths than a book has values
  few-assets : length (asset_widths v) ≤ length (asset_widths newest)
  few-assets = asset-enough v p.oldest p.known no_asset

  few-entries : length (entry_widths v) ≤ length (entry_widths newest)
  few-entries = entry-enough v p.oldest p.known no_entry

  few-players : length (player_widths v) ≤ length (player_widths newest)
  few-players = player-enough v p.oldest p.known no_player

  few-tail : length (header_tail v) ≤ length (header_tail newest)
  few-tail = tail-enough v p.oldest p.known no_book

  -- an entry says what was read: the version says none of the marks that are set
  entry-says : (i : ℕ) → entry_values v (entry_at i)
      ≡ padded (entry_widths newest) (λ k. get_or (values_at (entry_widths v) 0 (drop (entries_from v s + entry_size v * i) s)) k 0)
  unfolding entry_in
  entry-says i =
      let t = drop (entries_from v s + entry_size v * i) s in
      by-version (λ v. entry_values v (entry_read v players_read i (entry_of (values_at (entry_widths v) 0 t)))
      ≡ padded (entry_widths newest) (λ k. get_or (values_at (entry_widths v) 0 t) k 0))
      refl refl refl refl refl v p.oldest p.known

  blank-said : Fit (entry_widths v) (entry_values v no_entry)
  blank-said = by-version (λ v. Fit (entry_widths v) (entry_values v no_entry))
      (omega arith) (omega arith) (omega arith) (omega arith) (omega arith) v p.oldest p.known

  read-said : SaidBy v (book_in s)
  unfolding book_as asset_table player_table asset_in player_in header_size asset_size entry_size player_size
  read-said = subst (SaidBy v) (sym book-read) (record {
    header = values-own (header_tail v) (header_tail newest) (size header_start) s few-tail b;
    assets = λ i.
        slots-said (asset_widths v) (asset_widths newest) few-assets asset_values _ (header_size v) s b (λ j. refl)
        (asset_count_in s) (64 - asset_count_in s) i no_asset (zeros-said (asset_widths v) (length (asset_widths newest)) few-assets);
    entries = λ i.
        slots-said (entry_widths v) (entry_widths newest) few-entries (entry_values v) entry_at (entries_from v s) s b entry-says
        (entry_count_in s) (64 - entry_count_in s) i no_entry blank-said;
    players = λ i.
        subst (λ (l : List Player). Fit (player_widths v) (player_values (player_at l i))) (append-nil players_read)
        (slots-said (player_widths v) (player_widths newest) few-players player_values _ (players_from v s) s b (λ j. refl)
        16 0 i no_player (zeros-said (player_widths v) (length (player_widths newest)) few-players));
  })

  assets-read : assets_in read ≡ asset_count_in s
  unfolding assets_in book_as
  assets-read = min-eq_left p.assets

  entries-read : entries_in read ≡ entry_count_in s
  unfolding entries_in book_as
  entries-read = min-eq_left p.entries

  -- where the parts end
  ends : length s ≡ players_from v s + player_size v * 16
  unfolding players_from entries_from image_length
  ends = p.whole

  start-again : laid_out header_start (start_values v (asset_count_in s) (entry_count_in s) (time_in s)) ≡ take (size header_start) s
  unfolding entries_from players_from
  start-again =
      ap (laid_out header_start) (sym p.header) ∙ laid-back header_start 0 s b (omega (arith, ends, header-sizes v p.oldest p.known))

  tail-again : laid_out (header_tail v) (tail_values read) ≡ take (size (header_tail v)) (drop (size header_start) s)
  unfolding book_as entries_from players_from
  tail-again =
      laid-own (header_tail v) (header_tail newest) (size header_start) s few-tail
      ∙ laid-back (header_tail v) (size header_start) s b (omega (arith, ends, header-sizes v p.oldest p.known))

  header-again : header_part v read ≡ take (header_size v) s
  unfolding book_as
  header-again =
      ap₂ (λ (n m : ℕ). laid_out header_start (start_values v n m (time_in s)) ++ laid_out (header_tail v) (tail_values read))
      assets-read entries-read
      ∙ ap₂ ◌++◌ start-again tail-again
      ∙ sym (take-add (size header_start) (size (header_tail v)) s)
      ∙ ap (λ (n : ℕ). take n s) (sym (header-sizes v p.oldest p.known))

  assets-again : asset_part v read ≡ take (asset_size v * asset_count_in s) (drop (header_size v) s)
  unfolding asset_in asset_table book_as entries_from players_from asset_size
  assets-again =
      ap (joined (λ (i : ℕ). laid_out (asset_widths v) (asset_values (asset_at read.assets i)))) assets-read
      ∙ table-back (asset_widths v) (asset_widths newest) few-assets asset_values _ (header_size v) s b (λ j. refl)
      (asset_count_in s) (replicate (64 - asset_count_in s) no_asset) no_asset (omega (arith, ends))

  entries-again : entry_part v read ≡ take (entry_size v * entry_count_in s) (drop (entries_from v s) s)
  unfolding book_as players_from entry_size
  entries-again =
      ap (joined (λ (i : ℕ). laid_out (entry_widths v) (entry_values v (get_or read.entries i no_entry)))) entries-read
      ∙ table-back (entry_widths v) (entry_widths newest) few-entries (entry_values v) entry_at (entries_from v s) s b entry-says
      (entry_count_in s) (replicate (64 - entry_count_in s) no_entry) no_entry (omega (arith, ends))

  players-again : player_part v read ≡ take (player_size v * 16) (drop (players_from v s) s)
  unfolding player_in player_table book_as player_size
  players-again =
      ap (λ (l : List Player). joined (λ (i : ℕ). laid_out (player_widths v) (player_values (player_at l i))) 16) (sym (append-nil players_read))
      ∙ table-back (player_widths v) (player_widths newest) few-players player_values _ (players_from v s) s b (λ j. refl)
      16 [] no_player (omega (arith, ends))

  image-again : image_as v (book_in s) ≡ s
  unfolding image_as entries_from players_from
  image-again =
      let n = asset_size v * asset_count_in s in
      let m = entry_size v * entry_count_in s in
      let k = player_size v * 16 in
      ap (image_as v) book-read
      ∙ ap₂ ◌++◌ (ap₂ ◌++◌ (ap₂ ◌++◌ header-again assets-again) entries-again) players-again
      ∙ ap (λ (x : List ℕ). x ++ take m (drop (entries_from v s) s) ++ take k (drop (players_from v s) s)) (sym (take-add (header_size v) n s))
      ∙ ap (λ (x : List ℕ). x ++ take k (drop (players_from v s) s)) (sym (take-add (entries_from v s) m s))
      ∙ sym (take-add (players_from v s) k s)
      ∙ take_all (players_from v s + k) s (omega (arith, ends))

-- ## The reader and the writer

laid-again : (held : Book) (s : List ℕ) → Bytes s → read_code s ≡ 0 → image_as (version_in s) (read_book held s) ≡ s
laid-again held s b e = ap (image_as (version_in s)) (accepted-book held s e) ∙ image-again s b (header-passed s (accepted-stages s e).0)

writes-back : (held : Book) (s : List ℕ) → Bytes s → read_code s ≡ 0 → version_in s ≡ newest → image (read_book held s) ≡ s
writes-back held s b e n =
    sym (as-newest (read_book held s)) ∙ ap (λ (v : ℕ). image_as v (read_book held s)) (sym n) ∙ laid-again held s b e

said : (held : Book) (s : List ℕ) → Bytes s → read_code s ≡ 0 → SaidBy (version_in s) (read_book held s)
said held s b e =
    subst (SaidBy (version_in s)) (sym (accepted-book held s e)) (read-said s b (header-passed s (accepted-stages s e).0))

accepted-legal : (held : Book) (s : List ℕ) → Bytes s → read_code s ≡ 0 → Legal (read_book held s) × Typed (read_book held s)
accepted-legal held s b e =
    let z = accepted-stages s e in
    let p = header-passed s z.0 in
    let legal = subst Legal (sym (accepted-book held s e)) (read-legal s b p z.1) in
    (legal, said_typed (version_in s) (read_book held s) p.known legal (said held s b e))

older-same : (held next : Book) (s : List ℕ) → Bytes s → read_code s ≡ 0
    → (read_code (image (read_book held s)) ≡ 0)
    × (version_in (image (read_book held s)) ≡ newest)
    × (read_book next (image (read_book held s)) ≡ read_book held s)
older-same held next s b e =
    let h = accepted-legal held s b e in
    let r = reads-back (read_book held s) h.0 h.1 next in
    (r.0, newest-written (read_book held s) h.0, r.1)

module _ (b : Book) (old : List ℕ) (h : length_of b ≤ length old) where
  fits : leb (length_of b) (length old) ≡ true
  fits = le-leb (length_of b) (length old) h

  answered : write_answer b (length old) ≡ length_of b
  unfolding write_answer
  answered = ap (λ (t : Bool). cond t (length_of b) 30) fits

  filled : write_buffer b old ≡ image b ++ drop (length_of b) old
  unfolding write_buffer
  filled = ap (λ (t : Bool). cond t (image b ++ drop (length_of b) old) old) fits

  written : take (write_answer b (length old)) (write_buffer b old) ≡ image b
  written = ap₂ take answered filled ∙ take_at (image b) (drop (length_of b) old) (length_of b) (image-length b)

  behind-kept : drop (write_answer b (length old)) (write_buffer b old) ≡ drop (length_of b) old
  behind-kept = ap₂ drop answered filled ∙ drop_at (image b) (drop (length_of b) old) (length_of b) (image-length b)

too_short_lem : (b : Book) (old : List ℕ) → length old < length_of b → (write_answer b (length old) ≡ 30) × (write_buffer b old ≡ old)
unfolding write_answer write_buffer
too_short_lem b old h = let e = lt-leb (length_of b) (length old) h in (rw e, rw e)

pub demand2 : Demand2
demand2 = record {
  reads_back = λ held b l y. reads-back b l y held;
  image_bytes = image-bytes;
  newest_written = newest-written;
  writes_back = writes-back;
  laid_again = laid-again;
  reads_as = λ held b v oldest known l y. reads_as_lem v oldest known b l y held;
  said = said;
  older_same = older-same;
  accepted_legal = accepted-legal;
  refused_keeps = refused-book;
  written_length = image-length;
  length_bounds = length-bounds;
  written = written;
  behind_kept = behind-kept;
  too_short = too_short_lem;
}
