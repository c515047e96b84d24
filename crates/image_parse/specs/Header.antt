-- What a valid header says about the bytes, in numbers: the tables it counts are there, and nothing after them.
use Rattle.std.specs.Prelude.{◌≡◌, ℕ, ◌+◌, ◌*◌, ◌≤◌, List, length, get_or}
use Rattle.std.proofs.Common.{ap, ap₂, ◌∙◌, arith}
use Rattle.numbers.specs.Fields.{bits16, bits32, number_at}
use Rattle.book.specs.declared.Asset.{Asset}
use Rattle.book.specs.declared.Entry.{Entry}
use Rattle.book.specs.declared.Player.{Player}
use Rattle.model.specs.Image.{tail_in, newest, header_size, asset_size, entry_size, player_size, version_in, time_in, asset_count_in, entry_count_in}
use Rattle.model.specs.Image.{image_length, header_broken, asset_table, entry_table, player_table, entries_from, players_from, book_as}
use Rattle.model.proofs.Image.Header.{header-passed}
use Rattle.image_parse.specs.Versions.{added, latest_of, header-least, switch-read, latest-read}

-- the version that the bytes name
abbrev pub version : List ℕ → ℕ
version s = number_at bits16 3 s

pub record HeaderStands (s : List ℕ) : Type 0 where
  pub oldest : 1 ≤ version s
  pub known : version s ≤ newest
  pub enough : header_size (version s) ≤ length s
  pub start : 11 ≤ length s
  pub assets : get_or s 5 0 ≤ 64
  pub entries : get_or s 6 0 ≤ 64
  pub whole : length s
      ≡ header_size (version s) + asset_size (version s) * get_or s 5 0 + entry_size (version s) * get_or s 6 0 + player_size (version s) * 16

pub header-stands : (s : List ℕ) → header_broken s ≡ 0 → HeaderStands s
unfolding version_in asset_count_in entry_count_in image_length
header-stands s e =
    let p = header-passed s e in
    let h = header-least (version s) p.oldest p.known in
    record {
      oldest = p.oldest;
      known = p.known;
      enough = omega (arith, p.whole);
      start = omega (arith, p.whole, h);
      assets = p.assets;
      entries = p.entries;
      whole = p.whole;
    }

-- ## Where the tables are

-- the version and the three offsets that the reader reckons
pub record Located (s : List ℕ) (v assets entries players : ℕ) : Type 0 where
  pub oldest : 1 ≤ v
  pub known : v ≤ newest
  pub same : v ≡ version s
  pub assets_at : assets ≡ header_size (version s)
  pub entries_at : entries ≡ header_size (version s) + asset_size (version s) * get_or s 5 0
  pub players_at : players ≡ header_size (version s) + asset_size (version s) * get_or s 5 0 + entry_size (version s) * get_or s 6 0
  pub asset_count : get_or s 5 0 ≤ 64
  pub entry_count : get_or s 6 0 ≤ 64
  pub asset_room : assets + asset_size v * get_or s 5 0 ≤ length s
  pub entry_room : entries + entry_size v * get_or s 6 0 ≤ length s
  pub player_room : players + player_size v * 16 ≤ length s

pub located : (s : List ℕ) → header_broken s ≡ 0 → (v o₁ o₂ o₃ : ℕ) → v ≡ version s → o₁ ≡ header_size v
    → o₂ ≡ header_size v + asset_size v * get_or s 5 0 → o₃ ≡ header_size v + asset_size v * get_or s 5 0 + entry_size v * get_or s 6 0
    → Located s v o₁ o₂ o₃
located s z v o₁ o₂ o₃ e h₁ h₂ h₃ =
    let p = header-stands s z in
    let h = ap header_size e in
    let a = ap (λ (k : ℕ). asset_size k * get_or s 5 0) e in
    let b = ap (λ (k : ℕ). entry_size k * get_or s 6 0) e in
    let w = ap (λ (k : ℕ). player_size k * 16) e in
    record {
      oldest = omega (arith, e, p.oldest);
      known = omega (arith, e, p.known);
      same = e;
      assets_at = h₁ ∙ h;
      entries_at = omega (arith, h₂, h, a);
      players_at = omega (arith, h₃, h, a, b);
      asset_count = p.assets;
      entry_count = p.entries;
      asset_room = omega (arith, p.whole, h₁, h, a);
      entry_room = omega (arith, p.whole, h₂, h, a, b);
      player_room = omega (arith, p.whole, h₃, h, a, b, w);
    }

-- what is read there is the book by that layout
pub read-there : (s : List ℕ) (v o₁ o₂ o₃ switch player started time : ℕ) (ats : List Asset) (es : List Entry) (ps : List Player)
    → Located s v o₁ o₂ o₃
    → switch ≡ added v 2 11 s → player ≡ added v 5 15 s → started ≡ added v 5 19 s → time ≡ number_at bits32 7 s
    → ats ≡ asset_table v s o₁ (get_or s 5 0) → es ≡ entry_table v s o₂ (get_or s 6 0) → ps ≡ player_table v s o₃
    → record {
      time = time;
      switch = switch;
      latest = record { player = player; started = started };
      assetcount = get_or s 5 0;
      entrycount = get_or s 6 0;
      assets = ats;
      entries = es;
      players = ps;
    } ≡ book_as (version s) s
unfolding book_as time_in version_in asset_count_in entry_count_in entries_from players_from
read-there s v o₁ o₂ o₃ switch player started time ats es ps l w x y t a e p = λ i. record {
  time = t i;
  switch = (w ∙ switch-read s v l.oldest l.known ∙ ap (λ (k : ℕ). get_or (tail_in k s) 0 0) l.same) i;
  latest = ((λ j. record { player = x j; started = y j }) ∙ latest-read s v l.oldest l.known
      ∙ ap (λ (k : ℕ). latest_of (tail_in k s)) l.same) i;
  assetcount = get_or s 5 0;
  entrycount = get_or s 6 0;
  assets = (a ∙ ap₂ (λ (k o : ℕ). asset_table k s o (get_or s 5 0)) l.same l.assets_at) i;
  entries = (e ∙ ap₂ (λ (k o : ℕ). entry_table k s o (get_or s 6 0)) l.same l.entries_at) i;
  players = (p ∙ ap₂ (λ (k o : ℕ). player_table k s o) l.same l.players_at) i;
}
