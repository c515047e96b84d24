-- The four parts of an image, written into a buffer one after another, give the image followed by the rest of the buffer.
use Rattle.std.specs.Prelude.{◌≡◌, ℕ, ◌+◌, ◌*◌, ◌≤◌, min, List, ◌++◌, get_or, drop}
use Rattle.std.proofs.Math.Path.{refl}
use Rattle.std.proofs.Common.{◌∙◌, arith}
use Rattle.std.proofs.Math.ListN.{length, length-append}
use Rattle.numbers.specs.Count.{joined}
use Rattle.numbers.specs.Buffer.{lay}
use Rattle.numbers.proofs.BufferLaws.{lay-front, lay-lay}
use Rattle.numbers.proofs.TableLaws.{length-joined}
use Rattle.book.specs.declared.Book.{Book}
use Rattle.book.specs.Blank.{no_entry}
use Rattle.model.specs.Book.{asset_at, player_at, assets_in, entries_in}
use Rattle.model.specs.Image.{header_bytes, asset_bytes, entry_bytes, player_bytes, image, newest, header_size, asset_size, entry_size, player_size}
use Rattle.model.specs.Image.{image_length, length_of}
use Rattle.image_pieces.specs.Pieces.{header-length, asset-length, entry_length, player-length}

module _ (b : Book) where
  abbrev pub header : List ℕ
  header = header_bytes (assets_in b) (entries_in b) b

  abbrev pub assets : List ℕ
  assets = joined (λ i. asset_bytes (asset_at b.assets i)) (assets_in b)

  abbrev pub entries : List ℕ
  entries = joined (λ i. entry_bytes (get_or b.entries i no_entry)) (entries_in b)

  abbrev pub players : List ℕ
  players = joined (λ p. player_bytes (player_at b.players p)) 16

  -- where a part begins
  abbrev pub entries_from : ℕ
  entries_from = header_size newest + asset_size newest * assets_in b

  abbrev pub players_from : ℕ
  players_from = entries_from + entry_size newest * entries_in b

  -- by the counts alone, which is all that the code looks at
  pub counted : image_length newest (min b.assetcount 64) (min b.entrycount 64) ≡ length_of b
  unfolding length_of assets_in entries_in
  counted = refl

  pub length-is : length_of b ≡ players_from + player_size newest * 16
  unfolding length_of image_length
  length-is = refl

  length-header : length header ≡ header_size newest
  length-header = header-length (assets_in b) (entries_in b) b

  length-assets : length assets ≡ asset_size newest * assets_in b
  length-assets = length-joined (λ i. asset_bytes (asset_at b.assets i)) (asset_size newest) (λ i. asset-length _) (assets_in b)

  length-entries : length entries ≡ entry_size newest * entries_in b
  length-entries = length-joined (λ i. entry_bytes (get_or b.entries i no_entry)) (entry_size newest) (λ i. entry_length _) (entries_in b)

  length-players : length players ≡ player_size newest * 16
  length-players = length-joined (λ p. player_bytes (player_at b.players p)) (player_size newest) (λ p. player-length _) 16

  pub length-image : length (image b) ≡ length_of b
  unfolding image
  length-image =
      rw (length-is, length-append, length-append, length-append, length-header, length-assets, length-entries, length-players) refl

  -- the buffer after each part
  module _ (old : List ℕ) where
    abbrev pub with_header : List ℕ
    with_header = lay old 0 header

    abbrev pub with_assets : List ℕ
    with_assets = lay with_header (header_size newest) assets

    abbrev pub with_entries : List ℕ
    with_entries = lay with_assets entries_from entries

    abbrev pub with_players : List ℕ
    with_players = lay with_entries players_from players

    pub laid-image : players_from + player_size newest * 16 ≤ length old → with_players ≡ image b ++ drop (length_of b) old
    unfolding image
    laid-image room =
        let h = length-header in
        let a = length-assets in
        let e = length-entries in
        let p = length-players in
        let ha : length (header ++ assets) ≡ entries_from = rw (length-append, h, a) refl in
        let hae : length (header ++ assets ++ entries) ≡ players_from = rw (length-append, ha, e) refl in
        let one : with_assets ≡ lay old 0 (header ++ assets) = lay-lay old 0 header assets (header_size newest) (omega arith) (omega arith) in
        let two : with_entries ≡ lay old 0 (header ++ assets ++ entries) =
        rw (one) (lay-lay old 0 (header ++ assets) entries entries_from (omega arith) (omega arith)) in
        let three : with_players ≡ lay old 0 (header ++ assets ++ entries ++ players) =
        rw (two) (lay-lay old 0 (header ++ assets ++ entries) players players_from (omega arith) (omega arith)) in
        three ∙ lay-front old (image b) (length_of b) length-image
