-- Books that meet the premises of demand 2, from the empty one to one of the greatest size; and the reader run on images of a
-- small book, intact and damaged, one for each of its answers. The bytes of that book are written out: a round trip alone does
-- not notice two swapped fields.
use Prim.Native.Nat.{ℕ, suc, ◌+◌, ◌*◌, ◌-◌, ◌/◌, ◌%◌, ◌<◌}
use mathlib.Core.Path.{◌≡◌, refl, sym, ap, subst, ◌∙◌}
use mathlib.Core.List.{List, [], ◌∷◌, ◌++◌, append-nil}
use native.Mathlib.Omega.{arith}
use lib.ListN.{length, get_or, set, take, drop, replicate, get_or-eq_default}
use mathlib.Core.Bool.{true}
use lib.Dec.{ltb}
use borrow.Author.Tests.{ltb-true}
use Rattle.numbers.specs.Count.{all, first, joined, listed}
use Rattle.numbers.specs.Fields.{Width, size, Fit}
use Rattle.numbers.proofs.FieldLaws.{zeros-fit}
use Rattle.numbers.proofs.Tests.{all-below}
use Rattle.numbers.proofs.TableLaws.{below_or_not, blanks, listed_at, length-listed}
use Rattle.book.specs.declared.Asset.{Asset}
use Rattle.book.specs.declared.Entry.{Entry}
use Rattle.book.specs.declared.Last.{Last}
use Rattle.book.specs.declared.Player.{Player}
use Rattle.book.specs.declared.Book.{Book}
use Rattle.book.specs.Blank.{no_asset, no_entry, no_player, no_meters, no_latest, no_book}
use Rattle.book.specs.Changed.{changed}
use Rattle.model.specs.Book.{assets_in, entries_in}
use Rattle.model.specs.Book.{Legal, Fresh}
use Rattle.model.specs.Image.{newest, header_start, header_tail, asset_widths, asset_values, entry_widths, entry_values, player_widths}
use Rattle.model.specs.Image.{player_values, header_size, asset_size, entry_size, player_size, image_length, header_bytes, asset_bytes}
use Rattle.model.specs.Image.{entry_bytes, player_bytes, image, image_as, length_of, version_in}
use Rattle.model.specs.Image.{read_code, read_book, book_in, Typed, Bytes}
use Rattle.model.proofs.Image.Header.{accepted-book, header-passed, accepted-stages}
use Rattle.model.proofs.Image.RoundTrip.{demand2}
use Rattle.model.proofs.Examples.Computes.{image_run, legal_run}

-- ## The empty book

pub no_book-legal : Legal no_book
unfolding legal_run
no_book-legal = record {
  asset_slots = refl;
  entry_slots = refl;
  player_slots = refl;
  asset_count = omega arith;
  entry_count = omega arith;
  time = omega arith;
  assets_blank = λ i h. blanks 64 i no_asset;
  entries_blank = λ i h. blanks 64 i no_entry;
  rules = refl;
}

pub no_book-typed : Typed no_book
no_book-typed = record {
  header = zeros-fit (header_tail newest);
  assets = λ i. subst (λ (x : Asset). Fit (asset_widths newest) (asset_values x)) (sym (blanks 64 i no_asset))
      (zeros-fit (asset_widths newest));
  entries = λ i. subst (λ (x : Entry). Fit (entry_widths newest) (entry_values newest x)) (sym (blanks 64 i no_entry))
      (zeros-fit (entry_widths newest));
  players = λ i. subst (λ (x : Player). Fit (player_widths newest) (player_values x)) (sym (blanks 16 i no_player))
      (zeros-fit (player_widths newest));
}

pub no_book-fresh : Fresh no_book
no_book-fresh = record {
  time = refl;
  meters = λ i. ap (λ (x : Entry). x.meters) (blanks 64 i no_entry);
  players = λ p. blanks 16 p no_player;
  latest = refl;
}

-- ## A book of the greatest size: every slot filled, every limit flagged and used up; all players have entry 63 open, and the last one's
-- event was taken last

abbrev great_asset : ℕ → Asset
great_asset i = record { number = 65535 - i; inherit = 65535; key = 1 }

abbrev great_entry : ℕ → Entry
great_entry i = record {
  limits = record {
    object = 65535;
    asset = 65535 - i;
    kind = 1 + i % 3;
    flags = 63;
    count = 1000000;
    timed = 1000000;
    timer = 1000000;
    start = 3999999990;
    end = 4000000000;
    interval = 100000000;
    accumulated = 100000000;
    tracked = 1;
    timedvalue = 4294967295;
    mark = 1;
    threshold = 16;
  };
  meters = record { count = 1000000; timed = 1000000; first = 3999999990; seconds = 100000000; started = 1; marks = i / 63 * 65535 };
}

abbrev great_player : ℕ → Player
great_player p = record {
  last = record {
    number = 18446744073709551615;
    operation = 1;
    asset = 65535;
    kind = 5;
    answer = record { code = 0; entry = 63; until = 4294967295 };
  };
  current = record { on = 1; entry = 63; begin = 3999999990; until = 4000000001; content = 65535 - p };
}

unfoldable pub greatest : Book
greatest = record {
  time = 4000000000;
  switch = 1;
  latest = record { player = 16; started = 0 };
  assetcount = 64;
  entrycount = 64;
  assets = listed great_asset 64;
  entries = listed great_entry 64;
  players = listed great_player 16;
}

pub greatest-legal : Legal greatest
unfolding legal_run greatest
greatest-legal = record {
  asset_slots = refl;
  entry_slots = refl;
  player_slots = refl;
  asset_count = omega arith;
  entry_count = omega arith;
  time = omega arith;
  assets_blank = λ i h. get_or-eq_default greatest.assets no_asset h;
  entries_blank = λ i h. get_or-eq_default greatest.entries no_entry h;
  rules = refl;
}

-- what holds at every position of a list of n, if it holds of each element listed and of the blank one
at_each : {A : Type 0} (P : A → Type 0) (f : ℕ → A) (n : ℕ) (d : A) → ((i : ℕ) → i < n → P (f i)) → P d → (i : ℕ) → P
    (get_or (listed f n) i d)
at_each P f n d each blank i =
    below_or_not i n
    (λ h. subst P (sym (ap (λ l. get_or l i d) (sym (append-nil (listed f n))) ∙ listed_at f n i d [] h)) (each i h))
    (λ h. subst P (sym (get_or-eq_default (listed f n) d (rw (length-listed) h))) blank)

pub greatest-typed : Typed greatest
unfolding greatest
greatest-typed = record {
  header = omega arith;
  assets = at_each (λ (x : Asset). Fit (asset_widths newest) (asset_values x)) great_asset 64 no_asset (λ i h. omega arith)
      (zeros-fit (asset_widths newest));
  entries = at_each (λ (x : Entry). Fit (entry_widths newest) (entry_values newest x)) great_entry 64 no_entry (λ i h. omega arith)
      (zeros-fit (entry_widths newest));
  players = at_each (λ (x : Player). Fit (player_widths newest) (player_values x)) great_player 16 no_player (λ i h. omega arith)
      (zeros-fit (player_widths newest));
}

-- the reader run on its 5,399 bytes
pub greatest-read : read_code (image greatest) ≡ 0
unfolding legal_run image_run greatest
greatest-read = refl

-- and demand 2 holds of it
pub greatest-back : read_book no_book (image greatest) ≡ greatest
greatest-back = (demand2.reads_back no_book greatest greatest-legal greatest-typed).1

pub greatest-length : length_of greatest ≡ 5399
unfolding greatest assets_in entries_in image_length header_size asset_size entry_size player_size length_of
greatest-length = refl

-- ## A small book: an asset with a parent, an entry with every limit, a print without limits, one player with an open use, whose event was
-- taken last

-- the entry with every limit, by what newer versions say of it; player 0 has it open
abbrev small_entry : ℕ → ℕ → ℕ → ℕ → Entry
small_entry tracked timedvalue mark threshold = record {
  limits = record {
    object = 1286;
    asset = 258;
    kind = 2;
    flags = 63;
    count = 10;
    timed = 11;
    timer = 12;
    start = 168496129;
    end = 168496383;
    interval = 200;
    accumulated = 100000;
    tracked = tracked;
    timedvalue = timedvalue;
    mark = mark;
    threshold = threshold;
  };
  meters = record { count = 3; timed = 4; first = 168496130; seconds = 100; started = 1; marks = 1 };
}

unfoldable pub small : Book
small = record {
  time = 168496141;
  switch = 1;
  latest = record { player = 1; started = 0 };
  assetcount = 2;
  entrycount = 2;
  assets = record { number = 258; inherit = 2; key = 1 } ∷ record { number = 2; inherit = 0; key = 0 } ∷ replicate 62 no_asset;
  entries =
      small_entry 1 505093152 1 2
      ∷ record {
        limits = record {
          object = 7;
          asset = 2;
          kind = 4;
          flags = 0;
          count = 0;
          timed = 0;
          timer = 0;
          start = 0;
          end = 0;
          interval = 0;
          accumulated = 0;
          tracked = 0;
          timedvalue = 0;
          mark = 0;
          threshold = 0;
        };
        meters = no_meters;
      }
      ∷ replicate 62 no_entry;
  players =
      record {
        last = record {
          number = 2387509390271976212;
          operation = 1;
          asset = 5398;
          kind = 3;
          answer = record { code = 0; entry = 1; until = 421141276 };
        };
        current = record { on = 1; entry = 0; begin = 168496136; until = 168496142; content = 258 };
      }
      ∷ replicate 15 no_player;
}

-- its bytes, one line for each of the header, the assets, the entries and the players
pub small_bytes : image small
    ≡ 82 ∷ 66 ∷ 75 ∷ 0 ∷ 5 ∷ 2 ∷ 2 ∷ 10 ∷ 11 ∷ 12 ∷ 13 ∷ 0 ∷ 0 ∷ 0 ∷ 1 ∷ 0 ∷ 0 ∷ 0 ∷ 1 ∷ 0 ∷ 0 ∷ 0 ∷ 0 ∷ []
    ++ 1 ∷ 2 ∷ 0 ∷ 2 ∷ 1 ∷ []
    ++ 0 ∷ 2 ∷ 0 ∷ 0 ∷ 0 ∷ []
    ++ 5 ∷ 6 ∷ 1 ∷ 2 ∷ 2 ∷ 63 ∷ 0 ∷ 0 ∷ 0 ∷ 10 ∷ 0 ∷ 0 ∷ 0 ∷ 11 ∷ 0 ∷ 0 ∷ 0 ∷ 12 ∷ 10 ∷ 11 ∷ 12 ∷ 1 ∷ 10 ∷ 11 ∷ 12 ∷ 255 ∷ 0 ∷ 0 ∷ 0 ∷
    200 ∷ 0 ∷ 1 ∷ 134 ∷ 160
    ∷ 0 ∷ 0 ∷ 0 ∷ 3 ∷ 0 ∷ 0 ∷ 0 ∷ 4 ∷ 10 ∷ 11 ∷ 12 ∷ 2 ∷ 0 ∷ 0 ∷ 0 ∷ 100 ∷ 1
    ∷ 0 ∷ 0 ∷ 0 ∷ 1 ∷ 30 ∷ 27 ∷ 28 ∷ 32 ∷ 0 ∷ 0 ∷ 0 ∷ 1
    ∷ 0 ∷ 0 ∷ 0 ∷ 2 ∷ 0 ∷ 0 ∷ 0 ∷ 1 ∷ []
    ++ 0 ∷ 7 ∷ 0 ∷ 2 ∷ 4 ∷ replicate 66 0
    ++ 33 ∷ 34 ∷ 35 ∷ 36 ∷ 17 ∷ 18 ∷ 19 ∷ 20 ∷ 1 ∷ 21 ∷ 22 ∷ 3 ∷ 0 ∷ 1 ∷ 25 ∷ 26 ∷ 27 ∷ 28 ∷ 1 ∷ 0 ∷ 10 ∷ 11 ∷ 12 ∷ 8 ∷ 10 ∷ 11 ∷ 12 ∷ 14
    ∷ 0 ∷ 0 ∷ 1 ∷ 2 ∷ []
    ++ replicate 480 0
unfolding small joined header_bytes asset_bytes entry_bytes player_bytes assets_in entries_in image
small_bytes = refl

-- ## Its image damaged, by record and field

-- the last byte of field k of a record, counted from its start; fields are counted from 0, in the order of the layout
abbrev last_byte : List Width → ℕ → ℕ
last_byte ws k = size (take (suc k) ws) - 1

abbrev in_header : ℕ → ℕ
in_header k = last_byte header_start k

-- what versions added to it
abbrev in_tail : ℕ → ℕ
in_tail k = size header_start + last_byte (header_tail newest) k

abbrev in_asset : ℕ → ℕ → ℕ
in_asset i k = header_size newest + asset_size newest * i + last_byte (asset_widths newest) k

abbrev in_entry : ℕ → ℕ → ℕ
in_entry i k = header_size newest + asset_size newest * 2 + entry_size newest * i + last_byte (entry_widths newest) k

abbrev in_player : ℕ → ℕ → ℕ
in_player p k = header_size newest + asset_size newest * 2 + entry_size newest * 2 + player_size newest * p + last_byte (player_widths newest) k

-- the reader's answer with one byte of the image changed
abbrev with : ℕ → ℕ → ℕ
with k v = read_code (set (image small) k v)

abbrev set_header : ℕ → ℕ → ℕ
set_header k v = with (in_header k) v

abbrev set_tail : ℕ → ℕ → ℕ
set_tail k v = with (in_tail k) v

abbrev set_asset : ℕ → ℕ → ℕ → ℕ
set_asset i k v = with (in_asset i k) v

abbrev set_entry : ℕ → ℕ → ℕ → ℕ
set_entry i k v = with (in_entry i k) v

abbrev set_player : ℕ → ℕ → ℕ → ℕ
set_player p k v = with (in_player p k) v

-- one group for each of 20 to 25, three for 26, one for 27; the last are accepted, most of them exactly at a bound, three with a flagged
-- limit of 0, one with a content that has no key. A count or timed count set to 0 where some was used is 27, an interval set to 0 under
-- an open use 26.
pub damaged :
    (read_code (take 10 (image small)) ∷ read_code (take (length_of small - 1) (image small)) ∷ read_code (image small ++ (0 ∷ []))
    ∷ set_header 5 1 ∷ [])
    ∷ (set_header 0 83 ∷ set_header 1 75 ∷ set_header 2 66 ∷ read_code (replicate 11 0) ∷ [])
    ∷ (with (in_header 3 - 1) 1 ∷ set_header 3 0 ∷ set_header 3 (suc newest) ∷ [])
    ∷ (set_header 4 65 ∷ set_header 5 65 ∷ with (in_header 6 - 3) 239 ∷ [])
    ∷ (set_asset 0 2 2 ∷ with (in_asset 1 0 - 1) 1 ∷ set_asset 1 0 0 ∷ [])
    ∷ (set_entry 0 2 0 ∷ set_entry 0 2 4 ∷ set_entry 0 2 6 ∷ set_entry 0 3 64 ∷ set_entry 0 8 0 ∷ set_entry 1 0 0
    ∷ set_entry 1 1 9 ∷ set_entry 1 2 0 ∷ set_entry 1 4 1 ∷ set_entry 1 5 1 ∷ set_entry 1 9 1
    ∷ set_entry 0 16 0 ∷ set_entry 0 16 2 ∷ set_entry 0 18 2 ∷ set_entry 1 16 2 ∷ set_entry 1 17 1 ∷ set_entry 1 18 1
    ∷ set_entry 0 19 17 ∷ set_entry 1 19 17 ∷ with (in_entry 0 19 - 1) 1 ∷ [])
    ∷ (set_player 0 1 2 ∷ set_player 0 1 4 ∷ set_player 0 3 0 ∷ set_player 0 3 6 ∷ set_player 0 4 9 ∷ set_player 0 4 16
    ∷ set_player 0 4 10 ∷ set_player 0 5 2 ∷ set_player 0 7 0 ∷ set_player 0 7 2 ∷ set_player 0 8 1 ∷ set_player 0 8 2
    ∷ set_player 1 1 1 ∷ set_player 1 11 1 ∷ set_player 0 11 3 ∷ set_player 0 1 5 ∷ [])
    ∷ (set_tail 0 2 ∷ set_tail 1 2 ∷ set_tail 1 17 ∷ with (in_tail 1 - 3) 1 ∷ set_tail 2 1 ∷ set_tail 2 2 ∷ with (in_tail 2 - 3) 1 ∷ [])
    ∷ (set_player 0 9 14 ∷ set_player 0 10 13 ∷ set_player 0 10 74 ∷ set_entry 0 7 9 ∷ set_entry 0 8 12 ∷ set_entry 0 13 9
    ∷ set_entry 0 9 11 ∷ set_entry 0 15 0 ∷ set_entry 0 9 0 ∷ [])
    ∷ (set_entry 0 4 0 ∷ set_entry 0 5 0 ∷ set_entry 0 11 0 ∷ set_entry 0 11 11 ∷ set_entry 0 12 0 ∷ set_entry 0 12 12
    ∷ set_entry 0 14 5 ∷ with (in_entry 0 14 - 3) 1
    ∷ set_entry 1 15 1 ∷ set_entry 0 20 0 ∷ set_entry 0 20 2 ∷ set_entry 0 20 3 ∷ set_entry 1 20 1 ∷ with (in_entry 0 20 - 2) 1 ∷ [])
    ∷ (read_code (image small) ∷ set_player 0 9 13 ∷ set_player 0 10 73 ∷ set_entry 0 7 8 ∷ set_entry 0 8 13 ∷ set_entry 0 13 8
    ∷ set_entry 0 9 12 ∷ set_entry 0 11 10 ∷ set_entry 0 12 11 ∷ set_entry 0 14 6 ∷ set_player 0 5 0 ∷ set_entry 1 3 1
    ∷ set_entry 1 3 2 ∷ set_entry 1 3 16 ∷ set_entry 0 17 0 ∷ set_entry 0 18 0 ∷ set_entry 1 16 1 ∷ with (in_player 0 11 - 1) 0
    ∷ set_tail 0 0 ∷ set_tail 1 0 ∷ set_entry 0 19 0 ∷ set_entry 0 19 1 ∷ set_entry 0 19 16 ∷ set_entry 1 19 16 ∷ [])
    ∷ []
    ≡ replicate 4 20
    ∷ replicate 4 21
    ∷ replicate 3 22
    ∷ replicate 3 23
    ∷ replicate 3 24
    ∷ replicate 20 25
    ∷ replicate 16 26
    ∷ replicate 7 26
    ∷ replicate 9 26
    ∷ replicate 14 27
    ∷ replicate 24 0
    ∷ []
unfolding legal_run image_run small
damaged = refl

-- the reader's answer with two bytes of the image changed
abbrev both : ℕ → ℕ → ℕ → ℕ → ℕ
both i v j w = read_code (set (set (image small) i v) j w)

-- if two neighbouring stages fail, the first is reported, from "20 wrong length, 24 asset rules" on; the header's are in `BetweenRules`.
-- The switch and the event taken last are judged with the players: after the entries, before the meters.
pub two-faults :
    read_code (take (length_of small - 1) (set (image small) (in_asset 0 2) 2))
    ∷ both (in_asset 0 2) 2 (in_entry 0 2) 0
    ∷ both (in_entry 0 2) 0 (in_player 0 1) 4
    ∷ both (in_player 0 1) 4 (in_entry 0 11) 11
    ∷ both (in_entry 0 2) 0 (in_tail 0) 2
    ∷ both (in_tail 0) 2 (in_entry 0 11) 11
    ∷ both (in_entry 0 2) 0 (in_tail 1) 2
    ∷ both (in_tail 1) 2 (in_entry 0 11) 11
    ∷ both (in_entry 0 19) 17 (in_player 0 1) 4
    ∷ both (in_player 0 1) 4 (in_entry 0 20) 3
    ∷ []
    ≡ 20 ∷ 24 ∷ 25 ∷ 26 ∷ 25 ∷ 26 ∷ 25 ∷ 26 ∷ 25 ∷ 26 ∷ []
unfolding legal_run image_run small
two-faults = refl

-- ## Its images of older versions, which have no event taken last; up to version 3 they have no threshold, and the marks are set from the
-- open use

-- versions 1 and 2 have the lower 32 bits of the number; version 1 has no switch, track and content either
abbrev older_last : Last
older_last = record {
  number = 286397204;
  operation = 1;
  asset = 5398;
  kind = 3;
  answer = record { code = 0; entry = 1; until = 421141276 };
}

abbrev older : Book
older = record {
  time = small.time;
  switch = 0;
  latest = no_latest;
  assetcount = 2;
  entrycount = 2;
  assets = small.assets;
  entries = small_entry 0 0 0 0 ∷ drop 1 small.entries;
  players =
      record {
        last = older_last;
        current = record { on = 1; entry = 0; begin = 168496136; until = 168496142; content = 0 };
      }
      ∷ replicate 15 no_player;
}

-- 11 + 5 * 2 + 51 * 2 + 384 bytes
pub older-length : length (image_as 1 small) ≡ 507
unfolding image_as image_run small
older-length = refl

pub older-read : read_code (image_as 1 small) ≡ 0
unfolding image_as legal_run image_run small
older-read = refl

pub older-book : book_in (image_as 1 small) ≡ older
unfolding image_as image_run small
older-book = refl

-- the book of its image of version 2 or 3: without the threshold, and with these players
abbrev until_third : List Player → Book
until_third players = record {
  time = small.time;
  switch = 1;
  latest = no_latest;
  assetcount = 2;
  entrycount = 2;
  assets = small.assets;
  entries = small_entry 1 505093152 1 0 ∷ drop 1 small.entries;
  players = players;
}

abbrev second : Book
second = until_third
    (record { last = older_last; current = record { on = 1; entry = 0; begin = 168496136; until = 168496142; content = 258 } }
    ∷ replicate 15 no_player)

-- 15 + 5 * 2 + 63 * 2 + 448 bytes
pub second-length : length (image_as 2 small) ≡ 599
unfolding image_as image_run small
second-length = refl

pub second-read : read_code (image_as 2 small) ≡ 0
unfolding image_as legal_run image_run small
second-read = refl

pub second-book : book_in (image_as 2 small) ≡ second
unfolding image_as image_run small
second-book = refl

-- 15 + 5 * 2 + 63 * 2 + 512 bytes
pub third-length : length (image_as 3 small) ≡ 663
unfolding image_as image_run small
third-length = refl

pub third-read : read_code (image_as 3 small) ≡ 0
unfolding image_as legal_run image_run small
third-read = refl

pub third-book : book_in (image_as 3 small) ≡ until_third small.players
unfolding image_as image_run small
third-book = refl

-- 15 + 5 * 2 + 71 * 2 + 512 bytes
pub fourth-length : length (image_as 4 small) ≡ 679
unfolding image_as image_run small
fourth-length = refl

pub fourth-read : read_code (image_as 4 small) ≡ 0
unfolding image_as legal_run image_run small
fourth-read = refl

pub fourth-book : book_in (image_as 4 small) ≡ changed small small.time no_latest small.entries small.players
unfolding image_as image_run small
fourth-book = refl

-- ## What an older version can say: the premises of `Demand2.reads_as` are met by what was read from one

bytes_of : (s : List ℕ) → all (λ k. ltb (get_or s k 0) 256) (length s) ≡ true → Bytes s
bytes_of s e k =
    below_or_not k (length s)
    (λ h. ltb-true (get_or s k 0) 256 (all-below _ (length s) e k h))
    (λ h. rw (get_or-eq_default s 0 h) (omega arith))

module _ (s : List ℕ) (b : Bytes s) (e : read_code s ≡ 0) where
  abbrev read : Book
  read = read_book no_book s

  -- laid out again by the version of its image, and read again
  read_again : (read_code (image_as (version_in s) read) ≡ 0) × (read_book no_book (image_as (version_in s) read) ≡ read)
  read_again =
      let p = header-passed s (accepted-stages s e).0 in
      demand2.reads_as no_book read (version_in s) p.oldest p.known (demand2.accepted_legal no_book s b e).0
      (demand2.said no_book s b e)

older-bytes : Bytes (image_as 1 small)
unfolding all image_as image_run small
older-bytes = bytes_of (image_as 1 small) refl

older-version : version_in (image_as 1 small) ≡ 1
unfolding image_as image_run small
older-version = refl

pub older-again : (read_code (image_as 1 older) ≡ 0) × (read_book no_book (image_as 1 older) ≡ older)
older-again =
    subst (λ (v : ℕ). (read_code (image_as v older) ≡ 0) × (read_book no_book (image_as v older) ≡ older)) older-version
    (subst (λ (x : Book). (read_code (image_as (version_in (image_as 1 small)) x) ≡ 0) × (read_book no_book (image_as
    (version_in (image_as 1 small)) x) ≡ x)) (accepted-book no_book (image_as 1 small) older-read ∙ older-book)
    (read_again (image_as 1 small) older-bytes older-read))
