-- Records by version: where each field is read, and the least number of bytes. A new version is a case of `by-version`.
use Rattle.std.specs.Prelude.{ℕ, ◌+◌, ◌≤◌, ◌≡◌, true, cond, List, leb, get_or}
use Rattle.std.proofs.Math.Path.{refl}
use Rattle.std.proofs.Common.{le-leb, arith}
use Rattle.numbers.specs.Fields.{bits8, bits16, bits32, number_at}
use Rattle.numbers.proofs.Tests.{on_test}
use Rattle.book.specs.declared.Asset.{Asset}
use Rattle.book.specs.declared.Limits.{Limits}
use Rattle.book.specs.declared.Meters.{Meters}
use Rattle.book.specs.declared.Last.{Last}
use Rattle.book.specs.declared.Latest.{Latest}
use Rattle.book.specs.declared.Open.{Open}
use Rattle.model.specs.Image.{newest, number_width, header_size, asset_size, entry_size, player_size, asset_in, entry_in, player_in}
use Rattle.model.specs.Image.{tail_in}
use Rattle.model.proofs.Image.Header.{by-version}

-- ## Where each field is read

-- a number that a version added
abbrev pub added : ℕ → ℕ → ℕ → List ℕ → ℕ
added v first at s = cond (leb first v) (number_at bits32 at s) 0

abbrev pub asset_read : ℕ → List ℕ → Asset
asset_read v s = record { number = number_at bits16 0 s; inherit = number_at bits16 2 s; key = number_at bits8 4 s }

abbrev pub limits_read : ℕ → List ℕ → Limits
limits_read v s = record {
  object = number_at bits16 0 s;
  asset = number_at bits16 2 s;
  kind = number_at bits8 4 s;
  flags = number_at bits8 5 s;
  count = number_at bits32 6 s;
  timed = number_at bits32 10 s;
  timer = number_at bits32 14 s;
  start = number_at bits32 18 s;
  end = number_at bits32 22 s;
  interval = number_at bits32 26 s;
  accumulated = number_at bits32 30 s;
  tracked = added v 2 51 s;
  timedvalue = added v 2 55 s;
  mark = added v 2 59 s;
  threshold = added v 4 63 s;
}

abbrev pub meters_read : ℕ → List ℕ → Meters
meters_read v s = record {
  count = number_at bits32 34 s;
  timed = number_at bits32 38 s;
  first = number_at bits32 42 s;
  seconds = number_at bits32 46 s;
  started = number_at bits8 50 s;
  marks = added v 4 67 s;
}

-- from version 3 on a player's number has 4 bytes more, and what follows it is 4 bytes further on
abbrev pub wider : ℕ → ℕ
wider v = cond (leb 3 v) 4 0

abbrev pub last_read : ℕ → List ℕ → Last
last_read v s = record {
  number = number_at (number_width v) 0 s;
  operation = number_at bits8 (4 + wider v) s;
  asset = number_at bits16 (5 + wider v) s;
  kind = number_at bits8 (7 + wider v) s;
  answer = record {
    code = number_at bits8 (8 + wider v) s;
    entry = number_at bits8 (9 + wider v) s;
    until = number_at bits32 (10 + wider v) s;
  };
}

-- the event taken last, in the values behind the start of the header
abbrev pub latest_of : List ℕ → Latest
latest_of vs = record { player = get_or vs 1 0; started = get_or vs 2 0 }

abbrev pub open_read : ℕ → List ℕ → Open
open_read v s = record {
  on = number_at bits8 (14 + wider v) s;
  entry = number_at bits8 (15 + wider v) s;
  begin = number_at bits32 (16 + wider v) s;
  until = number_at bits32 (20 + wider v) s;
  content = added v 2 (24 + wider v) s;
}

module _ (s : List ℕ) (v : ℕ) (h : 1 ≤ v) (k : v ≤ newest) where
  pub asset-read : asset_read v s ≡ asset_in v s
  unfolding asset_in
  asset-read = by-version (λ v. asset_read v s ≡ asset_in v s) refl refl refl refl refl v h k

  pub limits-read : limits_read v s ≡ (entry_in v s).limits
  unfolding entry_in
  limits-read = by-version (λ v. limits_read v s ≡ (entry_in v s).limits) refl refl refl refl refl v h k

  pub meters-read : meters_read v s ≡ (entry_in v s).meters
  unfolding entry_in
  meters-read = by-version (λ v. meters_read v s ≡ (entry_in v s).meters) refl refl refl refl refl v h k

  pub last-read : last_read v s ≡ (player_in v s).last
  unfolding player_in
  last-read = by-version (λ v. last_read v s ≡ (player_in v s).last) refl refl refl refl refl v h k

  pub open-read : open_read v s ≡ (player_in v s).current
  unfolding player_in
  open-read = by-version (λ v. open_read v s ≡ (player_in v s).current) refl refl refl refl refl v h k

  pub latest-read : record { player = added v 5 15 s; started = added v 5 19 s } ≡ latest_of (tail_in v s)
  latest-read =
      by-version (λ v. record { player = added v 5 15 s; started = added v 5 19 s } ≡ latest_of (tail_in v s)) refl refl refl refl refl v h k

  pub switch-read : added v 2 11 s ≡ get_or (tail_in v s) 0 0
  switch-read = by-version (λ v. added v 2 11 s ≡ get_or (tail_in v s) 0 0) refl refl refl refl refl v h k

-- ## What a version adds is there

pub header-two : (v : ℕ) → 2 ≤ v → 15 ≤ header_size v
unfolding header_size
header-two v h = on_test (leb 5 v) (λ z. rw (z, le-leb 2 v h) (omega arith)) (λ z. rw (z, le-leb 2 v h) (omega arith))

pub header-five : (v : ℕ) → 5 ≤ v → header_size v ≡ 23
unfolding header_size
header-five v h = let two : leb 2 v ≡ true = le-leb 2 v (omega arith) in rw (two, le-leb 5 v h)

pub entry-two : (v : ℕ) → 2 ≤ v → 63 ≤ entry_size v
unfolding entry_size
entry-two v h = on_test (leb 4 v) (λ z. rw (z, le-leb 2 v h) (omega arith)) (λ z. rw (z, le-leb 2 v h) (omega arith))

pub entry-four : (v : ℕ) → 4 ≤ v → entry_size v ≡ 71
unfolding entry_size
entry-four v h = let two : leb 2 v ≡ true = le-leb 2 v (omega arith) in rw (two, le-leb 4 v h)

pub player-two : (v : ℕ) → 2 ≤ v → player_size v ≡ 28 + wider v
unfolding player_size
player-two v h = on_test (leb 3 v) (λ z. rw (z, le-leb 2 v h)) (λ z. rw (z, le-leb 2 v h))

-- ## The fields that every version has are there

module _ (v : ℕ) (h : 1 ≤ v) (k : v ≤ newest) where
  pub header-least : 11 ≤ header_size v
  unfolding header_size
  header-least = by-version (λ v. 11 ≤ header_size v) (omega arith) (omega arith) (omega arith) (omega arith) (omega arith) v h k

  pub asset-least : 5 ≤ asset_size v
  unfolding asset_size
  asset-least = by-version (λ v. 5 ≤ asset_size v) (omega arith) (omega arith) (omega arith) (omega arith) (omega arith) v h k

  pub entry-least : 51 ≤ entry_size v
  unfolding entry_size
  entry-least = by-version (λ v. 51 ≤ entry_size v) (omega arith) (omega arith) (omega arith) (omega arith) (omega arith) v h k

  pub player-least : 24 + wider v ≤ player_size v
  unfolding player_size
  player-least = by-version (λ v. 24 + wider v ≤ player_size v) (omega arith) (omega arith) (omega arith) (omega arith) (omega arith) v h k
