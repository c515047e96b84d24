-- `write` meets its contract: without room the answer is 30 and nothing is written; with room the four parts are written, one
-- after another.
use mathlib.Core.Path.{◌≡◌, refl, sym, ap, ap₂, ◌∙◌}
use Prim.Native.Nat.{ℕ, ◌+◌, ◌*◌, ◌<◌, ◌≤◌}
use mathlib.Core.List.{◌++◌}
use native.Mathlib.Omega.{arith}
use borrow.Author.Rules.{rules}
use borrow.Author.Tests.{le-leb, lt-leb}
use lib.ListN.{length}
use Rattle.numbers.specs.Buffer.{lay}
use Rattle.model.specs.Book.{assets_in, entries_in}
use Rattle.model.specs.Image.{newest, header_size, asset_size, entry_size, player_size, image_length, length_of, write_answer, write_buffer}
use Rattle.image_pieces.specs.Pieces.{start_bytes, number_bytes, latest_bytes, header-pieces}
use Rattle.image_write.specs.Laid.{with_header, with_assets, with_entries, with_players, entries_from, players_from, length-is}
use Rattle.image_write.specs.Laid.{counted, laid-image}
use Rattle.image_write.proofs.write.Goals as goal

pub returns-then-buf-image_length : goal.returns-then-buf-image_length
unfolding write_answer write_buffer
returns-then-buf-image_length c =
    let a = c.args in
    let short : length a.buf.now < length_of a.b.now =
    omega (arith, c.if-buf-image_length.true, c.image_length.ensures ∙ counted a.b.now) in
    record { value = (short, rw (lt-leb _ _ short) refl); buf_after = rw (lt-leb _ _ short) refl; kept = refl }

pub put_header-o-requires : goal.put_header-o-requires
unfolding image_length header_size asset_size entry_size player_size
put_header-o-requires c = search rules

pub put_table-o-requires : goal.put_table-o-requires
unfolding image_length header_size asset_size entry_size player_size
put_table-o-requires c = search rules

pub put_table-o-requires-2 : goal.put_table-o-requires-2
unfolding image_length header_size asset_size entry_size player_size
put_table-o-requires-2 c = search rules

pub put_table-requires : goal.put_table-requires
unfolding image_length header_size asset_size entry_size player_size
put_table-requires c = search rules

pub returns : goal.returns
unfolding write_answer write_buffer header_size asset_size entry_size player_size assets_in entries_in
returns c =
    let at-players = c.before in
    let at-entries = at-players.before in
    let at-assets = at-entries.before in
    let at-header = at-assets.before in
    let at_count = at-header.before in
    let at_test = at_count.before in
    let at_length = at_test.before in
    let a = at_length.args in
    let b = a.b.now in
    let old = a.buf.now in
    let na : at_count.at_most_64-a.result ≡ assets_in b = at_count.at_most_64-a.ensures in
    let ne : at_count.at_most_64-n.result ≡ entries_in b = at_count.at_most_64-n.ensures in
    let ph = at-header.put_header-o in
    let pa = at-assets.put_table-o in
    let pe = at-entries.put_table-o-2 in
    let pp = at-players.put_table in
    let fits : length_of b ≤ length old =
    omega (arith, at_test.if-buf-image_length.false, at_length.image_length.ensures ∙ counted b) in
    let room : players_from b + player_size newest * 16 ≤ length old = rw (length-is b) at fits in
    let head = ap₂ (λ (n m : ℕ). start_bytes n m b.time ++ number_bytes b.switch ++ latest_bytes b.latest) na ne
    ∙ header-pieces (assets_in b) (entries_in b) b in
    let o₁ : ph.result ≡ header_size newest = ph.ensures.value in
    let o₂ : pa.result ≡ entries_from b = pa.ensures.value ∙ (rw (o₁, na) refl) in
    let o₃ : pe.result ≡ players_from b = pe.ensures.value ∙ (rw (o₂, ne) refl) in
    let one : ph.new.buf ≡ with_header b old = ph.ensures.buf_after ∙ ap (lay old 0) head in
    let two : pa.new.buf ≡ with_assets b old = pa.ensures.buf_after ∙ (rw (one, o₁, na) refl) in
    let three : pe.new.buf ≡ with_entries b old = pe.ensures.buf_after ∙ (rw (two, o₂, ne) refl) in
    let four : pp.new.buf ≡ with_players b old = pp.ensures.buf_after ∙ (rw (three, o₃) refl) in
    record {
      value = (fits, rw (le-leb _ _ fits) (sym (pp.ensures.value ∙ ap (λ (k : ℕ). k + player_size newest * 16) o₃ ∙ sym (length-is b))));
      buf_after = rw (le-leb _ _ fits) (four ∙ laid-image b old room);
      kept = tt;
    }
