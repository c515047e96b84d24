-- `image_parse::book_as` meets its contract: each table is read where the sizes of the version and the counts of the header put it.
use mathlib.Core.Path.{ap, ◌∙◌}
use mathlib.Core.List.{append-nil}
use native.Mathlib.Omega.{arith}
use Rattle.model.specs.Image.{header_size, version_in, asset_table, entry_table, player_table}
use Rattle.image_parse.specs.Versions.{header-two, header-five}
use Rattle.image_parse.specs.Header.{HeaderStands, header-stands, located, read-there}
use Rattle.image_parse.proofs.book_as.Goals as goal
use Rattle.image_parse.proofs.book_as.Goals.{After-players_from-playersfrom, Start}

stands : (c : Start) → HeaderStands c.args.s.now
stands c = header-stands c.args.s.now c.requires

pub read16-v-requires : goal.read16-v-requires
read16-v-requires c = let h = stands c.before.before in omega (arith, h.start)

pub bounds-s-5 : goal.bounds-s-5
bounds-s-5 c = let h = stands c.before.before.before.before in omega (arith, h.start)

pub bounds-s-6 : goal.bounds-s-6
bounds-s-6 c = let h = stands c.before.before.before.before.before in omega (arith, h.start)

pub added32-switch-requires : goal.added32-switch-requires
added32-switch-requires c h =
    let p = stands c.before.before.before.before.before.before.before.before in
    let l = (located c.args.s.now c.requires _ _ _ _ c.read16-v.ensures c.header_size-assetsfrom.ensures.0 c.entries_from-entriesfrom.ensures.0 c.players_from-playersfrom.ensures.0) in
    let e = header-two c.read16-v.result (omega arith) in
    omega (arith, p.enough, e, ap header_size l.same)

pub added32-player-requires : goal.added32-player-requires
added32-player-requires c h = let p = stands c.before.before.before.before.before.before.before.before.before in
    let l = (located c.args.s.now c.requires _ _ _ _ c.read16-v.ensures c.header_size-assetsfrom.ensures.0 c.entries_from-entriesfrom.ensures.0 c.players_from-playersfrom.ensures.0) in
    let e = header-five c.read16-v.result (omega arith) in
    omega (arith, p.enough, e, ap header_size l.same)

pub added32-started-requires : goal.added32-started-requires
added32-started-requires c h = let p = stands c.before.before.before.before.before.before.before.before.before.before in
    let l = (located c.args.s.now c.requires _ _ _ _ c.read16-v.ensures c.header_size-assetsfrom.ensures.0 c.entries_from-entriesfrom.ensures.0 c.players_from-playersfrom.ensures.0) in
    let e = header-five c.read16-v.result (omega arith) in
    omega (arith, p.enough, e, ap header_size l.same)

pub read32-requires : goal.read32-requires
read32-requires c =
    let h = stands c.before.before.before.before.before.before.before.before.before.before.before in omega (arith, h.start)

pub overflow_cast-assets : goal.overflow_cast-assets
overflow_cast-assets c = let l = (located c.args.s.now c.requires _ _ _ _ c.read16-v.ensures c.header_size-assetsfrom.ensures.0 c.entries_from-entriesfrom.ensures.0 c.players_from-playersfrom.ensures.0) in omega (arith, l.asset_count)

pub table_in-requires : goal.table_in-requires
table_in-requires c = let l = (located c.args.s.now c.requires _ _ _ _ c.read16-v.ensures c.header_size-assetsfrom.ensures.0 c.entries_from-entriesfrom.ensures.0 c.players_from-playersfrom.ensures.0) in (omega arith, (l.oldest, l.known, l.asset_count, l.asset_room))

pub overflow_cast-entries : goal.overflow_cast-entries
overflow_cast-entries c = let l = (located c.args.s.now c.requires _ _ _ _ c.read16-v.ensures c.header_size-assetsfrom.ensures.0 c.entries_from-entriesfrom.ensures.0 c.players_from-playersfrom.ensures.0) in omega (arith, l.entry_count)

pub table_in-requires-2 : goal.table_in-requires-2
table_in-requires-2 c = let l = (located c.args.s.now c.requires _ _ _ _ c.read16-v.ensures c.header_size-assetsfrom.ensures.0 c.entries_from-entriesfrom.ensures.0 c.players_from-playersfrom.ensures.0) in
    (omega arith, (l.oldest, l.known, l.entry_count, l.entry_room))

pub table_in-requires-3 : goal.table_in-requires-3
table_in-requires-3 c = let l = (located c.args.s.now c.requires _ _ _ _ c.read16-v.ensures c.header_size-assetsfrom.ensures.0 c.entries_from-entriesfrom.ensures.0 c.players_from-playersfrom.ensures.0) in (omega arith, (l.oldest, l.known, omega arith, l.player_room))

pub returns : goal.returns
unfolding version_in asset_table entry_table player_table
returns c =
    read-there _ _ _ _ _ _ _ _ _ _ _ _ ((located c.args.s.now c.requires _ _ _ _ c.read16-v.ensures c.header_size-assetsfrom.ensures.0 c.entries_from-entriesfrom.ensures.0 c.players_from-playersfrom.ensures.0))
    c.added32-switch.ensures
    c.added32-player.ensures c.added32-started.ensures
    c.read32.ensures c.table_in.ensures c.table_in-2.ensures
    (c.table_in-3.ensures ∙ append-nil _)
