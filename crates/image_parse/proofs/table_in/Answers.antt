use mathlib.Core.Path.{ap}
use lib.ListN.{replicate}
use Rattle.image_parse.specs.Tables.{read_none, read-room, read-turn, read_all, part_room}
use Rattle.image_parse.proofs.table_in.Goals as goal

pub loop-i-init : goal.loop-i-init
loop-i-init g c =
    let a = c.args in
    let r = g.T.Record in
    read_none (r.held a.v) r.none g.row.N (r.bytes a.v) a.at a.n a.s.now _ (ap (replicate g.row.N) c.blank-table.ensures)

pub loop-i-preserved : goal.loop-i-preserved
loop-i-preserved g c =
    let a = c.args in
    let r = g.T.Record in
    let l = c.loop-i in
    read-turn (r.held a.v) r.none g.row.N (r.bytes a.v) a.at a.n a.s.now _ _ l.i l.o _
    c.requires.2 l.invariant c.loop-i-test.true c.width-width.ensures.0 c.read.ensures

pub returns : goal.returns
returns g c =
    let a = c.args in
    let r = g.T.Record in
    let l = c.loop-i in
    read_all (r.held a.v) r.none g.row.N (r.bytes a.v) a.at a.n a.s.now _ l.i l.o l.invariant c.loop-i-test.false
