use mathlib.Core.Path.{◌≡◌, ap, ◌∙◌}
use Prim.Native.Nat.{◌<◌}
use lib.ListN.{length, get_or}
use Rattle.std.proofs.Common.{rules}
use Rattle.std.proofs.lemmas.List.{get_or_default}
use Rattle.numbers.specs.Buffer.{lay}
use Rattle.numbers.proofs.BufferLaws.{written_none, written-room, written-turn, written_all}
use Rattle.image_write.proofs.put_table.Goals as goal

pub loop-i-init : goal.loop-i-init
loop-i-init g c =
    let a = c.args in
    let r = g.T.Record in
    written_none (λ k. r.bytes (get_or a.table.now k r.none)) r.size a.buf.now a.at a.n

pub put-o-requires : goal.put-o-requires
put-o-requires g c =
    let a = c.args in
    let r = g.T.Record in
    let l = c.loop-i in
    written-room (λ k. r.bytes (get_or a.table.now k r.none)) r.size a.buf.now a.at a.n _ l.i l.o
    c.requires.1 l.invariant c.loop-i-test.true

pub loop-i-preserved : goal.loop-i-preserved
loop-i-preserved g c =
    let a = c.args in
    let r = g.T.Record in
    let l = c.loop-i in
    let p = c.put-o in
    let here : l.i < length a.table.now = search rules in
    let laid = p.ensures.1 ∙ ap (λ (x : _). lay l.buf l.o (r.bytes x)) (get_or_default a.table.now l.i _ r.none here) in
    written-turn (λ k. r.bytes (get_or a.table.now k r.none)) r.size a.buf.now a.at a.n (λ k. g.met.T.Record.even _) _ _ l.i l.o _
    c.requires.1 l.invariant
    c.loop-i-test.true p.ensures.0 laid p.auto.buf

pub returns : goal.returns
returns g c =
    let a = c.args in
    let r = g.T.Record in
    let l = c.loop-i in
    let w = written_all (λ k. r.bytes (get_or a.table.now k r.none)) r.size a.buf.now a.at a.n _ l.i l.o l.invariant
    c.loop-i-test.false in
    record { value = w.0; buf_after = w.1 }
