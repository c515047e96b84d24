-- `xml_values::duration_of` meets its contract: saturation changes no sum within the bound.
use Prim.Native.Nat.{ℕ, ◌+◌, ◌*◌, ◌≤◌, min}
use mathlib.Core.Path.{◌≡◌, refl, ap, ◌∙◌}
use mathlib.Core.List.{List}
use Rattle.std.specs.Prelude.{unwrap_or}
use mathlib.Core.Bool.{Bool, true, false, cond}
use native.Mathlib.Omega.{arith}
use lib.Dec.{eqb}
use borrow.Author.Tests.{leb-true}
use Rattle.numbers.proofs.Tests.{and_right}
use Rattle.model.specs.Book.{most_seconds}
use Rattle.xml_model.specs.declared.Piece as P
use Rattle.xml_model.specs.Shapes.{Piece}
use Rattle.xml_model.specs.Codes.{as_piece}
use Rattle.xml_model.specs.Bytes.{byte_at}
use Rattle.xml_model.specs.Values.{piece_at, duration_formed, duration_of}
use Rattle.xml_values.specs.Saturated.{ceiling, saturated}
use Rattle.xml_values.proofs.Numbers.{same-duration}
use Rattle.xml_values.proofs.duration_of.Goals as goal

picked : (w : Bool) (x : ℕ) {n : ℕ} → n ≡ cond w x 0 → n ≤ x
picked true x e = omega arith
picked false x e = omega arith

pub overflow_add-n : goal.overflow_add-n
overflow_add-n c =
    let x = c.unwrap_or.result * 3600 + c.unwrap_or-2.result * 60 + c.unwrap_or-3.result in
    omega (
      arith,
      c.unwrap_or.ensures,
      c.unwrap_or-2.ensures,
      c.unwrap_or-3.ensures,
      c.unwrap_or-4.ensures,
      c.piece_at-d.ensures.number_le_ceiling.0,
      c.piece_at-h.ensures.number_le_ceiling.0,
      c.piece_at-m.ensures.number_le_ceiling.0,
      c.piece_at-s.ensures.number_le_ceiling.0,
      picked (eqb c.byte_at-timed.result 84) x c.pick.ensures,
    )

pub value_if-requires : goal.value_if-requires
value_if-requires c = λ h.
    let n = c.unwrap_or-4.result * 86400 + c.pick.result in
    omega (arith, leb-true n most_seconds (and_right c.duration_formed.result _ h))

formed_same : (v : List ℕ) (d h m s : Piece)
    → duration_formed v (saturated d) (saturated h) (saturated m) (saturated s) ≡ duration_formed v d h m s
unfolding duration_formed saturated
formed_same v d h m s = refl

next : (p : P.Piece) (q : Piece) → as_piece p ≡ saturated q → p.next ≡ q.next
unfolding saturated
next p q e = ap (λ (x : Piece). x.next) e

number : (p : P.Piece) (q : Piece) → as_piece p ≡ saturated q → unwrap_or p.number 0 ≡ min q.number ceiling
unfolding saturated
number p q e = ap (λ (x : Piece). x.number) e

pub returns : goal.returns
unfolding duration_of
returns c =
    let v = c.args.v.now in
    let d = piece_at v 68 1 in
    let h = piece_at v 72 (d.next + 1) in
    let m = piece_at v 77 h.next in
    let s = piece_at v 83 m.next in
    let d' : as_piece c.piece_at-d.result ≡ saturated d = c.piece_at-d.ensures.value in
    let dn : c.piece_at-d.result.next ≡ d.next = next _ d d' in
    let h' : as_piece c.piece_at-h.result ≡ saturated h = rw dn at c.piece_at-h.ensures.value in
    let hn : c.piece_at-h.result.next ≡ h.next = next _ h h' in
    let m' : as_piece c.piece_at-m.result ≡ saturated m = rw hn at c.piece_at-m.ensures.value in
    let mn : c.piece_at-m.result.next ≡ m.next = next _ m m' in
    let s' : as_piece c.piece_at-s.result ≡ saturated s = rw mn at c.piece_at-s.ensures.value in
    let dv : c.unwrap_or-4.result ≡ min d.number ceiling = c.unwrap_or-4.ensures ∙ number _ d d' in
    let hv : c.unwrap_or.result ≡ min h.number ceiling = c.unwrap_or.ensures ∙ number _ h h' in
    let mv : c.unwrap_or-2.result ≡ min m.number ceiling = c.unwrap_or-2.ensures ∙ number _ m m' in
    let sv : c.unwrap_or-3.result ≡ min s.number ceiling = c.unwrap_or-3.ensures ∙ number _ s s' in
    rw (c.value_if.ensures, c.duration_formed.ensures, c.pick.ensures, c.byte_at-timed.ensures, dv, hv, mv, sv, s', m', h', d', formed_same v d h m s, dn)
    (same-duration (duration_formed v d h m s) (eqb (byte_at v d.next) 84) d.number h.number m.number s.number)
