-- `put` lays the source into the buffer: the part that is written is as long as the source.
use mathlib.Core.Path.{◌≡◌, refl, sym, ap, ◌∙◌}
use mathlib.Core.List.{List, ◌++◌, append_assoc}
use Prim.Native.Nat.{ℕ, ◌+◌}
use native.Mathlib.Omega.{arith}
use lib.ListN.{length, take, drop}
use lib.Seq.{drop-drop}
use borrow.Rule.Slice.PartMut.{put_mid}
use Rattle.numbers.specs.Buffer.{lay}
use Rattle.image_write.proofs.put.Goals as goal

part-laid : (l s t : List ℕ) (at k : ℕ) → k ≡ length s → t ≡ s → put_mid at k l t ≡ lay l at s
unfolding lay
part-laid l s t at k n e =
    rw (n, e) (
    ap (λ (x : List ℕ). take at l ++ (s ++ x)) (drop-drop (length s) at l)
    ∙ sym (append_assoc (take at l) s (drop (at + length s) l))
    )

pub returns : goal.returns
returns c =
    let a = c.args in
    (refl, part-laid a.buf.now a.src.now _ a.at _ (omega arith) c.copy_from_slice.ensures.after)
