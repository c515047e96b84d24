-- `image_parse::open_in` meets its contract: each field is read where the version has it.
use mathlib.Core.Path.{ap, ◌∙◌}
use Prim.Native.Nat.{ℕ, ◌+◌}
use native.Mathlib.Omega.{arith}
use Rattle.numbers.specs.Fields.{bits8, bits32, number_at}
use Rattle.image_parse.specs.Versions.{added, open-read, player-two}
use Rattle.image_parse.proofs.open_in.Goals as goal

pub added32-content-requires : goal.added32-content-requires
added32-content-requires c h =
    let z = c.before in
    let e = player-two z.args.v (omega arith) in
    omega (arith, e, c.wider-o.ensures, z.requires.3)

pub returns : goal.returns
returns c =
    let z = c.before in
    let s = z.args.s.now in
    let o = c.wider-o.ensures in
    (λ i. record {
      on = (c.read8.ensures ∙ ap (λ (k : ℕ). number_at bits8 (14 + k) s) o) i;
      entry = (c.read8-2.ensures ∙ ap (λ (k : ℕ). number_at bits8 (15 + k) s) o) i;
      begin = (c.read32.ensures ∙ ap (λ (k : ℕ). number_at bits32 (16 + k) s) o) i;
      until = (c.read32-2.ensures ∙ ap (λ (k : ℕ). number_at bits32 (20 + k) s) o) i;
      content = (c.added32-content.ensures ∙ ap (λ (k : ℕ). added z.args.v 2 (24 + k) s) o) i;
    })
    ∙ open-read s z.args.v z.requires.0 z.requires.1
