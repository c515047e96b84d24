-- `image_parse::last_in` meets its contract: each field is read where the version has it.
use mathlib.Core.Path.{ap, ◌∙◌}
use Prim.Native.Nat.{ℕ, ◌+◌}
use Rattle.numbers.specs.Fields.{bits8, bits16, bits32, number_at}
use Rattle.image_parse.specs.Versions.{last-read}
use Rattle.image_parse.proofs.last_in.Goals as goal

pub returns : goal.returns
returns c =
    let z = c.before in
    let s = z.args.s.now in
    let o = c.wider-o.ensures in
    (λ i. record {
      number = c.number_in.ensures i;
      operation = (c.read8.ensures ∙ ap (λ (k : ℕ). number_at bits8 (4 + k) s) o) i;
      asset = (c.read16.ensures ∙ ap (λ (k : ℕ). number_at bits16 (5 + k) s) o) i;
      kind = (c.read8-2.ensures ∙ ap (λ (k : ℕ). number_at bits8 (7 + k) s) o) i;
      answer = record {
        code = (c.read8-3.ensures ∙ ap (λ (k : ℕ). number_at bits8 (8 + k) s) o) i;
        entry = (c.read8-4.ensures ∙ ap (λ (k : ℕ). number_at bits8 (9 + k) s) o) i;
        until = (c.read32.ensures ∙ ap (λ (k : ℕ). number_at bits32 (10 + k) s) o) i;
      };
    })
    ∙ last-read s z.args.v z.requires.0 z.requires.1
