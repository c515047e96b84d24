-- The table of classes agrees with the definitions at every byte: one test of all 256 for each class.
use Rattle.std.specs.Prelude.{ℕ, ◌≡◌, ◌<◌, Bool, true, false, not, get_or, nat_eq, bit_and}
use Rattle.std.proofs.Math.Path.{refl}
use Rattle.numbers.specs.Count.{all}
use Rattle.numbers.proofs.Tests.{all-below}
use Rattle.xml_model.specs.Bytes.{is_name_start, spaces, names, texts, digits, in_class}
use Rattle.xml_scan.specs.declared.Class.{Class}
use Rattle.xml_scan.specs.declared.class_table.TheConstants.{CLASSES, SPACE, NAME, TEXT, DIGIT, DOUBLE, SINGLE, NAME_START}
use Rattle.xml_scan.specs.Classes.{class_code, class_bit}

-- whether the table has that bit at a byte
abbrev pub has : ℕ → ℕ → Bool
has bit c = not (nat_eq (bit_and (get_or CLASSES c 0) bit) 0)

same : Bool → Bool → Bool
same true b = b
same false b = not b

same-equal : (a b : Bool) → same a b ≡ true → a ≡ b
unfolding same
same-equal true true e = refl
same-equal true false e = absurd cc
same-equal false true e = absurd cc
same-equal false false e = refl

-- such a bit, where the table has it exactly at the bytes that pass the test
agreed : (bit : ℕ) (p : ℕ → Bool) → all (λ c. same (has bit c) (p c)) 256 ≡ true → (c : ℕ) → c < 256 → has bit c ≡ p c
agreed bit p e c h = same-equal _ _ (all-below (λ x. same (has bit x) (p x)) 256 e c h)

pub has-class : (class : Class) (c : ℕ) → c < 256 → has (class_bit class) c ≡ in_class (class_code class) c
unfolding all same in_class
has-class Class.Spaces = agreed SPACE (in_class spaces) refl
has-class Class.Names = agreed NAME (in_class names) refl
has-class Class.Texts = agreed TEXT (in_class texts) refl
has-class Class.Digits = agreed DIGIT (in_class digits) refl
has-class Class.Double = agreed DOUBLE (in_class 34) refl
has-class Class.Single = agreed SINGLE (in_class 39) refl

pub has-start : (c : ℕ) → c < 256 → has NAME_START c ≡ is_name_start c
unfolding all same
has-start = agreed NAME_START (λ c. is_name_start c) refl
