use Rattle.std.specs.Prelude.{◌≡◌, eqb, Option, None, Some}
use Rattle.std.specs.Option.{option_eq}
use Rattle.std.proofs.Math.Path.{sym}
use denote.Enum.Bare.{sameb}
use Rattle.xml_table.specs.contracts.Name as N
use Rattle.xml_table.specs.declared.Name.{Name}
use Rattle.xml_table.specs.Codes.{name_code, name_number}
use Rattle.xml_table.proofs.Numbers.{same-role, same-name, some-name}
use Rattle.xml_table.proofs.row_fits.Goals as goal

same-some : (x : Name) (y : Option Name) → option_eq (sameb N.the_type) (Some x) y ≡ eqb (name_code x) (name_number y)
same-some x None = sym (some-name x)
same-some x (Some y) = same-name x y

pub returns : goal.returns
returns c =
    let a = c.args in
    rw (c.eq.ensures, same-role a.row.now.holder a.role, c.eq-2.ensures, same-some a.row.now.name a.name)
