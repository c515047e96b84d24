-- The code that a begin is refused with. Document 01: "**Begin**, in order: 11, 10, 12, 13."; order 3 of document 02: "43, taken, in place
-- of 13 when some suitable entry fails for the switch only."
use Rattle.std.specs.Prelude.{Bool, cond, ℕ}

-- 0 if it is granted: whether a use is open, the asset usable, an entry suitable, one of them grantable; whether one fails for the switch
-- only
abbrev pub begin_code : Bool → Bool → Bool → Bool → Bool → ℕ
begin_code on usable suits some switched = cond on 11 (cond usable (cond suits (cond some 0 (cond switched 43 13)) 12) 10)
