-- Whether two types are the same, as a test.
use Rattle.std.specs.Prelude.{nat_eq, Bool, true, false, ◌&&◌}
use base.Stored.{Gv, Gv.gnil, Gv.gnum, Gv.gcons}
use Rattle.hilti_types.specs.declared.value_type.ValueType.{ValueType}
use Rattle.hilti_types.specs.contracts.value_type.ValueType as kinds

unfoldable pub same_code : Gv → Gv → Bool
same_code gnil gnil = true
same_code (gnum n) (gnum m) = nat_eq n m
same_code (gcons a first) (gcons b other) = same_code a b && same_code first other
same_code _ _ = false

-- types are the same where their codes are
unfoldable pub same_type : ValueType → ValueType → Bool
same_type a b = same_code (kinds.the_row.coded.code a) (kinds.the_row.coded.code b)
