-- The versions of modules.
use Rattle.std.specs.Prelude.{ℕ, nat_eq, Bool, ◌||◌, cond, Option, Some, None}
use Rattle.hilti_base.specs.declared.refusal.Refusal.{Refusal}
use Rattle.hilti_base.specs.declared.refusal.Refusal.TheVariants.{At}
use Rattle.hilti_module.specs.declared.types.Number.{Number}
use Rattle.hilti_link.specs.declared.versions.Version.{Version}
use Rattle.hilti_link.specs.declared.versions.Version.TheVariants as versions

-- the version of a module: the first, unless the number 2 is written
abbrev pub version_numbered : ℕ → Version
version_numbered n = cond (nat_eq n 2) versions.Two versions.One

abbrev pub version_of : Option Number → Version
version_of None = versions.One
version_of (Some number) = version_numbered number.value

-- a number that is written is refused where it is neither 1 nor 2
abbrev pub is_version : ℕ → Bool
is_version n = nat_eq n 1 || nat_eq n 2

abbrev pub number_refusal : Number → Option Refusal
number_refusal number = cond (is_version number.value) None (Some (At number.place 27))

abbrev pub version_refusal : Option Number → Option Refusal
version_refusal None = None
version_refusal (Some number) = number_refusal number
