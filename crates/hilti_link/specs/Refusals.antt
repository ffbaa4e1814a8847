-- The first refusal of a set of modules by the rules on declarations.
use Rattle.std.specs.Prelude.{List, Option}
use Rattle.std.specs.Option.{option_or}
use Rattle.hilti_base.specs.declared.refusal.Refusal.{Refusal}
use Rattle.hilti_module.specs.declared.module.Module.{Module}
use Rattle.hilti_link.specs.Entries.{entries_refusal}
use Rattle.hilti_link.specs.Linking.{modules_refusal}

-- everything but the entries of `Main` in textual order, and then these
unfoldable pub first_refusal : List Module → Option Refusal
first_refusal modules = option_or (modules_refusal modules) (entries_refusal modules)
