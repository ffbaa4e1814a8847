-- What modules declare all together.
use Rattle.std.specs.Prelude.{ℕ, suc, List, [], Bool, false, nat_eq, not, sum_by, Option, Some}
use Rattle.std.specs.Prelude.{None}
use Rattle.std.specs.Option.{option_or}
use Rattle.hilti_base.specs.declared.refusal.Refusal.{Refusal}
use Rattle.hilti_module.specs.declared.module.Item.{Item}
use Rattle.hilti_module.specs.declared.module.Module.{Module}
use Rattle.hilti_module.specs.Counts.{module_count}
use Rattle.hilti_scope.specs.Items.{module_named}
use Rattle.hilti_link.specs.declared.tables.Tables.{Tables}
use Rattle.hilti_link.specs.InTurn.{first_in_turn, behind_all}
use Rattle.hilti_link.specs.Seeing.{again}
use Rattle.hilti_link.specs.Items.{Seen, item_refusal, tables_behind}
use Rattle.hilti_link.specs.Versions.{version_of, version_refusal}
use Rattle.hilti_link.specs.declared.versions.Version.TheVariants as versions

abbrev pub no_tables : Tables
no_tables =
    record {
      types = [];
      sites = [];
      globals = [];
      functions = [];
      hooks = [];
      exceptions = [];
    }

-- how many items and other parts modules have in all
abbrev pub modules_count : List Module → ℕ
modules_count modules = sum_by (λ m. module_count m.items) modules

-- what the next item of the module sees
abbrev pub behind_item : Seen → Item → Seen
behind_item seen item =
    record seen { at = suc seen.at; here = suc seen.here; tables = tables_behind seen item }

-- what the first item of a module sees
abbrev pub entering : Seen → Module → Seen
entering seen m = record seen { owner = m.name.bytes; version = version_of m.version; at = 0 }

-- what the next module sees
abbrev pub leaving : Seen → Seen
leaving seen = record seen { file = suc seen.file }

abbrev pub behind_module : Seen → Module → Seen
behind_module seen m = leaving (behind_all behind_item (entering seen m) m.items)

abbrev pub is_own : ℕ → Option ℕ → Bool
is_own file None = false
is_own file (Some first) = nat_eq first file

-- a module is refused at its name where one in front of it has that name
abbrev pub named_again : Seen → Module → Option Refusal
named_again seen m = again (not (is_own seen.file (module_named seen.modules m.name.bytes))) m.name

-- behind its name, it is refused at its version
abbrev pub head_refusal : Seen → Module → Option Refusal
head_refusal seen m = option_or (named_again seen m) (version_refusal m.version)

abbrev pub items_refusal : Seen → List Item → Option Refusal
items_refusal seen inside = first_in_turn item_refusal behind_item seen inside

abbrev pub module_refusal : Seen → Module → Option Refusal
module_refusal seen m = option_or (head_refusal seen m) (items_refusal (entering seen m) m.items)

-- nothing is declared in front of the first module
abbrev pub seen_first : List Module → Seen
seen_first modules =
    record {
      modules = modules;
      file = 0;
      owner = [];
      version = versions.One;
      at = 0;
      here = 0;
      tables = no_tables;
    }

abbrev pub modules_refusal : List Module → Option Refusal
modules_refusal modules = first_in_turn module_refusal behind_module (seen_first modules) modules

abbrev pub seen_last : List Module → Seen
seen_last modules = behind_all behind_module (seen_first modules) modules

-- what modules declare
unfoldable pub tables_of : List Module → Tables
tables_of modules = let behind = seen_last modules in behind.tables
