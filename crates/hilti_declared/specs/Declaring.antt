-- What modules declare, as the parts of a program.
use Rattle.std.specs.Prelude.{List, [], ◌∷◌, ◌++◌, map, drop, Some}
use Rattle.hilti_module.specs.declared.module.Module.{Module}
use Rattle.hilti_link.specs.declared.tables.LinkedException.{LinkedException}
use Rattle.hilti_link.specs.declared.tables.LinkedFunction.{LinkedFunction}
use Rattle.hilti_link.specs.declared.tables.Tables.{Tables}
use Rattle.hilti_link.specs.Linking.{tables_of}
use Rattle.hilti_parts.specs.declared.parts.Block.{Block}
use Rattle.hilti_parts.specs.declared.parts.Exception.{Exception}
use Rattle.hilti_parts.specs.declared.parts.Function.{Function}
use Rattle.hilti_parts.specs.declared.parts.Parts.{Parts}
use Rattle.hilti_typing.specs.Exceptions.{built_in_exceptions}
use Rattle.hilti_declared.specs.Globals.{global_of}
use Rattle.hilti_declared.specs.Hooks.{hook_bodies, hooks_from}
use Rattle.hilti_declared.specs.Turns.{first_or_none}

abbrev pub exception_of : LinkedException → Exception
exception_of e = record { name = e.name; parent = Some e.parent }

-- the built-in exceptions, and then the declared ones
abbrev pub exceptions_of : List LinkedException → List Exception
exceptions_of declared = built_in_exceptions ++ map exception_of declared

-- a function or a hook body with these blocks
abbrev pub function_of : LinkedFunction → List Block → Function
function_of f blocks = record {
  name = f.name;
  params = f.parameters;
  slots = f.slots;
  result = f.result;
  blocks = blocks;
}

-- functions and hook bodies with the blocks of each in turn
unfoldable pub functions_with : List LinkedFunction → List (List Block) → List Function
functions_with [] blocks = []
functions_with (f ∷ more) blocks =
    function_of f (first_or_none blocks) ∷ functions_with more (drop 1 blocks)

abbrev pub parts_by : List Module → Tables → List (List Block) → Parts
parts_by modules tables blocks = record {
  types = tables.types;
  globals = map (global_of modules tables.types) tables.globals;
  functions = functions_with tables.functions blocks;
  exceptions = exceptions_of tables.exceptions;
  hooks = hooks_from (hook_bodies modules tables.functions) 0 tables.hooks;
}

-- the parts that modules declare, each list in textual order, with the blocks of each function
abbrev pub declared_parts : List Module → List (List Block) → Parts
declared_parts modules blocks = parts_by modules (tables_of modules) blocks
