use Rattle.std.proofs.Common.{◌≡◌, drop}
use Rattle.hilti_rows.specs.Sources.{each_of}
use Rattle.hilti_rows.proofs.Each.{behind}
use Rattle.hilti_code.specs.Rows.{function_rows}
use Rattle.hilti_code.proofs.code.Code.of.Given as goal

-- behind those that were made stand those of the functions that are left
abbrev pub invariant-loop-function : goal.invariant-loop-function
invariant-loop-function l =
    each_of function_rows l.parts.functions
    ≡ behind l.functions (each_of function_rows (drop l.function-index l.parts.functions))
