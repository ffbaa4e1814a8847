-- A body, and lines that are read in it or refused.
use Rattle.std.specs.Prelude.{◌≡◌, ℕ, cond, codes, bytes_eq, List, [], ◌∷◌, Option, Some}
use Rattle.std.specs.Prelude.{None, Result, Ok, Err}
use Rattle.hilti_base.specs.declared.names.Place.{Place}
use Rattle.hilti_base.specs.declared.refusal.Refusal.{Refusal}
use Rattle.hilti_base.specs.declared.refusal.Refusal.TheVariants.{At}
use Rattle.hilti_types.specs.declared.op.Op.{Op}
use Rattle.hilti_types.specs.declared.op.Op.TheVariants as ops
use Rattle.hilti_types.specs.declared.value_type.ValueType.{ValueType}
use Rattle.hilti_types.specs.declared.value_type.ValueType.TheVariants as types
use Rattle.hilti_tree.specs.declared.tree.Tree.TheVariants as trees
use Rattle.hilti_module.specs.declared.module.Literal.TheVariants as literals
use Rattle.hilti_module.specs.declared.module.Mnemonic.{Mnemonic}
use Rattle.hilti_module.specs.declared.module.Operand.{Operand as Written}
use Rattle.hilti_module.specs.declared.module.Operand.TheVariants as written
use Rattle.hilti_module.specs.declared.module.Simple.{Simple}
use Rattle.hilti_module.specs.declared.module.Simple.TheVariants as simples
use Rattle.hilti_module.specs.declared.types.Name.{Name}
use Rattle.hilti_module.specs.declared.types.Word.{Word}
use Rattle.hilti_scope.specs.declared.meaning.Meaning.{Meaning}
use Rattle.hilti_scope.specs.declared.meaning.Meaning.TheVariants as means
use Rattle.hilti_link.specs.declared.tables.LinkedFunction.{LinkedFunction}
use Rattle.hilti_link.specs.declared.tables.Site.{Site}
use Rattle.hilti_link.specs.declared.versions.Version.{Version}
use Rattle.hilti_link.specs.declared.versions.Version.TheVariants as versions
use Rattle.hilti_parts.specs.declared.parts.Instruction.{Instruction}
use Rattle.hilti_parts.specs.declared.parts.Operand.TheVariants as operands
use Rattle.hilti_parts.specs.declared.parts.Variable.TheVariants as variables
use Rattle.hilti_operands.specs.Seen.{BodySeen}
use Rattle.hilti_lines.specs.Lines.{read_line}

-- a place of a line, by its column
abbrev pub at : ℕ → Place
at column = record { file = 0; line = 9; column = column }

abbrev pub word : ℕ → List ℕ → Word
word column bytes = record { place = at column; bytes = bytes }

abbrev pub name : ℕ → List ℕ → Name
name column bytes = record { first = word column bytes; second = None }

abbrev pub site : Site
site = record { file = 0; item = 0; place = at 1 }

-- a function of this version with these slots, the first of which are so many parameters
abbrev pub function : Version → ℕ → List ValueType → Option ValueType → LinkedFunction
function version parameters slots result = record {
  site = site;
  name = [];
  version = version;
  parameters = parameters;
  slots = slots;
  result = result;
  hook = None;
}

-- `void f(int<64>)`, and a body with locals `bool t` and `int<8> n`
abbrev pub meaning : List ℕ → Meaning
meaning bytes =
    cond (bytes_eq bytes (codes "t")) (means.Local 0)
    (cond (bytes_eq bytes (codes "n")) (means.Local 1)
    (cond (bytes_eq bytes (codes "f")) (means.Function 0) means.Nothing))

abbrev pub body_of : Version → Option ValueType → BodySeen
body_of version result = record {
  mean = λ (name : Name). meaning name.first.bytes;
  tables = record {
    types = [];
    sites = [];
    globals = [];
    functions = function version 1 (types.Int 64 ∷ []) None ∷ [];
    hooks = [];
    exceptions = [];
  };
  function = function version 0 (types.Bool ∷ types.Int 8 ∷ []) result;
  label = λ (bytes : List ℕ). None;
  blocks = 1;
}

-- a body of version 1
abbrev pub body : Option ValueType → BodySeen
body = body_of versions.One

abbrev pub of_one : ℕ → List ℕ → Mnemonic
of_one column first = record { first = word column first; second = None }

abbrev pub of_two : ℕ → List ℕ → ℕ → List ℕ → Mnemonic
of_two column first behind second =
    record { first = word column first; second = Some (word behind second) }

abbrev pub named : ℕ → List ℕ → Written
named column bytes = written.Simple (simples.Name (name column bytes))

abbrev pub a_number : ℕ → ℕ → Simple
a_number column value =
    simples.Literal (literals.Number (record { place = at column; value = value }))

abbrev pub number : ℕ → ℕ → Written
number column value = written.Simple (a_number column value)

abbrev pub t : ℕ → Written
t column = named column (codes "t")

abbrev pub n : ℕ → Written
n column = named column (codes "n")

-- each line is refused by its first fault
pub record RefusedLines : Type 0 where
  -- `prin t`
  pub other_mnemonic :
      read_line (body None) None (of_one 1 (codes "prin")) (t 6 ∷ []) ≡ Err (At (at 1) 39)
  -- `print x`
  pub unknown_name :
      read_line (body None) None (of_one 1 (codes "print")) (named 7 (codes "x") ∷ [])
      ≡ Err (At (at 7) 21)
  -- `t = int.add t 1`
  pub other_kind :
      read_line (body None) (Some (name 1 (codes "t")))
      (of_two 5 (codes "int") 9 (codes "add")) (t 13 ∷ number 15 1 ∷ [])
      ≡ Err (At (at 13) 30)
  -- `n = int.add n 256`
  pub too_wide :
      read_line (body None) (Some (name 1 (codes "n")))
      (of_two 5 (codes "int") 9 (codes "add")) (n 13 ∷ number 15 256 ∷ [])
      ≡ Err (At (at 15) 36)
  -- `call f ()`, and also `call f (x, 1)`
  pub too_few :
      read_line (body None) None (of_one 1 (codes "call"))
      (named 6 (codes "f") ∷ written.Group (at 8) [] ∷ [])
      ≡ Err (At (at 1) 31)
  pub counted_first :
      read_line (body None) None (of_one 1 (codes "call"))
      (named 6 (codes "f")
      ∷ written.Group (at 8) (simples.Name (name 9 (codes "x")) ∷ a_number 12 1 ∷ []) ∷ [])
      ≡ Err (At (at 1) 31)
  -- `return.result 1` in a void function, and `return.void` in one with a result
  pub result_of_void :
      read_line (body None) None (of_two 1 (codes "return") 8 (codes "result")) (number 15 1 ∷ [])
      ≡ Err (At (at 1) 37)
  pub no_result :
      read_line (body (Some types.Bool)) None (of_two 1 (codes "return") 8 (codes "void")) []
      ≡ Err (At (at 1) 37)
  -- `hook.stop` in a function
  pub no_hook :
      read_line (body None) None (of_two 1 (codes "hook") 6 (codes "stop")) []
      ≡ Err (At (at 1) 38)
  -- `int.add n 1`, `t = int.add n 1`, `t = nop` and `x = nop`
  pub no_target :
      read_line (body None) None (of_two 1 (codes "int") 5 (codes "add")) (n 9 ∷ number 11 1 ∷ [])
      ≡ Err (At (at 1) 32)
  pub other_target :
      read_line (body None) (Some (name 1 (codes "t")))
      (of_two 5 (codes "int") 9 (codes "add")) (n 13 ∷ number 15 1 ∷ [])
      ≡ Err (At (at 1) 32)
  pub needless_target :
      read_line (body None) (Some (name 1 (codes "t"))) (of_one 5 (codes "nop")) []
      ≡ Err (At (at 1) 32)
  pub unknown_target :
      read_line (body None) (Some (name 1 (codes "x"))) (of_one 5 (codes "nop")) []
      ≡ Err (At (at 1) 21)

-- `n = int.NAME n 1` as it is read in a body of this version
abbrev pub reading : Version → List ℕ → Result Instruction Refusal
reading version second =
    read_line (body_of version None) (Some (name 1 (codes "n")))
    (of_two 5 (codes "int") 9 second) (n 13 ∷ number 15 1 ∷ [])

-- its instruction
abbrev pub instruction : Op → Instruction
instruction op = record {
  op = op;
  target = Some (variables.Slot 1);
  kind = Some (types.Int 8);
  operands = operands.Var (variables.Slot 1) (types.Int 8)
      ∷ operands.Literal (types.Int 8) (trees.Int 1) ∷ [];
}

-- `n = int.add n 1`: the number is of the width of `n`, and the instruction is exact in a body of
-- version 2; `n = int.and n 1` is the same in both
pub record ReadLine : Type 0 where
  pub added : reading versions.One (codes "add") ≡ Ok (instruction ops.IntAdd)
  pub added_exactly : reading versions.Two (codes "add") ≡ Ok (instruction ops.IntAddExact)
  pub masked : reading versions.Two (codes "and") ≡ Ok (instruction ops.IntAnd)
