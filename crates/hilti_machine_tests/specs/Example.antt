-- A program to run: one function suspends itself, and one never ends.
use Rattle.std.specs.Prelude.{ℕ, ◌≤◌, List, [], ◌∷◌, None, codes}
use Rattle.hilti_types.specs.declared.op.Op.{Op}
use Rattle.hilti_types.specs.declared.op.Op.TheVariants as ops
use Rattle.hilti_types.specs.declared.value_type.ValueType.{ValueType}
use Rattle.hilti_types.specs.declared.value_type.ValueType.TheVariants as types
use Rattle.hilti_parts.specs.declared.parts.Parts.{Parts}
use Rattle.hilti_parts.specs.declared.parts.Function.{Function}
use Rattle.hilti_parts.specs.declared.parts.Block.{Block}
use Rattle.hilti_parts.specs.declared.parts.Instruction.{Instruction}
use Rattle.hilti_parts.specs.declared.parts.Operand.{Operand}
use Rattle.hilti_parts.specs.declared.parts.Operand.TheVariants as operands
use Rattle.hilti_typing.specs.Exceptions.{built_in_exceptions}
use Rattle.hilti_machine.specs.Sound.{IsSound}

-- an instruction without a target
abbrev pub plain : Op → List Operand → Instruction
plain op items = record { op = op; target = None; kind = None; operands = items }

abbrev pub block : List Instruction → Block
block instructions = record { handlers = []; instructions = instructions }

-- a void function
abbrev pub void : List ℕ → List ValueType → ℕ → List Block → Function
void name slots params blocks =
    record { name = name; params = params; slots = slots; result = None; blocks = blocks }

abbrev pub packet : Function
packet =
    void (codes "Main::packet") (types.Time ∷ types.Bytes ∷ []) 2
    (block (plain ops.ReturnVoid [] ∷ []) ∷ [])

-- suspends itself and returns
abbrev pub pauses : Function
pauses =
    void (codes "Main::pause") [] 0
    (block (plain ops.Yield [] ∷ plain ops.ReturnVoid [] ∷ []) ∷ [])

-- never ends
abbrev pub spins : Function
spins =
    void (codes "Main::spin") [] 0 (block (plain ops.Jump (operands.Block 0 ∷ []) ∷ []) ∷ [])

abbrev pub example : Parts
example = record {
  types = [];
  globals = [];
  functions = packet ∷ pauses ∷ spins ∷ [];
  exceptions = built_in_exceptions;
  hooks = [];
}

-- each function without parameters may be called
abbrev pub CallsAreSound : Type 0
CallsAreSound =
    (fuel n : ℕ) → 1 ≤ n → n ≤ 2 → IsSound (record { parts = example; fuel = fuel })
    (record { function = record { n = n }; args = [] })
