-- What typed blocks, handlers and lines meet in the parts of a program.
use Rattle.std.specs.Prelude.{◌≡◌, ◌↔◌, ℕ, ◌+◌, ◌<◌, IsTrue, List, [], ◌∷◌, length, take}
use Rattle.std.specs.Prelude.{slice_get, Some}
use Rattle.std.specs.Option.{option_map}
use Rattle.hilti_base.specs.declared.names.FnId.{FnId}
use Rattle.hilti_types.specs.declared.op.Op.TheVariants as ops
use Rattle.hilti_parts.specs.declared.parts.Parts.{Parts}
use Rattle.hilti_parts.specs.declared.parts.Global.{Global}
use Rattle.hilti_parts.specs.declared.parts.Function.{Function}
use Rattle.hilti_parts.specs.declared.parts.Block.{Block}
use Rattle.hilti_parts.specs.declared.parts.Handler.{Handler}
use Rattle.hilti_parts.specs.declared.parts.Instruction.{Instruction}
use Rattle.hilti_parts.specs.declared.parts.Operand.{Operand}
use Rattle.hilti_parts.specs.declared.parts.Variable.TheVariants as variables
use Rattle.hilti_parts.specs.Named.{named_block, named_function, grouped}
use Rattle.hilti_typing.specs.Context.{Context, variable_type}
use Rattle.hilti_typing.specs.Fits.{HaveAll, MayTake}
use Rattle.hilti_typing.specs.Programs.{context, is_ending, IsTypedInstruction, IsTypedHandler}
use Rattle.hilti_typing.specs.Programs.{IsTypedBlock, is_hook_body, body_at}

-- a block ends with an ending instruction, and has none before it
pub record EndsOnce (block : Block) : Type 0 where
  pub some : 0 < length block.instructions
  pub only_last : (at : ℕ) (i : Instruction) → slice_get block.instructions at ≡ Some i →
      IsTrue (is_ending i) ↔ (at + 1 ≡ length block.instructions)

abbrev pub TypedBlocksEnd : Type 0
TypedBlocksEnd =
    (c : Context) (parameters : ℕ) (block : Block) → IsTypedBlock c parameters block →
    EndsOnce block

-- an operand names a block that is there
pub record NamesBlockOf (f : Function) (x : Operand) : Type 0 where
  pub at : ℕ
  pub block : Block
  pub names : named_block x ≡ Some at
  pub there : slice_get f.blocks at ≡ Some block

-- an operand names a function that is there, with arguments of the types of its parameters
pub record CallsFunctionOf (parts : Parts) (c : Context) (i : Instruction) : Type 0 where
  pub called : Operand
  pub group : Operand
  pub at : ℕ
  pub function : Function
  pub arguments : List Operand
  pub are : i.operands ≡ called ∷ group ∷ []
  pub names : named_function called ≡ Some at
  pub there : slice_get parts.functions at ≡ Some function
  pub groups : grouped group ≡ Some arguments
  pub arguments_are : HaveAll c (take function.params function.slots) arguments
  pub target : MayTake i.kind function.result

-- what typed lines and handlers name is there
pub record NamedParts (parts : Parts) (at : ℕ) (f : Function) : Type 0 where
  pub handler : (h : Handler) → IsTypedHandler (context parts at f) f.params h →
      (block : Block) × (slice_get f.blocks h.block ≡ Some block)
  pub jump : (i : Instruction) → IsTypedInstruction (context parts at f) i → i.op ≡ ops.Jump →
      (x : Operand) × (i.operands ≡ x ∷ []) × NamesBlockOf f x
  pub call : (i : Instruction) → IsTypedInstruction (context parts at f) i → i.op ≡ ops.Call →
      CallsFunctionOf parts (context parts at f) i
  pub global : (n : ℕ) → variable_type (context parts at f) (variables.Global n)
      ≡ option_map (λ (g : Global). g.kind) (slice_get parts.globals n)

-- a function is a body of a hook just where it stands at a place of one
pub record BodiesOfHooks (parts : Parts) : Type 0 where
  pub stands : (f : FnId) → IsTrue (is_hook_body parts f.n) ↔
      (h : ℕ) × (k : ℕ) × (body_at parts h k ≡ Some f)
