-- Which parts of a program are typed.
use Rattle.std.specs.Prelude.{◌≡◌, ◌⊎◌, ℕ, ◌+◌, ◌^◌, ◌<◌, ◌≤◌, nat_eq, Bool, false, List, [], ◌∷◌}
use Rattle.std.specs.Prelude.{length, take, map, codes, bytes_eq, slice_get, position}
use Rattle.std.specs.Prelude.{Option, Some, None, IfSome, IsSomeAnd}
use Rattle.std.specs.List.{All, list_any}
use Rattle.std.specs.Option.{option_map, option_and_then}
use Rattle.hilti_base.specs.declared.names.FnId.{FnId}
use Rattle.hilti_types.specs.declared.declared.Declared.{Declared}
use Rattle.hilti_types.specs.declared.value_type.ValueType.{ValueType}
use Rattle.hilti_types.specs.declared.value_type.ValueType.TheVariants as types
use Rattle.hilti_table.specs.Rows.{ends_block}
use Rattle.hilti_table.specs.Table.{line_of}
use Rattle.hilti_parts.specs.declared.parts.Parts.{Parts}
use Rattle.hilti_parts.specs.declared.parts.Global.{Global}
use Rattle.hilti_parts.specs.declared.parts.Hook.{Hook}
use Rattle.hilti_parts.specs.declared.parts.Function.{Function}
use Rattle.hilti_parts.specs.declared.parts.Block.{Block}
use Rattle.hilti_parts.specs.declared.parts.Handler.{Handler}
use Rattle.hilti_parts.specs.declared.parts.Instruction.{Instruction}
use Rattle.hilti_parts.specs.declared.parts.Operand.{Operand}
use Rattle.hilti_parts.specs.declared.parts.Variable.{Variable}
use Rattle.hilti_parts.specs.Named.{named_function}
use Rattle.hilti_typing.specs.Context.{Signature, Context, variable_type}
use Rattle.hilti_typing.specs.Defaults.{default_of}
use Rattle.hilti_typing.specs.Exceptions.{AreExceptions}
use Rattle.hilti_typing.specs.Fits.{IsValue, IsTypedLine}

-- what a function takes and gives, and what a hook takes
abbrev pub signature : Function → Signature
signature f = record { parameters = take f.params f.slots; result = f.result }

abbrev pub hook_signature : Hook → Signature
hook_signature h = record { parameters = h.params; result = None }

-- whether the function at a place is a body of a hook
abbrev pub is_hook_body : Parts → ℕ → Bool
is_hook_body parts at =
    list_any (λ (h : Hook). list_any (λ (f : FnId). nat_eq f.n at) h.bodies) parts.hooks

-- what the lines of the function at a place are typed in
abbrev pub context : Parts → ℕ → Function → Context
context parts at f = record {
  declared = parts.types;
  globals = map (λ (g : Global). g.kind) parts.globals;
  functions = map signature parts.functions;
  hooks = map hook_signature parts.hooks;
  exceptions = length parts.exceptions;
  slots = f.slots;
  blocks = length f.blocks;
  result = f.result;
  in_hook = is_hook_body parts at;
}

-- the type of a target is that of its variable, `None` without one
abbrev pub IsTarget : Context → Option Variable → Option ValueType → Type 0
IsTarget c None kind = kind ≡ None
IsTarget c (Some v) kind = IsSomeAnd kind (λ t. variable_type c v ≡ Some t)

-- an instruction whose target is of the type that it names, and whose line is typed
pub record IsTypedInstruction (c : Context) (i : Instruction) : Type 0 where
  pub target : IsTarget c i.target i.kind
  pub line : IsTypedLine c i.op i.kind i.operands

-- a handler of an exception that is there, which goes on at a block of the function with the text
-- in a local of type string that is no parameter
pub record IsTypedHandler (c : Context) (parameters : ℕ) (h : Handler) : Type 0 where
  pub handles : h.exception < c.exceptions
  pub goes_on : h.block < c.blocks
  pub no_parameter : parameters ≤ h.slot
  pub text : slice_get c.slots h.slot ≡ Some types.Text

-- whether an instruction is an ending one
abbrev pub is_ending : Instruction → Bool
is_ending i = ends_block (line_of i.op).row.flow

-- a block whose first ending instruction is its last one
pub record IsTypedBlock (c : Context) (parameters : ℕ) (block : Block) : Type 0 where
  pub handlers : All (IsTypedHandler c parameters) block.handlers
  pub instructions : All (IsTypedInstruction c) block.instructions
  pub ending : IsSomeAnd (position is_ending block.instructions)
      (λ k. k + 1 ≡ length block.instructions)

-- an operand that names no body of a hook, which only the hook's run calls
abbrev pub NamesNoHookBody : Parts → Operand → Type 0
NamesNoHookBody parts x = IfSome (named_function x) (λ f. is_hook_body parts f ≡ false)

-- the operands of each instruction of a block
abbrev pub EachOperand : (Operand → Type 0) → Block → Type 0
EachOperand so block = All (λ (i : Instruction). All so i.operands) block.instructions

-- a function whose parameters are among its slots, and that has a block to begin with
pub record IsTypedFunction (parts : Parts) (at : ℕ) (f : Function) : Type 0 where
  pub parameters : f.params ≤ length f.slots
  pub begins : 0 < length f.blocks
  pub blocks : All (IsTypedBlock (context parts at f) f.params) f.blocks
  pub called : All (EachOperand (NamesNoHookBody parts)) f.blocks

-- a body of a hook takes what the hook takes, and is void
abbrev pub IsBodyOf : Parts → Hook → FnId → Type 0
IsBodyOf parts h id =
    IsSomeAnd (slice_get parts.functions id.n) (λ f. signature f ≡ hook_signature h)

-- the body of a hook at a place
abbrev pub body_at : Parts → ℕ → ℕ → Option FnId
body_at parts hook at =
    option_and_then (λ (h : Hook). slice_get h.bodies at) (slice_get parts.hooks hook)

-- a body belongs to one hook, at one place
abbrev pub BelongsOnce : Parts → FnId → Type 0
BelongsOnce parts f =
    (h k i j : ℕ) → body_at parts h k ≡ Some f → body_at parts i j ≡ Some f → (h ≡ i) × (k ≡ j)

-- the place of the first function of a name
abbrev pub function_named : Parts → List ℕ → Option ℕ
function_named parts name = position (λ (f : Function). bytes_eq f.name name) parts.functions

-- the entry that each packet is handed to takes a time and bytes, the others nothing
abbrev pub packet_signature : Signature
packet_signature = record { parameters = types.Time ∷ types.Bytes ∷ []; result = None }

abbrev pub bare_signature : Signature
bare_signature = record { parameters = []; result = None }

-- a function that takes and gives just this, and is no body of a hook
pub record IsEntry (parts : Parts) (asked : Signature) (at : ℕ) : Type 0 where
  pub takes : option_map signature (slice_get parts.functions at) ≡ Some asked
  pub no_body : is_hook_body parts at ≡ false

-- `Main::packet` is there; `Main::init` and `Main::done` may be
pub record HasEntries (parts : Parts) : Type 0 where
  pub packet : IsSomeAnd (function_named parts (codes "Main::packet"))
      (IsEntry parts packet_signature)
  pub init : IfSome (function_named parts (codes "Main::init")) (IsEntry parts bare_signature)
  pub done : IfSome (function_named parts (codes "Main::done")) (IsEntry parts bare_signature)

-- a list whose places are numbers of 32 bits
abbrev pub IsShort : {A : Type 0} → List A → Type 0
IsShort items = length items < 2 ^ 32

pub record IsShortFunction (f : Function) : Type 0 where
  pub slots : IsShort f.slots
  pub blocks : IsShort f.blocks
  pub instructions : All (λ (b : Block). IsShort b.instructions) f.blocks

-- parts whose places are numbers of 32 bits
pub record AreShort (parts : Parts) : Type 0 where
  pub types : IsShort parts.types
  pub globals : IsShort parts.globals
  pub functions : IsShort parts.functions
  pub exceptions : IsShort parts.exceptions
  pub hooks : IsShort parts.hooks
  pub each : All IsShortFunction parts.functions
  pub bodies : All (λ (h : Hook). IsShort h.bodies) parts.hooks

-- a global begins with a literal of its type, or with the default of its type
abbrev pub BeginsTyped : List Declared → Global → Type 0
BeginsTyped table g = IsValue table g.kind g.first ⊎ (g.first ≡ default_of g.kind)

-- parts that are typed
pub record AreTyped (parts : Parts) : Type 0 where
  pub globals : All (BeginsTyped parts.types) parts.globals
  pub exceptions : AreExceptions parts.exceptions
  pub hooks : All (λ (h : Hook). All (IsBodyOf parts h) h.bodies) parts.hooks
  pub bodies : (f : FnId) → BelongsOnce parts f
  pub functions : (at : ℕ) (f : Function) → slice_get parts.functions at ≡ Some f →
      IsTypedFunction parts at f
  pub entries : HasEntries parts
  pub short : AreShort parts
