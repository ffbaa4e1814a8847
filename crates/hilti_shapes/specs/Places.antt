-- Typed programs, and calls in progress whose values are of their types.
use Rattle.std.specs.Prelude.{◌≡◌, ◌<◌, List, [], ◌∷◌, length, map, slice_get, Option, Some}
use Rattle.std.specs.Prelude.{IfSome}
use Rattle.std.specs.List.{AllByRecursion}
use Rattle.std.specs.Option.{option_and_then}
use Rattle.hilti_types.specs.declared.value_type.ValueType.{ValueType}
use Rattle.hilti_parts.specs.declared.parts.Block.{Block}
use Rattle.hilti_parts.specs.declared.parts.Function.{Function}
use Rattle.hilti_parts.specs.declared.parts.Global.{Global}
use Rattle.hilti_parts.specs.declared.parts.Parts.{Parts}
use Rattle.hilti_typing.specs.Programs.{context}
use Rattle.hilti_values.specs.declared.value.Value.{Value}
use Rattle.hilti_stack.specs.declared.head.Head.{Head}
use Rattle.hilti_stack.specs.declared.head.Head.TheVariants as heads
use Rattle.hilti_stack.specs.declared.head.Position.{Position}
use Rattle.hilti_stack.specs.Frames.{Frame, Frames}
use Rattle.hilti_heap.specs.Stores.{Store}
use Rattle.hilti_effects.specs.State.{State}
use Rattle.hilti_effects.specs.declared.ending.Ending.{Ending}
use Rattle.hilti_effects.specs.declared.ending.Ending.TheVariants as endings
use Rattle.hilti_shapes.specs.Needs.{Kinds, Have, IsResult}
use Rattle.hilti_shapes.specs.Objects.{IsStore}
use Rattle.hilti_shapes.specs.TypedRows.{Receives}

-- a function at an instruction, with slots of its types
pub record IsAt (parts : Parts) (p : Position) (slots : List Value) (kinds : Kinds) : Type 0 where
  pub function : Function
  pub in_parts : slice_get parts.functions p.function.n ≡ Some function
  pub block : Block
  pub in_function : slice_get function.blocks p.block ≡ Some block
  pub within : p.at < length block.instructions
  pub slots_are : Have parts.types kinds slots function.slots

-- a frame that waits is a function at an instruction
abbrev pub IsHeadAt : Parts → Head → List Value → Kinds → Type 0
IsHeadAt parts (heads.Function p) slots kinds = IsAt parts p slots kinds
IsHeadAt parts head slots kinds = ⊥

abbrev pub IsFrame : Parts → Kinds → Frame → Type 0
IsFrame parts kinds frame = IsHeadAt parts frame.head frame.slots kinds

-- the type of what a function gives
abbrev pub result_type : Parts → Position → Option ValueType
result_type parts p =
    option_and_then (λ (f : Function). f.result) (slice_get parts.functions p.function.n)

-- a caller's target takes what its callee gives
abbrev pub TakesResult : Parts → Position → Position → Function → Type 0
TakesResult parts caller callee f =
    Receives (context parts caller.function.n f) callee.target (result_type parts callee)

abbrev pub TakesFrom : Parts → Head → Position → Type 0
TakesFrom parts (heads.Function caller) callee =
    IfSome (slice_get parts.functions caller.function.n) (TakesResult parts caller callee)
TakesFrom parts head callee = ⊥

-- the frame right above those that wait, of which the nearest caller is the last
abbrev pub first_head : List Frame → Position → Head
first_head [] top = heads.Function top
first_head (frame ∷ below) top = frame.head

abbrev pub Hands : Parts → Head → Head → Type 0
Hands parts caller (heads.Function callee) = TakesFrom parts caller callee
Hands parts caller head = ⊥

-- each frame's target takes what the frame above it gives
abbrev pub Chain : Parts → List Frame → Position → Type 0
Chain parts [] top = Unit {0}
Chain parts (frame ∷ below) top =
    Hands parts frame.head (first_head below top) × Chain parts below top

abbrev pub global_types : Parts → List ValueType
global_types parts = map (λ (g : Global). g.kind) parts.globals

-- globals and objects of their types
pub record AreShared (parts : Parts) (globals : List Value) (kinds : Kinds) (store : Store)
    : Type 0 where
  pub globals_are : Have parts.types kinds globals (global_types parts)
  pub store_is : IsStore parts kinds store

abbrev pub IsState : Parts → Kinds → State → Type 0
IsState parts kinds st = AreShared parts st.globals kinds st.store

-- a call in progress: the top function, those that wait below it, globals and objects are of their
-- types, and no arguments are half made
pub record IsConfig (parts : Parts) (p : Position) (frames : Frames) (globals : List Value)
    (kinds : Kinds) (store : Store) : Type 0 where
  pub top : IsAt parts p frames.slots kinds
  pub below : AllByRecursion (IsFrame parts kinds) frames.below
  pub chain : Chain parts frames.below p
  pub shared : AreShared parts globals kinds store
  pub none_made : frames.made ≡ []

-- how a function at a place ends: with a result of its type for its own target, or with an
-- exception of the program
abbrev pub IsTypedEnding : Parts → Kinds → Position → Ending → Type 0
IsTypedEnding parts kinds p (endings.Returned target value) =
    (target ≡ p.target) × IsResult parts.types kinds (result_type parts p) value
IsTypedEnding parts kinds p endings.Stopped = Unit {0}
IsTypedEnding parts kinds p (endings.Raised exception text) = exception < length parts.exceptions
