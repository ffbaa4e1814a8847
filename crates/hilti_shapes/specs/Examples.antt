-- A call in progress that is typed, and some that aren't.
use Rattle.std.specs.Prelude.{List, [], ◌∷◌, Some, None, true, nat_eq, if◌then◌else◌}
use Rattle.hilti_types.specs.declared.value_type.Inner.TheVariants as inners
use Rattle.hilti_types.specs.declared.value_type.ValueType.TheVariants as types
use Rattle.hilti_typing.specs.ProgramExamples.{whole}
use Rattle.hilti_values.specs.declared.value.Value.{Value}
use Rattle.hilti_values.specs.declared.value.Value.TheVariants as values
use Rattle.hilti_stack.specs.declared.head.Position.{Position}
use Rattle.hilti_stack.specs.Frames.{Frames}
use Rattle.hilti_heap.specs.Stores.{Store}
use Rattle.hilti_shapes.specs.Needs.{ObjectType.Referred, Kinds, Has, no_kinds}
use Rattle.hilti_shapes.specs.Places.{IsConfig}

abbrev pub empty_store : Store
empty_store = record { next = 0; object = λ serial. None }

-- at the beginning of the first function, which takes a time and bytes, and has a string
abbrev pub beginning : Position
beginning = record { function = record { n = 0 }; block = 0; at = 0; target = None }

abbrev pub alone : List Value → Frames
alone slots = record { below = []; slots = slots; made = [] }

abbrev pub packet_slots : List Value
packet_slots = values.Time 5 ∷ values.Bytes (1 ∷ 2 ∷ []) ∷ values.Text [] ∷ []

abbrev pub Begins : Position → List Value → List Value → Type 0
Begins p slots globals = IsConfig whole p (alone slots) globals no_kinds empty_store

-- its one global is a truth value
abbrev pub TypedBeginning : Type 0
TypedBeginning = Begins beginning packet_slots (values.Bool true ∷ [])

-- a number for the truth value, a slot too few, a place behind the last instruction, and arguments
-- that are half made
pub record UntypedBeginnings : Type 0 where
  pub global : Begins beginning packet_slots (values.Int 1 ∷ []) → ⊥
  pub slots : Begins beginning (values.Time 5 ∷ []) (values.Bool true ∷ []) → ⊥
  pub place : Begins (record beginning { at = 1 }) packet_slots (values.Bool true ∷ []) → ⊥
  pub made : IsConfig whole beginning
      (record { below = []; slots = packet_slots; made = values.Null ∷ [] })
      (values.Bool true ∷ []) no_kinds empty_store → ⊥

-- the object 0 is a struct of the first declared type
abbrev pub one_struct : Kinds
one_struct serial = if nat_eq serial 0 then Some (Referred (inners.Struct 0)) else None

-- a number and a reference have the types that they fit, and no others
pub record TypedValues : Type 0 where
  pub byte : Has [] no_kinds (values.Int 255) (types.Int 8)
  pub too_wide : Has [] no_kinds (values.Int 256) (types.Int 8) → ⊥
  pub reference : Has [] one_struct (values.Ref 0) (types.Ref (inners.Struct 0))
  pub other_object : Has [] one_struct (values.Ref 1) (types.Ref (inners.Struct 0)) → ⊥
  pub no_object : Has [] no_kinds values.Null (types.Ref (inners.Struct 0))
