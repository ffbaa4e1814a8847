-- What a small module counts.
use Rattle.std.proofs.Common.{◌≡◌, [], ◌∷◌, None, refl}
use Rattle.hilti_base.specs.declared.names.Place.{Place}
use Rattle.hilti_module.specs.declared.types.Word.{Word}
use Rattle.hilti_module.specs.declared.types.Name.{Name}
use Rattle.hilti_module.specs.declared.types.TypeText.{TypeText}
use Rattle.hilti_module.specs.declared.module.Item.{Item}
use Rattle.hilti_module.specs.declared.module.Item.TheVariants as items
use Rattle.hilti_module.specs.declared.module.Line.{Line}
use Rattle.hilti_module.specs.declared.module.Line.TheVariants as lines
use Rattle.hilti_module.specs.declared.module.Operand.TheVariants as operands
use Rattle.hilti_module.specs.declared.module.Parameter.{Parameter}
use Rattle.hilti_module.specs.declared.module.Shape.TheVariants as shapes
use Rattle.hilti_module.specs.declared.module.Simple.{Simple}
use Rattle.hilti_module.specs.Counts.{module_count}

module _ (place : Place) (word : Word) (name : Name) (type : TypeText) (simple : Simple) where
  pair : Parameter
  pair = record { kind = type; name = word }

  -- `type E = enum { a, b }`: the item and two constants
  an_enum : Item
  an_enum = items.Type word (shapes.Enum place (word ∷ word ∷ []))

  -- a label with a handler: two
  a_label : Line
  a_label = lines.Label place word (record { place = place; exception = name; target = word; slot = word } ∷ [])

  -- an instruction with an operand and a group of two: five
  an_instruction : Line
  an_instruction =
      lines.Instruction None (record { first = word; second = None }) (operands.Simple simple ∷ operands.Group place (simple ∷ simple ∷ []) ∷ [])

  -- a function with a parameter, a local and these lines: ten
  a_function : Item
  a_function =
      items.Function None word (pair ∷ []) (record { locals = pair ∷ []; lines = a_label ∷ an_instruction ∷ []; close = place })

  counted : module_count (an_enum ∷ a_function ∷ []) ≡ 13
  unfolding an_enum a_function a_label an_instruction pair
  counted = refl
