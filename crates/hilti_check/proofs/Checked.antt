-- What modules are checked as, by the blocks of their bodies.
use Rattle.std.proofs.Common.{◌≡◌, refl, sym, ◌∙◌, ap, List, Option, Some, None, Ok, Err}
use Rattle.std.specs.Prelude.{find}
use Rattle.std.specs.Option.{option_map}
use Rattle.hilti_base.specs.declared.names.Place.{Place}
use Rattle.hilti_base.specs.declared.refusal.Refusal.{Refusal}
use Rattle.hilti_base.specs.declared.refusal.Refusal.TheVariants.{At}
use Rattle.hilti_module.specs.declared.module.Module.{Module}
use Rattle.hilti_link.specs.declared.linking.Linked.{Linked}
use Rattle.hilti_link.specs.Linking.{tables_of}
use Rattle.hilti_code.specs.Runnable.{IsTypedProgram}
use Rattle.hilti_parts.specs.declared.parts.Block.{Block}
use Rattle.hilti_parts.specs.declared.parts.Instruction.{Instruction}
use Rattle.hilti_parts.specs.declared.parts.Parts.{Parts}
use Rattle.hilti_declared.specs.Declaring.{declared_parts}
use Rattle.hilti_operands.specs.Answers.{Told, then_read}
use Rattle.hilti_operands.proofs.Telling.{first_told}
use Rattle.hilti_check.specs.Built.{is_unbuilt, all_placed, first_unbuilt, parts_or, unless_unbuilt}
use Rattle.hilti_check.specs.Checking.{all_blocks, checked}
use Rattle.hilti_check.specs.Laws.{CheckedAreTyped}

-- a refusal of a body is that of the modules
pub body_refused : (modules : List Module) (refusal : Refusal) → Told (Err refusal) (all_blocks modules (tables_of modules))
    → Told {A = Parts} (Err refusal) (checked modules)
unfolding checked
body_refused modules refusal told = first_told refusal (all_blocks modules (tables_of modules)) _ told

refuses_found : (parts : Parts) (found : Option (Place × Instruction)) (place : Place) → Some place ≡ option_map (λ (x : Place × Instruction). x.0) found
    → parts_or parts found ≡ Err (At place 60)
refuses_found parts None place is = absurd cc
refuses_found parts (Some x) place is =
    let same : x.0 ≡ place = cc in
    ap (λ (p : Place). Err (At p 60)) same

accepts_none : (parts : Parts) (found : Option (Place × Instruction)) → None ≡ option_map (λ (x : Place × Instruction). x.0) found → parts_or parts found ≡ Ok parts
accepts_none parts None is = refl
accepts_none parts (Some x) is = absurd cc

module _ (modules : List Module) (blocks : List (List Block)) (are : all_blocks modules (tables_of modules) ≡ Ok blocks) where
  by_blocks : checked modules ≡ (let tables = tables_of modules in unless_unbuilt modules tables.functions blocks (declared_parts modules blocks))
  unfolding checked
  by_blocks = ap (λ r. then_read r (λ (blocks : List (List Block)). let tables = tables_of modules in unless_unbuilt modules tables.functions blocks (declared_parts modules blocks))) are

  -- the first instruction that isn't built is refused
  pub unbuilt_refused : (place : Place) → Some place ≡ first_unbuilt modules (tables_of modules) blocks → checked modules ≡ Err (At place 60)
  unbuilt_refused place some =
      by_blocks ∙ refuses_found (declared_parts modules blocks) (find is_unbuilt (all_placed modules (let tables = tables_of modules in tables.functions) blocks)) place some

  -- where there is none, the modules are a program
  pub built_accepted : (parts : Parts) → None ≡ first_unbuilt modules (tables_of modules) blocks → parts ≡ declared_parts modules blocks → checked modules ≡ Ok parts
  built_accepted parts none is =
      by_blocks ∙ accepts_none (declared_parts modules blocks) (find is_unbuilt (all_placed modules (let tables = tables_of modules in tables.functions) blocks)) none
      ∙ ap Ok (sym is)

-- the parts that modules declare with these blocks are their program, and typed
pub program_is : CheckedAreTyped → (linked : Linked) (blocks : List (List Block)) → all_blocks linked.modules (tables_of linked.modules) ≡ Ok blocks
    → (found : Option Place) (slice : List (List Block)) → slice ≡ blocks → found ≡ first_unbuilt linked.modules (tables_of linked.modules) slice → found ≡ None
    → (parts : Parts) (items : List (List Block)) → items ≡ blocks → parts ≡ declared_parts linked.modules items
    → (checked linked.modules ≡ Ok parts) × IsTypedProgram parts
program_is typed linked blocks are found slice slice_is found_is none parts items items_are is =
    let first = first_unbuilt linked.modules (tables_of linked.modules) in
    let so : checked linked.modules ≡ Ok parts = built_accepted linked.modules blocks are parts (sym none ∙ found_is ∙ ap first slice_is) (is ∙ ap (λ l. declared_parts linked.modules l) items_are) in
    (so, typed linked.modules parts linked.accepted linked.bounded so)
