-- Programs in which no instruction is found that isn't built can run.
use Rattle.std.proofs.Common.{◌≡◌, refl, sym, ◌∙◌, ap, subst, List, [], ◌∷◌, ◌++◌, drop, Option, Some, None, Ok}
use Rattle.std.specs.Prelude.{find}
use Rattle.std.specs.List.{All, AllByRecursion, zip}
use Rattle.std.specs.Option.{option_or}
use Rattle.std.proofs.lemmas.List.Elements.{All-from_recursion}
use Rattle.std.proofs.lemmas.List.Folds.{find-append}
use Rattle.hilti_base.specs.declared.names.Place.{Place}
use Rattle.hilti_module.specs.declared.module.Line.{Line}
use Rattle.hilti_module.specs.declared.module.Module.{Module}
use Rattle.hilti_link.specs.declared.tables.LinkedFunction.{LinkedFunction}
use Rattle.hilti_link.specs.declared.tables.Tables.{Tables}
use Rattle.hilti_parts.specs.declared.parts.Block.{Block}
use Rattle.hilti_parts.specs.declared.parts.Instruction.{Instruction}
use Rattle.hilti_code.specs.Runnable.{HasRow, IsRunnable}
use Rattle.hilti_declared.specs.Declaring.{functions_with}
use Rattle.hilti_declared.specs.Sites.{Bodied, bodied_at}
use Rattle.hilti_declared.specs.Turns.{first_or_none}
use Rattle.hilti_operands.proofs.ReadValues.{then_ok, ok_is}
use Rattle.hilti_bodies.specs.Blocks.{read_each}
use Rattle.hilti_bodies.specs.Laws.{IsCutAtLabels}
use Rattle.hilti_check.specs.Built.{is_unbuilt, mnemonic_places, instructions_of, placed_in, all_placed}
use Rattle.hilti_check.specs.Checking.{meaning_inside, blocks_by, blocks_of}
use Rattle.hilti_check.proofs.Resolved.{all_have_rows}
use Rattle.hilti_check.proofs.Counting.{one_for_each}

abbrev RunsIn : List Block → Type 0
RunsIn = AllByRecursion (λ (b : Block). All HasRow b.instructions)

-- what holds of each of some and then of others
parts_hold : (xs ys : List Instruction) → AllByRecursion HasRow (xs ++ ys) → AllByRecursion HasRow xs × AllByRecursion HasRow ys
parts_hold [] ys h = (tt, h)
parts_hold (x ∷ xs) ys h = let rest = parts_hold xs ys h.1 in ((h.0, rest.0), rest.1)

by_blocks : (bs : List Block) → AllByRecursion HasRow (instructions_of bs) → RunsIn bs
by_blocks [] h = tt
by_blocks (b ∷ bs) h =
    let each = parts_hold b.instructions (instructions_of bs) h in
    (All-from_recursion _ _ each.0, by_blocks bs each.1)

-- neither of two is found
neither : {X : Type 0} (a b : Option X) → option_or a b ≡ None → (a ≡ None) × (b ≡ None)
neither None b e = (refl, e)
neither (Some x) b e = absurd cc

module _ (cut : (body : List Line) (close : Place) → IsCutAtLabels body close) (modules : List Module) (tables : Tables) where
  by_body : (f : LinkedFunction) (o : Option Bodied) (blocks : List Block) → blocks_by modules tables f o ≡ Ok blocks
      → find is_unbuilt (zip (mnemonic_places o) (instructions_of blocks)) ≡ None → RunsIn blocks
  by_body f None blocks e none = subst RunsIn (ok_is [] blocks e) tt
  by_body f (Some b) blocks e none =
      by_blocks blocks (all_have_rows (mnemonic_places (Some b)) (instructions_of blocks)
      (one_for_each cut (meaning_inside modules f.site b) tables f b.body blocks e) none)

  pub all_run : (fs : List LinkedFunction) (all : List (List Block)) → read_each (blocks_of modules tables) fs ≡ Ok all
      → find is_unbuilt (all_placed modules fs all) ≡ None → AllByRecursion IsRunnable (functions_with fs all)
  unfolding read_each all_placed functions_with
  all_run [] all e none = tt
  all_run (f ∷ more) all e none =
      let first = then_ok (blocks_of modules tables f) _ all e in
      let rest = then_ok (read_each (blocks_of modules tables) more) _ all first.2 in
      let are : first.0 ∷ rest.0 ≡ all = ok_is (first.0 ∷ rest.0) all rest.2 in
      let split = neither (find is_unbuilt (placed_in modules f (first_or_none all))) (find is_unbuilt (all_placed modules more (drop 1 all)))
      (sym (find-append is_unbuilt (placed_in modules f (first_or_none all)) (all_placed modules more (drop 1 all))) ∙ none) in
      subst (λ l. AllByRecursion IsRunnable (functions_with (f ∷ more) l)) are (
        All-from_recursion _ _ (by_body f (bodied_at modules f.site) first.0 first.1
            (ap (λ l. find is_unbuilt (placed_in modules f (first_or_none l))) are ∙ split.0)),
        all_run more rest.0 rest.1 (ap (λ l. find is_unbuilt (all_placed modules more (drop 1 l))) are ∙ split.1),
      )
