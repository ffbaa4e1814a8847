-- Fresh threads and entries are typed.
use Rattle.std.proofs.Common.{List, [], ◌∷◌, map, refl, sym, ap, ◌∙◌, IsSomeAnd, inl, inr}
use Rattle.std.proofs.Math.Path.{subst}
use Rattle.std.specs.List.{AllByRecursion, AllZip}
use Rattle.std.proofs.lemmas.List.Elements.{recursion_from_All}
use Rattle.hilti_types.specs.declared.declared.Declared.{Declared}
use Rattle.hilti_parts.specs.declared.parts.Global.{Global}
use Rattle.hilti_parts.specs.declared.parts.Parts.{Parts}
use Rattle.hilti_typing.specs.Programs.{BeginsTyped}
use Rattle.hilti_effects.specs.Effect.{value_of_tree}
use Rattle.hilti_code.specs.Runnable.{IsTypedProgram}
use Rattle.hilti_shapes.specs.Needs.{Meets, Has, no_kinds}
use Rattle.hilti_shapes.specs.Keeping.{FreshThreadsAreTyped, EntriesAreTyped}
use Rattle.hilti_shapes.proofs.Defaults.{has_value, default_is_first}
use Rattle.hilti_shapes.proofs.Firsts.{first_has}
use Rattle.hilti_shapes.proofs.Sources.{literal_is}
use Rattle.hilti_shapes.proofs.Stores.{empty_typed}
use Rattle.hilti_shapes.proofs.Entering.{entry_at}
use Rattle.hilti_shapes.proofs.Growing.{same_kinds}

module _ (table : List Declared) where
  global_has : (g : Global) → BeginsTyped table g → Has table no_kinds (value_of_tree g.first) g.kind
  global_has g (inl is) = subst (λ o. IsSomeAnd o (Meets no_kinds))
      (sym (literal_is table g.kind g.first (value_of_tree g.first) is (has_value table g.kind g.first is))) tt
  global_has g (inr is) = subst (λ v. Has table no_kinds v g.kind)
      (sym (ap value_of_tree is ∙ default_is_first g.kind)) (first_has table g.kind)

  globals_have : (gs : List Global) → AllByRecursion (BeginsTyped table) gs
      → AllZip (Has table no_kinds) (map (λ (g : Global). value_of_tree g.first) gs) (map (λ (g : Global). g.kind) gs)
  globals_have [] h = tt
  globals_have (g ∷ gs) h = (global_has g h.0, globals_have gs h.1)

pub fresh_threads_are_typed : (parts : Parts) → IsTypedProgram parts → FreshThreadsAreTyped parts
fresh_threads_are_typed parts program number = record {
  globals_are = globals_have parts.types parts.globals
      (recursion_from_All (BeginsTyped parts.types) parts.globals program.typed.globals);
  store_is = empty_typed parts;
}

pub entries_are_typed : (parts : Parts) → IsTypedProgram parts → EntriesAreTyped parts
entries_are_typed parts program f function target arguments kinds e h = record {
  frame_is = entry_at parts program f function target arguments kinds e h;
  alone = λ st state. record {
    grown = kinds;
    grows = same_kinds kinds;
    position = record { function = f; block = 0; at = 0; target = target };
    stands = refl;
    config = record {
      top = entry_at parts program f function target arguments kinds e h;
      below = tt;
      chain = tt;
      shared = state;
      none_made = refl;
    };
  };
}
