-- The programs that linked modules are are typed.
use Rattle.std.proofs.Common.{◌≡◌, refl, sym, ◌∙◌, ap, subst, ℕ, zero, suc, ◌≤◌, false, List, [], ◌∷◌, length, drop, get_or, Option, Some, None, Result, Ok, arith}
use Rattle.std.specs.Prelude.{slice_get, IsSomeAnd, IfSome, find}
use Rattle.std.specs.List.{All}
use Rattle.std.specs.Option.{is_some}
use Rattle.std.proofs.lemmas.List.{length-map}
use Rattle.std.proofs.lemmas.List.Elements.{All-from_recursion, All-weaker}
use Rattle.std.proofs.lemmas.Option.{same_Some, slice_get_within, get_or_from_slice_get, slice_get-get_or}
use Rattle.hilti_base.specs.declared.names.Place.{Place}
use Rattle.hilti_base.specs.declared.refusal.Refusal.{Refusal}
use Rattle.hilti_module.specs.declared.module.Line.{Line}
use Rattle.hilti_module.specs.declared.module.Module.{Module}
use Rattle.hilti_link.specs.declared.tables.LinkedFunction.{LinkedFunction}
use Rattle.hilti_link.specs.declared.tables.LinkedHook.{LinkedHook}
use Rattle.hilti_link.specs.Linking.{tables_of, modules_count}
use Rattle.hilti_link.specs.Refusals.{first_refusal}
use Rattle.hilti_parts.specs.declared.parts.Block.{Block}
use Rattle.hilti_parts.specs.declared.parts.Function.{Function}
use Rattle.hilti_parts.specs.declared.parts.Instruction.{Instruction}
use Rattle.hilti_parts.specs.declared.parts.Operand.{Operand}
use Rattle.hilti_parts.specs.declared.parts.Parts.{Parts}
use Rattle.hilti_parts.specs.Named.{named_function}
use Rattle.hilti_typing.specs.Programs as programs
use Rattle.hilti_code.specs.Runnable.{IsTypedProgram}
use Rattle.hilti_declared.specs.declared.hooks.HookBody.{HookBody}
use Rattle.hilti_declared.specs.Declaring.{function_of, functions_with, declared_parts}
use Rattle.hilti_declared.specs.Globals.{global_of}
use Rattle.hilti_declared.specs.Hooks.{hook_bodies, hooks_from}
use Rattle.hilti_declared.specs.Laws.{GlobalsBeginTyped, ExceptionsAreTyped, HooksAreTyped, BodiesBelongOnce, HookBodiesAreLinked, EntriesAreThere, AreShortTables, TablesAreShort, IsWrittenOf, FunctionsHaveBodies, BodiesAreShort}
use Rattle.hilti_declared.specs.Sites.{Bodied, bodied_at}
use Rattle.hilti_operands.specs.Laws.{NamesNoBody}
use Rattle.hilti_operands.proofs.ReadValues.{then_ok, ok_is}
use Rattle.hilti_bodies.specs.Blocks.{read_each, read_body}
use Rattle.hilti_bodies.specs.Laws.{IsCutAtLabels, ReadsTypedBlocks, ReadsNoBodies, ReadsShortBlocks}
use Rattle.hilti_check.specs.Built.{is_unbuilt, all_placed, parts_or}
use Rattle.hilti_check.specs.Checking.{meaning_inside, blocks_by, blocks_of, all_blocks, checked}
use Rattle.hilti_check.specs.Laws.{CheckedAreTyped}
use Rattle.hilti_check.proofs.Contexts.{exceptions_are, context_is}
use Rattle.hilti_check.proofs.Running.{all_run}

-- what is known of bodies that are read, and of what modules declare
pub record Known : Type 0 where
  pub cut : (body : List Line) (close : Place) → IsCutAtLabels body close
  pub blocks : ReadsTypedBlocks
  pub no_bodies : ReadsNoBodies
  pub short_blocks : ReadsShortBlocks
  pub exceptions : ExceptionsAreTyped
  pub globals : GlobalsBeginTyped
  pub hooks : HooksAreTyped
  pub linked : HookBodiesAreLinked
  pub once : BodiesBelongOnce
  pub entries : EntriesAreThere
  pub written : FunctionsHaveBodies
  pub short : TablesAreShort
  pub short_bodies : BodiesAreShort

-- a function of the program, as it is linked and read
pub record StandsAt (read : LinkedFunction → Result (List Block) Refusal) (fs : List LinkedFunction) (at : ℕ) (g : Function) : Type 0 where
  pub linked : LinkedFunction
  pub blocks : List Block
  pub stands : slice_get fs at ≡ Some linked
  pub is : function_of linked blocks ≡ g
  pub are_read : read linked ≡ Ok blocks

module _ (read : LinkedFunction → Result (List Block) Refusal) where
  stands_at : (fs : List LinkedFunction) (all : List (List Block)) (at : ℕ) (g : Function) → read_each read fs ≡ Ok all
      → slice_get (functions_with fs all) at ≡ Some g → StandsAt read fs at g
  unfolding read_each functions_with
  stands_at [] all at g e is = absurd cc
  stands_at (f ∷ more) all zero g e is =
      let first = then_ok (read f) _ all e in
      let rest = then_ok (read_each read more) _ all first.2 in
      let are : first.0 ∷ rest.0 ≡ all = ok_is (first.0 ∷ rest.0) all rest.2 in
      record {
        linked = f;
        blocks = first.0;
        stands = refl;
        is = same_Some (function_of f first.0) g (ap (λ l. slice_get (functions_with (f ∷ more) l) zero) are ∙ is);
        are_read = first.1;
      }
  stands_at (f ∷ more) all (suc at) g e is =
      let first = then_ok (read f) _ all e in
      let rest = then_ok (read_each read more) _ all first.2 in
      let are : first.0 ∷ rest.0 ≡ all = ok_is (first.0 ∷ rest.0) all rest.2 in
      let it = stands_at more rest.0 at g rest.1 (ap (λ l. slice_get (functions_with (f ∷ more) l) (suc at)) are ∙ is) in
      record { linked = it.linked; blocks = it.blocks; stands = it.stands; is = it.is; are_read = it.are_read }

-- what is there
there : {X : Type 0} {P : X → Type 0} (o : Option X) → IsSomeAnd o P → (x : X) × (o ≡ Some x) × P x
there (Some x) h = (x, refl, h)
there None h = absurd h

all_at : {X : Type 0} (P : X → Type 0) (xs : List X) (at : ℕ) (x : X) → All P xs → slice_get xs at ≡ Some x → P x
all_at P xs at x h is = subst P (get_or_from_slice_get xs at x x is) (h at x (slice_get_within xs at x is))

at_all : {X : Type 0} (P : X → Type 0) (xs : List X) → ((at : ℕ) (x : X) → slice_get xs at ≡ Some x → P x) → All P xs
at_all P xs h at d below = h at (get_or xs at d) (slice_get-get_or xs at d below)

-- a program, or an instruction that isn't built
accepted : (p parts : Parts) (o : Option (Place × Instruction)) → parts_or p o ≡ Ok parts → (p ≡ parts) × (o ≡ None)
accepted p parts None e = (ok_is p parts e, refl)
accepted p parts (Some x) e = absurd cc

length_functions : (fs : List LinkedFunction) (all : List (List Block)) → length (functions_with fs all) ≡ length fs
unfolding functions_with
length_functions [] all = refl
length_functions (f ∷ more) all = ap suc (length_functions more (drop 1 all))

length_hooks : (bodies : List HookBody) (n : ℕ) (hs : List LinkedHook) → length (hooks_from bodies n hs) ≡ length hs
unfolding hooks_from
length_hooks bodies n [] = refl
length_hooks bodies n (h ∷ more) = ap suc (length_hooks bodies (suc n) more)

module _ (known : Known) (modules : List Module) (all : List (List Block)) (links : first_refusal modules ≡ None) (few : modules_count modules ≤ 16777216)
    (read : all_blocks modules (tables_of modules) ≡ Ok all) where
  abbrev parts : Parts
  parts = declared_parts modules all

  -- no operand that names a function names a hook body
  names_none : (x : Operand) → NamesNoBody (tables_of modules) x → programs.NamesNoHookBody parts x
  names_none x h = by (named_function x) h
    where
      by : (o : Option ℕ) → IfSome o (λ n. IsSomeAnd (slice_get (tables_of modules).functions n) (λ (f : LinkedFunction). f.hook ≡ None)) → IfSome o (λ n. programs.is_hook_body parts n ≡ false)
      by None h = tt
      by (Some n) h =
          let it = there (slice_get (tables_of modules).functions n) h in
          known.linked modules all links n it.0 it.1 ∙ ap is_some it.2

  instruction_names : (i : Instruction) → All (NamesNoBody (tables_of modules)) i.operands → All (programs.NamesNoHookBody parts) i.operands
  instruction_names i h = All-weaker (NamesNoBody (tables_of modules)) (programs.NamesNoHookBody parts) names_none i.operands h

  block_names : (b : Block) → programs.EachOperand (NamesNoBody (tables_of modules)) b → programs.EachOperand (programs.NamesNoHookBody parts) b
  block_names b h =
      All-weaker (λ (i : Instruction). All (NamesNoBody (tables_of modules)) i.operands) (λ (i : Instruction). All (programs.NamesNoHookBody parts) i.operands)
      instruction_names b.instructions h

  -- each function as it is linked and read
  abbrev At : ℕ → Function → Type 0
  At at g = StandsAt (blocks_of modules (tables_of modules)) (tables_of modules).functions at g

  at_place : (at : ℕ) (g : Function) → slice_get parts.functions at ≡ Some g → At at g
  at_place at g is = stands_at (blocks_of modules (tables_of modules)) (tables_of modules).functions all at g read is

  -- with its body
  record BodyOf (f : LinkedFunction) (blocks : List Block) : Type 0 where
    b : Bodied
    written : IsWrittenOf modules f b
    are_read : read_body (meaning_inside modules f.site b) (tables_of modules) f b.body ≡ Ok blocks

  body_of : (at : ℕ) (g : Function) (it : At at g) → BodyOf it.linked it.blocks
  body_of at g it =
      let has = there {P = IsWrittenOf modules it.linked} (bodied_at modules it.linked.site) (all_at (λ (f : LinkedFunction). IsSomeAnd (bodied_at modules f.site) (IsWrittenOf modules f)) (tables_of modules).functions at it.linked (known.written modules) it.stands) in
      record {
        b = has.0;
        written = has.2;
        are_read = sym (ap (λ o. blocks_by modules (tables_of modules) it.linked o) has.1) ∙ it.are_read;
      }

  function_typed : (at : ℕ) (f : LinkedFunction) (blocks : List Block) → slice_get (tables_of modules).functions at ≡ Some f → BodyOf f blocks
      → programs.IsTypedFunction parts at (function_of f blocks)
  function_typed at f blocks stands body =
      let mean = meaning_inside modules f.site body.b in
      let are = known.blocks mean (tables_of modules) f body.b.body blocks body.are_read in
      let none = known.no_bodies mean (tables_of modules) f body.b.body blocks body.are_read in
      let same = context_is modules all at mean f body.b.body blocks are.count (known.linked modules all links at f stands) in
      record {
        parameters = body.written.parameters;
        begins = are.some;
        blocks = subst (λ c. All (programs.IsTypedBlock c f.parameters) blocks) (sym same) are.typed;
        called = All-weaker (programs.EachOperand (NamesNoBody (tables_of modules))) (programs.EachOperand (programs.NamesNoHookBody parts)) block_names blocks none;
      }

  functions_typed : (at : ℕ) (g : Function) → slice_get parts.functions at ≡ Some g → programs.IsTypedFunction parts at g
  functions_typed at g is =
      let it = at_place at g is in
      subst (programs.IsTypedFunction parts at) it.is (function_typed at it.linked it.blocks it.stands (body_of at g it))

  tables_short : AreShortTables (tables_of modules)
  tables_short = known.short modules (omega (arith, few))

  function_short : (at : ℕ) (f : LinkedFunction) (blocks : List Block) → slice_get (tables_of modules).functions at ≡ Some f → BodyOf f blocks
      → programs.IsShortFunction (function_of f blocks)
  function_short at f blocks stands body =
      let are = known.short_blocks (meaning_inside modules f.site body.b) (tables_of modules) f body.b.body blocks body.are_read in
      let lines = body.written.lines in
      let some = are.few in
      record {
        slots = all_at (λ (f : LinkedFunction). programs.IsShort f.slots) (tables_of modules).functions at f tables_short.slots stands;
        blocks = omega (arith, lines, some, few);
        instructions = All-weaker (λ (b : Block). length b.instructions ≤ length body.b.body.lines) (λ (b : Block). programs.IsShort b.instructions) (λ (b : Block) (h : length b.instructions ≤ length body.b.body.lines). omega (arith, lines, h, few)) blocks are.each;
      }

  functions_short : (at : ℕ) (g : Function) → slice_get parts.functions at ≡ Some g → programs.IsShortFunction g
  functions_short at g is =
      let it = at_place at g is in
      subst programs.IsShortFunction it.is (function_short at it.linked it.blocks it.stands (body_of at g it))

  parts_short : programs.AreShort parts
  parts_short =
      let tables = tables_of modules in
      let short = tables_short in
      record {
        types = short.types;
        globals = (let e = length-map tables.globals (global_of modules tables.types) in let s = short.globals in omega (arith, e, s));
        functions = (let e = length_functions tables.functions all in let s = short.functions in omega (arith, e, s));
        exceptions = (let e = exceptions_are tables.exceptions in let s = short.exceptions in omega (arith, e, s));
        hooks = (let e = length_hooks (hook_bodies modules tables.functions) 0 tables.hooks in let s = short.hooks in omega (arith, e, s));
        each = at_all programs.IsShortFunction parts.functions functions_short;
        bodies = known.short_bodies modules all short.functions;
      }

  pub parts_typed : programs.AreTyped parts
  parts_typed = record {
    globals = known.globals modules all links;
    exceptions = known.exceptions modules links;
    hooks = known.hooks modules all links;
    bodies = known.once modules all;
    functions = functions_typed;
    entries = known.entries modules all links;
    short = parts_short;
  }

pub typed : Known → CheckedAreTyped
unfolding checked
typed known modules parts links few e =
    let blocks = then_ok (all_blocks modules (tables_of modules)) _ parts e in
    let it = accepted (declared_parts modules blocks.0) parts (find is_unbuilt (all_placed modules (tables_of modules).functions blocks.0)) blocks.2 in
    subst IsTypedProgram it.0 (record {
      typed = parts_typed known modules blocks.0 links few blocks.1;
      runnable = All-from_recursion _ _ (all_run known.cut modules (tables_of modules) (tables_of modules).functions blocks.0 blocks.1 it.1);
    })
