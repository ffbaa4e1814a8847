-- The lines of a body are typed in what the parts of the program are.
use Rattle.std.proofs.Common.{◌≡◌, refl, ap, ℕ, suc, ◌+◌, List, [], ◌∷◌, length, map, drop, arith}
use Rattle.std.specs.Option.{is_some}
use Rattle.std.proofs.lemmas.List.{length-append, length-map}
use Rattle.hilti_module.specs.declared.module.Body.{Body}
use Rattle.hilti_module.specs.declared.module.Module.{Module}
use Rattle.hilti_module.specs.declared.types.Name.{Name}
use Rattle.hilti_scope.specs.declared.meaning.Meaning.{Meaning}
use Rattle.hilti_link.specs.declared.tables.LinkedException.{LinkedException}
use Rattle.hilti_link.specs.declared.tables.LinkedFunction.{LinkedFunction}
use Rattle.hilti_link.specs.declared.tables.LinkedGlobal.{LinkedGlobal}
use Rattle.hilti_link.specs.declared.tables.LinkedHook.{LinkedHook}
use Rattle.hilti_link.specs.Linking.{tables_of}
use Rattle.hilti_types.specs.declared.declared.Declared.{Declared}
use Rattle.hilti_parts.specs.declared.parts.Block.{Block}
use Rattle.hilti_parts.specs.declared.parts.Global.{Global}
use Rattle.hilti_typing.specs.Exceptions.{built_in_exceptions}
use Rattle.hilti_typing.specs.Programs as programs
use Rattle.hilti_declared.specs.declared.hooks.HookBody.{HookBody}
use Rattle.hilti_declared.specs.Declaring.{exception_of, exceptions_of, function_of, functions_with, declared_parts}
use Rattle.hilti_declared.specs.Globals.{global_of}
use Rattle.hilti_declared.specs.Hooks.{hook_bodies, hooks_from}
use Rattle.hilti_operands.specs.Seen as seen
use Rattle.hilti_bodies.specs.Blocks.{seen_in}
use Rattle.hilti_bodies.specs.Sections.{sections}

kinds_are : (modules : List Module) (types : List Declared) (gs : List LinkedGlobal)
    → map (λ (g : Global). g.kind) (map (global_of modules types) gs) ≡ map (λ (g : LinkedGlobal). g.kind) gs
kinds_are modules types [] = refl
kinds_are modules types (g ∷ gs) = ap (λ l. g.kind ∷ l) (kinds_are modules types gs)

signatures_are : (fs : List LinkedFunction) (all : List (List Block)) → map programs.signature (functions_with fs all) ≡ map seen.function_signature fs
unfolding functions_with
signatures_are [] all = refl
signatures_are (f ∷ more) all = ap (λ l. seen.function_signature f ∷ l) (signatures_are more (drop 1 all))

hooks_are : (bodies : List HookBody) (n : ℕ) (hs : List LinkedHook) → map programs.hook_signature (hooks_from bodies n hs) ≡ map seen.hook_signature hs
unfolding hooks_from
hooks_are bodies n [] = refl
hooks_are bodies n (h ∷ more) = ap (λ l. seen.hook_signature h ∷ l) (hooks_are bodies (suc n) more)

pub exceptions_are : (es : List LinkedException) → length (exceptions_of es) ≡ 7 + length es
exceptions_are es =
    let of = length-map es exception_of in
    let all = length-append built_in_exceptions (map exception_of es) in
    omega (arith, of, all)

-- the context of a function of the program is that of its body, where it is a hook body as it is linked
pub context_is : (modules : List Module) (all : List (List Block)) (at : ℕ) (mean : Name → Meaning) (f : LinkedFunction) (body : Body) (blocks : List Block)
    → length blocks ≡ length (sections body.lines body.close)
    → programs.is_hook_body (declared_parts modules all) at ≡ is_some f.hook
    → programs.context (declared_parts modules all) at (function_of f blocks)
    ≡ seen.context (seen_in mean (tables_of modules) f (sections body.lines body.close))
context_is modules all at mean f body blocks count linked =
    let tables = tables_of modules in
    let globals = kinds_are modules tables.types tables.globals in
    let functions = signatures_are tables.functions all in
    let hooks = hooks_are (hook_bodies modules tables.functions) 0 tables.hooks in
    let exceptions = exceptions_are tables.exceptions in
    λ i. record {
      declared = tables.types;
      globals = globals i;
      functions = functions i;
      hooks = hooks i;
      exceptions = exceptions i;
      slots = f.slots;
      blocks = count i;
      result = f.result;
      in_hook = linked i;
    }
