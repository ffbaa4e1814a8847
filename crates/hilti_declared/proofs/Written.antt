-- Each function that is linked has a body at its site.
use Rattle.std.proofs.Common.{◌≡◌, refl, sym, ◌∙◌, ap, subst, ℕ, ◌≤◌, List, [], ◌∷◌, ◌++◌, length, Option, Some, None, IsSomeAnd, arith}
use Rattle.std.specs.List.{All}
use Rattle.std.specs.Prelude.{slice_get, sum_by}
use Rattle.std.proofs.lemmas.List.{length-append, length-map}
use Rattle.std.proofs.lemmas.List.Elements.{All-nil, All-push}
use Rattle.std.proofs.lemmas.List.Sums.{sum_by-cons, get_or-le-sum_by}
use Rattle.std.proofs.lemmas.Option.{slice_get_within, get_or_from_slice_get}
use Rattle.hilti_module.specs.Counts.{line_count, body_count, item_count, module_count}
use Rattle.hilti_module.specs.declared.types.Word.{Word}
use Rattle.hilti_module.specs.declared.module.Body.{Body}
use Rattle.hilti_module.specs.declared.module.Item.{Item}
use Rattle.hilti_module.specs.declared.module.Item.TheVariants as items
use Rattle.hilti_module.specs.declared.module.Line.{Line}
use Rattle.hilti_module.specs.declared.module.Line.TheVariants as lines
use Rattle.hilti_module.specs.declared.module.Module.{Module}
use Rattle.hilti_module.specs.declared.module.Parameter.{Parameter}
use Rattle.hilti_module.specs.declared.module.Shape.{Shape}
use Rattle.hilti_module.specs.declared.module.Shape.TheVariants as shapes
use Rattle.hilti_types.specs.declared.value_type.ValueType.{ValueType}
use Rattle.hilti_link.specs.declared.tables.LinkedFunction.{LinkedFunction}
use Rattle.hilti_link.specs.Items.{Seen, function_of, slots_of, slots_view, tables_behind}
use Rattle.hilti_link.specs.Linking.{behind_item, modules_count, tables_of}
use Rattle.hilti_link.specs.Seeing.{type_at}
use Rattle.hilti_link.specs.Versions.{version_of}
use Rattle.hilti_declared.specs.Laws.{FunctionsHaveBodies, IsWrittenOf}
use Rattle.hilti_declared.specs.Sites.{bodied, bodied_at}
use Rattle.hilti_declared.proofs.Standing.{There, item_standing, passed}

-- what one of some things counts is no more than what all of them do
pub one_of : {X : Type 0} (count : X → ℕ) (all : List X) (n : ℕ) (x : X) → slice_get all n ≡ Some x → count x ≤ sum_by count all
one_of count all n x at =
    let within = get_or-le-sum_by count all n x (slice_get_within all n x at) in
    let same = ap count (get_or_from_slice_get all n x x at) in
    omega (arith, within, same)

line_counts : (line : Line) → 1 ≤ line_count line
line_counts (lines.Label place name handlers) = omega arith
line_counts (lines.Instruction target mnemonic inside) = omega arith

lines_count : (all : List Line) → length all ≤ sum_by line_count all
lines_count [] = omega arith
lines_count (line ∷ more) =
    let first = line_counts line in
    let rest = lines_count more in
    omega (arith, first, rest, sum_by-cons line_count line more)

item_counts : (modules : List Module) (s : Seen) (item : Item) → There modules s item → item_count item ≤ modules_count modules
item_counts modules s item there =
    let inside = one_of item_count there.owner.items s.at item there.in_module in
    let among = one_of (λ (m : Module). module_count m.items) modules s.file there.owner there.in_modules in
    omega (arith, inside, among)

module _ (modules : List Module) where
  abbrev HasBody : LinkedFunction → Type 0
  HasBody f = IsSomeAnd (bodied_at modules f.site) (IsWrittenOf modules f)

  abbrev AllHaveBodies : Seen → Type 0
  AllHaveBodies s = All HasBody s.tables.functions

  -- the function of an item of this body
  module _ (s : Seen) (word : Word) (name : List ℕ) (parameters : List Parameter) (body : Body) (result : Option ValueType) (hook : Option ℕ) where
    abbrev new : LinkedFunction
    new = function_of s word name parameters body result hook

    new_written : (item : Item) → There modules s item → body_count body ≤ modules_count modules → IsWrittenOf modules new (record { parameters = parameters; body = body })
    new_written item there few =
        let slots = slots_of parameters body in
        let kinds = length-map slots (λ (p : Parameter). type_at (slots_view s slots) p.kind) in
        let both = length-append parameters body.locals in
        let counted = lines_count body.lines in
        record {
          parameters = omega (arith, kinds, both);
          lines = omega (arith, few, counted);
          version = subst (λ (o : Option Module). IsSomeAnd o (λ (m : Module). s.version ≡ version_of m.version)) (sym there.in_modules) there.version_is;
        }

    new_has_body : (item : Item) → There modules s item → bodied (Some item) ≡ Some (record { parameters = parameters; body = body }) → body_count body ≤ item_count item
        → AllHaveBodies s → All HasBody (s.tables.functions ++ new ∷ [])
    new_has_body item there is less p =
        let counted = item_counts modules s item there in
        All-push HasBody s.tables.functions new p
        (subst (λ o. IsSomeAnd o (IsWrittenOf modules new)) (sym (ap bodied (item_standing modules s item word there) ∙ is)) (new_written item there (omega (arith, counted, less))))

  type_step : (s : Seen) (name : Word) (shape : Shape) → AllHaveBodies s → AllHaveBodies (behind_item s (items.Type name shape))
  unfolding tables_behind
  type_step s name (shapes.Struct place fields) p = p
  type_step s name (shapes.Enum place words) p = p
  type_step s name (shapes.Overlay place fields) p = p
  type_step s name (shapes.Exception place parent) p = p

  bodies_step : (s : Seen) (item : Item) → There modules s item → AllHaveBodies s → AllHaveBodies (behind_item s item)
  unfolding tables_behind
  bodies_step s (items.Type name shape) there p = type_step s name shape p
  bodies_step s (items.Global kind name value) there p = p
  bodies_step s (items.Hook name parameters) there p = p
  bodies_step s (items.HookBody name parameters priority body) there p =
      new_has_body s name.first _ parameters body None _ (items.HookBody name parameters priority body) there refl (omega arith) p
  bodies_step s (items.Function result name parameters body) there p =
      new_has_body s name _ parameters body _ None (items.Function result name parameters body) there refl (omega arith) p

pub functions_have_bodies : FunctionsHaveBodies
unfolding tables_of
functions_have_bodies modules = passed modules (AllHaveBodies modules) (λ s m p. p) (λ s p. p) (bodies_step modules) (All-nil (HasBody modules))
