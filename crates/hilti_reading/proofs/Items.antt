-- Trees of items that a text can have tell which items they are of.
use Rattle.std.proofs.Common.{◌≡◌, List, refl, ap}
use Rattle.std.specs.Prelude.{Option, Some, None}
use Rattle.hilti_grammar.specs.Grammar.{Symbol.Rule, Tree.Nothing, Tree.Pair, Tree.Left, Tree.Right}
use Rattle.hilti_module.specs.declared.types.TypeText.{TypeText}
use Rattle.hilti_module.specs.declared.types.Word.{Word}
use Rattle.hilti_module.specs.declared.types.Name.{Name}
use Rattle.hilti_module.specs.declared.types.Number.{Number}
use Rattle.hilti_module.specs.declared.module.Body.{Body}
use Rattle.hilti_module.specs.declared.module.Item.{Item}
use Rattle.hilti_module.specs.declared.module.Item.TheVariants as items
use Rattle.hilti_module.specs.declared.module.Literal.{Literal}
use Rattle.hilti_module.specs.declared.module.Parameter.{Parameter}
use Rattle.hilti_read_literals.specs.Literals.{literal_tree}
use Rattle.hilti_read_shapes.specs.Shapes.{arguments_tree, shape_tree}
use Rattle.hilti_syntax.specs.Items.{body_tree, hook_tree, behind_hook, result_tree, item_tree}
use Rattle.hilti_reader.specs.Modules.{RuleName.ItemText as an_item, RuleName.HookRest as hook_rest, RuleName.HookBody as hook_body, grammar}
use Rattle.hilti_reader.specs.Spelled.{ModuleTree, word_tree, number_tree, behind_mark, maybe_tree}
use Rattle.hilti_read_types.specs.Trees.{type_tree}
use Rattle.hilti_reading.proofs.Equal.{both, all_three, all_four}
use Rattle.hilti_reading.proofs.Fits.{Fits, fits_both, fits_left, fits_right, fits_rule}
use Rattle.hilti_reading.proofs.Lines.{body_one}
use Rattle.hilti_reading.proofs.Literals.{literal_one}
use Rattle.hilti_reading.proofs.Shapes.{maybe_one, arguments_one, shape_one}
use Rattle.hilti_reading.proofs.Spots.{word_one, number_one}
use Rattle.hilti_reading.proofs.Types.{one_type}

abbrev value_behind : Literal → ModuleTree
value_behind literal = behind_mark (literal_tree literal)

abbrev pub number_behind : Number → ModuleTree
number_behind number = behind_mark (number_tree number)

value_one : (a b : Literal) → value_behind a ≡ value_behind b → a ≡ b
value_one a b e = literal_one a b (let here : literal_tree a ≡ literal_tree b = cc in here)

pub number_behind_one : (a b : Number) → number_behind a ≡ number_behind b → a ≡ b
number_behind_one a b e = number_one a b (let here : number_tree a ≡ number_tree b = cc in here)

result_one : (a b : Option TypeText) → result_tree a ≡ result_tree b → a ≡ b
result_one None None e = refl
result_one None (Some b) e = cc
result_one (Some a) None e = cc
result_one (Some a) (Some b) e = ap Some (one_type a b (let here : type_tree a ≡ type_tree b = cc in here))

hook_one : (p q : Option Number) (a b : Body) → Fits grammar (Rule hook_body) (hook_tree p a) → hook_tree p a ≡ hook_tree q b → (p ≡ q) × (a ≡ b)
hook_one p q a b h e = (
  maybe_one number_behind number_behind_one p q (let here : maybe_tree number_behind p ≡ maybe_tree number_behind q = cc in here),
  body_one a b (fits_both grammar _ _ _ _ (fits_rule grammar hook_body _ h)).1 (let here : body_tree a ≡ body_tree b = cc in here),
)

-- what stands behind the first word of a hook's body
behind_hook_one : (v w : Option Word) (xs ys : List Parameter) (a b : ModuleTree) → behind_hook v xs a ≡ behind_hook w ys b → (v ≡ w) × (xs ≡ ys) × (a ≡ b)
behind_hook_one None None xs ys a b e = (refl, arguments_one xs ys (let here : arguments_tree xs ≡ arguments_tree ys = cc in here), cc)
behind_hook_one None (Some w) xs ys a b e = cc
behind_hook_one (Some v) None xs ys a b e = cc
behind_hook_one (Some v) (Some w) xs ys a b e =
    (ap Some (word_one v w (let here : word_tree v ≡ word_tree w = cc in here)), arguments_one xs ys (let here : arguments_tree xs ≡ arguments_tree ys = cc in here), cc)

behind_hook_fits : (v : Option Word) (xs : List Parameter) (a : ModuleTree) → Fits grammar (Rule hook_rest) (behind_hook v xs a) → Fits grammar (Rule hook_body) a
behind_hook_fits None xs a h = fits_right grammar _ _ _ (fits_both grammar _ _ _ _ (fits_right grammar _ _ _ (fits_rule grammar hook_rest _ h))).1
behind_hook_fits (Some w) xs a h = (fits_both grammar _ _ _ _ (fits_both grammar _ _ _ _ (fits_both grammar _ _ _ _ (fits_left grammar _ _ _ (fits_rule grammar hook_rest _ h))).1).1).1

-- a declared hook isn't one with a body
no_body : (v : Option Word) (xs ys : List Parameter) (a : ModuleTree) → behind_hook v xs a ≡ Right (Pair (arguments_tree ys) (Left Nothing)) → ⊥
no_body None xs ys a e = cc
no_body (Some w) xs ys a e = cc

abbrev name_of : Word → Option Word → Name
name_of first second = record { first = first; second = second }

two_bodies : (m n : Name) (xs ys : List Parameter) (p q : Option Number) (a b : Body) →
    Fits grammar (Rule an_item) (item_tree (items.HookBody m xs p a)) → item_tree (items.HookBody m xs p a) ≡ item_tree (items.HookBody n ys q b) →
    items.HookBody m xs p a ≡ items.HookBody n ys q b
two_bodies m n xs ys p q a b h e =
    let first = word_one m.first n.first (let here : word_tree m.first ≡ word_tree n.first = cc in here) in
    let behind : behind_hook m.second xs (hook_tree p a) ≡ behind_hook n.second ys (hook_tree q b) = cc in
    let same = behind_hook_one m.second n.second xs ys (hook_tree p a) (hook_tree q b) behind in
    let fits = (fits_both grammar _ _ _ _ (fits_both grammar _ _ _ _ (fits_left grammar _ _ _ (fits_right grammar _ _ _ (fits_right grammar _ _ _ (fits_rule grammar an_item _ h))))).1).1 in
    let hooks = hook_one p q a b (behind_hook_fits m.second xs (hook_tree p a) fits) same.2 in
    all_four (λ name parameters priority body. items.HookBody name parameters priority body) (both name_of first same.0) same.1 hooks.0 hooks.1

two_functions : (r s : Option TypeText) (m n : Word) (xs ys : List Parameter) (a b : Body) →
    Fits grammar (Rule an_item) (item_tree (items.Function r m xs a)) → item_tree (items.Function r m xs a) ≡ item_tree (items.Function s n ys b) →
    items.Function r m xs a ≡ items.Function s n ys b
two_functions r s m n xs ys a b h e =
    let fits = (fits_both grammar _ _ _ _ (fits_both grammar _ _ _ _ (fits_both grammar _ _ _ _ (fits_right grammar _ _ _ (fits_right grammar _ _ _ (fits_right grammar _ _ _ (fits_rule grammar an_item _ h))))).1).1).1 in
    all_four (λ result name parameters body. items.Function result name parameters body)
    (result_one r s (let here : result_tree r ≡ result_tree s = cc in here))
    (word_one m n (let here : word_tree m ≡ word_tree n = cc in here))
    (arguments_one xs ys (let here : arguments_tree xs ≡ arguments_tree ys = cc in here))
    (body_one a b fits (let here : body_tree a ≡ body_tree b = cc in here))

pub item_one : (a b : Item) → Fits grammar (Rule an_item) (item_tree a) → item_tree a ≡ item_tree b → a ≡ b
item_one (items.Type m x) (items.Type n y) h e =
    both (λ name shape. items.Type name shape) (word_one m n (let here : word_tree m ≡ word_tree n = cc in here))
    (shape_one x y (let here : shape_tree x ≡ shape_tree y = cc in here))
item_one (items.Global t m v) (items.Global u n w) h e =
    all_three (λ kind name value. items.Global kind name value) (one_type t u (let here : type_tree t ≡ type_tree u = cc in here))
    (word_one m n (let here : word_tree m ≡ word_tree n = cc in here))
    (maybe_one value_behind value_one v w (let here : maybe_tree value_behind v ≡ maybe_tree value_behind w = cc in here))
item_one (items.Hook m xs) (items.Hook n ys) h e =
    both (λ name parameters. items.Hook name parameters) (word_one m n (let here : word_tree m ≡ word_tree n = cc in here))
    (arguments_one xs ys (let here : arguments_tree xs ≡ arguments_tree ys = cc in here))
item_one (items.Hook m xs) (items.HookBody n ys q b) h e =
    absurd (no_body n.second ys xs (hook_tree q b) (let here : behind_hook n.second ys (hook_tree q b) ≡ Right (Pair (arguments_tree xs) (Left Nothing)) = cc in here))
item_one (items.HookBody m xs p a) (items.Hook n ys) h e =
    absurd (no_body m.second xs ys (hook_tree p a) (let here : behind_hook m.second xs (hook_tree p a) ≡ Right (Pair (arguments_tree ys) (Left Nothing)) = cc in here))
item_one (items.HookBody m xs p a) (items.HookBody n ys q b) h e = two_bodies m n xs ys p q a b h e
item_one (items.Function r m xs a) (items.Function s n ys b) h e = two_functions r s m n xs ys a b h e
item_one a b h e = cc
