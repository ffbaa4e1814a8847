-- The hooks of some modules, found one item after another.
use Rattle.std.proofs.Common.{◌≡◌, refl, sym, ◌∙◌, ap, ℕ, suc, ◌+◌, ◌<◌, ◌≤◌, List, [], ◌∷◌, ◌++◌, length, drop, get_or, arith, append_assoc, append-nil, length-append}
use Rattle.std.proofs.lemmas.List.{at_drop_more, at_drop_all, length-map}
use Rattle.hilti_module.specs.declared.module.Module.{Module}
use Rattle.hilti_module.specs.declared.module.Item.{Item}
use Rattle.hilti_module.specs.declared.module.Item.TheVariants as items
use Rattle.hilti_module.specs.declared.module.Parameter.{Parameter}
use Rattle.hilti_module.specs.declared.types.Word.{Word}
use Rattle.hilti_scope.specs.Items.{Placed, placed_in, placed_from}
use Rattle.hilti_link.specs.Hooks.{Announced, announced_at, announced_from}

abbrev placed_as : ℕ → Item → Placed
placed_as file item = record { file = file; item = item }

length-placed : (file : ℕ) (items : List Item) → length (placed_in file items) ≡ length items
length-placed file items = length-map items (placed_as file)

one_further : (here : ℕ) (next : Placed) (more : List Placed) → announced_from here (next ∷ more) ≡ announced_at here next ++ announced_from (here + 1) more
unfolding announced_from
one_further here next more = ap (λ there. announced_at here next ++ announced_from there more) (omega arith)

none_left : (here : ℕ) → announced_from here [] ≡ []
unfolding announced_from
none_left here = refl

announced-append : (here : ℕ) (front others : List Placed) → announced_from here (front ++ others) ≡ announced_from here front ++ announced_from (here + length front) others
unfolding announced_from
announced-append here [] others = ap (λ there. announced_from there others) (omega arith)
announced-append here (next ∷ front) others =
    ap (λ l. announced_at here next ++ l) (announced-append (suc here) front others ∙ ap (λ there. announced_from (suc here) front ++ announced_from there others) (omega arith))
    ∙ sym (append_assoc (announced_at here next) (announced_from (suc here) front) (announced_from (here + suc (length front)) others))

-- a hook is announced where it stands
pub here_is : (here file : ℕ) (item : Item) (name : Word) (parameters : List Parameter) → item ≡ items.Hook name parameters
    → announced_at here (placed_as file item) ≡ record { file = file; here = here; parameters = parameters } ∷ []
here_is here file item name parameters is = ap (λ item. announced_at here (placed_as file item)) is

-- and nothing else is
pub none_here : (here file : ℕ) (item : Item) → ((name : Word) (parameters : List Parameter) → item ≡ items.Hook name parameters → ⊥)
    → announced_at here (placed_as file item) ≡ []
none_here here file (items.Type name shape) none = refl
none_here here file (items.Global kind name value) none = refl
none_here here file (items.Hook name parameters) none = absurd (none name parameters refl)
none_here here file (items.HookBody name parameters priority body) none = refl
none_here here file (items.Function result name parameters body) none = refl

-- in a module: what is found so far, and what is left of its items
module _ (all : List Announced) (file here : ℕ) (items : List Item) (at : ℕ) (item : Item) (found : List Announced) where
  abbrev left : ℕ → List Announced
  left at = announced_from (here + at) (placed_in file (drop at items))

  ahead : at < length items → item ≡ get_or items at item → found ++ left at ≡ all → (found ++ announced_at (here + at) (placed_as file item)) ++ left (at + 1) ≡ all
  ahead below is so_far =
      append_assoc found (announced_at (here + at) (placed_as file item)) (left (at + 1))
      ∙ ap (λ l. found ++ l) (ap (λ there. announced_at (here + at) (placed_as file item) ++ announced_from there (placed_in file (drop (at + 1) items))) (omega arith) ∙ sym (one_further (here + at) (placed_as file item) (placed_in file (drop (at + 1) items))))
      ∙ ap (λ item. found ++ announced_from (here + at) (placed_in file (item ∷ drop (at + 1) items))) is
      ∙ sym (at_drop_more (λ items. found ++ announced_from (here + at) (placed_in file items)) items at item below)
      ∙ so_far

  -- this item is a hook
  pub hook_more : (hook : Announced) (new : List Announced) → at < length items → item ≡ get_or items at item → found ++ left at ≡ all
      → announced_at (here + at) (placed_as file item) ≡ hook ∷ [] → new ≡ found ++ hook ∷ [] → new ++ left (at + 1) ≡ all
  hook_more hook new below is so_far here_is new_is = ap (λ l. l ++ left (at + 1)) (new_is ∙ ap (λ l. found ++ l) (sym here_is)) ∙ ahead below is so_far

  -- this item is none
  pub hook_none : at < length items → item ≡ get_or items at item → found ++ left at ≡ all → announced_at (here + at) (placed_as file item) ≡ []
      → found ++ left (at + 1) ≡ all
  hook_none below is so_far none = ap (λ l. l ++ left (at + 1)) (sym (append-nil found) ∙ ap (λ l. found ++ l) (sym none)) ∙ ahead below is so_far

-- no item is left
pub hooks_end : (all : List Announced) (file here : ℕ) (items : List Item) (at : ℕ) (found : List Announced) → length items ≤ at
    → found ++ announced_from (here + at) (placed_in file (drop at items)) ≡ all → found ≡ all
hooks_end all file here items at found past so_far =
    sym (append-nil found) ∙ ap (λ l. found ++ l) (sym (none_left (here + at)))
    ∙ sym (at_drop_all (λ items. found ++ announced_from (here + at) (placed_in file items)) items at past) ∙ so_far

-- over modules: what is found so far, and what is left of the modules
abbrev pub left_of : ℕ → ℕ → List Module → List Announced
left_of here file modules = announced_from here (placed_from file (drop file modules))

placed_further : (file : ℕ) (m : Module) (more : List Module) → placed_from file (m ∷ more) ≡ placed_in file m.items ++ placed_from (file + 1) more
unfolding placed_from
placed_further file m more = ap (λ next. placed_in file m.items ++ placed_from next more) (omega arith)

no_module : (file : ℕ) → placed_from file [] ≡ []
unfolding placed_from
no_module file = refl

module _ (modules : List Module) (file : ℕ) (m : Module) (below : file < length modules) (is : m ≡ get_or modules file m) where
  placed_left : placed_from file (drop file modules) ≡ placed_in file m.items ++ placed_from (file + 1) (drop (file + 1) modules)
  placed_left =
      at_drop_more (placed_from file) modules file m below
      ∙ ap (λ m. placed_from file (m ∷ drop (file + 1) modules)) (sym is)
      ∙ placed_further file m (drop (file + 1) modules)

  -- the numbers of a module's items and of those that are left
  pub counted_left : (here all : ℕ) → here + length (placed_from file (drop file modules)) ≡ all
      → (here + length m.items) + length (placed_from (file + 1) (drop (file + 1) modules)) ≡ all
  counted_left here all so_far =
      let one = ap length placed_left in
      let joined = length-append (placed_in file m.items) (placed_from (file + 1) (drop (file + 1) modules)) in
      let same = length-placed file m.items in
      omega (arith, one, joined, same, so_far)

  -- the hooks of one more module
  pub module_more : (all found new : List Announced) (here : ℕ) → found ++ left_of here file modules ≡ all
      → new ≡ found ++ announced_from here (placed_in file m.items) → new ++ left_of (here + length m.items) (file + 1) modules ≡ all
  module_more all found new here so_far new_is =
      let rest = placed_from (file + 1) (drop (file + 1) modules) in
      ap (λ l. l ++ left_of (here + length m.items) (file + 1) modules) new_is
      ∙ append_assoc found (announced_from here (placed_in file m.items)) (announced_from (here + length m.items) rest)
      ∙ ap (λ count. found ++ (announced_from here (placed_in file m.items) ++ announced_from (here + count) rest)) (sym (length-placed file m.items))
      ∙ ap (λ l. found ++ l) (sym (announced-append here (placed_in file m.items) rest))
      ∙ ap (λ l. found ++ announced_from here l) (sym placed_left)
      ∙ so_far

-- no module is left
pub modules_end : (modules : List Module) (file here : ℕ) (all found : List Announced) → length modules ≤ file → found ++ left_of here file modules ≡ all → found ≡ all
modules_end modules file here all found past so_far =
    sym (append-nil found) ∙ ap (λ l. found ++ l) (sym (ap (announced_from here) (no_module file) ∙ none_left here))
    ∙ sym (at_drop_all (λ modules. found ++ announced_from here (placed_from file modules)) modules file past) ∙ so_far
