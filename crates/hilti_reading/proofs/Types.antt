-- Trees of types tell what type they are of: by induction over the types that contain each other.
use Rattle.std.proofs.Common.{◌≡◌, List, [], ◌∷◌, refl, sym, ◌∙◌, ap, subst}
use Rattle.std.specs.Prelude.{map}
use Rattle.hilti_grammar.specs.Reads.{separated_tree}
use Rattle.hilti_module.specs.declared.types.TypeText.{TypeText, roll-TypeText}
use Rattle.hilti_module.specs.declared.types.Container.{Container, roll-Container}
use Rattle.hilti_module.specs.declared.types.InnerText.{InnerText, roll-InnerText}
use Rattle.hilti_module.specs.declared.types.Parametric.{Parametric, roll-Parametric}
use Rattle.hilti_module.specs.declared.types.Container.TheFolds.{ind-Container, ind-InnerText, ind-Parametric, ind-TypeText, fold-roll-Container, fold-roll-InnerText, fold-roll-Parametric, fold-roll-TypeText, map-Container, map-InnerText, map-Parametric, map-TypeText}
use Rattle.hilti_module.specs.declared.types.Container.TheOpen.{Container-F, InnerText-F, Parametric-F, TypeText-F}
use Rattle.hilti_kinds.specs.declared.kind.Kind.TheVariants as kinds
use Rattle.hilti_reader.specs.Spelled.{ModuleTree, plain_kind, inner_kind, single_kind, double_kind, keyword_at}
use Rattle.hilti_read_types.specs.Trees.{container_step, inner_step, parametric_step, type_step, container_tree, inner_tree, parametric_tree, type_tree}
use Rattle.hilti_reading.proofs.Equal.{both, all_three, all_four}
use Rattle.hilti_reading.proofs.Spots.{spelled_one, name_one, number_one, plain_one, inner_one, single_one, double_one}
use Rattle.hilti_reading.proofs.Sequences.{separated_one, map_same}

-- what is to be shown of each type
abbrev IsContainer : Container → Type 0
IsContainer a = (b : Container) → container_tree a ≡ container_tree b → a ≡ b

abbrev IsInner : InnerText → Type 0
IsInner a = (b : InnerText) → inner_tree a ≡ inner_tree b → a ≡ b

abbrev IsParametric : Parametric → Type 0
IsParametric a = (b : Parametric) → parametric_tree a ≡ parametric_tree b → a ≡ b

abbrev IsType : TypeText → Type 0
IsType a = (b : TypeText) → type_tree a ≡ type_tree b → a ≡ b

-- one layer of each, with what is shown of the types in it
abbrev Containers : Type 0
Containers = (a : Container) × IsContainer a

abbrev Inners : Type 0
Inners = (a : InnerText) × IsInner a

abbrev Parametrics : Type 0
Parametrics = (a : Parametric) × IsParametric a

abbrev Types : Type 0
Types = (a : TypeText) × IsType a

abbrev container_trees : Container-F Container InnerText Parametric TypeText → ModuleTree
container_trees x = container_step (map-Container Container InnerText Parametric TypeText ModuleTree ModuleTree ModuleTree ModuleTree container_tree inner_tree parametric_tree type_tree x)

abbrev container_bare : Container-F Containers Inners Parametrics Types → Container-F Container InnerText Parametric TypeText
container_bare y = map-Container Containers Inners Parametrics Types Container InnerText Parametric TypeText (λ e. e.0) (λ e. e.0) (λ e. e.0) (λ e. e.0) y

abbrev inner_trees : InnerText-F Container InnerText Parametric TypeText → ModuleTree
inner_trees x = inner_step (map-InnerText Container InnerText Parametric TypeText ModuleTree ModuleTree ModuleTree ModuleTree container_tree inner_tree parametric_tree type_tree x)

abbrev inner_bare : InnerText-F Containers Inners Parametrics Types → InnerText-F Container InnerText Parametric TypeText
inner_bare y = map-InnerText Containers Inners Parametrics Types Container InnerText Parametric TypeText (λ e. e.0) (λ e. e.0) (λ e. e.0) (λ e. e.0) y

abbrev parametric_trees : Parametric-F Container InnerText Parametric TypeText → ModuleTree
parametric_trees x = parametric_step (map-Parametric Container InnerText Parametric TypeText ModuleTree ModuleTree ModuleTree ModuleTree container_tree inner_tree parametric_tree type_tree x)

abbrev parametric_bare : Parametric-F Containers Inners Parametrics Types → Parametric-F Container InnerText Parametric TypeText
parametric_bare y = map-Parametric Containers Inners Parametrics Types Container InnerText Parametric TypeText (λ e. e.0) (λ e. e.0) (λ e. e.0) (λ e. e.0) y

abbrev type_trees : TypeText-F Container InnerText Parametric TypeText → ModuleTree
type_trees x = type_step (map-TypeText Container InnerText Parametric TypeText ModuleTree ModuleTree ModuleTree ModuleTree container_tree inner_tree parametric_tree type_tree x)

abbrev type_bare : TypeText-F Containers Inners Parametrics Types → TypeText-F Container InnerText Parametric TypeText
type_bare y = map-TypeText Containers Inners Parametrics Types Container InnerText Parametric TypeText (λ e. e.0) (λ e. e.0) (λ e. e.0) (λ e. e.0) y

container_layer : (y : Container-F Containers Inners Parametrics Types) (x : Container-F Container InnerText Parametric TypeText) → container_trees (container_bare y) ≡ container_trees x → container_bare y ≡ x
container_layer (Container-F.Single p a t) (Container-F.Single q b u) e =
    let word = spelled_one p q _ _ (let here : keyword_at p (single_kind a) ≡ keyword_at q (single_kind b) = cc in here) in
    let item = t.1 u cc in all_three (λ p a t. Container-F.Single p a t) word.0 (single_one a b word.1) item
container_layer (Container-F.Double p a s t) (Container-F.Double q b u v) e =
    let word = spelled_one p q _ _ (let here : keyword_at p (double_kind a) ≡ keyword_at q (double_kind b) = cc in here) in
    let first = s.1 u cc in
    let second = t.1 v cc in all_four (λ p a s t. Container-F.Double p a s t) word.0 (double_one a b word.1) first second
container_layer (Container-F.Single p a t) (Container-F.Double q b u v) e = cc
container_layer (Container-F.Double p a s t) (Container-F.Single q b u) e = cc

inner_layer : (y : InnerText-F Containers Inners Parametrics Types) (x : InnerText-F Container InnerText Parametric TypeText) → inner_trees (inner_bare y) ≡ inner_trees x → inner_bare y ≡ x
inner_layer (InnerText-F.Word p a) (InnerText-F.Word q b) e =
    let word = spelled_one p q _ _ (let here : keyword_at p (inner_kind a) ≡ keyword_at q (inner_kind b) = cc in here) in
    both (λ p a. InnerText-F.Word p a) word.0 (inner_one a b word.1)
inner_layer (InnerText-F.Container a) (InnerText-F.Container b) e = let same = a.1 b cc in ap (λ c. InnerText-F.Container c) same
inner_layer (InnerText-F.Declared a) (InnerText-F.Declared b) e = let same = name_one a b cc in ap (λ c. InnerText-F.Declared c) same
inner_layer y x e = cc

types_layer : (xs : List Types) (ys : List TypeText) → separated_tree (map type_tree (map (λ e. e.0) xs)) ≡ separated_tree (map type_tree ys) → map (λ e. e.0) xs ≡ ys
types_layer xs ys e =
    separated_one (λ t. type_tree t.0) type_tree (λ t. t.0) (λ t. t) (λ t u e. t.1 u e) xs ys (ap separated_tree (sym (fused xs)) ∙ e) ∙ map_same ys
  where
    fused : (xs : List Types) → map type_tree (map (λ e. e.0) xs) ≡ map (λ t. type_tree t.0) xs
    fused [] = refl
    fused (x ∷ xs) = ap (λ l. type_tree x.0 ∷ l) (fused xs)

parametric_layer : (y : Parametric-F Containers Inners Parametrics Types) (x : Parametric-F Container InnerText Parametric TypeText) → parametric_trees (parametric_bare y) ≡ parametric_trees x → parametric_bare y ≡ x
parametric_layer (Parametric-F.Int p a) (Parametric-F.Int q b) e =
    let word = spelled_one p q _ _ (let here : keyword_at p kinds.Int ≡ keyword_at q kinds.Int = cc in here) in
    let bits = number_one a b cc in both (λ p a. Parametric-F.Int p a) word.0 bits
parametric_layer (Parametric-F.Tuple p xs) (Parametric-F.Tuple q ys) e =
    let word = spelled_one p q _ _ (let here : keyword_at p kinds.Tuple ≡ keyword_at q kinds.Tuple = cc in here) in
    let parts = types_layer xs ys cc in both (λ p xs. Parametric-F.Tuple p xs) word.0 parts
parametric_layer (Parametric-F.Iterator p a) (Parametric-F.Iterator q b) e =
    let word = spelled_one p q _ _ (let here : keyword_at p kinds.Iterator ≡ keyword_at q kinds.Iterator = cc in here) in
    let over = a.1 b cc in both (λ p a. Parametric-F.Iterator p a) word.0 over
parametric_layer (Parametric-F.Ref p a) (Parametric-F.Ref q b) e =
    let word = spelled_one p q _ _ (let here : keyword_at p kinds.Ref ≡ keyword_at q kinds.Ref = cc in here) in
    let to = a.1 b cc in both (λ p a. Parametric-F.Ref p a) word.0 to
parametric_layer y x e = cc

type_layer : (y : TypeText-F Containers Inners Parametrics Types) (x : TypeText-F Container InnerText Parametric TypeText) → type_trees (type_bare y) ≡ type_trees x → type_bare y ≡ x
type_layer (TypeText-F.Plain p a) (TypeText-F.Plain q b) e =
    let word = spelled_one p q _ _ (let here : keyword_at p (plain_kind a) ≡ keyword_at q (plain_kind b) = cc in here) in
    both (λ p a. TypeText-F.Plain p a) word.0 (plain_one a b word.1)
type_layer (TypeText-F.Parametric a) (TypeText-F.Parametric b) e = let same = a.1 b cc in ap (λ c. TypeText-F.Parametric c) same
type_layer (TypeText-F.Named a) (TypeText-F.Named b) e = let same = name_one a b cc in ap (λ c. TypeText-F.Named c) same
type_layer y x e = cc

-- a value of each type is made of one layer
container_case : (Q : Container → Type 0) → ((x : Container-F Container InnerText Parametric TypeText) → Q (roll-Container x)) → (a : Container) → Q a
container_case Q step = ind-Container Q (λ a. Unit {0}) (λ a. Unit {0}) (λ a. Unit {0}) (λ x y is. step x) (λ x y is. tt) (λ x y is. tt) (λ x y is. tt)

inner_case : (Q : InnerText → Type 0) → ((x : InnerText-F Container InnerText Parametric TypeText) → Q (roll-InnerText x)) → (a : InnerText) → Q a
inner_case Q step = ind-InnerText (λ a. Unit {0}) Q (λ a. Unit {0}) (λ a. Unit {0}) (λ x y is. tt) (λ x y is. step x) (λ x y is. tt) (λ x y is. tt)

parametric_case : (Q : Parametric → Type 0) → ((x : Parametric-F Container InnerText Parametric TypeText) → Q (roll-Parametric x)) → (a : Parametric) → Q a
parametric_case Q step = ind-Parametric (λ a. Unit {0}) (λ a. Unit {0}) Q (λ a. Unit {0}) (λ x y is. tt) (λ x y is. tt) (λ x y is. step x) (λ x y is. tt)

type_case : (Q : TypeText → Type 0) → ((x : TypeText-F Container InnerText Parametric TypeText) → Q (roll-TypeText x)) → (a : TypeText) → Q a
type_case Q step = ind-TypeText (λ a. Unit {0}) (λ a. Unit {0}) (λ a. Unit {0}) Q (λ x y is. tt) (λ x y is. tt) (λ x y is. tt) (λ x y is. step x)

container_step_one : (x : Container-F Container InnerText Parametric TypeText) (y : Container-F Containers Inners Parametrics Types) → container_bare y ≡ x → IsContainer (roll-Container x)
container_step_one x y is = container_case (λ b. container_tree (roll-Container x) ≡ container_tree b → roll-Container x ≡ b)
    (λ z e. ap roll-Container (subst (λ w. container_trees w ≡ container_trees z → w ≡ z) is (container_layer y z) (sym (rolled x) ∙ (e ∙ rolled z))))
  where
    rolled : (x : Container-F Container InnerText Parametric TypeText) → container_tree (roll-Container x) ≡ container_trees x
    rolled x = fold-roll-Container ModuleTree ModuleTree ModuleTree ModuleTree container_step inner_step parametric_step type_step x

inner_step_one : (x : InnerText-F Container InnerText Parametric TypeText) (y : InnerText-F Containers Inners Parametrics Types) → inner_bare y ≡ x → IsInner (roll-InnerText x)
inner_step_one x y is = inner_case (λ b. inner_tree (roll-InnerText x) ≡ inner_tree b → roll-InnerText x ≡ b)
    (λ z e. ap roll-InnerText (subst (λ w. inner_trees w ≡ inner_trees z → w ≡ z) is (inner_layer y z) (sym (rolled x) ∙ (e ∙ rolled z))))
  where
    rolled : (x : InnerText-F Container InnerText Parametric TypeText) → inner_tree (roll-InnerText x) ≡ inner_trees x
    rolled x = fold-roll-InnerText ModuleTree ModuleTree ModuleTree ModuleTree container_step inner_step parametric_step type_step x

parametric_step_one : (x : Parametric-F Container InnerText Parametric TypeText) (y : Parametric-F Containers Inners Parametrics Types) → parametric_bare y ≡ x → IsParametric (roll-Parametric x)
parametric_step_one x y is = parametric_case (λ b. parametric_tree (roll-Parametric x) ≡ parametric_tree b → roll-Parametric x ≡ b)
    (λ z e. ap roll-Parametric (subst (λ w. parametric_trees w ≡ parametric_trees z → w ≡ z) is (parametric_layer y z) (sym (rolled x) ∙ (e ∙ rolled z))))
  where
    rolled : (x : Parametric-F Container InnerText Parametric TypeText) → parametric_tree (roll-Parametric x) ≡ parametric_trees x
    rolled x = fold-roll-Parametric ModuleTree ModuleTree ModuleTree ModuleTree container_step inner_step parametric_step type_step x

type_step_one : (x : TypeText-F Container InnerText Parametric TypeText) (y : TypeText-F Containers Inners Parametrics Types) → type_bare y ≡ x → IsType (roll-TypeText x)
type_step_one x y is = type_case (λ b. type_tree (roll-TypeText x) ≡ type_tree b → roll-TypeText x ≡ b)
    (λ z e. ap roll-TypeText (subst (λ w. type_trees w ≡ type_trees z → w ≡ z) is (type_layer y z) (sym (rolled x) ∙ (e ∙ rolled z))))
  where
    rolled : (x : TypeText-F Container InnerText Parametric TypeText) → type_tree (roll-TypeText x) ≡ type_trees x
    rolled x = fold-roll-TypeText ModuleTree ModuleTree ModuleTree ModuleTree container_step inner_step parametric_step type_step x

pub one_container : (a : Container) → IsContainer a
one_container = ind-Container IsContainer IsInner IsParametric IsType container_step_one inner_step_one parametric_step_one type_step_one

pub one_parametric : (a : Parametric) → IsParametric a
one_parametric = ind-Parametric IsContainer IsInner IsParametric IsType container_step_one inner_step_one parametric_step_one type_step_one

pub one_type : (a : TypeText) → IsType a
one_type = ind-TypeText IsContainer IsInner IsParametric IsType container_step_one inner_step_one parametric_step_one type_step_one
