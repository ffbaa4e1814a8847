-- Lemmas for the readers of types.
use Rattle.std.proofs.Common.{arith, ◌<◌, ◌≡◌, ℕ, Bool, List, [], ◌∷◌, refl, sym, ◌∙◌, ap, subst}
use Rattle.hilti_base.specs.declared.names.Place.{Place}
use Rattle.hilti_grammar.specs.Grammar.{Symbol.Rule, Tree.Nothing, Tree.Pair, Tree.Left, Tree.Right, sees}
use Rattle.hilti_grammar.specs.Predictive.{known}
use Rattle.hilti_kinds.specs.declared.kind.Kind.TheVariants as kinds
use Rattle.hilti_kinds.specs.declared.piece.Piece.{Piece}
use Rattle.hilti_module.specs.declared.types.TypeText.{TypeText}
use Rattle.hilti_module.specs.declared.types.TypeText.TheVariants as types
use Rattle.hilti_module.specs.declared.types.Parametric.{Parametric}
use Rattle.hilti_module.specs.declared.types.Parametric.TheVariants as parametrics
use Rattle.hilti_module.specs.declared.types.InnerText.{InnerText}
use Rattle.hilti_module.specs.declared.types.InnerText.TheVariants as inners
use Rattle.hilti_module.specs.declared.types.Container.{Container}
use Rattle.hilti_module.specs.declared.types.Container.TheVariants as containers
use Rattle.hilti_module.specs.declared.types.Container.TheFolds.{the_lemmas}
use Rattle.hilti_module.specs.declared.types.Name.{Name}
use Rattle.hilti_module.specs.declared.types.Number.{Number}
use Rattle.hilti_module.specs.declared.types.PlainType.{PlainType}
use Rattle.hilti_module.specs.declared.types.PlainInner.{PlainInner}
use Rattle.hilti_module.specs.declared.types.Single.{Single}
use Rattle.hilti_module.specs.declared.types.Double.{Double}
use Rattle.hilti_reader.specs.Spelled.{keyword_at, plain_kind, inner_kind, single_kind, double_kind, between_marks, number_tree, name_tree}
use Rattle.std.proofs.Common.{rules}
use Rattle.hilti_reader.specs.Modules.{RuleName.Parametric as a_parametric, RuleName.Container as a_container, grammar, told_rules}
use Rattle.hilti_read_types.specs.Trees.{type_tree, types_tree, parametric_tree, inner_tree, container_tree}

first_parametric : (told_rules a_parametric).first ≡ kinds.Ref ∷ kinds.Iterator ∷ kinds.Tuple ∷ kinds.Int ∷ []
unfolding told_rules
first_parametric = refl

first_container : (told_rules a_container).first ≡ kinds.Map ∷ kinds.Classifier ∷ kinds.List ∷ kinds.Vector ∷ kinds.Set ∷ []
unfolding told_rules
first_container = refl

-- what is seen of the words that begin a rule is seen of the rule
pub sees_parametric : (pieces : List Piece) (b : Bool) → sees grammar (kinds.Ref ∷ kinds.Iterator ∷ kinds.Tuple ∷ kinds.Int ∷ []) pieces ≡ b → sees grammar (known grammar told_rules (Rule a_parametric)).first pieces ≡ b
sees_parametric pieces b h = subst (λ set. sees grammar set pieces ≡ b) (sym first_parametric) h

pub sees_container : (pieces : List Piece) (b : Bool) → sees grammar (kinds.Map ∷ kinds.Classifier ∷ kinds.List ∷ kinds.Vector ∷ kinds.Set ∷ []) pieces ≡ b → sees grammar (known grammar told_rules (Rule a_container)).first pieces ≡ b
sees_container pieces b h = subst (λ set. sees grammar set pieces ≡ b) (sym first_container) h

-- the trees of types by their variants
pub plain_is : (place : Place) (plain : PlainType) → type_tree (types.Plain place plain) ≡ Left (keyword_at place (plain_kind plain))
plain_is place plain = ap type_tree (sym (types.rolls-Plain place plain)) ∙ search (rules, the_lemmas)

pub parametric_is : (parametric : Parametric) → type_tree (types.Parametric parametric) ≡ Right (Left (parametric_tree parametric))
parametric_is parametric = ap type_tree (sym (types.rolls-Parametric parametric)) ∙ search (rules, the_lemmas)

pub named_is : (name : Name) → type_tree (types.Named name) ≡ Right (Right (name_tree name))
named_is name = ap type_tree (sym (types.rolls-Named name)) ∙ search (rules, the_lemmas)

pub int_is : (place : Place) (bits : Number) → parametric_tree (parametrics.Int place bits) ≡ Left (Pair (keyword_at place kinds.Int) (between_marks (number_tree bits)))
int_is place bits = ap parametric_tree (sym (parametrics.rolls-Int place bits)) ∙ search (rules, the_lemmas)

pub tuple_is : (place : Place) (parts : List TypeText) → parametric_tree (parametrics.Tuple place parts) ≡ Right (Left (Pair (keyword_at place kinds.Tuple) (between_marks (types_tree parts))))
tuple_is place parts = ap parametric_tree (sym (parametrics.rolls-Tuple place parts)) ∙ search (rules, the_lemmas)

pub iterator_is : (place : Place) (over : InnerText) → parametric_tree (parametrics.Iterator place over) ≡ Right (Right (Left (Pair (keyword_at place kinds.Iterator) (between_marks (inner_tree over)))))
iterator_is place over = ap parametric_tree (sym (parametrics.rolls-Iterator place over)) ∙ search (rules, the_lemmas)

pub ref_is : (place : Place) (to : InnerText) → parametric_tree (parametrics.Ref place to) ≡ Right (Right (Right (Pair (keyword_at place kinds.Ref) (between_marks (inner_tree to)))))
ref_is place to = ap parametric_tree (sym (parametrics.rolls-Ref place to)) ∙ search (rules, the_lemmas)

pub word_is : (place : Place) (word : PlainInner) → inner_tree (inners.Word place word) ≡ Left (keyword_at place (inner_kind word))
word_is place word = ap inner_tree (sym (inners.rolls-Word place word)) ∙ search (rules, the_lemmas)

pub container_is : (container : Container) → inner_tree (inners.Container container) ≡ Right (Left (container_tree container))
container_is container = ap inner_tree (sym (inners.rolls-Container container)) ∙ search (rules, the_lemmas)

pub declared_is : (name : Name) → inner_tree (inners.Declared name) ≡ Right (Right (name_tree name))
declared_is name = ap inner_tree (sym (inners.rolls-Declared name)) ∙ search (rules, the_lemmas)

pub single_is : (place : Place) (single : Single) (item : TypeText) → container_tree (containers.Single place single item) ≡ Left (Pair (keyword_at place (single_kind single)) (between_marks (type_tree item)))
single_is place single item = ap container_tree (sym (containers.rolls-Single place single item)) ∙ search (rules, the_lemmas)

pub double_is : (place : Place) (double : Double) (first second : TypeText) →
    container_tree (containers.Double place double first second) ≡ Right (Pair (keyword_at place (double_kind double)) (between_marks (Pair (type_tree first) (Pair Nothing (type_tree second)))))
double_is place double first second = ap container_tree (sym (containers.rolls-Double place double first second)) ∙ search (rules, the_lemmas)

-- the same of types that were put into boxes
pub single_boxed : (place : Place) (single : Single) (item only : TypeText) → item ≡ only →
    container_tree (containers.Single place single item) ≡ Left (Pair (keyword_at place (single_kind single)) (between_marks (type_tree only)))
single_boxed place single item only e = single_is place single item ∙ ap (λ t. Left (Pair (keyword_at place (single_kind single)) (between_marks (type_tree t)))) e

pub double_boxed : (place : Place) (double : Double) (first second key value : TypeText) → first ≡ key → second ≡ value →
    container_tree (containers.Double place double first second) ≡ Right (Pair (keyword_at place (double_kind double)) (between_marks (Pair (type_tree key) (Pair Nothing (type_tree value)))))
double_boxed place double first second key value e f =
    double_is place double first second
    ∙ ap (λ t. Right (Pair (keyword_at place (double_kind double)) (between_marks (Pair (type_tree t) (Pair Nothing (type_tree second)))))) e
    ∙ ap (λ t. Right (Pair (keyword_at place (double_kind double)) (between_marks (Pair (type_tree key) (Pair Nothing (type_tree t)))))) f

pub shrinks : (a b c d : ℕ) → b < a → c < b → d < c → d < a
shrinks a b c d h i j = omega arith
