-- Trees of parameters, fields and declared types tell what they are of.
use Rattle.std.proofs.Common.{◌≡◌, Bool, true, false, List, [], ◌∷◌, refl, sym, ap}
use Rattle.std.specs.Prelude.{cond, codes, bytes_eq, Option, Some, None}
use Rattle.hilti_base.specs.declared.names.Place.{Place}
use Rattle.hilti_grammar.specs.Grammar.{Tree.Pair, Tree.Left, Tree.Right}
use Rattle.hilti_kinds.specs.declared.kind.Kind.TheVariants as kinds
use Rattle.hilti_module.specs.declared.types.TypeText.{TypeText}
use Rattle.hilti_module.specs.declared.types.Word.{Word}
use Rattle.hilti_module.specs.declared.types.Name.{Name}
use Rattle.hilti_module.specs.declared.types.Number.{Number}
use Rattle.hilti_module.specs.declared.module.Parameter.{Parameter}
use Rattle.hilti_module.specs.declared.module.Shape.{Shape}
use Rattle.hilti_module.specs.declared.module.Shape.TheVariants as shapes
use Rattle.hilti_module.specs.declared.module.Field.{Field}
use Rattle.hilti_module.specs.declared.module.Form.{Form}
use Rattle.hilti_module.specs.declared.module.Form.TheVariants as forms
use Rattle.hilti_module.specs.declared.module.Bits.{Bits}
use Rattle.hilti_read_shapes.specs.Shapes.{parameter_tree, parameters_tree, inside_tree, arguments_tree, bits_tree, form_tree, field_tree, fields_tree, words_tree, shape_tree}
use Rattle.hilti_reader.specs.Spelled.{ModuleTree, keyword_at, word_tree, number_tree, spelled_at, behind_mark, between_marks, maybe_tree, name_tree}
use Rattle.hilti_read_types.specs.Trees.{type_tree}
use Rattle.hilti_reading.proofs.Equal.{both, all_four}
use Rattle.hilti_reading.proofs.Sequences.{separated}
use Rattle.hilti_reading.proofs.Spots.{spelled_one, word_one, number_one, name_one}
use Rattle.hilti_reading.proofs.Types.{one_type}

-- something that may be left out
pub maybe_one : {V : Type 0} (f : V → ModuleTree) → ((a b : V) → f a ≡ f b → a ≡ b) → (a b : Option V) → maybe_tree f a ≡ maybe_tree f b → a ≡ b
maybe_one f one None None e = refl
maybe_one f one None (Some b) e = cc
maybe_one f one (Some a) None e = cc
maybe_one f one (Some a) (Some b) e = ap Some (one a b (let here : f a ≡ f b = cc in here))

abbrev parameter_of : TypeText → Word → Parameter
parameter_of kind name = record { kind = kind; name = name }

pub parameter_one : (a b : Parameter) → parameter_tree a ≡ parameter_tree b → a ≡ b
parameter_one a b e =
    both parameter_of (one_type a.kind b.kind (let here : type_tree a.kind ≡ type_tree b.kind = cc in here))
    (word_one a.name b.name (let here : word_tree a.name ≡ word_tree b.name = cc in here))

pub parameters_one : (xs ys : List Parameter) → parameters_tree xs ≡ parameters_tree ys → xs ≡ ys
parameters_one xs ys e = separated parameter_tree parameter_one xs ys e

inside_one : (xs ys : List Parameter) → inside_tree xs ≡ inside_tree ys → xs ≡ ys
inside_one [] [] e = refl
inside_one [] (y ∷ ys) e = cc
inside_one (x ∷ xs) [] e = cc
inside_one (x ∷ xs) (y ∷ ys) e = parameters_one (x ∷ xs) (y ∷ ys) (let here : parameters_tree (x ∷ xs) ≡ parameters_tree (y ∷ ys) = cc in here)

pub arguments_one : (xs ys : List Parameter) → arguments_tree xs ≡ arguments_tree ys → xs ≡ ys
arguments_one xs ys e = inside_one xs ys (let here : inside_tree xs ≡ inside_tree ys = cc in here)

abbrev bits_of : Number → Number → Bits
bits_of low high = record { low = low; high = high }

two_bits : (a b : Bits) → number_tree a.low ≡ number_tree b.low → number_tree a.high ≡ number_tree b.high → a ≡ b
two_bits a b e f = both bits_of (number_one a.low b.low e) (number_one a.high b.high f)

-- a range of bits behind `Bytes`, and behind another word
abbrev bytes_range : Bits → ModuleTree
bytes_range range = between_marks (Pair (number_tree range.low) (Left (behind_mark (number_tree range.high))))

abbrev word_range : Bits → ModuleTree
word_range range = between_marks (bits_tree range)

bytes_range_one : (a b : Bits) → bytes_range a ≡ bytes_range b → a ≡ b
bytes_range_one a b e = two_bits a b (let here : number_tree a.low ≡ number_tree b.low = cc in here) (let here : number_tree a.high ≡ number_tree b.high = cc in here)

word_range_one : (a b : Bits) → word_range a ≡ word_range b → a ≡ b
word_range_one a b e = two_bits a b (let here : number_tree a.low ≡ number_tree b.low = cc in here) (let here : number_tree a.high ≡ number_tree b.high = cc in here)

-- a form of a word that is `Bytes` or not
abbrev word_form : Bool → Word → Option Bits → ModuleTree
word_form is_bytes word bits = cond is_bytes (Left (Pair (word_tree word) (maybe_tree bytes_range bits))) (Right (Pair (word_tree word) (maybe_tree word_range bits)))

word_form_one : (x y : Bool) (v w : Word) (a b : Option Bits) → word_form x v a ≡ word_form y w b → (v ≡ w) × (a ≡ b)
word_form_one true true v w a b e =
    (word_one v w (let here : word_tree v ≡ word_tree w = cc in here), maybe_one bytes_range bytes_range_one a b (let here : maybe_tree bytes_range a ≡ maybe_tree bytes_range b = cc in here))
word_form_one true false v w a b e = cc
word_form_one false true v w a b e = cc
word_form_one false false v w a b e =
    (word_one v w (let here : word_tree v ≡ word_tree w = cc in here), maybe_one word_range word_range_one a b (let here : maybe_tree word_range a ≡ maybe_tree word_range b = cc in here))

-- a form with one number isn't one with two or none
not_word_form : (place : Place) (length : Number) (x : Bool) (w : Word) (a : Option Bits) → form_tree (forms.Bytes place length) ≡ word_form x w a → ⊥
not_word_form place length true w None e = cc
not_word_form place length true w (Some range) e = cc
not_word_form place length false w a e = cc

form_one : (a b : Form) → form_tree a ≡ form_tree b → a ≡ b
form_one (forms.Bytes p m) (forms.Bytes q n) e =
    both (λ place length. forms.Bytes place length)
    (spelled_one p q (codes "Bytes") (codes "Bytes") (let here : spelled_at p (codes "Bytes") ≡ spelled_at q (codes "Bytes") = cc in here)).0
    (number_one m n (let here : number_tree m ≡ number_tree n = cc in here))
form_one (forms.Bytes p m) (forms.Word w b) e = absurd (not_word_form p m (bytes_eq w.bytes (codes "Bytes")) w b e)
form_one (forms.Word v a) (forms.Bytes q n) e = absurd (not_word_form q n (bytes_eq v.bytes (codes "Bytes")) v a (sym e))
form_one (forms.Word v a) (forms.Word w b) e =
    let same = word_form_one (bytes_eq v.bytes (codes "Bytes")) (bytes_eq w.bytes (codes "Bytes")) v w a b e in both (λ word bits. forms.Word word bits) same.0 same.1

abbrev field_of : Word → TypeText → Number → Form → Field
field_of name kind offset form = record { name = name; kind = kind; offset = offset; form = form }

field_one : (a b : Field) → field_tree a ≡ field_tree b → a ≡ b
field_one a b e =
    all_four field_of (word_one a.name b.name (let here : word_tree a.name ≡ word_tree b.name = cc in here))
    (one_type a.kind b.kind (let here : type_tree a.kind ≡ type_tree b.kind = cc in here))
    (number_one a.offset b.offset (let here : number_tree a.offset ≡ number_tree b.offset = cc in here))
    (form_one a.form b.form (let here : form_tree a.form ≡ form_tree b.form = cc in here))

parent_one : (a b : Option Name) → maybe_tree (λ name. behind_mark (name_tree name)) a ≡ maybe_tree (λ name. behind_mark (name_tree name)) b → a ≡ b
parent_one a b e = maybe_one (λ name. behind_mark (name_tree name)) (λ a b e. name_one a b cc) a b e

pub shape_one : (a b : Shape) → shape_tree a ≡ shape_tree b → a ≡ b
shape_one (shapes.Struct p xs) (shapes.Struct q ys) e =
    both (λ place fields. shapes.Struct place fields) (spelled_one p q _ _ (let here : keyword_at p kinds.Struct ≡ keyword_at q kinds.Struct = cc in here)).0
    (parameters_one xs ys (let here : parameters_tree xs ≡ parameters_tree ys = cc in here))
shape_one (shapes.Enum p xs) (shapes.Enum q ys) e =
    both (λ place words. shapes.Enum place words) (spelled_one p q _ _ (let here : keyword_at p kinds.Enum ≡ keyword_at q kinds.Enum = cc in here)).0
    (separated word_tree word_one xs ys (let here : words_tree xs ≡ words_tree ys = cc in here))
shape_one (shapes.Overlay p xs) (shapes.Overlay q ys) e =
    both (λ place fields. shapes.Overlay place fields) (spelled_one p q _ _ (let here : keyword_at p kinds.Overlay ≡ keyword_at q kinds.Overlay = cc in here)).0
    (separated field_tree field_one xs ys (let here : fields_tree xs ≡ fields_tree ys = cc in here))
shape_one (shapes.Exception p a) (shapes.Exception q b) e =
    both (λ place parent. shapes.Exception place parent) (spelled_one p q _ _ (let here : keyword_at p kinds.Exception ≡ keyword_at q kinds.Exception = cc in here)).0
    (parent_one a b cc)
shape_one a b e = cc
