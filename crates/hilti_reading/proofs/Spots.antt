-- Trees of single tokens tell what they stand for.
use Rattle.std.proofs.Common.{◌≡◌, ℕ, List, refl, sym, ◌∙◌, ap}
use Rattle.std.specs.Prelude.{Option, Some, None}
use Rattle.hilti_base.specs.declared.names.Place.{Place}
use Rattle.hilti_lexer.specs.declared.token.Token.{Token}
use Rattle.hilti_lexer.specs.declared.token.TokenKind.{TokenKind}
use Rattle.hilti_lexer.specs.declared.token.TokenKind.TheVariants as tokens
use Rattle.hilti_grammar.specs.Grammar.{Tree.Spot}
use Rattle.hilti_module.specs.declared.types.Word.{Word}
use Rattle.hilti_module.specs.declared.types.Name.{Name}
use Rattle.hilti_module.specs.declared.types.Number.{Number}
use Rattle.hilti_module.specs.declared.types.PlainType.{PlainType}
use Rattle.hilti_module.specs.declared.types.PlainType.TheVariants as plain
use Rattle.hilti_module.specs.declared.types.PlainInner.{PlainInner}
use Rattle.hilti_module.specs.declared.types.PlainInner.TheVariants as inner
use Rattle.hilti_module.specs.declared.types.Single.{Single}
use Rattle.hilti_module.specs.declared.types.Single.TheVariants as single
use Rattle.hilti_module.specs.declared.types.Double.{Double}
use Rattle.hilti_module.specs.declared.types.Double.TheVariants as double
use Rattle.hilti_kinds.specs.declared.kind.Kind.{Kind}
use Rattle.hilti_kinds.specs.declared.kind.Kind.TheVariants as kinds
use Rattle.hilti_kinds.specs.Kinds.{spelled, look_up, keyword_kinds}
use Rattle.hilti_reader.specs.Spelled.{ModuleTree, plain_kind, inner_kind, single_kind, double_kind, at_place, spelled_at, word_tree, number_tree, maybe_tree, behind_word, name_tree}
use Rattle.hilti_reading.proofs.Equal.{both}

pub spot_one : (p q : Place) (k l : TokenKind) → at_place p k ≡ at_place q l → (p ≡ q) × (k ≡ l)
spot_one p q k l e = let same = tokens_same _ _ e in (ap (λ t. t.place) same, ap (λ t. t.kind) same)
  where
    tokens_same : (a b : Token) → (let x : ModuleTree = Spot a in x ≡ Spot b) → a ≡ b
    tokens_same a b e = cc

pub spelled_one : (p q : Place) (a b : List ℕ) → spelled_at p a ≡ spelled_at q b → (p ≡ q) × (a ≡ b)
spelled_one p q a b e = let same = spot_one p q (tokens.Word a) (tokens.Word b) e in (same.0, word_bytes a b same.1)
  where
    word_bytes : (a b : List ℕ) → tokens.Word a ≡ tokens.Word b → a ≡ b
    word_bytes a b e = cc

abbrev word_of : Place → List ℕ → Word
word_of place bytes = record { place = place; bytes = bytes }

pub word_one : (a b : Word) → word_tree a ≡ word_tree b → a ≡ b
word_one a b e = let same = spelled_one a.place b.place a.bytes b.bytes e in both word_of same.0 same.1

abbrev number_of : Place → ℕ → Number
number_of place value = record { place = place; value = value }

pub number_one : (a b : Number) → number_tree a ≡ number_tree b → a ≡ b
number_one a b e = let same = spot_one a.place b.place (tokens.Number a.value) (tokens.Number b.value) e in both number_of same.0 (values a.value b.value same.1)
  where
    values : (m n : ℕ) → tokens.Number m ≡ tokens.Number n → m ≡ n
    values m n e = cc

pub second_one : (a b : Option Word) → maybe_tree behind_word a ≡ maybe_tree behind_word b → a ≡ b
second_one None None e = refl
second_one None (Some b) e = cc
second_one (Some a) None e = cc
second_one (Some a) (Some b) e = ap Some (word_one a b cc)

abbrev name_of : Word → Option Word → Name
name_of first second = record { first = first; second = second }

pub name_one : (a b : Name) → name_tree a ≡ name_tree b → a ≡ b
name_one a b e =
    let first = word_one a.first b.first cc in
    let second = second_one a.second b.second cc in both name_of first second

some_one : {V : Type 0} (a b : V) → Some a ≡ Some b → a ≡ b
some_one a b e = cc

-- what the words of some kinds mean
abbrev plain_of : Kind → Option PlainType
plain_of kinds.Bool = Some plain.Bool
plain_of kinds.String = Some plain.Text
plain_of kinds.Bytes = Some plain.Bytes
plain_of kinds.Addr = Some plain.Addr
plain_of kinds.Net = Some plain.Net
plain_of kinds.Port = Some plain.Port
plain_of kinds.Time = Some plain.Time
plain_of kinds.Interval = Some plain.Interval
plain_of kinds.Callable = Some plain.Callable
plain_of _ = None

abbrev inner_of : Kind → Option PlainInner
inner_of kinds.Bytes = Some inner.Bytes
inner_of kinds.Timer = Some inner.Timer
inner_of kinds.TimerMgr = Some inner.Manager
inner_of _ = None

abbrev single_of : Kind → Option Single
single_of kinds.List = Some single.List
single_of kinds.Vector = Some single.Vector
single_of kinds.Set = Some single.Set
single_of _ = None

abbrev double_of : Kind → Option Double
double_of kinds.Map = Some double.Map
double_of kinds.Classifier = Some double.Classifier
double_of _ = None

plain_back : (a : PlainType) → plain_of (look_up keyword_kinds (spelled (plain_kind a))) ≡ Some a
plain_back plain.Bool = refl
plain_back plain.Text = refl
plain_back plain.Bytes = refl
plain_back plain.Addr = refl
plain_back plain.Net = refl
plain_back plain.Port = refl
plain_back plain.Time = refl
plain_back plain.Interval = refl
plain_back plain.Callable = refl

pub plain_one : (a b : PlainType) → spelled (plain_kind a) ≡ spelled (plain_kind b) → a ≡ b
plain_one a b e = some_one a b (sym (plain_back a) ∙ (ap (λ bytes. plain_of (look_up keyword_kinds bytes)) e ∙ plain_back b))

inner_back : (a : PlainInner) → inner_of (look_up keyword_kinds (spelled (inner_kind a))) ≡ Some a
inner_back inner.Bytes = refl
inner_back inner.Timer = refl
inner_back inner.Manager = refl

pub inner_one : (a b : PlainInner) → spelled (inner_kind a) ≡ spelled (inner_kind b) → a ≡ b
inner_one a b e = some_one a b (sym (inner_back a) ∙ (ap (λ bytes. inner_of (look_up keyword_kinds bytes)) e ∙ inner_back b))

single_back : (a : Single) → single_of (look_up keyword_kinds (spelled (single_kind a))) ≡ Some a
single_back single.List = refl
single_back single.Vector = refl
single_back single.Set = refl

pub single_one : (a b : Single) → spelled (single_kind a) ≡ spelled (single_kind b) → a ≡ b
single_one a b e = some_one a b (sym (single_back a) ∙ (ap (λ bytes. single_of (look_up keyword_kinds bytes)) e ∙ single_back b))

double_back : (a : Double) → double_of (look_up keyword_kinds (spelled (double_kind a))) ≡ Some a
double_back double.Map = refl
double_back double.Classifier = refl

pub double_one : (a b : Double) → spelled (double_kind a) ≡ spelled (double_kind b) → a ≡ b
double_one a b e = some_one a b (sym (double_back a) ∙ (ap (λ bytes. double_of (look_up keyword_kinds bytes)) e ∙ double_back b))
