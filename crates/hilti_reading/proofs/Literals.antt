-- Trees of literals tell which literal they are of. What a tree says of a literal is told by cases on the tree: each
-- literal's tree says it of that literal, and says of no other literal that it is another.
use Rattle.std.proofs.Common.{◌≡◌, ℕ, refl, sym, ap, subst}
use Rattle.std.specs.Prelude.{Option, Some, None}
use Rattle.hilti_base.specs.declared.names.Place.{Place}
use Rattle.hilti_lexer.specs.declared.token.TokenKind.{TokenKind}
use Rattle.hilti_lexer.specs.declared.token.TokenKind.TheVariants as tokens
use Rattle.hilti_grammar.specs.Grammar.{Tree.Spot, Tree.Pair, Tree.Left, Tree.Right}
use Rattle.hilti_kinds.specs.declared.kind.Kind.{Kind}
use Rattle.hilti_kinds.specs.declared.kind.Kind.TheVariants as kinds
use Rattle.hilti_module.specs.declared.types.Word.{Word}
use Rattle.hilti_module.specs.declared.types.Name.{Name}
use Rattle.hilti_module.specs.declared.module.Literal.{Literal}
use Rattle.hilti_module.specs.declared.module.Literal.TheVariants as literals
use Rattle.hilti_module.specs.declared.module.Seconds.{Seconds}
use Rattle.hilti_module.specs.declared.module.Seconds.TheVariants as seconds
use Rattle.hilti_kinds.specs.Kinds.{kind_of}
use Rattle.hilti_reader.specs.Spelled.{ModuleTree, between_marks, behind_word, name_tree}
use Rattle.hilti_read_literals.specs.Literals.{seconds_tree, literal_tree}
use Rattle.hilti_reading.proofs.Equal.{both, all_three}
use Rattle.hilti_reading.proofs.Spots.{spot_one, word_one, name_one}

pub seconds_one : (a b : Seconds) → seconds_tree a ≡ seconds_tree b → a ≡ b
seconds_one (seconds.Whole p m) (seconds.Whole q n) e =
    let same = spot_one p q _ _ e in
    let value = numbers m n same.1 in both (λ place whole. seconds.Whole place whole) same.0 value
  where
    numbers : (m n : ℕ) → tokens.Number m ≡ tokens.Number n → m ≡ n
    numbers m n e = cc
seconds_one (seconds.Parts p m x) (seconds.Parts q n y) e =
    let same = spot_one p q _ _ e in
    let whole : m ≡ n = cc in
    let parts : x ≡ y = cc in all_three (λ place whole parts. seconds.Parts place whole parts) same.0 whole parts
seconds_one (seconds.Whole p m) (seconds.Parts q n y) e = cc (spot_one p q _ _ e).1
seconds_one (seconds.Parts p m x) (seconds.Whole q n) e = cc (spot_one p q _ _ e).1

pub behind_word_one : (a b : Word) → behind_word a ≡ behind_word b → a ≡ b
behind_word_one a b e = word_one a b cc

pub between_seconds_one : (a b : Seconds) → between_marks (seconds_tree a) ≡ between_marks (seconds_tree b) → a ≡ b
between_seconds_one a b e = seconds_one a b cc

abbrev word_literal : Place → Kind → Option Literal
word_literal place kinds.True = Some (literals.True place)
word_literal place kinds.False = Some (literals.False place)
word_literal place kinds.Null = Some (literals.Null place)
word_literal place _ = None

-- the literal of one token
abbrev pub spot_literal : Place → TokenKind → Option Literal
spot_literal place (tokens.Number n) = Some (literals.Number (record { place = place; value = n }))
spot_literal place (tokens.Address bits) = Some (literals.Address place bits)
spot_literal place (tokens.Net bits length) = Some (literals.Net place bits length)
spot_literal place (tokens.Port number udp) = Some (literals.Port place number udp)
spot_literal place (tokens.Text bytes) = Some (literals.Text place bytes)
spot_literal place (tokens.Bytes bytes) = Some (literals.Bytes place bytes)
spot_literal place (tokens.Word bytes) = word_literal place (kind_of (tokens.Word bytes))
spot_literal place _ = None

-- a literal is the one that was found
abbrev pub IsFound : {V : Type 0} → Option V → V → Type 0
IsFound None v = Unit {0}
IsFound (Some found) v = v ≡ found

abbrev SaysTime : Place → Kind → ModuleTree → Literal → Type 0
SaysTime place kinds.Time number l = (n : Seconds) → between_marks (seconds_tree n) ≡ number → l ≡ literals.Time place n
SaysTime place kinds.Interval number l = (n : Seconds) → between_marks (seconds_tree n) ≡ number → l ≡ literals.Interval place n
SaysTime place _ number l = Unit {0}

-- what the tree of a literal says of it
abbrev Says : ModuleTree → Literal → Type 0
Says (Left (Spot token)) l = IsFound (spot_literal token.place token.kind) l
Says (Right (Left (Pair (Spot token) number))) l = SaysTime token.place (kind_of token.kind) number l
Says (Right (Right (Pair name constant))) l = (n : Name) (w : Word) → name_tree n ≡ name → behind_word w ≡ constant → l ≡ literals.Constant n w
Says _ l = Unit {0}

says : (l : Literal) → Says (literal_tree l) l
says (literals.Number number) = refl
says (literals.Address place bits) = refl
says (literals.Net place bits length) = refl
says (literals.Port place number udp) = refl
says (literals.Text place bytes) = refl
says (literals.Bytes place bytes) = refl
says (literals.True place) = refl
says (literals.False place) = refl
says (literals.Null place) = refl
says (literals.Constant name constant) = λ n w e f. both (λ n w. literals.Constant n w) (name_one name n (sym e)) (behind_word_one constant w (sym f))
says (literals.Time place number) = λ n e. ap (λ n. literals.Time place n) (between_seconds_one number n (sym e))
says (literals.Interval place number) = λ n e. ap (λ n. literals.Interval place n) (between_seconds_one number n (sym e))

told : (a b : Literal) → Says (literal_tree a) b → b ≡ a
told (literals.Number number) b h = h
told (literals.Address place bits) b h = h
told (literals.Net place bits length) b h = h
told (literals.Port place number udp) b h = h
told (literals.Text place bytes) b h = h
told (literals.Bytes place bytes) b h = h
told (literals.True place) b h = h
told (literals.False place) b h = h
told (literals.Null place) b h = h
told (literals.Constant name constant) b h = h name constant refl refl
told (literals.Time place number) b h = h number refl
told (literals.Interval place number) b h = h number refl

pub literal_one : (a b : Literal) → literal_tree a ≡ literal_tree b → a ≡ b
literal_one a b e = sym (told a b (subst (λ tree. Says tree b) (sym e) (says b)))
