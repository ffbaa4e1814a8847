-- Trees of operands without parentheses tell which operand they are of.
use Rattle.std.proofs.Common.{◌≡◌, refl, sym, ap, subst}
use Rattle.std.specs.Prelude.{Option, Some, None}
use Rattle.hilti_base.specs.declared.names.Place.{Place}
use Rattle.hilti_lexer.specs.declared.token.TokenKind.{TokenKind}
use Rattle.hilti_lexer.specs.declared.token.TokenKind.TheVariants as tokens
use Rattle.hilti_grammar.specs.Grammar.{Tree.Spot, Tree.Pair, Tree.Left, Tree.Right}
use Rattle.hilti_kinds.specs.declared.kind.Kind.{Kind}
use Rattle.hilti_kinds.specs.declared.kind.Kind.TheVariants as kinds
use Rattle.hilti_module.specs.declared.types.Word.{Word}
use Rattle.hilti_module.specs.declared.types.Name.{Name}
use Rattle.hilti_module.specs.declared.types.Container.{Container}
use Rattle.hilti_module.specs.declared.types.Parametric.{Parametric}
use Rattle.hilti_module.specs.declared.types.PlainType.TheVariants as plain
use Rattle.hilti_module.specs.declared.module.Literal.TheVariants as literals
use Rattle.hilti_module.specs.declared.module.Seconds.{Seconds}
use Rattle.hilti_module.specs.declared.module.Simple.{Simple}
use Rattle.hilti_module.specs.declared.module.Simple.TheVariants as simples
use Rattle.hilti_kinds.specs.Kinds.{kind_of}
use Rattle.hilti_reader.specs.Spelled.{ModuleTree, between_marks, word_tree, behind_word, name_tree}
use Rattle.hilti_read_types.specs.Trees.{container_tree, parametric_tree}
use Rattle.hilti_read_literals.specs.Literals.{seconds_tree}
use Rattle.hilti_read_operands.specs.Operands.{simple_tree}
use Rattle.hilti_reading.proofs.Equal.{both}
use Rattle.hilti_reading.proofs.Literals.{IsFound, between_seconds_one, behind_word_one}
use Rattle.hilti_reading.proofs.Spots.{word_one, name_one}
use Rattle.hilti_reading.proofs.Types.{one_container, one_parametric}

-- the operand of one word
abbrev word_simple : Place → Kind → Option Simple
word_simple place kinds.True = Some (simples.Literal (literals.True place))
word_simple place kinds.False = Some (simples.Literal (literals.False place))
word_simple place kinds.Null = Some (simples.Literal (literals.Null place))
word_simple place kinds.Bool = Some (simples.Plain place plain.Bool)
word_simple place kinds.String = Some (simples.Plain place plain.Text)
word_simple place kinds.Bytes = Some (simples.Plain place plain.Bytes)
word_simple place kinds.Addr = Some (simples.Plain place plain.Addr)
word_simple place kinds.Net = Some (simples.Plain place plain.Net)
word_simple place kinds.Port = Some (simples.Plain place plain.Port)
word_simple place kinds.Callable = Some (simples.Plain place plain.Callable)
word_simple place kinds.Timer = Some (simples.Timer place)
word_simple place kinds.TimerMgr = Some (simples.Manager place)
word_simple place _ = None

-- the operand of one token
abbrev spot_simple : Place → TokenKind → Option Simple
spot_simple place (tokens.Number n) = Some (simples.Literal (literals.Number (record { place = place; value = n })))
spot_simple place (tokens.Address bits) = Some (simples.Literal (literals.Address place bits))
spot_simple place (tokens.Net bits length) = Some (simples.Literal (literals.Net place bits length))
spot_simple place (tokens.Port number udp) = Some (simples.Literal (literals.Port place number udp))
spot_simple place (tokens.Text bytes) = Some (simples.Literal (literals.Text place bytes))
spot_simple place (tokens.Bytes bytes) = Some (simples.Literal (literals.Bytes place bytes))
spot_simple place (tokens.Word bytes) = word_simple place (kind_of (tokens.Word bytes))
spot_simple place (tokens.Mark byte) = Some (simples.Any place)
spot_simple place _ = None

-- an operand that begins with `time` or `interval`
abbrev SaysTime : Place → Kind → ModuleTree → Simple → Type 0
SaysTime place kinds.Time (Left number) s = (n : Seconds) → between_marks (seconds_tree n) ≡ number → s ≡ simples.Literal (literals.Time place n)
SaysTime place kinds.Time (Right none) s = s ≡ simples.Plain place plain.Time
SaysTime place kinds.Interval (Left number) s = (n : Seconds) → between_marks (seconds_tree n) ≡ number → s ≡ simples.Literal (literals.Interval place n)
SaysTime place kinds.Interval (Right none) s = s ≡ simples.Plain place plain.Interval
SaysTime place _ number s = Unit {0}

-- what stands behind a name
abbrev SaysName : ModuleTree → ModuleTree → Simple → Type 0
SaysName name (Left constant) s = (n : Name) (w : Word) → name_tree n ≡ name → behind_word w ≡ constant → s ≡ simples.Literal (literals.Constant n w)
SaysName name (Right none) s = (n : Name) → name_tree n ≡ name → s ≡ simples.Name n
SaysName name _ s = Unit {0}

-- what the tree of an operand says of it
abbrev Says : ModuleTree → Simple → Type 0
Says (Left (Pair (Spot token) number)) s = SaysTime token.place (kind_of token.kind) number s
Says (Right (Left (Spot token))) s = IsFound (spot_simple token.place token.kind) s
Says (Right (Right (Left (Pair (Spot token) word)))) s = (w : Word) → word_tree w ≡ word → s ≡ simples.Label token.place w
Says (Right (Right (Right (Left parametric)))) s = (p : Parametric) → parametric_tree p ≡ parametric → s ≡ simples.Parametric p
Says (Right (Right (Right (Right (Left container))))) s = (c : Container) → container_tree c ≡ container → s ≡ simples.Container c
Says (Right (Right (Right (Right (Right (Pair name behind)))))) s = SaysName name behind s
Says _ s = Unit {0}

says : (s : Simple) → Says (simple_tree s) s
says (simples.Literal (literals.Number number)) = refl
says (simples.Literal (literals.Address place bits)) = refl
says (simples.Literal (literals.Net place bits length)) = refl
says (simples.Literal (literals.Port place number udp)) = refl
says (simples.Literal (literals.Text place bytes)) = refl
says (simples.Literal (literals.Bytes place bytes)) = refl
says (simples.Literal (literals.True place)) = refl
says (simples.Literal (literals.False place)) = refl
says (simples.Literal (literals.Null place)) = refl
says (simples.Literal (literals.Constant name constant)) = λ n w e f. both (λ n w. simples.Literal (literals.Constant n w)) (name_one name n (sym e)) (behind_word_one constant w (sym f))
says (simples.Literal (literals.Time place number)) = λ n e. ap (λ n. simples.Literal (literals.Time place n)) (between_seconds_one number n (sym e))
says (simples.Literal (literals.Interval place number)) = λ n e. ap (λ n. simples.Literal (literals.Interval place n)) (between_seconds_one number n (sym e))
says (simples.Name name) = λ n e. ap (λ n. simples.Name n) (name_one name n (sym e))
says (simples.Label place name) = λ w e. ap (λ w. simples.Label place w) (word_one name w (sym e))
says (simples.Any place) = refl
says (simples.Plain place plain.Bool) = refl
says (simples.Plain place plain.Text) = refl
says (simples.Plain place plain.Bytes) = refl
says (simples.Plain place plain.Addr) = refl
says (simples.Plain place plain.Net) = refl
says (simples.Plain place plain.Port) = refl
says (simples.Plain place plain.Time) = refl
says (simples.Plain place plain.Interval) = refl
says (simples.Plain place plain.Callable) = refl
says (simples.Parametric parametric) = λ p e. ap (λ p. simples.Parametric p) (one_parametric parametric p (sym e))
says (simples.Timer place) = refl
says (simples.Manager place) = refl
says (simples.Container container) = λ c e. ap (λ c. simples.Container c) (one_container container c (sym e))

told : (a b : Simple) → Says (simple_tree a) b → b ≡ a
told (simples.Literal (literals.Number number)) b h = h
told (simples.Literal (literals.Address place bits)) b h = h
told (simples.Literal (literals.Net place bits length)) b h = h
told (simples.Literal (literals.Port place number udp)) b h = h
told (simples.Literal (literals.Text place bytes)) b h = h
told (simples.Literal (literals.Bytes place bytes)) b h = h
told (simples.Literal (literals.True place)) b h = h
told (simples.Literal (literals.False place)) b h = h
told (simples.Literal (literals.Null place)) b h = h
told (simples.Literal (literals.Constant name constant)) b h = h name constant refl refl
told (simples.Literal (literals.Time place number)) b h = h number refl
told (simples.Literal (literals.Interval place number)) b h = h number refl
told (simples.Name name) b h = h name refl
told (simples.Label place name) b h = h name refl
told (simples.Any place) b h = h
told (simples.Plain place plain.Bool) b h = h
told (simples.Plain place plain.Text) b h = h
told (simples.Plain place plain.Bytes) b h = h
told (simples.Plain place plain.Addr) b h = h
told (simples.Plain place plain.Net) b h = h
told (simples.Plain place plain.Port) b h = h
told (simples.Plain place plain.Time) b h = h
told (simples.Plain place plain.Interval) b h = h
told (simples.Plain place plain.Callable) b h = h
told (simples.Parametric parametric) b h = h parametric refl
told (simples.Timer place) b h = h
told (simples.Manager place) b h = h
told (simples.Container container) b h = h container refl

pub simple_one : (a b : Simple) → simple_tree a ≡ simple_tree b → a ≡ b
simple_one a b e = sym (told a b (subst (λ tree. Says tree b) (sym e) (says b)))
