-- The grammar of modules.
use Rattle.std.specs.Prelude.{ℕ, List, [], ◌∷◌, ◌++◌, refl}
use Rattle.hilti_lexer.specs.declared.token.Token.{Token}
use Rattle.hilti_lexer.specs.declared.token.TokenKind.TheVariants as tokens
use Rattle.hilti_grammar.specs.Grammar.{Grammar, Symbol, Symbol.One, Symbol.Empty, Symbol.◌▹◌, Symbol.◌⊕◌, Symbol.Many, Symbol.Rule, Keep.Dropped, Keep.Placed}
use Rattle.hilti_grammar.specs.Predictive.{Known}
use Rattle.hilti_grammar.specs.Exact.{known_rules}
use Rattle.hilti_grammar.specs.Reads.{separated}
use Rattle.hilti_kinds.specs.declared.kind.Kind.{Kind}
use Rattle.hilti_kinds.specs.declared.kind.Kind.TheVariants as kinds
use Rattle.hilti_kinds.specs.declared.piece.Piece.{Piece}
use Rattle.hilti_kinds.specs.Kinds.{kind_number}

-- the rules
pub data RuleName : Type 0 where
  ModuleText : RuleName
  ItemText : RuleName
  HookRest : RuleName
  HookBody : RuleName
  Arguments : RuleName
  Params : RuleName
  ShapeText : RuleName
  FieldText : RuleName
  FormText : RuleName
  BodyText : RuleName
  LineText : RuleName
  AfterWord : RuleName
  InstructionText : RuleName
  Operands : RuleName
  OperandsBehindTime : RuleName
  GroupText : RuleName
  SimpleText : RuleName
  OtherSimple : RuleName
  TypeText : RuleName
  Parametric : RuleName
  Container : RuleName
  InnerText : RuleName
  NameText : RuleName
  LiteralText : RuleName

-- the rules in order, each at its place
abbrev pub all_rules : List RuleName
all_rules =
    ModuleText ∷ ItemText ∷ HookRest ∷ HookBody ∷ Arguments ∷ Params ∷ ShapeText ∷ FieldText ∷
    FormText ∷ BodyText ∷ LineText ∷ AfterWord ∷ InstructionText ∷ Operands ∷ OperandsBehindTime ∷
    GroupText ∷ SimpleText ∷ OtherSimple ∷ TypeText ∷ Parametric ∷ Container ∷ InnerText ∷
    NameText ∷ LiteralText ∷ []

abbrev pub rule_index : RuleName → ℕ
rule_index ModuleText = 0
rule_index ItemText = 1
rule_index HookRest = 2
rule_index HookBody = 3
rule_index Arguments = 4
rule_index Params = 5
rule_index ShapeText = 6
rule_index FieldText = 7
rule_index FormText = 8
rule_index BodyText = 9
rule_index LineText = 10
rule_index AfterWord = 11
rule_index InstructionText = 12
rule_index Operands = 13
rule_index OperandsBehindTime = 14
rule_index GroupText = 15
rule_index SimpleText = 16
rule_index OtherSimple = 17
rule_index TypeText = 18
rule_index Parametric = 19
rule_index Container = 20
rule_index InnerText = 21
rule_index NameText = 22
rule_index LiteralText = 23

-- words that may be names
abbrev pub words : List Kind
words =
    kinds.Word ∷ kinds.At ∷ kinds.Unpack ∷ kinds.Priority ∷ kinds.Version ∷ kinds.BytesForm ∷ []

-- words of a form other than `Bytes`
abbrev pub other_forms : List Kind
other_forms = kinds.Word ∷ kinds.At ∷ kinds.Unpack ∷ kinds.Priority ∷ kinds.Version ∷ []

-- reserved words but `local`
abbrev pub reserved_words : List Kind
reserved_words =
    kinds.Module ∷ kinds.Type ∷ kinds.Global ∷ kinds.Hook ∷ kinds.Catch ∷ kinds.Void ∷
    kinds.Struct ∷ kinds.Enum ∷ kinds.Overlay ∷ kinds.Exception ∷ kinds.Bool ∷ kinds.Int ∷
    kinds.String ∷ kinds.Bytes ∷ kinds.Addr ∷ kinds.Net ∷ kinds.Port ∷ kinds.Time ∷ kinds.Interval ∷
    kinds.Callable ∷ kinds.Tuple ∷ kinds.Iterator ∷ kinds.Ref ∷ kinds.Timer ∷ kinds.TimerMgr ∷
    kinds.List ∷ kinds.Vector ∷ kinds.Set ∷ kinds.Map ∷ kinds.Classifier ∷ kinds.True ∷
    kinds.False ∷ kinds.Null ∷ []

-- any word
abbrev pub any_words : List Kind
any_words = words ++ (kinds.Local ∷ reserved_words)

-- types of one word, and literals and other operands of one token
abbrev pub plain_types : List Kind
plain_types =
    kinds.Bool ∷ kinds.String ∷ kinds.Bytes ∷ kinds.Addr ∷ kinds.Net ∷ kinds.Port ∷ kinds.Time ∷
    kinds.Interval ∷ kinds.Callable ∷ []

abbrev pub plain_inner : List Kind
plain_inner = kinds.Bytes ∷ kinds.Timer ∷ kinds.TimerMgr ∷ []

-- containers of one type, and of two
abbrev pub singles : List Kind
singles = kinds.List ∷ kinds.Vector ∷ kinds.Set ∷ []

abbrev pub doubles : List Kind
doubles = kinds.Map ∷ kinds.Classifier ∷ []

abbrev pub plain_literals : List Kind
plain_literals =
    kinds.Number ∷ kinds.Address ∷ kinds.NetNumber ∷ kinds.PortNumber ∷ kinds.Text ∷
    kinds.BytesText ∷ kinds.True ∷ kinds.False ∷ kinds.Null ∷ []

abbrev pub plain_operands : List Kind
plain_operands =
    plain_literals
    ++ (kinds.Star ∷ kinds.Bool ∷ kinds.String ∷ kinds.Bytes ∷ kinds.Addr ∷ kinds.Net ∷ kinds.Port ∷
    kinds.Callable ∷ kinds.Timer ∷ kinds.TimerMgr ∷ [])

abbrev pub time_words : List Kind
time_words = kinds.Time ∷ kinds.Interval ∷ []

-- numbers of times and intervals
abbrev pub second_kinds : List Kind
second_kinds = kinds.Number ∷ kinds.Decimal ∷ []

-- a token of some kinds that is kept
abbrev pub one_of : List Kind → Symbol Kind RuleName
one_of set = One Placed set

-- a token of a kind that is dropped, and one that is kept
abbrev pub mark : Kind → Symbol Kind RuleName
mark kind = One Dropped (kind ∷ [])

abbrev pub kept_one : Kind → Symbol Kind RuleName
kept_one kind = one_of (kind ∷ [])

abbrev pub word : Symbol Kind RuleName
word = one_of words

abbrev pub number : Symbol Kind RuleName
number = kept_one kinds.Number

abbrev pub line_end : Symbol Kind RuleName
line_end = mark kinds.LineEnd

abbrev pub comma : Symbol Kind RuleName
comma = mark kinds.Comma

-- one or more with commas between them
abbrev pub listed : Symbol Kind RuleName → Symbol Kind RuleName
listed item = separated item comma

-- a word behind a mark
abbrev pub word_behind : Kind → Symbol Kind RuleName
word_behind before = mark before ▹ word

abbrev pub in_parens : Symbol Kind RuleName → Symbol Kind RuleName
in_parens inside = mark kinds.OpenParen ▹ (inside ▹ mark kinds.CloseParen)

abbrev pub in_braces : Symbol Kind RuleName → Symbol Kind RuleName
in_braces inside = mark kinds.OpenBrace ▹ (inside ▹ mark kinds.CloseBrace)

abbrev pub in_angles : Symbol Kind RuleName → Symbol Kind RuleName
in_angles inside = mark kinds.Less ▹ (inside ▹ mark kinds.Greater)

abbrev pub maybe : Symbol Kind RuleName → Symbol Kind RuleName
maybe symbol = symbol ⊕ Empty

-- a type and a word: a parameter, a field of a struct
abbrev pub typed_word : Symbol Kind RuleName
typed_word = Rule TypeText ▹ word

-- the second word of a mnemonic, and what stands behind the first, up to the end of the line
abbrev pub second_word : Symbol Kind RuleName
second_word = mark kinds.Dot ▹ one_of any_words

abbrev pub behind_first : Symbol Kind RuleName
behind_first = maybe second_word ▹ (Rule Operands ▹ line_end)

-- a handler, and a label with its handlers, up to the end of its line
abbrev pub handler : Symbol Kind RuleName
handler = kept_one kinds.Catch ▹ (Rule NameText ▹ (mark kinds.AtSign ▹ (word ▹ word)))

abbrev pub label : Symbol Kind RuleName
label = kept_one kinds.AtSign ▹ (word ▹ (Many handler ▹ (mark kinds.Colon ▹ line_end)))

-- a local, up to the end of its line
abbrev pub local_line : Symbol Kind RuleName
local_line = mark kinds.Local ▹ (typed_word ▹ line_end)

-- the number of a time or an interval, in its parentheses
abbrev pub seconds : Symbol Kind RuleName
seconds = in_parens (one_of second_kinds)

-- a range of bits, and a number behind a comma
abbrev pub a_range : Symbol Kind RuleName
a_range = in_parens (number ▹ (comma ▹ number))

abbrev pub behind_comma : Symbol Kind RuleName
behind_comma = comma ▹ number

-- what declared types are
abbrev pub struct_text : Symbol Kind RuleName
struct_text = kept_one kinds.Struct ▹ in_braces (listed typed_word)

abbrev pub enum_text : Symbol Kind RuleName
enum_text = kept_one kinds.Enum ▹ in_braces (listed word)

abbrev pub overlay_text : Symbol Kind RuleName
overlay_text = kept_one kinds.Overlay ▹ in_braces (listed (Rule FieldText))

abbrev pub parent : Symbol Kind RuleName
parent = mark kinds.Colon ▹ Rule NameText

abbrev pub exception_text : Symbol Kind RuleName
exception_text = kept_one kinds.Exception ▹ maybe parent

-- the version of a module, the value of a global, and the priority of a hook
abbrev pub a_version : Symbol Kind RuleName
a_version = mark kinds.Version ▹ number

abbrev pub a_value : Symbol Kind RuleName
a_value = mark kinds.Equals ▹ Rule LiteralText

abbrev pub a_priority : Symbol Kind RuleName
a_priority = mark kinds.Priority ▹ number

-- `void` or a type
abbrev pub a_result : Symbol Kind RuleName
a_result = mark kinds.Void ⊕ Rule TypeText

-- what each rule says
abbrev pub rule : RuleName → Symbol Kind RuleName
rule ModuleText =
    mark kinds.Module ▹ (word ▹ (maybe a_version ▹ (line_end ▹ Many (Rule ItemText))))
rule ItemText =
    (mark kinds.Type ▹ (word ▹ (mark kinds.Equals ▹ (Rule ShapeText ▹ line_end))))
    ⊕ ((mark kinds.Global ▹ (typed_word ▹ (maybe a_value ▹ line_end)))
    ⊕ ((mark kinds.Hook ▹ (word ▹ Rule HookRest))
    ⊕ (a_result ▹ (word ▹ (Rule Arguments ▹ Rule BodyText)))))
rule HookRest =
    (mark kinds.Scope ▹ (word ▹ (Rule Arguments ▹ Rule HookBody)))
    ⊕ (Rule Arguments ▹ (line_end ⊕ Rule HookBody))
rule HookBody = maybe a_priority ▹ Rule BodyText
rule Arguments = in_parens (maybe (Rule Params))
rule Params = listed typed_word
rule ShapeText = struct_text ⊕ (enum_text ⊕ (overlay_text ⊕ exception_text))
rule FieldText =
    word ▹ (mark kinds.Colon ▹ (Rule TypeText
    ▹ (mark kinds.At ▹ (number ▹ (mark kinds.Unpack ▹ Rule FormText)))))
rule FormText =
    (kept_one kinds.BytesForm ▹ maybe (in_parens (number ▹ maybe behind_comma)))
    ⊕ (one_of other_forms ▹ maybe a_range)
rule BodyText =
    mark kinds.OpenBrace ▹ (line_end ▹ (Many local_line ▹ (Many (Rule LineText)
    ▹ (kept_one kinds.CloseBrace ▹ line_end))))
rule LineText = label ⊕ ((one_of reserved_words ▹ behind_first) ⊕ (word ▹ Rule AfterWord))
rule AfterWord =
    (mark kinds.Scope ▹ (word ▹ (mark kinds.Equals ▹ Rule InstructionText)))
    ⊕ ((mark kinds.Equals ▹ Rule InstructionText)
    ⊕ behind_first)
rule InstructionText = one_of any_words ▹ behind_first
rule Operands =
    (Rule GroupText ▹ Rule Operands)
    ⊕ ((one_of time_words ▹ Rule OperandsBehindTime)
    ⊕ ((Rule OtherSimple ▹ Rule Operands) ⊕ Empty))
rule OperandsBehindTime =
    (seconds ▹ Rule Operands)
    ⊕ ((one_of time_words ▹ Rule OperandsBehindTime)
    ⊕ ((Rule OtherSimple ▹ Rule Operands) ⊕ Empty))
rule GroupText =
    kept_one kinds.OpenParen ▹ (maybe (listed (Rule SimpleText)) ▹ mark kinds.CloseParen)
rule SimpleText = (one_of time_words ▹ maybe seconds) ⊕ Rule OtherSimple
rule OtherSimple =
    one_of plain_operands
    ⊕ ((kept_one kinds.AtSign ▹ word)
    ⊕ (Rule Parametric
    ⊕ (Rule Container
    ⊕ (Rule NameText ▹ maybe (word_behind kinds.Dot)))))
rule TypeText = one_of plain_types ⊕ (Rule Parametric ⊕ Rule NameText)
rule Parametric =
    (kept_one kinds.Int ▹ in_angles number)
    ⊕ ((kept_one kinds.Tuple ▹ in_angles (listed (Rule TypeText)))
    ⊕ ((kept_one kinds.Iterator ▹ in_angles (Rule InnerText))
    ⊕ (kept_one kinds.Ref ▹ in_angles (Rule InnerText))))
rule Container =
    (one_of singles ▹ in_angles (Rule TypeText))
    ⊕ (one_of doubles ▹ in_angles (Rule TypeText ▹ (comma ▹ Rule TypeText)))
rule InnerText = one_of plain_inner ⊕ (Rule Container ⊕ Rule NameText)
rule NameText = word ▹ maybe (word_behind kinds.Scope)
rule LiteralText =
    one_of plain_literals
    ⊕ ((one_of time_words ▹ seconds)
    ⊕ (Rule NameText ▹ word_behind kinds.Dot))

-- a piece of this kind, with a token that nothing looks at
abbrev pub sample : Kind → Piece
sample kind = record { token = a_line_end; kind = kind }
  where
    a_line_end : Token
    a_line_end = record { place = record { file = 0; line = 1; column = 1 }; kind = tokens.LineEnd }

-- the grammar
abbrev pub grammar : Grammar Kind RuleName Token Piece
grammar = record {
  kind = λ piece. piece.kind;
  place = λ piece. piece.token;
  number = kind_number;
  sample = sample;
  body = rule;
  rules = all_rules;
  index = rule_index;
  listed =
      elim [
        | ModuleText ↦ refl
        | ItemText ↦ refl
        | HookRest ↦ refl
        | HookBody ↦ refl
        | Arguments ↦ refl
        | Params ↦ refl
        | ShapeText ↦ refl
        | FieldText ↦ refl
        | FormText ↦ refl
        | BodyText ↦ refl
        | LineText ↦ refl
        | AfterWord ↦ refl
        | InstructionText ↦ refl
        | Operands ↦ refl
        | OperandsBehindTime ↦ refl
        | GroupText ↦ refl
        | SimpleText ↦ refl
        | OtherSimple ↦ refl
        | TypeText ↦ refl
        | Parametric ↦ refl
        | Container ↦ refl
        | InnerText ↦ refl
        | NameText ↦ refl
        | LiteralText ↦ refl
      ];
  rounds = 8;
}

-- what is known of its rules
unfoldable pub told_rules : RuleName → Known Kind
told_rules = known_rules grammar
