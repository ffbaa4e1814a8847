-- Kinds of tokens: their numbers, and which kind a token has.
use Rattle.hilti_kinds.specs.declared.piece.Piece.{Piece}
use Rattle.std.specs.Prelude.{◌⊎◌, ◌≡◌, ℕ, Bool, cond, List, [], ◌∷◌, codes, bytes_eq, eqb}
use Rattle.hilti_lexer.specs.declared.token.TokenKind.{TokenKind}
use Rattle.hilti_lexer.specs.declared.token.TokenKind.TheVariants as tokens
use Rattle.hilti_kinds.specs.declared.kind.Kind.{Kind}
use Rattle.hilti_kinds.specs.declared.kind.Kind.TheVariants as kinds

-- kinds are told apart by their numbers
abbrev pub kind_number : Kind → ℕ
kind_number kinds.Module = 0
kind_number kinds.Type = 1
kind_number kinds.Global = 2
kind_number kinds.Hook = 3
kind_number kinds.Local = 4
kind_number kinds.Catch = 5
kind_number kinds.Void = 6
kind_number kinds.Struct = 7
kind_number kinds.Enum = 8
kind_number kinds.Overlay = 9
kind_number kinds.Exception = 10
kind_number kinds.Bool = 11
kind_number kinds.Int = 12
kind_number kinds.String = 13
kind_number kinds.Bytes = 14
kind_number kinds.Addr = 15
kind_number kinds.Net = 16
kind_number kinds.Port = 17
kind_number kinds.Time = 18
kind_number kinds.Interval = 19
kind_number kinds.Callable = 20
kind_number kinds.Tuple = 21
kind_number kinds.Iterator = 22
kind_number kinds.Ref = 23
kind_number kinds.Timer = 24
kind_number kinds.TimerMgr = 25
kind_number kinds.List = 26
kind_number kinds.Vector = 27
kind_number kinds.Set = 28
kind_number kinds.Map = 29
kind_number kinds.Classifier = 30
kind_number kinds.True = 31
kind_number kinds.False = 32
kind_number kinds.Null = 33
kind_number kinds.At = 34
kind_number kinds.Unpack = 35
kind_number kinds.Priority = 36
kind_number kinds.Version = 37
kind_number kinds.BytesForm = 38
kind_number kinds.Word = 39
kind_number kinds.Number = 40
kind_number kinds.Decimal = 41
kind_number kinds.Address = 42
kind_number kinds.NetNumber = 43
kind_number kinds.PortNumber = 44
kind_number kinds.Text = 45
kind_number kinds.BytesText = 46
kind_number kinds.OpenBrace = 47
kind_number kinds.CloseBrace = 48
kind_number kinds.OpenParen = 49
kind_number kinds.CloseParen = 50
kind_number kinds.Less = 51
kind_number kinds.Greater = 52
kind_number kinds.Comma = 53
kind_number kinds.Colon = 54
kind_number kinds.Scope = 55
kind_number kinds.Dot = 56
kind_number kinds.Equals = 57
kind_number kinds.AtSign = 58
kind_number kinds.Star = 59
kind_number kinds.LineEnd = 60
kind_number kinds.DeepLess = 61

-- whether a kind is this one
abbrev pub is : Kind → Kind → Bool
is wanted kind = eqb (kind_number wanted) (kind_number kind)

-- the words that mean something
abbrev pub keyword_kinds : List Kind
keyword_kinds =
    kinds.Module ∷ kinds.Type ∷ kinds.Global ∷ kinds.Hook ∷ kinds.Local ∷ kinds.Catch ∷ kinds.Void ∷
    kinds.Struct ∷ kinds.Enum ∷ kinds.Overlay ∷ kinds.Exception ∷ kinds.Bool ∷ kinds.Int ∷
    kinds.String ∷ kinds.Bytes ∷ kinds.Addr ∷ kinds.Net ∷ kinds.Port ∷ kinds.Time ∷ kinds.Interval ∷
    kinds.Callable ∷ kinds.Tuple ∷ kinds.Iterator ∷ kinds.Ref ∷ kinds.Timer ∷ kinds.TimerMgr ∷
    kinds.List ∷ kinds.Vector ∷ kinds.Set ∷ kinds.Map ∷ kinds.Classifier ∷ kinds.True ∷
    kinds.False ∷ kinds.Null ∷ kinds.At ∷ kinds.Unpack ∷ kinds.Priority ∷ kinds.Version ∷
    kinds.BytesForm ∷ []

-- how they are spelled
abbrev pub spelled : Kind → List ℕ
spelled kinds.Module = codes "module"
spelled kinds.Type = codes "type"
spelled kinds.Global = codes "global"
spelled kinds.Hook = codes "hook"
spelled kinds.Local = codes "local"
spelled kinds.Catch = codes "catch"
spelled kinds.Void = codes "void"
spelled kinds.Struct = codes "struct"
spelled kinds.Enum = codes "enum"
spelled kinds.Overlay = codes "overlay"
spelled kinds.Exception = codes "exception"
spelled kinds.Bool = codes "bool"
spelled kinds.Int = codes "int"
spelled kinds.String = codes "string"
spelled kinds.Bytes = codes "bytes"
spelled kinds.Addr = codes "addr"
spelled kinds.Net = codes "net"
spelled kinds.Port = codes "port"
spelled kinds.Time = codes "time"
spelled kinds.Interval = codes "interval"
spelled kinds.Callable = codes "callable"
spelled kinds.Tuple = codes "tuple"
spelled kinds.Iterator = codes "iterator"
spelled kinds.Ref = codes "ref"
spelled kinds.Timer = codes "timer"
spelled kinds.TimerMgr = codes "timer_mgr"
spelled kinds.List = codes "list"
spelled kinds.Vector = codes "vector"
spelled kinds.Set = codes "set"
spelled kinds.Map = codes "map"
spelled kinds.Classifier = codes "classifier"
spelled kinds.True = codes "True"
spelled kinds.False = codes "False"
spelled kinds.Null = codes "Null"
spelled kinds.At = codes "at"
spelled kinds.Unpack = codes "unpack"
spelled kinds.Priority = codes "priority"
spelled kinds.Version = codes "version"
spelled kinds.BytesForm = codes "Bytes"
spelled _ = []

-- the kind of a word, by its bytes
abbrev pub look_up : List Kind → List ℕ → Kind
look_up [] bytes = kinds.Word
look_up (kind ∷ others) bytes = cond (bytes_eq (spelled kind) bytes) kind (look_up others bytes)

-- the kind of a mark, by its byte
abbrev pub mark_kind : ℕ → Kind
mark_kind byte =
    cond (eqb byte 123) kinds.OpenBrace (
    cond (eqb byte 125) kinds.CloseBrace (
    cond (eqb byte 40) kinds.OpenParen (
    cond (eqb byte 41) kinds.CloseParen (
    cond (eqb byte 60) kinds.Less (
    cond (eqb byte 62) kinds.Greater (
    cond (eqb byte 44) kinds.Comma (
    cond (eqb byte 58) kinds.Colon (
    cond (eqb byte 42) kinds.Star (
    cond (eqb byte 46) kinds.Dot (
    cond (eqb byte 61) kinds.Equals (
    cond (eqb byte 64) kinds.AtSign (
    kinds.Scope))))))))))))

-- the kind of a token
abbrev pub kind_of : TokenKind → Kind
kind_of (tokens.Word bytes) = look_up keyword_kinds bytes
kind_of (tokens.Number n) = kinds.Number
kind_of (tokens.Decimal seconds nanoseconds) = kinds.Decimal
kind_of (tokens.Address bits) = kinds.Address
kind_of (tokens.Net bits kept) = kinds.NetNumber
kind_of (tokens.Port number udp) = kinds.PortNumber
kind_of (tokens.Text bytes) = kinds.Text
kind_of (tokens.Bytes bytes) = kinds.BytesText
kind_of (tokens.Mark byte) = mark_kind byte
kind_of tokens.LineEnd = kinds.LineEnd

-- a piece is of its token's kind, or a `<` that is too deep
abbrev pub IsPiece : Piece → Type 0
IsPiece piece = (piece.kind ≡ kind_of piece.token.kind) ⊎ (piece.kind ≡ kinds.DeepLess)
