-- The one kind of a set of one.
use Rattle.std.proofs.Common.{◌≡◌, Bool, true, false, List, [], ◌∷◌, get_or, refl, sym, ◌∙◌, ap, eqb}
use Rattle.std.proofs.lemmas.Bool.{eqb-true}
use Rattle.std.specs.Prelude.{◌||◌}
use Rattle.hilti_grammar.specs.Grammar.{has}
use Rattle.hilti_kinds.specs.declared.kind.Kind.{Kind}
use Rattle.hilti_kinds.specs.declared.kind.Kind.TheVariants as kinds
use Rattle.hilti_kinds.specs.Kinds.{kind_number}
use Rattle.hilti_reader.specs.Modules.{grammar}

-- kinds of one number are one kind
all_kinds : List Kind
all_kinds = kinds.Module ∷ kinds.Type ∷ kinds.Global ∷ kinds.Hook ∷ kinds.Local ∷ kinds.Catch ∷ kinds.Void ∷ kinds.Struct ∷ kinds.Enum ∷ kinds.Overlay ∷ kinds.Exception ∷ kinds.Bool ∷ kinds.Int ∷ kinds.String ∷ kinds.Bytes ∷ kinds.Addr ∷ kinds.Net ∷ kinds.Port ∷ kinds.Time ∷ kinds.Interval ∷ kinds.Callable ∷ kinds.Tuple ∷ kinds.Iterator ∷ kinds.Ref ∷ kinds.Timer ∷ kinds.TimerMgr ∷ kinds.List ∷ kinds.Vector ∷ kinds.Set ∷ kinds.Map ∷ kinds.Classifier ∷ kinds.True ∷ kinds.False ∷ kinds.Null ∷ kinds.At ∷ kinds.Unpack ∷ kinds.Priority ∷ kinds.Version ∷ kinds.BytesForm ∷ kinds.Word ∷ kinds.Number ∷ kinds.Decimal ∷ kinds.Address ∷ kinds.NetNumber ∷ kinds.PortNumber ∷ kinds.Text ∷ kinds.BytesText ∷ kinds.OpenBrace ∷ kinds.CloseBrace ∷ kinds.OpenParen ∷ kinds.CloseParen ∷ kinds.Less ∷ kinds.Greater ∷ kinds.Comma ∷ kinds.Colon ∷ kinds.Scope ∷ kinds.Dot ∷ kinds.Equals ∷ kinds.AtSign ∷ kinds.Star ∷ kinds.LineEnd ∷ kinds.DeepLess ∷ []

in_place : (kind : Kind) → get_or all_kinds (kind_number kind) kinds.DeepLess ≡ kind
unfolding all_kinds
in_place kinds.Module = refl
in_place kinds.Type = refl
in_place kinds.Global = refl
in_place kinds.Hook = refl
in_place kinds.Local = refl
in_place kinds.Catch = refl
in_place kinds.Void = refl
in_place kinds.Struct = refl
in_place kinds.Enum = refl
in_place kinds.Overlay = refl
in_place kinds.Exception = refl
in_place kinds.Bool = refl
in_place kinds.Int = refl
in_place kinds.String = refl
in_place kinds.Bytes = refl
in_place kinds.Addr = refl
in_place kinds.Net = refl
in_place kinds.Port = refl
in_place kinds.Time = refl
in_place kinds.Interval = refl
in_place kinds.Callable = refl
in_place kinds.Tuple = refl
in_place kinds.Iterator = refl
in_place kinds.Ref = refl
in_place kinds.Timer = refl
in_place kinds.TimerMgr = refl
in_place kinds.List = refl
in_place kinds.Vector = refl
in_place kinds.Set = refl
in_place kinds.Map = refl
in_place kinds.Classifier = refl
in_place kinds.True = refl
in_place kinds.False = refl
in_place kinds.Null = refl
in_place kinds.At = refl
in_place kinds.Unpack = refl
in_place kinds.Priority = refl
in_place kinds.Version = refl
in_place kinds.BytesForm = refl
in_place kinds.Word = refl
in_place kinds.Number = refl
in_place kinds.Decimal = refl
in_place kinds.Address = refl
in_place kinds.NetNumber = refl
in_place kinds.PortNumber = refl
in_place kinds.Text = refl
in_place kinds.BytesText = refl
in_place kinds.OpenBrace = refl
in_place kinds.CloseBrace = refl
in_place kinds.OpenParen = refl
in_place kinds.CloseParen = refl
in_place kinds.Less = refl
in_place kinds.Greater = refl
in_place kinds.Comma = refl
in_place kinds.Colon = refl
in_place kinds.Scope = refl
in_place kinds.Dot = refl
in_place kinds.Equals = refl
in_place kinds.AtSign = refl
in_place kinds.Star = refl
in_place kinds.LineEnd = refl
in_place kinds.DeepLess = refl

told_apart : (b : Bool) → b || false ≡ true → b ≡ true
told_apart true h = refl
told_apart false h = h

pub only : (kind other : Kind) → has grammar (kind ∷ []) other ≡ true → other ≡ kind
only kind other h =
    sym (in_place other) ∙ (ap (λ n. get_or all_kinds n kinds.DeepLess) (sym (eqb-true _ _ (told_apart (eqb (kind_number kind) (kind_number other)) h))) ∙ in_place kind)
