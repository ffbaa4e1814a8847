-- The numbers that the code compares kinds by.
use Rattle.std.proofs.Common.{◌≡◌, ℕ, refl}
use denote.Enum.Declared.{tag_of}
use Rattle.hilti_kinds.specs.declared.kind.Kind.{Kind}
use Rattle.hilti_kinds.specs.declared.kind.Kind.TheVariants as kinds
use Rattle.hilti_kinds.specs.contracts.kind.Kind.{the_type}
use Rattle.hilti_kinds.specs.Kinds.{kind_number}

-- the number that the code takes of a kind
abbrev pub tag : Kind → ℕ
tag kind = tag_of the_type kind

pub tag_is : (kind : Kind) → tag kind ≡ kind_number kind
tag_is kinds.Module = refl
tag_is kinds.Type = refl
tag_is kinds.Global = refl
tag_is kinds.Hook = refl
tag_is kinds.Local = refl
tag_is kinds.Catch = refl
tag_is kinds.Void = refl
tag_is kinds.Struct = refl
tag_is kinds.Enum = refl
tag_is kinds.Overlay = refl
tag_is kinds.Exception = refl
tag_is kinds.Bool = refl
tag_is kinds.Int = refl
tag_is kinds.String = refl
tag_is kinds.Bytes = refl
tag_is kinds.Addr = refl
tag_is kinds.Net = refl
tag_is kinds.Port = refl
tag_is kinds.Time = refl
tag_is kinds.Interval = refl
tag_is kinds.Callable = refl
tag_is kinds.Tuple = refl
tag_is kinds.Iterator = refl
tag_is kinds.Ref = refl
tag_is kinds.Timer = refl
tag_is kinds.TimerMgr = refl
tag_is kinds.List = refl
tag_is kinds.Vector = refl
tag_is kinds.Set = refl
tag_is kinds.Map = refl
tag_is kinds.Classifier = refl
tag_is kinds.True = refl
tag_is kinds.False = refl
tag_is kinds.Null = refl
tag_is kinds.At = refl
tag_is kinds.Unpack = refl
tag_is kinds.Priority = refl
tag_is kinds.Version = refl
tag_is kinds.BytesForm = refl
tag_is kinds.Word = refl
tag_is kinds.Number = refl
tag_is kinds.Decimal = refl
tag_is kinds.Address = refl
tag_is kinds.NetNumber = refl
tag_is kinds.PortNumber = refl
tag_is kinds.Text = refl
tag_is kinds.BytesText = refl
tag_is kinds.OpenBrace = refl
tag_is kinds.CloseBrace = refl
tag_is kinds.OpenParen = refl
tag_is kinds.CloseParen = refl
tag_is kinds.Less = refl
tag_is kinds.Greater = refl
tag_is kinds.Comma = refl
tag_is kinds.Colon = refl
tag_is kinds.Scope = refl
tag_is kinds.Dot = refl
tag_is kinds.Equals = refl
tag_is kinds.AtSign = refl
tag_is kinds.Star = refl
tag_is kinds.LineEnd = refl
tag_is kinds.DeepLess = refl
