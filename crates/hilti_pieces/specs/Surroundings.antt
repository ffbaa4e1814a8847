-- What is kept of the tokens before a token.
use Rattle.std.specs.Prelude.{◌≡◌, ◌+◌, ◌<◌, ◌^◌, List, Option}
use Rattle.std.specs.List.{count_by}
use Rattle.hilti_kinds.specs.declared.kind.Kind.{Kind}
use Rattle.hilti_kinds.specs.declared.kind.Kind.TheVariants as kinds
use Rattle.hilti_pieces.specs.declared.surroundings.Surroundings.{Surroundings}
use Rattle.hilti_kinds.specs.Kinds.{is}
use Rattle.hilti_pieces.specs.Pieces.{in_shape, behind_shape_word, behind_token, kind_behind}

-- it was kept of these tokens, by their kinds, the nearest first
pub record Describes (kept : Surroundings) (before : List Kind) : Type 0 where
  pub open_parens : kept.parens.opening ≡ count_by (is kinds.OpenParen) before
  pub close_parens : kept.parens.closing ≡ count_by (is kinds.CloseParen) before
  pub open_angles : kept.angles.opening ≡ count_by (is kinds.Less) before
  pub close_angles : kept.angles.closing ≡ count_by (is kinds.Greater) before
  pub shape : kept.in_shape ≡ in_shape before
  pub shape_word : kept.behind_shape_word ≡ behind_shape_word before
  pub token : kept.behind_token ≡ behind_token before

-- one more of each mark can be counted
pub record HasRoom (kept : Surroundings) : Type 0 where
  pub open_parens : kept.parens.opening + 1 < 2 ^ 64
  pub close_parens : kept.parens.closing + 1 < 2 ^ 64
  pub open_angles : kept.angles.opening + 1 < 2 ^ 64
  pub close_angles : kept.angles.closing + 1 < 2 ^ 64

-- the kind of the piece that a token of this kind is, behind whatever tokens it was kept of
abbrev pub TellsPiece : Surroundings → Kind → Option Kind → Type 0
TellsPiece kept kind piece =
    (before : List Kind) → Describes kept before → piece ≡ kind_behind before kind
