-- Readers of words and marks of which the place is kept.
use Rattle.std.specs.Prelude.{ℕ, List, Result}
use Rattle.hilti_base.specs.declared.names.Place.{Place}
use Rattle.hilti_kinds.specs.declared.kind.Kind.{Kind}
use Rattle.hilti_kinds.specs.declared.piece.Piece.{Piece}
use Rattle.hilti_reader.specs.declared.stop.Stop.{Stop}
use Rattle.hilti_reader.specs.Modules.{kept_one}
use Rattle.hilti_reader.specs.Readers.{ReadsTree}
use Rattle.hilti_reader.specs.Spelled.{keyword_at, marked_at}

-- a reader of the word of this kind gave this result
abbrev pub ReadsKeyword : Kind → List Piece → Result Place Stop → List Piece → Type 0
ReadsKeyword kind before result after =
    ReadsTree (kept_one kind) (λ place. keyword_at place kind) before result after

-- a reader of the mark of this kind, which is this byte, gave this result
abbrev pub ReadsMark : Kind → ℕ → List Piece → Result Place Stop → List Piece → Type 0
ReadsMark kind byte before result after =
    ReadsTree (kept_one kind) (λ place. marked_at place byte) before result after
