-- What is so of bodies that are read.
use Rattle.std.specs.Prelude.{◌≡◌, ◌+◌, ◌<◌, ◌≤◌, Bool, true, false, List, [], ◌∷◌, ◌++◌}
use Rattle.std.specs.Prelude.{length, map, flat_map, slice_get, Option, Some, None, is_some, Ok}
use Rattle.std.specs.Prelude.{Err, IsSomeAnd, IfSome, IsOk}
use Rattle.std.specs.List.{All, position}
use Rattle.std.specs.Option.{option_and_then}
use Rattle.hilti_base.specs.declared.names.Place.{Place}
use Rattle.hilti_base.specs.declared.refusal.Refusal.{Refusal}
use Rattle.hilti_base.specs.declared.refusal.Refusal.TheVariants.{At}
use Rattle.hilti_module.specs.declared.types.Name.{Name}
use Rattle.hilti_module.specs.declared.module.Body.{Body}
use Rattle.hilti_module.specs.declared.module.Line.{Line}
use Rattle.hilti_module.specs.declared.module.Line.TheVariants as lines
use Rattle.hilti_scope.specs.declared.meaning.Meaning.{Meaning}
use Rattle.hilti_link.specs.declared.tables.LinkedFunction.{LinkedFunction}
use Rattle.hilti_link.specs.declared.tables.Tables.{Tables}
use Rattle.hilti_parts.specs.declared.parts.Block.{Block}
use Rattle.hilti_parts.specs.declared.parts.Instruction.{Instruction}
use Rattle.hilti_typing.specs.Programs.{is_ending, EachOperand, IsTypedBlock}
use Rattle.hilti_operands.specs.Laws.{NamesNoBody}
use Rattle.hilti_operands.specs.Seen.{BodySeen, context}
use Rattle.hilti_bodies.specs.Sections.{Written, Label, Section, begins_with_label, sections}
use Rattle.hilti_bodies.specs.Blocks.{read_each, read_written, read_instructions, read_block}
use Rattle.hilti_bodies.specs.Blocks.{read_blocks, seen_in, read_body}

-- the lines of a block
abbrev pub label_lines : Option Label → List Line
label_lines None = []
label_lines (Some label) = lines.Label label.place label.name label.handlers ∷ []

abbrev pub line_of : Written → Line
line_of x = lines.Instruction x.target x.mnemonic x.operands

abbrev pub lines_of : Section → List Line
lines_of block = label_lines block.label ++ map line_of block.instructions

-- blocks one behind another: in front of each but the first stands its label, at the place behind
-- the one before; behind the last one stands the closing brace
unfoldable pub EndAt : Place → List Section → Type 0
EndAt close [] = ⊥
EndAt close (block ∷ []) = block.behind ≡ close
EndAt close (block ∷ next ∷ more) =
    IsSomeAnd next.label (λ label. label.place ≡ block.behind) × EndAt close (next ∷ more)

-- a body is its blocks: they have all its lines in order, begin as it does, and end where it does
pub record IsCutAtLabels (body : List Line) (close : Place) : Type 0 where
  pub all : flat_map lines_of (sections body close) ≡ body
  pub first : is_some (option_and_then (λ (s : Section). s.label)
      (slice_get (sections body close) 0)) ≡ begins_with_label body
  pub ends : EndAt close (sections body close)

-- blocks of a body: as many as are written, at least one, each typed in the body
pub record AreBlocksOf
    (mean : Name → Meaning) (tables : Tables) (function : LinkedFunction) (body : Body)
    (blocks : List Block)
    : Type 0 where
  pub some : 0 < length blocks
  pub count : length blocks ≡ length (sections body.lines body.close)
  pub typed : All (IsTypedBlock
      (context (seen_in mean tables function (sections body.lines body.close)))
      function.parameters) blocks

abbrev pub ReadsTypedBlocks : Type 0
ReadsTypedBlocks =
    (mean : Name → Meaning) (tables : Tables) (function : LinkedFunction) (body : Body)
    (blocks : List Block)
    → read_body mean tables function body ≡ Ok blocks
    → AreBlocksOf mean tables function body blocks

-- no operand of blocks that are read names a hook body
abbrev pub ReadsNoBodies : Type 0
ReadsNoBodies =
    (mean : Name → Meaning) (tables : Tables) (function : LinkedFunction) (body : Body)
    (blocks : List Block)
    → read_body mean tables function body ≡ Ok blocks
    → All (EachOperand (NamesNoBody tables)) blocks

-- no more blocks and instructions than lines, but for a block without a label
pub record AreShortBlocks (body : Body) (blocks : List Block) : Type 0 where
  pub few : length blocks ≤ 1 + length body.lines
  pub each : All (λ (b : Block). length b.instructions ≤ length body.lines) blocks

abbrev pub ReadsShortBlocks : Type 0
ReadsShortBlocks =
    (mean : Name → Meaning) (tables : Tables) (function : LinkedFunction) (body : Body)
    (blocks : List Block)
    → read_body mean tables function body ≡ Ok blocks → AreShortBlocks body blocks

-- the first block that is refused: those in front of it are read
pub record IsFirstRefused (body : BodySeen) (all : List Section) (refusal : Refusal) : Type 0 where
  pub front : List Section
  pub block : Section
  pub more : List Section
  pub are : all ≡ front ++ block ∷ more
  pub read : IsOk (read_blocks body 0 front)
  pub refused : read_block body (length front) block ≡ Err refusal

abbrev pub RefusesFirstBlock : Type 0
RefusesFirstBlock =
    (body : BodySeen) (all : List Section) (refusal : Refusal)
    → read_blocks body 0 all ≡ Err refusal → IsFirstRefused body all refusal

-- what is refused behind instructions, where the last of them is an ending one or isn't: the place
-- behind them, the mnemonic of the next one, or the next one itself
abbrev pub StopsBy : BodySeen → Bool → List Written → Place → Refusal → Type 0
StopsBy body ended [] behind refusal = (ended ≡ false) × (refusal ≡ At behind 33)
StopsBy body true (x ∷ more) behind refusal = refusal ≡ At x.mnemonic.first.place 34
StopsBy body false (x ∷ more) behind refusal = read_written body x ≡ Err refusal

-- the instructions of a block in front of the first refusal: they are read, and none of them but
-- the last is an ending one
pub record IsFirstStop
    (body : BodySeen) (all : List Written) (behind : Place) (refusal : Refusal)
    : Type 0 where
  pub front : List Written
  pub more : List Written
  pub read : List Instruction
  pub are : all ≡ front ++ more
  pub are_read : read_each (read_written body) front ≡ Ok read
  pub last : IfSome (position is_ending read) (λ k. k + 1 ≡ length read)
  pub stops : StopsBy body (is_some (position is_ending read)) more behind refusal

abbrev pub RefusesFirstInstruction : Type 0
RefusesFirstInstruction =
    (body : BodySeen) (all : List Written) (behind : Place) (refusal : Refusal)
    → read_instructions body all behind ≡ Err refusal → IsFirstStop body all behind refusal
