-- The lines of a body that are instructions, and the instructions that are read of it: one for each.
use Rattle.std.proofs.Common.{◌≡◌, refl, sym, ◌∙◌, ap, ap₂, ℕ, suc, ◌+◌, Bool, true, false, cond, List, [], ◌∷◌, ◌++◌, length, map, Option, Some, None, Ok}
use Rattle.std.specs.List.{flat_map}
use Rattle.std.proofs.lemmas.List.{length-append}
use Rattle.std.proofs.lemmas.Grind.{flat_map-append}
use Rattle.hilti_base.specs.declared.names.Place.{Place}
use Rattle.hilti_module.specs.declared.module.Body.{Body}
use Rattle.hilti_module.specs.declared.module.Line.{Line}
use Rattle.hilti_module.specs.declared.types.Name.{Name}
use Rattle.hilti_scope.specs.declared.meaning.Meaning.{Meaning}
use Rattle.hilti_link.specs.declared.tables.LinkedFunction.{LinkedFunction}
use Rattle.hilti_link.specs.declared.tables.Tables.{Tables}
use Rattle.hilti_parts.specs.declared.parts.Block.{Block}
use Rattle.hilti_parts.specs.declared.parts.Instruction.{Instruction}
use Rattle.hilti_typing.specs.Programs.{is_ending}
use Rattle.hilti_operands.specs.Seen.{BodySeen}
use Rattle.hilti_operands.proofs.ReadValues.{then_ok, ok_is}
use Rattle.hilti_bodies.specs.Sections.{Written, Section, Label, sections}
use Rattle.hilti_bodies.specs.Blocks.{read_written, none_behind, read_instructions, read_label, read_block, read_blocks, seen_in, read_body}
use Rattle.hilti_bodies.specs.Laws.{line_of, label_lines, lines_of, IsCutAtLabels}
use Rattle.hilti_check.specs.Built.{mnemonic_place, instructions_of}

-- the instructions of blocks as they are written
abbrev pub written_in : List Section → List Written
written_in all = flat_map (λ (s : Section). s.instructions) all

-- as many are read as are written
module _ (body : BodySeen) where
  none_read : (more : List Written) (others : List Instruction) → none_behind more ≡ Ok others → length others ≡ length more
  none_read [] others e = sym (ap length (ok_is [] others e))
  none_read (x ∷ more) others e = cc

  as_many : (xs : List Written) (behind : Place) (is : List Instruction) → read_instructions body xs behind ≡ Ok is → length is ≡ length xs
  unfolding read_instructions
  as_many [] behind is e = cc
  as_many (x ∷ more) behind is e =
      let first = then_ok (read_written body x) _ is e in
      let rest = then_ok (cond (is_ending first.0) (none_behind more) (read_instructions body more behind)) _ is first.2 in
      sym (ap length (ok_is (first.0 ∷ rest.0) is rest.2))
      ∙ ap suc (by (λ (again : read_instructions body more behind ≡ Ok rest.0). as_many more behind rest.0 again) (is_ending first.0) rest.1)
    where
      by : {others : List Instruction} → (read_instructions body more behind ≡ Ok others → length others ≡ length more)
          → (b : Bool) → cond b (none_behind more) (read_instructions body more behind) ≡ Ok others → length others ≡ length more
      by {others} again true e = none_read more others e
      by {others} again false e = again e

  of_block : (number : ℕ) (s : Section) (b : Block) → read_block body number s ≡ Ok b → length b.instructions ≡ length s.instructions
  of_block number s b e =
      let handlers = then_ok (read_label body number s.label) _ b e in
      let instructions = then_ok (read_instructions body s.instructions s.behind) _ b handlers.2 in
      let is : ◌≡◌ {A = Block} (record { handlers = handlers.0; instructions = instructions.0 }) b = ok_is _ b instructions.2 in
      sym (ap (λ (b : Block). length b.instructions) is) ∙ as_many s.instructions s.behind instructions.0 instructions.1

  of_blocks : (number : ℕ) (ss : List Section) (bs : List Block) → read_blocks body number ss ≡ Ok bs → length (instructions_of bs) ≡ length (written_in ss)
  unfolding read_blocks
  of_blocks number [] bs e = sym (ap (λ l. length (instructions_of l)) (ok_is [] bs e))
  of_blocks number (s ∷ more) bs e =
      let first = then_ok (read_block body number s) _ bs e in
      let rest = then_ok (read_blocks body (suc number) more) _ bs first.2 in
      sym (ap (λ l. length (instructions_of l)) (ok_is (first.0 ∷ rest.0) bs rest.2))
      ∙ length-append first.0.instructions (instructions_of rest.0)
      ∙ ap₂ (λ m n. m + n) (of_block number s first.0 first.1) (of_blocks (suc number) more rest.0 rest.1)
      ∙ sym (length-append s.instructions (written_in more))

-- as many places of mnemonics as are written
of_label : (label : Option Label) → flat_map mnemonic_place (label_lines label) ≡ []
of_label None = refl
of_label (Some label) = refl

of_lines : (xs : List Written) → length (flat_map mnemonic_place (map line_of xs)) ≡ length xs
of_lines [] = refl
of_lines (x ∷ xs) = ap suc (of_lines xs)

of_section : (s : Section) → length (flat_map mnemonic_place (lines_of s)) ≡ length s.instructions
of_section s =
    ap length (flat_map-append mnemonic_place (label_lines s.label) (map line_of s.instructions)
    ∙ ap (λ l. l ++ flat_map mnemonic_place (map line_of s.instructions)) (of_label s.label))
    ∙ of_lines s.instructions

of_sections : (ss : List Section) → length (flat_map mnemonic_place (flat_map lines_of ss)) ≡ length (written_in ss)
of_sections [] = refl
of_sections (s ∷ ss) =
    ap length (flat_map-append mnemonic_place (lines_of s) (flat_map lines_of ss))
    ∙ length-append (flat_map mnemonic_place (lines_of s)) (flat_map mnemonic_place (flat_map lines_of ss))
    ∙ ap₂ (λ m n. m + n) (of_section s) (of_sections ss)
    ∙ sym (length-append s.instructions (written_in ss))

pub one_for_each : ((body : List Line) (close : Place) → IsCutAtLabels body close)
    → (mean : Name → Meaning) (tables : Tables) (function : LinkedFunction) (body : Body) (blocks : List Block) → read_body mean tables function body ≡ Ok blocks
    → length (flat_map mnemonic_place body.lines) ≡ length (instructions_of blocks)
unfolding read_body
one_for_each cut mean tables function body blocks e =
    let all = sections body.lines body.close in
    let is = cut body.lines body.close in
    sym (ap (λ l. length (flat_map mnemonic_place l)) is.all) ∙ of_sections all
    ∙ sym (of_blocks (seen_in mean tables function all) 0 all blocks e)
