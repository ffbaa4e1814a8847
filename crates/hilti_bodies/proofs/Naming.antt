-- What is read of a body names no hook body.
use Rattle.std.proofs.Common.{◌≡◌, ℕ, suc, Bool, true, false, cond, List, [], ◌∷◌, subst, Ok}
use Rattle.std.specs.List.{All, AllByRecursion}
use Rattle.std.proofs.lemmas.List.Elements.{All-from_recursion}
use Rattle.hilti_base.specs.declared.names.Place.{Place}
use Rattle.hilti_parts.specs.declared.parts.Block.{Block}
use Rattle.hilti_parts.specs.declared.parts.Instruction.{Instruction}
use Rattle.hilti_typing.specs.Programs.{is_ending, EachOperand}
use Rattle.hilti_operands.specs.Laws.{NamesNoBody}
use Rattle.hilti_operands.specs.Seen.{BodySeen}
use Rattle.hilti_operands.proofs.ReadValues.{then_ok, ok_is}
use Rattle.hilti_lines.specs.Laws.{NamesNoBodies}
use Rattle.hilti_bodies.specs.Blocks.{read_written, none_behind, read_instructions, read_label}
use Rattle.hilti_bodies.specs.Blocks.{read_block, read_blocks, seen_in, read_body}
use Rattle.hilti_bodies.specs.Laws.{ReadsNoBodies}
use Rattle.hilti_bodies.specs.Sections.{Written, Section, sections}

module _ (no_bodies : NamesNoBodies) (body : BodySeen) where
  abbrev Names : Instruction → Type 0
  Names i = All (NamesNoBody body.tables) i.operands

  abbrev NamesIn : Block → Type 0
  NamesIn = EachOperand (NamesNoBody body.tables)

  line_names : (x : Written) (i : Instruction) → read_written body x ≡ Ok i → Names i
  unfolding read_written
  line_names x i e = no_bodies body x.target x.mnemonic x.operands i e

  none_names : (more : List Written) (others : List Instruction)
      → none_behind more ≡ Ok others → AllByRecursion Names others
  none_names [] others e = subst (λ os. AllByRecursion Names os) (ok_is [] others e) tt
  none_names (x ∷ more) others e = cc

  instructions_name : (xs : List Written) (behind : Place) (is : List Instruction)
      → read_instructions body xs behind ≡ Ok is → AllByRecursion Names is
  unfolding read_instructions
  instructions_name [] behind is e = cc
  instructions_name (x ∷ more) behind is e =
      let first = then_ok (read_written body x) _ is e in
      let rest = then_ok (cond (is_ending first.0) (none_behind more)
      (read_instructions body more behind)) _ is first.2 in
      subst (λ os. AllByRecursion Names os) (ok_is (first.0 ∷ rest.0) is rest.2) (
        line_names x first.0 first.1,
        by rest.0 (λ (again : read_instructions body more behind ≡ Ok rest.0).
            instructions_name more behind rest.0 again) (is_ending first.0) rest.1,
      )
    where
      by : (others : List Instruction)
          → (read_instructions body more behind ≡ Ok others → AllByRecursion Names others)
          → (b : Bool)
          → cond b (none_behind more) (read_instructions body more behind) ≡ Ok others
          → AllByRecursion Names others
      by others again true e = none_names more others e
      by others again false e = again e

  block_names : (number : ℕ) (s : Section) (b : Block) → read_block body number s ≡ Ok b
      → NamesIn b
  block_names number s b e =
      let handlers = then_ok (read_label body number s.label) _ b e in
      let instructions = then_ok (read_instructions body s.instructions s.behind) _ b handlers.2 in
      let is : ◌≡◌ {A = Block}
      (record { handlers = handlers.0; instructions = instructions.0 }) b
      = ok_is _ b instructions.2 in
      subst (λ (c : Block). NamesIn c) is (All-from_recursion _ _
      (instructions_name s.instructions s.behind instructions.0 instructions.1))

  blocks_name : (number : ℕ) (ss : List Section) (bs : List Block)
      → read_blocks body number ss ≡ Ok bs → AllByRecursion NamesIn bs
  unfolding read_blocks
  blocks_name number [] bs e = subst (λ xs. AllByRecursion NamesIn xs) (ok_is [] bs e) tt
  blocks_name number (s ∷ more) bs e =
      let first = then_ok (read_block body number s) _ bs e in
      let rest = then_ok (read_blocks body (suc number) more) _ bs first.2 in
      subst (λ xs. AllByRecursion NamesIn xs) (ok_is (first.0 ∷ rest.0) bs rest.2)
      (block_names number s first.0 first.1, blocks_name (suc number) more rest.0 rest.1)

pub blocks_name_no_bodies : NamesNoBodies → ReadsNoBodies
unfolding read_body
blocks_name_no_bodies no_bodies mean tables function body blocks e =
    let all = sections body.lines body.close in
    All-from_recursion _ _
    (blocks_name no_bodies (seen_in mean tables function all) 0 all blocks e)
