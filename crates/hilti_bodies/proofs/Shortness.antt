-- What is read of a body is no longer than it.
use Rattle.std.proofs.Common.{◌≡◌, ◌∙◌, ℕ, suc, ◌+◌, ◌≤◌, Bool, true, false, cond, List, [], ◌∷◌, ◌++◌, length, sym, refl, ap, subst, None, Ok, arith}
use Rattle.std.specs.List.{AllByRecursion}
use Rattle.std.proofs.lemmas.List.Elements.{All-from_recursion}
use Rattle.hilti_base.specs.declared.names.Place.{Place}
use Rattle.hilti_module.specs.declared.module.Line.{Line}
use Rattle.hilti_module.specs.declared.module.Line.TheVariants as lines
use Rattle.hilti_parts.specs.declared.parts.Block.{Block}
use Rattle.hilti_parts.specs.declared.parts.Instruction.{Instruction}
use Rattle.hilti_typing.specs.Programs.{is_ending}
use Rattle.hilti_operands.specs.Seen.{BodySeen}
use Rattle.hilti_operands.proofs.ReadValues.{then_ok, ok_is}
use Rattle.hilti_bodies.specs.Sections.{Written, Section, leading, section, labelled, begins_with_label, sections}
use Rattle.hilti_bodies.specs.Blocks.{read_written, none_behind, read_instructions, read_label, read_block, read_blocks, seen_in, read_body}
use Rattle.hilti_bodies.specs.Laws.{ReadsShortBlocks}

-- as many instructions are read as are written
module _ (body : BodySeen) where
  none_read : (more : List Written) (others : List Instruction) → none_behind more ≡ Ok others → length others ≡ length more
  none_read [] others e = sym (ap length (ok_is [] others e))
  none_read (x ∷ more) others e = cc

  as_many : (xs : List Written) (behind : Place) (is : List Instruction) → read_instructions body xs behind ≡ Ok is → length is ≡ length xs
  unfolding read_instructions
  as_many [] behind is e = cc
  as_many (x ∷ more) behind is e =
      let first = then_ok (read_written body x) _ is e in
      let rest = then_ok (cond (is_ending first.0) (none_behind more) (read_instructions body more behind)) _ is first.2 in
      sym (ap length (ok_is (first.0 ∷ rest.0) is rest.2))
      ∙ ap suc (by (λ (again : read_instructions body more behind ≡ Ok rest.0). as_many more behind rest.0 again) (is_ending first.0) rest.1)
    where
      by : {others : List Instruction} → (read_instructions body more behind ≡ Ok others → length others ≡ length more)
          → (b : Bool) → cond b (none_behind more) (read_instructions body more behind) ≡ Ok others → length others ≡ length more
      by {others} again true e = none_read more others e
      by {others} again false e = again e

  short_block : (number : ℕ) (s : Section) (b : Block) (n : ℕ) → read_block body number s ≡ Ok b → length s.instructions ≤ n → length b.instructions ≤ n
  short_block number s b n e h =
      let handlers = then_ok (read_label body number s.label) _ b e in
      let instructions = then_ok (read_instructions body s.instructions s.behind) _ b handlers.2 in
      let is : ◌≡◌ {A = Block} (record { handlers = handlers.0; instructions = instructions.0 }) b = ok_is _ b instructions.2 in
      let count = as_many s.instructions s.behind instructions.0 instructions.1 in
      subst (λ (c : Block). length c.instructions ≤ n) is (subst (λ k. k ≤ n) (sym count) h)

  short_blocks : (number : ℕ) (ss : List Section) (bs : List Block) (n : ℕ) → read_blocks body number ss ≡ Ok bs → AllByRecursion (λ (s : Section). length s.instructions ≤ n) ss
      → AllByRecursion (λ (b : Block). length b.instructions ≤ n) bs × (length bs ≡ length ss)
  unfolding read_blocks
  short_blocks number [] bs n e h = subst (λ xs. AllByRecursion (λ (b : Block). length b.instructions ≤ n) xs × (length xs ≡ 0)) (ok_is [] bs e) (tt, refl)
  short_blocks number (s ∷ more) bs n e h =
      let first = then_ok (read_block body number s) _ bs e in
      let rest = then_ok (read_blocks body (suc number) more) _ bs first.2 in
      let others = short_blocks (suc number) more rest.0 n rest.1 h.1 in
      subst (λ xs. AllByRecursion (λ (b : Block). length b.instructions ≤ n) xs × (length xs ≡ suc (length more))) (ok_is (first.0 ∷ rest.0) bs rest.2)
      ((short_block number s first.0 n first.1 h.0, others.0), ap suc others.1)

-- blocks as they are written
short_leading : (more : List Line) → length (leading more) ≤ length more
unfolding leading
short_leading [] = omega arith
short_leading (lines.Label place name handlers ∷ more) = omega arith
short_leading (lines.Instruction target mnemonic operands ∷ more) = omega (arith, short_leading more)

few_labels : (more : List Line) (close : Place) → length (labelled more close) ≤ length more
unfolding labelled
few_labels [] close = omega arith
few_labels (lines.Label place name handlers ∷ more) close = omega (arith, few_labels more close)
few_labels (lines.Instruction target mnemonic operands ∷ more) close = omega (arith, few_labels more close)

short_labelled : (more : List Line) (close : Place) (n : ℕ) → length more ≤ n → AllByRecursion (λ (s : Section). length s.instructions ≤ n) (labelled more close)
unfolding labelled
short_labelled [] close n h = tt
short_labelled (lines.Label place name handlers ∷ more) close n h = (omega (arith, short_leading more, h), short_labelled more close n (omega (arith, h)))
short_labelled (lines.Instruction target mnemonic operands ∷ more) close n h = short_labelled more close n (omega (arith, h))

few_sections : (all : List Line) (close : Place) → length (sections all close) ≤ 1 + length all
unfolding labelled
few_sections [] close = omega arith
few_sections (lines.Label place name handlers ∷ more) close = omega (arith, few_labels more close)
few_sections (lines.Instruction target mnemonic operands ∷ more) close = omega (arith, few_labels more close)

short_sections : (all : List Line) (close : Place) → AllByRecursion (λ (s : Section). length s.instructions ≤ length all) (sections all close)
short_sections all close = by (begins_with_label all)
  where
    by : (b : Bool) → AllByRecursion (λ (s : Section). length s.instructions ≤ length all) (cond b [] (section None all close ∷ []) ++ labelled all close)
    by true = short_labelled all close (length all) (omega arith)
    by false = (short_leading all, short_labelled all close (length all) (omega arith))

pub short : ReadsShortBlocks
unfolding read_body
short mean tables function body blocks e =
    let all = sections body.lines body.close in
    let it = short_blocks (seen_in mean tables function all) 0 all blocks (length body.lines) e (short_sections body.lines body.close) in
    record {
      few = subst (λ n. n ≤ 1 + length body.lines) (sym it.1) (few_sections body.lines body.close);
      each = All-from_recursion _ _ it.0;
    }
