-- What is read of a body is typed in it.
use Rattle.std.proofs.Common.{◌≡◌, ℕ, suc, ◌+◌, ◌<◌, ◌≤◌, Bool, true, false, cond, List, [], ◌∷◌, length, sym, refl, ap, subst, Option, Some, None, Ok, Err, arith}
use Rattle.std.specs.Prelude.{Result, IsSomeAnd, nat_le, nat_lt, ◌&&◌, ok_or, slice_get}
use Rattle.std.specs.List.{AllByRecursion, position, position_from, position_or_len}
use Rattle.std.proofs.lemmas.Iterator.Adapters.{position_from-zero}
use Rattle.std.proofs.lemmas.Bool.{leb-true}
use Rattle.std.proofs.lemmas.List.Elements.{All-from_recursion}
use Rattle.hilti_base.specs.declared.names.Place.{Place}
use Rattle.hilti_base.specs.declared.refusal.Refusal.{Refusal}
use Rattle.hilti_base.specs.declared.refusal.Refusal.TheVariants.{At}
use Rattle.hilti_types.specs.declared.value_type.ValueType.{ValueType}
use Rattle.hilti_types.specs.declared.value_type.ValueType.TheVariants as types
use Rattle.hilti_module.specs.declared.types.Name.{Name}
use Rattle.hilti_module.specs.declared.module.Body.{Body}
use Rattle.hilti_module.specs.declared.module.Handler.{Handler as WrittenHandler}
use Rattle.hilti_module.specs.declared.module.Line.{Line}
use Rattle.hilti_module.specs.declared.module.Line.TheVariants as lines
use Rattle.hilti_scope.specs.declared.meaning.Meaning.{Meaning}
use Rattle.hilti_scope.specs.declared.meaning.Meaning.TheVariants as means
use Rattle.hilti_link.specs.declared.tables.LinkedFunction.{LinkedFunction}
use Rattle.hilti_link.specs.declared.tables.Tables.{Tables}
use Rattle.hilti_parts.specs.declared.parts.Block.{Block}
use Rattle.hilti_parts.specs.declared.parts.Handler.{Handler}
use Rattle.hilti_parts.specs.declared.parts.Instruction.{Instruction}
use Rattle.hilti_typing.specs.Programs.{is_ending, IsTypedInstruction, IsTypedHandler, IsTypedBlock}
use Rattle.hilti_operands.specs.Seen.{BodySeen, context}
use Rattle.hilti_operands.proofs.ReadValues.{then_ok, ok_is}
use Rattle.hilti_lines.specs.Laws.{ReadsTypedLines}
use Rattle.hilti_bodies.specs.Sections.{Written, Label, Section, labelled, sections, is_named}
use Rattle.hilti_bodies.specs.Handlers.{caught, read_caught, read_block_of, is_text, is_text_local, text_slot, plain, read_slot, read_handler}
use Rattle.hilti_bodies.specs.Blocks.{read_each, read_written, none_behind, read_instructions, is_block, read_label, read_block, read_blocks, seen_in, read_body}
use Rattle.hilti_bodies.specs.Laws.{AreBlocksOf}

-- each of what is read
each_is : {A B : Type 0} (read : A → Result B Refusal) (P : B → Type 0) → ((x : A) (y : B) → read x ≡ Ok y → P y)
    → (xs : List A) (ys : List B) → read_each read xs ≡ Ok ys → AllByRecursion P ys
unfolding read_each
each_is read P each [] ys e = subst (λ zs. AllByRecursion P zs) (ok_is [] ys e) tt
each_is read P each (x ∷ xs) ys e =
    let first = then_ok (read x) _ ys e in
    let rest = then_ok (read_each read xs) _ ys first.2 in
    subst (λ zs. AllByRecursion P zs) (ok_is (first.0 ∷ rest.0) ys rest.2) (each x first.0 first.1, each_is read P each xs rest.0 rest.1)

there : {A : Type 0} (o : Option A) (r : Refusal) (x : A) → ok_or o r ≡ Ok x → o ≡ Some x
there (Some y) r x e = ap Some (ok_is y x e)
there None r x e = cc

-- the exception of a handler is there
caught_is : (declared : ℕ) (meaning : Meaning) (n : ℕ) → caught declared meaning ≡ Some n → n < 7 + declared
caught_is declared (means.Exception m) n e = by (nat_lt m (7 + declared)) refl e
  where
    by : (b : Bool) → nat_lt m (7 + declared) ≡ b → cond b (Some m) None ≡ Some n → n < 7 + declared
    by true is e = let same : m ≡ n = cc in subst (λ k. k < 7 + declared) same (grind (arith, is))
    by false is e = cc
caught_is declared _ n e = cc

-- the slot of a handler is a local of type string
text_is : (kind : Option ValueType) → is_text kind ≡ true → kind ≡ Some types.Text
text_is (Some types.Text) e = refl
text_is (Some _) e = cc
text_is None e = cc

both : (a b : Bool) → (a && b) ≡ true → (a ≡ true) × (b ≡ true)
both true b e = (refl, e)
both false b e = cc

slot_is : (function : LinkedFunction) (meaning : Meaning) (n : ℕ) → text_slot function meaning ≡ Some n → (function.parameters ≤ n) × (slice_get function.slots n ≡ Some types.Text)
slot_is function (means.Local slot) n e = by (is_text_local function slot) refl e
  where
    by : (b : Bool) → is_text_local function slot ≡ b → cond b (Some slot) None ≡ Some n → (function.parameters ≤ n) × (slice_get function.slots n ≡ Some types.Text)
    by true is e =
        let same : slot ≡ n = cc in
        let p = both (nat_le function.parameters slot) (is_text (slice_get function.slots slot)) is in
        subst (λ k. (function.parameters ≤ k) × (slice_get function.slots k ≡ Some types.Text)) same (leb-true function.parameters slot p.0, text_is (slice_get function.slots slot) p.1)
    by false is e = cc
slot_is function _ n e = cc

-- a place of something is below their number
place_below : {X : Type 0} (p : X → Bool) (xs : List X) (n : ℕ) → position p xs ≡ Some n → n < length xs
place_below p xs n e = by (nat_lt (position_or_len p xs) (length xs)) refl e
  where
    by : (b : Bool) → nat_lt (position_or_len p xs) (length xs) ≡ b → cond b (Some (position_or_len p xs)) None ≡ Some n → n < length xs
    by true is e = let same : position_or_len p xs ≡ n = cc in subst (λ k. k < length xs) same (grind (arith, is))
    by false is e = cc

-- the last instruction, and only this, is an ending one
abbrev EndsAt : ℕ → List Instruction → Type 0
EndsAt from is = IsSomeAnd (position_from is_ending from is) (λ k. k + 1 ≡ from + length is)

ends_next : (from : ℕ) (i : Instruction) (others : List Instruction) → is_ending i ≡ false → EndsAt (from + 1) others → EndsAt from (i ∷ others)
ends_next from i others goes h =
    subst (λ o. IsSomeAnd o (λ k. k + 1 ≡ from + length (i ∷ others))) (sym (ap (λ b. cond b (Some from) (position_from is_ending (from + 1) others)) goes))
    (by (position_from is_ending (from + 1) others) h)
  where
    by : (o : Option ℕ) → IsSomeAnd o (λ k. k + 1 ≡ from + 1 + length others) → IsSomeAnd o (λ k. k + 1 ≡ from + length (i ∷ others))
    by (Some k) e = omega (arith, e)
    by None e = e

ends_here : (from : ℕ) (i : Instruction) → is_ending i ≡ true → EndsAt from (i ∷ [])
ends_here from i ends =
    subst (λ o. IsSomeAnd o (λ k. k + 1 ≡ from + length (i ∷ []))) (sym (ap (λ b. cond b (Some from) None) ends)) (let e : from + 1 ≡ from + length (i ∷ []) = omega arith in e)

from_zero : (o : Option ℕ) (n : ℕ) → IsSomeAnd o (λ k. k + 1 ≡ 0 + n) → IsSomeAnd o (λ k. k + 1 ≡ n)
from_zero (Some k) n e = omega (arith, e)
from_zero None n e = e

no_more : (more : List Written) (others : List Instruction) → none_behind more ≡ Ok others → [] ≡ others
no_more [] others e = ok_is [] others e
no_more (x ∷ more) others e = cc

module _ (typed_lines : ReadsTypedLines) (body : BodySeen) where
  line_typed : (x : Written) (i : Instruction) → read_written body x ≡ Ok i → IsTypedInstruction (context body) i
  unfolding read_written
  line_typed x i e = typed_lines body x.target x.mnemonic x.operands i e

  record AreTypedFrom (from : ℕ) (is : List Instruction) : Type 0 where
    typed : AllByRecursion (IsTypedInstruction (context body)) is
    ends : EndsAt from is

  instructions_typed : (from : ℕ) (xs : List Written) (behind : Place) (is : List Instruction) → read_instructions body xs behind ≡ Ok is → AreTypedFrom from is
  unfolding read_instructions
  instructions_typed from [] behind is e = cc
  instructions_typed from (x ∷ more) behind is e =
      let first = then_ok (read_written body x) _ is e in
      let rest = then_ok (cond (is_ending first.0) (none_behind more) (read_instructions body more behind)) _ is first.2 in
      subst (AreTypedFrom from) (ok_is (first.0 ∷ rest.0) is rest.2)
      (by first.0 first.1 rest.0 (λ (again : read_instructions body more behind ≡ Ok rest.0). instructions_typed (from + 1) more behind rest.0 again) (is_ending first.0) refl rest.1)
    where
      by : (i : Instruction) → read_written body x ≡ Ok i → (others : List Instruction) → (read_instructions body more behind ≡ Ok others → AreTypedFrom (from + 1) others)
          → (b : Bool) → is_ending i ≡ b → cond b (none_behind more) (read_instructions body more behind) ≡ Ok others → AreTypedFrom from (i ∷ others)
      by i read others again true ends e = subst (λ os. AreTypedFrom from (i ∷ os)) (no_more more others e) (record { typed = (line_typed x i read, tt); ends = ends_here from i ends })
      by i read others again false goes e = let h = again e in record { typed = (line_typed x i read, h.typed); ends = ends_next from i others goes h.ends }

  module _ (labels : (word : List ℕ) (n : ℕ) → body.label word ≡ Some n → n < body.blocks) where
    handler_typed : (x : WrittenHandler) (h : Handler) → read_handler body x ≡ Ok h → IsTypedHandler (context body) body.function.parameters h
    handler_typed x h e =
        let exception = then_ok (read_caught body x.exception) _ h e in
        let block = then_ok (read_block_of body x.target) _ h exception.2 in
        let slot = then_ok (read_slot body x.slot) _ h block.2 in
        let is : ◌≡◌ {A = Handler} (record { exception = exception.0; block = block.0; slot = slot.0 }) h = ok_is _ h slot.2 in
        let text = slot_is body.function (body.mean (plain x.slot)) slot.0 (there _ _ slot.0 slot.1) in
        subst (IsTypedHandler (context body) body.function.parameters) is (record {
          handles = caught_is (length body.tables.exceptions) (body.mean x.exception) exception.0 (there _ _ exception.0 exception.1);
          goes_on = labels x.target.bytes block.0 (there _ _ block.0 block.1);
          no_parameter = text.0;
          text = text.1;
        })

    label_typed : (number : ℕ) (label : Option Label) (hs : List Handler) → read_label body number label ≡ Ok hs → AllByRecursion (IsTypedHandler (context body) body.function.parameters) hs
    label_typed number None hs e = subst (λ xs. AllByRecursion (IsTypedHandler (context body) body.function.parameters) xs) (ok_is [] hs e) tt
    label_typed number (Some label) hs e = by (is_block number (body.label label.name.bytes)) e
      where
        by : (b : Bool) → cond b (read_each (read_handler body) label.handlers) (Err (At label.name.place 20)) ≡ Ok hs → AllByRecursion (IsTypedHandler (context body) body.function.parameters) hs
        by true e = each_is (read_handler body) (IsTypedHandler (context body) body.function.parameters) handler_typed label.handlers hs e
        by false e = cc

    block_typed : (number : ℕ) (s : Section) (b : Block) → read_block body number s ≡ Ok b → IsTypedBlock (context body) body.function.parameters b
    block_typed number s b e =
        let handlers = then_ok (read_label body number s.label) _ b e in
        let instructions = then_ok (read_instructions body s.instructions s.behind) _ b handlers.2 in
        let is : ◌≡◌ {A = Block} (record { handlers = handlers.0; instructions = instructions.0 }) b = ok_is _ b instructions.2 in
        let typed = instructions_typed 0 s.instructions s.behind instructions.0 instructions.1 in
        subst (IsTypedBlock (context body) body.function.parameters) is (record {
          handlers = All-from_recursion _ _ (label_typed number s.label handlers.0 handlers.1);
          instructions = All-from_recursion _ _ typed.typed;
          ending = subst (λ o. IsSomeAnd o (λ k. k + 1 ≡ length instructions.0)) (sym (position_from-zero is_ending instructions.0)) (from_zero (position_from is_ending 0 instructions.0) (length instructions.0) typed.ends);
        })

    blocks_typed : (number : ℕ) (ss : List Section) (bs : List Block) → read_blocks body number ss ≡ Ok bs → AllByRecursion (IsTypedBlock (context body) body.function.parameters) bs × (length bs ≡ length ss)
    unfolding read_blocks
    blocks_typed number [] bs e = subst (λ xs. AllByRecursion (IsTypedBlock (context body) body.function.parameters) xs × (length xs ≡ 0)) (ok_is [] bs e) (tt, refl)
    blocks_typed number (s ∷ more) bs e =
        let first = then_ok (read_block body number s) _ bs e in
        let rest = then_ok (read_blocks body (suc number) more) _ bs first.2 in
        let others = blocks_typed (suc number) more rest.0 rest.1 in
        subst (λ xs. AllByRecursion (IsTypedBlock (context body) body.function.parameters) xs × (length xs ≡ suc (length more))) (ok_is (first.0 ∷ rest.0) bs rest.2)
        ((block_typed number s first.0 first.1, others.0), ap suc others.1)

-- a body has a block
some_block : (body : List Line) (close : Place) → 0 < length (sections body close)
unfolding labelled
some_block [] close = omega arith
some_block (lines.Label place name handlers ∷ more) close = omega arith
some_block (lines.Instruction target mnemonic operands ∷ more) close = omega arith

pub blocks_of_body : ReadsTypedLines → (mean : Name → Meaning) (tables : Tables) (function : LinkedFunction) (body : Body) (blocks : List Block) → read_body mean tables function body ≡ Ok blocks
    → AreBlocksOf mean tables function body blocks
unfolding read_body
blocks_of_body typed_lines mean tables function body blocks e =
    let all = sections body.lines body.close in
    let seen = seen_in mean tables function all in
    let it = blocks_typed typed_lines seen (λ word n h. place_below (is_named word) all n h) 0 all blocks e in
    record {
      some = subst (λ n. 0 < n) (sym it.1) (some_block body.lines body.close);
      count = it.1;
      typed = All-from_recursion _ _ it.0;
    }
