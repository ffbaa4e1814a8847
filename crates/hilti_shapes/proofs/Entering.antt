-- What a typed program has at a place, and a function that is entered.
use Rattle.std.proofs.Common.{◌≡◌, ℕ, zero, suc, ◌+◌, ◌<◌, false, IsTrue, List, [], ◌∷◌, ◌++◌}
use Rattle.std.proofs.Common.{length, map, take, drop, refl, sym, ap, ◌∙◌, Option, Some, None}
use Rattle.std.proofs.Common.{IfSome, IsSome, slice_get, arith}
use Rattle.std.proofs.Math.Path.{subst}
use Rattle.std.specs.List.{All, AllByRecursion, AllZip}
use Rattle.std.specs.Option.{option_and_then}
use Rattle.std.proofs.lemmas.Bool.{false≢true}
use Rattle.std.proofs.lemmas.List.Elements.{recursion_from_All}
use Rattle.std.proofs.lemmas.Option.{same_Some}
use Rattle.hilti_base.specs.declared.names.FnId.{FnId}
use Rattle.hilti_types.specs.declared.value_type.ValueType.{ValueType}
use Rattle.hilti_parts.specs.declared.parts.Block.{Block}
use Rattle.hilti_parts.specs.declared.parts.Function.{Function}
use Rattle.hilti_parts.specs.declared.parts.Instruction.{Instruction}
use Rattle.hilti_parts.specs.declared.parts.Parts.{Parts}
use Rattle.hilti_parts.specs.declared.parts.Variable.{Variable}
use Rattle.hilti_raise.specs.Handlers.{block_at}
use Rattle.hilti_typing.specs.Programs.{context, is_ending, IsTypedBlock, IsTypedInstruction}
use Rattle.hilti_typing.proofs.Programs.{some_at, typed_blocks_end}
use Rattle.hilti_values.specs.First.{first_of}
use Rattle.hilti_values.specs.declared.value.Value.{Value}
use Rattle.hilti_rows.specs.Resolving.{row_of}
use Rattle.hilti_rows.specs.declared.row.Row.{Row}
use Rattle.hilti_stack.specs.declared.head.Position.{Position}
use Rattle.hilti_effects.specs.Acting.{row_at, instruction_in, next, entry, locals_in}
use Rattle.hilti_effects.specs.Raising.{to_block}
use Rattle.hilti_shapes.specs.Needs.{Kinds, Has, Have, no_kinds}
use Rattle.hilti_shapes.specs.TypedRows.{IsRow}
use Rattle.hilti_code.specs.Runnable.{HasRow, IsRunnable, IsTypedProgram, PrintsTexts}
use Rattle.hilti_shapes.specs.Places.{IsAt, IsFrame}
use Rattle.hilti_shapes.proofs.Growing.{have_grow, none_grows}
use Rattle.hilti_shapes.proofs.Firsts.{firsts_have}
use Rattle.hilti_shapes.proofs.Endings.{ends, ends_by}
use Rattle.hilti_shapes.proofs.TypedLines.{typed_row}

recursion_at : {A : Type 0} (P : A → Type 0) (xs : List A) (n : ℕ) (x : A) → AllByRecursion P xs
    → slice_get xs n ≡ Some x → P x
recursion_at P [] n x h e = absurd cc
recursion_at P (y ∷ xs) zero x h e = subst P (same_Some y x e) h.0
recursion_at P (y ∷ xs) (suc n) x h e = recursion_at P xs n x h.1 e

pub all_at : {A : Type 0} (P : A → Type 0) (xs : List A) (n : ℕ) (x : A) → All P xs → slice_get xs n ≡ Some x → P x
all_at P xs n x h e = recursion_at P xs n x (recursion_from_All P xs h) e

-- the arguments, and what the other variables hold at first
entry_have : (P : Value → ValueType → Type 0) (n : ℕ) (ts : List ValueType) (args : List Value)
    → AllZip P args (take n ts) → AllZip P (map first_of ts) ts → AllZip P (args ++ map first_of (drop n ts)) ts
entry_have P zero [] [] h f = tt
entry_have P zero (t ∷ ts) [] h f = f
entry_have P zero [] (v ∷ args) h f = absurd h
entry_have P zero (t ∷ ts) (v ∷ args) h f = absurd h
entry_have P (suc n) [] [] h f = tt
entry_have P (suc n) [] (v ∷ args) h f = absurd h
entry_have P (suc n) (t ∷ ts) [] h f = absurd h
entry_have P (suc n) (t ∷ ts) (v ∷ args) h f = (h.0, entry_have P n ts args h.1 f.1)

-- the row of the next instruction, typed in its function
pub record RowAt (parts : Parts) (p : Position) (function : Function) (block : Block) : Type 0 where
  pub row : Row
  pub here : row_at parts p ≡ Some row
  pub typed : IsRow (context parts p.function.n function) row
  pub prints : PrintsTexts row
  pub goes_on : ends row ≡ false → p.at + 1 < length block.instructions

row_there : (o : Option Row) → IsSome o → (row : Row) × (o ≡ Some row)
row_there None h = absurd (false≢true h)
row_there (Some row) h = (row, refl)

module _ (parts : Parts) (program : IsTypedProgram parts) where
  pub block_typed : (p : Position) (slots : List Value) (k : Kinds) (a : IsAt parts p slots k)
      → IsTypedBlock (context parts p.function.n a.function) a.function.params a.block
  block_typed p slots k a =
      all_at (IsTypedBlock (context parts p.function.n a.function) a.function.params) a.function.blocks p.block
      a.block (program.typed.functions p.function.n a.function a.in_parts).blocks a.in_function

  pub block_here : (p : Position) (slots : List Value) (k : Kinds) (a : IsAt parts p slots k)
      → block_at parts p.function.n p.block ≡ Some a.block
  block_here p slots k a = ap (option_and_then (λ (f : Function). slice_get f.blocks p.block)) a.in_parts
      ∙ a.in_function

  runnable_at : (n : ℕ) (f : Function) → slice_get parts.functions n ≡ Some f → IsRunnable f
  runnable_at n f e = all_at IsRunnable parts.functions n f program.runnable e

  not_last : (i : Instruction) (at n : ℕ) → is_ending i ≡ false → (at + 1 ≡ n → IsTrue (is_ending i)) → at < n
      → at + 1 < n
  not_last i at n e h within = grind (arith, λ (j : at + 1 ≡ n). false≢true (sym e ∙ h j), within)

  pub row_here : (p : Position) (slots : List Value) (k : Kinds) (a : IsAt parts p slots k)
      → RowAt parts p a.function a.block
  row_here p slots k a =
      let x = some_at a.block.instructions p.at a.within in
      let blocks = runnable_at p.function.n a.function a.in_parts in
      let has = all_at HasRow a.block.instructions p.at x.0 (all_at (λ (b : Block). All HasRow b.instructions)
      a.function.blocks p.block a.block blocks a.in_function) x.1 in
      let r = row_there (row_of x.0) has.some in
      let typed = block_typed p slots k a in
      let last = (typed_blocks_end (context parts p.function.n a.function) a.function.params a.block typed).only_last
      p.at x.0 x.1 in
      record {
        row = r.0;
        here = ap (λ b. option_and_then row_of (instruction_in b p.at)) (block_here p slots k a)
            ∙ ap (option_and_then row_of) x.1 ∙ r.1;
        typed = typed_row (context parts p.function.n a.function) x.0 (all_at (IsTypedInstruction (context parts
            p.function.n a.function)) a.block.instructions p.at x.0 typed.instructions x.1) r.0 r.1;
        prints = subst (λ o. IfSome o PrintsTexts) r.1 has.prints;
        goes_on = λ e. not_last x.0 p.at (length a.block.instructions) (ends_by x.0.op x.0 r.0 r.1
            ∙ e) last.1 a.within;
      }

  -- at the next instruction, and at the beginning of a block
  pub next_at : (p : Position) (slots slots' : List Value) (k l : Kinds) (a : IsAt parts p slots k)
      → p.at + 1 < length a.block.instructions → Have parts.types l slots' a.function.slots
      → IsAt parts (next p) slots' l
  next_at p slots slots' k l a more h = record {
    function = a.function;
    in_parts = a.in_parts;
    block = a.block;
    in_function = a.in_function;
    within = more;
    slots_are = h;
  }

  pub block_begins : (p : Position) (slots slots' : List Value) (k l : Kinds) (n : ℕ) (a : IsAt parts p slots k)
      → n < length a.function.blocks → Have parts.types l slots' a.function.slots → IsAt parts (to_block p n) slots' l
  block_begins p slots slots' k l n a within h =
      let b = some_at a.function.blocks n within in
      let typed = all_at (IsTypedBlock (context parts p.function.n a.function) a.function.params) a.function.blocks n
      b.0 (program.typed.functions p.function.n a.function a.in_parts).blocks b.1 in
      record {
        function = a.function;
        in_parts = a.in_parts;
        block = b.0;
        in_function = b.1;
        within =
            (typed_blocks_end (context parts p.function.n a.function) a.function.params b.0 typed).some;
        slots_are = h;
      }

  pub entry_at : (f : FnId) (g : Function) (target : Option Variable) (args : List Value) (k : Kinds)
      → slice_get parts.functions f.n ≡ Some g → Have parts.types k args (take g.params g.slots)
      → IsFrame parts k (entry parts f args target)
  entry_at f g target args k e h =
      let function = program.typed.functions f.n g e in
      let b = some_at g.blocks 0 function.begins in
      let typed = all_at (IsTypedBlock (context parts f.n g) g.params) g.blocks 0 b.0 function.blocks b.1 in
      record {
        function = g;
        in_parts = e;
        block = b.0;
        in_function = b.1;
        within = (typed_blocks_end (context parts f.n g) g.params b.0 typed).some;
        slots_are = subst (λ o. Have parts.types k (args ++ locals_in o) g.slots) (sym e)
            (entry_have (Has parts.types k) g.params g.slots args h (have_grow parts.types no_kinds k (none_grows k)
            (map first_of g.slots) g.slots (firsts_have parts.types g.slots)));
      }
