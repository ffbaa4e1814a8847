-- The row that a function is at, and what follows of it.
use Rattle.std.proofs.Common.{◌≡◌, ℕ, ◌+◌, ◌<◌, ◌^◌, Bool, List, length, refl, sym, ap, subst, ◌∙◌}
use Rattle.std.proofs.Common.{Option, Some, None, arith}
use Rattle.std.specs.Prelude.{slice_get, IsSome, Result, Ok, Err, IfOk}
use Rattle.std.specs.List.{All}
use Rattle.std.specs.Option.{option_and_then}
use Rattle.std.proofs.lemmas.Option.{same_Some, slice_get_within, get_or_from_slice_get}
use Rattle.std.proofs.lemmas.List.Elements.{All-get_or}
use Rattle.hilti_base.specs.declared.memory.NoMemory.{NoMemory}
use Rattle.hilti_code.specs.Rows.{Rows, rows_of, row_in}
use Rattle.hilti_code.proofs.Places.{stands_at_each_place}
use Rattle.hilti_heap.specs.Kept.{Kept}
use Rattle.hilti_heap.specs.Stores.{Store}
use Rattle.hilti_parts.specs.declared.parts.Block.{Block}
use Rattle.hilti_parts.specs.declared.parts.Function.{Function}
use Rattle.hilti_parts.specs.declared.parts.Instruction.{Instruction}
use Rattle.hilti_parts.specs.declared.parts.Parts.{Parts}
use Rattle.hilti_raise.specs.Handlers.{block_at}
use Rattle.hilti_rows.specs.declared.row.Row.{Row}
use Rattle.hilti_rows.specs.declared.row.StructRow.{StructRow}
use Rattle.hilti_rows.specs.Resolving.{row_of}
use Rattle.hilti_stack.specs.declared.head.Position.{Position}
use Rattle.hilti_stack.specs.Frames.{Frames}
use Rattle.hilti_typing.specs.Programs.{AreTyped, IsShort, IsShortFunction}
use Rattle.hilti_values.specs.declared.value.Value.{Value}
use Rattle.hilti_effects.specs.Acting.{act, act_if, act_on, instruction_in, on_struct}
use Rattle.hilti_effects.specs.Asks.{Asks, Ready}
use Rattle.hilti_acting.specs.Acts.{Acts, MayRaise, does_at, of_state, thread}
use Rattle.hilti_acting.specs.Free.{IsFreeRow}
use Rattle.hilti_acting.specs.declared.did.Did.{Did}
use Rattle.hilti_acting.specs.declared.memory.Memory.{Memory}
use Rattle.hilti_acting.proofs.Answering.{acts_same}
use Rattle.hilti_acting.proofs.Constants.{free_row}

all_at : {A : Type 0} (P : A → Type 0) (xs : List A) (n : ℕ) (x : A) → All P xs
    → slice_get xs n ≡ Some x → P x
all_at P xs n x all e =
    subst P (get_or_from_slice_get xs n x x e)
    (All-get_or P xs n x (slice_get_within xs n x e) all)

inside : (o : Option Block) (n : ℕ)
    → option_and_then (λ (block : Block). slice_get block.instructions n) o ≡ instruction_in o n
inside None n = refl
inside (Some b) n = refl

-- blocks are short
module _ (parts : Parts) (typed : AreTyped parts) (f b : ℕ) (block : Block) where
  in_function : (o : Option Function) → slice_get parts.functions f ≡ o
      → option_and_then (λ (function : Function). slice_get function.blocks b) o ≡ Some block
      → IsShort block.instructions
  in_function None is e = absurd cc
  in_function (Some function) is e =
      all_at (λ (b : Block). IsShort b.instructions) function.blocks b block
      (all_at IsShortFunction parts.functions f function typed.short.each is).instructions e

  short_block : block_at parts f b ≡ Some block → IsShort block.instructions
  short_block e = in_function (slice_get parts.functions f) refl e

-- a block with an instruction

at_instruction : (found : Option Instruction) (row : Row) → option_and_then row_of found ≡ Some row
    → (i : Instruction) × (found ≡ Some i)
at_instruction None row e = absurd cc
at_instruction (Some i) row e = (i, refl)

in_block : (o : Option Block) (n : ℕ) (row : Row)
    → option_and_then row_of (instruction_in o n) ≡ Some row
    → (block : Block) × (o ≡ Some block) × (n < length block.instructions)
in_block None n row e = absurd cc
in_block (Some block) n row e =
    let i = at_instruction (slice_get block.instructions n) row e in
    (block, refl, slice_get_within block.instructions n i.0 i.1)

not_both : {row : Row} → None ≡ Some row → ⊥
not_both e = cc

not_none : (row : Row) → Some row ≡ None → ⊥
not_none row e = cc

is_there : {A : Type 0} (o : Option A) (x : A) → o ≡ Some x → IsSome o
is_there None x e = absurd cc
is_there (Some y) x e = refl

module _ (parts : Parts) (typed : AreTyped parts) (rows : Rows) (code : rows_of parts ≡ Some rows)
    (p : Position) (slots globals : List Value) (h : Kept)
    (ready : Ready parts p slots globals h) where
  row_is : row_in rows p ≡ Some ready.row
  row_is =
      stands_at_each_place parts rows code p
      ∙ ap (option_and_then row_of) (inside (block_at parts p.function.n p.block) p.at)
      ∙ ready.here

  pub never_none : (found : Option Row) → found ≡ row_in rows p → found ≡ None → ⊥
  never_none None is e = not_both (is ∙ row_is)
  never_none (Some row) is e = not_none row e

  block_is : (block : Block) × (block_at parts p.function.n p.block ≡ Some block)
      × (p.at < length block.instructions)
  block_is = in_block (block_at parts p.function.n p.block) p.at ready.row ready.here

  pub room_left : p.at + 1 < 2 ^ 32
  room_left =
      let short = short_block parts typed p.function.n p.block block_is.0 block_is.1 in
      let below = block_is.2 in omega arith

  pub may_raise : MayRaise parts p slots
  may_raise = record {
    block = is_there (block_at parts p.function.n p.block) block_is.0 block_is.1;
    slots_are = ready.slots_are;
  }

  module _ (row : Row) (fetched : Some row ≡ row_in rows p) where
    same : ready.row ≡ row
    same = same_Some ready.row row (sym row_is ∙ sym fetched)

    pub asked : Asks parts slots globals h row
    asked = subst (Asks parts slots globals h) same ready.asks

    pub freed : IsFreeRow row
    freed = subst IsFreeRow same
        (free_row (instruction_in (block_at parts p.function.n p.block) p.at) ready.row ready.here)

-- what is done at a row is what is done next
module _ (parts : Parts) (rows : Rows) (code : rows_of parts ≡ Some rows)
    (p : Position) (s : Frames) (m : Memory)
    (ready : Ready parts p s.slots m.globals.items m.heap) (row : Row)
    (fetched : Some row ≡ row_in rows p) where
  next_is : (n : ℕ) (ran : Bool) (store : Store)
      → act_on parts p s.slots (thread n ran m.globals.items store) row
      ≡ does_at parts p s.slots m.globals.items n ran store
  unfolding act
  next_is n ran store =
      sym (ap (act_if parts p s.slots (thread n ran m.globals.items store))
      (sym (ap (option_and_then row_of) (inside (block_at parts p.function.n p.block) p.at))
      ∙ sym (stands_at_each_place parts rows code p) ∙ sym fetched))

  pub acted : (result : Result Did NoMemory) (p' : Position) (s' : Frames) (m' : Memory)
      → IfOk result (λ did.
      Acts (of_state (λ st. act_on parts p s.slots st row) m.globals.items) p s m did p' s' m')
      → IfOk result (λ did.
      Acts (does_at parts p s.slots m.globals.items) p s m did p' s' m')
  acted (Ok did) p' s' m' is =
      acts_same (of_state (λ st. act_on parts p s.slots st row) m.globals.items)
      (does_at parts p s.slots m.globals.items) next_is p s m did p' s' m' is
  acted (Err e) p' s' m' is = tt

-- what a row on a struct does, told of an equal row
pub struct_acts : (parts : Parts) (p : Position) (s : Frames) (m : Memory) (row told : StructRow)
    → row ≡ told → (result : Result Did NoMemory) (p' : Position) (s' : Frames) (m' : Memory)
    → IfOk result (λ did.
    Acts (of_state (λ st. on_struct parts p s.slots st told) m.globals.items) p s m did p' s' m')
    → IfOk result (λ did.
    Acts (of_state (λ st. on_struct parts p s.slots st row) m.globals.items) p s m did p' s' m')
struct_acts parts p s m row told is result p' s' m' =
    subst (λ row. IfOk result (λ did.
    Acts (of_state (λ st. on_struct parts p s.slots st row) m.globals.items) p s m did p' s' m'))
    (sym is)
