-- From typed blocks, handlers and lines to the parts of a program.
use Rattle.std.proofs.Common.{◌≡◌, ◌↔◌, ℕ, ◌+◌, ◌<◌, ◌≤◌, Bool, true, false, IsTrue, List, [], ◌∷◌, refl, sym, ap, ◌∙◌, length, map, get_or, slice_get}
use Rattle.std.proofs.Common.{arith, ◌⊎◌, inl, inr, position, Option, Some, None, IsSomeAnd}
use Rattle.std.proofs.Math.Path.{subst}
use Rattle.std.proofs.lemmas.Bool.{false≢true, cases_lt}
use Rattle.std.proofs.lemmas.List.Quantifiers.{position-Some}
use Rattle.std.proofs.lemmas.Option.{slice_get-map, slice_get-get_or, slice_get_within, get_or_from_slice_get}
use Rattle.std.specs.Option.{option_map, option_and_then}
use Rattle.hilti_types.specs.declared.op.Op.{Op}
use Rattle.hilti_types.specs.declared.op.Op.TheVariants as ops
use Rattle.hilti_table.specs.Table.{line_of}
use Rattle.hilti_parts.specs.declared.parts.Parts.{Parts}
use Rattle.hilti_parts.specs.declared.parts.Global.{Global}
use Rattle.hilti_parts.specs.declared.parts.Function.{Function}
use Rattle.hilti_parts.specs.declared.parts.Instruction.{Instruction}
use Rattle.hilti_parts.specs.declared.parts.Operand.{Operand}
use Rattle.hilti_parts.specs.Named.{named_block, named_function}
use Rattle.hilti_typing.specs.Context.{Signature, Context}
use Rattle.hilti_typing.specs.Fits.{HaveAll, MayTake, FitsRow, callee, setting}
use Rattle.hilti_typing.specs.Facts.{CalledWith}
use Rattle.hilti_typing.specs.Programs.{signature, context, is_ending, IsTypedInstruction}
use Rattle.hilti_typing.specs.ProgramLaws.{TypedBlocksEnd, NamesBlockOf, CallsFunctionOf, NamedParts}
use Rattle.hilti_typing.proofs.Meeting.{flow_rows}
use Rattle.hilti_typing.proofs.Calls.{call_rows}

-- the item at a place that is in a list
pub some_at : {X : Type 0} (xs : List X) (n : ℕ) → n < length xs → (x : X) × (slice_get xs n ≡ Some x)
some_at [] n h = absurd (omega arith)
some_at (y ∷ ys) n h = (get_or (y ∷ ys) n y, slice_get-get_or (y ∷ ys) n y h)

-- a place that is not before the last one is the last one
at_last : (at j n : ℕ) → at < n → j + 1 ≡ n → (at < j) ⊎ (j ≤ at) → (at < j → ⊥) → at + 1 ≡ n
at_last at j n within last (inl before) never = absurd (never before)
at_last at j n within last (inr behind) never = omega arith

-- where the first item that passes is the last one, an item passes just where it is the last one
last_passes : {X : Type 0} (p : X → Bool) (xs : List X) (j : ℕ) (d : X) → position p xs ≡ Some j → j + 1 ≡ length xs →
    (at : ℕ) (x : X) → slice_get xs at ≡ Some x → IsTrue (p x) ↔ (at + 1 ≡ length xs)
last_passes p xs j d e last at x is = (forward, backward)
  where
    found : (j < length xs) × (p (get_or xs j d) ≡ true) × ((k : ℕ) → k < j → p (get_or xs k d) ≡ false)
    found = position-Some p xs j d e

    is_x : get_or xs at d ≡ x
    is_x = get_or_from_slice_get xs at x d is

    within : at < length xs
    within = slice_get_within xs at x is

    not_before : p x ≡ true → at < j → ⊥
    not_before passes before = false≢true (sym (found.2 at before) ∙ (ap p is_x ∙ passes))

    forward : p x ≡ true → at + 1 ≡ length xs
    forward passes = at_last at j (length xs) within last (cases_lt at j) (not_before passes)

    backward : at + 1 ≡ length xs → p x ≡ true
    backward at_end = ap p (sym is_x) ∙ (ap (λ k. p (get_or xs k d)) same ∙ found.1)
      where
        same : at ≡ j
        same = omega arith

ends_once : (p : Instruction → Bool) (xs : List Instruction) (found : Option ℕ) → position p xs ≡ found → IsSomeAnd found (λ k. k + 1 ≡ length xs) →
    (0 < length xs) × ((at : ℕ) (i : Instruction) → slice_get xs at ≡ Some i → IsTrue (p i) ↔ (at + 1 ≡ length xs))
ends_once p xs None e is = absurd is
ends_once p xs (Some j) e is = (omega arith, λ at i there. last_passes p xs j i e is at i there)

pub typed_blocks_end : TypedBlocksEnd
typed_blocks_end c parameters block typed =
    let it = ends_once is_ending block.instructions (position is_ending block.instructions) refl typed.ending in
    record { some = it.0; only_last = it.1 }

-- a line of a mnemonic fits the row of the mnemonic
line_at : (c : Context) (i : Instruction) (op : Op) → i.op ≡ op → IsTypedInstruction c i → FitsRow (setting c i.kind i.operands) (line_of op).row i.operands
line_at c i op e typed = subst (λ o. FitsRow (setting c i.kind i.operands) (line_of o).row i.operands) e typed.line

block_of : (f : Function) (x : Operand) (named : Option ℕ) → named_block x ≡ named → IsSomeAnd named (λ n. n < length f.blocks) → NamesBlockOf f x
block_of f x None e is = absurd is
block_of f x (Some n) e is = let it = some_at f.blocks n is in record { at = n; block = it.0; names = e; there = it.1 }

found_at : (functions : List Function) (x : Operand) (s : Signature) (n : Option ℕ) → named_function x ≡ n →
    option_and_then (λ (k : ℕ). slice_get (map signature functions) k) n ≡ Some s → (k : ℕ) × (named_function x ≡ Some k) × (slice_get (map signature functions) k ≡ Some s)
found_at functions x s None e found = absurd (no_some found)
  where
    no_some : None ≡ Some s → ⊥
    no_some e = cc
found_at functions x s (Some k) e found = (k, e, found)

function_at : (s : Signature) (f : Option Function) → option_map signature f ≡ Some s → (g : Function) × (f ≡ Some g) × (signature g ≡ s)
function_at s None e = absurd (no_some e)
  where
    no_some : None ≡ Some s → ⊥
    no_some e = cc
function_at s (Some g) e = (g, refl, some_is e)
  where
    some_is : Some (signature g) ≡ Some s → signature g ≡ s
    some_is e = cc

module _ (parts : Parts) (at : ℕ) (f : Function) where
  jumps : (i : Instruction) → IsTypedInstruction (context parts at f) i → i.op ≡ ops.Jump → (x : Operand) × (i.operands ≡ x ∷ []) × NamesBlockOf f x
  jumps i typed e =
      let it = flow_rows.block (setting (context parts at f) i.kind i.operands) _ _ _ i.operands (line_at (context parts at f) i ops.Jump e typed) in
      (it.0.block, it.0.are, block_of f it.0.block (named_block it.0.block) refl it.0.named)

  called_of : (i : Instruction) (c : CalledWith callee (setting (context parts at f) i.kind i.operands) i.operands) →
      MayTake i.kind c.calling.signature.result → CallsFunctionOf parts (context parts at f) i
  called_of i c may =
      let named = found_at parts.functions c.called c.calling.signature (named_function c.called) refl c.calling.calls in
      let it = function_at c.calling.signature (slice_get parts.functions named.0) (sym (slice_get-map signature parts.functions named.0) ∙ named.2) in
      record {
        called = c.called;
        group = c.group;
        at = named.0;
        function = it.0;
        arguments = c.calling.arguments;
        are = c.are;
        names = named.1;
        there = it.1;
        groups = c.calling.groups;
        arguments_are = subst (λ s. HaveAll (context parts at f) s.parameters c.calling.arguments) (sym it.2) c.calling.arguments_are;
        target = subst (λ s. MayTake i.kind s.result) (sym it.2) may;
      }

  calls : (i : Instruction) → IsTypedInstruction (context parts at f) i → i.op ≡ ops.Call → CallsFunctionOf parts (context parts at f) i
  calls i typed e =
      let it = call_rows.functions _ (setting (context parts at f) i.kind i.operands) _ _ _ i.operands (line_at (context parts at f) i ops.Call e typed) in
      called_of i it.0 it.2

  pub named_parts : NamedParts parts at f
  named_parts = record {
    handler = λ h typed. some_at f.blocks h.block typed.goes_on;
    jump = jumps;
    call = calls;
    global = λ n. slice_get-map (λ (g : Global). g.kind) parts.globals n;
  }
