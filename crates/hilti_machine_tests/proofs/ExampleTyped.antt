-- The example is typed and runnable.
use Rattle.std.proofs.Common.{◌≡◌, ℕ, zero, suc, [], ◌∷◌, refl, sym, arith}
use Rattle.std.proofs.Common.{slice_get}
use Rattle.std.proofs.Common.{Some, None, subst, take}
use Rattle.std.specs.List.{All, AllZip}
use Rattle.std.proofs.lemmas.List.Elements.{All-from_recursion}
use Rattle.std.proofs.lemmas.Option.{slice_get_within}
use Rattle.hilti_types.specs.declared.op.Op.TheVariants as ops
use Rattle.hilti_parts.specs.declared.parts.Block.{Block}
use Rattle.hilti_parts.specs.declared.parts.Function.{Function}
use Rattle.hilti_parts.specs.declared.parts.Hook.{Hook}
use Rattle.hilti_parts.specs.declared.parts.Instruction.{Instruction}
use Rattle.hilti_parts.specs.declared.parts.Operand.TheVariants as operands
use Rattle.hilti_typing.specs.Fits.{Fit}
use Rattle.hilti_typing.specs.Programs.{context, IsTypedHandler, IsTypedInstruction, IsTypedBlock}
use Rattle.hilti_typing.specs.Programs.{IsTypedFunction, EachOperand, NamesNoHookBody, IsBodyOf}
use Rattle.hilti_typing.specs.Programs.{IsShort, IsShortFunction, BeginsTyped, AreTyped}
use Rattle.hilti_code.specs.Runnable.{IsTypedProgram, IsRunnable, HasRow}
use Rattle.hilti_machine_tests.specs.Example.{plain, example, packet, pauses, spins, CallsAreSound}
use Rattle.hilti_machine.specs.Sound.{IsSound, IsArgument}

one : {X : Type 0} (P : X → Type 0) (x : X) → P x → All P (x ∷ [])
one P x h = All-from_recursion P (x ∷ []) (h, tt)

two : {X : Type 0} (P : X → Type 0) (x y : X) → P x → P y → All P (x ∷ y ∷ [])
two P x y a b = All-from_recursion P (x ∷ y ∷ []) (a, (b, tt))

three : {X : Type 0} (P : X → Type 0) (x y z : X) → P x → P y → P z → All P (x ∷ y ∷ z ∷ [])
three P x y z a b d = All-from_recursion P (x ∷ y ∷ z ∷ []) (a, (b, (d, tt)))

nil : {X : Type 0} (P : X → Type 0) → All P []
nil P = All-from_recursion P [] tt

abbrev leaves : Instruction
leaves = plain ops.ReturnVoid []

abbrev yields : Instruction
yields = plain ops.Yield []

abbrev jumps : Instruction
jumps = plain ops.Jump (operands.Block 0 ∷ [])

abbrev Names : Instruction → Type 0
Names i = All (NamesNoHookBody example) i.operands

leaves_typed : (at : ℕ) (f : Function) → f.result ≡ None
    → IsTypedInstruction (context example at f) leaves
unfolding Fit
leaves_typed at f void =
    record { target = refl; line = record { counted = refl; fit = refl; stands = void } }

packet_typed : IsTypedFunction example 0 packet
packet_typed = record {
  parameters = omega arith;
  begins = omega arith;
  blocks = one (IsTypedBlock (context example 0 packet) 2) _ (record {
    handlers = nil (IsTypedHandler (context example 0 packet) 2);
    instructions =
        one (IsTypedInstruction (context example 0 packet)) leaves (leaves_typed 0 packet refl);
    ending = refl;
  });
  called = one (EachOperand (NamesNoHookBody example)) _
      (one Names leaves (nil (NamesNoHookBody example)));
}

pauses_typed : IsTypedFunction example 1 pauses
unfolding Fit
pauses_typed = record {
  parameters = omega arith;
  begins = omega arith;
  blocks = one (IsTypedBlock (context example 1 pauses) 0) _ (record {
    handlers = nil (IsTypedHandler (context example 1 pauses) 0);
    instructions = two (IsTypedInstruction (context example 1 pauses)) yields leaves
        (record { target = refl; line = record { counted = refl; fit = refl; stands = tt } })
        (leaves_typed 1 pauses refl);
    ending = refl;
  });
  called = one (EachOperand (NamesNoHookBody example)) _
      (two Names yields leaves (nil (NamesNoHookBody example)) (nil (NamesNoHookBody example)));
}

spins_typed : IsTypedFunction example 2 spins
unfolding Fit
spins_typed = record {
  parameters = omega arith;
  begins = omega arith;
  blocks = one (IsTypedBlock (context example 2 spins) 0) _ (record {
    handlers = nil (IsTypedHandler (context example 2 spins) 0);
    instructions = one (IsTypedInstruction (context example 2 spins)) jumps (record {
      target = refl;
      line = record { counted = refl; fit = (omega arith, refl); stands = tt };
    });
    ending = refl;
  });
  called = one (EachOperand (NamesNoHookBody example)) _
      (one Names jumps (one (NamesNoHookBody example) (operands.Block 0) tt));
}

same : {X : Type 0} (x y : X) → Some x ≡ Some y → x ≡ y
same x y e = cc

none : {X : Type 0} (x : X) → None ≡ Some x → ⊥
none x e = cc

each_typed : (at : ℕ) (f : Function) → slice_get example.functions at ≡ Some f
    → IsTypedFunction example at f
each_typed zero f e = subst (IsTypedFunction example 0) (same packet f e) packet_typed
each_typed (suc zero) f e = subst (IsTypedFunction example 1) (same pauses f e) pauses_typed
each_typed (suc (suc zero)) f e = subst (IsTypedFunction example 2) (same spins f e) spins_typed
each_typed (suc (suc (suc k))) f e = absurd (none f e)

typed : AreTyped example
typed = record {
  globals = nil (BeginsTyped []);
  exceptions = record {
    built_in = refl;
    declared = λ at e is h.
        let within = slice_get_within example.exceptions at e is in
        absurd (omega (arith, within, h));
  };
  hooks = nil (λ (h : Hook). All (IsBodyOf example h) h.bodies);
  bodies = λ f h k i j a b. absurd (none f a);
  functions = each_typed;
  entries = record { packet = record { takes = refl; no_body = refl }; init = tt; done = tt };
  short = record {
    types = omega arith;
    globals = omega arith;
    functions = omega arith;
    exceptions = omega arith;
    hooks = omega arith;
    each = three IsShortFunction packet pauses spins
        (record {
          slots = omega arith;
          blocks = omega arith;
          instructions = one (λ (b : Block). IsShort b.instructions) _ (omega arith);
        })
        (record {
          slots = omega arith;
          blocks = omega arith;
          instructions = one (λ (b : Block). IsShort b.instructions) _ (omega arith);
        })
        (record {
          slots = omega arith;
          blocks = omega arith;
          instructions = one (λ (b : Block). IsShort b.instructions) _ (omega arith);
        });
    bodies = nil (λ (h : Hook). IsShort h.bodies);
  };
}

abbrev Rows : Block → Type 0
Rows b = All HasRow b.instructions

pub example_typed : IsTypedProgram example
example_typed = record {
  typed = typed;
  runnable = three IsRunnable packet pauses spins
      (one Rows _ (one HasRow leaves (record { some = refl; prints = tt })))
      (one Rows _ (two HasRow yields leaves (record { some = refl; prints = tt })
      (record { some = refl; prints = tt })))
      (one Rows _ (one HasRow jumps (record { some = refl; prints = tt })));
}

sound : (fuel n : ℕ) (f : Function) → slice_get example.functions n ≡ Some f → f.result ≡ None
    → f.params ≡ 0 → IsSound (record { parts = example; fuel = fuel })
    (record { function = record { n = n }; args = [] })
sound fuel n f stands void bare = record {
  program = example_typed;
  function = f;
  stands = stands;
  void = void;
  no_body = refl;
  arguments = subst (λ k. AllZip (IsArgument []) [] (take k f.slots)) (sym bare) tt;
  size = omega arith;
}

pub calls_are_sound : CallsAreSound
calls_are_sound fuel zero least most = absurd (omega arith)
calls_are_sound fuel (suc zero) least most = sound fuel 1 pauses refl refl refl
calls_are_sound fuel (suc (suc zero)) least most = sound fuel 2 spins refl refl refl
calls_are_sound fuel (suc (suc (suc n))) least most = absurd (omega arith)
