-- Parts that are typed, and parts that aren't.
use Rattle.std.proofs.Common.{◌≡◌, ◌<◌, ◌≤◌, ◌+◌, ℕ, zero, suc, List, [], ◌∷◌, refl, sym, ap, ◌∙◌, arith, length, position, slice_get, All, inl}
use Rattle.std.proofs.Common.{Option, Some, None, IsSomeAnd}
use Rattle.std.proofs.Math.Path.{subst}
use Rattle.std.proofs.lemmas.Bool.{false≢true}
use Rattle.std.proofs.lemmas.List.Elements.{All-nil, All-cons, All-head}
use Rattle.std.proofs.lemmas.Option.{slice_get_within}
use Rattle.hilti_types.specs.declared.op.Op.{Op}
use Rattle.hilti_types.specs.declared.op.Op.TheVariants as ops
use Rattle.hilti_types.specs.declared.value_type.ValueType.{ValueType}
use Rattle.hilti_parts.specs.declared.parts.Parts.{Parts}
use Rattle.hilti_parts.specs.declared.parts.Exception.{Exception}
use Rattle.hilti_parts.specs.declared.parts.Global.{Global}
use Rattle.hilti_parts.specs.declared.parts.Hook.{Hook}
use Rattle.hilti_parts.specs.declared.parts.Function.{Function}
use Rattle.hilti_parts.specs.declared.parts.Block.{Block}
use Rattle.hilti_parts.specs.declared.parts.Handler.{Handler}
use Rattle.hilti_parts.specs.declared.parts.Instruction.{Instruction}
use Rattle.hilti_typing.specs.Context.{Signature, Context}
use Rattle.hilti_typing.specs.Fits.{Fit, IsTypedLine}
use Rattle.hilti_typing.specs.Programs.{BeginsTyped, context, is_ending, IsTypedHandler, IsTypedInstruction, IsTypedBlock, IsTypedFunction, EachOperand, NamesNoHookBody}
use Rattle.hilti_typing.specs.Programs.{IsBodyOf, IsShort, IsShortFunction}
use Rattle.hilti_typing.specs.Programs.{AreTyped, body_at}
use Rattle.hilti_typing.specs.ProgramExamples.{bare, leaving, leaving_block, catching, with_functions, busy, seen_hook, packet, seen, done, stopping, own_parent, whole, UntypedParts}

one : {X : Type 0} (P : X → Type 0) (x : X) → P x → All P (x ∷ [])
one P x is = All-cons P x [] is (All-nil P)

module _ (parts : Parts) (at : ℕ) (name : List ℕ) (slots : List ValueType) (params : ℕ) (handlers : List Handler) (op : Op) where
  abbrev c : Context
  c = context parts at (leaving name slots params handlers op)

  block_leaves : All (IsTypedHandler c params) handlers → IsSomeAnd (position is_ending (bare op ∷ [])) (λ k. k + 1 ≡ 1) → IsTypedLine c op None [] →
      IsTypedBlock c params (leaving_block handlers op)
  block_leaves caught ending line = record {
    handlers = caught;
    instructions = one (IsTypedInstruction c) (bare op) (record { target = refl; line = line });
    ending = ending;
  }

  -- a function that just leaves
  leaves : params ≤ length slots → All (IsTypedHandler c params) handlers → IsSomeAnd (position is_ending (bare op ∷ [])) (λ k. k + 1 ≡ 1) →
      IsTypedLine c op None [] → IsTypedFunction parts at (leaving name slots params handlers op)
  leaves fits caught ending line = record {
    parameters = fits;
    begins = omega arith;
    blocks = one (IsTypedBlock c params) (leaving_block handlers op) (block_leaves caught ending line);
    called = one (EachOperand (NamesNoHookBody parts)) (leaving_block handlers op)
        (one (λ (i : Instruction). All (NamesNoHookBody parts) i.operands) (bare op) (All-nil (NamesNoHookBody parts)));
  }

packet_typed : IsTypedFunction whole 0 packet
unfolding Fit
packet_typed = leaves whole 0 _ _ _ _ ops.ReturnVoid (omega arith)
    (one (IsTypedHandler (context whole 0 packet) 2) catching (record { handles = omega arith; goes_on = omega arith; no_parameter = omega arith; text = refl }))
    refl (record { counted = refl; fit = refl; stands = refl })

seen_typed : IsTypedFunction whole 1 seen
unfolding Fit
seen_typed = leaves whole 1 _ _ _ _ ops.HookStop (omega arith) (All-nil _) refl (record { counted = refl; fit = refl; stands = refl })

done_typed : IsTypedFunction whole 2 done
unfolding Fit
done_typed = leaves whole 2 _ _ _ _ ops.ReturnVoid (omega arith) (All-nil _) refl (record { counted = refl; fit = refl; stands = refl })

same : {X : Type 0} (x y : X) → Some x ≡ Some y → x ≡ y
same x y e = cc

none : {X : Type 0} (x : X) → None ≡ Some x → ⊥
none x e = cc

each_typed : (at : ℕ) (f : Function) → slice_get whole.functions at ≡ Some f → IsTypedFunction whole at f
each_typed zero f e = subst (IsTypedFunction whole 0) (same packet f e) packet_typed
each_typed (suc zero) f e = subst (IsTypedFunction whole 1) (same seen f e) seen_typed
each_typed (suc (suc zero)) f e = subst (IsTypedFunction whole 2) (same done f e) done_typed
each_typed (suc (suc (suc k))) f e = absurd (none f e)

seventh : (at : ℕ) (e : Exception) → slice_get whole.exceptions at ≡ Some e → 7 ≤ at → IsSomeAnd e.parent (λ p. p < at)
seventh at e is h =
    let within = slice_get_within whole.exceptions at e is in
    let last : at ≡ 7 = omega (arith, within, h) in
    subst (λ (x : Exception). IsSomeAnd x.parent (λ p. p < at)) (same _ e (subst (λ n. slice_get whole.exceptions n ≡ Some e) last is)) (omega (arith, h))

one_place : (h k : ℕ) (f : _) → body_at whole h k ≡ Some f → (h ≡ 0) × (k ≡ 0)
one_place zero zero f e = (refl, refl)
one_place zero (suc k) f e = absurd (none f e)
one_place (suc h) k f e = absurd (none f e)

short_leaving : (name : List ℕ) (slots : List ValueType) (params : ℕ) (handlers : List Handler) (op : Op) → IsShort slots →
    IsShortFunction (leaving name slots params handlers op)
short_leaving name slots params handlers op h = record {
  slots = h;
  blocks = omega arith;
  instructions = one (λ (b : Block). IsShort b.instructions) (leaving_block handlers op) (omega arith);
}

pub whole_is_typed : AreTyped whole
whole_is_typed = record {
  globals = one (BeginsTyped []) busy (inl refl);
  exceptions = record { built_in = refl; declared = seventh };
  hooks = one (λ (h : Hook). All (IsBodyOf whole h) h.bodies) seen_hook (one (IsBodyOf whole seen_hook) (record { n = 1 }) refl);
  bodies = λ f h k i j a b.
      let first = one_place h k f a in
      let second = one_place i j f b in
      (first.0 ∙ sym second.0, first.1 ∙ sym second.1);
  functions = each_typed;
  entries = record { packet = record { takes = refl; no_body = refl }; init = tt; done = record { takes = refl; no_body = refl } };
  short = record {
    types = omega arith;
    globals = omega arith;
    functions = omega arith;
    exceptions = omega arith;
    hooks = omega arith;
    each = All-cons IsShortFunction packet (seen ∷ done ∷ []) (short_leaving _ _ _ _ _ (omega arith))
        (All-cons IsShortFunction seen (done ∷ []) (short_leaving _ _ _ _ _ (omega arith))
        (one IsShortFunction done (short_leaving _ _ _ _ _ (omega arith))));
    bodies = one (λ (h : Hook). IsShort h.bodies) seen_hook (omega arith);
  };
}

parameters_of : Option Signature → ℕ
parameters_of None = 0
parameters_of (Some s) = length s.parameters

below_itself : 7 < 7 → ⊥
below_itself h = omega (arith, h)

differ : (m n : ℕ) → m < n → m ≡ n → ⊥
differ m n h e = omega (arith, h, e)

abbrev stopping_parts : Parts
stopping_parts = with_functions (packet ∷ seen ∷ stopping ∷ [])

stops_none : IsTypedFunction stopping_parts 2 stopping → ⊥
stops_none typed = false≢true typed_line.line.stands
  where
    typed_block : IsTypedBlock (context stopping_parts 2 stopping) 0 (leaving_block [] ops.HookStop)
    typed_block = All-head (IsTypedBlock (context stopping_parts 2 stopping) 0) (leaving_block [] ops.HookStop) [] typed.blocks

    typed_line : IsTypedInstruction (context stopping_parts 2 stopping) (bare ops.HookStop)
    typed_line = All-head (IsTypedInstruction (context stopping_parts 2 stopping)) (bare ops.HookStop) [] typed_block.instructions

pub untyped_parts : UntypedParts
unfolding parameters_of
untyped_parts = record {
  no_packet = λ t. t.entries.packet;
  other_packet = λ t. differ 1 2 (omega arith) (ap parameters_of t.entries.packet.takes);
  stops_no_hook = λ t. stops_none (t.functions 2 stopping refl);
  circle = λ t. below_itself (t.exceptions.declared 7 own_parent refl (omega arith));
  none_built_in = λ t. differ 0 7 (omega arith) (ap length t.exceptions.built_in);
  body_of_two = λ t. differ 0 1 (omega arith) (t.bodies (record { n = 1 }) 0 0 1 0 refl refl).0;
}
