-- The calls of a capture may be started.
use Rattle.std.proofs.Common.{◌≡◌, refl, ℕ, ◌+◌, ◌≤◌, List, [], length, Option, Some, None, inl, inr, sym, ◌∙◌, ap, arith}
use Rattle.std.proofs.Common.{rules, All, IfSome}
use Rattle.std.proofs.Math.Path.{subst}
use Rattle.std.specs.List.{AllZip}
use Rattle.std.specs.Option.{option_map}
use Rattle.std.proofs.lemmas.List.Elements.{All-weaker}
use Rattle.hilti_base.specs.declared.limits.Limits.{Limits}
use Rattle.hilti_base.specs.declared.names.FnId.{FnId}
use Rattle.hilti_tree.specs.declared.call.Call.{Call}
use Rattle.hilti_tree.specs.declared.tree.Tree.TheVariants as trees
use Rattle.hilti_tree.specs.declared.tree.Tree.TheFolds.{the_lemmas as of_trees}
use Rattle.hilti_tree.specs.Sizes.{tree_size, forest_size}
use Rattle.hilti_types.specs.declared.declared.Declared.{Declared}
use Rattle.hilti_types.specs.declared.value_type.Inner.TheOpen.{ValueType-F}
use Rattle.hilti_types.specs.declared.value_type.ValueType.{ValueType}
use Rattle.hilti_types.specs.declared.value_type.ValueType.TheVariants as types
use Rattle.hilti_values.specs.declared.value.Value.TheVariants as values
use Rattle.hilti_values.specs.declared.value.Value.TheOpen.{Value-F}
use Rattle.hilti_parts.specs.declared.parts.Function.{Function}
use Rattle.hilti_parts.specs.declared.parts.Parts.{Parts}
use Rattle.hilti_typing.specs.Context.{Signature}
use Rattle.hilti_typing.specs.Programs.{bare_signature, packet_signature, signature}
use Rattle.hilti_program.specs.Programs.{IsEntryOf}
use Rattle.hilti_code.specs.Runnable.{IsTypedProgram}
use Rattle.hilti_pcap.specs.declared.packet.Packet.{Packet}
use Rattle.hilti_feed.specs.Calls.{IsCallOf, done_call, packet_call}
use Rattle.hilti_effects.specs.Effect.{value_of_tree}
use Rattle.hilti_shapes.specs.Needs.{needs}
use Rattle.hilti_shapes.proofs.Values.{shape_needs}
use Rattle.hilti_machine.specs.Sound.{IsArgument, IsSound}
use Rattle.hilti_top.specs.Report.{facts_of}

time_argument : (table : List Declared) (n : ℕ) → IsArgument table (trees.Time n) types.Time
time_argument table n =
    let value : value_of_tree (trees.Time n) ≡ values.Time n = search (rules, of_trees) in record {
      plain = search (rules, of_trees);
      fits = ap (λ v. needs table v types.Time) value
          ∙ shape_needs table (Value-F.Time n) (values.Time n) ValueType-F.Time types.Time
          (values.rolls-Time n) types.rolls-Time;
    }

bytes_argument : (table : List Declared) (bytes : List ℕ) → IsArgument table (trees.Bytes bytes) types.Bytes
bytes_argument table bytes =
    let value : value_of_tree (trees.Bytes bytes) ≡ values.Bytes bytes = search (rules, of_trees) in record {
      plain = search (rules, of_trees);
      fits = ap (λ v. needs table v types.Bytes) value
          ∙ shape_needs table (Value-F.Bytes bytes) (values.Bytes bytes) ValueType-F.Bytes types.Bytes
          (values.rolls-Bytes bytes) types.rolls-Bytes;
    }

-- a function that is there, and takes and gives just this
record Stands (found : Option Function) (asked : Signature) : Type 0 where
  function : Function
  stands : found ≡ Some function
  takes : signature function ≡ asked

function_of : (found : Option Function) (asked : Signature) → option_map signature found ≡ Some asked → Stands found asked
function_of (Some function) asked is = record { function = function; stands = refl; takes = cc }
function_of None asked is = absurd cc

packet_size : (entry : FnId) (packet : Packet) → length packet.bytes ≤ 262144 → forest_size (packet_call entry packet).args ≤ 1000000
packet_size entry packet short =
    let time : tree_size (trees.Time packet.time) ≡ 1 = search (rules, of_trees) in
    let bytes : tree_size (trees.Bytes packet.bytes) ≡ 1 + length packet.bytes = search (rules, of_trees) in
    let both : forest_size (packet_call entry packet).args
    ≡ 0 + tree_size (trees.Time packet.time) + tree_size (trees.Bytes packet.bytes) = refl in
    omega (arith, both, time, bytes, short)

packet_sound : (limits : Limits) (parts : Parts) (entry : FnId) (packet : Packet) → IsTypedProgram parts → IsEntryOf parts packet_signature entry
    → length packet.bytes ≤ 262144 → IsSound (facts_of limits parts) (packet_call entry packet)
packet_sound limits parts entry packet typed is short =
    let found = function_of _ packet_signature is.entry.takes in record {
      program = typed;
      function = found.function;
      stands = found.stands;
      void = ap (λ (s : Signature). s.result) found.takes;
      no_body = is.entry.no_body;
      arguments = subst (λ (kinds : List ValueType). AllZip (IsArgument parts.types) (packet_call entry packet).args kinds)
          (sym (ap (λ (s : Signature). s.parameters) found.takes))
          (time_argument parts.types packet.time, (bytes_argument parts.types packet.bytes, tt));
      size = packet_size entry packet short;
    }

done_sound : (limits : Limits) (parts : Parts) (entry : FnId) → IsTypedProgram parts → IsEntryOf parts bare_signature entry
    → IsSound (facts_of limits parts) (done_call entry)
done_sound limits parts entry typed is =
    let found = function_of _ bare_signature is.entry.takes in record {
      program = typed;
      function = found.function;
      stands = found.stands;
      void = ap (λ (s : Signature). s.result) found.takes;
      no_body = is.entry.no_body;
      arguments = subst (λ (kinds : List ValueType). AllZip (IsArgument parts.types) [] kinds)
          (sym (ap (λ (s : Signature). s.parameters) found.takes)) tt;
      size = omega arith;
    }

call_sound : (limits : Limits) (parts : Parts) (packet : FnId) (last : Option FnId) → IsTypedProgram parts → IsEntryOf parts packet_signature packet
    → IfSome last (IsEntryOf parts bare_signature) → (call : Call) → IsCallOf packet last call → IsSound (facts_of limits parts) call
call_sound limits parts packet last typed is also call (inl (found, at, short)) =
    subst (λ (c : Call). IsSound (facts_of limits parts) c) (sym at) (packet_sound limits parts packet found typed is short)
call_sound limits parts packet last typed is also call (inr (function, told, at)) =
    let entry : IsEntryOf parts bare_signature function = subst (λ (d : Option FnId). IfSome d (IsEntryOf parts bare_signature)) told also in
    subst (λ (c : Call). IsSound (facts_of limits parts) c) (sym at) (done_sound limits parts function typed entry)

pub calls_sound : (limits : Limits) (parts : Parts) (packet : FnId) (last : Option FnId) (calls : List Call) → IsTypedProgram parts
    → IsEntryOf parts packet_signature packet → IfSome last (IsEntryOf parts bare_signature) → All (IsCallOf packet last) calls
    → All (IsSound (facts_of limits parts)) calls
calls_sound limits parts packet last calls typed is also passes =
    All-weaker (IsCallOf packet last) (IsSound (facts_of limits parts)) (call_sound limits parts packet last typed is also) calls passes
