-- The entries of typed parts.
use Rattle.std.proofs.Common.{◌≡◌, ℕ, Option, Some, None, IfSome, IsSomeAnd, ap, refl, codes, slice_get, is_some}
use Rattle.std.proofs.Math.Path.{subst}
use Rattle.std.proofs.lemmas.Bool.{false≢true}
use Rattle.std.proofs.lemmas.Option.{slice_get_within}
use Rattle.std.specs.Option.{option_map}
use Rattle.hilti_base.specs.declared.names.FnId.{FnId}
use Rattle.hilti_parts.specs.declared.parts.Parts.{Parts}
use Rattle.hilti_typing.specs.Context.{Signature}
use Rattle.hilti_typing.specs.Programs.{signature, function_named, IsEntry, packet_signature, bare_signature}
use Rattle.hilti_program.specs.Programs.{IsEntryOf, IsProgram}

there : {A B : Type 0} (f : A → B) (y : B) (found : Option A) → option_map f found ≡ Some y → (x : A) × (found ≡ Some x)
there f y None e = absurd (false≢true (ap is_some e))
there f y (Some x) e = (x, refl)

entry_of : (parts : Parts) (asked : Signature) (n : ℕ) → IsEntry parts asked n → IsEntryOf parts asked (record { n = n })
entry_of parts asked n entry =
    let it = there signature asked (slice_get parts.functions n) entry.takes in
    record { within = slice_get_within parts.functions n it.0 it.1; entry = entry }

same : (f g : FnId) → Some f ≡ Some g → f ≡ g
same f g e = cc

some_entry : (parts : Parts) (asked : Signature) (place : Option ℕ) (f : FnId) → option_map (λ (n : ℕ). record { n = n }) place ≡ Some f →
    IsSomeAnd place (IsEntry parts asked) → IsEntryOf parts asked f
some_entry parts asked None f e is = absurd is
some_entry parts asked (Some n) f e is = subst (IsEntryOf parts asked) (same (record { n = n }) f e) (entry_of parts asked n is)

maybe_entry : (parts : Parts) (asked : Signature) (place : Option ℕ) → IfSome place (IsEntry parts asked) →
    IfSome (option_map (λ (n : ℕ). record { n = n }) place) (IsEntryOf parts asked)
maybe_entry parts asked None is = tt
maybe_entry parts asked (Some n) is = entry_of parts asked n is

module _ (parts now : Parts) (packet : FnId) (init done : Option FnId) (is : IsProgram parts packet init done) (view : parts ≡ now) where
  pub packet_is : IsEntryOf now packet_signature packet
  packet_is = subst (λ (p : Parts). IsEntryOf p packet_signature packet) view
      (some_entry parts packet_signature (function_named parts (codes "Main::packet")) packet is.packet is.typed.entries.packet)

  pub init_is : IfSome init (IsEntryOf now bare_signature)
  init_is = subst (λ (p : Parts). IfSome init (IsEntryOf p bare_signature)) view
      (subst (λ f. IfSome f (IsEntryOf parts bare_signature)) is.init
      (maybe_entry parts bare_signature (function_named parts (codes "Main::init")) is.typed.entries.init))

  pub done_is : IfSome done (IsEntryOf now bare_signature)
  done_is = subst (λ (p : Parts). IfSome done (IsEntryOf p bare_signature)) view
      (subst (λ f. IfSome f (IsEntryOf parts bare_signature)) is.done
      (maybe_entry parts bare_signature (function_named parts (codes "Main::done")) is.typed.entries.done))
