-- What lines that call, bind or send meet.
use Rattle.std.proofs.Common.{◌≡◌, true, List, [], ◌∷◌, refl, Option, Some, None, All, IsSomeAnd, is_some}
use Rattle.std.proofs.lemmas.Bool.{false≢true}
use Rattle.hilti_types.specs.Sendable.{IsSendable}
use Rattle.hilti_table.specs.declared.row.Callee.{Callee}
use Rattle.hilti_table.specs.declared.row.Gives.{Gives}
use Rattle.hilti_table.specs.declared.row.Kind.TheVariants.{Fixed, Function, Hook, Arguments, Sent}
use Rattle.hilti_table.specs.declared.row.Plain.{Plain}
use Rattle.hilti_parts.specs.declared.parts.Operand.{Operand}
use Rattle.hilti_parts.specs.Named.{grouped}
use Rattle.hilti_typing.specs.Context.{Signature, Context, Setting, Known}
use Rattle.hilti_typing.specs.Types.{plain_type}
use Rattle.hilti_typing.specs.Fits.{HaveAll, MayBe, Gets, Fit, known_signature, calling, callee, hook}
use Rattle.hilti_typing.specs.Facts.{Calling, CalledWith, SentWith}
use Rattle.hilti_typing.specs.Laws.{CallRows}

-- a function or a hook that is found, and its arguments; what is so of its signature stays so
called_in : (find : Context → Operand → Option Signature) (so : Signature → Type 0) (s : Setting) (a x : Operand) (f : Signature) (group : Option (List Operand)) →
    find s.context a ≡ Some f → grouped x ≡ group → IsSomeAnd group (HaveAll s.context f.parameters) → so f → (c : Calling find s a x) × so c.signature
called_in find so s a x f None c g all is = absurd all
called_in find so s a x f (Some items) c g all is = (record { signature = f; arguments = items; calls = c; groups = g; arguments_are = all }, is)

found_with : (find : Context → Operand → Option Signature) (may : Signature → Type 0) (s : Setting) (a x : Operand) (found : Option Signature) (more : Known → Type 0) →
    find s.context a ≡ found → IsSomeAnd found may → IsSomeAnd (known_signature (calling found)) (λ f. IsSomeAnd (grouped x) (HaveAll s.context f.parameters)) →
    more (calling found) → (c : Calling find s a x) × may c.signature × more (Known.Calls c.signature)
found_with find may s a x None more c is all rest = absurd is
found_with find may s a x (Some f) more c is all rest =
    let it = called_in find (λ f. may f × more (Known.Calls f)) s a x f (grouped x) c refl all (is, rest) in (it.0, it.1.0, it.1.1)

function_called : (s : Setting) (g : Gives) (which : Callee) (items : List Operand) → Fit s g (Function which ∷ Arguments ∷ []) Known.Nothing items →
    (c : CalledWith callee s items) × MayBe which c.calling.signature × Gets s g (Known.Calls c.calling.signature)
unfolding Fit
function_called s g which [] fit = absurd fit
function_called s g which (a ∷ []) fit = absurd fit.1
function_called s g which (a ∷ x ∷ []) fit =
    let it = found_with callee (MayBe which) s a x (callee s.context a) (λ k. Gets s g k) refl fit.0 fit.1.0 fit.1.1 in
    (record { called = a; group = x; are = refl; calling = it.0 }, it.1, it.2)
function_called s g which (a ∷ x ∷ y ∷ more) fit = absurd fit.1.1

pub there : {A : Type 0} (o : Option A) → is_some o ≡ true → IsSomeAnd o (λ x. Unit {0})
there None is = absurd (false≢true is)
there (Some x) is = tt

hook_called : (s : Setting) (g : Gives) (items : List Operand) → Fit s g (Hook ∷ Arguments ∷ []) Known.Nothing items →
    (c : CalledWith hook s items) × Gets s g (Known.Calls c.calling.signature)
unfolding Fit
hook_called s g [] fit = absurd fit
hook_called s g (a ∷ []) fit = absurd fit.1
hook_called s g (a ∷ x ∷ []) fit =
    let it = found_with hook (λ f. Unit {0}) s a x (hook s.context a) (λ k. Gets s g k) refl (there (hook s.context a) fit.0) fit.1.0 fit.1.1 in
    (record { called = a; group = x; are = refl; calling = it.0 }, it.2)
hook_called s g (a ∷ x ∷ y ∷ more) fit = absurd fit.1.1

both : (found : Option Signature) (may sends : Signature → Type 0) → IsSomeAnd found may → IsSomeAnd (known_signature (calling found)) sends →
    IsSomeAnd found (λ f. may f × sends f)
both None may sends is sent = absurd is
both (Some f) may sends is sent = (is, sent)

function_sent : (s : Setting) (g : Gives) (n : Plain) (which : Callee) (items : List Operand) → Fit s g (Fixed n ∷ Function which ∷ Sent ∷ []) Known.Nothing items →
    (c : SentWith (plain_type n) which s items) × Gets s g (Known.Calls c.calling.signature)
unfolding Fit
function_sent s g n which [] fit = absurd fit
function_sent s g n which (w ∷ []) fit = absurd fit.1
function_sent s g n which (w ∷ a ∷ []) fit = absurd fit.1.1
function_sent s g n which (w ∷ a ∷ x ∷ []) fit =
    let sends = both (callee s.context a) (MayBe which) (λ f. All (IsSendable s.context.declared) f.parameters) fit.1.0 fit.1.1.0.1 in
    let it = found_with callee (λ f. MayBe which f × All (IsSendable s.context.declared) f.parameters) s a x (callee s.context a) (λ k. Gets s g k)
    refl sends fit.1.1.0.0 fit.1.1.1 in
    (record { number = w; called = a; group = x; are = refl; number_is = fit.0; calling = it.0; may_be = it.1.0; sendable = it.1.1 }, it.2)
function_sent s g n which (w ∷ a ∷ x ∷ y ∷ more) fit = absurd fit.1.1.1

pub call_rows : CallRows
call_rows = record {
  functions = λ which s g r f items fits. function_called s g which items fits.fit;
  hooks = λ s g r f items fits. hook_called s g items fits.fit;
  sends = λ a which s g r f items fits. function_sent s g a which items fits.fit;
}
