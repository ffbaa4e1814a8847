-- What is read fits what is asked.
use Rattle.std.proofs.Common.{◌≡◌, ◌∙◌, ℕ, suc, List, [], ◌∷◌, length, refl, ap, subst, Ok, Err, arith}
use Rattle.std.specs.Prelude.{Result, take}
use Rattle.std.specs.List.{AllByRecursion}
use Rattle.hilti_base.specs.declared.names.Place.{Place}
use Rattle.hilti_base.specs.declared.refusal.Refusal.{Refusal}
use Rattle.hilti_module.specs.declared.module.Operand.{Operand as Written}
use Rattle.hilti_module.specs.declared.module.Operand.TheVariants as written
use Rattle.hilti_module.specs.declared.module.Simple.{Simple}
use Rattle.hilti_table.specs.declared.row.Gives.{Gives}
use Rattle.hilti_table.specs.declared.row.Kind.{Kind}
use Rattle.hilti_table.specs.declared.row.Kind.TheVariants as kinds
use Rattle.hilti_parts.specs.declared.parts.Operand.{Operand}
use Rattle.hilti_typing.specs.Context.{Known}
use Rattle.hilti_typing.specs.Fits.{Asks, Fit, Gets, learn}
use Rattle.hilti_operands.specs.Answers.{then_read}
use Rattle.hilti_operands.specs.Groups.{read_group}
use Rattle.hilti_operands.specs.Laws.{MayAsk, ReadsWhatIsAsked, IsRefusedAt, RefusesTheFirst}
use Rattle.hilti_operands.specs.Lines.{Read, in_front, read_all}
use Rattle.hilti_operands.specs.Operands.{read_simple, read_operand}
use Rattle.hilti_operands.specs.Seen.{LineSeen, setting}
use Rattle.hilti_operands.specs.Values.{asked_type}
use Rattle.hilti_operands.proofs.ReadValues.{then_ok, ok_is, asked_has, own_asked, returned_has}
use Rattle.hilti_operands.proofs.ReadNames.{function_asked, hook_asked, exception_asked, overlay_asked, label_asked, mode_asked, index_asked, field_asked, overlay_field_asked}
use Rattle.hilti_operands.proofs.ReadObjects.{new_asked}
use Rattle.hilti_operands.proofs.ReadGroups.{arguments_asked, sent_asked, parts_asked, rule_asked, query_asked}

simple_asked : (line : LineSeen) (kind : Kind) (known : Known) (s : Simple) (x : Operand) → MayAsk line kind → read_simple line kind known s ≡ Ok x → Asks (setting line) kind known x
simple_asked line (kinds.Own test) known s x may e = own_asked line test s x e
simple_asked line kinds.Returned known s x may e = returned_has line line.body.function.result s x may e
simple_asked line (kinds.Function which) known s x may e = function_asked line.body which s x e
simple_asked line kinds.Hook known s x may e = hook_asked line.body s x e
simple_asked line kinds.Exception known s x may e = exception_asked line.body s x e
simple_asked line kinds.Overlay known s x may e = overlay_asked line.body s x e
simple_asked line kinds.New known s x may e = new_asked line.body s x e
simple_asked line kinds.Label known s x may e = label_asked line.body s x e
simple_asked line kinds.Mode known s x may e = mode_asked line.body s x e
simple_asked line kinds.Index known s x may e = index_asked line.body known s x e
simple_asked line kinds.Field known s x may e = field_asked line.body known s x e
simple_asked line kinds.OverlayField known s x may e = overlay_field_asked line.body known s x e
simple_asked line (kinds.Fixed plain) known s x may e = asked_has line.body (asked_type line (kinds.Fixed plain) known) s x e
simple_asked line kinds.Sized known s x may e = asked_has line.body (asked_type line kinds.Sized known) s x e
simple_asked line (kinds.Part part) known s x may e = asked_has line.body (asked_type line (kinds.Part part) known) s x e
simple_asked line kinds.Same known s x may e = asked_has line.body (asked_type line kinds.Same known) s x e
simple_asked line kinds.Arguments known s x may e = cc
simple_asked line kinds.Sent known s x may e = cc
simple_asked line kinds.Parts known s x may e = cc
simple_asked line kinds.Rule known s x may e = cc
simple_asked line kinds.Query known s x may e = cc

group_asked : (line : LineSeen) (kind : Kind) (known : Known) (place : Place) (items : List Simple) (x : Operand) → read_group line kind known place items ≡ Ok x → Asks (setting line) kind known x
group_asked line kinds.Arguments known place items x e = arguments_asked line known place items x e
group_asked line kinds.Sent known place items x e = sent_asked line known place items x e
group_asked line kinds.Parts known place items x e = parts_asked line known place items x e
group_asked line kinds.Rule known place items x e = rule_asked line known place items x e
group_asked line kinds.Query known place items x e = query_asked line known place items x e
group_asked line kind known place items x e = cc

pub operand_asked : ReadsWhatIsAsked
operand_asked line kind known (written.Simple s) x may e = simple_asked line kind known s x may e
operand_asked line kind known (written.Group place items) x may e = group_asked line kind known place items x e

pub all_fit : (line : LineSeen) (gives : Gives) (asked : List Kind) (known : Known) (items : List Written) (read : Read)
    → AllByRecursion (MayAsk line) asked → read_all line asked known items ≡ Ok read → Gets (setting line) gives read.known
    → Fit (setting line) gives asked known read.operands
unfolding read_all Fit
all_fit line gives [] known [] read may e gets =
    let same : ◌≡◌ {A = Read} (record { operands = []; known = known }) read = ok_is _ read e in
    fits_end read same gets
  where
    fits_end : (r : Read) → ◌≡◌ {A = Read} (record { operands = []; known = known }) r → Gets (setting line) gives r.known → Fit (setting line) gives [] known r.operands
    fits_end r same gets = subst (λ (q : Read). Gets (setting line) gives q.known → Fit (setting line) gives [] known q.operands) same (λ g. g) gets
all_fit line gives [] known (x ∷ more) read may e gets = cc
all_fit line gives (kind ∷ others) known [] read may e gets = cc
all_fit line gives (kind ∷ others) known (x ∷ more) read may e gets =
    let first = then_ok (read_operand line kind known x) _ read e in
    let rest = then_ok (read_all line others (learn (setting line) kind known first.0) more) _ read first.2 in
    let asks = operand_asked line kind known x first.0 may.0 first.1 in
    let same : in_front first.0 rest.0 ≡ read = ok_is (in_front first.0 rest.0) read rest.2 in
    subst (λ (q : Read). Gets (setting line) gives q.known → Fit (setting line) gives (kind ∷ others) known q.operands) same
    (λ g. (asks, all_fit line gives others (learn (setting line) kind known first.0) more rest.0 may.1 rest.1 g)) gets

-- a refusal is that of the first operand that is refused
module _ (line : LineSeen) (kind : Kind) (others : List Kind) (known : Known) (x : Written) (more : List Written) (refusal : Refusal) where
  abbrev First : Type 0
  First = (at : ℕ) × IsRefusedAt line (kind ∷ others) known (x ∷ more) refusal at

  first_later : (first : Operand) → read_operand line kind known x ≡ Ok first → (at : ℕ) × IsRefusedAt line others (learn (setting line) kind known first) more refusal at → First
  unfolding read_all
  first_later first is it = (
    suc it.0,
    record {
      front = in_front first it.1.front;
      kind = it.1.kind;
      operand = it.1.operand;
      front_is = ap (λ q. then_read q (λ (y : Operand). then_read (read_all line (take it.0 others) (learn (setting line) kind known y) (take it.0 more)) (λ (rest : Read). Ok (in_front y rest)))) is
          ∙ ap (λ q. then_read q (λ (rest : Read). Ok (in_front first rest))) it.1.front_is;
      kind_is = it.1.kind_is;
      operand_is = it.1.operand_is;
      refused = it.1.refused;
    },
  )

  first_here : (other : Refusal) → read_operand line kind known x ≡ Err other → other ≡ refusal → First
  unfolding read_all
  first_here other is same = (
    0,
    record {
      front = record { operands = []; known = known };
      kind = kind;
      operand = x;
      front_is = refl;
      kind_is = refl;
      operand_is = refl;
      refused = is ∙ ap Err same;
    },
  )

err_is : {A : Type 0} (a b : Refusal) → ◌≡◌ {A = Result A Refusal} (Err a) (Err b) → a ≡ b
err_is a b e = cc

rest_refused : (r : Result Read Refusal) (first : Operand) (refusal : Refusal) → then_read r (λ (rest : Read). Ok (in_front first rest)) ≡ Err refusal → r ≡ Err refusal
rest_refused (Ok rest) first refusal e = cc
rest_refused (Err other) first refusal e = ap Err (err_is {A = Read} other refusal e)

pub first_refused : RefusesTheFirst
unfolding read_all
first_refused line [] known [] refusal l e = cc
first_refused line [] known (x ∷ more) refusal l e = absurd (omega (arith, l))
first_refused line (kind ∷ others) known [] refusal l e = absurd (omega (arith, l))
first_refused line (kind ∷ others) known (x ∷ more) refusal l e =
    let fewer : length others ≡ length more = omega (arith, l) in
    here (λ first left. first_refused line others (learn (setting line) kind known first) more refusal fewer left) (read_operand line kind known x) refl e
  where
    here : ((first : Operand) → read_all line others (learn (setting line) kind known first) more ≡ Err refusal → (at : ℕ) × IsRefusedAt line others (learn (setting line) kind known first) more refusal at)
        → (r : Result Operand Refusal) → read_operand line kind known x ≡ r
        → then_read r (λ (first : Operand). then_read (read_all line others (learn (setting line) kind known first) more) (λ (rest : Read). Ok (in_front first rest))) ≡ Err refusal
        → (at : ℕ) × IsRefusedAt line (kind ∷ others) known (x ∷ more) refusal at
    here again (Ok first) is e = first_later line kind others known x more refusal first is (again first (rest_refused (read_all line others (learn (setting line) kind known first) more) first refusal e))
    here again (Err other) is e = first_here line kind others known x more refusal other is (err_is {A = Read} other refusal e)
