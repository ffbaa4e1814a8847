-- Answers of calls one after another.
use Rattle.std.proofs.Common.{◌≡◌, ◌∙◌, ℕ, zero, suc, ◌+◌, ◌<◌, ◌≤◌, List, [], ◌∷◌, ◌++◌, length, drop, get_or, sym, refl, ap, subst, add-one, drop-cons, append_assoc, append-nil, Option, Ok, Err}
use Rattle.std.specs.Prelude.{Result, slice_get}
use Rattle.std.proofs.lemmas.List.{drop_all}
use Rattle.hilti_base.specs.declared.refusal.Refusal.{Refusal}
use Rattle.hilti_base.specs.declared.refusal.Refusal.TheVariants.{At, NoMemory}
use Rattle.hilti_types.specs.declared.value_type.ValueType.{ValueType}
use Rattle.hilti_module.specs.declared.module.Simple.{Simple}
use Rattle.hilti_parts.specs.declared.parts.Operand.{Operand}
use Rattle.hilti_operands.specs.Answers.{Told, then_read}
use Rattle.hilti_operands.specs.Groups.{read_members}

-- where the first call is refused, all is refused
pub first_told : {A B : Type 0} (refusal : Refusal) (r : Result A Refusal) (f : A → Result B Refusal) → Told (Err refusal) r → Told (Err refusal) (then_read r f)
first_told (At place code) r f told = ap (λ q. then_read q f) told
first_told NoMemory r f told = tt

-- a told answer stays told of what is the same
pub told_same : {A : Type 0} (answer r s : Result A Refusal) → r ≡ s → Told answer s → Told answer r
told_same answer r s e told = subst (λ q. Told answer q) (sym e) told

-- what is read so far, and the rest
abbrev pub behind : List Operand → Result (List Operand) Refusal → Result (List Operand) Refusal
behind done rest = then_read rest (λ more. Ok (done ++ more))

pub behind_none : (r : Result (List Operand) Refusal) → r ≡ behind [] r
behind_none (Ok more) = refl
behind_none (Err refusal) = refl

behind_more : (done : List Operand) (x : Operand) (r : Result (List Operand) Refusal) → behind done (then_read r (λ more. Ok (x ∷ more))) ≡ behind (done ++ x ∷ []) r
behind_more done x (Ok more) = ap Ok (sym (append_assoc done (x ∷ []) more))
behind_more done x (Err refusal) = refl

-- the list from a place on
pub front : {A : Type 0} (xs : List A) (at : ℕ) (x : A) → at < length xs → x ≡ get_or xs at x → drop at xs ≡ x ∷ drop (at + 1) xs
front xs at x h is = drop-cons xs at x h ∙ (ap (λ y. y ∷ drop (suc at) xs) (sym is) ∙ ap (λ n. x ∷ drop n xs) (sym (add-one at)))

-- the first of the types that are left
first_type : (kinds : List ValueType) (at : ℕ) → slice_get (drop at kinds) 0 ≡ slice_get kinds at
first_type [] zero = refl
first_type [] (suc at) = refl
first_type (kind ∷ more) zero = refl
first_type (kind ∷ more) (suc at) = first_type more at

next_types : (kinds : List ValueType) (at : ℕ) → drop 1 (drop at kinds) ≡ drop (suc at) kinds
next_types [] zero = refl
next_types [] (suc at) = refl
next_types (kind ∷ more) zero = refl
next_types (kind ∷ more) (suc at) = next_types more at

module _ (read : Option ValueType → Simple → Result Operand Refusal) where
  layer : (kinds : List ValueType) (x : Simple) (xs : List Simple)
      → read_members read kinds (x ∷ xs) ≡ then_read (read (slice_get kinds 0) x) (λ first. then_read (read_members read (drop 1 kinds) xs) (λ others. Ok (first ∷ others)))
  unfolding read_members
  layer kinds x xs = refl

  none_left : (kinds : List ValueType) → read_members read kinds [] ≡ Ok []
  unfolding read_members
  none_left kinds = refl

  -- the operands from a place on
  from_place : (kinds : List ValueType) (items : List Simple) (at : ℕ) (x : Simple) (kind : Option ValueType) → at < length items → x ≡ get_or items at x → kind ≡ slice_get kinds at
      → read_members read (drop at kinds) (drop at items) ≡ then_read (read kind x) (λ first. then_read (read_members read (drop (at + 1) kinds) (drop (at + 1) items)) (λ others. Ok (first ∷ others)))
  from_place kinds items at x kind h is k =
      ap (read_members read (drop at kinds)) (front items at x h is)
      ∙ (layer (drop at kinds) x (drop (at + 1) items)
      ∙ (ap (λ t. then_read (read t x) (λ first. then_read (read_members read (drop 1 (drop at kinds)) (drop (at + 1) items)) (λ others. Ok (first ∷ others)))) (first_type kinds at ∙ sym k)
      ∙ ap (λ ks. then_read (read kind x) (λ first. then_read (read_members read ks (drop (at + 1) items)) (λ others. Ok (first ∷ others)))) (next_types kinds at ∙ ap (λ n. drop n kinds) (sym (add-one at)))))

  pub member_next : (whole : Result (List Operand) Refusal) (kinds : List ValueType) (items : List Simple) (at : ℕ) (x : Simple) (kind : Option ValueType) (done : List Operand) (operand : Operand)
      → at < length items → x ≡ get_or items at x → kind ≡ slice_get kinds at → read kind x ≡ Ok operand
      → whole ≡ behind done (read_members read (drop at kinds) (drop at items))
      → whole ≡ behind (done ++ operand ∷ []) (read_members read (drop (at + 1) kinds) (drop (at + 1) items))
  member_next whole kinds items at x kind done operand h is k r w =
      w ∙ (ap (behind done) (from_place kinds items at x kind h is k
      ∙ ap (λ q. then_read q (λ first. then_read (read_members read (drop (at + 1) kinds) (drop (at + 1) items)) (λ others. Ok (first ∷ others)))) r)
      ∙ behind_more done operand (read_members read (drop (at + 1) kinds) (drop (at + 1) items)))

  pub member_stops : (whole : Result (List Operand) Refusal) (kinds : List ValueType) (items : List Simple) (at : ℕ) (x : Simple) (kind : Option ValueType) (done : List Operand) (refusal : Refusal)
      → at < length items → x ≡ get_or items at x → kind ≡ slice_get kinds at → Told (Err refusal) (read kind x)
      → whole ≡ behind done (read_members read (drop at kinds) (drop at items))
      → Told (Err refusal) whole
  member_stops whole kinds items at x kind done refusal h is k told w =
      told_same (Err refusal) whole _ (w ∙ ap (behind done) (from_place kinds items at x kind h is k))
      (first_told refusal _ _ (first_told refusal _ _ told))

  pub all_members : (whole : Result (List Operand) Refusal) (kinds : List ValueType) (items : List Simple) (at : ℕ) (done : List Operand) → length items ≤ at
      → whole ≡ behind done (read_members read (drop at kinds) (drop at items)) → whole ≡ Ok done
  all_members whole kinds items at done h w =
      w ∙ (ap (behind done) (ap (read_members read (drop at kinds)) (drop_all at items h) ∙ none_left (drop at kinds)) ∙ ap Ok (append-nil done))
