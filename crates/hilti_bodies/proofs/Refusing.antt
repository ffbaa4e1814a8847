-- The first refusal of a body.
use Rattle.std.proofs.Common.{◌≡◌, ◌∙◌, ℕ, suc, ◌+◌, Bool, true, false, cond, List, [], ◌∷◌, ◌++◌, length, sym, refl, ap, subst, Option, Some, None, Ok, Err, arith}
use Rattle.std.proofs.Common.{◌⊎◌, inl, inr}
use Rattle.std.specs.Prelude.{Result, IfSome, is_some, IsOk}
use Rattle.std.specs.List.{position, position_from}
use Rattle.std.proofs.lemmas.Iterator.Adapters.{position_from-zero}
use Rattle.hilti_base.specs.declared.names.Place.{Place}
use Rattle.hilti_base.specs.declared.refusal.Refusal.{Refusal}
use Rattle.hilti_base.specs.declared.refusal.Refusal.TheVariants.{At}
use Rattle.hilti_parts.specs.declared.parts.Block.{Block}
use Rattle.hilti_parts.specs.declared.parts.Instruction.{Instruction}
use Rattle.hilti_typing.specs.Programs.{is_ending}
use Rattle.hilti_operands.specs.Answers.{then_read}
use Rattle.hilti_operands.specs.Seen.{BodySeen}
use Rattle.hilti_bodies.specs.Sections.{Written, Section}
use Rattle.hilti_bodies.specs.Blocks.{read_each, read_written, none_behind, read_instructions, read_block, read_blocks}
use Rattle.hilti_bodies.specs.Laws.{RefusesFirstBlock, StopsBy, RefusesFirstInstruction}

-- one and then another are refused by the first that is
err_either : {A B : Type 0} (r : Result A Refusal) (f : A → Result B Refusal) (refusal : Refusal) → then_read r f ≡ Err refusal → (r ≡ Err refusal) ⊎ ((x : A) × (r ≡ Ok x) × (f x ≡ Err refusal))
err_either (Ok x) f refusal e = inr (x, refl, e)
err_either (Err other) f refusal e = inl (let same : other ≡ refusal = cc in ap Err same)

err_inner : {A B : Type 0} (r : Result A Refusal) (g : A → B) (refusal : Refusal) → then_read r (λ (x : A). Ok (g x)) ≡ Err refusal → r ≡ Err refusal
err_inner (Ok x) g refusal e = cc
err_inner (Err other) g refusal e = let same : other ≡ refusal = cc in ap Err same

module _ (body : BodySeen) where
  -- what is refused among the instructions that are left, of which the first has this number
  record StopsFrom (from : ℕ) (all : List Written) (behind : Place) (refusal : Refusal) : Type 0 where
    front : List Written
    more : List Written
    read : List Instruction
    are : all ≡ front ++ more
    are_read : read_each (read_written body) front ≡ Ok read
    last : IfSome (position_from is_ending from read) (λ k. k + 1 ≡ from + length read)
    stops : StopsBy body (is_some (position_from is_ending from read)) more behind refusal

  at_once : (from : ℕ) (x : Written) (more : List Written) (behind : Place) (refusal : Refusal) → read_written body x ≡ Err refusal → StopsFrom from (x ∷ more) behind refusal
  unfolding read_each
  at_once from x more behind refusal e = record { front = []; more = x ∷ more; read = []; are = refl; are_read = refl; last = tt; stops = e }

  behind_end : (from : ℕ) (x : Written) (i : Instruction) (more : List Written) (behind : Place) (refusal : Refusal) → read_written body x ≡ Ok i → is_ending i ≡ true → none_behind more ≡ Err refusal
      → StopsFrom from (x ∷ more) behind refusal
  unfolding read_each
  behind_end from x i [] behind refusal r ends e = cc
  behind_end from x i (y ∷ more) behind refusal r ends e =
      let there : position_from is_ending from (i ∷ []) ≡ Some from = ap (λ b. cond b (Some from) None) ends in
      record {
        front = x ∷ [];
        more = y ∷ more;
        read = i ∷ [];
        are = refl;
        are_read = ap (λ q. then_read q (λ (first : Instruction). Ok (first ∷ []))) r;
        last = subst (λ o. IfSome o (λ k. k + 1 ≡ from + length (i ∷ []))) (sym there) (let n : from + 1 ≡ from + length (i ∷ []) = omega arith in n);
        stops = subst (λ o. StopsBy body (is_some o) (y ∷ more) behind refusal) (sym there) (let same : At y.mnemonic.first.place 34 ≡ refusal = cc in sym same);
      }

  one_more : (from : ℕ) (x : Written) (i : Instruction) (more : List Written) (behind : Place) (refusal : Refusal) → read_written body x ≡ Ok i → is_ending i ≡ false
      → StopsFrom (from + 1) more behind refusal → StopsFrom from (x ∷ more) behind refusal
  unfolding read_each
  one_more from x i more behind refusal r goes h =
      let there : position_from is_ending from (i ∷ h.read) ≡ position_from is_ending (from + 1) h.read = ap (λ b. cond b (Some from) (position_from is_ending (from + 1) h.read)) goes in
      record {
        front = x ∷ h.front;
        more = h.more;
        read = i ∷ h.read;
        are = ap (λ xs. x ∷ xs) h.are;
        are_read = ap (λ q. then_read q (λ (first : Instruction). then_read (read_each (read_written body) h.front) (λ (others : List Instruction). Ok (first ∷ others)))) r
            ∙ ap (λ q. then_read q (λ (others : List Instruction). Ok (i ∷ others))) h.are_read;
        last = subst (λ o. IfSome o (λ k. k + 1 ≡ from + length (i ∷ h.read))) (sym there) (longer (position_from is_ending (from + 1) h.read) h.last);
        stops = subst (λ o. StopsBy body (is_some o) h.more behind refusal) (sym there) h.stops;
      }
    where
      longer : (o : Option ℕ) → IfSome o (λ k. k + 1 ≡ from + 1 + length h.read) → IfSome o (λ k. k + 1 ≡ from + length (i ∷ h.read))
      longer None e = tt
      longer (Some k) e = omega (arith, e)

  stop_from : (from : ℕ) (all : List Written) (behind : Place) (refusal : Refusal) → read_instructions body all behind ≡ Err refusal → StopsFrom from all behind refusal
  unfolding read_instructions read_each
  stop_from from [] behind refusal e = record { front = []; more = []; read = []; are = refl; are_read = refl; last = tt; stops = (refl, let same : At behind 33 ≡ refusal = cc in sym same) }
  stop_from from (x ∷ more) behind refusal e = elim (err_either (read_written body x) _ refusal e) [
    | inl r ↦ at_once from x more behind refusal r
    | inr h ↦ by h.0 h.1 (λ (again : read_instructions body more behind ≡ Err refusal). stop_from (from + 1) more behind refusal again) (is_ending h.0) refl (err_inner _ _ refusal h.2)
  ]
    where
      by : (i : Instruction) → read_written body x ≡ Ok i → (read_instructions body more behind ≡ Err refusal → StopsFrom (from + 1) more behind refusal)
          → (b : Bool) → is_ending i ≡ b → cond b (none_behind more) (read_instructions body more behind) ≡ Err refusal → StopsFrom from (x ∷ more) behind refusal
      by i r again true ends e = behind_end from x i more behind refusal r ends e
      by i r again false goes e = one_more from x i more behind refusal r goes (again e)

from_zero : (o : Option ℕ) (n : ℕ) → IfSome o (λ k. k + 1 ≡ 0 + n) → IfSome o (λ k. k + 1 ≡ n)
from_zero (Some k) n e = omega (arith, e)
from_zero None n e = e

pub first_stop : RefusesFirstInstruction
first_stop body all behind refusal e =
    let h = stop_from body 0 all behind refusal e in
    let same : position_from is_ending 0 h.read ≡ position is_ending h.read = sym (position_from-zero is_ending h.read) in
    record {
      front = h.front;
      more = h.more;
      read = h.read;
      are = h.are;
      are_read = h.are_read;
      last = subst (λ o. IfSome o (λ k. k + 1 ≡ length h.read)) same (from_zero (position_from is_ending 0 h.read) (length h.read) h.last);
      stops = subst (λ o. StopsBy body (is_some o) h.more behind refusal) same h.stops;
    }

module _ (body : BodySeen) where
  -- what is refused among the blocks that are left, of which the first has this number
  record RefusedFrom (number : ℕ) (all : List Section) (refusal : Refusal) : Type 0 where
    front : List Section
    block : Section
    more : List Section
    are : all ≡ front ++ block ∷ more
    read : IsOk (read_blocks body number front)
    refused : read_block body (number + length front) block ≡ Err refusal

  refused_from : (number : ℕ) (all : List Section) (refusal : Refusal) → read_blocks body number all ≡ Err refusal → RefusedFrom number all refusal
  unfolding read_blocks
  refused_from number [] refusal e = cc
  refused_from number (s ∷ more) refusal e = elim (err_either (read_block body number s) _ refusal e) [
    | inl r ↦ record {
      front = [];
      block = s;
      more = more;
      are = refl;
      read = refl;
      refused = ap (λ n. read_block body n s) (let n : number + length (let it : List Section = [] in it) ≡ number = omega arith in n) ∙ r;
    }
    | inr h ↦ behind h.0 h.1 (refused_from (suc number) more refusal (err_inner _ _ refusal h.2))
  ]
    where
      ok_again : (b : Block) (r : Result (List Block) Refusal) → IsOk r → IsOk (then_read r (λ (others : List Block). Ok (b ∷ others)))
      ok_again b (Ok others) h = refl
      ok_again b (Err refusal) h = h

      behind : (b : Block) → read_block body number s ≡ Ok b → RefusedFrom (suc number) more refusal → RefusedFrom number (s ∷ more) refusal
      behind b r h = record {
        front = s ∷ h.front;
        block = h.block;
        more = h.more;
        are = ap (λ xs. s ∷ xs) h.are;
        read = subst (λ q. IsOk (then_read q (λ (first : Block). then_read (read_blocks body (suc number) h.front) (λ (others : List Block). Ok (first ∷ others))))) (sym r) (ok_again b (read_blocks body (suc number) h.front) h.read);
        refused = ap (λ n. read_block body n h.block) (let n : number + length (s ∷ h.front) ≡ suc number + length h.front = omega arith in n) ∙ h.refused;
      }

pub first_refused : RefusesFirstBlock
first_refused body all refusal e =
    let h = refused_from body 0 all refusal e in
    let number : length h.front ≡ 0 + length h.front = omega arith in
    record {
      front = h.front;
      block = h.block;
      more = h.more;
      are = h.are;
      read = h.read;
      refused = ap (λ n. read_block body n h.block) number ∙ h.refused;
    }
