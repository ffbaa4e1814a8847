-- Operands one after another.
use Rattle.std.proofs.Common.{◌≡◌, ◌∙◌, ℕ, zero, suc, ◌+◌, ◌<◌, ◌≤◌, Bool, true, false, List, [], ◌∷◌, ◌++◌, length, drop, get_or, sym, refl, ap, subst, add-one, append_assoc, append-nil, arith, Option, Some, None, Ok, Err}
use Rattle.std.specs.Prelude.{Result, slice_get, ◌&&◌, replicate}
use Rattle.std.specs.Option.{option_or}
use Rattle.std.proofs.lemmas.List.{drop_all, length-replicate, get_or-replicate}
use Rattle.std.proofs.lemmas.Option.{slice_get-get_or, slice_get_past}
use Rattle.hilti_base.specs.declared.refusal.Refusal.{Refusal}
use Rattle.hilti_base.specs.declared.refusal.Refusal.TheVariants.{At, NoMemory}
use Rattle.hilti_types.specs.declared.value_type.ValueType.{ValueType}
use Rattle.hilti_module.specs.declared.module.Operand.{Operand as Written}
use Rattle.hilti_table.specs.declared.row.Kind.{Kind}
use Rattle.hilti_table.specs.declared.row.Test.{Test}
use Rattle.hilti_parts.specs.declared.parts.Operand.{Operand}
use Rattle.hilti_typing.specs.Context.{Known}
use Rattle.hilti_typing.specs.Fits.{learn}
use Rattle.hilti_operands.specs.Answers.{StandsFor, then_read}
use Rattle.hilti_operands.specs.Counts.{are_counted, is_group_counted, count_told}
use Rattle.hilti_operands.specs.Lines.{Read, in_front, read_all, read_of, with_next, with_read, first_variable, if_passing, written_type}
use Rattle.hilti_operands.specs.Operands.{read_operand}
use Rattle.hilti_operands.specs.Seen.{BodySeen, LineSeen, setting}
use Rattle.hilti_operands.specs.declared.lines.ReadOperands.{ReadOperands}
use Rattle.hilti_operands.proofs.Telling.{front}

-- the kinds from a place on
pub kinds_from : (ks : List Kind) (at : ℕ) (kind : Kind) → Some kind ≡ slice_get ks at → drop at ks ≡ kind ∷ drop (suc at) ks
kinds_from [] at kind e = cc
kinds_from (k ∷ ks) zero kind e = ap (λ (x : Kind). x ∷ ks) (sym (let same : kind ≡ k = cc in same))
kinds_from (k ∷ ks) (suc at) kind e = kinds_from ks at kind e

pub none_from : (ks : List Kind) (at : ℕ) → None ≡ slice_get ks at → drop at ks ≡ []
none_from [] zero e = refl
none_from [] (suc at) e = refl
none_from (k ∷ ks) zero e = cc
none_from (k ∷ ks) (suc at) e = none_from ks at e

some_left : (items : List Written) (at : ℕ) → at < length items → (x : Written) × (drop at items ≡ x ∷ drop (suc at) items)
some_left [] at h = absurd (omega (arith, h))
some_left (x ∷ items) zero h = (x, refl)
some_left (x ∷ items) (suc at) h = let fewer : at < length items = omega (arith, h) in some_left items at fewer

-- the operand at a place
same_item : (items : List Written) (at : ℕ) (x y : Written) → at < length items → x ≡ get_or items at x → y ≡ get_or items at y → y ≡ x
same_item items at x y h is also = head_is y x (drop (at + 1) items) (sym (front items at y h also) ∙ front items at x h is)
  where
    head_is : (a b : Written) (l : List Written) → a ∷ l ≡ b ∷ l → a ≡ b
    head_is a b l e = cc

-- one kind again and again
pub within_replicate : (n at : ℕ) (kind : Kind) → at < n → Some kind ≡ slice_get (replicate n kind) at
within_replicate n at kind h =
    sym (slice_get-get_or (replicate n kind) at kind (subst (λ (l : ℕ). at < l) (sym (length-replicate n kind)) h) ∙ ap Some (get_or-replicate n at kind kind h))

pub past_replicate : (n at : ℕ) (kind : Kind) → n ≤ at → None ≡ slice_get (replicate n kind) at
past_replicate n at kind h = sym (slice_get_past (replicate n kind) at (subst (λ (l : ℕ). l ≤ at) (sym (length-replicate n kind)) h))

-- what is read so far, and then the rest
abbrev pub in_behind : Read → Read → Read
in_behind read rest = record { operands = read.operands ++ rest.operands; known = rest.known }

module _ (line : LineSeen) where
  abbrev pub goes_on : List Kind → List Written → Read → Result Read Refusal
  goes_on ks items read = then_read (read_all line ks read.known items) (λ (rest : Read). Ok (in_behind read rest))

  begins : (r : Result Read Refusal) (known : Known) → r ≡ then_read r (λ (rest : Read). Ok (in_behind (record { operands = []; known = known }) rest))
  begins (Ok rest) known = refl
  begins (Err refusal) known = refl

  pub goes_begin : (ks : List Kind) (items : List Written) (known : Known) → read_all line ks known items ≡ goes_on ks items (record { operands = []; known = known })
  goes_begin ks items known = begins (read_all line ks known items) known

  behind_one : (read : Read) (first : Operand) (known : Known) (r : Result Read Refusal)
      → then_read (then_read r (λ (rest : Read). Ok (in_front first rest))) (λ (rest : Read). Ok (in_behind read rest))
      ≡ then_read r (λ (rest : Read). Ok (in_behind (record { operands = read.operands ++ first ∷ []; known = known }) rest))
  behind_one read first known (Ok rest) = ap (λ (xs : List Operand). Ok (record { operands = xs; known = rest.known })) (sym (append_assoc read.operands (first ∷ []) rest.operands))
  behind_one read first known (Err refusal) = refl

  -- the next operand, and then the rest
  goes_further : (kind : Kind) (ks : List Kind) (x : Written) (items : List Written) (read : Read) → goes_on (kind ∷ ks) (x ∷ items) read ≡ then_read (with_read line kind read x) (goes_on ks items)
  unfolding read_all
  goes_further kind ks x items read = further (read_operand line kind read.known x)
    where
      further : (r : Result Operand Refusal)
          → then_read (then_read r (λ (first : Operand). then_read (read_all line ks (learn (setting line) kind read.known first) items) (λ (rest : Read). Ok (in_front first rest)))) (λ (rest : Read). Ok (in_behind read rest))
          ≡ then_read (then_read r (λ (first : Operand). Ok (with_next line kind first read))) (goes_on ks items)
      further (Ok first) = behind_one read first (learn (setting line) kind read.known first) (read_all line ks (learn (setting line) kind read.known first) items)
      further (Err refusal) = refl

  -- from a place on
  goes_from : (ks : List Kind) (items : List Written) (at : ℕ) (kind : Kind) (x : Written) (read : Read) → Some kind ≡ slice_get ks at → at < length items → x ≡ get_or items at x
      → goes_on (drop at ks) (drop at items) read ≡ then_read (with_read line kind read x) (goes_on (drop (at + 1) ks) (drop (at + 1) items))
  goes_from ks items at kind x read k h is =
      ap (λ (l : List Kind). goes_on l (drop at items) read) (kinds_from ks at kind k ∙ ap (λ (n : ℕ). kind ∷ drop n ks) (sym (add-one at)))
      ∙ (ap (λ (l : List Written). goes_on (kind ∷ drop (at + 1) ks) l read) (front items at x h is)
      ∙ goes_further kind (drop (at + 1) ks) x (drop (at + 1) items) read)

  told_then : {A B K R : Type 0} (meant : K → A) (refusal : Refusal) (r : Result A Refusal) (f : A → Result B Refusal) (stands : R → B)
      → StandsFor meant (Err refusal) r → StandsFor stands (Err refusal) (then_read r f)
  told_then meant (At place code) r f stands told = ap (λ q. then_read q f) told
  told_then meant NoMemory r f stands told = tt

  told_same : {B R : Type 0} (stands : R → B) (refusal : Refusal) (r s : Result B Refusal) → r ≡ s → StandsFor stands (Err refusal) s → StandsFor stands (Err refusal) r
  told_same stands refusal r s e told = subst (λ q. StandsFor stands (Err refusal) q) (sym e) told

  pub line_next : (whole : Result Read Refusal) (ks : List Kind) (items : List Written) (at : ℕ) (kind : Kind) (x : Written) (read more : Read)
      → Some kind ≡ slice_get ks at → at < length items → x ≡ get_or items at x → with_read line kind read x ≡ Ok more
      → whole ≡ goes_on (drop at ks) (drop at items) read → whole ≡ goes_on (drop (at + 1) ks) (drop (at + 1) items) more
  line_next whole ks items at kind x read more k h is r w =
      w ∙ (goes_from ks items at kind x read k h is ∙ ap (λ q. then_read q (goes_on (drop (at + 1) ks) (drop (at + 1) items))) r)

  pub line_stops : {K R : Type 0} (whole : Result Read Refusal) (ks : List Kind) (items : List Written) (at : ℕ) (kind : Kind) (x : Written) (read : Read) (meant : K → Read) (stands : R → Read) (refusal : Refusal)
      → Some kind ≡ slice_get ks at → at < length items → x ≡ get_or items at x → StandsFor meant (Err refusal) (with_read line kind read x)
      → whole ≡ goes_on (drop at ks) (drop at items) read → StandsFor stands (Err refusal) whole
  line_stops whole ks items at kind x read meant stands refusal k h is told w =
      told_same stands refusal whole _ (w ∙ goes_from ks items at kind x read k h is)
      (told_then meant refusal (with_read line kind read x) (goes_on (drop (at + 1) ks) (drop (at + 1) items)) stands told)

  none_asked : (x : Written) (items : List Written) (read : Read) → goes_on [] (x ∷ items) read ≡ Err (At line.mnemonic 31)
  unfolding read_all
  none_asked x items read = refl

  none_written : (kind : Kind) (ks : List Kind) (read : Read) → goes_on (kind ∷ ks) [] read ≡ Err (At line.mnemonic 31)
  unfolding read_all
  none_written kind ks read = refl

  none_left : (read : Read) → goes_on [] [] read ≡ Ok (in_behind read (record { operands = []; known = read.known }))
  unfolding read_all
  none_left read = refl

  pub line_too_long : (whole : Result Read Refusal) (ks : List Kind) (items : List Written) (at : ℕ) (read : Read)
      → None ≡ slice_get ks at → at < length items
      → whole ≡ goes_on (drop at ks) (drop at items) read → whole ≡ Err (At line.mnemonic 31)
  line_too_long whole ks items at read k h w =
      let it = some_left items at h in
      w ∙ (ap (λ (l : List Kind). goes_on l (drop at items) read) (none_from ks at k)
      ∙ (ap (λ (l : List Written). goes_on [] l read) it.1 ∙ none_asked it.0 (drop (suc at) items) read))

  pub line_too_short : (whole : Result Read Refusal) (ks : List Kind) (items : List Written) (at last : ℕ) (kind : Kind) (read : Read)
      → at ≡ last → Some kind ≡ slice_get ks last → length items ≤ at
      → whole ≡ goes_on (drop at ks) (drop at items) read → whole ≡ Err (At line.mnemonic 31)
  line_too_short whole ks items at last kind read same k h w =
      w ∙ (ap (λ (l : List Kind). goes_on l (drop at items) read) (kinds_from ks at kind (k ∙ ap (slice_get ks) (sym same)))
      ∙ (ap (λ (l : List Written). goes_on (kind ∷ drop (suc at) ks) l read) (drop_all at items h) ∙ none_written kind (drop (suc at) ks) read))

  pub line_ends : (whole : Result Read Refusal) (ks : List Kind) (items : List Written) (at last : ℕ) (read : Read)
      → at ≡ last → None ≡ slice_get ks last → length items ≤ at
      → whole ≡ goes_on (drop at ks) (drop at items) read → whole ≡ Ok read
  line_ends whole ks items at last read same k h w =
      w ∙ (ap (λ (l : List Kind). goes_on l (drop at items) read) (none_from ks at (k ∙ ap (slice_get ks) (sym same)))
      ∙ (ap (λ (l : List Written). goes_on [] l read) (drop_all at items h)
      ∙ (none_left read ∙ ap (λ (xs : List Operand). Ok (record { operands = xs; known = read.known })) (append-nil read.operands))))

  -- counts
  counted_layer : (kind : Kind) (ks : List Kind) (known : Known) (x : Written) (items : List Written)
      → are_counted line (kind ∷ ks) known (x ∷ items) ≡ (is_group_counted line kind known x && are_counted line ks (count_told line kind x) items)
  unfolding are_counted
  counted_layer kind ks known x items = refl

  counted_end : (known : Known) (items : List Written) → are_counted line [] known items ≡ true
  unfolding are_counted
  counted_end known items = refl

  counted_none : (ks : List Kind) (known : Known) → are_counted line ks known [] ≡ true
  unfolding are_counted
  counted_none [] known = refl
  counted_none (kind ∷ ks) known = refl

  counted_from : (ks : List Kind) (items : List Written) (at : ℕ) (kind : Kind) (x : Written) (known : Known) → Some kind ≡ slice_get ks at → at < length items → x ≡ get_or items at x
      → are_counted line (drop at ks) known (drop at items) ≡ (is_group_counted line kind known x && are_counted line (drop (at + 1) ks) (count_told line kind x) (drop (at + 1) items))
  counted_from ks items at kind x known k h is =
      ap (λ (l : List Kind). are_counted line l known (drop at items)) (kinds_from ks at kind k ∙ ap (λ (n : ℕ). kind ∷ drop n ks) (sym (add-one at)))
      ∙ (ap (λ (l : List Written). are_counted line (kind ∷ drop (at + 1) ks) known l) (front items at x h is)
      ∙ counted_layer kind (drop (at + 1) ks) known x (drop (at + 1) items))

  pub count_next : (whole : Bool) (ks : List Kind) (items : List Written) (at : ℕ) (kind : Kind) (x y : Written) (known told : Known)
      → Some kind ≡ slice_get ks at → at < length items → x ≡ get_or items at x → y ≡ get_or items at y
      → true ≡ is_group_counted line kind known x → told ≡ count_told line kind y
      → whole ≡ are_counted line (drop at ks) known (drop at items) → whole ≡ are_counted line (drop (at + 1) ks) told (drop (at + 1) items)
  count_next whole ks items at kind x y known told k h is also c t w =
      w ∙ (counted_from ks items at kind x known k h is
      ∙ (ap (λ (b : Bool). b && are_counted line (drop (at + 1) ks) (count_told line kind x) (drop (at + 1) items)) (sym c)
      ∙ ap (λ (n : Known). are_counted line (drop (at + 1) ks) n (drop (at + 1) items)) (sym (t ∙ ap (count_told line kind) (same_item items at x y h is also)))))

  pub count_wrong : (whole : Bool) (ks : List Kind) (items : List Written) (at : ℕ) (kind : Kind) (x : Written) (known : Known)
      → Some kind ≡ slice_get ks at → at < length items → x ≡ get_or items at x → false ≡ is_group_counted line kind known x
      → whole ≡ are_counted line (drop at ks) known (drop at items) → whole ≡ false
  count_wrong whole ks items at kind x known k h is c w =
      w ∙ (counted_from ks items at kind x known k h is
      ∙ ap (λ (b : Bool). b && are_counted line (drop (at + 1) ks) (count_told line kind x) (drop (at + 1) items)) (sym c))

  pub count_ends : (whole : Bool) (ks : List Kind) (items : List Written) (at : ℕ) (known : Known)
      → None ≡ slice_get ks at → whole ≡ are_counted line (drop at ks) known (drop at items) → whole ≡ true
  count_ends whole ks items at known k w =
      w ∙ (ap (λ (l : List Kind). are_counted line l known (drop at items)) (none_from ks at k) ∙ counted_end known (drop at items))

  pub count_done : (whole : Bool) (ks : List Kind) (items : List Written) (at : ℕ) (known : Known)
      → length items ≤ at → whole ≡ are_counted line (drop at ks) known (drop at items) → whole ≡ true
  count_done whole ks items at known h w =
      w ∙ (ap (λ (l : List Written). are_counted line (drop at ks) known l) (drop_all at items h) ∙ counted_none (drop at ks) known)

-- the first variable
module _ (body : BodySeen) (test : Test) where
  first_layer : (kind : Kind) (ks : List Kind) (x : Written) (items : List Written)
      → first_variable body test (kind ∷ ks) (x ∷ items) ≡ option_or (if_passing body.tables.types test (written_type body kind x)) (first_variable body test ks items)
  unfolding first_variable
  first_layer kind ks x items = refl

  first_end : (items : List Written) → first_variable body test [] items ≡ None
  unfolding first_variable
  first_end items = refl

  first_none : (ks : List Kind) → first_variable body test ks [] ≡ None
  unfolding first_variable
  first_none [] = refl
  first_none (kind ∷ ks) = refl

  first_from : (ks : List Kind) (items : List Written) (at : ℕ) (kind : Kind) (x : Written) → Some kind ≡ slice_get ks at → at < length items → x ≡ get_or items at x
      → first_variable body test (drop at ks) (drop at items) ≡ option_or (if_passing body.tables.types test (written_type body kind x)) (first_variable body test (drop (at + 1) ks) (drop (at + 1) items))
  first_from ks items at kind x k h is =
      ap (λ (l : List Kind). first_variable body test l (drop at items)) (kinds_from ks at kind k ∙ ap (λ (n : ℕ). kind ∷ drop n ks) (sym (add-one at)))
      ∙ (ap (λ (l : List Written). first_variable body test (kind ∷ drop (at + 1) ks) l) (front items at x h is)
      ∙ first_layer kind (drop (at + 1) ks) x (drop (at + 1) items))

  pub first_next : (whole : Option ValueType) (ks : List Kind) (items : List Written) (at : ℕ) (kind : Kind) (x : Written)
      → Some kind ≡ slice_get ks at → at < length items → x ≡ get_or items at x → None ≡ if_passing body.tables.types test (written_type body kind x)
      → whole ≡ first_variable body test (drop at ks) (drop at items) → whole ≡ first_variable body test (drop (at + 1) ks) (drop (at + 1) items)
  first_next whole ks items at kind x k h is n w =
      w ∙ (first_from ks items at kind x k h is ∙ ap (λ (o : Option ValueType). option_or o (first_variable body test (drop (at + 1) ks) (drop (at + 1) items))) (sym n))

  pub first_found : (whole : Option ValueType) (ks : List Kind) (items : List Written) (at : ℕ) (kind : Kind) (x : Written) (found : ValueType)
      → Some kind ≡ slice_get ks at → at < length items → x ≡ get_or items at x → Some found ≡ if_passing body.tables.types test (written_type body kind x)
      → whole ≡ first_variable body test (drop at ks) (drop at items) → whole ≡ Some found
  first_found whole ks items at kind x found k h is n w =
      w ∙ (first_from ks items at kind x k h is ∙ ap (λ (o : Option ValueType). option_or o (first_variable body test (drop (at + 1) ks) (drop (at + 1) items))) (sym n))

  pub first_ends : (whole : Option ValueType) (ks : List Kind) (items : List Written) (at : ℕ)
      → None ≡ slice_get ks at → whole ≡ first_variable body test (drop at ks) (drop at items) → whole ≡ None
  first_ends whole ks items at k w =
      w ∙ (ap (λ (l : List Kind). first_variable body test l (drop at items)) (none_from ks at k) ∙ first_end (drop at items))

  pub first_done : (whole : Option ValueType) (ks : List Kind) (items : List Written) (at : ℕ)
      → length items ≤ at → whole ≡ first_variable body test (drop at ks) (drop at items) → whole ≡ None
  first_done whole ks items at h w =
      w ∙ (ap (λ (l : List Written). first_variable body test (drop at ks) l) (drop_all at items h) ∙ first_none (drop at ks))
