-- The blocks of a body, one label after another.
use Rattle.std.proofs.Common.{◌≡◌, ◌∙◌, ℕ, ◌+◌, ◌<◌, ◌≤◌, Bool, true, false, cond, List, [], ◌∷◌, ◌++◌, length, drop, get_or, sym, refl, ap, subst, bytes_eq, length-append, Option, Some, None, arith}
use Rattle.std.specs.List.{position_from}
use Rattle.std.specs.Option.{option_or}
use Rattle.std.proofs.lemmas.Iterator.Adapters.{position_from-zero}
use Rattle.std.proofs.lemmas.List.{drop_all}
use Rattle.hilti_base.specs.declared.names.Place.{Place}
use Rattle.hilti_module.specs.declared.types.Name.{Name}
use Rattle.hilti_module.specs.declared.types.Word.{Word}
use Rattle.hilti_module.specs.declared.module.Handler.{Handler}
use Rattle.hilti_module.specs.declared.module.Line.{Line}
use Rattle.hilti_module.specs.declared.module.Line.TheVariants as lines
use Rattle.hilti_module.specs.declared.module.Mnemonic.{Mnemonic}
use Rattle.hilti_module.specs.declared.module.Operand.{Operand}
use Rattle.hilti_scope.specs.FirstPlaces.{place_of}
use Rattle.hilti_operands.proofs.Telling.{front}
use Rattle.hilti_bodies.specs.Sections.{Section, Label, section, begins_with_label, unlabelled, labelled, sections, is_named, block_of}

-- the blocks that begin at a place or behind it
pub label_next : (items : List Line) (at : ℕ) (x : Line) (place : Place) (name : Word) (handlers : List Handler) (close : Place) → at < length items → x ≡ get_or items at x
    → x ≡ lines.Label place name handlers
    → labelled (drop at items) close ≡ section (Some (record { place = place; name = name; handlers = handlers })) (drop (at + 1) items) close ∷ labelled (drop (at + 1) items) close
unfolding labelled
label_next items at x place name handlers close h is label = ap (λ ls. labelled ls close) (front items at x h is ∙ ap (λ y. y ∷ drop (at + 1) items) label)

pub other_next : (items : List Line) (at : ℕ) (x : Line) (target : Option Name) (mnemonic : Mnemonic) (operands : List Operand) (close : Place) → at < length items → x ≡ get_or items at x
    → x ≡ lines.Instruction target mnemonic operands
    → labelled (drop at items) close ≡ labelled (drop (at + 1) items) close
unfolding labelled
other_next items at x target mnemonic operands close h is other = ap (λ ls. labelled ls close) (front items at x h is ∙ ap (λ y. y ∷ drop (at + 1) items) other)

pub none_next : (items : List Line) (at : ℕ) (close : Place) → length items ≤ at → labelled (drop at items) close ≡ []
unfolding labelled
none_next items at close h = ap (λ ls. labelled ls close) (drop_all at items h)

-- the number of a name, of labels that were noted and then of blocks that are left
abbrev pub number_in : List (List ℕ × ℕ) → ℕ → List Section → List ℕ → Option ℕ
number_in noted next rest word = option_or (place_of noted word) (position_from (is_named word) next rest)

-- what numbers the blocks behind these labels, and how many blocks there are
pub record Numbers (noted : List (List ℕ × ℕ)) (next : ℕ) (rest all : List Section) : Type 0 where
  pub numbers : (word : List ℕ) → number_in noted next rest word ≡ block_of all word
  pub count : next + length rest ≡ length all

pub begins : (noted : List (List ℕ × ℕ)) (items : List Line) (close : Place) (next : ℕ) → noted ≡ [] → next ≡ length (unlabelled items close)
    → Numbers noted next (labelled items close) (sections items close)
unfolding place_of
begins noted items close next none is = by (begins_with_label items) is
  where
    nothing : (word : List ℕ) → place_of noted word ≡ None
    nothing word = ap (λ n. place_of n word) none

    from : (b : Bool) (word : List ℕ) → position_from (is_named word) (length (cond b [] (section None items close ∷ []))) (labelled items close) ≡ block_of (cond b [] (section None items close ∷ []) ++ labelled items close) word
    from true word = sym (position_from-zero (is_named word) (labelled items close))
    from false word = sym (position_from-zero (is_named word) (section None items close ∷ labelled items close))

    by : (b : Bool) → next ≡ length (cond b [] (section None items close ∷ [])) → Numbers noted next (labelled items close) (cond b [] (section None items close ∷ []) ++ labelled items close)
    by b is = record {
      numbers = λ word. ap (λ o. option_or o (position_from (is_named word) next (labelled items close))) (nothing word) ∙ (ap (λ n. position_from (is_named word) n (labelled items close)) is ∙ from b word);
      count = ap (λ n. n + length (labelled items close)) is ∙ sym (length-append (cond b [] (section None items close ∷ [])) (labelled items close));
    }

join : (o : Option ℕ) (b : Bool) (n : ℕ) (r : Option ℕ) → option_or (option_or o (cond b (Some n) None)) r ≡ option_or o (cond b (Some n) r)
join None true n r = refl
join None false n r = refl
join (Some m) b n r = refl

pub one_noted : (old new : List (List ℕ × ℕ)) (next : ℕ) (label : Label) (more : List Line) (close : Place) (before after all : List Section) → before ≡ section (Some label) more close ∷ after
    → ((word : List ℕ) → place_of new word ≡ option_or (place_of old word) (cond (bytes_eq label.name.bytes word) (Some next) None))
    → Numbers old next before all → Numbers new (next + 1) after all
one_noted old new next label more close before after all is noted so = record {
  numbers = λ word.
      ap (λ o. option_or o (position_from (is_named word) (next + 1) after)) (noted word)
      ∙ (join (place_of old word) (bytes_eq label.name.bytes word) next (position_from (is_named word) (next + 1) after)
      ∙ (ap (λ rest. number_in old next rest word) (sym is) ∙ so.numbers word));
  count = (let e : next + 1 + length after ≡ next + length (section (Some label) more close ∷ after) = omega arith in e) ∙ (ap (λ rest. next + length rest) (sym is) ∙ so.count);
}

pub same_rest : (noted : List (List ℕ × ℕ)) (next : ℕ) (before after all : List Section) → before ≡ after → Numbers noted next before all → Numbers noted next after all
same_rest noted next before after all is so = subst (λ rest. Numbers noted next rest all) is so

nothing_or : (o : Option ℕ) → option_or o None ≡ o
nothing_or None = refl
nothing_or (Some n) = refl

-- all labels are noted
pub all_noted : (noted : List (List ℕ × ℕ)) (next : ℕ) (rest all : List Section) → rest ≡ [] → Numbers noted next rest all → place_of noted ≡ block_of all
all_noted noted next rest all none so = λ i word. (sym (nothing_or (place_of noted word)) ∙ (ap (λ r. number_in noted next r word) (sym none) ∙ so.numbers word)) i

pub all_counted : (noted : List (List ℕ × ℕ)) (next : ℕ) (rest all : List Section) → rest ≡ [] → Numbers noted next rest all → next ≡ length all
all_counted noted next rest all none so = (let e : next ≡ next + length (let it : List Section = [] in it) = omega arith in e) ∙ (ap (λ r. next + length r) (sym none) ∙ so.count)
