-- Lemmas for the readers of operands.
use Rattle.std.proofs.Common.{◌≡◌, ℕ, Bool, true, false, List, [], ◌∷◌, ◌++◌, refl, sym, ◌∙◌, ap, subst, ◌<◌, ◌≤◌, arith}
use Rattle.std.specs.Prelude.{Option, Some, None, Result, Ok, IsErrAnd, map}
use Rattle.std.proofs.lemmas.Result.{err_from_is_err_and}
use Rattle.hilti_base.specs.declared.names.Place.{Place}
use Rattle.hilti_grammar.specs.Grammar.{Symbol, Symbol.One, Symbol.Rule, Symbol.◌▹◌, Keep.Placed, Tree.Pair, Tree.Left, Tree.Right, Tree.Nothing, sees}
use Rattle.hilti_grammar.specs.Predictive.{known, within}
use Rattle.hilti_grammar.specs.Reads.{separated, separated_tree}
use Rattle.hilti_grammar.specs.Runs.{Outcome, Outcome.Done, Outcome.Failed, changed, Runs.GivesUp, Runs.Then, Runs.Follows, Runs.ToLeft, Runs.ToRight, Runs.Leaves}
use Rattle.hilti_grammar.proofs.Sets.{true_not_false}
use Rattle.hilti_lexer.specs.declared.token.Token.{Token}
use Rattle.hilti_kinds.specs.declared.kind.Kind.{Kind}
use Rattle.hilti_kinds.specs.declared.kind.Kind.TheVariants as kinds
use Rattle.hilti_reader.specs.declared.keyword.Keyword.{Keyword}
use Rattle.hilti_kinds.specs.declared.piece.Piece.{Piece}
use Rattle.hilti_reader.specs.declared.stop.Stop.{Stop}
use Rattle.hilti_module.specs.declared.module.Simple.{Simple}
use Rattle.hilti_module.specs.declared.module.Operand.{Operand}
use Rattle.hilti_module.specs.declared.module.Operand.TheVariants as operands
use Rattle.hilti_module.specs.declared.module.Seconds.{Seconds}
use Rattle.hilti_reader.specs.Modules.{RuleName, RuleName.Operands as the_operands, RuleName.OperandsBehindTime as behind_time, RuleName.GroupText as a_group, RuleName.SimpleText as a_simple, RuleName.OtherSimple as another, grammar, told_rules, time_words, comma, in_parens, second_kinds}
use Rattle.hilti_reader.specs.Spelled.{ModuleTree, keyword_tree, maybe_tree, between_marks, marked_at}
use Rattle.hilti_read_literals.specs.Literals.{TimePart, time_part, seconds_tree}
use Rattle.hilti_read_operands.specs.Operands.{other_tree, simple_of, simple_tree, operand_of, operands_tree, group_tree}
use Rattle.hilti_reader.specs.Loops.{GathersAll}
use Rattle.hilti_read_operands.specs.Operands.{others, operand_front, is_alone, is_time_alone, is_group, OperandsGo, Steps, ends_alone, operands_front, Collects}
use Rattle.hilti_reader.proofs.Exits.{Goes}
use Rattle.hilti_reader.proofs.Picking.{same_sees, part_is_seen, neither_seen}

-- the trees of simple operands in parentheses
pub simple_timed : (word : Keyword) (seconds : Option Seconds) (simple : Simple) → time_part simple ≡ Some (record { place = word.place; kind = word.kind; number = seconds }) →
    simple_tree simple ≡ Left (Pair (keyword_tree word) (maybe_tree (λ number. between_marks (seconds_tree number)) seconds))
simple_timed word seconds simple e = ap (λ part. simple_of part (other_tree simple)) e

pub simple_other : (simple : Simple) → time_part simple ≡ None → simple_tree simple ≡ Right (other_tree simple)
simple_other simple e = ap (λ part. simple_of part (other_tree simple)) e

-- what begins the parts of operands, as the grammar computes it
paren_within : within grammar (kinds.OpenParen ∷ []) (known grammar told_rules (Rule a_group ▹ Rule the_operands)).first ≡ true
unfolding told_rules
paren_within = refl

within_paren : within grammar (known grammar told_rules (Rule a_group ▹ Rule the_operands)).first (kinds.OpenParen ∷ []) ≡ true
unfolding told_rules
within_paren = refl

others_within : within grammar others (known grammar told_rules (Rule another ▹ Rule the_operands)).first ≡ true
unfolding told_rules
others_within = refl

within_others : within grammar (known grammar told_rules (Rule another ▹ Rule the_operands)).first others ≡ true
unfolding told_rules
within_others = refl

time_in_simple : within grammar time_words (known grammar told_rules (separated (Rule a_simple) comma)).first ≡ true
unfolding told_rules
time_in_simple = refl

others_in_simple : within grammar others (known grammar told_rules (separated (Rule a_simple) comma)).first ≡ true
unfolding told_rules
others_in_simple = refl

simple_in_both : within grammar (known grammar told_rules (separated (Rule a_simple) comma)).first (time_words ++ others) ≡ true
unfolding told_rules
simple_in_both = refl

paren_in_operands : within grammar (kinds.OpenParen ∷ []) (told_rules the_operands).first ≡ true
unfolding told_rules
paren_in_operands = refl

simple_in_operands : within grammar (known grammar told_rules (separated (Rule a_simple) comma)).first (told_rules the_operands).first ≡ true
unfolding told_rules
simple_in_operands = refl

operands_in_both : within grammar (told_rules the_operands).first ((kinds.OpenParen ∷ []) ++ (known grammar told_rules (separated (Rule a_simple) comma)).first) ≡ true
unfolding told_rules
operands_in_both = refl

time_in_operands : within grammar time_words (told_rules the_operands).first ≡ true
unfolding told_rules
time_in_operands = refl

others_in_operands : within grammar others (told_rules the_operands).first ≡ true
unfolding told_rules
others_in_operands = refl

operands_in_all : within grammar (told_rules the_operands).first (((kinds.OpenParen ∷ []) ++ time_words) ++ others) ≡ true
unfolding told_rules
operands_in_all = refl

pub sees_paren : (pieces : List Piece) (b : Bool) → sees grammar (kinds.OpenParen ∷ []) pieces ≡ b → sees grammar (known grammar told_rules (Rule a_group ▹ Rule the_operands)).first pieces ≡ b
sees_paren pieces b h = same_sees (kinds.OpenParen ∷ []) (known grammar told_rules (Rule a_group ▹ Rule the_operands)).first pieces b paren_within within_paren h

pub sees_others : (pieces : List Piece) (b : Bool) → sees grammar others pieces ≡ b → sees grammar (known grammar told_rules (Rule another ▹ Rule the_operands)).first pieces ≡ b
sees_others pieces b h = same_sees others (known grammar told_rules (Rule another ▹ Rule the_operands)).first pieces b others_within within_others h

pub begins_by_time : (pieces : List Piece) → sees grammar time_words pieces ≡ true → sees grammar (known grammar told_rules (separated (Rule a_simple) comma)).first pieces ≡ true
begins_by_time pieces h = part_is_seen time_words (known grammar told_rules (separated (Rule a_simple) comma)).first pieces time_in_simple h

pub begins_by_others : (pieces : List Piece) (b : Bool) → sees grammar time_words pieces ≡ false → sees grammar others pieces ≡ b → sees grammar (known grammar told_rules (separated (Rule a_simple) comma)).first pieces ≡ b
begins_by_others pieces true unseen h = part_is_seen others (known grammar told_rules (separated (Rule a_simple) comma)).first pieces others_in_simple h
begins_by_others pieces false unseen h = neither_seen time_words others (known grammar told_rules (separated (Rule a_simple) comma)).first pieces simple_in_both unseen h

pub begins_by_paren : (pieces : List Piece) → sees grammar (kinds.OpenParen ∷ []) pieces ≡ true → sees grammar (told_rules the_operands).first pieces ≡ true
begins_by_paren pieces h = part_is_seen (kinds.OpenParen ∷ []) (told_rules the_operands).first pieces paren_in_operands h

pub begins_by_simple : (pieces : List Piece) (b : Bool) → sees grammar (kinds.OpenParen ∷ []) pieces ≡ false → sees grammar (known grammar told_rules (separated (Rule a_simple) comma)).first pieces ≡ b →
    sees grammar (told_rules the_operands).first pieces ≡ b
begins_by_simple pieces true unseen h = part_is_seen (known grammar told_rules (separated (Rule a_simple) comma)).first (told_rules the_operands).first pieces simple_in_operands h
begins_by_simple pieces false unseen h = neither_seen (kinds.OpenParen ∷ []) (known grammar told_rules (separated (Rule a_simple) comma)).first (told_rules the_operands).first pieces operands_in_both unseen h

-- where an operand begins that is neither a group nor a time, another begins
pub another_begins : (pieces : List Piece) → sees grammar (told_rules the_operands).first pieces ≡ true → sees grammar (kinds.OpenParen ∷ []) pieces ≡ false → sees grammar time_words pieces ≡ false →
    sees grammar others pieces ≡ true
another_begins pieces all paren time = go (sees grammar others pieces) refl
  where
    go : (b : Bool) → sees grammar others pieces ≡ b → sees grammar others pieces ≡ true
    go true e = e
    go false e =
        absurd (true_not_false (sees grammar (told_rules the_operands).first pieces) all
        (neither_seen ((kinds.OpenParen ∷ []) ++ time_words) others (told_rules the_operands).first pieces operands_in_all
        (neither_seen (kinds.OpenParen ∷ []) time_words ((kinds.OpenParen ∷ []) ++ time_words) pieces refl paren time) e))

-- where no operand begins, none of the parts does
pub none_begins : (pieces : List Piece) → sees grammar (told_rules the_operands).first pieces ≡ false →
    (sees grammar (kinds.OpenParen ∷ []) pieces ≡ false) × (sees grammar time_words pieces ≡ false) × (sees grammar others pieces ≡ false)
none_begins pieces none = (unseen (kinds.OpenParen ∷ []) paren_in_operands, unseen time_words time_in_operands, unseen others others_in_operands)
  where
    by_test : (set : List Kind) → within grammar set (told_rules the_operands).first ≡ true → (b : Bool) → sees grammar set pieces ≡ b → sees grammar set pieces ≡ false
    by_test set w false e = e
    by_test set w true e = absurd (true_not_false (sees grammar (told_rules the_operands).first pieces) (part_is_seen set (told_rules the_operands).first pieces w e) none)

    unseen : (set : List Kind) → within grammar set (told_rules the_operands).first ≡ true → sees grammar set pieces ≡ false
    unseen set w = by_test set w (sees grammar set pieces) refl

-- a group that has something in it
pub group_some : (place : Place) (items : List Simple) → (items ≡ [] → ⊥) → group_tree place items ≡ Pair (marked_at place 40) (Pair (Left (separated_tree (map simple_tree items))) Nothing)
group_some place [] n = absurd (n refl)
group_some place (first ∷ more) n = refl

pub gathers_some : {V : Type 0} (item : Symbol Kind RuleName) (tree : V → ModuleTree) (before now : List Piece) (parts : List V) → GathersAll item tree before parts now → parts ≡ [] → ⊥
gathers_some item tree before now [] so_far e = so_far
gathers_some item tree before now (first ∷ more) so_far e = cc

-- what one step hands on
pub steps_exit : (before after : List Piece) (r : Result Operand Stop) (e : Stop) → IsErrAnd r (λ y. y ≡ e) → OperandsGo before (Failed e after) → Steps before r after
steps_exit before after r e is d =
    let p = err_from_is_err_and r is in
    subst (λ q. Steps before q after) (sym p.1) (subst (λ y. OperandsGo before (Failed y after)) (sym p.2) d)

group_goes : (before mid : List Piece) (x : ModuleTree) → sees grammar (kinds.OpenParen ∷ []) before ≡ true → Goes (Rule a_group) before (Done x mid) →
    (out : Outcome Stop Token Piece) → OperandsGo mid out → OperandsGo before (changed (λ rest. Left (Pair x rest)) out)
group_goes before mid x seen g (Done y rest) d = Follows (ToLeft (sees_paren before true seen) (Then g d))
group_goes before mid x seen g (Failed e rest) d = Follows (ToLeft (sees_paren before true seen) (Then g d))

pub group_step : (before mid : List Piece) (place : Place) (items : List Simple) → sees grammar (kinds.OpenParen ∷ []) before ≡ true → Goes (Rule a_group) before (Done (group_tree place items) mid) →
    Steps before (Ok (operands.Group place items)) mid
group_step before mid place items seen g = (group_goes before mid (group_tree place items) seen g, λ h. cc, λ h. seen)

other_goes : (before mid : List Piece) (x : ModuleTree) → sees grammar (kinds.OpenParen ∷ []) before ≡ false → sees grammar time_words before ≡ false → sees grammar others before ≡ true →
    Goes (Rule another) before (Done x mid) → (out : Outcome Stop Token Piece) → OperandsGo mid out → OperandsGo before (changed (λ rest. operand_of None x rest rest) out)
other_goes before mid x paren time seen g (Done y rest) d = Follows (ToRight (sees_paren before false paren) (ToRight time (ToLeft (sees_others before true seen) (Then g d))))
other_goes before mid x paren time seen g (Failed e rest) d = Follows (ToRight (sees_paren before false paren) (ToRight time (ToLeft (sees_others before true seen) (Then g d))))

pub other_step : (before mid : List Piece) (simple : Simple) → time_part simple ≡ None → sees grammar (kinds.OpenParen ∷ []) before ≡ false → sees grammar time_words before ≡ false → sees grammar others before ≡ true →
    Goes (Rule another) before (Done (other_tree simple) mid) → Steps before (Ok (operands.Simple simple)) mid
other_step before mid simple none paren time seen g = (
  λ out d. subst (λ part. OperandsGo before (changed (λ rest. operand_of part (other_tree simple) rest rest) out)) (sym none) (other_goes before mid (other_tree simple) paren time seen g out d),
  λ h. absurd (true_not_false _ h (ap is_alone none)),
  λ h. cc,
)

-- where no `(` stands, operands go as those behind a time do
behind_goes : (now : List Piece) (out : Outcome Stop Token Piece) → sees grammar (kinds.OpenParen ∷ []) now ≡ false → OperandsGo now out → Goes (Rule behind_time) now out
behind_goes now _ unseen (GivesUp h) = GivesUp h
behind_goes now _ unseen (Follows (GivesUp h)) = GivesUp h
behind_goes now _ unseen (Follows (ToLeft seen d)) = absurd (true_not_false _ seen (sees_paren now false unseen))
behind_goes now _ unseen (Follows (ToRight other d)) = Follows (ToRight unseen d)

alone_goes : (before mid : List Piece) (word : Keyword) (other : ModuleTree) → sees grammar (kinds.OpenParen ∷ []) before ≡ false → sees grammar time_words before ≡ true → Goes (One Placed time_words) before (Done (keyword_tree word) mid) →
    sees grammar (kinds.OpenParen ∷ []) mid ≡ false → (out : Outcome Stop Token Piece) → OperandsGo mid out →
    OperandsGo before (changed (λ rest. operand_of (Some (record { place = word.place; kind = word.kind; number = None })) other rest rest) out)
alone_goes before mid word other paren time w unseen (Done y rest) d = Follows (ToRight (sees_paren before false paren) (ToLeft time (Then w (behind_goes mid _ unseen d))))
alone_goes before mid word other paren time w unseen (Failed e rest) d = Follows (ToRight (sees_paren before false paren) (ToLeft time (Then w (behind_goes mid _ unseen d))))

pub alone_step : (before mid : List Piece) (word : Keyword) (simple : Simple) → time_part simple ≡ Some (record { place = word.place; kind = word.kind; number = None }) →
    sees grammar (kinds.OpenParen ∷ []) before ≡ false → sees grammar time_words before ≡ true → Goes (One Placed time_words) before (Done (keyword_tree word) mid) → sees grammar (kinds.OpenParen ∷ []) mid ≡ false →
    Steps before (Ok (operands.Simple simple)) mid
alone_step before mid word simple part paren time w unseen = (
  λ out d. subst (λ part. OperandsGo before (changed (λ rest. operand_of part (other_tree simple) rest rest) out)) (sym part) (alone_goes before mid word (other_tree simple) paren time w unseen out d),
  λ h. unseen,
  λ h. cc,
)

number_goes : (before mid after : List Piece) (word : Keyword) (number : Seconds) (other : ModuleTree) → sees grammar (kinds.OpenParen ∷ []) before ≡ false → sees grammar time_words before ≡ true →
    Goes (One Placed time_words) before (Done (keyword_tree word) mid) → sees grammar (kinds.OpenParen ∷ []) mid ≡ true → Goes (in_parens (One Placed second_kinds)) mid (Done (between_marks (seconds_tree number)) after) →
    (out : Outcome Stop Token Piece) → OperandsGo after out → OperandsGo before (changed (λ rest. operand_of (Some (record { place = word.place; kind = word.kind; number = Some number })) other rest rest) out)
number_goes before mid after word number other paren time w seen_here s (Done y rest) d = Follows (ToRight (sees_paren before false paren) (ToLeft time (Then w (Follows (ToLeft seen_here (Then s d))))))
number_goes before mid after word number other paren time w seen_here s (Failed e rest) d = Follows (ToRight (sees_paren before false paren) (ToLeft time (Then w (Follows (ToLeft seen_here (Then s d))))))

pub number_step : (before mid after : List Piece) (word : Keyword) (number : Seconds) (simple : Simple) → time_part simple ≡ Some (record { place = word.place; kind = word.kind; number = Some number }) →
    sees grammar (kinds.OpenParen ∷ []) before ≡ false → sees grammar time_words before ≡ true → Goes (One Placed time_words) before (Done (keyword_tree word) mid) → sees grammar (kinds.OpenParen ∷ []) mid ≡ true →
    Goes (in_parens (One Placed second_kinds)) mid (Done (between_marks (seconds_tree number)) after) → Steps before (Ok (operands.Simple simple)) after
number_step before mid after word number simple part paren time w seen_here s = (
  λ out d. subst (λ part. OperandsGo before (changed (λ rest. operand_of part (other_tree simple) rest rest) out)) (sym part) (number_goes before mid after word number (other_tree simple) paren time w seen_here s out d),
  λ h. absurd (true_not_false _ h (ap is_alone part)),
  λ h. cc,
)

-- the tree of an operand depends on the operands behind it only where they are used
some_behind : (place : Place) (kind : Kind) (number : Option Seconds) (other p q x y : ModuleTree) → (is_alone (Some (record { place = place; kind = kind; number = number })) ≡ false → p ≡ q) →
    (is_alone (Some (record { place = place; kind = kind; number = number })) ≡ true → x ≡ y) →
    operand_of (Some (record { place = place; kind = kind; number = number })) other p x ≡ operand_of (Some (record { place = place; kind = kind; number = number })) other q y
some_behind place kind None other p q x y e f = ap (λ t. operand_of (Some (record { place = place; kind = kind; number = None })) other p t) (f refl)
some_behind place kind (Some number) other p q x y e f = ap (λ t. operand_of (Some (record { place = place; kind = kind; number = Some number })) other t y) (e refl)

same_behind : (part : Option TimePart) (other p q x y : ModuleTree) → (is_alone part ≡ false → p ≡ q) → (is_alone part ≡ true → x ≡ y) → operand_of part other p x ≡ operand_of part other q y
same_behind None other p q x y e f = ap (λ t. Right (Right (Left (Pair other t)))) (e refl)
same_behind (Some part) other p q x y e f = some_behind part.place part.kind part.number other p q x y e f

front_last : (b : Bool) (found : List Operand) (next : Operand) (t : ModuleTree) → (is_group next ≡ true → ends_alone b found ≡ false) →
    operands_front b (found ++ next ∷ []) t ≡ operands_front b found (operand_front next t)
front_last b [] (operands.Simple simple) t fits = refl
front_last false [] (operands.Group place items) t fits = refl
front_last true [] (operands.Group place items) t fits = let wrong : true ≡ false = fits refl in cc
front_last b (operands.Simple simple ∷ more) next t fits =
    same_behind (time_part simple) (other_tree simple) _ _ _ _
    (λ alone. front_last false more next t (λ group. subst (λ a. ends_alone a more ≡ false) alone (fits group)))
    (λ alone. front_last true more next t (λ group. subst (λ a. ends_alone a more ≡ false) alone (fits group)))
front_last false (operands.Group place items ∷ more) next t fits = ap (λ r. Left (Pair (group_tree place items) r)) (front_last false more next t fits)
front_last true (operands.Group place items ∷ more) next t fits = refl

ends_last : (b : Bool) (found : List Operand) (next : Operand) → ends_alone b (found ++ next ∷ []) ≡ is_time_alone next
ends_last b [] next = refl
ends_last b (first ∷ more) next = ends_last (is_time_alone first) more next

front_all : (b : Bool) (found : List Operand) → operands_front b found (Right (Right (Right Nothing))) ≡ operands_tree b found
front_all b [] = refl
front_all b (operands.Simple simple ∷ more) = same_behind (time_part simple) (other_tree simple) _ _ _ _ (λ alone. front_all false more) (λ alone. front_all true more)
front_all false (operands.Group place items ∷ more) = ap (λ r. Left (Pair (group_tree place items) r)) (front_all false more)
front_all true (operands.Group place items ∷ more) = refl

-- the loop over operands
pub collects_begin : (before : List Piece) (found : List Operand) → found ≡ [] → Collects before found before
collects_begin before found e = subst (λ l. Collects before l before) (sym e) (whole, λ h. cc)
  where
    whole : (out : Outcome Stop Token Piece) → OperandsGo before out → OperandsGo before (changed (operands_front false []) out)
    whole (Done x rest) d = d
    whole (Failed e rest) d = d

pub collects_next : (before mid after : List Piece) (found more : List Operand) (next : Operand) → more ≡ found ++ next ∷ [] → Collects before found mid → Steps mid (Ok next) after → Collects before more after
collects_next before mid after found more next e (so_far, apart) (step, alone, group) = subst (λ l. Collects before l after) (sym e) (whole, λ h. alone (sym (ends_last false found next) ∙ h))
  where
    fits : is_group next ≡ true → ends_alone false found ≡ false
    fits is = by_test (ends_alone false found) refl
      where
        by_test : (b : Bool) → ends_alone false found ≡ b → ends_alone false found ≡ false
        by_test false e = e
        by_test true e = absurd (true_not_false _ (group is) (apart e))

    same : (out : Outcome Stop Token Piece) → changed (operands_front false found) (changed (operand_front next) out) ≡ changed (operands_front false (found ++ next ∷ [])) out
    same (Done x rest) = ap (λ t. Done t rest) (sym (front_last false found next x fits))
    same (Failed e rest) = refl

    whole : (out : Outcome Stop Token Piece) → OperandsGo after out → OperandsGo before (changed (operands_front false (found ++ next ∷ [])) out)
    whole out d = subst (λ o. OperandsGo before o) (same out) (so_far (changed (operand_front next) out) (step out d))

pub collects_fail : (before mid rest : List Piece) (found : List Operand) (e : Stop) → Collects before found mid → OperandsGo mid (Failed e rest) → OperandsGo before (Failed e rest)
collects_fail before mid rest found e (so_far, apart) d = so_far (Failed e rest) d

pub collects_end : (before now : List Piece) (found : List Operand) → Collects before found now → sees grammar (told_rules the_operands).first now ≡ false → OperandsGo before (Done (operands_tree false found) now)
collects_end before now found (so_far, apart) none =
    let (paren, time, other) = none_begins now none in
    subst (λ t. OperandsGo before (Done t now)) (front_all false found)
    (so_far (Done (Right (Right (Right Nothing))) now) (Follows (ToRight (sees_paren now false paren) (ToRight time (ToRight (sees_others now false other) Leaves)))))

pub shrinks_more : (a b d : ℕ) → b ≤ a → d < b → d ≤ a
shrinks_more a b d h i = omega arith
