-- The words and marks that begin rules.
use Rattle.std.proofs.Common.{◌≡◌, Bool, List, [], ◌∷◌, ◌++◌, refl, sym, subst}
use Rattle.hilti_grammar.specs.Grammar.{Symbol.Rule, sees}
use Rattle.hilti_grammar.specs.Predictive.{known}
use Rattle.hilti_kinds.specs.declared.kind.Kind.TheVariants as kinds
use Rattle.hilti_kinds.specs.declared.kind.Kind.{Kind}
use Rattle.hilti_kinds.specs.declared.piece.Piece.{Piece}
use Rattle.hilti_reader.specs.Modules.{RuleName.LineText as a_line, RuleName.ItemText as an_item, grammar, told_rules, words, reserved_words, plain_types}

abbrev line_starts : List Kind
line_starts = words ++ (reserved_words ++ (kinds.AtSign ∷ []))

first_line : (told_rules a_line).first ≡ line_starts
unfolding told_rules
first_line = refl

-- what is seen of the words that begin a line is seen of the rule
pub sees_line : (pieces : List Piece) (b : Bool) → sees grammar line_starts pieces ≡ b → sees grammar (known grammar told_rules (Rule a_line)).first pieces ≡ b
sees_line pieces b h = subst (λ set. sees grammar set pieces ≡ b) (sym first_line) h

abbrev item_starts : List Kind
item_starts = words ++ (kinds.Ref ∷ kinds.Iterator ∷ kinds.Tuple ∷ kinds.Int ∷ plain_types) ++ (kinds.Void ∷ kinds.Hook ∷ kinds.Global ∷ kinds.Type ∷ [])

first_item : (told_rules an_item).first ≡ item_starts
unfolding told_rules
first_item = refl

pub sees_item : (pieces : List Piece) (b : Bool) → sees grammar item_starts pieces ≡ b → sees grammar (known grammar told_rules (Rule an_item)).first pieces ≡ b
sees_item pieces b h = subst (λ set. sees grammar set pieces ≡ b) (sym first_item) h
