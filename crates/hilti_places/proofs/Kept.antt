-- The tokens that a tree keeps are those that it was read from, but for those that are left out.
use Rattle.std.proofs.Common.{◌≡◌, Bool, true, false, cond, not, ◌&&◌, List, [], ◌∷◌, ◌++◌, refl, sym, ◌∙◌, ap, subst, append_assoc}
use Rattle.std.specs.Prelude.{ℕ, zero, suc, IsTrue, Option, Some, None, option_map, slice_get}
use Rattle.std.specs.List.{list_all}
use Rattle.std.specs.Option.{option_to_list}
use Rattle.std.proofs.lemmas.Bool.{eqb-true}
use Rattle.hilti_base.specs.declared.names.Place.{Place}
use Rattle.hilti_lexer.specs.declared.token.Token.{Token}
use Rattle.hilti_grammar.specs.Grammar.{Symbol, Symbol.One, Symbol.Empty, Symbol.◌▹◌, Symbol.◌⊕◌, Symbol.Many, Symbol.Rule, Keep.Dropped, Keep.Placed, Keep.Whole, has}
use Rattle.hilti_grammar.specs.Derives.{Derives, Derives.AToken, Derives.NoToken, Derives.Both, Derives.TheLeft, Derives.TheRight, Derives.NoMore, Derives.OneMore, Derives.ByRule}
use Rattle.hilti_grammar.proofs.Sets.{and_left, and_right, has_same, not_both}
use Rattle.hilti_kinds.specs.declared.kind.Kind.{Kind}
use Rattle.hilti_kinds.specs.declared.kind.Kind.TheVariants as kinds
use Rattle.hilti_kinds.specs.declared.piece.Piece.{Piece}
use Rattle.hilti_kinds.specs.Kinds.{is, kind_of}
use Rattle.hilti_pieces.specs.Pieces.{end_token, line_end_stands, kind_behind, pieces_behind, pieces_of}
use Rattle.hilti_reader.specs.Modules.{RuleName, RuleName.ModuleText as a_module, all_rules, grammar, rule, rule_index}
use Rattle.hilti_reader.specs.Spelled.{ModuleTree}
use Rattle.hilti_syntax.specs.Items.{module_tree}
use Rattle.hilti_places.specs.InTurn.{KeepsTokens}
use Rattle.hilti_places.specs.Places.{IsPartOf, IsPartOf.AtEnd, IsPartOf.Kept, IsPartOf.LeftOut, kept_tokens}
use Rattle.hilti_places.proofs.Parts.{part_both, part_none, part_trans}

-- the tokens of pieces but for line ends
abbrev within_line : Piece → List Token
within_line piece = cond (is kinds.LineEnd piece.kind) [] (piece.token ∷ [])

abbrev within_lines : List Piece → List Token
within_lines [] = []
within_lines (piece ∷ pieces) = within_line piece ++ within_lines pieces

two_within : (us vs : List Piece) → within_lines (us ++ vs) ≡ within_lines us ++ within_lines vs
two_within [] vs = refl
two_within (u ∷ us) vs = ap (λ l. within_line u ++ l) (two_within us vs) ∙ sym (append_assoc (within_line u) (within_lines us) (within_lines vs))

-- whether nothing is kept of line ends
abbrev drops : Symbol Kind RuleName → Bool
drops (One Dropped set) = true
drops (One Placed set) = not (has grammar set kinds.LineEnd)
drops (One Whole set) = not (has grammar set kinds.LineEnd)
drops Empty = true
drops (a ▹ b) = drops a && drops b
drops (a ⊕ b) = drops a && drops b
drops (Many a) = drops a
drops (Rule r) = true

listed : (p : RuleName → Bool) (rs : List RuleName) (i : ℕ) (r : RuleName) → slice_get rs i ≡ Some r → list_all p rs ≡ true → p r ≡ true
listed p [] i r e h = cc
listed p (q ∷ rs) zero r e h = let same : q ≡ r = cc in subst (λ t. p t ≡ true) same (and_left (p q) (list_all p rs) h)
listed p (q ∷ rs) (suc i) r e h = listed p rs i r e (and_right (p q) (list_all p rs) h)

each_drops : (r : RuleName) → drops (rule r) ≡ true
each_drops r = listed (λ r. drops (rule r)) all_rules (rule_index r) r (grammar.listed r) refl

token_kept : (set : List Kind) (piece : Piece) → IsTrue (has grammar set piece.kind) → not (has grammar set kinds.LineEnd) ≡ true → IsPartOf (piece.token ∷ []) (within_line piece ++ [])
token_kept set piece h fit = go (is kinds.LineEnd piece.kind) refl
  where
    go : (b : Bool) → is kinds.LineEnd piece.kind ≡ b → IsPartOf (piece.token ∷ []) (cond b [] (piece.token ∷ []) ++ [])
    go false e = Kept AtEnd
    go true e = absurd (not_both (has grammar set kinds.LineEnd) fit (has_same grammar set kinds.LineEnd piece.kind (eqb-true _ _ e) ∙ h))

two_kept : (x y : ModuleTree) (us vs : List Piece) → IsPartOf (kept_tokens x) (within_lines us) → IsPartOf (kept_tokens y) (within_lines vs) →
    IsPartOf (kept_tokens x ++ kept_tokens y) (within_lines (us ++ vs))
two_kept x y us vs p q =
    subst (IsPartOf (kept_tokens x ++ kept_tokens y)) (sym (two_within us vs)) (part_both (kept_tokens x) (within_lines us) (kept_tokens y) (within_lines vs) p q)

derived_kept : (s : Symbol Kind RuleName) (pieces : List Piece) (tree : ModuleTree) → Derives grammar s pieces tree → drops s ≡ true → IsPartOf (kept_tokens tree) (within_lines pieces)
derived_kept _ _ _ (AToken {keep = Dropped} {token = piece} h) fit = part_none (within_line piece ++ [])
derived_kept _ _ _ (AToken {keep = Placed} {set = set} {token = piece} h) fit = token_kept set piece h fit
derived_kept _ _ _ (AToken {keep = Whole} {set = set} {token = piece} h) fit = token_kept set piece h fit
derived_kept _ _ _ NoToken fit = AtEnd
derived_kept _ _ _ (Both {us = us} {vs = vs} {x = x} {y = y} d f) fit =
    two_kept x y us vs (derived_kept _ _ _ d (and_left _ _ fit)) (derived_kept _ _ _ f (and_right _ _ fit))
derived_kept _ _ _ (TheLeft d) fit = derived_kept _ _ _ d (and_left _ _ fit)
derived_kept _ _ _ (TheRight d) fit = derived_kept _ _ _ d (and_right _ _ fit)
derived_kept _ _ _ NoMore fit = AtEnd
derived_kept _ _ _ (OneMore {us = us} {vs = vs} {x = x} {y = y} d f) fit =
    two_kept x y us vs (derived_kept _ _ _ d fit) (derived_kept _ _ _ f fit)
derived_kept _ _ _ (ByRule {r = r} d) fit = derived_kept _ _ _ d (each_drops r)

-- the piece of a token, if it is one
abbrev piece_of : Token → Option Kind → List Piece
piece_of token kind = option_to_list (option_map (λ kind. record { token = token; kind = kind }) kind)

end_left_out : (end_place : Place) (stands : Bool) → IsPartOf (within_lines (piece_of (end_token end_place) (cond stands (Some kinds.LineEnd) None) ++ [])) []
end_left_out end_place true = AtEnd
end_left_out end_place false = AtEnd

token_within : (token : Token) (kind : Option Kind) (pieces : List Piece) (tokens : List Token) → IsPartOf (within_lines pieces) tokens →
    IsPartOf (within_lines (piece_of token kind ++ pieces)) (token ∷ tokens)
token_within token None pieces tokens p = LeftOut p
token_within token (Some kind) pieces tokens p = go (is kinds.LineEnd kind)
  where
    go : (b : Bool) → IsPartOf (cond b [] (token ∷ []) ++ within_lines pieces) (token ∷ tokens)
    go true = LeftOut p
    go false = Kept p

tokens_within : (before : List Kind) (tokens : List Token) (end_place : Place) → IsPartOf (within_lines (pieces_behind before (tokens ++ end_token end_place ∷ []))) tokens
tokens_within before [] end_place = end_left_out end_place (line_end_stands before)
tokens_within before (token ∷ tokens) end_place =
    token_within token (kind_behind before (kind_of token.kind)) (pieces_behind (kind_of token.kind ∷ before) (tokens ++ end_token end_place ∷ [])) tokens
    (tokens_within (kind_of token.kind ∷ before) tokens end_place)

pub keeps_tokens : KeepsTokens
keeps_tokens tokens end_place m is =
    part_trans (kept_tokens (module_tree m)) (within_lines (pieces_of tokens end_place)) tokens
    (derived_kept (Rule a_module) (pieces_of tokens end_place) (module_tree m) is refl) (tokens_within [] tokens end_place)
