-- The pieces of tokens in two parts.
use Rattle.std.proofs.Common.{◌≡◌, List, [], ◌∷◌, ◌++◌, map, refl, sym, ◌∙◌, ap, append_assoc}
use Rattle.std.proofs.lemmas.List.{append-nil, reverse-append}
use Rattle.hilti_lexer.specs.declared.token.Token.{Token}
use Rattle.hilti_kinds.specs.declared.kind.Kind.{Kind}
use Rattle.hilti_kinds.specs.Kinds.{kind_of}
use Rattle.hilti_pieces.specs.Pieces.{piece_behind, pieces_behind, kinds_behind, EachByItself}

nearest_first : (token : Token) (front : List Token) (before : List Kind) → kinds_behind (token ∷ front) ++ before ≡ kinds_behind front ++ kind_of token.kind ∷ before
nearest_first token front before =
    ap (λ l. l ++ before) (reverse-append (kind_of token.kind ∷ []) (map (λ (t : Token). kind_of t.kind) front)) ∙ append_assoc (kinds_behind front) (kind_of token.kind ∷ []) before

two_parts : (before : List Kind) (front back : List Token) → pieces_behind before (front ++ back) ≡ pieces_behind before front ++ pieces_behind (kinds_behind front ++ before) back
two_parts before [] back = refl
two_parts before (token ∷ front) back =
    ap (λ l. piece_behind before token ++ l) (two_parts (kind_of token.kind ∷ before) front back)
    ∙ (sym (append_assoc (piece_behind before token) (pieces_behind (kind_of token.kind ∷ before) front) (pieces_behind (kinds_behind front ++ kind_of token.kind ∷ before) back))
    ∙ ap (λ b. pieces_behind before (token ∷ front) ++ pieces_behind b back) (sym (nearest_first token front before)))

pub each_by_itself : EachByItself
each_by_itself tokens end_place front token back e =
    ap (pieces_behind []) e
    ∙ (two_parts [] front (token ∷ back)
    ∙ ap (λ b. pieces_behind [] front ++ pieces_behind b (token ∷ back)) (append-nil (kinds_behind front)))
