-- The bytes of marks that are kept.
use Rattle.std.proofs.Common.{◌≡◌, ℕ, Bool, true, false, cond, List, [], ◌∷◌, refl, ap, subst, eqb}
use Rattle.std.specs.Prelude.{◌⊎◌, IsTrue}
use Rattle.std.proofs.Common.{inl, inr}
use Rattle.std.proofs.lemmas.Bool.{eqb-true}
use Rattle.hilti_grammar.proofs.Sets.{true_not_false}
use Rattle.hilti_grammar.specs.Grammar.{Symbol, has, Tree.Spot}
use Rattle.hilti_grammar.specs.Runs.{Outcome.Done}
use Rattle.hilti_lexer.specs.declared.token.Token.{Token}
use Rattle.hilti_lexer.specs.declared.token.TokenKind.{TokenKind}
use Rattle.hilti_lexer.specs.declared.token.TokenKind.TheVariants as tokens
use Rattle.hilti_kinds.specs.declared.kind.Kind.{Kind}
use Rattle.hilti_kinds.specs.declared.kind.Kind.TheVariants as kinds
use Rattle.hilti_kinds.specs.declared.piece.Piece.{Piece}
use Rattle.hilti_kinds.specs.Kinds.{kind_of, mark_kind, keyword_kinds, look_up}
use Rattle.hilti_reader.specs.Modules.{RuleName, grammar}
use Rattle.hilti_reader.specs.Spelled.{marked_at}
use Rattle.hilti_reader.proofs.Exits.{Goes}
use Rattle.hilti_reader.proofs.Payloads.{choose, look_up_none}

module _ (wanted : Kind) where
  abbrev p : Kind → Bool
  p = has grammar (wanted ∷ [])

  -- a kind that isn't wanted was passed over
  pub past : (b : Bool) (x y : Kind) → p x ≡ false → p (cond b x y) ≡ true → p y ≡ true
  past true x y h k = absurd (true_not_false (p x) k h)
  past false x y h k = k

  -- nothing behind is wanted
  pub hit : (b : Bool) (x y : Kind) → p y ≡ false → p (cond b x y) ≡ true → b ≡ true
  hit true x y h k = refl
  hit false x y h k = absurd (true_not_false (p y) k h)

  pub mark_only : (n : ℕ) (token : TokenKind) → p kinds.Word ≡ false → p kinds.Number ≡ false → p kinds.Decimal ≡ false → p kinds.Address ≡ false → p kinds.NetNumber ≡ false → p kinds.PortNumber ≡ false →
      p kinds.Text ≡ false → p kinds.BytesText ≡ false → p kinds.LineEnd ≡ false → p kinds.DeepLess ≡ false → ((bytes : List ℕ) → p (look_up keyword_kinds bytes) ≡ false) →
      ((byte : ℕ) → p (mark_kind byte) ≡ true → byte ≡ n) → (p (kind_of token) ≡ true) ⊎ (p kinds.DeepLess ≡ true) → token ≡ tokens.Mark n
  mark_only n token w a b c d e f g l deep words marks (inr h) = absurd (true_not_false (p kinds.DeepLess) h deep)
  mark_only n (tokens.Word bytes) w a b c d e f g l deep words marks (inl h) = absurd (true_not_false (p (look_up keyword_kinds bytes)) h (words bytes))
  mark_only n (tokens.Number x) w a b c d e f g l deep words marks (inl h) = absurd (true_not_false (p kinds.Number) h a)
  mark_only n (tokens.Decimal x y) w a b c d e f g l deep words marks (inl h) = absurd (true_not_false (p kinds.Decimal) h b)
  mark_only n (tokens.Address x) w a b c d e f g l deep words marks (inl h) = absurd (true_not_false (p kinds.Address) h c)
  mark_only n (tokens.Net x y) w a b c d e f g l deep words marks (inl h) = absurd (true_not_false (p kinds.NetNumber) h d)
  mark_only n (tokens.Port x y) w a b c d e f g l deep words marks (inl h) = absurd (true_not_false (p kinds.PortNumber) h e)
  mark_only n (tokens.Text x) w a b c d e f g l deep words marks (inl h) = absurd (true_not_false (p kinds.Text) h f)
  mark_only n (tokens.Bytes x) w a b c d e f g l deep words marks (inl h) = absurd (true_not_false (p kinds.BytesText) h g)
  mark_only n (tokens.Mark byte) w a b c d e f g l deep words marks (inl h) = ap tokens.Mark (marks byte h)
  mark_only n tokens.LineEnd w a b c d e f g l deep words marks (inl h) = absurd (true_not_false (p kinds.LineEnd) h l)

star_byte : (byte : ℕ) → has grammar (kinds.Star ∷ []) (mark_kind byte) ≡ true → byte ≡ 42
star_byte byte h =
    eqb-true byte 42 (hit kinds.Star (eqb byte 42) kinds.Star _
    (choose (p kinds.Star) (eqb byte 46) _ _ refl (choose (p kinds.Star) (eqb byte 61) _ _ refl (choose (p kinds.Star) (eqb byte 64) _ _ refl refl)))
    (past kinds.Star (eqb byte 58) _ _ refl (past kinds.Star (eqb byte 44) _ _ refl (past kinds.Star (eqb byte 62) _ _ refl (past kinds.Star (eqb byte 60) _ _ refl
    (past kinds.Star (eqb byte 41) _ _ refl (past kinds.Star (eqb byte 40) _ _ refl (past kinds.Star (eqb byte 125) _ _ refl (past kinds.Star (eqb byte 123) _ _ refl h)))))))))

at_byte : (byte : ℕ) → has grammar (kinds.AtSign ∷ []) (mark_kind byte) ≡ true → byte ≡ 64
at_byte byte h =
    eqb-true byte 64 (hit kinds.AtSign (eqb byte 64) kinds.AtSign kinds.Scope refl
    (past kinds.AtSign (eqb byte 61) _ _ refl (past kinds.AtSign (eqb byte 46) _ _ refl (past kinds.AtSign (eqb byte 42) _ _ refl
    (past kinds.AtSign (eqb byte 58) _ _ refl (past kinds.AtSign (eqb byte 44) _ _ refl (past kinds.AtSign (eqb byte 62) _ _ refl (past kinds.AtSign (eqb byte 60) _ _ refl
    (past kinds.AtSign (eqb byte 41) _ _ refl (past kinds.AtSign (eqb byte 40) _ _ refl (past kinds.AtSign (eqb byte 125) _ _ refl (past kinds.AtSign (eqb byte 123) _ _ refl h))))))))))))

paren_byte : (byte : ℕ) → has grammar (kinds.OpenParen ∷ []) (mark_kind byte) ≡ true → byte ≡ 40
paren_byte byte h =
    eqb-true byte 40 (hit kinds.OpenParen (eqb byte 40) kinds.OpenParen _
    (choose (p kinds.OpenParen) (eqb byte 41) _ _ refl (choose (p kinds.OpenParen) (eqb byte 60) _ _ refl (choose (p kinds.OpenParen) (eqb byte 62) _ _ refl
    (choose (p kinds.OpenParen) (eqb byte 44) _ _ refl (choose (p kinds.OpenParen) (eqb byte 58) _ _ refl (choose (p kinds.OpenParen) (eqb byte 42) _ _ refl
    (choose (p kinds.OpenParen) (eqb byte 46) _ _ refl (choose (p kinds.OpenParen) (eqb byte 61) _ _ refl (choose (p kinds.OpenParen) (eqb byte 64) _ _ refl refl)))))))))
    (past kinds.OpenParen (eqb byte 125) _ _ refl (past kinds.OpenParen (eqb byte 123) _ _ refl h)))

pub is_mark_42 : (token : TokenKind) → IsTrue (has grammar (kinds.Star ∷ []) (kind_of token)) ⊎ IsTrue (has grammar (kinds.Star ∷ []) kinds.DeepLess) → token ≡ tokens.Mark 42
is_mark_42 token h = mark_only kinds.Star 42 token refl refl refl refl refl refl refl refl refl refl (λ bytes. look_up_none (kinds.Star ∷ []) keyword_kinds bytes refl refl) star_byte h

pub is_mark_64 : (token : TokenKind) → IsTrue (has grammar (kinds.AtSign ∷ []) (kind_of token)) ⊎ IsTrue (has grammar (kinds.AtSign ∷ []) kinds.DeepLess) → token ≡ tokens.Mark 64
is_mark_64 token h = mark_only kinds.AtSign 64 token refl refl refl refl refl refl refl refl refl refl (λ bytes. look_up_none (kinds.AtSign ∷ []) keyword_kinds bytes refl refl) at_byte h

pub is_mark_40 : (token : TokenKind) → IsTrue (has grammar (kinds.OpenParen ∷ []) (kind_of token)) ⊎ IsTrue (has grammar (kinds.OpenParen ∷ []) kinds.DeepLess) → token ≡ tokens.Mark 40
is_mark_40 token h = mark_only kinds.OpenParen 40 token refl refl refl refl refl refl refl refl refl refl (λ bytes. look_up_none (kinds.OpenParen ∷ []) keyword_kinds bytes refl refl) paren_byte h

-- the tree of a mark that was taken
pub mark_taken : (s : Symbol Kind RuleName) (before after : List Piece) (n : ℕ) (token : Token) → token.kind ≡ tokens.Mark n → Goes s before (Done (Spot token) after) → Goes s before (Done (marked_at token.place n) after)
mark_taken s before after n token e d = subst (λ kind. Goes s before (Done (Spot (record { place = token.place; kind = kind })) after)) e d
