-- Lemmas for the readers of literals and of words of any kind.
use Rattle.std.proofs.Common.{◌≡◌, ℕ, Bool, true, false, List, refl}
use Rattle.hilti_base.specs.declared.names.Place.{Place}
use Rattle.hilti_lexer.specs.declared.token.TokenKind.{TokenKind}
use Rattle.hilti_lexer.specs.declared.token.TokenKind.TheVariants as tokens
use Rattle.hilti_grammar.specs.Grammar.{Tree.Left}
use Rattle.hilti_module.specs.declared.module.Literal.{Literal}
use Rattle.hilti_module.specs.declared.module.Literal.TheVariants as literals
use Rattle.hilti_kinds.specs.Kinds.{keyword_kinds}
use Rattle.hilti_reader.specs.Modules.{second_kinds}
use Rattle.hilti_reader.specs.Readers.{IsAmong}
use Rattle.hilti_read_literals.specs.Literals.{literal_tree, literal_spot}
use Rattle.hilti_read_literals.specs.Literals.{values, is_one_token}
use Rattle.hilti_reader.proofs.Payloads.{no_mark, neither, look_up_none}

pub is_value : (place : Place) (kind : TokenKind) → IsAmong values (record { place = place; kind = kind }) → ((a : ℕ) → kind ≡ tokens.Number a → ⊥) → ((a : ℕ) → kind ≡ tokens.Address a → ⊥) →
    ((a b : ℕ) → kind ≡ tokens.Net a b → ⊥) → ((a : ℕ) (b : Bool) → kind ≡ tokens.Port a b → ⊥) → ((a : List ℕ) → kind ≡ tokens.Text a → ⊥) → ((a : List ℕ) → kind ≡ tokens.Bytes a → ⊥) → ⊥
is_value place (tokens.Word bytes) h n a m p t b = neither _ (look_up_none values keyword_kinds bytes refl refl) h
is_value place (tokens.Number x) h n a m p t b = n x refl
is_value place (tokens.Decimal x y) h n a m p t b = neither false refl h
is_value place (tokens.Address x) h n a m p t b = a x refl
is_value place (tokens.Net x y) h n a m p t b = m x y refl
is_value place (tokens.Port x y) h n a m p t b = p x y refl
is_value place (tokens.Text x) h n a m p t b = t x refl
is_value place (tokens.Bytes x) h n a m p t b = b x refl
is_value place (tokens.Mark byte) h n a m p t b = neither _ (no_mark values byte refl refl refl refl refl refl refl refl refl refl refl refl refl) h
is_value place tokens.LineEnd h n a m p t b = neither false refl h

pub is_seconds : (place : Place) (kind : TokenKind) → IsAmong second_kinds (record { place = place; kind = kind }) → ((a : ℕ) → kind ≡ tokens.Number a → ⊥) → ((a b : ℕ) → kind ≡ tokens.Decimal a b → ⊥) → ⊥
is_seconds place (tokens.Word bytes) h n d = neither _ (look_up_none second_kinds keyword_kinds bytes refl refl) h
is_seconds place (tokens.Number x) h n d = n x refl
is_seconds place (tokens.Decimal x y) h n d = d x y refl
is_seconds place (tokens.Address x) h n d = neither false refl h
is_seconds place (tokens.Net x y) h n d = neither false refl h
is_seconds place (tokens.Port x y) h n d = neither false refl h
is_seconds place (tokens.Text x) h n d = neither false refl h
is_seconds place (tokens.Bytes x) h n d = neither false refl h
is_seconds place (tokens.Mark byte) h n d = neither _ (no_mark second_kinds byte refl refl refl refl refl refl refl refl refl refl refl refl refl) h
is_seconds place tokens.LineEnd h n d = neither false refl h

-- the tree of a literal of one token
pub literal_tree_one : (literal : Literal) → is_one_token literal ≡ true → literal_tree literal ≡ Left (literal_spot literal)
literal_tree_one (literals.Number number) h = refl
literal_tree_one (literals.Address place bits) h = refl
literal_tree_one (literals.Net place bits length) h = refl
literal_tree_one (literals.Port place number udp) h = refl
literal_tree_one (literals.Text place bytes) h = refl
literal_tree_one (literals.Bytes place bytes) h = refl
literal_tree_one (literals.True place) h = refl
literal_tree_one (literals.False place) h = refl
literal_tree_one (literals.Null place) h = refl
literal_tree_one (literals.Constant name constant) h = cc
literal_tree_one (literals.Time place number) h = cc
literal_tree_one (literals.Interval place number) h = cc
