-- Lemmas for the readers of the fields of overlays.
use Rattle.std.proofs.Common.{◌≡◌, ℕ, Bool, true, false, cond, List, [], ◌∷◌, refl, sym, ◌∙◌, ap, subst, inl, inr}
use Rattle.std.specs.Prelude.{Option, Some, None, codes, bytes_eq}
use Rattle.std.proofs.lemmas.Slice.Eq.{bytes_eq-Decides}
use Rattle.hilti_base.specs.declared.names.Place.{Place}
use Rattle.hilti_grammar.specs.Grammar.{Tree.Nothing, Tree.Pair, Tree.Left, Tree.Right, has}
use Rattle.hilti_grammar.proofs.Sets.{true_not_false}
use Rattle.hilti_lexer.specs.declared.token.TokenKind.{TokenKind}
use Rattle.hilti_lexer.specs.declared.token.TokenKind.TheVariants as tokens
use Rattle.hilti_kinds.specs.declared.kind.Kind.TheVariants as kinds
use Rattle.hilti_module.specs.declared.module.Bits.{Bits}
use Rattle.hilti_module.specs.declared.module.Form.TheVariants as forms
use Rattle.hilti_module.specs.declared.types.Number.{Number}
use Rattle.hilti_module.specs.declared.types.Word.{Word}
use Rattle.hilti_read_shapes.specs.Shapes.{form_tree, bits_tree}
use Rattle.hilti_kinds.specs.Kinds.{keyword_kinds, look_up, kind_of}
use Rattle.hilti_reader.specs.Modules.{grammar, other_forms}
use Rattle.hilti_reader.specs.Readers.{IsAmong}
use Rattle.hilti_reader.specs.Spelled.{ModuleTree, word_tree, number_tree, spelled_at, behind_mark, between_marks, maybe_tree}
use Rattle.hilti_reader.proofs.Payloads.{is_keyword}
use Rattle.hilti_reader.proofs.Only.{only}

-- the word of the kind for `Bytes` is spelled so
pub is_spelled : (place : Place) (kind : TokenKind) (bytes : List ℕ) → kind ≡ tokens.Word bytes → IsAmong (kinds.BytesForm ∷ []) (record { place = place; kind = kind }) → bytes ≡ codes "Bytes"
is_spelled place kind bytes e (inl h) =
    let same : tokens.Word bytes ≡ tokens.Word (codes "Bytes") = sym e ∙ is_keyword kind kinds.BytesForm (inl (sym (only kinds.BytesForm (kind_of kind) h))) refl in
    cc
is_spelled place kind bytes e (inr h) = cc

-- and the others are spelled in other ways
pub is_other : (place : Place) (kind : TokenKind) (bytes : List ℕ) → kind ≡ tokens.Word bytes → IsAmong other_forms (record { place = place; kind = kind }) → bytes_eq bytes (codes "Bytes") ≡ false
is_other place kind bytes e (inr h) = cc
is_other place kind bytes e (inl h) = go (bytes_eq bytes (codes "Bytes")) refl
  where
    seen : (other : List ℕ) → bytes ≡ other → has grammar other_forms (look_up keyword_kinds other) ≡ true
    seen other same = subst (λ l. has grammar other_forms (look_up keyword_kinds l) ≡ true) same (subst (λ k. has grammar other_forms (kind_of k) ≡ true) e h)

    go : (b : Bool) → bytes_eq bytes (codes "Bytes") ≡ b → bytes_eq bytes (codes "Bytes") ≡ false
    go false i = i
    go true i = absurd (true_not_false false (seen (codes "Bytes") ((bytes_eq-Decides bytes (codes "Bytes")).0 i)) refl)

-- forms whose word is `Bytes`, and others
abbrev pub short : Option Bits → ModuleTree
short = maybe_tree (λ range. between_marks (Pair (number_tree range.low) (Left (behind_mark (number_tree range.high)))))

abbrev pub long : Option Bits → ModuleTree
long = maybe_tree (λ range. between_marks (bits_tree range))

pub other_form : (word : Word) (bits : Option Bits) → bytes_eq word.bytes (codes "Bytes") ≡ false → form_tree (forms.Word word bits) ≡ Right (Pair (word_tree word) (long bits))
other_form word bits h = ap (λ b. cond b (Left (Pair (word_tree word) (short bits))) (Right (Pair (word_tree word) (long bits)))) h

pub bytes_form : (word : Word) (bits : Option Bits) → word.bytes ≡ codes "Bytes" → form_tree (forms.Word word bits) ≡ Left (Pair (word_tree word) (short bits))
bytes_form word bits h = ap (λ l. cond (bytes_eq l (codes "Bytes")) (Left (Pair (word_tree word) (short bits))) (Right (Pair (word_tree word) (long bits)))) h

abbrev pub second_tree : Option Number → ModuleTree
second_tree = maybe_tree (λ high. behind_mark (number_tree high))

pub length_form : (word : Word) (length : Number) (second : Option Number) → word.bytes ≡ codes "Bytes" → second ≡ None →
    form_tree (forms.Bytes word.place length) ≡ Left (Pair (word_tree word) (Left (between_marks (Pair (number_tree length) (second_tree second)))))
length_form word length second h e =
    ap (λ l. Left (Pair (spelled_at word.place l) (Left (between_marks (Pair (number_tree length) (Right Nothing)))))) (sym h)
    ∙ ap (λ n. Left (Pair (word_tree word) (Left (between_marks (Pair (number_tree length) (second_tree n)))))) (sym e)

pub range_form : (word : Word) (low high : Number) (second : Option Number) → word.bytes ≡ codes "Bytes" → second ≡ Some high →
    form_tree (forms.Word word (Some (record { low = low; high = high }))) ≡ Left (Pair (word_tree word) (Left (between_marks (Pair (number_tree low) (second_tree second)))))
range_form word low high second h e =
    bytes_form word (Some (record { low = low; high = high })) h
    ∙ ap (λ n. Left (Pair (word_tree word) (Left (between_marks (Pair (number_tree low) (second_tree n)))))) (sym e)
