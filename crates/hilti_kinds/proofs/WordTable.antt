-- The table of words that mean something, and looking a word up in it.
use Rattle.std.proofs.Common.{◌≡◌, ℕ, suc, ◌+◌, ◌<◌, ◌≤◌, Bool, true, false, cond, List, [], ◌∷◌, length, drop, get_or, map, sym, ◌∙◌, ap, bytes_eq, add-one, drop-cons}
use Rattle.std.proofs.lemmas.List.{drop_all}
use Rattle.hilti_kinds.specs.declared.kind.Kind.{Kind}
use Rattle.hilti_kinds.specs.declared.kind.Kind.TheVariants as kinds
use Rattle.hilti_lexer.specs.declared.token.TokenKind.{TokenKind}
use Rattle.hilti_lexer.specs.declared.token.TokenKind.TheVariants as tokens
use Rattle.hilti_kinds.specs.declared.keywords.Spelling.{Spelling}
use Rattle.hilti_kinds.specs.Kinds.{keyword_kinds, look_up, kind_of}

-- the kind of a word by rows of words and their kinds
abbrev pub by_rows : List (List ℕ × Kind) → List ℕ → Kind
by_rows [] bytes = kinds.Word
by_rows ((word, kind) ∷ rows) bytes = cond (bytes_eq word bytes) kind (by_rows rows bytes)

-- a row of the code's table
abbrev pub row : Spelling → List ℕ × Kind
row spelling = (spelling.word.now, spelling.kind)

-- a word's kind by the rows from here on
abbrev pub from_here : List Spelling → ℕ → List ℕ → Kind
from_here table i bytes = by_rows (map row (drop i table)) bytes

by_first : (first : List ℕ × Kind) (rows : List (List ℕ × Kind)) (bytes : List ℕ) (same : Bool) → bytes_eq first.0 bytes ≡ same → by_rows (first ∷ rows) bytes ≡ cond same first.1 (by_rows rows bytes)
by_first first rows bytes same e = ap (λ b. cond b first.1 (by_rows rows bytes)) e

here : (table : List Spelling) (i : ℕ) (bytes : List ℕ) (d : Spelling) (same : Bool) → i < length table → bytes_eq (get_or table i d).word.now bytes ≡ same →
    from_here table i bytes ≡ cond same (get_or table i d).kind (from_here table (i + 1) bytes)
here table i bytes d same h e =
    ap (λ t. by_rows (map row t) bytes) (drop-cons table i d h)
    ∙ (by_first (row (get_or table i d)) (map row (drop (suc i) table)) bytes same e
    ∙ ap (λ n. cond same (get_or table i d).kind (from_here table n bytes)) (sym (add-one i)))

-- the word is that of the row here
pub found : (table : List Spelling) (i : ℕ) (bytes : List ℕ) (d : Spelling) → i < length table → bytes_eq (get_or table i d).word.now bytes ≡ true → from_here table i bytes ≡ (get_or table i d).kind
found table i bytes d h e = here table i bytes d true h e

-- the word is another
pub passed : (table : List Spelling) (i : ℕ) (bytes : List ℕ) (d : Spelling) → i < length table → bytes_eq (get_or table i d).word.now bytes ≡ false → from_here table i bytes ≡ from_here table (i + 1) bytes
passed table i bytes d h e = here table i bytes d false h e

-- no row is left
pub none_left : (table : List Spelling) (i : ℕ) (bytes : List ℕ) → length table ≤ i → from_here table i bytes ≡ kinds.Word
none_left table i bytes h = ap (λ t. by_rows (map row t) bytes) (drop_all i table h)

-- the kind of a token that is a word
pub word_is : (token : TokenKind) (bytes given : List ℕ) (kind : Kind) → token ≡ tokens.Word bytes → given ≡ bytes → kind ≡ look_up keyword_kinds given → kind ≡ kind_of token
word_is token bytes given kind e same k = k ∙ (ap (look_up keyword_kinds) same ∙ ap kind_of (sym e))
