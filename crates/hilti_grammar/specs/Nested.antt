-- Two small grammars: nested lists, which one token of lookahead reads, and a choice that it
-- doesn't.
use Rattle.std.specs.Prelude.{ℕ, [], ◌∷◌, refl}
use Rattle.hilti_grammar.specs.Grammar.{Grammar, Symbol, Symbol.One, Symbol.Empty, Symbol.◌▹◌}
use Rattle.hilti_grammar.specs.Grammar.{Symbol.◌⊕◌, Symbol.Many, Symbol.Rule, Keep.Dropped}
use Rattle.hilti_grammar.specs.Grammar.{Keep.Whole, Tree, Tree.Nothing, Tree.Leaf, Tree.Pair}
use Rattle.hilti_grammar.specs.Grammar.{Tree.Left, Tree.Right}

pub data Mark : Type 0 where
  Word : Mark
  Open : Mark
  Comma : Mark
  Close : Mark

pub data Name : Type 0 where
  Value : Name
  Items : Name

abbrev pub mark_number : Mark → ℕ
mark_number Word = 0
mark_number Open = 1
mark_number Comma = 2
mark_number Close = 3

-- a value is a word or items in brackets; items are none, or values with commas between them
abbrev pub nested_body : Name → Symbol Mark Name
nested_body Value =
    One Whole (Word ∷ []) ⊕ (One Dropped (Open ∷ []) ▹ (Rule Items ▹ One Dropped (Close ∷ [])))
nested_body Items = (Rule Value ▹ Many (One Dropped (Comma ∷ []) ▹ Rule Value)) ⊕ Empty

-- a value, where items may begin with a comma of their own
abbrev pub clashing_body : Name → Symbol Mark Name
clashing_body Value =
    One Whole (Word ∷ []) ⊕ (One Dropped (Open ∷ []) ▹ (Rule Items ▹ One Dropped (Close ∷ [])))
clashing_body Items = Many (Rule Value ▹ One Dropped (Comma ∷ [])) ▹ Rule Value

abbrev pub name_index : Name → ℕ
name_index Value = 0
name_index Items = 1

-- a grammar of these names, over marks that are tokens themselves, without places
abbrev pub grammar_of : (Name → Symbol Mark Name) → Grammar Mark Name (Unit {0}) Mark
grammar_of body = record {
  kind = λ mark. mark;
  place = λ mark. tt;
  number = mark_number;
  sample = λ mark. mark;
  body = body;
  rules = Value ∷ Items ∷ [];
  index = name_index;
  listed = elim [ Value ↦ refl | Items ↦ refl ];
  rounds = 3;
}

abbrev pub nested : Grammar Mark Name (Unit {0}) Mark
nested = grammar_of nested_body

abbrev pub clashing : Grammar Mark Name (Unit {0}) Mark
clashing = grammar_of clashing_body

-- the tree of `[w, []]`
abbrev pub nested_tree : Tree (Unit {0}) Mark
nested_tree =
    Right (Pair Nothing (Pair (Left (Pair (Left (Leaf Word))
    (Pair (Pair Nothing (Right (Pair Nothing (Pair (Right Nothing) Nothing)))) Nothing)))
    Nothing))
