-- What a grammar derives: whole lists of tokens, each with its tree.
use Rattle.std.specs.Prelude.{IsTrue, List, [], ◌∷◌, ◌++◌}
use Rattle.hilti_grammar.specs.Grammar.{Grammar, Symbol, Symbol.One, Symbol.Empty, Symbol.◌▹◌}
use Rattle.hilti_grammar.specs.Grammar.{Symbol.◌⊕◌, Symbol.Many, Symbol.Rule, Keep, Tree}
use Rattle.hilti_grammar.specs.Grammar.{Tree.Nothing, Tree.Pair, Tree.Left, Tree.Right, has, kept}

-- the symbol derives this list of tokens with this tree
pub data Derives {K R P T : Type 0} (g : Grammar K R P T) : Symbol K R → List T → Tree P T
    → Type 0 where
  AToken : {keep : Keep} {set : List K} {token : T} → IsTrue (has g set (g.kind token))
      → Derives g (One keep set) (token ∷ []) (kept g keep token)
  NoToken : Derives g Empty [] Nothing
  Both : {a b : Symbol K R} {us vs : List T} {x y : Tree P T} → Derives g a us x → Derives g b vs y
      → Derives g (a ▹ b) (us ++ vs) (Pair x y)
  TheLeft : {a b : Symbol K R} {us : List T} {x : Tree P T} → Derives g a us x
      → Derives g (a ⊕ b) us (Left x)
  TheRight : {a b : Symbol K R} {us : List T} {x : Tree P T} → Derives g b us x
      → Derives g (a ⊕ b) us (Right x)
  NoMore : {a : Symbol K R} → Derives g (Many a) [] Nothing
  OneMore : {a : Symbol K R} {us vs : List T} {x y : Tree P T} → Derives g a us x
      → Derives g (Many a) vs y → Derives g (Many a) (us ++ vs) (Pair x y)
  ByRule : {r : R} {us : List T} {x : Tree P T} → Derives g (g.body r) us x
      → Derives g (Rule r) us x

-- some list of the symbol begins with these tokens
abbrev pub CanBegin : {K R P T : Type 0} → Grammar K R P T → Symbol K R → List T → Type 0
CanBegin {P} {T} g s used = (more : List T) × (tree : Tree P T) × Derives g s (used ++ more) tree
