-- What reading by one token of lookahead means for the lists that a grammar derives.
use Rattle.std.specs.Prelude.{◌≡◌, IsTrue, List, [], ◌∷◌, ◌++◌}
use Rattle.hilti_grammar.specs.Grammar.{Grammar, Symbol, Tree, has}
use Rattle.hilti_grammar.specs.Derives.{Derives, CanBegin}
use Rattle.hilti_grammar.specs.Predictive.{Known, told, table, is_predictive}
use Rattle.hilti_grammar.specs.Runs.{Faults, Outcome, Outcome.Done, Outcome.Failed, Runs}

-- No list of the symbol begins with the tokens used and then the next of those left. The end counts
-- as a token: where none is left, the tokens used are no list of the symbol.
abbrev pub GoesNoFurther : {K R P T : Type 0} → Grammar K R P T → Symbol K R → List T → List T
    → Type 0
GoesNoFurther {P} g s used [] = (tree : Tree P _) → Derives g s used tree → ⊥
GoesNoFurther g s used (next ∷ rest) = CanBegin g s (used ++ next ∷ []) → ⊥

-- where a list is cut: some list of the symbol begins with the front, and none with the front and
-- the next token
pub record IsRefusedAt {K R P T : Type 0} (g : Grammar K R P T) (s : Symbol K R)
    (used left : List T) : Type 0 where
  pub viable : CanBegin g s used
  pub ends : GoesNoFurther g s used left

-- A tree was read: the tokens used derive it and no other, and no list of the symbol begins with
-- them and the next.
pub record IsReadExactly {K R P T : Type 0} (g : Grammar K R P T) (s : Symbol K R) (ts : List T)
    (tree : Tree P T) (rest : List T) : Type 0 where
  pub used : List T
  pub split : ts ≡ used ++ rest
  pub derives : Derives g s used tree
  pub only : (other : Tree P T) → Derives g s used other → other ≡ tree
  pub longest : (next : T) (more : List T) → rest ≡ next ∷ more → CanBegin g s (used ++ next ∷ [])
      → ⊥

-- Reading was refused: the tokens are refused there. Some kinds were wanted that the error
-- explains, and some list of the symbol goes on with each token of such a kind.
pub record IsRefusedExactly {K R P T E : Type 0} (g : Grammar K R P T) (faults : Faults E K T)
    (s : Symbol K R) (ts : List T) (e : E) (left : List T) : Type 0 where
  pub used : List T
  pub split : ts ≡ used ++ left
  pub refused : IsRefusedAt g s used left
  pub wanted : List K
  pub explained : IsTrue (faults.explains e wanted left)
  pub allowed : (token : T) → IsTrue (has g wanted (g.kind token))
      → CanBegin g s (used ++ token ∷ [])

-- how reading ends, told by the derivations alone
abbrev pub EndsExactly : {K R P T E : Type 0} → Grammar K R P T → Faults E K T → Symbol K R → List T
    → Outcome E P T → Type 0
EndsExactly g faults s ts (Done tree rest) = IsReadExactly g s ts tree rest
EndsExactly g faults s ts (Failed e left) =
    IsTrue (faults.refuses e) → IsRefusedExactly g faults s ts e left

-- what is known of the rules of a grammar
abbrev pub known_rules : {K R P T : Type 0} → Grammar K R P T → R → Known K
known_rules g = told g (table g g.rounds)

-- reading a rule of a predictive grammar ends exactly
abbrev pub ReadsExactly : {K R P T E : Type 0} → Grammar K R P T → Faults E K T → Type 0
ReadsExactly {R} {P} {T} {E} g faults =
    IsTrue (is_predictive g) → (r : R) (ts : List T) (out : Outcome E P T) →
    Runs g (known_rules g) faults (Symbol.Rule r) ts out
    → EndsExactly g faults (Symbol.Rule r) ts out

-- reading all tokens of a text by one symbol: read where none is left, and else refused
abbrev pub EndsWhole : {K R P T E : Type 0} → Grammar K R P T → Faults E K T → Symbol K R → List T
    → Outcome E P T → Type 0
EndsWhole g faults s ts (Done tree []) =
    Derives g s ts tree × ((other : Tree _ _) → Derives g s ts other → other ≡ tree)
EndsWhole {T} g faults s ts (Done tree (next ∷ rest)) =
    (used : List T) × (ts ≡ used ++ next ∷ rest) × IsRefusedAt g s used (next ∷ rest)
EndsWhole g faults s ts (Failed e left) =
    IsTrue (faults.refuses e) → IsRefusedExactly g faults s ts e left

-- reading all tokens by a rule of a predictive grammar ends so
abbrev pub ReadsWhole : {K R P T E : Type 0} → Grammar K R P T → Faults E K T → Type 0
ReadsWhole {R} {P} {T} {E} g faults =
    IsTrue (is_predictive g) → (r : R) (ts : List T) (out : Outcome E P T) →
    Runs g (known_rules g) faults (Symbol.Rule r) ts out → EndsWhole g faults (Symbol.Rule r) ts out

-- The place of a refusal is the first: each front of the tokens used begins some list of the
-- symbol, no longer front of all tokens does, and all tokens are no list of it.
pub record IsFirstRefusal {K R P T : Type 0} (g : Grammar K R P T) (s : Symbol K R)
    (used left : List T) : Type 0 where
  pub fronts : (us vs : List T) → us ++ vs ≡ used → CanBegin g s us
  pub behind : (next : T) (us vs : List T) → (next ∷ us) ++ vs ≡ left
      → CanBegin g s (used ++ next ∷ us) → ⊥
  pub whole : (tree : Tree P T) → Derives g s (used ++ left) tree → ⊥

-- in every grammar and for every symbol
abbrev pub RefusesFirst : {K R P T : Type 0} → Grammar K R P T → Type 0
RefusesFirst {K} {R} {T} g =
    (s : Symbol K R) (used left : List T) → IsRefusedAt g s used left → IsFirstRefusal g s used left

-- a list of tokens has one tree at most, by each rule of a predictive grammar
abbrev pub HasOneTree : {K R P T : Type 0} → Grammar K R P T → Type 0
HasOneTree {R} {P} {T} g = IsTrue (is_predictive g) → (r : R) (ts : List T) (x y : Tree P T)
    → Derives g (Symbol.Rule r) ts x → Derives g (Symbol.Rule r) ts y → x ≡ y
