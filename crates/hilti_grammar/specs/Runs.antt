-- Reading by one token of lookahead: what a reader of a symbol does with the tokens before it.
use Rattle.std.specs.Prelude.{◌≡◌, Bool, false, IsTrue, List, ◌∷◌}
use Rattle.hilti_grammar.specs.Grammar.{Grammar, Symbol, Symbol.One, Symbol.Empty, Symbol.◌▹◌}
use Rattle.hilti_grammar.specs.Grammar.{Symbol.◌⊕◌, Symbol.Many, Symbol.Rule, Keep, Tree}
use Rattle.hilti_grammar.specs.Grammar.{Tree.Nothing, Tree.Pair, Tree.Left, Tree.Right, has, sees}
use Rattle.hilti_grammar.specs.Grammar.{kept}
use Rattle.hilti_grammar.specs.Predictive.{Known, known}

-- how reading ends: with a tree and the tokens that are left, or with an error before the tokens
-- that are left
pub data Outcome (E P T : Type 0) : Type 0 where
  Done : Tree P T → List T → Outcome E P T
  Failed : E → List T → Outcome E P T

-- the outcome with its tree changed
abbrev pub changed : {E P T : Type 0} → (Tree P T → Tree P T) → Outcome E P T → Outcome E P T
changed f (Done tree rest) = Done (f tree) rest
changed f (Failed error rest) = Failed error rest

-- which errors refuse the tokens, as want of memory doesn't, and which of these say what they may
-- where one of these kinds was wanted and these tokens stand
pub record Faults (E K T : Type 0) : Type 0 where
  pub refuses : E → Bool
  pub explains : E → List K → List T → Bool

-- Reading a symbol may end so. An error that refuses nothing may come anywhere.
pub data Runs {K R P T E : Type 0} (g : Grammar K R P T) (of_rule : R → Known K)
    (faults : Faults E K T) : Symbol K R → List T → Outcome E P T → Type 0 where
  GivesUp : {s : Symbol K R} {ts rest : List T} {e : E} → faults.refuses e ≡ false
      → Runs g of_rule faults s ts (Failed e rest)
  Takes : {keep : Keep} {set : List K} {token : T} {rest : List T}
      → IsTrue (has g set (g.kind token))
      → Runs g of_rule faults (One keep set) (token ∷ rest) (Done (kept g keep token) rest)
  Refuses : {keep : Keep} {set : List K} {ts : List T} {e : E} → sees g set ts ≡ false
      → IsTrue (faults.explains e set ts) → Runs g of_rule faults (One keep set) ts (Failed e ts)
  Leaves : {ts : List T} → Runs g of_rule faults Empty ts (Done Nothing ts)
  FirstFails : {a b : Symbol K R} {ts rest : List T} {e : E}
      → Runs g of_rule faults a ts (Failed e rest)
      → Runs g of_rule faults (a ▹ b) ts (Failed e rest)
  Then : {a b : Symbol K R} {ts mid : List T} {x : Tree P T} {out : Outcome E P T}
      → Runs g of_rule faults a ts (Done x mid) → Runs g of_rule faults b mid out
      → Runs g of_rule faults (a ▹ b) ts (changed (Pair x) out)
  ToLeft : {a b : Symbol K R} {ts : List T} {out : Outcome E P T}
      → IsTrue (sees g (known g of_rule a).first ts) → Runs g of_rule faults a ts out
      → Runs g of_rule faults (a ⊕ b) ts (changed Left out)
  ToRight : {a b : Symbol K R} {ts : List T} {out : Outcome E P T}
      → sees g (known g of_rule a).first ts ≡ false → Runs g of_rule faults b ts out
      → Runs g of_rule faults (a ⊕ b) ts (changed Right out)
  Ends : {a : Symbol K R} {ts : List T} → sees g (known g of_rule a).first ts ≡ false
      → Runs g of_rule faults (Many a) ts (Done Nothing ts)
  NextFails : {a : Symbol K R} {ts rest : List T} {e : E}
      → IsTrue (sees g (known g of_rule a).first ts) → Runs g of_rule faults a ts (Failed e rest)
      → Runs g of_rule faults (Many a) ts (Failed e rest)
  GoesOn : {a : Symbol K R} {ts mid : List T} {x : Tree P T} {out : Outcome E P T}
      → IsTrue (sees g (known g of_rule a).first ts) → Runs g of_rule faults a ts (Done x mid)
      → Runs g of_rule faults (Many a) mid out
      → Runs g of_rule faults (Many a) ts (changed (Pair x) out)
  Follows : {r : R} {ts : List T} {out : Outcome E P T} → Runs g of_rule faults (g.body r) ts out
      → Runs g of_rule faults (Rule r) ts out
