-- What the loops of readers have read so far.
use Rattle.std.specs.Prelude.{List, [], ◌∷◌, map}
use Rattle.hilti_grammar.specs.Grammar.{Symbol}
use Rattle.hilti_grammar.specs.Reads.{Gathers, Repeats}
use Rattle.hilti_kinds.specs.declared.kind.Kind.{Kind}
use Rattle.hilti_kinds.specs.declared.piece.Piece.{Piece}
use Rattle.hilti_reader.specs.Modules.{RuleName, grammar, told_rules, comma}
use Rattle.hilti_reader.specs.Readers.{stops_of}
use Rattle.hilti_reader.specs.Spelled.{ModuleTree}

-- some values were read with commas between them: whatever the rest gives, the whole gives
abbrev pub GathersAll : {V : Type 0} → Symbol Kind RuleName → (V → ModuleTree) → List Piece →
    List V → List Piece → Type 0
GathersAll item tree before [] now = ⊥
GathersAll item tree before (first ∷ others) now =
    Gathers grammar told_rules stops_of item comma before (tree first) (map tree others) now

-- any number of values were read: whatever the rest gives, the whole gives
abbrev pub RepeatsAll : {V : Type 0} → Symbol Kind RuleName → (V → ModuleTree) → List Piece →
    List V → List Piece → Type 0
RepeatsAll item tree before values now =
    Repeats grammar told_rules stops_of item before (map tree values) now
