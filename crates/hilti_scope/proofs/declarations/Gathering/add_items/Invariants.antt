use Rattle.std.proofs.Common.{ℕ, List, ◌++◌, take}
use Rattle.hilti_scope.specs.Items.{placed_in, Placed}
use Rattle.hilti_scope.specs.Gathered.{IsBehind, AreNames, KeepsNames}
use Rattle.hilti_scope.proofs.declarations.Gathering.add_items.Given as goal

abbrev pub invariant-loop-item : goal.invariant-loop-item
invariant-loop-item l = record {
  behind : (before : List Placed) (file : ℕ) → IsBehind before l.initial.self → IsBehind (before ++ placed_in file (take l.item-index l.items)) l.self;
  names : (before : List Placed) (file : ℕ) → IsBehind before l.initial.self → AreNames file before l.initial.names → AreNames file (before ++ placed_in file (take l.item-index l.items)) l.names;
  kept : KeepsNames l.initial.self l.self;
}
