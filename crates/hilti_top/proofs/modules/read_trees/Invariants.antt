use Rattle.std.proofs.Common.{◌≡◌, length, take}
use Rattle.hilti_top.specs.ModuleTexts.{AreModules}
use Rattle.hilti_top.proofs.modules.read_trees.Given as goal

-- the texts so far are the modules
abbrev pub invariant-loop-text : goal.invariant-loop-text
invariant-loop-text l = record {
  are : AreModules (take l.text-index l.text-items) l.modules;
  count : length l.modules ≡ l.text-index;
}
