use Rattle.std.proofs.Common.{◌≡◌, ◌+◌, ◌++◌, map, drop, length}
use Rattle.hilti_scope.specs.Items.{placed, placed_from}
use Rattle.hilti_link.specs.Hooks.{announced, announced_from}
use Rattle.hilti_link.specs.Announcing.{shows}
use Rattle.hilti_link.proofs.hooks.announce.Given as goal

-- the items in front and those that are left, and the hooks of both
abbrev pub invariant-loop-file : goal.invariant-loop-file
invariant-loop-file l = record {
  counted : l.here + length (placed_from l.file (drop l.file l.module-items)) ≡ length (placed l.modules);
  found : map shows l.hooks.items ++ announced_from l.here (placed_from l.file (drop l.file l.module-items)) ≡ announced l.modules;
}
