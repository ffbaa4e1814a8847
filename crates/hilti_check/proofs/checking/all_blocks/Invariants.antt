use Rattle.std.proofs.Common.{◌≡◌, drop}
use Rattle.hilti_link.specs.Linking.{tables_of}
use Rattle.hilti_bodies.specs.Blocks.{read_each}
use Rattle.hilti_bodies.proofs.Following.{behind}
use Rattle.hilti_check.specs.Checking as spec
use Rattle.hilti_check.proofs.checking.all_blocks.Given as goal

-- the blocks so far, and those of what is left, are all
abbrev pub invariant-loop-function : goal.invariant-loop-function
invariant-loop-function l =
    let tables = tables_of l.linked.modules in
    spec.all_blocks l.linked.modules tables
    ≡ behind l.all (read_each (spec.blocks_of l.linked.modules tables) (drop l.function-index l.functions))
