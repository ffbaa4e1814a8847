use Rattle.std.proofs.Common.{◌∙◌, ap, arith, map, drop, ◌++◌, ◌+◌, length}
use Rattle.hilti_scope.specs.Items.{placed, placed_from}
use Rattle.hilti_link.specs.Hooks.{announced, announced_from}
use Rattle.hilti_link.specs.Announcing.{shows}
use Rattle.hilti_link.proofs.Announced.{counted_left, module_more, modules_end}
use Rattle.hilti_link.proofs.hooks.announce.Goals as goal

pub announce_module-requires : goal.announce_module-requires
announce_module-requires c =
    let few = c.requires in
    let counted = counted_left c.as_slice-module-items.result.now c.loop-file.file c.module-item.result c.loop-file-test.true c.module-item.is c.loop-file.here (length (placed c.args.modules.now)) c.loop-file.invariant.counted in
    omega (arith, few, counted)

pub overflow_add-here : goal.overflow_add-here
overflow_add-here c =
    let few = c.requires in
    let counted = counted_left c.as_slice-module-items.result.now c.loop-file.file c.module-item.result c.loop-file-test.true c.module-item.is c.loop-file.here (length (placed c.args.modules.now)) c.loop-file.invariant.counted in
    omega (arith, few, counted, c.len-here.ensures)

pub loop-file-preserved : goal.loop-file-preserved
loop-file-preserved c =
    let modules = c.as_slice-module-items.result.now in
    let counted = counted_left modules c.loop-file.file c.module-item.result c.loop-file-test.true c.module-item.is c.loop-file.here (length (placed c.args.modules.now)) c.loop-file.invariant.counted in
    let new = map shows c.announce_module.new.hooks.items in
    record {
      counted = omega (arith, counted, c.len-here.ensures);
      found =
          ap (λ count. new ++ announced_from (c.loop-file.here + count) (placed_from (c.loop-file.file + 1) (drop (c.loop-file.file + 1) modules))) c.len-here.ensures
          ∙ module_more modules c.loop-file.file c.module-item.result c.loop-file-test.true c.module-item.is (announced c.args.modules.now) (map shows c.loop-file.hooks.items) new c.loop-file.here c.loop-file.invariant.found c.in_ok-announce_module.ensures;
    }

pub returns : goal.returns
returns c =
    modules_end c.as_slice-module-items.result.now c.loop-file.file c.loop-file.here (announced c.args.modules.now) (map shows c.loop-file.hooks.items) c.loop-file-test.false c.loop-file.invariant.found
