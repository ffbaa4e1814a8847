use Rattle.std.proofs.Common.{sym, ◌∙◌, ap}
use Rattle.hilti_link.specs.declared.tables.Tables.{Tables}
use Rattle.hilti_link.specs.Linking.{tables_of}
use Rattle.hilti_bodies.specs.Blocks.{read_each}
use Rattle.hilti_bodies.proofs.Following.{behind_none, each_next, each_stops, each_read}
use Rattle.hilti_check.specs.Checking.{blocks_of}
use Rattle.hilti_check.proofs.checking.all_blocks.Goals as goal

pub loop-function-init : goal.loop-function-init
loop-function-init c =
    let read = blocks_of c.args.linked.now.modules (tables_of c.args.linked.now.modules) in
    rw c.new-all.ensures
    (ap (read_each read) (sym (c.as_slice-functions.ensures ∙ ap (λ (t : Tables). t.functions) c.tables.ensures)) ∙ behind_none _)

pub returns-in-Err : goal.returns-in-Err
returns-in-Err c =
    each_stops (blocks_of c.args.linked.now.modules (tables_of c.args.linked.now.modules)) _ c.as_slice-functions.result.now c.loop-function.function-index c.function-item.result c.loop-function.all _
    c.loop-function-test.true c.function-item.is c.in-Err.ensures c.loop-function.invariant

pub loop-function-preserved : goal.loop-function-preserved
loop-function-preserved c =
    rw c.in_ok-push-in-Ok.ensures.ok
    (each_next (blocks_of c.args.linked.now.modules (tables_of c.args.linked.now.modules)) _ c.as_slice-functions.result.now c.loop-function.function-index c.function-item.result c.loop-function.all _
    c.loop-function-test.true c.function-item.is c.in-Ok.ensures c.loop-function.invariant)

pub returns : goal.returns
returns c =
    each_read (blocks_of c.args.linked.now.modules (tables_of c.args.linked.now.modules)) _ c.as_slice-functions.result.now c.loop-function.function-index c.loop-function.all
    c.loop-function-test.false c.loop-function.invariant
