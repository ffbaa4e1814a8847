use Rattle.hilti_raise.proofs.Catching.{Stands, stands_at, caught, caught_is_typed}
use Rattle.hilti_raise.proofs.raise.handler.Goals as goal

abbrev known : (c : goal.After-first_catching) → Stands c.args.program.now c.args.f c.function.result.now c.args.block c.index-as_slice-block.result
known c =
    stands_at c.args.program.now c.args.f c.function.result.now c.args.block c.index-as_slice-block.result c.as_slice.result.now c.function.ensures
    c.requires.block c.as_slice.ensures c.index-as_slice-block.is

pub returns-clause-first : goal.returns-clause-first
returns-clause-first c =
    caught c.args.program.now c.args.f c.function.result.now c.args.block c.index-as_slice-block.result (known c) c.args.exception c.as_slice-2.result.now _
    c.as_slice-2.ensures c.first_catching.ensures

pub returns-clause-typed : goal.returns-clause-typed
returns-clause-typed c =
    caught_is_typed c.args.program.now c.args.f c.function.result.now c.args.block c.index-as_slice-block.result (known c) c.args.exception c.as_slice-2.result.now
    c.first_catching.result c.as_slice-2.ensures c.first_catching.ensures
