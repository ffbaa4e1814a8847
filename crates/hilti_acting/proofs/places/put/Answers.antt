use Rattle.hilti_heap.specs.Held.{held}
use Rattle.hilti_acting.proofs.Counts.{put_covers, put_fits, fewer_released}
use Rattle.hilti_acting.proofs.places.put.Goals as goal

pub release_value-requires : goal.release_value-requires
release_value-requires c =
    put_covers c.args.stack.now c.exchange-old.new.stack c.args.memory.now.globals.items
    c.exchange-old.new.globals.items c.args.target c.exchange-old.result c.args.value
    c.args.memory.now.heap c.exchange-old.ensures.stack c.exchange-old.ensures.globals
    c.exchange-old.ensures.before c.requires.fits

pub returns-clause-fewer : goal.returns-clause-fewer
returns-clause-fewer c =
    fewer_released c.args.memory.now.heap c.release_value.new.self
    (λ s. held s c.exchange-old.result) c.release_value.ensures

pub returns-clause-fits : goal.returns-clause-fits
returns-clause-fits c =
    put_fits c.args.stack.now c.exchange-old.new.stack c.args.memory.now.globals.items
    c.exchange-old.new.globals.items c.args.target c.exchange-old.result c.args.value
    c.args.memory.now.heap c.exchange-old.ensures.stack c.exchange-old.ensures.globals
    c.exchange-old.ensures.before c.requires.fits c.release_value.new.self
    c.release_value.ensures
