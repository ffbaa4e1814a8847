-- An object that is lent for writing.
use Rattle.std.specs.Prelude.{Option}
use Rattle.std.specs.Borrow.{Lends, Fml, MutBor}
use Rattle.std.specs.contracts.option.Option.{the_row as OptionOf}
use Rattle.hilti_heap.specs.declared.object.Object.{Object}
use Rattle.hilti_heap.specs.declared.cells.Cell.{Cell}
use Rattle.hilti_heap.specs.contracts.object.Object.{the_row as object_row}
use Rattle.hilti_heap.specs.contracts.cells.Cell.{the_row as cell_row}
use Rattle.hilti_heap.specs.Changed.{with_in}

-- the place ends with the last object written
abbrev pub LendsIn : MutBor (Option Cell) → MutBor Object → Fml
LendsIn place r = Lends (OptionOf cell_row) object_row place r (with_in place.now)
