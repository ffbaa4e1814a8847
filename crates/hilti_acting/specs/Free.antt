-- Rows that name no object: their constants hold none.
use Rattle.std.specs.Prelude.{List}
use Rattle.std.specs.List.{All}
use Rattle.hilti_rows.specs.declared.row.Printed.{Printed}
use Rattle.hilti_rows.specs.declared.row.Row.{Row}
use Rattle.hilti_rows.specs.declared.row.Row.TheVariants as rows
use Rattle.hilti_rows.specs.declared.row.Source.{Source}
use Rattle.hilti_rows.specs.declared.row.StructRow.{StructRow}
use Rattle.hilti_rows.specs.declared.row.StructRow.TheVariants as structs
use Rattle.hilti_acting.specs.Owned.{IsFree}

abbrev pub AreFree : List Source → Type 0
AreFree = All IsFree

abbrev pub IsFreeStruct : StructRow → Type 0
IsFreeStruct (structs.New target n) = Unit {0}
IsFreeStruct (structs.Get target o n) = IsFree o
IsFreeStruct (structs.Set o n x) = IsFree o × IsFree x
IsFreeStruct (structs.Unset o n) = IsFree o
IsFreeStruct (structs.IsSet target o n) = IsFree o

-- each source of a row is free
abbrev pub IsFreeRow : Row → Type 0
IsFreeRow rows.Nop = Unit {0}
IsFreeRow (rows.Unary op target a) = IsFree a
IsFreeRow (rows.Binary op target a b) = IsFree a × IsFree b
IsFreeRow (rows.Select target test a b) = IsFree test × IsFree a × IsFree b
IsFreeRow (rows.IsNull target a) = IsFree a
IsFreeRow (rows.Print items) = All (λ (item : Printed). IsFree item.value) items
IsFreeRow rows.Yield = Unit {0}
IsFreeRow (rows.Call f arguments target) = AreFree arguments
IsFreeRow (rows.Bind target f arguments) = AreFree arguments
IsFreeRow (rows.Jump block) = Unit {0}
IsFreeRow (rows.IfElse test a b) = IsFree test
IsFreeRow rows.ReturnVoid = Unit {0}
IsFreeRow (rows.ReturnResult value) = IsFree value
IsFreeRow (rows.Throw e text) = IsFree text
IsFreeRow (rows.Struct row) = IsFreeStruct row
