-- The table of instructions: how each is written, and its row.
use Rattle.std.specs.Prelude.{ℕ, List, [], ◌∷◌, codes}
use Rattle.hilti_base.specs.declared.refusal.Raise.{Raise}
use Rattle.hilti_types.specs.declared.op.Op.{Op}
use Rattle.hilti_types.specs.declared.op.Op.TheVariants as ops
use Rattle.hilti_table.specs.declared.row.Body.TheVariants as bodies
use Rattle.hilti_table.specs.declared.row.Callee.TheVariants as callees
use Rattle.hilti_table.specs.declared.row.Family.TheVariants as families
use Rattle.hilti_table.specs.declared.row.Flow.{Flow}
use Rattle.hilti_table.specs.declared.row.Flow.TheVariants as flows
use Rattle.hilti_table.specs.declared.row.Gives.{Gives}
use Rattle.hilti_table.specs.declared.row.Gives.TheVariants as gives
use Rattle.hilti_table.specs.declared.row.Kind.{Kind}
use Rattle.hilti_table.specs.declared.row.Kind.TheVariants.{Fixed, Own, Sized, Part, Same, Returned}
use Rattle.hilti_table.specs.declared.row.Kind.TheVariants.{Function, Hook, Label, Exception}
use Rattle.hilti_table.specs.declared.row.Kind.TheVariants.{Overlay, New, Mode, Index, Field}
use Rattle.hilti_table.specs.declared.row.Kind.TheVariants.{OverlayField, Arguments, Sent}
use Rattle.hilti_table.specs.declared.row.Kind.TheVariants.{Parts, Rule, Query}
use Rattle.hilti_table.specs.declared.row.Part.TheVariants as parts
use Rattle.hilti_table.specs.declared.row.Plain.TheVariants as plain
use Rattle.hilti_table.specs.declared.row.Raises.{Raises}
use Rattle.hilti_table.specs.declared.row.Raises.TheVariants as raises
use Rattle.hilti_table.specs.declared.row.Row.{Row}
use Rattle.hilti_table.specs.declared.row.Takes.{Takes}
use Rattle.hilti_table.specs.declared.row.Takes.TheVariants as takes
use Rattle.hilti_table.specs.declared.row.Test.TheVariants as tests

-- a line of the table
pub record Line : Type 0 where
  pub mnemonic : List ℕ
  pub row : Row

-- a line of an instruction that goes on as the flow says
abbrev pub line_to : Flow → List ℕ → Takes → Gives → Raises → Line
line_to flow mnemonic takes gives raises = record {
  mnemonic = mnemonic;
  row = record { takes = takes; gives = gives; raises = raises; flow = flow };
}

-- a line of an instruction that the next one follows
abbrev pub line : List ℕ → Takes → Gives → Raises → Line
line = line_to flows.Next

-- kinds of operands, by the names of their types
abbrev pub bool : Kind
bool = Fixed plain.Bool

abbrev pub text : Kind
text = Fixed plain.Text

abbrev pub bytes : Kind
bytes = Fixed plain.Bytes

abbrev pub addr : Kind
addr = Fixed plain.Addr

abbrev pub net : Kind
net = Fixed plain.Net

abbrev pub port : Kind
port = Fixed plain.Port

abbrev pub time : Kind
time = Fixed plain.Time

abbrev pub span : Kind
span = Fixed plain.Span

abbrev pub callable : Kind
callable = Fixed plain.Callable

abbrev pub int8 : Kind
int8 = Fixed plain.Int8

abbrev pub int16 : Kind
int16 = Fixed plain.Int16

abbrev pub int64 : Kind
int64 = Fixed plain.Int64

abbrev pub timer : Kind
timer = Fixed plain.Timer

abbrev pub manager : Kind
manager = Fixed plain.Manager

abbrev pub a_struct : Kind
a_struct = Own (tests.Object families.Struct)

abbrev pub a_list : Kind
a_list = Own (tests.Object families.List)

abbrev pub a_vector : Kind
a_vector = Own (tests.Object families.Vector)

abbrev pub a_set : Kind
a_set = Own (tests.Object families.Set)

abbrev pub a_map : Kind
a_map = Own (tests.Object families.Map)

abbrev pub a_classifier : Kind
a_classifier = Own (tests.Object families.Classifier)

abbrev pub a_container : Kind
a_container = Own (tests.Object families.Container)

abbrev pub any_value : Kind
any_value = Own tests.Any

abbrev pub key_value : Kind
key_value = Own tests.Key

abbrev pub sendable_value : Kind
sendable_value = Own tests.Sendable

abbrev pub nullable_value : Kind
nullable_value = Own tests.Nullable

abbrev pub int_value : Kind
int_value = Own tests.Int

abbrev pub tuple_value : Kind
tuple_value = Own tests.Tuple

abbrev pub an_iterator : Kind
an_iterator = Own tests.Iterator

abbrev pub first_part : Kind
first_part = Part parts.First

abbrev pub second_part : Kind
second_part = Part parts.Second

abbrev pub any_function : Kind
any_function = Function callees.Any

abbrev pub void_function : Kind
void_function = Function callees.Void

-- exceptions
abbrev pub value_error : Raise
value_error = Raise.ValueError

abbrev pub index_error : Raise
index_error = Raise.IndexError

abbrev pub division_by_zero : Raise
division_by_zero = Raise.DivisionByZero

abbrev pub null_reference : Raise
null_reference = Raise.NullReference

abbrev pub unset_field : Raise
unset_field = Raise.UnsetField

abbrev pub stale_iterator : Raise
stale_iterator = Raise.StaleIterator

-- the table
abbrev pub line_of : Op → Line
line_of ops.Nop = line (codes "nop") takes.Nothing gives.Nothing raises.Nothing
line_of ops.Assign = line (codes "assign") (takes.One any_value) gives.Same raises.Nothing
line_of ops.Select =
    line (codes "select") (takes.Three bool any_value Same) gives.Same raises.Nothing
line_of ops.Equal =
    line (codes "equal") (takes.Two key_value Same) (gives.Fixed plain.Bool) raises.Nothing
line_of ops.Less =
    line (codes "less") (takes.Two key_value Same) (gives.Fixed plain.Bool) raises.Nothing
line_of ops.Hash =
    line (codes "hash") (takes.One key_value) (gives.Fixed plain.Int64) raises.Nothing
line_of ops.Print =
    line (codes "print") (takes.UpToEight sendable_value) gives.Nothing (raises.One value_error)
line_of ops.Yield = line (codes "yield") takes.Nothing gives.Nothing raises.Nothing
line_of ops.Call =
    line_to flows.Calls (codes "call") (takes.Two any_function Arguments) gives.Called
    raises.Nothing
line_of ops.CallableBind =
    line (codes "callable.bind") (takes.Two void_function Arguments) (gives.Fixed plain.Callable)
    raises.Nothing
line_of ops.CallableCall =
    line_to flows.Calls (codes "callable.call") (takes.One callable) gives.Nothing
    (raises.One null_reference)
line_of ops.HookRun =
    line_to flows.Calls (codes "hook.run") (takes.Two Hook Arguments) gives.Nothing raises.Nothing
line_of ops.HookStop =
    line_to (flows.Leaves bodies.Hook) (codes "hook.stop") takes.Nothing gives.Nothing
    raises.Nothing
line_of ops.ThreadSchedule =
    line (codes "thread.schedule") (takes.Three int64 void_function Sent) gives.Nothing
    (raises.One value_error)
line_of ops.ThreadId =
    line (codes "thread.id") takes.Nothing (gives.Fixed plain.Int64) raises.Nothing
line_of ops.Jump = line_to flows.Jumps (codes "jump") (takes.One Label) gives.Nothing raises.Nothing
line_of ops.IfElse =
    line_to flows.Jumps (codes "if.else") (takes.Three bool Label Label) gives.Nothing
    raises.Nothing
line_of ops.ReturnVoid =
    line_to (flows.Leaves bodies.Void) (codes "return.void") takes.Nothing gives.Nothing
    raises.Nothing
line_of ops.ReturnResult =
    line_to (flows.Leaves bodies.Result) (codes "return.result") (takes.One Returned) gives.Nothing
    raises.Nothing
line_of ops.ExceptionThrow =
    line_to flows.Throws (codes "exception.throw") (takes.Two Exception text) gives.Nothing
    raises.Nothing
line_of ops.New = line (codes "new") (takes.One New) gives.Same raises.Nothing
line_of ops.RefIsNull =
    line (codes "ref.is_null") (takes.One nullable_value) (gives.Fixed plain.Bool) raises.Nothing
line_of ops.BoolAnd =
    line (codes "bool.and") (takes.Two bool bool) (gives.Fixed plain.Bool) raises.Nothing
line_of ops.BoolOr =
    line (codes "bool.or") (takes.Two bool bool) (gives.Fixed plain.Bool) raises.Nothing
line_of ops.BoolNot =
    line (codes "bool.not") (takes.One bool) (gives.Fixed plain.Bool) raises.Nothing
line_of ops.IntAdd = line (codes "int.add") (takes.Two Sized Sized) gives.Sized raises.Nothing
line_of ops.IntSub = line (codes "int.sub") (takes.Two Sized Sized) gives.Sized raises.Nothing
line_of ops.IntMul = line (codes "int.mul") (takes.Two Sized Sized) gives.Sized raises.Nothing
line_of ops.IntDiv =
    line (codes "int.div") (takes.Two Sized Sized) gives.Sized (raises.One division_by_zero)
line_of ops.IntMod =
    line (codes "int.mod") (takes.Two Sized Sized) gives.Sized (raises.One division_by_zero)
line_of ops.IntSdiv =
    line (codes "int.sdiv") (takes.Two Sized Sized) gives.Sized (raises.One division_by_zero)
line_of ops.IntSmod =
    line (codes "int.smod") (takes.Two Sized Sized) gives.Sized (raises.One division_by_zero)
line_of ops.IntAnd = line (codes "int.and") (takes.Two Sized Sized) gives.Sized raises.Nothing
line_of ops.IntOr = line (codes "int.or") (takes.Two Sized Sized) gives.Sized raises.Nothing
line_of ops.IntXor = line (codes "int.xor") (takes.Two Sized Sized) gives.Sized raises.Nothing
line_of ops.IntShl = line (codes "int.shl") (takes.Two Sized Sized) gives.Sized raises.Nothing
line_of ops.IntShr = line (codes "int.shr") (takes.Two Sized Sized) gives.Sized raises.Nothing
line_of ops.IntSshr = line (codes "int.sshr") (takes.Two Sized Sized) gives.Sized raises.Nothing
line_of ops.IntLt =
    line (codes "int.lt") (takes.Two Sized Sized) (gives.Fixed plain.Bool) raises.Nothing
line_of ops.IntGt =
    line (codes "int.gt") (takes.Two Sized Sized) (gives.Fixed plain.Bool) raises.Nothing
line_of ops.IntLeq =
    line (codes "int.leq") (takes.Two Sized Sized) (gives.Fixed plain.Bool) raises.Nothing
line_of ops.IntGeq =
    line (codes "int.geq") (takes.Two Sized Sized) (gives.Fixed plain.Bool) raises.Nothing
line_of ops.IntSlt =
    line (codes "int.slt") (takes.Two Sized Sized) (gives.Fixed plain.Bool) raises.Nothing
line_of ops.IntSgt =
    line (codes "int.sgt") (takes.Two Sized Sized) (gives.Fixed plain.Bool) raises.Nothing
line_of ops.IntAs = line (codes "int.as") (takes.One int_value) gives.AnyInt raises.Nothing
line_of ops.IntAddExact =
    line (codes "int.add") (takes.Two Sized Sized) gives.Sized (raises.One value_error)
line_of ops.IntSubExact =
    line (codes "int.sub") (takes.Two Sized Sized) gives.Sized (raises.One value_error)
line_of ops.IntMulExact =
    line (codes "int.mul") (takes.Two Sized Sized) gives.Sized (raises.One value_error)
line_of ops.IntShlExact =
    line (codes "int.shl") (takes.Two Sized Sized) gives.Sized (raises.One value_error)
line_of ops.IntSdivExact =
    line (codes "int.sdiv") (takes.Two Sized Sized) gives.Sized
    (raises.Two division_by_zero value_error)
line_of ops.IntAsExact =
    line (codes "int.as") (takes.One int_value) gives.AnyInt (raises.One value_error)
line_of ops.BytesLength =
    line (codes "bytes.length") (takes.One bytes) (gives.Fixed plain.Int64) raises.Nothing
line_of ops.BytesSub =
    line (codes "bytes.sub") (takes.Three bytes int64 int64) (gives.Fixed plain.Bytes)
    (raises.One value_error)
line_of ops.BytesJoin =
    line (codes "bytes.join") (takes.Two bytes bytes) (gives.Fixed plain.Bytes)
    (raises.One value_error)
line_of ops.BytesFind =
    line (codes "bytes.find") (takes.Two bytes bytes) (gives.Fixed plain.Int64)
    (raises.One index_error)
line_of ops.BytesStarts =
    line (codes "bytes.starts") (takes.Two bytes bytes) (gives.Fixed plain.Bool) raises.Nothing
line_of ops.BytesByte =
    line (codes "bytes.byte") (takes.Two bytes int64) (gives.Fixed plain.Int8)
    (raises.One index_error)
line_of ops.BytesToInt =
    line (codes "bytes.to_int") (takes.Two bytes int8) (gives.Fixed plain.Int64)
    (raises.One value_error)
line_of ops.BytesToUintBig =
    line (codes "bytes.to_uint_big") (takes.One bytes) (gives.Fixed plain.Int64)
    (raises.One value_error)
line_of ops.BytesToUintLittle =
    line (codes "bytes.to_uint_little") (takes.One bytes) (gives.Fixed plain.Int64)
    (raises.One value_error)
line_of ops.AddrMask =
    line (codes "addr.mask") (takes.Two addr int8) (gives.Fixed plain.Addr) (raises.One value_error)
line_of ops.NetMake =
    line (codes "net.make") (takes.Two addr int8) (gives.Fixed plain.Net) (raises.One value_error)
line_of ops.NetAddr =
    line (codes "net.addr") (takes.One net) (gives.Fixed plain.Addr) raises.Nothing
line_of ops.NetLength =
    line (codes "net.length") (takes.One net) (gives.Fixed plain.Int8) raises.Nothing
line_of ops.NetContains =
    line (codes "net.contains") (takes.Two net addr) (gives.Fixed plain.Bool) raises.Nothing
line_of ops.PortTcp =
    line (codes "port.tcp") (takes.One int16) (gives.Fixed plain.Port) raises.Nothing
line_of ops.PortUdp =
    line (codes "port.udp") (takes.One int16) (gives.Fixed plain.Port) raises.Nothing
line_of ops.PortNumber =
    line (codes "port.number") (takes.One port) (gives.Fixed plain.Int16) raises.Nothing
line_of ops.PortIsTcp =
    line (codes "port.is_tcp") (takes.One port) (gives.Fixed plain.Bool) raises.Nothing
line_of ops.TimeAdd =
    line (codes "time.add") (takes.Two time span) (gives.Fixed plain.Time) (raises.One value_error)
line_of ops.TimeSub =
    line (codes "time.sub") (takes.Two time span) (gives.Fixed plain.Time) (raises.One value_error)
line_of ops.TimeDiff =
    line (codes "time.diff") (takes.Two time time) (gives.Fixed plain.Span) (raises.One value_error)
line_of ops.IntervalAdd =
    line (codes "interval.add") (takes.Two span span) (gives.Fixed plain.Span)
    (raises.One value_error)
line_of ops.IntervalSub =
    line (codes "interval.sub") (takes.Two span span) (gives.Fixed plain.Span)
    (raises.One value_error)
line_of ops.IntervalMul =
    line (codes "interval.mul") (takes.Two span int64) (gives.Fixed plain.Span)
    (raises.One value_error)
line_of ops.IntervalMake =
    line (codes "interval.make") (takes.One int64) (gives.Fixed plain.Span) raises.Nothing
line_of ops.TimeMake =
    line (codes "time.make") (takes.One int64) (gives.Fixed plain.Time) raises.Nothing
line_of ops.IntervalNanos =
    line (codes "interval.nanos") (takes.One span) (gives.Fixed plain.Int64) raises.Nothing
line_of ops.TimeNanos =
    line (codes "time.nanos") (takes.One time) (gives.Fixed plain.Int64) raises.Nothing
line_of ops.TupleMake = line (codes "tuple.make") (takes.One Parts) gives.Same raises.Nothing
line_of ops.TupleGet =
    line (codes "tuple.get") (takes.Two tuple_value Index) gives.Same raises.Nothing
line_of ops.StructGet =
    line (codes "struct.get") (takes.Two a_struct Field) gives.Same
    (raises.Two null_reference unset_field)
line_of ops.StructSet =
    line (codes "struct.set") (takes.Three a_struct Field Same) gives.Nothing
    (raises.One null_reference)
line_of ops.StructUnset =
    line (codes "struct.unset") (takes.Two a_struct Field) gives.Nothing (raises.One null_reference)
line_of ops.StructIsSet =
    line (codes "struct.is_set") (takes.Two a_struct Field) (gives.Fixed plain.Bool)
    (raises.One null_reference)
line_of ops.ListAppend =
    line (codes "list.append") (takes.Two a_list first_part) gives.Nothing
    (raises.One null_reference)
line_of ops.ListPushFront =
    line (codes "list.push_front") (takes.Two a_list first_part) gives.Nothing
    (raises.One null_reference)
line_of ops.ListPopFront =
    line (codes "list.pop_front") (takes.One a_list) gives.Popped
    (raises.Two null_reference index_error)
line_of ops.ListPopBack =
    line (codes "list.pop_back") (takes.One a_list) gives.Popped
    (raises.Two null_reference index_error)
line_of ops.ListFront =
    line (codes "list.front") (takes.One a_list) (gives.Part parts.First)
    (raises.Two null_reference index_error)
line_of ops.ListBack =
    line (codes "list.back") (takes.One a_list) (gives.Part parts.First)
    (raises.Two null_reference index_error)
line_of ops.ListLength =
    line (codes "list.length") (takes.One a_list) (gives.Fixed plain.Int64)
    (raises.One null_reference)
line_of ops.VectorLength =
    line (codes "vector.length") (takes.One a_vector) (gives.Fixed plain.Int64)
    (raises.One null_reference)
line_of ops.SetSize =
    line (codes "set.size") (takes.One a_set) (gives.Fixed plain.Int64) (raises.One null_reference)
line_of ops.MapSize =
    line (codes "map.size") (takes.One a_map) (gives.Fixed plain.Int64) (raises.One null_reference)
line_of ops.ListClear =
    line (codes "list.clear") (takes.One a_list) gives.Nothing (raises.One null_reference)
line_of ops.SetClear =
    line (codes "set.clear") (takes.One a_set) gives.Nothing (raises.One null_reference)
line_of ops.MapClear =
    line (codes "map.clear") (takes.One a_map) gives.Nothing (raises.One null_reference)
line_of ops.VectorPush =
    line (codes "vector.push") (takes.Two a_vector first_part) gives.Nothing
    (raises.One null_reference)
line_of ops.VectorTruncate =
    line (codes "vector.truncate") (takes.Two a_vector int64) gives.Nothing
    (raises.One null_reference)
line_of ops.VectorGet =
    line (codes "vector.get") (takes.Two a_vector int64) (gives.Part parts.First)
    (raises.Two null_reference index_error)
line_of ops.VectorSet =
    line (codes "vector.set") (takes.Three a_vector int64 first_part) gives.Nothing
    (raises.Two null_reference index_error)
line_of ops.SetInsert =
    line (codes "set.insert") (takes.Two a_set first_part) gives.Nothing
    (raises.Two null_reference value_error)
line_of ops.SetExists =
    line (codes "set.exists") (takes.Two a_set first_part) (gives.Fixed plain.Bool)
    (raises.Two null_reference value_error)
line_of ops.MapExists =
    line (codes "map.exists") (takes.Two a_map first_part) (gives.Fixed plain.Bool)
    (raises.Two null_reference value_error)
line_of ops.SetRemove =
    line (codes "set.remove") (takes.Two a_set first_part) gives.Nothing (raises.One null_reference)
line_of ops.MapRemove =
    line (codes "map.remove") (takes.Two a_map first_part) gives.Nothing (raises.One null_reference)
line_of ops.MapInsert =
    line (codes "map.insert") (takes.Three a_map first_part second_part) gives.Nothing
    (raises.Two null_reference value_error)
line_of ops.MapGet =
    line (codes "map.get") (takes.Two a_map first_part) (gives.Part parts.Second)
    (raises.Three null_reference index_error value_error)
line_of ops.MapGetDefault =
    line (codes "map.get_default") (takes.Three a_map first_part second_part)
    (gives.Part parts.Second) (raises.Two null_reference value_error)
line_of ops.SetTimeout =
    line (codes "set.timeout") (takes.Four a_set Mode span manager) gives.Nothing
    (raises.Two null_reference value_error)
line_of ops.MapTimeout =
    line (codes "map.timeout") (takes.Four a_map Mode span manager) gives.Nothing
    (raises.Two null_reference value_error)
line_of ops.IterBegin =
    line (codes "iter.begin") (takes.One a_container) gives.Iterator (raises.One null_reference)
line_of ops.IterAtEnd =
    line (codes "iter.at_end") (takes.One an_iterator) (gives.Fixed plain.Bool)
    (raises.Two null_reference stale_iterator)
line_of ops.IterValue =
    line (codes "iter.value") (takes.One an_iterator) gives.Item
    (raises.Three null_reference stale_iterator index_error)
line_of ops.IterNext =
    line (codes "iter.next") (takes.One an_iterator) gives.Same
    (raises.Three null_reference stale_iterator index_error)
line_of ops.ClassifierAdd =
    line (codes "classifier.add") (takes.Four a_classifier Rule int64 second_part) gives.Nothing
    (raises.Two null_reference value_error)
line_of ops.ClassifierCompile =
    line (codes "classifier.compile") (takes.One a_classifier) gives.Nothing
    (raises.One null_reference)
line_of ops.ClassifierGet =
    line (codes "classifier.get") (takes.Two a_classifier Query) (gives.Part parts.Second)
    (raises.Three null_reference value_error index_error)
line_of ops.ClassifierMatches =
    line (codes "classifier.matches") (takes.Two a_classifier Query) (gives.Fixed plain.Bool)
    (raises.Two null_reference value_error)
line_of ops.OverlayGet =
    line (codes "overlay.get") (takes.Four Overlay OverlayField bytes int64) gives.Same
    (raises.One value_error)
line_of ops.TimerMake =
    line (codes "timer.make") (takes.One callable) (gives.Fixed plain.Timer)
    (raises.One null_reference)
line_of ops.TimerCancel =
    line (codes "timer.cancel") (takes.One timer) gives.Nothing (raises.One null_reference)
line_of ops.TimerMgrSchedule =
    line (codes "timer_mgr.schedule") (takes.Three manager time timer) gives.Nothing
    (raises.Two null_reference value_error)
line_of ops.TimerMgrCurrent =
    line (codes "timer_mgr.current") (takes.One manager) (gives.Fixed plain.Time)
    (raises.One null_reference)
line_of ops.TimerMgrAdvance =
    line_to flows.Calls (codes "timer_mgr.advance") (takes.Two manager time) gives.Nothing
    (raises.Two null_reference value_error)

-- all instructions but the exact ones
abbrev pub every_plain : List Op
every_plain = ops.Nop ∷ ops.Assign ∷ ops.Select ∷ ops.Equal ∷ ops.Less ∷ ops.Hash ∷ ops.Print ∷
    ops.Yield ∷ ops.Call ∷ ops.CallableBind ∷ ops.CallableCall ∷ ops.HookRun ∷ ops.HookStop ∷
    ops.ThreadSchedule ∷ ops.ThreadId ∷ ops.Jump ∷ ops.IfElse ∷ ops.ReturnVoid ∷ ops.ReturnResult ∷
    ops.ExceptionThrow ∷ ops.New ∷ ops.RefIsNull ∷ ops.BoolAnd ∷ ops.BoolOr ∷ ops.BoolNot ∷
    ops.IntAdd ∷ ops.IntSub ∷ ops.IntMul ∷ ops.IntDiv ∷ ops.IntMod ∷ ops.IntSdiv ∷ ops.IntSmod ∷
    ops.IntAnd ∷ ops.IntOr ∷ ops.IntXor ∷ ops.IntShl ∷ ops.IntShr ∷ ops.IntSshr ∷ ops.IntLt ∷
    ops.IntGt ∷ ops.IntLeq ∷ ops.IntGeq ∷ ops.IntSlt ∷ ops.IntSgt ∷ ops.IntAs ∷ ops.BytesLength ∷
    ops.BytesSub ∷ ops.BytesJoin ∷ ops.BytesFind ∷ ops.BytesStarts ∷ ops.BytesByte ∷
    ops.BytesToInt ∷ ops.BytesToUintBig ∷ ops.BytesToUintLittle ∷ ops.AddrMask ∷ ops.NetMake ∷
    ops.NetAddr ∷ ops.NetLength ∷ ops.NetContains ∷ ops.PortTcp ∷ ops.PortUdp ∷ ops.PortNumber ∷
    ops.PortIsTcp ∷ ops.TimeAdd ∷ ops.TimeSub ∷ ops.TimeDiff ∷ ops.IntervalAdd ∷ ops.IntervalSub ∷
    ops.IntervalMul ∷ ops.IntervalMake ∷ ops.TimeMake ∷ ops.IntervalNanos ∷ ops.TimeNanos ∷
    ops.TupleMake ∷ ops.TupleGet ∷ ops.StructGet ∷ ops.StructSet ∷ ops.StructUnset ∷
    ops.StructIsSet ∷ ops.ListAppend ∷ ops.ListPushFront ∷ ops.ListPopFront ∷ ops.ListPopBack ∷
    ops.ListFront ∷ ops.ListBack ∷ ops.ListLength ∷ ops.VectorLength ∷ ops.SetSize ∷ ops.MapSize ∷
    ops.ListClear ∷ ops.SetClear ∷ ops.MapClear ∷ ops.VectorPush ∷ ops.VectorTruncate ∷
    ops.VectorGet ∷ ops.VectorSet ∷ ops.SetInsert ∷ ops.SetExists ∷ ops.MapExists ∷ ops.SetRemove ∷
    ops.MapRemove ∷ ops.MapInsert ∷ ops.MapGet ∷ ops.MapGetDefault ∷ ops.SetTimeout ∷
    ops.MapTimeout ∷ ops.IterBegin ∷ ops.IterAtEnd ∷ ops.IterValue ∷ ops.IterNext ∷
    ops.ClassifierAdd ∷ ops.ClassifierCompile ∷ ops.ClassifierGet ∷ ops.ClassifierMatches ∷
    ops.OverlayGet ∷ ops.TimerMake ∷ ops.TimerCancel ∷ ops.TimerMgrSchedule ∷ ops.TimerMgrCurrent ∷
    ops.TimerMgrAdvance ∷ []
