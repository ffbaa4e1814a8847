-- Only the row of `return.result` asks for a value of the type of the body's result.
use Rattle.std.proofs.Common.{◌≡◌, ◌∙◌, ℕ, zero, suc, Bool, true, false, List, [], ◌∷◌, sym, refl}
use Rattle.std.specs.Prelude.{◌||◌, replicate, IsSome}
use Rattle.std.specs.List.{AllByRecursion}
use Rattle.std.proofs.lemmas.Bool.{false≢true}
use Rattle.hilti_types.specs.declared.op.Op.{Op}
use Rattle.hilti_types.specs.declared.op.Op.TheVariants as ops
use Rattle.hilti_table.specs.declared.row.Body.TheVariants as bodies
use Rattle.hilti_table.specs.declared.row.Flow.{Flow}
use Rattle.hilti_table.specs.declared.row.Flow.TheVariants as flows
use Rattle.hilti_table.specs.declared.row.Kind.{Kind}
use Rattle.hilti_table.specs.declared.row.Kind.TheVariants as kind
use Rattle.hilti_table.specs.declared.row.Takes.{Takes}
use Rattle.hilti_table.specs.declared.row.Takes.TheVariants as takes
use Rattle.hilti_table.specs.Rows.{kinds}
use Rattle.hilti_table.specs.Table.{line_of}
use Rattle.hilti_operands.specs.Laws.{MayAsk}
use Rattle.hilti_operands.specs.Seen.{LineSeen}
use Rattle.hilti_lines.specs.Lines.{may_stand}

abbrev is_returned : Kind → Bool
is_returned kind.Returned = true
is_returned _ = false

abbrev asks_result : Takes → Bool
asks_result takes.Nothing = false
asks_result (takes.One a) = is_returned a
asks_result (takes.Two a b) = is_returned a || is_returned b
asks_result (takes.Three a b c) = is_returned a || (is_returned b || is_returned c)
asks_result (takes.Four a b c d) = is_returned a || (is_returned b || (is_returned c || is_returned d))
asks_result (takes.UpToEight a) = is_returned a

abbrev leaves_by_result : Flow → Bool
leaves_by_result (flows.Leaves bodies.Result) = true
leaves_by_result _ = false

only_returns : (op : Op) → asks_result (line_of op).row.takes ≡ leaves_by_result (line_of op).row.flow
only_returns ops.Nop = refl
only_returns ops.Assign = refl
only_returns ops.Select = refl
only_returns ops.Equal = refl
only_returns ops.Less = refl
only_returns ops.Hash = refl
only_returns ops.Print = refl
only_returns ops.Yield = refl
only_returns ops.Call = refl
only_returns ops.CallableBind = refl
only_returns ops.CallableCall = refl
only_returns ops.HookRun = refl
only_returns ops.HookStop = refl
only_returns ops.ThreadSchedule = refl
only_returns ops.ThreadId = refl
only_returns ops.Jump = refl
only_returns ops.IfElse = refl
only_returns ops.ReturnVoid = refl
only_returns ops.ReturnResult = refl
only_returns ops.ExceptionThrow = refl
only_returns ops.New = refl
only_returns ops.RefIsNull = refl
only_returns ops.BoolAnd = refl
only_returns ops.BoolOr = refl
only_returns ops.BoolNot = refl
only_returns ops.IntAdd = refl
only_returns ops.IntSub = refl
only_returns ops.IntMul = refl
only_returns ops.IntDiv = refl
only_returns ops.IntMod = refl
only_returns ops.IntSdiv = refl
only_returns ops.IntSmod = refl
only_returns ops.IntAnd = refl
only_returns ops.IntOr = refl
only_returns ops.IntXor = refl
only_returns ops.IntShl = refl
only_returns ops.IntShr = refl
only_returns ops.IntSshr = refl
only_returns ops.IntLt = refl
only_returns ops.IntGt = refl
only_returns ops.IntLeq = refl
only_returns ops.IntGeq = refl
only_returns ops.IntSlt = refl
only_returns ops.IntSgt = refl
only_returns ops.IntAs = refl
only_returns ops.IntAddExact = refl
only_returns ops.IntSubExact = refl
only_returns ops.IntMulExact = refl
only_returns ops.IntShlExact = refl
only_returns ops.IntSdivExact = refl
only_returns ops.IntAsExact = refl
only_returns ops.BytesLength = refl
only_returns ops.BytesSub = refl
only_returns ops.BytesJoin = refl
only_returns ops.BytesFind = refl
only_returns ops.BytesStarts = refl
only_returns ops.BytesByte = refl
only_returns ops.BytesToInt = refl
only_returns ops.BytesToUintBig = refl
only_returns ops.BytesToUintLittle = refl
only_returns ops.AddrMask = refl
only_returns ops.NetMake = refl
only_returns ops.NetAddr = refl
only_returns ops.NetLength = refl
only_returns ops.NetContains = refl
only_returns ops.PortTcp = refl
only_returns ops.PortUdp = refl
only_returns ops.PortNumber = refl
only_returns ops.PortIsTcp = refl
only_returns ops.TimeAdd = refl
only_returns ops.TimeSub = refl
only_returns ops.TimeDiff = refl
only_returns ops.IntervalAdd = refl
only_returns ops.IntervalSub = refl
only_returns ops.IntervalMul = refl
only_returns ops.IntervalMake = refl
only_returns ops.TimeMake = refl
only_returns ops.IntervalNanos = refl
only_returns ops.TimeNanos = refl
only_returns ops.TupleMake = refl
only_returns ops.TupleGet = refl
only_returns ops.StructGet = refl
only_returns ops.StructSet = refl
only_returns ops.StructUnset = refl
only_returns ops.StructIsSet = refl
only_returns ops.ListAppend = refl
only_returns ops.ListPushFront = refl
only_returns ops.ListPopFront = refl
only_returns ops.ListPopBack = refl
only_returns ops.ListFront = refl
only_returns ops.ListBack = refl
only_returns ops.ListLength = refl
only_returns ops.VectorLength = refl
only_returns ops.SetSize = refl
only_returns ops.MapSize = refl
only_returns ops.ListClear = refl
only_returns ops.SetClear = refl
only_returns ops.MapClear = refl
only_returns ops.VectorPush = refl
only_returns ops.VectorTruncate = refl
only_returns ops.VectorGet = refl
only_returns ops.VectorSet = refl
only_returns ops.SetInsert = refl
only_returns ops.SetExists = refl
only_returns ops.MapExists = refl
only_returns ops.SetRemove = refl
only_returns ops.MapRemove = refl
only_returns ops.MapInsert = refl
only_returns ops.MapGet = refl
only_returns ops.MapGetDefault = refl
only_returns ops.SetTimeout = refl
only_returns ops.MapTimeout = refl
only_returns ops.IterBegin = refl
only_returns ops.IterAtEnd = refl
only_returns ops.IterValue = refl
only_returns ops.IterNext = refl
only_returns ops.ClassifierAdd = refl
only_returns ops.ClassifierCompile = refl
only_returns ops.ClassifierGet = refl
only_returns ops.ClassifierMatches = refl
only_returns ops.OverlayGet = refl
only_returns ops.TimerMake = refl
only_returns ops.TimerCancel = refl
only_returns ops.TimerMgrSchedule = refl
only_returns ops.TimerMgrCurrent = refl
only_returns ops.TimerMgrAdvance = refl

module _ (line : LineSeen) where
  -- a kind may be asked for where the body has a result, if the kind needs one
  abbrev May : Bool → Type 0
  May asks = asks ≡ true → IsSome line.body.function.result

  may_one : (k : Kind) → May (is_returned k) → MayAsk line k
  may_one kind.Returned may = may refl
  may_one _ may = tt

  left : (a b : Bool) → May (a || b) → May a
  left true b may e = may refl
  left false b may e = absurd (false≢true e)

  right : (a b : Bool) → May (a || b) → May b
  right true b may e = may refl
  right false b may e = may e

  may_each : (n : ℕ) (k : Kind) → MayAsk line k → AllByRecursion (MayAsk line) (replicate n k)
  may_each zero k may = tt
  may_each (suc n) k may = (may, may_each n k may)

  may_all : (row : Takes) (n : ℕ) → May (asks_result row) → AllByRecursion (MayAsk line) (kinds row n)
  may_all takes.Nothing n may = tt
  may_all (takes.One a) n may = (may_one a may, tt)
  may_all (takes.Two a b) n may = (may_one a (left (is_returned a) _ may), (may_one b (right (is_returned a) _ may), tt))
  may_all (takes.Three a b c) n may =
      let others = right (is_returned a) (is_returned b || is_returned c) may in
      (may_one a (left (is_returned a) _ may), (may_one b (left (is_returned b) _ others), (may_one c (right (is_returned b) _ others), tt)))
  may_all (takes.Four a b c d) n may =
      let others = right (is_returned a) (is_returned b || (is_returned c || is_returned d)) may in
      let rest = right (is_returned b) (is_returned c || is_returned d) others in
      (may_one a (left (is_returned a) _ may), (may_one b (left (is_returned b) _ others), (may_one c (left (is_returned c) _ rest), (may_one d (right (is_returned c) _ rest), tt))))
  may_all (takes.UpToEight a) n may = may_each n a (may_one a may)

  result_there : (flow : Flow) → may_stand line.body flow ≡ true → May (leaves_by_result flow)
  result_there (flows.Leaves bodies.Result) stands e = stands
  result_there _ stands e = absurd (false≢true e)

  pub may_ask : (op : Op) (n : ℕ) → may_stand line.body (line_of op).row.flow ≡ true → AllByRecursion (MayAsk line) (kinds (line_of op).row.takes n)
  may_ask op n stands = may_all (line_of op).row.takes n (λ e. result_there (line_of op).row.flow stands (sym (only_returns op) ∙ e))
