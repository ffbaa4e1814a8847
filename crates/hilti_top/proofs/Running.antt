-- What a pool says of the calls that one worker ran: how the run ended, and its report.
use Rattle.std.proofs.Common.{◌≡◌, ℕ, List, Some, ◌↔◌, sym, ◌∙◌, subst, arith}
use Rattle.hilti_base.specs.declared.limits.Limits.{Limits}
use Rattle.hilti_tree.specs.declared.call.Call.{Call}
use Rattle.hilti_core.specs.declared.event.Event.{Event}
use Rattle.hilti_core.specs.Atomic.{NothingWaits}
use Rattle.hilti_core.specs.Core.{Core, core}
use Rattle.hilti_core.specs.Schedule.{IsOver}
use Rattle.hilti_core.specs.Sending.{Effect}
use Rattle.hilti_core.proofs.Inboxes.{keeps_inboxes}
use Rattle.hilti_parts.specs.declared.parts.Parts.{Parts}
use Rattle.hilti_pcap.specs.Endings.{CaptureEnding}
use Rattle.hilti_pool.specs.Readiness.{HasWaiting}
use Rattle.hilti_pool.specs.State.{InCore, PoolState}
use Rattle.hilti_machine.specs.Segments.{effect_of}
use Rattle.hilti_machine.specs.Threads.{Facts}
use Rattle.hilti_one.specs.Alone.{RanAlone}
use Rattle.hilti_log.specs.Reports.{IsReport}
use Rattle.hilti_top.specs.declared.status.Status.{Status}
use Rattle.hilti_top.specs.declared.status.Status.TheVariants as status
use Rattle.hilti_top.specs.Report.{EndsAs, ReportsCalls, facts_of}

-- at the end of a run no calls wait exactly where nothing waits
none_wait : (effect : Effect) (calls : List Call) (limit most : ℕ) (journal : List Event) (c : Core) (n : ℕ) → core effect calls limit journal ≡ Some c
    → IsOver most c → HasWaiting c n → (n ≡ 0) ↔ NothingWaits c
none_wait effect calls limit most journal c n is over waiting =
    let inboxes = keeps_inboxes effect calls limit journal c is in (
      (λ none. record { inboxes = inboxes.none.1 (omega (arith, waiting, none)); unfed = over.unfed }),
      (λ nothing. let all = inboxes.none.0 nothing.inboxes in omega (arith, waiting, all)),
    )

-- a run ends alike for what is the same
ends_alike : (s : Status) (ending : CaptureEnding) (none nothing : Type 0) → none ↔ nothing → EndsAs s ending none → EndsAs s ending nothing
ends_alike status.CallLimit ending none nothing same so = (so.0, λ is. so.1 (same.1 is))
ends_alike (status.CaptureCut at) ending none nothing same so = (so.0, same.0 so.1)
ends_alike status.Done ending none nothing same so = (so.0, same.0 so.1)
ends_alike status.Usage ending none nothing same so = so
ends_alike status.ReadFault ending none nothing same so = so
ends_alike (status.BadModule place code) ending none nothing same so = so
ends_alike (status.BadCapture at code) ending none nothing same so = so
ends_alike status.WriteFault ending none nothing same so = so
ends_alike status.NoMemory ending none nothing same so = so

-- one core has what is known of the pool's core
pub reports_calls : (pool : PoolState Facts) (limits : Limits) (parts : Parts) (calls : List Call) (ending : CaptureEnding) (s : Status) (text : List ℕ) (n : ℕ)
    → pool.about ≡ facts_of limits parts → InCore effect_of pool (RanAlone (effect_of pool.about) calls limits.calls)
    → InCore effect_of pool (λ c. IsReport c text) → InCore effect_of pool (λ c. HasWaiting c n) → EndsAs s ending (n ≡ 0)
    → ReportsCalls limits parts calls ending s text
reports_calls pool limits parts calls ending s text n about ran told waiting ends_so =
    let reported = sym ran.is ∙ told.is in
    let counted = sym ran.is ∙ waiting.is in
    let same : ran.core ≡ told.core = cc in
    let also : ran.core ≡ waiting.core = cc in
    let left : HasWaiting ran.core n = subst (λ (c : Core). HasWaiting c n) (sym also) waiting.holds in
    record {
      core = ran.core;
      ran = subst (λ (facts : Facts). RanAlone (effect_of facts) calls limits.calls ran.core) about ran.holds;
      ends = ends_alike s ending (n ≡ 0) (NothingWaits ran.core) (none_wait (effect_of pool.about) pool.fed pool.limit limits.calls pool.journal ran.core n ran.is ran.holds.over left) ends_so;
      report = subst (λ (c : Core). IsReport c text) (sym same) told.holds;
    }
