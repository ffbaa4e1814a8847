use Rattle.std.proofs.Common.{◌≡◌}
use Rattle.hilti_link.specs.Items.{Seen}
use Rattle.hilti_link.specs.Standings.{IsContext, Enters}
use Rattle.hilti_link.proofs.ModuleItems.{ItemsGo}
use Rattle.hilti_link.proofs.linking.link_module.Given as goal

-- what the next item sees
abbrev pub invariant-loop-at : goal.invariant-loop-at
invariant-loop-at l = (seen : Seen) → IsContext seen.modules l.context → Enters seen l.file l.here → seen.tables ≡ l.fn.tables → ItemsGo seen l.module l.at l.tables
