use Rattle.std.proofs.Common.{ap, sym, ◌∙◌}
use Rattle.std.specs.FinMap.{len}
use Rattle.hilti_timers.proofs.Apart.{size_of}
use Rattle.hilti_timers.proofs.manager.Manager.len.Goals as goal

pub returns : goal.returns
returns g c = c.len.ensures ∙ c.self.inside.entries.ok.0 ∙ sym (size_of c.self.inside.entries.items c.self.invariant) ∙ ap len c.self.view_is
