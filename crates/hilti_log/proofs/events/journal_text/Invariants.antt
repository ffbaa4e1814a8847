use Rattle.std.proofs.Common.{◌≡◌, ◌++◌, take}
use Rattle.std.specs.List.{flat_map}
use Rattle.hilti_log.specs.Texts.{event_text}
use Rattle.hilti_log.proofs.events.journal_text.Given as goal

-- what is written so far is the text of the events so far
abbrev pub invariant-loop-event : goal.invariant-loop-event
invariant-loop-event g l = l.out ≡ l.initial.out ++ flat_map event_text (take l.event-index l.events)
