use Rattle.std.proofs.Common.{◌≡◌, replicate, None}
use Rattle.hilti_record.proofs.record.Record.new.Given as goal

-- as many unset fields as were counted
abbrev pub invariant-loop : goal.invariant-loop
invariant-loop g l = l.unset.items ≡ replicate l.counter None
