use Rattle.std.proofs.Common.{◌≡◌, ◌+◌, ◌≤◌, length, drop}
use Rattle.std.specs.Net.Text.{zero_run, longest_zero_run}
use Rattle.hilti_print.proofs.addresses.longest_zero_run.Given as goal

-- the zeros that what was looked at begins with, and the longest run in it
abbrev pub invariant-loop-at : goal.invariant-loop-at
invariant-loop-at l =
    (l.run ≡ zero_run (drop l.at l.groups))
    × (l.len ≡ (longest_zero_run (drop l.at l.groups)).1)
    × (l.start ≡ l.at + (longest_zero_run (drop l.at l.groups)).0)
    × (l.at + l.run ≤ length l.groups) × (l.start + l.len ≤ length l.groups)
