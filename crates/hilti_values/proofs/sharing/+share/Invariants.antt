use Rattle.std.proofs.Common.{◌≡◌, take}
use Rattle.hilti_values.proofs.sharing.+share.Given as goal

-- the values so far are shared
abbrev pub invariant-share_all-loop-value : goal.invariant-share_all-loop-value
invariant-share_all-loop-value l = l.shared ≡ take l.value-index l.value-items
