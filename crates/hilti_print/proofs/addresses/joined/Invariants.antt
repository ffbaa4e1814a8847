use Rattle.std.proofs.Common.{◌≡◌, ◌∷◌, ◌++◌, get_or, take}
use Rattle.std.specs.Net.Text.{groups_text}
use Rattle.hilti_print.proofs.addresses.joined.Given as goal

-- what is written so far is the text of the first and of those after it so far
abbrev pub invariant-loop-other : goal.invariant-loop-other
invariant-loop-other l =
    l.out ≡ l.fn.out ++ groups_text (get_or l.groups 0 0 ∷ take l.other-index l.others)
