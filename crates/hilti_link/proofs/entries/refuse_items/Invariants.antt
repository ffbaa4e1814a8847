use Rattle.std.proofs.Common.{◌≡◌, map, drop}
use Rattle.hilti_resolve.specs.Names.{first_of}
use Rattle.hilti_link.specs.Entries.{entry_refusal}
use Rattle.hilti_link.proofs.entries.refuse_items.Given as goal

-- what is left tells the first of all
abbrev pub invariant-loop-item : goal.invariant-loop-item
invariant-loop-item l = first_of (map entry_refusal (drop l.item-index l.items)) ≡ first_of (map entry_refusal l.items)
