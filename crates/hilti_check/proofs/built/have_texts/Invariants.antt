use Rattle.std.proofs.Common.{◌≡◌, true, take}
use Rattle.std.specs.List.{list_all}
use Rattle.hilti_code.specs.Runnable.{has_text}
use Rattle.hilti_rows.specs.declared.row.Printed.{Printed}
use Rattle.hilti_check.proofs.built.have_texts.Given as goal

-- the values so far have texts
abbrev pub invariant-loop-item : goal.invariant-loop-item
invariant-loop-item l = list_all (λ (item : Printed). has_text item.kind) (take l.item-index l.items) ≡ true
