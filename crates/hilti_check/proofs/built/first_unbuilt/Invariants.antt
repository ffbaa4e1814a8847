use Rattle.hilti_link.specs.Linking.{tables_of}
use Rattle.hilti_check.specs.Built.{first_unbuilt}
use Rattle.hilti_check.proofs.Scanning.{From}
use Rattle.hilti_check.proofs.built.first_unbuilt.Given as goal

-- what is found in the functions that are left is what is found in all
abbrev pub invariant-loop-at : goal.invariant-loop-at
invariant-loop-at l = From l.linked.modules l.functions l.blocks (first_unbuilt l.linked.modules (tables_of l.linked.modules) l.blocks) l.at
