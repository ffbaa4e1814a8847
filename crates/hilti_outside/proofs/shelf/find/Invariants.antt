-- What was found so far is the file of the entries so far.
use Rattle.hilti_outside.proofs.Found.{IsFoundBelow}
use Rattle.hilti_outside.proofs.shelf.find.Given as goal

abbrev pub invariant-loop-at : goal.invariant-loop-at
invariant-loop-at l = IsFoundBelow l.entries l.at l.name l.found
