use Rattle.std.proofs.Common.{◌≡◌, take}
use Rattle.std.specs.Prelude.{false}
use Rattle.hilti_grammar.specs.Grammar.{has}
use Rattle.hilti_reader.specs.Modules.{grammar}
use Rattle.hilti_reader.proofs.cursor.is_among.Given as goal

abbrev pub invariant-loop-other : goal.invariant-loop-other
invariant-loop-other l = has grammar (take l.other-index l.kinds) l.kind ≡ false
