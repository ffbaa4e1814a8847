use Rattle.std.proofs.Common.{◌≡◌, drop}
use Rattle.hilti_table.specs.Mnemonics.{named}
use Rattle.hilti_table.proofs.Finding.{by_spellings}
use Rattle.hilti_table.proofs.mnemonics.op_of.Given as goal

abbrev pub invariant-loop-word : goal.invariant-loop-word
invariant-loop-word l = named l.mnemonic ≡ by_spellings (drop l.word-index l.word-items) l.mnemonic
