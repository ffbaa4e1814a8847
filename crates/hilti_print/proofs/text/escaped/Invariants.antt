use Rattle.std.proofs.Common.{◌≡◌, ◌++◌, take}
use Rattle.hilti_print.specs.Texts.{escaped_text}
use Rattle.hilti_print.proofs.text.escaped.Given as goal

-- what is written so far is the text of the bytes so far
abbrev pub invariant-loop-byte : goal.invariant-loop-byte
invariant-loop-byte l = l.out ≡ l.initial.out ++ escaped_text (take l.byte-index l.bytes)
