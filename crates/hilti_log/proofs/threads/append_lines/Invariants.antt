use Rattle.std.proofs.Common.{◌≡◌, ◌++◌, take}
use Rattle.std.specs.List.{flat_map}
use Rattle.hilti_log.specs.Texts.{line_text}
use Rattle.hilti_log.proofs.threads.append_lines.Given as goal

-- what is written so far is the text of the lines so far
abbrev pub invariant-loop-line : goal.invariant-loop-line
invariant-loop-line l = l.out ≡ l.initial.out ++ flat_map line_text (take l.line-index l.lines)
