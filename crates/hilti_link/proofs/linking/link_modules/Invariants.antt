use Rattle.hilti_link.proofs.AllModules.{ModulesGo}
use Rattle.hilti_link.proofs.linking.link_modules.Given as goal

-- what the next module sees
abbrev pub invariant-loop-file : goal.invariant-loop-file
invariant-loop-file l = ModulesGo l.modules l.file l.here l.tables
