use Rattle.std.proofs.Common.{subst}
use Rattle.hilti_parts.specs.declared.parts.Parts.{Parts}
use Rattle.hilti_typing.specs.Exceptions.{ExceptionTree}
use Rattle.hilti_program.proofs.program.Program.parts.Goals as goal

pub returns-clause-tree : goal.returns-clause-tree
returns-clause-tree c =
    subst (λ (parts : Parts). ExceptionTree parts.exceptions) c.self.view_is
    (c.exceptions_make_tree.ensures c.self.inside.parts.exceptions c.self.invariant.typed.exceptions)
