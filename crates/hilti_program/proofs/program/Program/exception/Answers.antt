use Rattle.std.proofs.Common.{◌∙◌, ap}
use Rattle.hilti_parts.specs.declared.parts.Parts.{Parts}
use Rattle.hilti_program.proofs.Chains.{exception_of}
use Rattle.hilti_program.proofs.program.Program.exception.Goals as goal

pub returns : goal.returns
returns c =
    exception_of c.args.self.now c.as_slice.result.now c.args.n c.index-as_slice-n.result c.parts.ensures.tree
    (c.as_slice.ensures ∙ ap (λ (parts : Parts). parts.exceptions) c.parts.ensures.is) c.requires c.index-as_slice-n.is
