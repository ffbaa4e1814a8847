use Rattle.std.proofs.Common.{◌∙◌, ap, sym}
use Rattle.hilti_resolve.specs.Values.{inner_read_of}
use Rattle.hilti_resolve.proofs.FormsRead.{container_reads_as}
use Rattle.hilti_resolve.proofs.rules.is_walked.Goals as goal

pub returns-in-Container : goal.returns-in-Container
returns-in-Container c = λ table mean.
    c.is_walked_container.ensures table mean
    ∙ ap (λ read. read.form) (sym (ap (inner_read_of table mean) c.in-Container.is ∙ container_reads_as table mean c.in-Container.container))
