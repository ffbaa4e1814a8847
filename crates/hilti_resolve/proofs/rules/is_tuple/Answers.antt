use Rattle.std.proofs.Common.{◌∙◌, ap, sym}
use Rattle.hilti_resolve.specs.Values.{read_of}
use Rattle.hilti_resolve.proofs.FormsRead.{parametric_reads_as}
use Rattle.hilti_resolve.proofs.rules.is_tuple.Goals as goal

pub returns-in-Parametric : goal.returns-in-Parametric
returns-in-Parametric c = λ table mean.
    c.is_tuple_text.ensures table mean
    ∙ ap (λ read. read.form) (sym (ap (read_of table mean) c.in-Parametric.is ∙ parametric_reads_as table mean c.in-Parametric.parametric))
