use Rattle.std.proofs.Common.{◌∙◌, ap, eqb}
use Rattle.hilti_kinds.specs.Kinds.{kind_number}
use Rattle.hilti_kinds.proofs.Tags.{tag, tag_is}
use Rattle.hilti_kinds.proofs.kind.Kind.is.Goals as goal

pub returns : goal.returns
returns c = ap (λ n. eqb n (tag c.args.other)) (tag_is c.args.self) ∙ ap (λ n. eqb (kind_number c.args.self) n) (tag_is c.args.other)
