use Rattle.std.proofs.Common.{sym, ap, ◌∙◌}
use Rattle.hilti_overlay.specs.Fields.{bits_in}
use Rattle.hilti_overlay.proofs.Cuts.{cut_is}
use Rattle.hilti_overlay.proofs.unpack.cut.Goals as goal

pub returns-in-Some : goal.returns-in-Some
returns-in-Some c =
    let allowed = c.requires (c.in-Some.low, c.in-Some.high) c.in-Some.is in
    cut_is c.args.number c.in-Some.low c.in-Some.high allowed.0 allowed.1 ∙ ap (λ bits. bits_in bits c.args.number) (sym c.in-Some.is)
