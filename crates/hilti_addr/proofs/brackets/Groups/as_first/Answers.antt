use Rattle.std.proofs.Common.{arith}
use Rattle.hilti_addr.proofs.Groups.{power_fits, product_fits}
use Rattle.hilti_addr.proofs.brackets.Groups.as_first.Goals as goal

pub pow-requires : goal.pow-requires
pow-requires c = power_fits c.args.self.count c.if-self-eq0.false

pub overflow_mul-result : goal.overflow_mul-result
overflow_mul-result c =
    omega (arith, product_fits c.args.self.number c.args.self.count c.pow.result c.requires.small c.requires.few c.pow.ensures)
