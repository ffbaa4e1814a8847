use Rattle.std.proofs.Common.{◌+◌, ◌≤◌, arith}
use Rattle.hilti_addr.proofs.Groups.{both_fit}
use Rattle.hilti_addr.proofs.brackets.fill.Goals as goal

pub overflow_add-result : goal.overflow_add-result
overflow_add-result c =
    let few : c.args.before.count + c.args.after.count ≤ 7 = omega arith in
    omega (arith, both_fit c.args.before c.args.after c.requires.before c.requires.after few, c.as_first.ensures)
