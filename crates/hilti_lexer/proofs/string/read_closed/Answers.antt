use Rattle.std.proofs.Common.{arith}
use Rattle.hilti_lexer.proofs.Strings.{no_longer}
use Rattle.hilti_lexer.proofs.string.read_closed.Goals as goal

pub overflow_sub-offset : goal.overflow_sub-offset
overflow_sub-offset c = omega (arith, no_longer c.in_ok-spelled.spelled.value c.args.inside.now c.in_ok-spelled.spelled.rest.now c.in_ok-spelled.ensures.spelled)
