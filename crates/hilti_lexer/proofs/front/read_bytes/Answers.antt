use Rattle.std.proofs.Common.{arith, ap}
use Rattle.std.specs.Prelude.{Err}
use Rattle.hilti_lexer.proofs.Lengths.{inside_within}
use Rattle.hilti_lexer.proofs.front.read_bytes.Goals as goal

pub overflow_add-result : goal.overflow_add-result
overflow_add-result c =
    let fails = c.in-Err-At.ensures.fails c.in-Err-At.fault c.in-Err-At.offset (ap (λ missing. Err missing) c.in-Err-At.field-0-is) in
    omega (arith, inside_within _ c.in-Err-At.fault c.in-Err-At.offset fails)
