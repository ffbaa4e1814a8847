use Rattle.std.proofs.Common.{length, arith, rules}
use Rattle.std.proofs.lemmas.Grind.{common_steps}
use Rattle.hilti_print.proofs.Digits.{nine_fit, zeros_left}
use Rattle.hilti_print.proofs.text.nine_digits.Goals as goal

pub slice_bounds-append-count : goal.slice_bounds-append-count
slice_bounds-append-count c = let fits = nine_fit c.args.nanos c.requires in grind (arith, fits)

pub slice_bounds-append-start : goal.slice_bounds-append-start
slice_bounds-append-start c = let fits = nine_fit c.args.nanos c.requires in search rules

pub returns : goal.returns
returns c = let zeros = zeros_left (length c.as_bytes-digits.result.now) in grind (arith, common_steps, zeros)
