use Rattle.std.proofs.Common.{◌≡◌, get_or, false, sym, arith, rules}
use Rattle.std.proofs.lemmas.List.Sums.{prefix_len_is}
use Rattle.std.specs.Char.{is_ascii_digit}
use Rattle.hilti_lexer.proofs.runs.count_digits.Goals as goal

pub returns-then-not-is_ascii_digit-clause-length : goal.returns-then-not-is_ascii_digit-clause-length
returns-then-not-is_ascii_digit-clause-length c =
    let stops : is_ascii_digit (get_or c.args.text.now c.loop-i.i 0) ≡ false = search rules in
    sym (prefix_len_is is_ascii_digit c.args.text.now c.loop-i.i 0 (omega arith) c.loop-i.invariant (λ _. stops))

pub returns-clause-length : goal.returns-clause-length
returns-clause-length c = sym (prefix_len_is is_ascii_digit c.args.text.now _ 0 (omega arith) (λ k below. c.loop-i.invariant k (omega (arith, below))) (λ past. absurd (omega (arith, past))))
