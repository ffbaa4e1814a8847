-- Literals of one token that are operands.
use Rattle.std.proofs.Common.{◌≡◌, true, refl}
use Rattle.hilti_module.specs.declared.module.Literal.{Literal}
use Rattle.hilti_module.specs.declared.module.Literal.TheVariants as literals
use Rattle.hilti_module.specs.declared.module.Simple.TheVariants as simples
use Rattle.hilti_read_literals.specs.Literals.{is_one_token}
use Rattle.hilti_read_operands.specs.Operands.{IsOneToken}

-- a literal of one token is an operand of one token
pub one_token : (literal : Literal) → is_one_token literal ≡ true → IsOneToken (simples.Literal literal)
one_token (literals.Number number) h = (refl, refl)
one_token (literals.Address place bits) h = (refl, refl)
one_token (literals.Net place bits length) h = (refl, refl)
one_token (literals.Port place number udp) h = (refl, refl)
one_token (literals.Text place bytes) h = (refl, refl)
one_token (literals.Bytes place bytes) h = (refl, refl)
one_token (literals.True place) h = (refl, refl)
one_token (literals.False place) h = (refl, refl)
one_token (literals.Null place) h = (refl, refl)
one_token (literals.Constant name constant) h = cc
one_token (literals.Time place number) h = cc
one_token (literals.Interval place number) h = cc
