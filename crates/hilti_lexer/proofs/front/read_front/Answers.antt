use Rattle.std.proofs.Common.{length, ◌-◌, take, drop, refl, subst}
use Rattle.hilti_lexer.specs.declared.beginning.Beginning.{Beginning}
use Rattle.hilti_lexer.specs.declared.token.TokenKind.TheVariants.{Mark}
use Rattle.hilti_lexer.specs.Tokens.{StandsAs}
use Rattle.hilti_lexer.proofs.Beginnings.{begins_bytes, begins_text}
use Rattle.hilti_lexer.proofs.Lengths.{whole_rest}
use Rattle.hilti_lexer.proofs.front.read_front.Goals as goal

pub read_text-requires : goal.read_text-requires
read_text-requires c = begins_text c.args.text.now c.requires.some c.in-Text.ensures

pub read_bytes-requires-clause-opened : goal.read_bytes-requires-clause-opened
read_bytes-requires-clause-opened c = begins_bytes c.args.text.now c.in-Bytes.ensures

pub returns-in-TwoColons-clause-stands : goal.returns-in-TwoColons-clause-stands
returns-in-TwoColons-clause-stands c =
    subst (λ (begun : Beginning). StandsAs begun c.args.text.now (Mark 0) (take (length c.args.text.now - 2) (drop 2 c.args.text.now))) c.in-TwoColons.ensures
    (record { kind_is = refl; rest_is = whole_rest 2 c.args.text.now })
