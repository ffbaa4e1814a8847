-- A numeral, or a bracket literal, has one form and one value.
use Rattle.std.proofs.Common.{◌≡◌, ℕ, ◌+◌, ◌<◌, ◌≤◌, List, [], ◌∷◌, ◌++◌, refl, sym, ap, ◌∙◌, subst, inl, inr, arith, Bool, true, false, eqb, cond, drop}
use Rattle.std.proofs.lemmas.Bool.Decides.{nat_tests}
use Rattle.std.specs.Char.{digit_value}
use Rattle.std.specs.Str.Parse.{AllDigits, digits_value}
use Rattle.hilti_addr.specs.Brackets.{IsBracketAddress, IsBracketNet}
use Rattle.hilti_addr.specs.Texts.{IsDottedAddress, IsDottedNet, IsPort, protocol}
use Rattle.hilti_addr.specs.declared.net.Net.{Net as NetValue}
use Rattle.hilti_addr.specs.declared.port.Port.{Port as PortValue}
use Rattle.hilti_addr.proofs.Spelled.{bracket_has_no_slash, one_bracket, one_bracket_net}
use Rattle.hilti_addr.proofs.Forms.{one_dotted, one_dotted_net, one_port}
use Rattle.hilti_base.specs.Numerals.{IsNumber, greatest}
use Rattle.hilti_base.proofs.Splits.{nowhere, one_number}
use Rattle.hilti_clock.specs.Numerals.{IsDecimal}
use Rattle.hilti_clock.proofs.Decimals.{one_decimal}
use Rattle.hilti_lexer.specs.declared.token.TokenKind.{TokenKind}
use Rattle.hilti_lexer.specs.declared.token.TokenKind.TheVariants.{Word, Number, Decimal, Address, Net, Port, Text, Bytes, Mark, LineEnd}
use Rattle.hilti_lexer.specs.Numerals.{IsBracketOf, IsHex, IsNumeralOf}

-- one for each point, and ten for each slash
weight : ℕ → ℕ
weight c = cond (eqb c 46) 1 (cond (eqb c 47) 10 0)

abbrev weigh : List ℕ → ℕ
weigh [] = 0
weigh (c ∷ cs) = weight c + weigh cs

weigh-append : (xs ys : List ℕ) → weigh (xs ++ ys) ≡ weigh xs + weigh ys
weigh-append [] ys = omega arith
weigh-append (c ∷ cs) ys = omega (arith, weigh-append cs ys)

digit_weight : (c : ℕ) → digit_value c < 16 → weight c ≡ 0
unfolding weight
digit_weight c digit = grind (arith, nat_tests)

digits_weigh : (base : ℕ) (text : List ℕ) → base ≤ 16 → AllDigits base text → weigh text ≡ 0
digits_weigh base [] small digits = refl
digits_weigh base (c ∷ cs) small digits = omega (arith, digit_weight c (omega (arith, digits.0)), digits_weigh base cs small digits.1)

number_weighs : (most : ℕ) (text : List ℕ) (n : ℕ) → IsNumber most text n → weigh text ≡ 0
number_weighs most text n is = digits_weigh 10 text (omega arith) is.digits.1

hex_weighs : (text : List ℕ) (n : ℕ) → IsHex text n → weigh text ≡ 0
unfolding weight
hex_weighs text n is = ap weigh is.parts ∙ omega (arith, digits_weigh 16 is.digits (omega arith) is.written.1)

split_weighs : (front : List ℕ) (at : ℕ) (back : List ℕ) → weigh (front ++ at ∷ back) ≡ weigh front + (weight at + weigh back)
split_weighs front at back = weigh-append front (at ∷ back)

decimal_weighs : (text : List ℕ) (seconds nanos : ℕ) → IsDecimal text seconds nanos → weigh text ≡ 1
unfolding weight
decimal_weighs text seconds nanos is =
    omega (arith, ap weigh is.parts, split_weighs is.front 46 is.fraction, number_weighs greatest is.front seconds is.whole, digits_weigh 10 is.fraction (omega arith) is.behind.digits.1)

address_weighs : (text : List ℕ) (address : ℕ) → IsDottedAddress text address → weigh text ≡ 3
unfolding weight
address_weighs text address is =
    omega (
      arith,
      ap weigh is.parts,
      split_weighs is.first 46 (is.second ++ 46 ∷ (is.third ++ 46 ∷ is.fourth)),
      split_weighs is.second 46 (is.third ++ 46 ∷ is.fourth),
      split_weighs is.third 46 is.fourth,
      number_weighs 255 is.first is.a is.at_first,
      number_weighs 255 is.second is.b is.at_second,
      number_weighs 255 is.third is.c is.at_third,
      number_weighs 255 is.fourth is.d is.at_fourth,
    )

net_weighs : (text : List ℕ) (net : NetValue) → IsDottedNet text net → weigh text ≡ 13
unfolding weight
net_weighs text net is =
    omega (arith, ap weigh is.parts, split_weighs is.front 47 is.back, address_weighs is.front is.address is.at_front, number_weighs 32 is.back is.len is.at_back)

protocol_weighs : (udp : Bool) → weigh (protocol udp) ≡ 0
unfolding weight
protocol_weighs true = refl
protocol_weighs false = refl

port_weighs : (text : List ℕ) (port : PortValue) → IsPort text port → weigh text ≡ 10
unfolding weight
port_weighs text port is =
    omega (arith, ap weigh is.parts, split_weighs is.front 47 (protocol port.udp), number_weighs 65535 is.front port.number is.at_front, protocol_weighs port.udp)

-- what the text of each kind weighs
abbrev weight_of : TokenKind → ℕ
weight_of (Number _) = 0
weight_of (Decimal _ _) = 1
weight_of (Address _) = 3
weight_of (Net _ _) = 13
weight_of (Port _ _) = 10
weight_of (Word _) = 0
weight_of (Text _) = 0
weight_of (Bytes _) = 0
weight_of (Mark _) = 0
weight_of LineEnd = 0

weighs : (text : List ℕ) (kind : TokenKind) → IsNumeralOf text kind → weigh text ≡ weight_of kind
weighs text (Number n) is = elim is [ inl number ↦ number_weighs greatest text n number | inr hex ↦ hex_weighs text n hex ]
weighs text (Decimal seconds nanos) is = decimal_weighs text seconds nanos is
weighs text (Address address) is = address_weighs text address is
weighs text (Net address len) is = net_weighs text _ is
weighs text (Port number udp) is = port_weighs text _ is
weighs text (Word _) is = absurd is
weighs text (Text _) is = absurd is
weighs text (Bytes _) is = absurd is
weighs text (Mark _) is = absurd is
weighs text LineEnd is = absurd is

no_hex : (text : List ℕ) (n m : ℕ) → IsNumber greatest text n → ¬ (IsHex text m)
no_hex text n m is hex = let digits = subst (AllDigits 10) hex.parts is.digits.1 in absurd (omega (arith, digits.1.0))

one_hex : (text : List ℕ) (n m : ℕ) → IsHex text n → IsHex text m → n ≡ m
one_hex text n m is other =
    let same : is.digits ≡ other.digits = ap (drop 2) (sym is.parts ∙ other.parts) in is.value ∙ ap (digits_value 16) same ∙ sym other.value

-- the text of a numeral is of one kind, with one value
pub one_numeral : (text : List ℕ) (kind kind' : TokenKind) → IsNumeralOf text kind → IsNumeralOf text kind' → kind ≡ kind'
one_numeral text (Word _) kind' is other = absurd is
one_numeral text (Text _) kind' is other = absurd is
one_numeral text (Bytes _) kind' is other = absurd is
one_numeral text (Mark _) kind' is other = absurd is
one_numeral text LineEnd kind' is other = absurd is
one_numeral text kind (Word _) is other = absurd other
one_numeral text kind (Text _) is other = absurd other
one_numeral text kind (Bytes _) is other = absurd other
one_numeral text kind (Mark _) is other = absurd other
one_numeral text kind LineEnd is other = absurd other
one_numeral text (Number n) (Number m) is other = elim is [
  | inl number ↦ elim other [ inl number' ↦ ap (λ k. Number k) (one_number greatest text n m number number') | inr hex' ↦ absurd (no_hex text n m number hex') ]
  | inr hex ↦ elim other [ inl number' ↦ absurd (no_hex text m n number' hex) | inr hex' ↦ ap (λ k. Number k) (one_hex text n m hex hex') ]
]
one_numeral text (Decimal seconds nanos) (Decimal seconds' nanos') is other =
    let same = one_decimal text seconds nanos seconds' nanos' is other in
    ap (λ s. Decimal s nanos) same.0 ∙ ap (λ n. Decimal seconds' n) same.1
one_numeral text (Address address) (Address address') is other = ap (λ a. Address a) (one_dotted text address address' is other)
one_numeral text (Net address len) (Net address' len') is other = ap (λ (n : NetValue). Net n.addr n.len) (one_dotted_net text _ _ is other)
one_numeral text (Port number udp) (Port number' udp') is other =
    ap (λ (p : PortValue). Port p.number p.udp) (one_port text _ _ is other)
one_numeral text kind kind' is other = let one = weighs text kind is in let two = weighs text kind' other in absurd (omega (arith, one, two))

-- a bracket literal is an address or a net, with one value
pub one_literal : (text : List ℕ) (kind kind' : TokenKind) → IsBracketOf text kind → IsBracketOf text kind' → kind ≡ kind'
one_literal text (Number _) kind' is other = absurd is
one_literal text (Decimal _ _) kind' is other = absurd is
one_literal text (Port _ _) kind' is other = absurd is
one_literal text (Word _) kind' is other = absurd is
one_literal text (Text _) kind' is other = absurd is
one_literal text (Bytes _) kind' is other = absurd is
one_literal text (Mark _) kind' is other = absurd is
one_literal text LineEnd kind' is other = absurd is
one_literal text kind (Number _) is other = absurd other
one_literal text kind (Decimal _ _) is other = absurd other
one_literal text kind (Port _ _) is other = absurd other
one_literal text kind (Word _) is other = absurd other
one_literal text kind (Text _) is other = absurd other
one_literal text kind (Bytes _) is other = absurd other
one_literal text kind (Mark _) is other = absurd other
one_literal text kind LineEnd is other = absurd other
one_literal text (Address address) (Address address') is other = ap (λ a. Address a) (one_bracket text address address' is other)
one_literal text (Net address len) (Net address' len') is other = ap (λ (n : NetValue). Net n.addr n.len) (one_bracket_net text _ _ is other)
one_literal text (Address address) (Net address' len') is other = absurd (nowhere 47 text other.front other.back (bracket_has_no_slash text address is) other.parts)
one_literal text (Net address len) (Address address') is other = absurd (nowhere 47 text is.front is.back (bracket_has_no_slash text address' other) is.parts)

-- a text of neither form
pub no_literal : (text : List ℕ) → ((address : ℕ) → ¬ (IsBracketAddress text address)) → ((net : NetValue) → ¬ (IsBracketNet text net))
    → (kind : TokenKind) → ¬ (IsBracketOf text kind)
no_literal text none other (Address address) is = none address is
no_literal text none other (Net address len) is = other _ is
no_literal text none other (Number _) is = absurd is
no_literal text none other (Decimal _ _) is = absurd is
no_literal text none other (Port _ _) is = absurd is
no_literal text none other (Word _) is = absurd is
no_literal text none other (Text _) is = absurd is
no_literal text none other (Bytes _) is = absurd is
no_literal text none other (Mark _) is = absurd is
no_literal text none other LineEnd is = absurd is
