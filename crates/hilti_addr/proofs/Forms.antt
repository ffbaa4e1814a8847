-- What stands at the front of a text that has a form is what was read there, and it has one value.
use Rattle.std.proofs.Common.{◌≡◌, ◌≢◌, ℕ, ◌+◌, ◌*◌, ◌^◌, ◌<◌, List, ◌∷◌, ◌++◌, get_or, refl, sym, ap, ◌∙◌, subst, arith, Bool, true, false}
use Rattle.hilti_base.specs.Numerals.{IsNumber, IsSplit, Lacks}
use Rattle.hilti_base.proofs.Splits.{behind_number, digits_lack, joined_lack, nowhere, one_number, one_split, longer_lacks}
use Rattle.hilti_addr.specs.declared.net.Net.{Net}
use Rattle.hilti_addr.specs.declared.port.Port.{Port}
use Rattle.hilti_addr.specs.Masks.{mapped, net_of}
use Rattle.hilti_addr.specs.Texts.{IsDottedAddress, IsDottedNet, IsPart, IsPort, protocol}

part_splits : (text : List ℕ) (n : ℕ) (rest : List ℕ) → (is : IsPart text n rest) → IsSplit 46 text is.front rest
part_splits text n rest is = behind_number 46 255 text is.front rest n (omega arith) is.parts is.number

-- no part: there is no point, or what is before the first is no number
pub no_point : (text : List ℕ) → Lacks 46 text → (n : ℕ) (rest : List ℕ) → ¬ (IsPart text n rest)
no_point text lacks n rest is = nowhere 46 text is.front rest lacks is.parts

pub no_part : (text front back : List ℕ) → IsSplit 46 text front back → ((n : ℕ) → ¬ (IsNumber 255 front n))
    → (n : ℕ) (rest : List ℕ) → ¬ (IsPart text n rest)
no_part text front back split none n rest is =
    let both = one_split 46 text front is.front back rest split (part_splits text n rest is) in
    none n (subst (λ f. IsNumber 255 f n) (sym both.0) is.number)

one_part : (text : List ℕ) (n n' : ℕ) (rest rest' : List ℕ) → IsPart text n rest → IsPart text n' rest'
    → (n ≡ n') × (rest ≡ rest')
one_part text n n' rest rest' is is' =
    let both = one_split 46 text is.front is'.front rest rest' (part_splits text n rest is) (part_splits text n' rest' is') in
    (one_number 255 is'.front n n' (subst (λ f. IsNumber 255 f n) both.0 is.number) is'.number, both.1)

-- an address as three parts and a number
first_part : (text : List ℕ) (address : ℕ) → (is : IsDottedAddress text address)
    → IsPart text is.a (is.second ++ 46 ∷ (is.third ++ 46 ∷ is.fourth))
first_part text address is = record { front = is.first; parts = is.parts; number = is.at_first }

second_part : (text : List ℕ) (address : ℕ) → (is : IsDottedAddress text address)
    → IsPart (is.second ++ 46 ∷ (is.third ++ 46 ∷ is.fourth)) is.b (is.third ++ 46 ∷ is.fourth)
second_part text address is = record { front = is.second; parts = refl; number = is.at_second }

third_part : (text : List ℕ) (address : ℕ) → (is : IsDottedAddress text address)
    → IsPart (is.third ++ 46 ∷ is.fourth) is.c is.fourth
third_part text address is = record { front = is.third; parts = refl; number = is.at_third }

abbrev pub NoPart : List ℕ → Type 0
NoPart text = (n : ℕ) (rest : List ℕ) → ¬ (IsPart text n rest)

pub no_first : (text : List ℕ) → NoPart text → (address : ℕ) → ¬ (IsDottedAddress text address)
no_first text none address is = none is.a _ (first_part text address is)

-- what is left behind the parts that were read
after_first : (text rest : List ℕ) (n : ℕ) → IsPart text n rest → (address : ℕ) → (is : IsDottedAddress text address)
    → (n ≡ is.a) × (rest ≡ is.second ++ 46 ∷ (is.third ++ 46 ∷ is.fourth))
after_first text rest n part address is = one_part text n is.a rest _ part (first_part text address is)

after_second : (text rest later : List ℕ) (n m : ℕ) → IsPart text n rest → IsPart rest m later → (address : ℕ)
    → (is : IsDottedAddress text address) → (m ≡ is.b) × (later ≡ is.third ++ 46 ∷ is.fourth)
after_second text rest later n m part next address is =
    let before = after_first text rest n part address is in
    one_part _ m is.b later _ (subst (λ l. IsPart l m later) before.1 next) (second_part text address is)

after_third : (text rest later last : List ℕ) (n m k : ℕ) → IsPart text n rest → IsPart rest m later
    → IsPart later k last → (address : ℕ) → (is : IsDottedAddress text address) → (k ≡ is.c) × (last ≡ is.fourth)
after_third text rest later last n m k part next third address is =
    let before = after_second text rest later n m part next address is in
    one_part _ k is.c last _ (subst (λ l. IsPart l k last) before.1 third) (third_part text address is)

pub no_second : (text rest : List ℕ) (n : ℕ) → IsPart text n rest → NoPart rest → (address : ℕ)
    → ¬ (IsDottedAddress text address)
no_second text rest n part none address is =
    let before = after_first text rest n part address is in
    none is.b _ (subst (λ l. IsPart l is.b (is.third ++ 46 ∷ is.fourth)) (sym before.1) (second_part text address is))

pub no_third : (text rest later : List ℕ) (n m : ℕ) → IsPart text n rest → IsPart rest m later → NoPart later
    → (address : ℕ) → ¬ (IsDottedAddress text address)
no_third text rest later n m part next none address is =
    let before = after_second text rest later n m part next address is in
    none is.c _ (subst (λ l. IsPart l is.c is.fourth) (sym before.1) (third_part text address is))

pub no_fourth : (text rest later last : List ℕ) (n m k : ℕ) → IsPart text n rest → IsPart rest m later
    → IsPart later k last → ((d : ℕ) → ¬ (IsNumber 255 last d)) → (address : ℕ) → ¬ (IsDottedAddress text address)
no_fourth text rest later last n m k part next third none address is =
    let before = after_third text rest later last n m k part next third address is in
    none is.d (subst (λ f. IsNumber 255 f is.d) (sym before.1) is.at_fourth)

pub an_address : (text rest later last : List ℕ) (a b c d address : ℕ) → IsPart text a rest → IsPart rest b later
    → IsPart later c last → IsNumber 255 last d → address ≡ mapped (a * 2 ^ 24 + b * 2 ^ 16 + c * 2 ^ 8 + d)
    → IsDottedAddress text address
an_address text rest later last a b c d address part next third is value = record {
  first = part.front;
  second = next.front;
  third = third.front;
  fourth = last;
  a = a;
  b = b;
  c = c;
  d = d;
  parts = part.parts ∙ ap (λ l. part.front ++ 46 ∷ l) (next.parts ∙ ap (λ l. next.front ++ 46 ∷ l) third.parts);
  at_first = part.number;
  at_second = next.number;
  at_third = third.number;
  at_fourth = is;
  value = value;
}

pub one_dotted : (text : List ℕ) (address address' : ℕ) → IsDottedAddress text address → IsDottedAddress text address'
    → address ≡ address'
one_dotted text address address' is is' =
    let first = after_first text _ is.a (first_part text address is) address' is' in
    let second = after_second text _ _ is.a is.b (first_part text address is) (second_part text address is) address' is' in
    let third =
    after_third text _ _ is.fourth is.a is.b is.c (first_part text address is) (second_part text address is)
    (third_part text address is) address' is' in
    let a : is.a ≡ is'.a = first.0 in
    let b : is.b ≡ is'.b = second.0 in
    let c : is.c ≡ is'.c = third.0 in
    let d : is.d ≡ is'.d
    = one_number 255 is'.fourth is.d is'.d (subst (λ f. IsNumber 255 f is.d) third.1 is.at_fourth) is'.at_fourth in
    let value = is.value in let value' = is'.value in
    omega (arith, value, value', a, b, c, d)

-- no address has a slash
part_lacks : (text front rest : List ℕ) → text ≡ front ++ 46 ∷ rest → (n : ℕ) → IsNumber 255 front n → Lacks 47 rest
    → Lacks 47 text
part_lacks text front rest e n is lacks =
    let low : 47 < 48 = omega arith in
    let point : 46 ≢ 47 = λ (same : 46 ≡ 47). omega (arith, same) in
    subst (Lacks 47) (sym e)
    (joined_lack 47 front (46 ∷ rest) (digits_lack 47 front low is.digits.1) (longer_lacks 47 46 rest point lacks))

pub address_lacks : (text : List ℕ) (address : ℕ) → IsDottedAddress text address → Lacks 47 text
address_lacks text address is =
    part_lacks text is.first _ is.parts is.a is.at_first
    (part_lacks _ is.second _ refl is.b is.at_second
    (part_lacks _ is.third is.fourth refl is.c is.at_third (digits_lack 47 is.fourth (omega arith) is.at_fourth.digits.1)))

-- a net's text, from what stands around the first slash
net_splits : (text : List ℕ) (net : Net) → (is : IsDottedNet text net) → IsSplit 47 text is.front is.back
net_splits text net is = record { parts = is.parts; first = address_lacks is.front is.address is.at_front }

pub net_parts : (text front back : List ℕ) (net : Net) → IsSplit 47 text front back → (is : IsDottedNet text net)
    → IsDottedAddress front is.address × IsNumber 32 back is.len
net_parts text front back net split is =
    let both = one_split 47 text front is.front back is.back split (net_splits text net is) in (
      subst (λ f. IsDottedAddress f is.address) (sym both.0) is.at_front,
      subst (λ f. IsNumber 32 f is.len) (sym both.1) is.at_back,
    )

pub no_slash_net : (text : List ℕ) → Lacks 47 text → (net : Net) → ¬ (IsDottedNet text net)
no_slash_net text lacks net is = nowhere 47 text is.front is.back lacks is.parts

pub one_dotted_net : (text : List ℕ) (net net' : Net) → IsDottedNet text net → IsDottedNet text net' → net ≡ net'
one_dotted_net text net net' is is' =
    let parts = net_parts text is'.front is'.back net (net_splits text net' is') is in
    let address : is.address ≡ is'.address = one_dotted is'.front is.address is'.address parts.0 is'.at_front in
    let len : is.len ≡ is'.len = one_number 32 is'.back is.len is'.len parts.1 is'.at_back in
    is.value ∙ ap (λ n. net_of n is.len) address ∙ ap (λ n. net_of is'.address n) len ∙ sym is'.value

-- a port's text, likewise
port_splits : (text : List ℕ) (port : Port) → (is : IsPort text port) → IsSplit 47 text is.front (protocol port.udp)
port_splits text port is =
    behind_number 47 65535 text is.front (protocol port.udp) port.number (omega arith) is.parts is.at_front

pub port_parts : (text front back : List ℕ) (port : Port) → IsSplit 47 text front back → IsPort text port
    → IsNumber 65535 front port.number × (back ≡ protocol port.udp)
port_parts text front back port split is =
    let both = one_split 47 text front is.front back (protocol port.udp) split (port_splits text port is) in
    (subst (λ f. IsNumber 65535 f port.number) (sym both.0) is.at_front, both.1)

pub no_slash_port : (text : List ℕ) → Lacks 47 text → (port : Port) → ¬ (IsPort text port)
no_slash_port text lacks port is = nowhere 47 text is.front (protocol port.udp) lacks is.parts

one_protocol : (udp udp' : Bool) → protocol udp ≡ protocol udp' → udp ≡ udp'
one_protocol true true e = refl
one_protocol false false e = refl
one_protocol true false e =
    let first : 117 ≡ 116 = ap (λ l. get_or l 0 0) e in absurd (omega (arith, first))
one_protocol false true e =
    let first : 116 ≡ 117 = ap (λ l. get_or l 0 0) e in absurd (omega (arith, first))

pub one_port : (text : List ℕ) (port port' : Port) → IsPort text port → IsPort text port' → port ≡ port'
one_port text port port' is is' =
    let parts = port_parts text is'.front (protocol port'.udp) port (port_splits text port' is') is in
    let number : port.number ≡ port'.number = one_number 65535 is'.front port.number port'.number parts.0 is'.at_front in
    let udp : port.udp ≡ port'.udp = one_protocol port.udp port'.udp (sym parts.1) in
    λ i. record { number = number i; udp = udp i }
