-- Addresses and nets are read back from their texts.
use Rattle.std.proofs.Common.{◌≡◌, ◌≢◌, ℕ, ◌+◌, ◌-◌, ◌*◌, ◌/◌, ◌%◌, ◌^◌, ◌<◌, ◌≤◌, List, [], ◌∷◌, ◌++◌, length, decimal, codes, append_assoc, refl, sym, ap, ◌∙◌, subst, arith, inl, inr, eq-eqb, ne_eqb}
use Rattle.std.proofs.Math.Nat.{mul_assoc}
use Rattle.std.proofs.lemmas.Bool.{cases_eq, cases_lt}
use Rattle.std.proofs.lemmas.Fmt.{decimal_digit, decimal_is_IsNumeral, first_decimal}
use Rattle.std.proofs.lemmas.Nat.{mod-pow-add, pow-add}
use Rattle.std.specs.Net.Text.{hex_groups_text}
use Rattle.hilti_base.specs.Numerals.{IsNumber}
use Rattle.hilti_addr.specs.declared.net.Net.{Net}
use Rattle.hilti_addr.specs.Brackets.{IsBracketNet}
use Rattle.hilti_addr.specs.Masks.{bits_above, masked, net_of}
use Rattle.hilti_addr.specs.Texts.{IsAddress, IsDottedAddress, IsDottedNet, IsNet, bracketed, bracketed_net, dotted, dotted_net}
use Rattle.hilti_print.specs.Addresses.{IsMasked, address_literal, address_text, groups_of, ipv4_text, net_literal}
use Rattle.hilti_print.proofs.Spellings.{bracket_back}

number_read : (most n : ℕ) → n ≤ most → most < 2 ^ 64 → IsNumber most (decimal n) n
number_read most n within small =
    let fits : n < 2 ^ 64 = omega (arith, within, small) in
    let is = decimal_is_IsNumeral n fits in
    record {
      digits = is.0;
      plain = elim (cases_eq n 0) [
        | inl zero ↦ inl (ap (λ k. length (decimal k)) zero ∙ ap length (decimal_digit 0 (omega arith)))
        | inr some ↦ inr (λ same. let first = first_decimal n (omega (arith, some)) fits in omega (arith, first, same))
      ];
      value = sym is.1;
      small = within;
    }

three_dots : (a b c : List ℕ) → a ++ codes "." ++ b ++ codes "." ++ c ≡ a ++ 46 ∷ (b ++ 46 ∷ c)
three_dots a b c =
    append_assoc (a ++ codes "." ++ b) (codes ".") c
    ∙ ap (λ t. t ++ 46 ∷ c) (append_assoc a (codes ".") b)
    ∙ append_assoc a (46 ∷ b) (46 ∷ c)

four_dots : (a b c d : List ℕ) → a ++ codes "." ++ b ++ codes "." ++ c ++ codes "." ++ d
    ≡ a ++ 46 ∷ (b ++ 46 ∷ (c ++ 46 ∷ d))
four_dots a b c d =
    append_assoc (a ++ codes "." ++ b ++ codes "." ++ c) (codes ".") d
    ∙ ap (λ t. t ++ 46 ∷ d) (three_dots a b c)
    ∙ append_assoc a (46 ∷ (b ++ 46 ∷ c)) (46 ∷ d)
    ∙ ap (λ t. a ++ 46 ∷ t) (append_assoc b (46 ∷ c) (46 ∷ d))

-- an IPv4 address is the number of its bytes
bytes_of : (a b m c n d o e : ℕ) → a % 2 ^ 32 ≡ b * 2 ^ 24 + m → m ≡ c * 2 ^ 16 + n → n ≡ d * 2 ^ 8 + o → o ≡ e
    → a / 2 ^ 32 ≡ 0xffff → a ≡ 0xffff * 2 ^ 32 + (b * 2 ^ 24 + c * 2 ^ 16 + d * 2 ^ 8 + e)
bytes_of a b m c n d o e one two three four top = omega (arith, one, two, three, four, top)

dotted_back : (a : ℕ) → a / 2 ^ 32 ≡ 0xffff → IsDottedAddress (ipv4_text a) a
dotted_back a top =
    let last : a % 2 ^ 8 ≡ a / 2 ^ 0 % 2 ^ 8 = omega arith in
    record {
      first = decimal (a / 2 ^ 24 % 2 ^ 8);
      second = decimal (a / 2 ^ 16 % 2 ^ 8);
      third = decimal (a / 2 ^ 8 % 2 ^ 8);
      fourth = decimal (a / 2 ^ 0 % 2 ^ 8);
      a = a / 2 ^ 24 % 2 ^ 8;
      b = a / 2 ^ 16 % 2 ^ 8;
      c = a / 2 ^ 8 % 2 ^ 8;
      d = a / 2 ^ 0 % 2 ^ 8;
      parts =
          four_dots (decimal (a / 2 ^ 24 % 2 ^ 8)) (decimal (a / 2 ^ 16 % 2 ^ 8)) (decimal (a / 2 ^ 8 % 2 ^ 8))
          (decimal (a / 2 ^ 0 % 2 ^ 8));
      at_first = number_read 255 _ (omega arith) (omega arith);
      at_second = number_read 255 _ (omega arith) (omega arith);
      at_third = number_read 255 _ (omega arith) (omega arith);
      at_fourth = number_read 255 _ (omega arith) (omega arith);
      value = bytes_of a _ _ _ _ _ _ _ (mod-pow-add a 8 24) (mod-pow-add a 8 16) (mod-pow-add a 8 8) last top;
    }

pub address_back : (address : ℕ) → address < 2 ^ 128 → IsAddress (address_literal address) address
unfolding address_text
address_back address fits = elim (cases_eq (address / 2 ^ 32) 0xffff) [
  | inl top ↦ rw (eq-eqb _ _ top) (dotted (dotted_back address top))
  | inr other ↦ rw (ne_eqb _ _ other) (bracketed (bracket_back address fits))
]

-- a net whose address is an IPv4 one has 96 bits or more
odd_bit : (a r : ℕ) → r * 2 ^ 33 ≡ a → a / 2 ^ 32 ≡ 0xffff → ⊥
odd_bit a r even top = omega (arith, even, top)

long_enough : (a len : ℕ) → a / 2 ^ 32 ≡ 0xffff → masked a len ≡ a → 96 ≤ len
long_enough a len top cleared = elim (cases_lt len 96) [
  | inl short ↦
      let more : ℕ = 95 - len in
      let bits : 128 - len ≡ more + 33 = omega (arith, short) in
      let power : 2 ^ (128 - len) ≡ 2 ^ more * 2 ^ 33 = ap (λ k. 2 ^ k) bits ∙ pow-add 2 more 33 in
      let kept : ℕ = a / 2 ^ (128 - len) in
      let parts : kept * 2 ^ (128 - len) ≡ kept * 2 ^ more * 2 ^ 33
      = ap (λ p. kept * p) power ∙ sym (mul_assoc kept (2 ^ more) (2 ^ 33)) in
      absurd (odd_bit a (kept * 2 ^ more) (sym parts ∙ cleared) top)
  | inr long ↦ long
]

ipv4_net : (net : Net) → IsMasked net → net.addr / 2 ^ 32 ≡ 0xffff → net ≡ net_of net.addr (net.len - 96)
ipv4_net net is top =
    let long = long_enough net.addr net.len top is.cleared in
    let count : 96 + (net.len - 96) ≡ net.len = omega (arith, long) in
    let above : bits_above net.addr ≡ 96 = rw (eq-eqb _ _ top) in
    let len : net.len ≡ bits_above net.addr + (net.len - 96) = omega (arith, above, count) in
    let addr : net.addr ≡ masked net.addr (bits_above net.addr + (net.len - 96)) = sym is.cleared ∙ ap (masked net.addr) len in
    λ i. record { addr = addr i; len = len i }

wide_net : (net : Net) → IsMasked net → net ≡ record { addr = masked net.addr net.len; len = net.len }
wide_net net is = λ i. record { addr = sym is.cleared i; len = net.len }

dotted_net_back : (net : Net) → IsMasked net → net.addr / 2 ^ 32 ≡ 0xffff
    → IsDottedNet (ipv4_text net.addr ++ 47 ∷ decimal (net.len - 96)) net
dotted_net_back net is top =
    let within = is.within in
    record {
      front = ipv4_text net.addr;
      back = decimal (net.len - 96);
      address = net.addr;
      len = net.len - 96;
      parts = refl;
      at_front = dotted_back net.addr top;
      at_back = number_read 32 _ (omega (arith, within)) (omega arith);
      value = ipv4_net net is top;
    }

bracket_net_back : (net : Net) → IsMasked net
    → IsBracketNet (91 ∷ (hex_groups_text (groups_of net.addr) ++ 93 ∷ []) ++ 47 ∷ decimal net.len) net
bracket_net_back net is = record {
  front = 91 ∷ (hex_groups_text (groups_of net.addr) ++ 93 ∷ []);
  back = decimal net.len;
  address = net.addr;
  len = net.len;
  parts = refl;
  at_front = bracket_back net.addr is.fits;
  at_back = number_read 128 _ is.within (omega arith);
  value = wide_net net is;
}

ipv4_literal : (net : Net) → net.addr / 2 ^ 32 ≡ 0xffff
    → net_literal net ≡ ipv4_text net.addr ++ 47 ∷ decimal (net.len - 96)
unfolding address_text
ipv4_literal net top =
    rw (eq-eqb _ _ top) (append_assoc (ipv4_text net.addr) (codes "/") (decimal (net.len - 96)))

wide_literal : (net : Net) → net.addr / 2 ^ 32 ≢ 0xffff
    → net_literal net ≡ 91 ∷ (hex_groups_text (groups_of net.addr) ++ 93 ∷ []) ++ 47 ∷ decimal net.len
unfolding address_text
wide_literal net other =
    let front : List ℕ = 91 ∷ (hex_groups_text (groups_of net.addr) ++ 93 ∷ []) in
    let all : net.len - 0 ≡ net.len = omega arith in
    rw (ne_eqb _ _ other)
    (append_assoc front (codes "/") (decimal (net.len - 0)) ∙ ap (λ n. front ++ 47 ∷ decimal n) all)

pub net_back : (net : Net) → IsMasked net → IsNet (net_literal net) net
net_back net is = elim (cases_eq (net.addr / 2 ^ 32) 0xffff) [
  | inl top ↦ subst (λ t. IsNet t net) (sym (ipv4_literal net top)) (dotted_net (dotted_net_back net is top))
  | inr other ↦ subst (λ t. IsNet t net) (sym (wide_literal net other)) (bracketed_net (bracket_net_back net is))
]
