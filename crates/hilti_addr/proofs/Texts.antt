-- A text of either form is read as one address, or as one net.
use Rattle.std.proofs.Common.{◌≡◌, ℕ, ◌<◌, List, [], ◌∷◌, ◌++◌, length, get_or, refl, sym, ap, ◌∙◌, arith}
use Rattle.std.specs.Str.Parse.{IsNumeral}
use Rattle.std.proofs.Math.ListN.{get_or-append}
use Rattle.std.proofs.lemmas.List.{length-append}
use Rattle.std.proofs.lemmas.Str.Parse.{digit_from_value}
use Rattle.hilti_addr.specs.declared.net.Net.{Net}
use Rattle.hilti_addr.specs.Brackets.{IsBracketAddress, IsBracketNet}
use Rattle.hilti_addr.specs.Texts.{IsAddress, IsDottedAddress, IsDottedNet, IsNet, bracketed, bracketed_net, dotted, dotted_net}
use Rattle.hilti_addr.proofs.Spelled.{one_bracket, one_bracket_net}
use Rattle.hilti_addr.proofs.Forms.{one_dotted, one_dotted_net}

-- a dotted address begins with a digit, and one between brackets with `[`
first_digit : (text : List ℕ) → IsNumeral 10 text → get_or text 0 0 < 58
first_digit [] is = let some = is.0 in absurd (omega (arith, some))
first_digit (c ∷ cs) is = let range = digit_from_value c is.1.0 in omega (arith, range.0, range.1)

front_first : (text front back : List ℕ) → text ≡ front ++ back → 0 < length front → get_or text 0 0 ≡ get_or front 0 0
front_first text front back e some = ap (λ (t : List ℕ). get_or t 0 0) e ∙ get_or-append front back 0 0 some

dotted_begins : (text : List ℕ) (address : ℕ) → IsDottedAddress text address → get_or text 0 0 < 58
dotted_begins text address is =
    let same = front_first text is.first (46 ∷ (is.second ++ 46 ∷ (is.third ++ 46 ∷ is.fourth))) is.parts is.at_first.digits.0 in
    omega (arith, same, first_digit is.first is.at_first.digits)

dotted_some : (text : List ℕ) (address : ℕ) → IsDottedAddress text address → 0 < length text
dotted_some text address is =
    omega (arith, ap length is.parts, length-append is.first (46 ∷ (is.second ++ 46 ∷ (is.third ++ 46 ∷ is.fourth))))

bracket_begins : (text : List ℕ) (address : ℕ) → IsBracketAddress text address → get_or text 0 0 ≡ 91
bracket_begins text address is = ap (λ (t : List ℕ). get_or t 0 0) is.parts

bracket_some : (text : List ℕ) (address : ℕ) → IsBracketAddress text address → 0 < length text
bracket_some text address is = omega (arith, ap length is.parts)

pub dotted_net_begins : (text : List ℕ) (net : Net) → IsDottedNet text net → get_or text 0 0 < 58
dotted_net_begins text net is =
    let same = front_first text is.front (47 ∷ is.back) is.parts (dotted_some is.front is.address is.at_front) in
    omega (arith, same, dotted_begins is.front is.address is.at_front)

pub bracket_net_begins : (text : List ℕ) (net : Net) → IsBracketNet text net → get_or text 0 0 ≡ 91
bracket_net_begins text net is =
    front_first text is.front (47 ∷ is.back) is.parts (bracket_some is.front is.address is.at_front)
    ∙ bracket_begins is.front is.address is.at_front

not_both : (text : List ℕ) (address other : ℕ) → IsDottedAddress text address → IsBracketAddress text other → ⊥
not_both text address other is is' =
    omega (arith, dotted_begins text address is, bracket_begins text other is')

not_both_nets : (text : List ℕ) (net other : Net) → IsDottedNet text net → IsBracketNet text other → ⊥
not_both_nets text net other is is' =
    omega (arith, dotted_net_begins text net is, bracket_net_begins text other is')

pub one_address : (text : List ℕ) (address other : ℕ) → IsAddress text address → IsAddress text other → address ≡ other
one_address text address other (dotted is) (dotted is') = one_dotted text address other is is'
one_address text address other (dotted is) (bracketed is') = absurd (not_both text address other is is')
one_address text address other (bracketed is) (dotted is') = absurd (not_both text other address is' is)
one_address text address other (bracketed is) (bracketed is') = one_bracket text address other is is'

pub one_net : (text : List ℕ) (net other : Net) → IsNet text net → IsNet text other → net ≡ other
one_net text net other (dotted_net is) (dotted_net is') = one_dotted_net text net other is is'
one_net text net other (dotted_net is) (bracketed_net is') = absurd (not_both_nets text net other is is')
one_net text net other (bracketed_net is) (dotted_net is') = absurd (not_both_nets text other net is' is)
one_net text net other (bracketed_net is) (bracketed_net is') = one_bracket_net text net other is is'

-- a text of neither form is none
pub no_address : (text : List ℕ) → ((address : ℕ) → ¬ (IsDottedAddress text address)) → ((address : ℕ) → ¬ (IsBracketAddress text address))
    → (address : ℕ) → ¬ (IsAddress text address)
no_address text none other address (dotted is) = none address is
no_address text none other address (bracketed is) = other address is

pub no_net : (text : List ℕ) → ((net : Net) → ¬ (IsDottedNet text net)) → ((net : Net) → ¬ (IsBracketNet text net))
    → (net : Net) → ¬ (IsNet text net)
no_net text none other net (dotted_net is) = none net is
no_net text none other net (bracketed_net is) = other net is
