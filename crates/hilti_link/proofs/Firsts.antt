-- Of things that are judged in turn, the one that is refused.
use Rattle.std.proofs.Common.{◌≡◌, refl, sym, ◌∙◌, ap, List, [], ◌∷◌, ◌++◌, Option, Some, None}
use Rattle.std.specs.Option.{option_or}
use Rattle.hilti_base.specs.declared.refusal.Refusal.{Refusal}
use Rattle.hilti_link.specs.InTurn.{behind_all, first_in_turn}
use Rattle.hilti_link.specs.Items.{item_refusal}
use Rattle.hilti_link.specs.Linking.{behind_item, behind_module, module_refusal, seen_first}
use Rattle.hilti_link.specs.Laws.{AreAccepted, FirstItem, FirstModule, IsFirst}

module _ {S X : Type 0} (judge : S → X → Option Refusal) (behind : S → X → S) where
  accepted_none : (known : S) → AreAccepted judge behind known []
  accepted_none known [] after next is = cc
  accepted_none known (first ∷ before) after next is = cc

  accepted_more : (known : S) (first : X) (more : List X) → judge known first ≡ None
      → AreAccepted judge behind (behind known first) more → AreAccepted judge behind known (first ∷ more)
  unfolding behind_all
  accepted_more known first more none rest [] after next is =
      let same : first ≡ next = cc in
      ap (judge known) (sym same) ∙ none
  accepted_more known first more none rest (front ∷ before) after next is =
      let same : first ≡ front = cc in
      let others : more ≡ before ++ next ∷ after = cc in
      ap (λ one. judge (behind_all behind (behind known one) before) next) (sym same) ∙ rest before after next others

  -- a further one in front of those that are judged
  one_more : (known : S) (first : X) (more : List X) (refusal : Refusal) → judge known first ≡ None
      → IsFirst judge behind (behind known first) more refusal → IsFirst judge behind known (first ∷ more) refusal
  unfolding behind_all
  one_more known first more refusal none is = record {
    before = first ∷ is.before;
    next = is.next;
    after = is.after;
    parts = ap (λ rest. first ∷ rest) is.parts;
    refused = is.refused;
    none = accepted_more known first is.before none is.none;
  }

  first_found : (known : S) (all : List X) (refusal : Refusal) → first_in_turn judge behind known all ≡ Some refusal
      → IsFirst judge behind known all refusal
  unfolding first_in_turn behind_all
  first_found known [] refusal is = cc
  first_found known (first ∷ more) refusal is = by (judge known first) (first_found (behind known first) more refusal) refl is
    where
      by : (told : Option Refusal)
          → (first_in_turn judge behind (behind known first) more ≡ Some refusal → IsFirst judge behind (behind known first) more refusal)
          → judge known first ≡ told
          → option_or told (first_in_turn judge behind (behind known first) more) ≡ Some refusal
          → IsFirst judge behind known (first ∷ more) refusal
      by (Some found) rest told is = record {
        before = [];
        next = first;
        after = more;
        parts = refl;
        refused = told ∙ is;
        none = accepted_none known;
      }
      by None rest told is = one_more known first more refusal told (rest is)

pub first_item : FirstItem
first_item seen inside refusal is = first_found item_refusal behind_item seen inside refusal is

pub first_module : FirstModule
first_module modules refusal is = first_found module_refusal behind_module (seen_first modules) modules refusal is
