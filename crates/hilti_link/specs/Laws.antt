-- What is known of all modules that are linked or refused.
use Rattle.std.specs.Prelude.{◌≡◌, ◌≢◌, ℕ, List, ◌∷◌, ◌++◌, Option, Some, None}
use Rattle.hilti_base.specs.declared.names.Place.{Place}
use Rattle.hilti_base.specs.declared.refusal.Refusal.{Refusal}
use Rattle.hilti_base.specs.declared.refusal.Refusal.TheVariants.{At}
use Rattle.hilti_module.specs.declared.module.Item.{Item}
use Rattle.hilti_module.specs.declared.module.Module.{Module}
use Rattle.hilti_link.specs.declared.linking.Linked.{Linked}
use Rattle.hilti_link.specs.InTurn.{behind_all}
use Rattle.hilti_link.specs.Items.{Seen, item_refusal}
use Rattle.hilti_link.specs.Linking.{behind_item, behind_module, items_refusal, module_refusal}
use Rattle.hilti_link.specs.Linking.{modules_refusal, seen_first}
use Rattle.hilti_link.specs.Refusals.{first_refusal}

-- each of some things that are judged in turn is accepted
abbrev pub AreAccepted :
    {S X : Type 0} → (S → X → Option Refusal) → (S → X → S) → S → List X → Type 0
AreAccepted {S} {X} judge behind known all =
    (before after : List X) (next : X) → all ≡ before ++ next ∷ after
    → judge (behind_all behind known before) next ≡ None

-- modules that are linked aren't refused
abbrev pub NeverBoth : Type 0
NeverBoth = (linked : Linked) (refusal : Refusal) → first_refusal linked.modules ≢ Some refusal

-- modules are refused with one code, at one place
abbrev pub OneRefusal : Type 0
OneRefusal =
    (modules : List Module) (a b : Place) (code other : ℕ)
    → first_refusal modules ≡ Some (At a code) → first_refusal modules ≡ Some (At b other)
    → (a ≡ b) × (code ≡ other)

-- Of some things that are judged in turn, each over what is known behind those in front of it, this
-- is the one that is refused, and none in front of it is.
pub record IsFirst {S X : Type 0} (judge : S → X → Option Refusal) (behind : S → X → S) (known : S)
    (all : List X) (refusal : Refusal) : Type 0 where
  pub before : List X
  pub next : X
  pub after : List X
  pub parts : all ≡ before ++ next ∷ after
  pub refused : judge (behind_all behind known before) next ≡ Some refusal
  pub none : AreAccepted judge behind known before

-- the refusal of the items of a module is that of one of them, and those in front of it aren't
-- refused
abbrev pub FirstItem : Type 0
FirstItem =
    (seen : Seen) (inside : List Item) (refusal : Refusal)
    → items_refusal seen inside ≡ Some refusal
    → IsFirst item_refusal behind_item seen inside refusal

-- the refusal of modules is that of one of them, and those in front of it aren't refused
abbrev pub FirstModule : Type 0
FirstModule =
    (modules : List Module) (refusal : Refusal) → modules_refusal modules ≡ Some refusal
    → IsFirst module_refusal behind_module (seen_first modules) modules refusal

-- modules that are linked declare one thing
abbrev pub OneMeaning : Type 0
OneMeaning = (a b : Linked) → a.modules ≡ b.modules → a.tables ≡ b.tables
