-- An item where it stands, as the code has it.
use Rattle.std.specs.Prelude.{◌≡◌, ◌++◌, ℕ, List, [], length, map, Result}
use Rattle.hilti_scope.specs.declared.scope.Scope.{Scope}
use Rattle.hilti_scope.specs.Scopes.{AreOf, Sees}
use Rattle.hilti_base.specs.declared.refusal.Refusal.{Refusal}
use Rattle.hilti_module.specs.declared.module.Item.{Item}
use Rattle.hilti_module.specs.declared.module.Module.{Module}
use Rattle.hilti_module.specs.declared.module.Parameter.{Parameter}
use Rattle.hilti_link.specs.declared.standing.Context.{Context}
use Rattle.hilti_link.specs.declared.standing.Standing.{Standing}
use Rattle.hilti_link.specs.declared.tables.Tables.{Tables}
use Rattle.hilti_link.specs.InTurn.{Answers, behind_all}
use Rattle.hilti_link.specs.Linking.{entering, behind_item}
use Rattle.hilti_link.specs.Announcing.{shows}
use Rattle.hilti_link.specs.Hooks.{announced}
use Rattle.hilti_link.specs.Items.{Seen, item_refusal, tables_behind}
use Rattle.hilti_link.specs.TypedWords.{names_of}

-- what all items of these modules see
pub record IsContext (modules : List Module) (context : Context) : Type 0 where
  pub declarations_are : AreOf modules context.declarations
  pub hooks_are : map shows context.hooks.items ≡ announced modules

-- an item stands where it sees this
pub record Stands (seen : Seen) (standing : Standing) : Type 0 where
  pub owner_is : standing.owner.now ≡ seen.owner
  pub version_is : standing.version ≡ seen.version
  pub file_is : standing.file ≡ seen.file
  pub at_is : standing.at ≡ seen.at
  pub here_is : standing.here ≡ seen.here

-- a scope is that of the item, behind these parameters and locals
abbrev pub SeesBehind : Seen → List (List ℕ) → Scope → Type 0
SeesBehind seen locals scope = Sees seen.modules seen.file seen.here locals scope

abbrev pub SeesPlain : Seen → Scope → Type 0
SeesPlain seen scope = SeesBehind seen [] scope

-- what holds of all that an item may see that stands there
abbrev pub ForStanding : Standing → (Seen → Type 0) → Type 0
ForStanding standing holds = (seen : Seen) → Stands seen standing → holds seen

-- what holds of all that may be seen in a scope without parameters and locals
abbrev pub WhereSeen : Scope → (Seen → Type 0) → Type 0
WhereSeen scope holds = (seen : Seen) → SeesPlain seen scope → holds seen

-- what holds of all that an item may see that stands there, behind these tables
abbrev pub ForItem : Context → Standing → Tables → (Seen → Type 0) → Type 0
ForItem context standing tables holds =
    (seen : Seen) → IsContext seen.modules context → Stands seen standing → seen.tables ≡ tables
    → holds seen

-- the tables behind an item are these
abbrev pub Adds : Context → Standing → Tables → Item → Tables → Type 0
Adds context standing before item after =
    ForItem context standing before (λ seen. after ≡ tables_behind seen item)

-- an answer is that of an item
abbrev pub AnswersFor :
    {A : Type 0} → Context → Standing → Tables → Item → Result A Refusal → Type 0
AnswersFor context standing before item result =
    ForItem context standing before (λ seen. Answers result (item_refusal seen item))

-- a scope with more parameters and locals, the first of which has this number
abbrev pub HidesAll : List Parameter → ℕ → Scope → Scope → Type 0
HidesAll words first old new =
    (modules : List Module) (file here : ℕ) (locals : List (List ℕ))
    → Sees modules file here locals old
    → first ≡ length locals → Sees modules file here (locals ++ names_of words) new

-- a module begins where it sees this
pub record Enters (seen : Seen) (file here : ℕ) : Type 0 where
  pub file_is : file ≡ seen.file
  pub here_is : here ≡ seen.here

-- what holds of all that a module may see that begins there, behind these tables
abbrev pub ForModule : Context → ℕ → ℕ → Tables → (Seen → Type 0) → Type 0
ForModule context file here tables holds =
    (seen : Seen) → IsContext seen.modules context → Enters seen file here → seen.tables ≡ tables
    → holds seen

-- what is declared behind a module
abbrev pub tables_behind_module : Seen → Module → Tables
tables_behind_module seen m =
    let behind = behind_all behind_item (entering seen m) m.items in behind.tables
