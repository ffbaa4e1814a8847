-- Calls that are fed, one after another.
use Rattle.std.proofs.Common.{◌≡◌, ℕ, List, [], ◌∷◌, ◌++◌, Some, ap, sym, ◌∙◌, subst, refl, append_assoc}
use Rattle.std.specs.Prelude.{map}
use Rattle.std.specs.List.{All}
use Rattle.std.proofs.lemmas.List.Elements.{All-nil, All-cons, All-tail}
use Rattle.hilti_tree.specs.declared.call.Call.{Call}
use Rattle.hilti_core.specs.declared.event.Event.{Event}
use Rattle.hilti_core.specs.declared.event.Event.TheVariants.{Feed}
use Rattle.hilti_core.specs.Sending.{Effect}
use Rattle.hilti_core.specs.Core.{Core, core_of_none, feed, step, play, core}
use Rattle.hilti_core.proofs.Moves.{fed_core}
use Rattle.hilti_core.proofs.Schedule.{core_fed, between}
use Rattle.hilti_pool.specs.State.{PoolState, empty, after_feed}
use Rattle.hilti_one.specs.Turns.{IsInOrder, IsBetween, TakesCalls}

-- a feed for each call
abbrev feeds : List Call → List Event
feeds calls = map (λ _. Feed) calls

module _ {D : Type 0} where
  -- with those of the calls that are left, all are fed
  pub record IsFeeding (sound : D → Call → Type 0) (calls left : List Call) (old new : PoolState D) : Type 0 where
    pub about : new.about ≡ old.about
    pub limit : new.limit ≡ old.limit
    pub fed : new.fed ++ left ≡ old.fed ++ calls
    pub journal : new.journal ++ map (λ _. Feed) left ≡ old.journal ++ map (λ _. Feed) calls
    pub given_up : new.given_up ≡ old.given_up
    pub are_sound : All (sound new.about) left

  pub one_fed : (sound : D → Call → Type 0) (calls left rest : List Call) (call : Call) (old now_is new : PoolState D) → IsFeeding sound calls left old now_is → left ≡ call ∷ rest →
      new ≡ after_feed call now_is → IsFeeding sound calls rest old new
  one_fed sound calls left rest call old now_is new h is gives = subst (IsFeeding sound calls rest old) (sym gives) (record {
    about = h.about;
    limit = h.limit;
    fed = append_assoc now_is.fed (call ∷ []) rest ∙ (ap (λ l. now_is.fed ++ l) (sym is) ∙ h.fed);
    journal = append_assoc now_is.journal (Feed ∷ []) (feeds rest) ∙ (ap (λ l. now_is.journal ++ feeds l) (sym is) ∙ h.journal);
    given_up = h.given_up;
    are_sound = All-tail (sound now_is.about) call rest (subst (All (sound now_is.about)) is h.are_sound);
  })

all_feeds : (calls : List Call) → All (λ (event : Event). event ≡ Feed) (feeds calls)
all_feeds [] = All-nil (λ (event : Event). event ≡ Feed)
all_feeds (call ∷ rest) = All-cons (λ (event : Event). event ≡ Feed) Feed (feeds rest) refl (all_feeds rest)

-- feeds lead to a core to which all were fed
feeds_play : (effect : Effect) (limit : ℕ) (calls : List Call) (c : Core) → c.unfed ≡ calls → (d : Core) × (play effect limit (feeds calls) (Some c) ≡ Some d) × (d.unfed ≡ [])
feeds_play effect limit [] c is = (c, refl, is)
feeds_play effect limit (call ∷ rest) c is =
    let s : step effect limit Feed c ≡ Some (fed_core call rest c) = ap (feed c) is in
    let on = feeds_play effect limit rest (fed_core call rest c) refl in
    (on.0, ap (play effect limit (feeds rest)) s ∙ on.1, on.2)

first_order : (effect : Effect) (calls : List Call) (limit : ℕ) → (d : Core) × (core effect calls limit (feeds calls) ≡ Some d) × IsInOrder effect calls limit d
first_order effect calls limit =
    let on = feeds_play effect limit calls (core_of_none calls) refl in
    let way = core_fed effect calls limit (feeds calls) on.0 (all_feeds calls) on.1 in
    (on.0, on.1, record { order = way; unfed = on.2; free = (between effect calls limit on.0 way).home 0 })

-- after the feeds come the turns
pub fed_between : {D : Type 0} (effect : D → Effect) (about : D) (limit : ℕ) (calls : List Call) (first new : PoolState D) → first ≡ empty about limit → TakesCalls calls first new → IsBetween effect new
fed_between effect about limit calls first new is h =
    let on = first_order (effect new.about) new.fed new.limit in
    let fed : new.fed ≡ calls = h.fed ∙ ap (λ p. p.fed ++ calls) is in
    let journal : new.journal ≡ feeds new.fed = h.journal ∙ (ap (λ p. p.journal ++ feeds calls) is ∙ ap feeds (sym fed)) in
    record {
      goes_on = h.given_up ∙ ap (λ p. p.given_up) is;
      turns = record { core = on.0; is = ap (core (effect new.about) new.fed new.limit) journal ∙ on.1; holds = on.2 };
    }
