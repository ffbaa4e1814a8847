-- How many turns are left: the segments of the one-worker history, without those taken.
use Rattle.std.proofs.Common.{◌≡◌, ℕ, ◌-◌, ◌<◌, ◌≤◌, suc, List, Option, Some, None, ap, ◌∙◌, sym, arith}
use Rattle.std.specs.List.{All}
use Rattle.hilti_tree.specs.declared.call.Call.{Call}
use Rattle.hilti_core.specs.declared.event.Event.{Event}
use Rattle.hilti_core.specs.declared.event.Event.TheVariants.{Feed, Take, Put}
use Rattle.hilti_core.specs.Sending.{Effect}
use Rattle.hilti_core.specs.Body.{HasSegments}
use Rattle.hilti_core.specs.Machine.{Machine, run}
use Rattle.hilti_core.specs.Core.{Core, play, core}
use Rattle.hilti_core.specs.One.{one}
use Rattle.hilti_core.specs.Schedule.{OneByOne}
use Rattle.hilti_core.proofs.Moves.{Moves, Moves.Fed, Moves.Goes, Moves.Starts, Moves.Home, keeps_play}
use Rattle.hilti_core.proofs.Journals.{core_more}
use Rattle.hilti_core.proofs.Schedule.{one_by_one}
use Rattle.hilti_core.proofs.Reaches.{reaches_end}

abbrev segments_in : Option Machine → ℕ
segments_in None = 0
segments_in (Some m) = m.segments

-- all segments of the one-worker history
all_segments : Effect → List Call → ℕ → ℕ
all_segments effect calls limit = segments_in (run effect calls (one effect calls limit))

abbrev takes_in : Option Core → ℕ
takes_in None = 0
takes_in (Some c) = c.takes

pub turns_left : Effect → List Call → ℕ → Option Core → ℕ
turns_left effect calls limit o = all_segments effect calls limit - takes_in o

-- no event takes back a take
takes_grow : (effect : Effect) (limit low : ℕ) (event : Event) (c d : Core) → Moves effect limit c d event → low ≤ c.takes → low ≤ d.takes
takes_grow effect limit low Feed c d (Fed call rest is) h = let k = ap (λ x. x.takes) is.gives in omega (arith, k, h)
takes_grow effect limit low (Take w x) c d (Goes v y running is) h = let k = ap (λ x. x.takes) is.gives in omega (arith, k, h)
takes_grow effect limit low (Take w x) c d (Starts v y head rest is) h = let k = ap (λ x. x.takes) is.gives in omega (arith, k, h)
takes_grow effect limit low (Put w) c d (Home v r running segment rest is) h = let k = ap (λ x. x.takes) is.gives in omega (arith, k, h)

-- no more are taken than there are
few_takes : (effect : Effect) (sound : Call → Type 0) → HasSegments effect sound → (calls : List Call) (limit : ℕ) → All sound calls → (journal : List Event) (c : Core) →
    core effect calls limit journal ≡ Some c → OneByOne effect calls limit c → c.takes ≤ all_segments effect calls limit
unfolding all_segments
few_takes effect sound segments calls limit all journal c e way =
    let ends = reaches_end effect sound segments calls limit journal c all e way in
    let last = one_by_one effect calls limit _ ends.last ends.leads ends.order in
    let outcome = last.outcome ends.over in
    let same : segments_in (run effect calls (one effect calls limit)) ≡ ends.last.takes = ap segments_in outcome.1.runs ∙ outcome.1.segments in
    let on : play effect limit ends.more (Some c) ≡ Some ends.last = sym (core_more effect calls limit journal ends.more c e) ∙ ends.leads in
    let grow : c.takes ≤ ends.last.takes = keeps_play effect limit (λ x. c.takes ≤ x.takes) (λ event x y. takes_grow effect limit c.takes event x y) ends.more c ends.last on (omega arith) in
    omega (arith, same, grow)

-- after one more take fewer turns are left
pub fewer_left : (effect : Effect) (sound : Call → Type 0) → HasSegments effect sound → (calls : List Call) (limit : ℕ) → All sound calls → (journal : List Event) (c d : Core) →
    core effect calls limit journal ≡ Some d → OneByOne effect calls limit d → d.takes ≡ suc c.takes → turns_left effect calls limit (Some d) < turns_left effect calls limit (Some c)
unfolding turns_left
fewer_left effect sound segments calls limit all journal c d e way more =
    let few = few_takes effect sound segments calls limit all journal d e way in
    omega (arith, few, more)
