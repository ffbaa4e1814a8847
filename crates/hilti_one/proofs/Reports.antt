-- Two runs by one worker are reported alike.
use Rattle.std.proofs.Common.{◌≡◌, ℕ, ◌<◌, suc, cond, eqb, List, [], ◌∷◌, ◌++◌, length, map, Some, ap, sym, ◌∙◌, subst, refl, Contains, ◌↔◌}
use Rattle.std.specs.List.{flat_map}
use Rattle.std.proofs.lemmas.List.{length-map}
use Rattle.hilti_tree.specs.declared.call.Call.{Call}
use Rattle.hilti_core.specs.declared.event.Event.{Event}
use Rattle.hilti_core.specs.declared.event.Event.TheVariants.{Feed, Take, Put}
use Rattle.hilti_core.specs.Sending.{Effect, Text}
use Rattle.hilti_core.specs.Machine.{Start, Pick, pick_of, Machine}
use Rattle.hilti_core.specs.Core.{Core, core, picks_of}
use Rattle.hilti_core.specs.Schedule.{OneByOne, OneByOne.AtFirst, OneByOne.Feeding, OneByOne.Turn}
use Rattle.hilti_core.proofs.Journals.{core_next, core_more}
use Rattle.hilti_core.proofs.Schedule.{one_by_one}
use Rattle.hilti_pool.specs.Threads.{calls_of}
use Rattle.hilti_pool.specs.Roll.{IsRoll}
use Rattle.hilti_log.specs.Texts.{thread_text, total_text}
use Rattle.hilti_log.specs.Reports.{log_of, threads_text, IsReport}
use Rattle.hilti_log.proofs.Rolls.{one_roll}
use Rattle.hilti_one.specs.Alone.{RanAlone}

-- a core in this order is that of a legal journal
legal : (effect : Effect) (calls : List Call) (limit : ℕ) (c : Core) → OneByOne effect calls limit c → (journal : List Event) × (core effect calls limit journal ≡ Some c)
legal effect calls limit x (AtFirst c is) = ([], ap Some (sym is))
legal effect calls limit x (Feeding c d way e) =
    let front = legal effect calls limit c way in
    (front.0 ++ Feed ∷ [], core_next effect calls limit front.0 Feed c front.1 ∙ e)
legal effect calls limit x (Turn c d worker thread way fed first e) =
    let front = legal effect calls limit c way in
    (front.0 ++ Take worker thread ∷ Put worker ∷ [], core_more effect calls limit front.0 (Take worker thread ∷ Put worker ∷ []) c front.1 ∙ e)

some_is : {A : Type 0} (x y : A) → Some x ≡ Some y → x ≡ y
some_is x y e = cc

-- all that a report tells is the same
record SameTold (c d : Core) : Type 0 where
  picks : map pick_of c.started ≡ map pick_of d.started
  logs : (r : ℕ) → (c.thread r).log ≡ (d.thread r).log
  takes : c.takes ≡ d.takes

same_told : (effect : Effect) (calls : List Call) (limit : ℕ) (c d : Core) → RanAlone effect calls limit c → RanAlone effect calls limit d → SameTold c d
same_told effect calls limit c d a b =
    let one = legal effect calls limit c a.order in
    let two = legal effect calls limit d b.order in
    let here = one_by_one effect calls limit one.0 c one.1 a.order in
    let there = one_by_one effect calls limit two.0 d two.1 b.order in
    let x = here.outcome a.over in
    let y = there.outcome b.over in
    let same : x.0 ≡ y.0 = some_is x.0 y.0 (sym x.1.runs ∙ y.1.runs) in
    record {
      picks = sym (ap picks_of one.1) ∙ (here.ends a.over ∙ (sym (there.ends b.over) ∙ ap picks_of two.1));
      logs = λ r. sym (x.1.threads r).log ∙ (ap (λ (m : Machine). (m.thread r).log) same ∙ (y.1.threads r).log);
      takes = sym x.1.segments ∙ (ap (λ (m : Machine). m.segments) same ∙ y.1.segments);
    }

-- how many of these picks a thread started
calls_to : ℕ → List Pick → ℕ
calls_to r [] = 0
calls_to r (pick ∷ more) = cond (eqb r pick.receiver) (suc (calls_to r more)) (calls_to r more)

picked : (r : ℕ) (started : List Start) → calls_of r started ≡ calls_to r (map pick_of started)
unfolding calls_to
picked r [] = refl
picked r (start ∷ more) = ap (λ n. cond (eqb r start.receiver) (suc n) n) (picked r more)

module _ (c d : Core) (same : SameTold c d) where
  same_calls : (r : ℕ) → calls_of r c.started ≡ calls_of r d.started
  same_calls r = picked r c.started ∙ (ap (calls_to r) same.picks ∙ sym (picked r d.started))

  same_count : length c.started ≡ length d.started
  same_count = sym (length-map c.started pick_of) ∙ (ap (λ (picks : List Pick). length picks) same.picks ∙ length-map d.started pick_of)

  same_ran : (threads : List ℕ) → IsRoll c.started threads → IsRoll d.started threads
  same_ran threads ran = record {
    rising = ran.rising;
    each = λ r. subst (λ n. Contains threads r ↔ (0 < n)) (same_calls r) (ran.each r);
  }

  log_is : (r calls : ℕ) (lines : List Text) → calls_of r c.started ≡ calls → (c.thread r).log ≡ lines → log_of c r ≡ record { thread = r; calls = calls; lines = lines }
  log_is r calls lines a b = cc

  same_logs : (threads : List ℕ) → map (log_of c) threads ≡ map (log_of d) threads
  same_logs [] = refl
  same_logs (r ∷ more) =
      let here : log_of c r ≡ log_of d r = log_is r (calls_of r d.started) (d.thread r).log (same_calls r) (same.logs r) in
      let later = same_logs more in
      ap (λ log. log ∷ map (log_of c) more) here ∙ ap (λ logs. log_of d r ∷ logs) later

  told_alike : (a b : List ℕ) → IsReport c a → IsReport d b → a ≡ b
  told_alike a b h k =
      let threads : h.threads ≡ k.threads = one_roll d.started h.threads k.threads (same_ran h.threads h.ran) k.ran in
      h.reads
      ∙ (ap (λ logs. flat_map thread_text logs ++ total_text (length c.started) c.takes) (same_logs h.threads)
      ∙ (ap (λ n. threads_text d h.threads ++ total_text n c.takes) same_count
      ∙ (ap (λ n. threads_text d h.threads ++ total_text (length d.started) n) same.takes
      ∙ (ap (λ l. threads_text d l ++ total_text (length d.started) d.takes) threads
      ∙ sym k.reads))))

pub one_report : (effect : Effect) (calls : List Call) (limit : ℕ) (c d : Core) (a b : List ℕ) → RanAlone effect calls limit c → RanAlone effect calls limit d → IsReport c a → IsReport d b → a ≡ b
one_report effect calls limit c d a b x y h k = told_alike c d (same_told effect calls limit c d x y) a b h k
