-- What a pool keeps is kept when a worker takes a thread, whether that goes on or begins a call; and why an answer comes.
use Rattle.std.proofs.Common.{◌≡◌, ℕ, ◌+◌, ◌<◌, ◌↔◌, inl, inr, Bool, true, false, List, [], ◌∷◌, ◌++◌, length, Option, Some, None, IsSome, is_some, refl, sym, subst, arith}
use Rattle.std.proofs.lemmas.Bool.Decides.{nat_tests}
use Rattle.std.specs.Prelude.{nat_lt}
use Rattle.hilti_base.specs.declared.names.ThreadId.{ThreadId}
use Rattle.hilti_tree.specs.declared.call.Call.{Call}
use Rattle.hilti_core.specs.declared.event.Event.{Event}
use Rattle.hilti_core.specs.declared.event.Event.TheVariants.{Take}
use Rattle.hilti_core.specs.Sending.{Effect}
use Rattle.hilti_core.specs.Body.{Runs}
use Rattle.hilti_core.specs.Core.{Core}
use Rattle.hilti_core.specs.Kept.{IsKept, IsSoundCore}
use Rattle.hilti_pool.specs.declared.hall.Hall.{Hall}
use Rattle.hilti_pool.specs.Hall.{face, count_begun, WasIdle, Departs, NoneMayGo}
use Rattle.hilti_pool.specs.Readiness.{IsReady}
use Rattle.hilti_pool.specs.Work.{IsJob}
use Rattle.hilti_pool.specs.Taking.{IsIdle, IsAtLimit, IsFinished}
use Rattle.hilti_pool.specs.Stands.{HallStands, StandsFor}
use Rattle.hilti_pool.proofs.Moves.{resumed, begins_call, idle_home}
use Rattle.hilti_pool.proofs.Causes.{at_limit as all_started, none_ready, some_out, none_out, some_mail, no_mail, rests_in}

pub none_if : {A : Type 0} (o : Option A) → is_some o ≡ false → o ≡ None
none_if None e = refl
none_if (Some x) e = absurd cc

-- the test whether a call may start
pub may_start : (started n limit : ℕ) → started ≡ n → (nat_lt started limit ≡ true) ↔ (n < limit)
may_start started n limit is = (λ e. grind (arith, nat_tests, is, e), λ h. grind (arith, nat_tests, is, h))

module _ {V : Type 0} (effect : Effect) (sound : Call → Type 0) (runs : V → Runs) where
  -- the pool stands for the core after the take, where the worker has this job
  abbrev pub Took : (fed : List Call) (limit : ℕ) (events : List Event) (started segments worker : ℕ) (thread : ThreadId) → Option V → Option Call → Hall V → Type 0
  Took fed limit events started segments worker thread vt next hall =
      (t : StandsFor effect sound runs fed limit events started segments hall) × IsJob sound runs worker thread.n vt next t.c

  few_ready : (c : Core) (hall : Hall V) (limit r : ℕ) (vt : Option V) → HallStands runs c hall → WasIdle vt (face hall r).place → IsReady limit c r → length c.started < limit
  few_ready c hall limit r vt h idle (inl suspended) = absurd ((idle_home effect sound runs (face hall r).place vt idle).1 (rests_in runs c hall r h suspended))
  few_ready c hall limit r vt h idle (inr m) = m.2

  departed : (fed : List Call) (limit : ℕ) (journal : List Event) (started segments : ℕ) (old new : Hall V) (worker : ℕ) (thread : ThreadId) (vt : Option V) (next : Option Call) →
      (s : StandsFor effect sound runs fed limit journal started segments old) → IsSoundCore sound s.c → s.c.out worker ≡ None → IsReady limit s.c thread.n → Departs worker thread vt next old new →
      Took fed limit (journal ++ Take worker thread ∷ []) (started + count_begun next) (segments + 1) worker thread vt next new
  departed fed limit journal started segments old new worker thread None None s sound_core free ready d = absurd d.place
  departed fed limit journal started segments old new worker thread (Some vt) None s sound_core free ready d =
      let same : started ≡ started + 0 = omega arith in
      subst (λ n. Took fed limit (journal ++ Take worker thread ∷ []) n (segments + 1) worker thread (Some vt) None new) same
      (resumed effect sound runs fed limit journal started segments old new worker thread vt s free d.place d.leaves d.resting d.mail d.roll)
  departed fed limit journal started segments old new worker thread None (Some call) s sound_core free ready d =
      begins_call effect sound runs fed limit journal started segments old new worker thread None call s sound_core free (few_ready s.c old limit thread.n None s.hall_stands d.place ready) d.place d.leaves d.resting d.mail d.roll
  departed fed limit journal started segments old new worker thread (Some vt) (Some call) s sound_core free ready d =
      begins_call effect sound runs fed limit journal started segments old new worker thread (Some vt) call s sound_core free (few_ready s.c old limit thread.n (Some vt) s.hall_stands d.place ready) d.place d.leaves d.resting d.mail d.roll

  -- a worker took a thread, by what each part of the pool is then
  pub took : (fed : List Call) (limit : ℕ) (journal events : List Event) (started begun segments : ℕ) (old new : Hall V) (worker : ℕ) (thread : ThreadId) (vt : Option V) (next : Option Call) →
      (s : StandsFor effect sound runs fed limit journal started segments old) → IsSoundCore sound s.c → s.c.out worker ≡ None → IsReady limit s.c thread.n → Departs worker thread vt next old new →
      events ≡ journal ++ Take worker thread ∷ [] → begun ≡ count_begun next → Took fed limit events (started + begun) (segments + 1) worker thread vt next new
  took fed limit journal events started begun segments old new worker thread vt next s sound_core free ready d noted count =
      subst (λ x. Took fed limit x (started + begun) (segments + 1) worker thread vt next new) (sym noted)
      (subst (λ x. Took fed limit (journal ++ Take worker thread ∷ []) (started + x) (segments + 1) worker thread vt next new) (sym count)
      (departed fed limit journal started segments old new worker thread vt next s sound_core free ready d))

  -- why no job is given
  pub idles : (fed : List Call) (limit : ℕ) (c : Core) (hall : Hall V) (may : Bool) (ended : Option ℕ) → HallStands runs c hall → IsKept fed limit c → (length c.started < limit → may ≡ true) → NoneMayGo may hall →
      ¬ (hall.outs.items ≡ []) → IsIdle limit ended c
  idles fed limit c hall may ended h kept allowed none out = record { none_ready = none_ready runs c hall may limit h allowed none; may_come = inl (some_out runs fed limit c hall h kept out) }

  pub rests_idle : (fed : List Call) (limit : ℕ) (c : Core) (hall : Hall V) (may : Bool) (ended : Option ℕ) → HallStands runs c hall → (length c.started < limit → may ≡ true) → NoneMayGo may hall →
      hall.mail.items ≡ [] → ended ≡ None → IsIdle limit ended c
  rests_idle fed limit c hall may ended h allowed none mail on = record { none_ready = none_ready runs c hall may limit h allowed none; may_come = inr (no_mail runs c hall h mail, on) }

  pub at_limit : (fed : List Call) (limit : ℕ) (c : Core) (hall : Hall V) (may : Bool) → HallStands runs c hall → IsKept fed limit c → (length c.started < limit → may ≡ true) → NoneMayGo may hall →
      hall.outs.items ≡ [] → ¬ (hall.mail.items ≡ []) → IsAtLimit limit c
  at_limit fed limit c hall may h kept allowed none out mail =
      record { none_ready = none_ready runs c hall may limit h allowed none; none_out = none_out runs fed limit c hall h kept out; waits = some_mail runs c hall h mail; all_started = all_started runs fed limit c kept (none_ready runs c hall may limit h allowed none) (none_out runs fed limit c hall h kept out) (some_mail runs c hall h mail) }

  pub finished : (fed : List Call) (limit : ℕ) (c : Core) (hall : Hall V) (may : Bool) (ended : Option ℕ) → HallStands runs c hall → IsKept fed limit c → (length c.started < limit → may ≡ true) → NoneMayGo may hall →
      hall.outs.items ≡ [] → hall.mail.items ≡ [] → IsSome ended → IsFinished limit ended c
  finished fed limit c hall may ended h kept allowed none out mail fed_all =
      record { none_ready = none_ready runs c hall may limit h allowed none; none_out = none_out runs fed limit c hall h kept out; none_waits = no_mail runs c hall h mail; fed = fed_all }
