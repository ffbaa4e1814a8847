-- What a pass learns in a section.
use Rattle.std.proofs.Common.{◌≡◌, ℕ, ◌+◌, ◌<◌, suc, Bool, true, false, List, [], ◌∷◌, ◌++◌, length, drop, Option, Some, None, IsSomeAnd, IsSome, Result, Ok, Err, IfOk, refl, ap, sym, ◌∙◌, subst, arith, eqb, All, cond, inl, inr, append_assoc, append-nil}
use Rattle.std.proofs.lemmas.Bool.{eqb-true, eq-eqb}
use Rattle.std.proofs.Math.Seq.{drop-append_seam}
use Rattle.std.proofs.lemmas.List.Elements.{All-nil, All-cons, All-head, All-tail}
use Rattle.std.proofs.lemmas.Result.{IfOk-weaker}
use mathlib.Core.List.{IsPrefix}
use Rattle.hilti_base.specs.declared.names.ThreadId.{ThreadId}
use Rattle.hilti_tree.specs.declared.call.Call.{Call}
use Rattle.hilti_core.specs.declared.pieces.Segment.{Segment}
use Rattle.hilti_core.specs.Sending.{Effect}
use Rattle.hilti_core.specs.Core.{Core}
use Rattle.hilti_core.specs.Body.{Runs}
use Rattle.hilti_turn.specs.Journal.{made_by, GoesOnBy}
use Rattle.hilti_pool.specs.declared.entries.Entry.{Entry}
use Rattle.hilti_pool.specs.declared.entries.Entry.TheVariants.{Take, Put}
use Rattle.hilti_pool.specs.declared.entries.Subject.{Subject}
use Rattle.hilti_pool.specs.declared.job.Taken.{Taken}
use Rattle.hilti_pool.specs.declared.job.Taken.TheVariants.{Broken, Job, Nothing, Limit, Finished}
use Rattle.hilti_pool.specs.Entries.{maker_of}
use Rattle.hilti_pool.specs.State.{PoolState, InCore}
use Rattle.hilti_pool.specs.Work.{CanRun, IsJob, IsDone}
use Rattle.hilti_pool.specs.Standing.{IsStanding}
use Rattle.hilti_pool.specs.Entries.{entries_of, subject_of}
use Rattle.hilti_pool.proofs.Working.{job_runs}
use Rattle.hilti_workers.specs.Entries.{Shows}
use Rattle.hilti_workers.specs.Finding.{Found, entries_of_answer, entries_of_take, entries_of_put}
use Rattle.hilti_workers.specs.Section.{CanPut}
use Rattle.hilti_workers.proofs.Standing.{made-append, still_done}

pub all_taken : {B V D E : Type 0} (w : ℕ) (r : Result (Taken B V D) E) → All (λ e. maker_of e ≡ w) (entries_of_take w r)
all_taken w (Ok Broken) = All-nil (λ e. maker_of e ≡ w)
all_taken w (Ok (Job job)) = All-cons (λ e. maker_of e ≡ w) (Take w job.thread) [] refl (All-nil (λ e. maker_of e ≡ w))
all_taken w (Ok Nothing) = All-nil (λ e. maker_of e ≡ w)
all_taken w (Ok Limit) = All-nil (λ e. maker_of e ≡ w)
all_taken w (Ok Finished) = All-nil (λ e. maker_of e ≡ w)
all_taken w (Err error) = All-nil (λ e. maker_of e ≡ w)

pub all_put : {A E : Type 0} (w : ℕ) (r : Result A E) → All (λ e. maker_of e ≡ w) (entries_of_put w r)
all_put w (Ok done) = All-cons (λ e. maker_of e ≡ w) (Put w) [] refl (All-nil (λ e. maker_of e ≡ w))
all_put w (Err error) = All-nil (λ e. maker_of e ≡ w)

-- all of one worker's entries are its own
pub made_all : (w : ℕ) (xs : List Entry) → All (λ e. maker_of e ≡ w) xs → made_by maker_of w xs ≡ xs
made_all w [] all = refl
made_all w (x ∷ xs) all =
    ap (λ b. cond b (x ∷ made_by maker_of w xs) (made_by maker_of w xs)) (eq-eqb (maker_of x) w (All-head (λ e. maker_of e ≡ w) x xs all))
    ∙ ap (λ l. x ∷ l) (made_all w xs (All-tail (λ e. maker_of e ≡ w) x xs all))

pub goes_on : (w n : ℕ) (seen entries added : List Entry) → w ≡ n → entries ≡ seen ++ added → All (λ e. maker_of e ≡ w) added → GoesOnBy maker_of n seen entries
goes_on w n seen entries added same is all = (added, is, subst (λ k. All (λ e. maker_of e ≡ k) added) same all)

pub mine_more : (seen entries added before after : List Entry) → entries ≡ seen ++ added → after ≡ before ++ drop (length seen) entries → after ≡ before ++ added
mine_more seen entries added before after is grows = grows ∙ ap (λ l. before ++ drop (length seen) l) is ∙ ap (λ l. before ++ l) (drop-append_seam seen added)

pub knows_more : (w : ℕ) (seen entries added before after : List Entry) → made_by maker_of w seen ≡ before → entries ≡ seen ++ added → All (λ e. maker_of e ≡ w) added →
    after ≡ before ++ added → made_by maker_of w entries ≡ after
knows_more w seen entries added before after knows is all grows =
    ap (made_by maker_of w) is ∙ made-append w seen added ∙ ap (λ l. l ++ made_by maker_of w added) knows ∙ ap (λ l. before ++ l) (made_all w added all) ∙ sym grows

pub begins_more : (old seen entries added : List Entry) → IsPrefix old seen → entries ≡ seen ++ added → IsPrefix old entries
begins_more old seen entries added (front, is) more = (front ++ added, sym (append_assoc old front added) ∙ ap (λ l. l ++ added) is ∙ sym more)

pub begins_twice : (a b c : List Entry) → IsPrefix a b → IsPrefix b c → IsPrefix a c
begins_twice a b c h (more, is) = begins_more a b c more h (sym is)

pub of_some : {A : Type 0} (o : Option A) (x : A) (P : A → Type 0) → o ≡ Some x → P x → IsSomeAnd o P
of_some o x P is h = subst (λ o. IsSomeAnd o P) (sym is) h

pub at_some : {A : Type 0} (o : Option A) (x : A) (P : A → Type 0) → o ≡ Some x → IsSomeAnd o P → P x
at_some o x P is h = subst (λ o. IsSomeAnd o P) is h

module _ {D V : Type 0} (effect : D → Effect) (runs : D → V → Runs) where
  -- what was done for a thread can be put in any later section
  pub can_put : (pool : PoolState D) (w r : ℕ) (vt : V) (segment : Segment) (seen own : List Entry) (known : Option (Subject D)) →
      known ≡ Some (subject_of pool) → IsPrefix seen (entries_of pool) → made_by maker_of w (entries_of pool) ≡ own → made_by maker_of w seen ≡ own →
      IsSomeAnd known (λ subject. Shows effect subject seen (IsDone (effect subject.body) (runs subject.body) w r vt segment)) →
      CanPut effect runs pool w r vt segment
  can_put pool w r vt segment seen own known is (more, begins) mine knows done stands =
      still_done effect runs w r vt segment pool seen more stands (sym begins) (mine ∙ sym knows)
      (at_some known (subject_of pool) (λ subject. Shows effect subject seen (IsDone (effect subject.body) (runs subject.body) w r vt segment)) is done)

  module _ {B : Type 0} (sound : D → Call → Type 0) where
    pub found_seen : {E : Type 0} (res : Result (Taken B V D) E) (w n : ℕ) (about : Option (Subject D)) (first subject : Subject D) (seen entries : List Entry) →
        about ≡ Some first → subject ≡ first → w ≡ n → seen ≡ entries →
        IfOk res (Found effect sound runs subject w entries) →
        IfOk res (λ taken. IsSomeAnd about (λ subject. Found effect sound runs subject n seen taken))
    found_seen res w n about first subject seen entries known same number is found =
        IfOk-weaker res (Found effect sound runs subject w entries) (λ taken. IsSomeAnd about (λ subject. Found effect sound runs subject n seen taken))
        (λ taken h. of_some about first (λ subject. Found effect sound runs subject n seen taken) known
        (subst (λ s. Found effect sound runs s n seen taken) same
        (subst (λ k. Found effect sound runs subject k seen taken) number
        (subst (λ l. Found effect sound runs subject w l taken) (sym is) h)))) found

  module _ (sound : D → Call → Type 0) (facts : D) (w r : ℕ) (vt : Option V) (next : Option Call) (seen : List Entry) where
    pub job_can : (about : Option (Subject D)) → IsSomeAnd about (λ subject. subject.body ≡ facts) →
        IsSomeAnd about (λ subject. Shows effect subject seen (IsJob (sound subject.body) (runs subject.body) w r vt next)) →
        CanRun (sound facts) (runs facts) r vt next
    job_can None same job = absurd same
    job_can (Some subject) same job = job_runs sound runs subject.body facts w r r vt next job.at same refl job.holds

    pub job_done : (about : Option (Subject D)) (done : V) (segment : Segment) → IsSomeAnd about (λ subject. subject.body ≡ facts) →
        IsSomeAnd about (λ subject. Shows effect subject seen (IsJob (sound subject.body) (runs subject.body) w r vt next)) →
        ((worker : ℕ) (c : Core) → IsJob (sound facts) (runs facts) worker r vt next c → IsDone (effect facts) (runs facts) worker r done segment c) →
        IsSomeAnd about (λ subject. Shows effect subject seen (IsDone (effect subject.body) (runs subject.body) w r done segment))
    job_done None done segment same job ran = absurd same
    job_done (Some subject) done segment same job ran = record {
      at = job.at;
      legal = job.legal;
      holds = subst (λ d. IsDone (effect d) (runs d) w r done segment job.at) (sym same)
          (ran w job.at (subst (λ d. IsJob (sound d) (runs d) w r vt next job.at) same job.holds));
    }

-- what a pass made, by what was added in its section
pub mine_there : (w n : ℕ) (seen first last : List Entry) (added : ℕ → List Entry) (old before after : List Entry) →
    w ≡ n → seen ≡ first → last ≡ first ++ added w → before ≡ old → after ≡ before ++ drop (length seen) last → after ≡ old ++ added n
mine_there w n seen first last added old before after number is adds same grows =
    let at : last ≡ seen ++ added n = adds ∙ ap (λ l. l ++ added w) (sym is) ∙ ap (λ k. seen ++ added k) number in
    mine_more seen last (added n) before after at grows ∙ ap (λ l. l ++ added n) same

-- what a pass saw last has of its number just what it made, by what was added in its section
pub knows_there : (k n w : ℕ) (added : ℕ → List Entry) (first last seen saw old before after : List Entry) → All (λ e. maker_of e ≡ n) (added n) →
    k ≡ n → w ≡ n → made_by maker_of n first ≡ old → last ≡ first ++ added w → seen ≡ first → saw ≡ last → before ≡ old →
    after ≡ before ++ drop (length seen) last → made_by maker_of k saw ≡ after
knows_there k n w added first last seen saw old before after all same number own adds is was kept grows =
    let grown : after ≡ old ++ added n = mine_there w n seen first last added old before after number is adds kept grows in
    let more : last ≡ first ++ added n = adds ∙ ap (λ x. first ++ added x) number in
    ap (λ x. made_by maker_of x saw) same ∙ ap (made_by maker_of n) was ∙ knows_more n first last (added n) old after own more all grown
