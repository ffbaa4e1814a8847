-- What a legal event is, and what it leaves.
use Rattle.std.proofs.Common.{◌≡◌, ℕ, ◌<◌, suc, Bool, true, false, List, [], ◌∷◌, length, drop, Option, Some, None, refl, subst, arith}
use Rattle.std.proofs.lemmas.Bool.Decides.{nat_tests}
use Rattle.std.specs.Prelude.{nat_lt}
use Rattle.hilti_base.specs.declared.names.ThreadId.{ThreadId}
use Rattle.hilti_tree.specs.declared.call.Call.{Call}
use Rattle.hilti_core.specs.declared.pieces.Segment.{Segment}
use Rattle.hilti_core.specs.declared.event.Event.{Event}
use Rattle.hilti_core.specs.declared.event.Event.TheVariants.{Feed, Take, Put}
use Rattle.hilti_core.specs.Sending.{Sender.Capture, Effect}
use Rattle.hilti_core.specs.Core.{Waiting, Running, Core, post, feed, goes_on, begins, take_by, left, comes_home, put_by, put_of, step, play}

-- a call of the capture goes to thread 0
abbrev pub fed_core : Call → List Call → Core → Core
fed_core call rest c = post Capture (record { to = 0; message = record { call = call; place = c.fed } } ∷ []) (record c { fed = suc c.fed; unfed = rest })

pub record GoesOn (c : Core) (worker r : ℕ) (running : Running) (d : Core) : Type 0 where
  pub free : c.out worker ≡ None
  pub home : (c.thread r).worker ≡ None
  pub runs : (c.thread r).running ≡ Some running
  pub gives : d ≡ goes_on worker r c

pub record Begins (limit : ℕ) (c : Core) (worker r : ℕ) (head : Waiting) (rest : List Waiting) (d : Core) : Type 0 where
  pub free : c.out worker ≡ None
  pub home : (c.thread r).worker ≡ None
  pub runs : (c.thread r).running ≡ None
  pub inbox : c.inbox r ≡ head ∷ rest
  pub room : length c.started < limit
  pub gives : d ≡ begins worker r head rest c

pub record ComesHome (effect : Effect) (c : Core) (worker r : ℕ) (running : Running) (segment : Segment) (rest : List Segment) (d : Core) : Type 0 where
  pub has : c.out worker ≡ Some r
  pub runs : (c.thread r).running ≡ Some running
  pub left : drop running.given (effect r (c.thread r).finished running.call) ≡ segment ∷ rest
  pub gives : d ≡ comes_home worker r running segment rest c

pub record IsFed (c : Core) (call : Call) (rest : List Call) (d : Core) : Type 0 where
  pub unfed : c.unfed ≡ call ∷ rest
  pub gives : d ≡ fed_core call rest c

-- a legal event: one of four moves
pub data Moves (effect : Effect) (limit : ℕ) (c d : Core) : Event → Type 0 where
  Fed : (call : Call) (rest : List Call) → IsFed c call rest d → Moves effect limit c d Feed
  Goes : (worker : ℕ) (thread : ThreadId) (running : Running) → GoesOn c worker thread.n running d → Moves effect limit c d (Take worker thread)
  Starts : (worker : ℕ) (thread : ThreadId) (head : Waiting) (rest : List Waiting) → Begins limit c worker thread.n head rest d → Moves effect limit c d (Take worker thread)
  Home : (worker r : ℕ) (running : Running) (segment : Segment) (rest : List Segment) → ComesHome effect c worker r running segment rest d → Moves effect limit c d (Put worker)

some_same : {A : Type 0} (x y : A) → Some x ≡ Some y → y ≡ x
some_same x y e = cc

pub moves : (effect : Effect) (limit : ℕ) (event : Event) (c d : Core) → step effect limit event c ≡ Some d → Moves effect limit c d event
moves effect limit Feed c d e = go c.unfed refl e
  where
    go : (unfed : List Call) → c.unfed ≡ unfed → feed c unfed ≡ Some d → Moves effect limit c d Feed
    go [] is h = absurd cc
    go (call ∷ rest) is h = Fed call rest (record { unfed = is; gives = some_same _ _ h })
moves effect limit (Take worker thread) c d e =
    go (c.out worker) (c.thread thread.n).worker (c.thread thread.n).running (c.inbox thread.n) (nat_lt (length c.started) limit) refl refl refl refl refl e
  where
    go : (seat home : Option ℕ) (running : Option Running) (inbox : List Waiting) (may : Bool) → c.out worker ≡ seat → (c.thread thread.n).worker ≡ home →
        (c.thread thread.n).running ≡ running → c.inbox thread.n ≡ inbox → nat_lt (length c.started) limit ≡ may →
        take_by worker thread.n c seat home running inbox may ≡ Some d → Moves effect limit c d (Take worker thread)
    go None None (Some running) inbox may a b r i m h = Goes worker thread running (record { free = a; home = b; runs = r; gives = some_same _ _ h })
    go None None None (head ∷ rest) true a b r i m h = Starts worker thread head rest (record { free = a; home = b; runs = r; inbox = i; room = grind (arith, nat_tests); gives = some_same _ _ h })
    go None None None (head ∷ rest) false a b r i m h = absurd cc
    go None None None [] may a b r i m h = absurd cc
    go None (Some w) running inbox may a b r i m h = absurd cc
    go (Some w) home running inbox may a b r i m h = absurd cc
moves effect limit (Put worker) c d e = at (c.out worker) refl e
  where
    go : (r : ℕ) (running : Option Running) (segments : List Segment) → c.out worker ≡ Some r → (c.thread r).running ≡ running → left effect r (c.thread r) ≡ segments →
        put_by worker r c running segments ≡ Some d → Moves effect limit c d (Put worker)
    go r None segments o is l h = absurd cc
    go r (Some running) [] o is l h = absurd cc
    go r (Some running) (segment ∷ rest) o is l h = Home worker r running segment rest (record { has = o; runs = is; left = rw is at l; gives = some_same _ _ h })

    at : (seat : Option ℕ) → c.out worker ≡ seat → put_of effect worker c seat ≡ Some d → Moves effect limit c d (Put worker)
    at None o h = absurd cc
    at (Some r) o h = go r (c.thread r).running (left effect r (c.thread r)) o refl refl h

-- what the first core has and each event keeps, the last core has
pub keeps_play : (effect : Effect) (limit : ℕ) (P : Core → Type 0) → ((event : Event) (c d : Core) → Moves effect limit c d event → P c → P d) →
    (journal : List Event) (c d : Core) → play effect limit journal (Some c) ≡ Some d → P c → P d
keeps_play effect limit P keeps [] c d e p = subst P (let is : c ≡ d = cc in is) p
keeps_play effect limit P keeps (event ∷ more) c d e p = go (λ x h q. keeps_play effect limit P keeps more x d h q) (step effect limit event c) refl e
  where
    nowhere : (events : List Event) → play effect limit events None ≡ Some d → ⊥
    nowhere [] x = cc
    nowhere (y ∷ ys) x = cc

    go : ((x : Core) → play effect limit more (Some x) ≡ Some d → P x → P d) → (o : Option Core) → step effect limit event c ≡ o → play effect limit more o ≡ Some d → P d
    go again None is h = absurd (nowhere more h)
    go again (Some b) is h = again b h (keeps event c b (moves effect limit event c b is) p)
