-- The core, which workers move: one inbox a thread, and calls that are given back between their
-- segments.
use Rattle.std.specs.Prelude.{ℕ, ◌+◌, ◌==◌, suc, nat_lt, Bool, true, false, cond, List, [], ◌∷◌}
use Rattle.std.specs.Prelude.{◌++◌, length, map, drop, Option, Some, None, ◌≡◌}
use Rattle.hilti_tree.specs.declared.call.Call.{Call}
use Rattle.hilti_core.specs.declared.pieces.Segment.{Segment}
use Rattle.hilti_core.specs.declared.event.Event.{Event}
use Rattle.hilti_core.specs.declared.event.Event.TheVariants.{Feed, Take, Put}
use Rattle.hilti_core.specs.Sending.{Text, Sender, Sender.Capture, Sender.Thread, Message, Letter}
use Rattle.hilti_core.specs.Sending.{letters, sends, lines, Effect, put_at}
use Rattle.hilti_core.specs.Machine.{Start, Pick, pick_of}

-- a call that waits in an inbox: who sent it, and how many calls were posted before it over all
-- threads
pub record Waiting : Type 0 where
  pub sender : Sender
  pub message : Message
  pub number : ℕ

-- a call in progress, and how many of its segments were given
pub record Running : Type 0 where
  pub call : Call
  pub given : ℕ

-- a thread: the calls that it finished, its call in progress, what was posted of both, and the
-- worker that has it
pub record Resident : Type 0 where
  pub finished : List Call
  pub running : Option Running
  pub log : List Text
  pub sent : ℕ
  pub worker : Option ℕ

-- a call that was posted
pub record Post : Type 0 where
  pub sender : Sender
  pub letter : Letter

-- the inboxes, the threads, the thread that each worker has, the capture's calls fed and unfed, the
-- calls posted and the calls started in their order, and the number of takes
pub record Core : Type 0 where
  pub inbox : ℕ → List Waiting
  pub thread : ℕ → Resident
  pub out : ℕ → Option ℕ
  pub fed : ℕ
  pub unfed : List Call
  pub posts : List Post
  pub started : List Start
  pub takes : ℕ

abbrev pub fresh : Resident
fresh = record { finished = []; running = None; log = []; sent = 0; worker = None }

-- nothing was fed yet
abbrev pub core_of_none : List Call → Core
core_of_none calls = record {
  inbox = λ _. [];
  thread = λ _. fresh;
  out = λ _. None;
  fed = 0;
  unfed = calls;
  posts = [];
  started = [];
  takes = 0;
}

-- those of the letters that go to this thread, numbered in their order over all threads
abbrev pub arrivals : Sender → ℕ → ℕ → List Letter → List Waiting
arrivals sender number to [] = []
arrivals sender number to (letter ∷ more) =
    let later = arrivals sender (suc number) to more in
    cond (to == letter.to)
    (record { sender = sender; message = letter.message; number = number } ∷ later) later

-- each letter goes to the back of its receiver's inbox
abbrev pub post : Sender → List Letter → Core → Core
post sender posted c = record c {
  inbox = λ to. c.inbox to ++ arrivals sender (length c.posts) to posted;
  posts = c.posts ++ map (λ letter. record { sender = sender; letter = letter }) posted;
}

-- the next call of the capture goes to thread 0
abbrev pub feed : Core → List Call → Option Core
feed c [] = None
feed c (call ∷ rest) =
    Some (post Capture (record { to = 0; message = record { call = call; place = c.fed } } ∷ [])
    (record c { fed = suc c.fed; unfed = rest }))

-- the worker has the thread, which goes on with its call
abbrev pub goes_on : ℕ → ℕ → Core → Core
goes_on worker r c = record c {
  thread = put_at c.thread r (record (c.thread r) { worker = Some worker });
  out = put_at c.out worker (Some r);
  takes = suc c.takes;
}

-- the worker has the thread, which begins the call at the head of its inbox, of which `rest` is
-- left
abbrev pub begins : ℕ → ℕ → Waiting → List Waiting → Core → Core
begins worker r head rest c = record c {
  inbox = put_at c.inbox r rest;
  thread = put_at c.thread r (record (c.thread r) {
    running = Some (record { call = head.message.call; given = 0 });
    worker = Some worker;
  });
  out = put_at c.out worker (Some r);
  started = c.started ++ record {
    sender = head.sender;
    receiver = r;
    message = head.message;
    sent = (c.thread r).sent;
  } ∷ [];
  takes = suc c.takes;
}

-- a take, by what the worker has, who has the thread, the thread's call, its inbox, and whether a
-- call may start
abbrev pub take_by :
    ℕ → ℕ → Core → Option ℕ → Option ℕ → Option Running → List Waiting → Bool → Option Core
take_by worker r c None None (Some running) inbox may = Some (goes_on worker r c)
take_by worker r c None None None (head ∷ rest) true = Some (begins worker r head rest c)
take_by worker r c None None None (head ∷ rest) false = None
take_by worker r c None None None [] may = None
take_by worker r c None (Some _) running inbox may = None
take_by worker r c (Some _) home running inbox may = None

-- the segments of a call in progress that weren't given yet
abbrev pub left_of : Effect → ℕ → List Call → Option Running → List Segment
left_of effect r finished None = []
left_of effect r finished (Some running) = drop running.given (effect r finished running.call)

abbrev pub left : Effect → ℕ → Resident → List Segment
left effect r resident = left_of effect r resident.finished resident.running

-- the calls finished after one more segment of a call, of whose segments `rest` are left
abbrev pub finished_after : List Call → Running → List Segment → List Call
finished_after finished running [] = finished ++ running.call ∷ []
finished_after finished running (_ ∷ _) = finished

-- the call in progress after it
abbrev pub running_after : Running → List Segment → Option Running
running_after running [] = None
running_after running (_ ∷ _) = Some (record { call = running.call; given = suc running.given })

-- the thread after it, home again
abbrev pub after_segment : Resident → Running → Segment → List Segment → Resident
after_segment resident running segment rest = record {
  finished = finished_after resident.finished running rest;
  running = running_after running rest;
  log = resident.log ++ lines segment.items;
  sent = resident.sent + sends segment.items;
  worker = None;
}

-- the thread is home, and what its segment did is posted
abbrev pub comes_home : ℕ → ℕ → Running → Segment → List Segment → Core → Core
comes_home worker r running segment rest c =
    post (Thread r) (letters (c.thread r).sent segment.items) (record c {
      thread = put_at c.thread r (after_segment (c.thread r) running segment rest);
      out = put_at c.out worker None;
    })

-- a put, by the thread's call and what is left of it
abbrev pub put_by : ℕ → ℕ → Core → Option Running → List Segment → Option Core
put_by worker r c None segments = None
put_by worker r c (Some running) [] = None
put_by worker r c (Some running) (segment ∷ rest) =
    Some (comes_home worker r running segment rest c)

-- a put, by the thread that the worker has
abbrev pub put_of : Effect → ℕ → Core → Option ℕ → Option Core
put_of effect worker c None = None
put_of effect worker c (Some r) =
    put_by worker r c (c.thread r).running (left effect r (c.thread r))

-- one event, if it is legal where at most `limit` calls may start
abbrev pub step : Effect → ℕ → Event → Core → Option Core
step effect limit Feed c = feed c c.unfed
step effect limit (Take worker thread) c =
    let resident = c.thread thread.n in
    take_by worker thread.n c (c.out worker) resident.worker resident.running (c.inbox thread.n)
    (nat_lt (length c.started) limit)
step effect limit (Put worker) c = put_of effect worker c (c.out worker)

-- these events one after another, if each is legal where it stands
abbrev pub play : Effect → ℕ → List Event → Option Core → Option Core
play effect limit events None = None
play effect limit [] (Some c) = Some c
play effect limit (event ∷ more) (Some c) = play effect limit more (step effect limit event c)

-- the core after a journal, where it is legal over these calls
abbrev pub core : Effect → List Call → ℕ → List Event → Option Core
core effect calls limit journal = play effect limit journal (Some (core_of_none calls))

-- the journal is legal over these calls, and leads to this core
abbrev pub LeadsTo : Effect → List Call → ℕ → List Event → Core → Type 0
LeadsTo effect calls limit journal c = core effect calls limit journal ≡ Some c

-- a law of all calls of the capture, limits and journals
abbrev pub OverJournals : (List Call → ℕ → List Event → Type 0) → Type 0
OverJournals law = (calls : List Call) (limit : ℕ) (journal : List Event) → law calls limit journal

-- the picks of the takes that started a call
abbrev pub picks_of : Option Core → List Pick
picks_of None = []
picks_of (Some c) = map pick_of c.started

abbrev pub starts : Effect → List Call → ℕ → List Event → List Pick
starts effect calls limit journal = picks_of (core effect calls limit journal)
