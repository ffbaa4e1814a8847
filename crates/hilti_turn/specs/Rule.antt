-- What holds between any two steps of a turn, and what each step tells its seat.
use Rattle.std.specs.Prelude.{◌≡◌, ◌≢◌, ℕ, ◌+◌, ◌%◌, ◌^◌, ◌<◌, ◌≤◌, Bool, true, false, ◌⊎◌, List}
use Rattle.std.specs.Prelude.{[], ◌∷◌, ◌++◌, length, drop, All, Contains, Option, Some, None}
use Rattle.std.specs.Prelude.{if◌then◌else◌, sum_by}
use mathlib.Core.Option as core
use mathlib.Core.List.{IsPrefix}
use lib.ListN.{get_elem?}
use Rattle.atomic_table.specs.Table.{State, Me, Step, rest}
use Rattle.hilti_turn.specs.declared.view.Stage.{Stage}
use Rattle.hilti_turn.specs.declared.view.Stage.TheVariants.{Outside, Waiting, Inside, Spent}
use Rattle.hilti_turn.specs.declared.view.Heard.{Heard}
use Rattle.hilti_turn.specs.declared.view.View.{View}
use Rattle.hilti_turn.specs.Journal.{made_by}

-- a seat has a ticket from the claim to the release
abbrev pub has_ticket : Stage → Bool
has_ticket Outside = false
has_ticket Waiting = true
has_ticket Inside = true
has_ticket Spent = false

abbrev pub IsTicketed : {E A : Type 0} → View E A → Type 0
IsTicketed v = has_ticket v.stage ≡ true

-- how many seats have a ticket
abbrev pub tickets_out : {E A : Type 0} → List (View E A) → ℕ
tickets_out {E} {A} views = sum_by (λ (v : View E A). if has_ticket v.stage then 1 else 0) views

-- the slot, with the value at home or without it
abbrev pub lying : {V : Type 0} → Option V → List (core.Option (Option V))
lying x = core.some x ∷ []

abbrev pub taken : {V : Type 0} → List (core.Option (Option V))
taken = core.none ∷ []

module _ {V E : Type 0} where
  -- how far along a seat is: a waiting ticket isn't served yet, and the one inside has seen the
  -- whole journal
  abbrev pub Stands : ℕ → ℕ → List E → List (core.Option (Option V)) → Stage → ℕ → List E → Type 0
  Stands given served log homes Outside ticket seen = Unit {0}
  Stands given served log homes Waiting ticket seen = (served ≤ ticket) × (ticket < given)
  Stands given served log homes Inside ticket seen =
      (ticket ≡ served) × (ticket < given) × (seen ≡ log) × (homes ≡ taken)
  Stands given served log homes Spent ticket seen = Unit {0}

module _ {E A : Type 0} (maker : E → ℕ) (topic : A) (log : List E) (views : List (View E A)) where
  -- a pass that was taken over makes no more entries
  abbrev pub Remembers : Heard E A → Type 0
  Remembers h =
      IsPrefix h.seen log × (made_by maker h.number log ≡ h.mine) × (h.about ≡ Some topic)
      × ((w : View E A) × (get_elem? views h.number ≡ core.some w) × (w.stage ≡ Spent))

module _ {V E A : Type 0} (maker : E → ℕ) (topic : A) (given served : ℕ) (log : List E)
    (homes : List (core.Option (Option V))) (views : List (View E A)) where
  -- what a seat knows is so
  pub record Knows (seat : ℕ) (v : View E A) : Type 0 where
    pub number : v.number ≡ seat
    pub about : v.about ≡ Some topic
    pub seen : IsPrefix v.seen log
    pub mine : made_by maker seat log ≡ v.mine
    pub heard : All (Remembers maker topic log views) v.heard
    pub made : seat ≡ 0 → v.made ≡ length views
    pub stands : Stands given served log homes v.stage v.ticket v.seen

module _ {V E A : Type 0} (entries : V → List E) (maker : E → ℕ) (about : V → A) (topic : A)
    (seats : ℕ) where
  -- the value lies in the slot, or one seat is inside
  abbrev pub IsPlaced : List E → State (Option V) (View E A) → Type 0
  IsPlaced log s =
      ((x : V) × (s.homes ≡ lying (Some x)) × (entries x ≡ log) × (about x ≡ topic))
      ⊎ ((s.homes ≡ taken)
      × ((holder : ℕ) × (v : View E A) × (get_elem? s.views holder ≡ core.some v)
      × (v.stage ≡ Inside)))

  -- the journal, the tickets given and the tickets served, as the words, the slot and the seats
  -- have them
  pub record InTurn (s : State (Option V) (View E A)) : Type 0 where
    pub log : List E
    pub given : ℕ
    pub served : ℕ
    pub spots : List ℕ
    pub words : s.words ≡ given % 2 ^ 64 ∷ served % 2 ^ 64 ∷ length log ∷ spots
    pub placed : IsPlaced log s
    pub balance : tickets_out s.views + served ≡ given
    pub few : (length s.views ≤ seats) × (seats ≤ 65)
    pub numbered : All (λ e. maker e < length s.views) log
    pub knows : (seat : ℕ) (v : View E A) → get_elem? s.views seat ≡ core.some v → v.stage ≢ Spent
        → Knows maker topic given served log s.homes s.views seat v
    pub apart : (i j : ℕ) (v w : View E A) → get_elem? s.views i ≡ core.some v
        → get_elem? s.views j ≡ core.some w → IsTicketed v → IsTicketed w → v.ticket ≡ w.ticket
        → i ≡ j

module _ {E A : Type 0} where
  abbrev pub first_view : A → View E A
  first_view topic =
      record {
        stage = Outside;
        ticket = 0;
        number = 0;
        made = 1;
        visits = 0;
        about = Some topic;
        seen = [];
        mine = [];
        heard = [];
      }

  -- the view of one that waits with this ticket
  abbrev pub waiting : View E A → ℕ → View E A
  waiting v t =
      record {
        stage = Waiting;
        ticket = t;
        number = v.number;
        made = v.made;
        visits = v.visits;
        about = v.about;
        seen = v.seen;
        mine = v.mine;
        heard = v.heard;
      }

  -- the view of one that has come inside, where the value has these entries
  abbrev pub within : View E A → List E → View E A
  within v log =
      record {
        stage = Inside;
        ticket = v.ticket;
        number = v.number;
        made = v.made;
        visits = v.visits + 1;
        about = v.about;
        seen = log;
        mine = v.mine;
        heard = v.heard;
      }

  -- the view of one that has added to the entries
  abbrev pub grown : View E A → List E → View E A
  grown v log =
      record {
        stage = Inside;
        ticket = v.ticket;
        number = v.number;
        made = v.made;
        visits = v.visits;
        about = v.about;
        seen = log;
        mine = v.mine ++ drop (length v.seen) log;
        heard = v.heard;
      }

  abbrev pub gone : View E A → View E A
  gone v =
      record {
        stage = Outside;
        ticket = 0;
        number = v.number;
        made = v.made;
        visits = v.visits;
        about = v.about;
        seen = v.seen;
        mine = v.mine;
        heard = v.heard;
      }

  -- seat 0 makes one seat more
  abbrev pub one_more : View E A → View E A
  one_more v =
      record {
        stage = v.stage;
        ticket = v.ticket;
        number = v.number;
        made = v.made + 1;
        visits = v.visits;
        about = v.about;
        seen = v.seen;
        mine = v.mine;
        heard = v.heard;
      }

  -- the view of the seat that seat 0 makes
  abbrev pub newcomer : View E A → View E A
  newcomer v =
      record {
        stage = Outside;
        ticket = 0;
        number = v.made;
        made = 0;
        visits = 0;
        about = v.about;
        seen = [];
        mine = [];
        heard = [];
      }

  -- what is remembered of a seat that is taken over
  abbrev pub told_of : View E A → Heard E A
  told_of w = record { number = w.number; about = w.about; seen = w.seen; mine = w.mine }

  -- one takes over what another knew
  abbrev pub joined : View E A → View E A → View E A
  joined v w =
      record {
        stage = v.stage;
        ticket = v.ticket;
        number = v.number;
        made = v.made;
        visits = v.visits;
        about = v.about;
        seen = v.seen;
        mine = v.mine;
        heard = told_of w ∷ (w.heard ++ v.heard);
      }

  -- the view tells of itself, or of one that it took over
  abbrev pub Tells : View E A → Heard E A → Type 0
  Tells v h = (told_of v ≡ h) ⊎ Contains v.heard h

  abbrev pub spent : View E A
  spent =
      record {
        stage = Spent;
        ticket = 0;
        number = 0;
        made = 0;
        visits = 0;
        about = None;
        seen = [];
        mine = [];
        heard = [];
      }

abbrev Sat : Type 0 → Type 0 → Type 0 → Type 0
Sat V E A = Me (Option V) (View E A)

module _ {V E A : Type 0} where
  -- the ticket is the number that was found, counted modulo 2^64
  abbrev pub claimed : Step (Option V) → Sat V E A → ℕ → Sat V E A → Type 0
  claimed st m found m' = (t : ℕ) × (t % 2 ^ 64 ≡ found) × (m' ≡ (waiting m.0 t, m.1))

  abbrev pub released : Step (Option V) → Sat V E A → ℕ → Sat V E A → Type 0
  released st m found m' = m' ≡ (gone m.0, rest m.1)

module _ {V E A : Type 0} (entries : V → List E) (maker : E → ℕ) (about : V → A) where
  -- the seat has the slot with a value whose journal begins with what it saw and has of its own
  -- entries just those it made
  abbrev pub ComesIn : Sat V E A → Sat V E A → Type 0
  ComesIn m m' =
      (x : V) × (m' ≡ (within m.0 (entries x), (0, Some x) ∷ m.1))
      × IsPrefix m.0.seen (entries x) × (made_by maker m.0.number (entries x) ≡ m.0.mine)
      × (m.0.about ≡ Some (about x))

  abbrev pub looked : Step (Option V) → Sat V E A → ℕ → Sat V E A → Type 0
  looked st m found m' =
      (m.0.ticket % 2 ^ 64 ≡ found → ComesIn m m') × (m.0.ticket % 2 ^ 64 ≢ found → m' ≡ m)

module _ {V E A : Type 0} (entries : V → List E) where
  abbrev pub counted : Step (Option V) → Sat V E A → ℕ → Sat V E A → Type 0
  counted st m found m' = (x : V) → m.1 ≡ (0, Some x) ∷ [] → m' ≡ (grown m.0 (entries x), m.1)
