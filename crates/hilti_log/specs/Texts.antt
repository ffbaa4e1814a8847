-- The texts of what a run did: what its threads printed, and what happened in which order.
use Rattle.std.specs.Prelude.{ℕ, List, ◌++◌, length, codes}
use Rattle.std.specs.Fmt.{decimal}
use Rattle.std.specs.List.{flat_map}
use Rattle.hilti_core.specs.declared.event.Event.{Event}
use Rattle.hilti_core.specs.declared.event.Event.TheVariants.{Feed, Take, Put}
use Rattle.hilti_core.specs.Sending.{Text}

-- what a thread did: its number, how many calls it started, and what it printed
pub record ThreadLog : Type 0 where
  pub thread : ℕ
  pub calls : ℕ
  pub lines : List Text

-- a printed line, behind two spaces
abbrev pub line_text : Text → List ℕ
line_text line = codes "  " ++ line ++ codes "\n"

-- a thread's calls, and its lines below
abbrev pub thread_text : ThreadLog → List ℕ
thread_text log =
    codes "thread " ++ decimal log.thread ++ codes ": " ++ decimal log.calls ++ codes " calls\n"
    ++ flat_map line_text log.lines

-- how many calls started, and how many segments were taken
abbrev pub total_text : ℕ → ℕ → List ℕ
total_text started segments =
    codes "total: " ++ decimal started ++ codes " calls, " ++ decimal segments
    ++ codes " segments\n"

-- an event, on a line behind two spaces
abbrev pub event_text : Event → List ℕ
event_text Feed = codes "  feed\n"
event_text (Take worker thread) =
    codes "  take " ++ decimal worker ++ codes " " ++ decimal thread.n ++ codes "\n"
event_text (Put worker) = codes "  put " ++ decimal worker ++ codes "\n"

-- how many events there are, and each of them
abbrev pub text_of : List Event → List ℕ
text_of journal =
    codes "journal: " ++ decimal (length journal) ++ codes " events\n"
    ++ flat_map event_text journal
