-- The report of a core: what each thread that ran did, by rising number, and the counts.
use Rattle.std.specs.Prelude.{ℕ, List, ◌++◌, length, map, ◌≡◌}
use Rattle.std.specs.List.{flat_map}
use Rattle.hilti_core.specs.Core.{Core}
use Rattle.hilti_pool.specs.Threads.{calls_of}
use Rattle.hilti_pool.specs.Roll.{IsRoll}
use Rattle.hilti_log.specs.Texts.{ThreadLog, thread_text, total_text}

-- what a thread did
abbrev pub log_of : Core → ℕ → ThreadLog
log_of c r = record { thread = r; calls = calls_of r c.started; lines = (c.thread r).log }

-- the texts of these threads, one behind the other
abbrev pub threads_text : Core → List ℕ → List ℕ
threads_text c threads = flat_map thread_text (map (log_of c) threads)

-- the text goes on with those of the threads that ran
pub record AddsThreads (c : Core) (old new : List ℕ) : Type 0 where
  pub threads : List ℕ
  pub ran : IsRoll c.started threads
  pub adds : new ≡ old ++ threads_text c threads

-- the threads that ran, and then the counts of calls started and of segments taken
pub record IsReport (c : Core) (text : List ℕ) : Type 0 where
  pub threads : List ℕ
  pub ran : IsRoll c.started threads
  pub reads : text ≡ threads_text c threads ++ total_text (length c.started) c.takes
