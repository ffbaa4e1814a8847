-- A call that is tried again, and what a writer tells.
use Rattle.std.proofs.Common.{◌≡◌, ℕ, List, [], ◌++◌, Option, Some, None, refl, sym, ◌∙◌, ap}
use Rattle.std.proofs.lemmas.List.{append-nil}
use Rattle.std.specs.Io.KnownBytes.{Appends, Consumes, Keeps}
use Rattle.hilti_outside.specs.Contents.{Grows}
use Rattle.hilti_outside.specs.System.{StaysTold, told_since}

pub keeps_same : (known : Option (List ℕ)) → Keeps known known
keeps_same None = tt
keeps_same (Some known) = refl

pub keeps_more : (first old new : Option (List ℕ)) → Keeps first old → Keeps old new → Keeps first new
keeps_more None old new kept more = tt
keeps_more (Some f) None new kept more = absurd kept
keeps_more (Some f) (Some o) None kept more = absurd more
keeps_more (Some f) (Some o) (Some n) kept more = more ∙ kept

pub consumes_then : (first old new : Option (List ℕ)) (bytes : List ℕ)
    → Keeps first old → Consumes old new bytes → Consumes first new bytes
consumes_then None old new bytes kept more = tt
consumes_then (Some f) None new bytes kept more = absurd kept
consumes_then (Some f) (Some o) None bytes kept more = absurd more
consumes_then (Some f) (Some o) (Some n) bytes kept more = sym kept ∙ more

pub appends_then : (first old new : Option (List ℕ)) (bytes : List ℕ)
    → Keeps first old → Appends old new bytes → Appends first new bytes
appends_then None old new bytes kept more = tt
appends_then (Some f) None new bytes kept more = absurd kept
appends_then (Some f) (Some o) None bytes kept more = absurd more
appends_then (Some f) (Some o) (Some n) bytes kept more = more ∙ ap (λ xs. xs ++ bytes) kept

-- what takes nothing keeps what was there
pub appends_nothing : (old new : Option (List ℕ)) → Appends old new [] → Keeps old new
appends_nothing None new more = tt
appends_nothing (Some o) None more = absurd more
appends_nothing (Some o) (Some n) more = more ∙ append-nil o

pub tells_same : (known : Option (List ℕ)) → told_since known known ≡ known
tells_same None = refl
tells_same (Some known) = refl

pub stays_same : (known : Option (List ℕ)) → StaysTold known known
stays_same None = tt
stays_same (Some known) = tt

pub stays_appended : (first old new : Option (List ℕ)) (bytes : List ℕ)
    → StaysTold first old → Appends old new bytes → StaysTold first new
stays_appended None old new bytes told more = tt
stays_appended (Some f) None new bytes told more = absurd told
stays_appended (Some f) (Some o) None bytes told more = absurd more
stays_appended (Some f) (Some o) (Some n) bytes told more = tt

pub stays_kept : (first old new : Option (List ℕ))
    → StaysTold first old → Keeps old new → StaysTold first new
stays_kept None old new told more = tt
stays_kept (Some f) None new told more = absurd told
stays_kept (Some f) (Some o) None told more = absurd more
stays_kept (Some f) (Some o) (Some n) told more = tt

pub grows_appended : (first old new : Option (List ℕ)) (bytes : List ℕ)
    → StaysTold first old → Appends old new bytes → Grows (told_since first old) (told_since first new) bytes
grows_appended None old new bytes told more = tt
grows_appended (Some f) None new bytes told more = absurd told
grows_appended (Some f) (Some o) None bytes told more = absurd more
grows_appended (Some f) (Some o) (Some n) bytes told more = more

pub tells_kept : (first old new : Option (List ℕ))
    → StaysTold first old → Keeps old new → told_since first new ≡ told_since first old
tells_kept None old new told more = refl
tells_kept (Some f) None new told more = absurd told
tells_kept (Some f) (Some o) None told more = absurd more
tells_kept (Some f) (Some o) (Some n) told more = ap Some more
