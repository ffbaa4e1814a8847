-- The body that counts down: what its calls do.
use Rattle.std.specs.Prelude.{ℕ, ◌≤◌, ◌==◌, zero, suc, not, List, [], ◌∷◌, Option, Some, None, ◌≡◌}
use Rattle.std.specs.Prelude.{Bool}
use Rattle.std.specs.Fmt.{decimal}
use Rattle.hilti_base.specs.declared.names.FnId.{FnId}
use Rattle.hilti_tree.specs.declared.call.Call.{Call}
use Rattle.hilti_tree.specs.declared.tree.Tree.{Tree}
use Rattle.hilti_tree.specs.declared.tree.Tree.TheVariants as variants
use Rattle.hilti_tree.specs.declared.tree.Tree.TheOpen.{Tree-F, Int}
use Rattle.hilti_tree.specs.declared.tree.Tree.TheFolds.{fold-Tree}
use Rattle.hilti_core.specs.declared.pieces.Item.{Item}
use Rattle.hilti_core.specs.declared.pieces.Item.TheVariants.{Send, Line}
use Rattle.hilti_core.specs.declared.pieces.Segment.{Segment}
use Rattle.hilti_core.specs.declared.pieces.End.TheVariants.{Yielded, Returned}
use Rattle.hilti_core.specs.declared.countdown.Counter.{Counter}
use Rattle.hilti_core.specs.declared.countdown.Progress.{Progress}
use Rattle.hilti_core.specs.Core.{Running}

-- a whole number's value, and 0 for any other tree
abbrev pub number_in : Tree-F ℕ → ℕ
number_in (Int n) = n
number_in _ = 0

-- the number that a call counts down from: its first argument
abbrev pub number_of : List Tree → ℕ
number_of [] = 0
number_of (tree ∷ more) = fold-Tree ℕ number_in tree

-- what a call does last: it sends the next one, if its number isn't 0
abbrev pub next : FnId → ℕ → List Item
next function zero = []
next function (suc n) =
    Send (record { n = suc n }) (record { function = function; args = variants.Int n ∷ [] }) ∷ []

-- a call prints its number, yields, and sends the next call
abbrev pub countdown : FnId → ℕ → List Segment
countdown function n =
    record { items = Line (decimal n) ∷ []; end = Yielded }
    ∷ record { items = next function n; end = Returned } ∷ []

abbrev pub effect_of : Call → List Segment
effect_of call = countdown call.function (number_of call.args)

-- a call on one whole number
abbrev pub IsNumber : Call → Type 0
IsNumber call = (n : ℕ) × (call.args ≡ variants.Int n ∷ [])

-- how far a call in progress is, by the number of its segments given
abbrev pub progress_of : Running → Progress
progress_of running = record {
  function = running.call.function;
  number = number_of running.call.args;
  printed = not (running.given == 0);
}

-- what a virtual thread keeps of its call in progress
abbrev pub IsAt : Counter → Option Running → Type 0
IsAt counter None = counter.progress ≡ None
IsAt counter (Some running) = (counter.progress ≡ Some (progress_of running)) × (running.given ≤ 1)

-- a virtual thread has a call of function 0 on this number in progress, which was printed or not
abbrev pub HasProgress : Counter → ℕ → Bool → Type 0
HasProgress counter n printed =
    counter.progress ≡ Some (record { function = record { n = 0 }; number = n; printed = printed })
