use Rattle.std.proofs.Common.{◌≡◌, List, length}
use Rattle.std.specs.Vec.Iter.{into_iter_items, into_iter_len}
use Rattle.hilti_declared.specs.declared.hooks.HookBody.{HookBody}
use Rattle.hilti_declared.specs.Hooks.{lists_from, in_order}
use Rattle.hilti_declared.proofs.Grouping.{Joined}
use Rattle.hilti_declared.proofs.hooks.with_bodies.Given as goal

abbrev pub invariant-loop-hook : goal.invariant-loop-hook
invariant-loop-hook l = (bodies : List HookBody)
    → l.fn.lists.items ≡ lists_from (in_order bodies) 0 (length l.fn.declared)
    → Joined bodies l.hooks (length l.yielded) (into_iter_items l.hook-iterator) l.fn.declared l.lists.items (into_iter_len l.hook-iterator)
