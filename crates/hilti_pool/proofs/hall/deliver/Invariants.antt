-- What was posted so far, with what is left, is all.
use Rattle.std.proofs.Common.{◌≡◌, ◌+◌, ◌≤◌, ◌++◌, reverse, vec_len, vec_capacity}
use Rattle.std.specs.VecDeque.{deque_len, deque_capacity}
use Rattle.hilti_core.specs.Sending.{lines}
use Rattle.hilti_pool.specs.Hall.{posted_by}
use Rattle.hilti_pool.proofs.hall.deliver.Given as goal

abbrev pub invariant-loop-item : goal.invariant-loop-item
invariant-loop-item l =
    (l.mail.items ++ posted_by (reverse l.left.items) ≡ l.fn.mail.items ++ posted_by l.fn.items)
    × (l.log.items ++ lines (reverse l.left.items) ≡ l.fn.log.items ++ lines l.fn.items)
    × (deque_len l.mail + vec_len l.left ≤ deque_capacity l.mail)
    × (vec_len l.log + vec_len l.left ≤ vec_capacity l.log)

abbrev pub decreases-loop-item : goal.decreases-loop-item
decreases-loop-item l = vec_len l.left
