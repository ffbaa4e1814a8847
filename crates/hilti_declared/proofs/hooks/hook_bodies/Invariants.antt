use Rattle.std.proofs.Common.{◌≡◌, ◌++◌, drop}
use Rattle.hilti_declared.specs.Hooks.{bodies_from}
use Rattle.hilti_declared.proofs.hooks.hook_bodies.Given as goal

-- the bodies so far, and those of the functions that are left
abbrev pub invariant-loop-n : goal.invariant-loop-n
invariant-loop-n l = l.bodies.items ++ bodies_from l.modules l.n (drop l.n l.function-items) ≡ bodies_from l.modules 0 l.function-items
