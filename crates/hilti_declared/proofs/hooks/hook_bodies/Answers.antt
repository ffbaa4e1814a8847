use Rattle.std.proofs.Common.{ap, sym, ◌∙◌, ◌++◌, refl, append-nil}
use Rattle.hilti_declared.specs.Hooks.{bodies_from}
use Rattle.hilti_declared.proofs.Grouping.{body_more, bodies_end, body_is, no_body}
use Rattle.hilti_declared.proofs.hooks.hook_bodies.Goals as goal
use Rattle.hilti_declared.proofs.hooks.hook_bodies.Goals.{in-Some+in_ok-as_number+in_ok-push, in_default}

pub loop-n-preserved : goal.loop-n-preserved
loop-n-preserved c =
    let modules = c.args.modules.now in
    let functions = c.as_slice-function-items.result.now in
    let f = c.function-item.result in
    let found = c.loop-n.bodies.items in
    elim c.match-function.branch [
      | in-Some+in_ok-as_number+in_ok-push w ↦
          body_more modules functions c.loop-n.n f found (bodies_from modules 0 functions) c.match-function.bodies.items c.loop-n-test.true c.function-item.is c.loop-n.invariant
          (ap (λ v. v.items) w.bodies-is ∙ w.in_ok-push.ensures.items
          ∙ ap (λ l. found ++ l) (body_is modules c.loop-n.n f w.in-Some.hook w.priority_at.result w.in_ok-as_number.field-0 w.in-Some.is w.priority_at.ensures w.in_ok-as_number.ensures))
      | in_default w ↦
          body_more modules functions c.loop-n.n f found (bodies_from modules 0 functions) c.match-function.bodies.items c.loop-n-test.true c.function-item.is c.loop-n.invariant
          (ap (λ v. v.items) w.bodies-is ∙ sym (append-nil found) ∙ ap (λ l. found ++ l) (no_body modules c.loop-n.n f f.hook refl w.in_default.not-Some))
    ]

pub returns : goal.returns
returns c =
    let modules = c.args.modules.now in
    let functions = c.as_slice-function-items.result.now in
    bodies_end modules functions c.loop-n.n c.loop-n.bodies.items (bodies_from modules 0 functions) c.loop-n-test.false c.loop-n.invariant
    ∙ ap (bodies_from modules 0) c.as_slice-function-items.ensures
