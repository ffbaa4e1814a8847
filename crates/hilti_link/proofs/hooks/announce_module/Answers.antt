use Rattle.std.proofs.Common.{◌∙◌, ap, map, drop, ◌++◌, ◌+◌}
use Rattle.std.proofs.lemmas.List.{map-append}
use Rattle.hilti_scope.specs.Items.{placed_in}
use Rattle.hilti_link.specs.Hooks.{Announced, announced_from}
use Rattle.hilti_link.specs.Announcing.{shows}
use Rattle.hilti_link.proofs.Announced.{hook_more, hook_none, hooks_end, here_is, none_here}
use Rattle.hilti_link.proofs.hooks.announce_module.Goals as goal
use Rattle.hilti_link.proofs.hooks.announce_module.Goals.{in-Hook+in_ok-push, in_default}

pub loop-at-preserved : goal.loop-at-preserved
loop-at-preserved c =
    let all = map shows c.args.hooks.now.items ++ announced_from c.args.here (placed_in c.args.file c.args.next.now.items) in
    let found = map shows c.loop-at.hooks.items in
    let items = c.as_slice-item-items.result.now in
    elim c.match-item.branch [
      | in-Hook+in_ok-push w ↦
          let hook : Announced = record { file = c.args.file; here = c.args.here + c.loop-at.at; parameters = w.in-Hook.parameters } in
          hook_more all c.args.file c.args.here items c.loop-at.at c.item-item.result found hook (map shows c.match-item.hooks.items) c.loop-at-test.true c.item-item.is c.loop-at.invariant
          (here_is (c.args.here + c.loop-at.at) c.args.file c.item-item.result w.in-Hook.name w.in-Hook.parameters w.in-Hook.is)
          (ap (λ hooks. map shows hooks.items) w.hooks-is ∙ ap (map shows) w.in_ok-push.ensures.items ∙ map-append shows c.loop-at.hooks.items _)
      | in_default w ↦
          ap (λ hooks. map shows hooks.items ++ announced_from (c.args.here + (c.loop-at.at + 1)) (placed_in c.args.file (drop (c.loop-at.at + 1) items))) w.hooks-is
          ∙ hook_none all c.args.file c.args.here items c.loop-at.at c.item-item.result found c.loop-at-test.true c.item-item.is c.loop-at.invariant
          (none_here (c.args.here + c.loop-at.at) c.args.file c.item-item.result w.in_default.not-Hook)
    ]

pub returns : goal.returns
returns c =
    let all = map shows c.args.hooks.now.items ++ announced_from c.args.here (placed_in c.args.file c.args.next.now.items) in
    hooks_end all c.args.file c.args.here c.as_slice-item-items.result.now c.loop-at.at (map shows c.loop-at.hooks.items) c.loop-at-test.false c.loop-at.invariant
