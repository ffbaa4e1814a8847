use Rattle.std.proofs.Common.{◌∙◌, sym, arith}
use Rattle.hilti_scope.specs.Scopes.{means}
use Rattle.hilti_resolve.specs.Written.{Written, says}
use Rattle.hilti_link.proofs.SameWritten.{test_same}
use Rattle.hilti_link.proofs.Agreeing.{agree, agree_apart, agree_more, agree_stops, agree_end}
use Rattle.hilti_module.specs.declared.module.Parameter.{Parameter}
use Rattle.hilti_scope.specs.declared.scope.Scope.{Scope}
use Rattle.hilti_link.proofs.hooks.agrees.Goals as goal

abbrev saying : Scope → Parameter → Written
saying scope parameter = says (means scope) parameter.kind

pub returns-then-parameters-hook_parameters : goal.returns-then-parameters-hook_parameters
returns-then-parameters-hook_parameters c =
    agree_apart (saying c.args.scope.now) (saying c.args.hook_scope.now) c.args.parameters.now c.args.hook_parameters.now c.if-parameters-hook_parameters.true

pub returns-then-not-same_type : goal.returns-then-not-same_type
returns-then-not-same_type c =
    let f = saying c.args.scope.now in
    let g = saying c.args.hook_scope.now in
    let left = c.args.parameters.now in
    let right = c.args.hook_parameters.now in
    agree_stops f g (agree f g left right) left right c.loop-at.at c.index-parameters-at.result c.index-hook_parameters-at.result
    c.loop-at-test.true (omega (arith, c.loop-at-test.true, c.if-parameters-hook_parameters.false)) c.loop-at.invariant.left
    (sym c.if-not-same_type.true ∙ test_same _ _ _ c.same_type.ensures)

pub loop-at-preserved : goal.loop-at-preserved
loop-at-preserved c =
    let f = saying c.args.scope.now in
    let g = saying c.args.hook_scope.now in
    let left = c.args.parameters.now in
    let right = c.args.hook_parameters.now in
    record {
      counted = c.loop-at.invariant.counted;
      left = agree_more f g (agree f g left right) left right c.loop-at.at c.index-parameters-at.result c.index-hook_parameters-at.result
          c.loop-at-test.true (omega (arith, c.loop-at-test.true, c.if-parameters-hook_parameters.false)) c.loop-at.invariant.left
          (sym c.if-not-same_type.false ∙ test_same _ _ _ c.same_type.ensures);
    }

pub returns : goal.returns
returns c =
    let f = saying c.args.scope.now in
    let g = saying c.args.hook_scope.now in
    let left = c.args.parameters.now in
    let right = c.args.hook_parameters.now in
    agree_end f g (agree f g left right) left right c.loop-at.at
    c.loop-at-test.false (omega (arith, c.loop-at-test.false, c.if-parameters-hook_parameters.false)) c.loop-at.invariant.left
