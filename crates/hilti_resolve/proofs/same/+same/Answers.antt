use Rattle.std.proofs.Common.{◌≡◌, ◌∙◌, sym, ap, arith}
use Rattle.std.proofs.lemmas.Grind.{common_steps}
use Rattle.hilti_scope.specs.Scopes.{means}
use Rattle.hilti_resolve.specs.Written.{Tuple, says, parametric_writes, parts_of}
use Rattle.hilti_resolve.proofs.Says.{plain_says, parametric_says, tuple_says}
use Rattle.hilti_resolve.proofs.SameParts.{same_at, same_more, same_tuple}
use Rattle.hilti_resolve.proofs.same.+same.Goals as goal

pub same_parametric-returns-in-Tuple-other : goal.same_parametric-returns-in-Tuple-other
same_parametric-returns-in-Tuple-other t c =
    let mean = means c.args.scope.now in
    let other_mean = means c.args.other_scope.now in
    let left = ap (parametric_writes mean) c.in-Tuple.is ∙ tuple_says mean c.in-Tuple.place c.in-Tuple.parts in
    let right = ap (parametric_writes other_mean) c.in-Tuple-other.is ∙ tuple_says other_mean c.in-Tuple-other.place c.in-Tuple-other.other_parts in (
      λ yes. left ∙ ap (λ parts. Tuple (parts_of parts)) (c.same_parts.ensures.0 yes) ∙ sym right,
      λ same. c.same_parts.ensures.1 (same_tuple _ _ (sym left ∙ same ∙ right)),
    )

pub same_parts-returns-then-not-same_type : goal.same_parts-returns-then-not-same_type
same_parts-returns-then-not-same_type t c =
    let mean = means c.args.scope.now in
    let other_mean = means c.args.other_scope.now in
    let at = same_at (says mean) (says other_mean) c.args.parts.now c.args.others.now c.as_slice-left.result.now c.as_slice-right.result.now c.loop-at.at c.index-left-at.result c.index-right-at.result c.as_slice-left.ensures c.as_slice-right.ensures (omega arith) (omega arith) c.index-left-at.is c.index-right-at.is in
    grind (arith, common_steps, at)

pub same_parts-loop-at-preserved : goal.same_parts-loop-at-preserved
same_parts-loop-at-preserved t c =
    let mean = means c.args.scope.now in
    let other_mean = means c.args.other_scope.now in
    let same : says mean c.index-left-at.result ≡ says other_mean c.index-right-at.result = grind (arith, common_steps) in
    (c.loop-at.invariant.0, same_more (says mean) (says other_mean) c.as_slice-left.result.now c.as_slice-right.result.now c.loop-at.at c.index-left-at.result c.index-right-at.result (omega arith) (omega arith) c.index-left-at.is c.index-right-at.is c.loop-at.invariant.1 same)

pub same_type-returns-in-Parametric-other : goal.same_type-returns-in-Parametric-other
same_type-returns-in-Parametric-other t c =
    let mean = means c.args.scope.now in
    let other_mean = means c.args.other_scope.now in
    let told = c.says_plain.ensures other_mean in
    let left = ap (says mean) c.in-Plain.is ∙ plain_says mean c.in-Plain.place c.in-Plain.plain in
    let right = ap (says other_mean) c.in-Parametric-other.is ∙ parametric_says other_mean c.in-Parametric-other.parametric in
    (λ yes. left ∙ sym (right ∙ told.0 yes), λ same. told.1 (sym right ∙ sym same ∙ left))

pub same_type-returns-in-Plain-other-2 : goal.same_type-returns-in-Plain-other-2
same_type-returns-in-Plain-other-2 t c =
    let mean = means c.args.scope.now in
    let other_mean = means c.args.other_scope.now in
    let told = c.says_plain-in-Plain-other-2.ensures mean in
    let left = ap (says mean) c.in-Parametric.is ∙ parametric_says mean c.in-Parametric.parametric in
    let right = ap (says other_mean) c.in-Plain-other-2.is ∙ plain_says other_mean c.in-Plain-other-2.place c.in-Plain-other-2.plain in
    (λ yes. left ∙ told.0 yes ∙ sym right, λ same. told.1 (sym left ∙ same ∙ right))
