use Rattle.std.proofs.Common.{◌≡◌, ◌+◌, [], ◌∷◌, ◌∙◌, Err, refl, ap, subst, length-append}
use Rattle.std.proofs.lemmas.Result.{err_from_is_err_and}
use Rattle.hilti_base.specs.declared.refusal.Refusal.TheVariants.{At}
use Rattle.hilti_syntax.specs.Texts.{TextIsModule, TextRefused}
use Rattle.hilti_top.specs.ModuleTexts.{IsUnread}
use Rattle.hilti_top.proofs.Reading.{are_more, are_none, unread_at}
use Rattle.hilti_top.proofs.modules.read_trees.Goals as goal

pub loop-text-init : goal.loop-text-init
loop-text-init c = rw c.new-modules.ensures (record { are = are_none; count = refl })

pub returns-in_err-tree-clause-refused : goal.returns-in_err-tree-clause-refused
returns-in_err-tree-clause-refused c = λ place code is.
    let failed = err_from_is_err_and c.from_residual.result c.from_residual.ensures.1 in
    let refused : c.in_err-tree.field-0.0 ≡ At place code = cc (failed.1, failed.2, is) in
    let text = c.in_err-tree.ensures.refusal place code (ap Err refused) in
    let here : TextRefused c.len.result c.text-item.result code place = subst (λ t. TextRefused c.len.result t code place) c.bytes.ensures text in
    let unread = unread_at c.as_slice-text-items.result.now c.loop-text.modules c.loop-text.text-index c.len.result c.text-item.result place code
    c.loop-text-test.true c.text-item.is c.len.ensures c.loop-text.invariant.are here in
    subst (λ texts. IsUnread texts place code) c.as_slice-text-items.ensures unread

pub loop-text-preserved : goal.loop-text-preserved
loop-text-preserved c =
    let is : TextIsModule c.len.result c.text-item.result c.in_ok-tree.tree =
    subst (λ t. TextIsModule c.len.result t c.in_ok-tree.tree) c.bytes.ensures c.in_ok-tree.ensures.«module» in
    rw c.in_ok-push.ensures.ok
    (record {
      are = are_more c.as_slice-text-items.result.now c.loop-text.modules c.loop-text.text-index c.len.result c.text-item.result c.in_ok-tree.tree
          c.loop-text-test.true c.text-item.is c.len.ensures c.loop-text.invariant.are is;
      count = length-append c.loop-text.modules (c.in_ok-tree.tree ∷ []) ∙ ap (λ n. n + 1) c.loop-text.invariant.count;
    })
