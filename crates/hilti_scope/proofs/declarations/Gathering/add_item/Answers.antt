use Rattle.std.proofs.Common.{◌∙◌}
use Rattle.hilti_scope.proofs.Behind.{IsBehind-push, names-push}
use Rattle.hilti_scope.proofs.declarations.Gathering.add_item.Goals as goal

pub returns-clause-behind : goal.returns-clause-behind
returns-clause-behind c = λ before file behind. IsBehind-push before file c.args.item.now c.take-meaning.result behind c.take-meaning.ensures.meaning c.take-meaning.ensures.numbers c.in_ok-push.ensures.ok

pub returns-clause-names : goal.returns-clause-names
returns-clause-names c = λ before file behind names bytes.
    names-push before file c.args.item.now c.len-at.result c.args.names.now c.note_name.new.names bytes names (c.len-at.ensures ∙ behind.counted) (c.in_ok-note_name.ensures bytes)
