use Rattle.hilti_scope.specs.Scopes.{means}
use Rattle.hilti_bodies.specs.Sections.{sections}
use Rattle.hilti_bodies.proofs.Following.{seen_is, body_told}
use Rattle.hilti_bodies.proofs.blocks.read_body.Goals as goal

pub returns : goal.returns
returns c =
    body_told c.read_all.result (means c.args.scope.now) c.args.tables.now c.args.function.now c.args.body.now c.as_slice-lines.result.now _ c.as_slice-lines.ensures
    (seen_is (means c.args.scope.now) c.args.tables.now c.args.function.now _ _ (sections c.as_slice-lines.result.now c.args.body.now.close) (c.in_ok-labels.ensures.numbered c.args.body.now.close) (c.in_ok-labels.ensures.counted c.args.body.now.close))
    c.read_all.ensures
