use Rattle.std.proofs.Common.{◌∙◌, ap}
use Rattle.hilti_scope.specs.FirstPlaces.{place_of}
use Rattle.hilti_scope.specs.Scopes.{means_there, plain_means}
use Rattle.hilti_scope.proofs.Seeing.{means-second, means-plain}
use Rattle.hilti_scope.proofs.scope.Scope.meaning.Goals as goal

pub returns-in-Some : goal.returns-in-Some
returns-in-Some c =
    means-second c.args.self.now c.args.name.now c.in-Some.second c.module-file.result c.meaning_in_module.result c.in-Some.is
    (c.module-file.ensures ∙ ap (place_of c.args.self.now.declarations.now.modules) c.bytes.ensures)
    (c.meaning_in_module.ensures ∙ ap (means_there c.args.self.now c.module-file.result) c.bytes-in-Some.ensures)

pub returns-in-None : goal.returns-in-None
returns-in-None c = means-plain c.args.self.now c.args.name.now c.plain_meaning.result c.in-None.is (c.plain_meaning.ensures ∙ ap (plain_means c.args.self.now) c.bytes-in-None.ensures)
