use Rattle.std.proofs.Common.{◌∙◌, Some, None}
use Rattle.hilti_scope.proofs.Words.{found}
use Rattle.hilti_scope.proofs.first_places.FirstPlaces.place.Goals as goal

pub returns-in_err-place : goal.returns-in_err-place
returns-in_err-place c = c.from_residual.ensures ∙ found c.self.inside.places.entries c.args.self.now c.args.word.now c.self.view_is None c.in_err-place.ensures.value

pub returns : goal.returns
returns c = found c.self.inside.places.entries c.args.self.now c.args.word.now c.self.view_is (Some c.in_ok-place.place.now) c.in_ok-place.ensures.value
