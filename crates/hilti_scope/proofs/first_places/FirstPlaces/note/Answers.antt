use Rattle.std.proofs.Common.{sym, ◌∙◌}
use Rattle.hilti_scope.proofs.Words.{already, added}
use Rattle.hilti_scope.proofs.first_places.FirstPlaces.note.Goals as goal

pub returns-then-contains_key-clause-noted : goal.returns-then-contains_key-clause-noted
returns-then-contains_key-clause-noted c = already c.self.inside.places.entries c.args.self.now c.args.word.now c.self.view_is c.args.place (sym c.contains_key.ensures ∙ c.if-contains_key.true)

pub returns-clause-noted : goal.returns-clause-noted
returns-clause-noted c =
    added c.self.inside.places c.in_ok-key.key c.args.place c.args.word.now c.in_ok-key.ensures.items c.args.self.now c.insert.new.self.entries c.self.view_is (sym c.contains_key.ensures ∙ c.if-contains_key.false) c.in_ok-insert.ensures.entries
