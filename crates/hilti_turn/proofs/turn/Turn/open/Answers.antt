use Rattle.std.proofs.Common.{[], ◌∷◌, ◌++◌, Some, sym, ap, ◌∙◌}
use Rattle.hilti_turn.proofs.Steps.{opens}
use Rattle.hilti_turn.proofs.turn.Turn.open.Goals as goal

pub new-requires : goal.new-requires
new-requires g c =
    let words = c.as_slice.ensures.value ∙ c.in_ok-words.ensures.items_if_clones_equal (λ y e. e) in
    let slots = c.in_ok-push.ensures.items ∙ ap (λ l. l ++ Some c.args.value ∷ []) c.in_ok-slots.ensures.items in
    let topic = ap g.V.Journalled.about (sym c.of.ensures) in
    opens g.V.Journalled.entries g.V.Journalled.maker g.V.Journalled.about _ c.args.seats _ _ _ c.args.value words slots c.requires.empty topic c.requires.seats.0 c.requires.seats.1
