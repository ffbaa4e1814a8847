use Rattle.std.proofs.Common.{◌∷◌, Some, sym, ap, ◌∙◌}
use Rattle.atomic_table.specs.Table.{rest}
use Rattle.hilti_turn.proofs.turn.Turn.take.Goals as goal

pub exchange-slot-requires : goal.exchange-slot-requires
exchange-slot-requires g c =
    let has = c.requires.has in
    (c.requires.own.0, (Some has.0, has.1.1 ∙ ap (λ l. (0, Some has.0) ∷ l) (sym (ap rest has.1.1))))
