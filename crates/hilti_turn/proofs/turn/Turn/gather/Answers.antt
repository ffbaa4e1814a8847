use Rattle.std.proofs.Common.{Some, sym, ◌∙◌}
use Rattle.std.proofs.lemmas.List.Elements.{All-pop}
use Rattle.hilti_turn.specs.Passes.{IsOutside}
use Rattle.hilti_turn.specs.Turns.{IsPassOf}
use Rattle.hilti_turn.proofs.Rows.{gathers_one}
use Rattle.hilti_turn.proofs.turn.Turn.gather.Goals as goal

pub loop-pass-preserved : goal.loop-pass-preserved
loop-pass-preserved g c =
    let before = c.loop-pass.invariant in let same = c.absorb.ensures.same in let joined = c.absorb.ensures.joined in
    let popped = c.in-Some-pop.ensures.items in
    let others = (All-pop (λ p. IsPassOf c.args.self.now p × IsOutside p) c.loop-pass.passes.items c.pop-in-loop-pass.new.self.items (Some c.in-Some-pop.pass) popped before.others).0 in
    gathers_one c.args.self.now c.args.passes.items c.loop-pass.passes.items c.pop-in-loop-pass.new.self.items c.loop-pass.last c.in-Some-pop.pass c.absorb.new.pass
    before popped others ((same.table ∙ before.own.0.0, same.number ∙ (before.own.0.1 ∙ sym same.known_number)), joined.1) joined.0
