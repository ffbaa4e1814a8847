use Rattle.std.proofs.Common.{◌≡◌, ◌+◌, length, arith, sym, ap, ◌∙◌}
use Rattle.hilti_turn.proofs.Rows.{fresh_push}
use Rattle.hilti_turn.proofs.turn.Turn.make.Goals as goal

pub loop-place-preserved : goal.loop-place-preserved
loop-place-preserved g c =
    let before = c.loop-place.invariant in let first = c.another.ensures.first in let pass = c.another.ensures.pass in
    let passes = c.loop-place.passes in
    let topic = g.V.Journalled.about c.args.value in
    let length_is : c.loop-place.place ≡ 1 + length passes.items = let count = before.count in omega (arith, passes.ok.0) in
    record {
      own = (first.0.table ∙ before.own.0, first.0.number ∙ (before.own.1 ∙ sym first.0.known_number));
      first = first.0.number ∙ before.first;
      fresh = record {
        outside = first.2;
        about = first.0.about ∙ before.fresh.about;
        seen = ap (λ v. v.seen) first.1 ∙ before.fresh.seen;
        mine = ap (λ v. v.mine) first.1 ∙ before.fresh.mine;
        visits = ap (λ v. v.visits) first.1 ∙ before.fresh.visits;
      };
      made = ap (λ v. v.made) first.1 ∙ ap (λ n. n + 1) before.made;
      count = let count = before.count in omega (arith, c.in_ok-push.ensures.len);
      seats = before.seats;
      passes = rw c.in_ok-push.ensures.items
          (fresh_push c.in_ok-turn.turn topic 1 passes.items c.another.result before.passes (pass.0 ∙ length_is) pass.1 (c.another.ensures.fresh topic before.fresh));
    }
