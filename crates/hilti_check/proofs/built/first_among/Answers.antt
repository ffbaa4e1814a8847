use Rattle.std.proofs.Common.{◌≡◌, sym, ◌∙◌, subst, length, rules}
use Rattle.std.specs.Iterator.Adapters.{zip_first, zip_second}
use Rattle.std.specs.Slice.Iter.{iter_rest}
use Rattle.std.proofs.lemmas.List.{length_push}
use Rattle.std.proofs.lemmas.Slice.Zip.{zip_turn, zip_end}
use Rattle.hilti_check.proofs.Scanning.{Left, left_found, left_more, left_end}
use Rattle.hilti_check.proofs.built.first_among.Goals as goal

pub returns-then-not-built : goal.returns-then-not-built
returns-then-not-built c =
    let places : iter_rest (zip_first c.into_iter-place-iterator.result) ≡ c.args.places.now = search rules in
    let instructions : iter_rest (zip_second c.into_iter-place-iterator.result) ≡ c.args.instructions.now = search rules in
    let turn = zip_turn c.args.places.now c.args.instructions.now c.loop-place.yielded c.into_iter-place-iterator.result c.loop-place.place-iterator c.next.new.self c.next.result places instructions
    c.loop-place.yielded_by (c.in-Some.place, c.in-Some.instruction) c.in-Some.is c.next.ensures.steps in
    left_found c.args.places.now c.args.instructions.now (length c.loop-place.yielded) c.in-Some.place.now c.in-Some.instruction.now turn.0 turn.1 (turn.2 c.in-Some.place.now) (turn.3 c.in-Some.instruction.now)
    (sym c.in_ok-built.ensures ∙ c.if-not-built.true) c.loop-place.invariant

pub loop-place-preserved : goal.loop-place-preserved
loop-place-preserved c =
    let places : iter_rest (zip_first c.into_iter-place-iterator.result) ≡ c.args.places.now = search rules in
    let instructions : iter_rest (zip_second c.into_iter-place-iterator.result) ≡ c.args.instructions.now = search rules in
    let turn = zip_turn c.args.places.now c.args.instructions.now c.loop-place.yielded c.into_iter-place-iterator.result c.loop-place.place-iterator c.next.new.self c.next.result places instructions
    c.loop-place.yielded_by (c.in-Some.place, c.in-Some.instruction) c.in-Some.is c.next.ensures.steps in
    subst (λ n. Left c.args.places.now c.args.instructions.now n) (sym (length_push c.loop-place.yielded (c.in-Some.place, c.in-Some.instruction)))
    (left_more c.args.places.now c.args.instructions.now (length c.loop-place.yielded) c.in-Some.place.now c.in-Some.instruction.now turn.0 turn.1 (turn.2 c.in-Some.place.now) (turn.3 c.in-Some.instruction.now)
    (sym c.in_ok-built.ensures ∙ c.if-not-built.false) c.loop-place.invariant)

pub returns : goal.returns
returns c =
    let places : iter_rest (zip_first c.into_iter-place-iterator.result) ≡ c.args.places.now = search rules in
    let instructions : iter_rest (zip_second c.into_iter-place-iterator.result) ≡ c.args.instructions.now = search rules in
    left_end c.args.places.now c.args.instructions.now (length c.loop-place.yielded)
    (zip_end c.args.places.now c.args.instructions.now c.loop-place.yielded c.into_iter-place-iterator.result c.loop-place.place-iterator c.next.new.self c.next.result places instructions
    c.loop-place.yielded_by c.in-None.is c.next.ensures.steps) c.loop-place.invariant
