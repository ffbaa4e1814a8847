use Rattle.std.proofs.Common.{◌≡◌, ◌<◌, get_or, length, sym, ap, ◌∙◌, arith}
use Rattle.std.proofs.lemmas.Option.{slice_get_within, get_or_from_slice_get, slice_get-get_or}
use Rattle.hilti_turn.specs.Passes.{number}
use Rattle.hilti_turn.specs.Turns.{seat_count}
use Rattle.hilti_turn.proofs.Closing.{AreAll-by_place}
use Rattle.hilti_thread_tests.proofs.turn.diary_after.Goals as goal

pub run-requires-after_bounds : goal.run-requires-after_bounds
run-requires-after_bounds g c = λ _ _ k d inside.
    let items = c.in_ok-turn.passes.items in
    let fresh = c.in_ok-turn.ensures.passes k (get_or items k d) (slice_get-get_or items k d inside) in
    (fresh.1, fresh.2.outside)

pub close-requires-clause-all : goal.close-requires-clause-all
close-requires-clause-all g c = λ _.
    let made = c.in_ok-turn.passes in let back = c.in_ok-passes.passes in
    let seats = c.in_ok-turn.ensures.seats in
    let same_len = c.in_ok-passes.ensures.len in
    let long : seat_count c.in_ok-turn.turn ≡ length back.items = omega (arith, back.ok.0) in
    AreAll-by_place c.in_ok-turn.turn back.items long (λ k p there.
    let inside = slice_get_within back.items k p there in
    let inside' : k < length made.items = omega (arith, back.ok.0, made.ok.0) in
    ap number (sym (get_or_from_slice_get back.items k p p there))
    ∙ (c.in_ok-passes.ensures.numbers k p (let l = made.ok.0 in omega (arith, made.ok.0))
    ∙ (c.in_ok-turn.ensures.passes k _ (slice_get-get_or made.items k p inside')).0))
