use Rattle.std.proofs.Common.{◌≡◌, ◌+◌, vec_len}
use Rattle.hilti_turn.specs.Passes.{number, IsFresh}
use Rattle.hilti_turn.specs.Turns.{seat_count, IsPassOf, AreFreshFrom}
use Rattle.hilti_turn.proofs.turn.Turn.make.Given as goal

abbrev pub invariant-loop-place : goal.invariant-loop-place
invariant-loop-place g l = let topic = g.V.Journalled.about l.fn.value in record {
  own : IsPassOf l.turn l.first;
  first : number l.first ≡ 0;
  fresh : IsFresh topic l.first;
  made : l.first.seat.me.0.made ≡ l.place;
  count : vec_len l.passes + 1 ≡ l.place;
  seats : seat_count l.turn ≡ l.fn.seats;
  passes : AreFreshFrom 1 l.turn topic l.passes.items;
}
