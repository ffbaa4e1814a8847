use Rattle.hilti_acting.proofs.Measures.{no_room, one_left, text_some, text_none, data_some}
use Rattle.hilti_acting.proofs.Measures.{data_none, tuple_some, tuple_none, no_room_more}
use Rattle.hilti_acting.proofs.printing.+rooms.Goals as goal

pub room_behind-returns-in_err-room-clause-none : goal.room_behind-returns-in_err-room-clause-none
room_behind-returns-in_err-room-clause-none t c =
    no_room c.from_residual.result c.args.value.now c.args.room c.in_err-room.ensures

pub room_behind-returns-in-Tuple-clause-some : goal.room_behind-returns-in-Tuple-clause-some
room_behind-returns-in-Tuple-clause-some t c =
    tuple_some c.args.value.now c.args.room c.in_ok-room.room c.in_ok-room.ensures
    c.in-Tuple.parts c.in-Tuple.is c.room_behind_all.result c.room_behind_all.ensures.some

pub room_behind-returns-in-Tuple-clause-none : goal.room_behind-returns-in-Tuple-clause-none
room_behind-returns-in-Tuple-clause-none t c =
    tuple_none c.args.value.now c.args.room c.in_ok-room.room c.in_ok-room.ensures
    c.in-Tuple.parts c.in-Tuple.is c.room_behind_all.result c.room_behind_all.ensures.none

pub room_behind-returns-in_default : goal.room_behind-returns-in_default
room_behind-returns-in_default t c = record {
  some = one_left c.args.value.now c.args.room c.in_ok-room.room c.in_ok-room.ensures
      c.in_default.not-Text c.in_default.not-Bytes c.in_default.not-Tuple;
  none = tt;
}

pub room_behind-returns-in-Text-clause-some : goal.room_behind-returns-in-Text-clause-some
room_behind-returns-in-Text-clause-some t c =
    text_some c.args.value.now c.args.room c.in_ok-room.room c.in_ok-room.ensures
    c.in-Text.text c.bytes.result.now c.bytes.ensures c.checked_sub-in-Text.result c.in-Text.is
    c.checked_sub-in-Text.ensures

pub room_behind-returns-in-Text-clause-none : goal.room_behind-returns-in-Text-clause-none
room_behind-returns-in-Text-clause-none t c =
    text_none c.args.value.now c.args.room c.in_ok-room.room c.in_ok-room.ensures
    c.in-Text.text c.bytes.result.now c.bytes.ensures c.checked_sub-in-Text.result c.in-Text.is
    c.checked_sub-in-Text.ensures

pub room_behind-returns-in-Bytes-clause-some : goal.room_behind-returns-in-Bytes-clause-some
room_behind-returns-in-Bytes-clause-some t c =
    data_some c.args.value.now c.args.room c.in_ok-room.room c.in_ok-room.ensures
    c.in-Bytes.bytes c.bytes-in-Bytes.result.now c.bytes-in-Bytes.ensures
    c.checked_sub-in-Bytes.result c.in-Bytes.is c.checked_sub-in-Bytes.ensures

pub room_behind-returns-in-Bytes-clause-none : goal.room_behind-returns-in-Bytes-clause-none
room_behind-returns-in-Bytes-clause-none t c =
    data_none c.args.value.now c.args.room c.in_ok-room.room c.in_ok-room.ensures
    c.in-Bytes.bytes c.bytes-in-Bytes.result.now c.bytes-in-Bytes.ensures
    c.checked_sub-in-Bytes.result c.in-Bytes.is c.checked_sub-in-Bytes.ensures

pub room_behind_all-returns-in_err-left-clause-none :
    goal.room_behind_all-returns-in_err-left-clause-none
room_behind_all-returns-in_err-left-clause-none t c =
    no_room_more c.from_residual.result c.args.values.now c.as_slice-value-items.result.now
    c.args.room c.loop-value.left c.loop-value.value-index c.value-item.result
    c.as_slice-value-items.ensures c.loop-value-test.true c.value-item.is
    c.loop-value.invariant c.in_err-left.ensures.none
