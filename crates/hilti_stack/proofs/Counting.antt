-- What the values of a stack hold together, after each change.
use Rattle.std.proofs.Common.{◌<◌, ℕ, List, sum_by, length}
use Rattle.std.proofs.Common.{ap, arith}
use Rattle.std.proofs.lemmas.List.Sums.{sum_by_push, sum_by-set, get_or-le-sum_by}
use Rattle.std.proofs.lemmas.Option.{slice_get_within, get_or_from_slice_get}
use Rattle.hilti_values.specs.declared.value.Value.{Value}
use Rattle.hilti_stack.specs.declared.head.Head.{Head}
use Rattle.hilti_stack.specs.Frames.{Frame, Frames, frame}
use Rattle.hilti_stack.specs.Counts.{SetsCount, CallsCount, LeavesCount}

module _ (holds : Value → ℕ) where
  -- what the callers hold
  abbrev callers : List Frame → ℕ
  callers = sum_by (λ (caller : Frame). sum_by holds caller.slots)

  pub sets_count : (s : Frames) → SetsCount holds s
  sets_count s = record {
    set = λ n old value is.
        let within : n < length s.slots = slice_get_within s.slots n old is in
        omega (
          arith,
          sum_by-set holds s.slots n value old within,
          ap holds (get_or_from_slice_get s.slots n old old is),
        );
    slot = λ n value is.
        let within : n < length s.slots = slice_get_within s.slots n value is in
        omega (
          arith,
          get_or-le-sum_by holds s.slots n value within,
          ap holds (get_or_from_slice_get s.slots n value value is),
        );
  }

  pub calls_count : (s : Frames) → CallsCount holds s
  calls_count s = record {
    make = λ value. omega (arith, sum_by_push holds s.made value);
    unmake = omega arith;
    begin = λ none. omega (arith, ap (sum_by holds) none);
    enter = λ head. omega (
      arith,
      sum_by_push (λ (caller : Frame). sum_by holds caller.slots) s.below
          (frame head s.slots),
    );
  }

  pub leaves_count : (s after : Frames) (head : Head) → LeavesCount holds s after head
  leaves_count s after head leaves = omega (
    arith,
    ap callers leaves.caller,
    ap (sum_by holds) leaves.made,
    sum_by_push (λ (caller : Frame). sum_by holds caller.slots) after.below (frame head after.slots),
  )
