use Rattle.std.proofs.Common.{◌≡◌, take}
use Rattle.hilti_pieces.specs.Ends.{end_of}
use Rattle.hilti_pieces.proofs.piece_list.end_place.Given as goal

abbrev pub invariant-loop-byte : goal.invariant-loop-byte
invariant-loop-byte l = l.place ≡ end_of l.file (take l.byte-index l.text)
