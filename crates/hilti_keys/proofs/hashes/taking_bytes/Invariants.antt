use Rattle.std.proofs.Common.{◌≡◌, take}
use Rattle.hilti_keys.specs.Hashes.{hash_from}
use Rattle.hilti_keys.proofs.hashes.taking_bytes.Given as goal

-- the bytes so far are taken in
abbrev pub invariant-loop-byte : goal.invariant-loop-byte
invariant-loop-byte l = l.taken ≡ hash_from l.hash (take l.byte-index l.bytes)
