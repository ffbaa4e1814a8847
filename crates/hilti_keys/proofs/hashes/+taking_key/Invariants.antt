use Rattle.std.proofs.Common.{◌≡◌, IsTrue, drop, map}
use Rattle.std.specs.List.{concat}
use Rattle.hilti_keys.specs.Keys.{alike, all_pass}
use Rattle.hilti_keys.specs.Hashes.{hash_from, key_bytes}
use Rattle.hilti_keys.proofs.hashes.+taking_key.Given as goal

-- what is left makes the hash that all parts make, and is nothing but keys
abbrev pub invariant-taking_parts-loop-part : goal.invariant-taking_parts-loop-part
invariant-taking_parts-loop-part l =
    (hash_from l.taken (concat (map key_bytes (drop l.part-index l.part-items)))
    ≡ hash_from l.hash (concat (map key_bytes l.part-items)))
    × IsTrue (all_pass (map alike (drop l.part-index l.part-items)) (drop l.part-index l.part-items))
