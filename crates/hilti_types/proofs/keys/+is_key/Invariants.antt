use Rattle.std.proofs.Common.{take, IsTrue}
use Rattle.std.specs.List.{list_all}
use Rattle.hilti_types.specs.Keys.{key_over}
use Rattle.hilti_types.proofs.keys.+is_key.Given as goal

-- the parts so far are key types
abbrev pub invariant-are_keys-loop-part : goal.invariant-are_keys-loop-part
invariant-are_keys-loop-part l = IsTrue (list_all (key_over l.types) (take l.part-index l.part-items))
