-- What is so of every line of the table.
use Rattle.std.specs.Prelude.{◌≡◌, ℕ, ◌≤◌, Bool, true, false, List, ◌∷◌, length, IsTrue}
use Rattle.hilti_base.specs.declared.refusal.Raise.{Raise}
use Rattle.hilti_types.specs.declared.op.Op.{Op}
use Rattle.hilti_table.specs.declared.row.Gives.TheVariants as gives
use Rattle.hilti_table.specs.declared.row.Takes.{Takes}
use Rattle.hilti_table.specs.Rows.{IsCount, kinds, raised, ends_block, refuses_null}
use Rattle.hilti_table.specs.Table.{line_of}

-- a row has as many kinds as operands that can be written, and at most 8
abbrev pub HasItsCount : Takes → ℕ → Type 0
HasItsCount takes n = IsCount takes n → (length (kinds takes n) ≡ n) × (n ≤ 8)

-- an ending instruction gives nothing
abbrev pub GivesNothingAtEnd : Op → Type 0
GivesNothingAtEnd op =
    IsTrue (ends_block (line_of op).row.flow) → (line_of op).row.gives ≡ gives.Nothing

-- whether NullReference comes first
abbrev pub begins_with_null : List Raise → Bool
begins_with_null (Raise.NullReference ∷ more) = true
begins_with_null _ = false

-- an instruction looks for Null, before all else, exactly where it refuses Null
abbrev pub LooksForNull : Op → Type 0
LooksForNull op =
    begins_with_null (raised (line_of op).row.raises) ≡ refuses_null (line_of op).row.takes
