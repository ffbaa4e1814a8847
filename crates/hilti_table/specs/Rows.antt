-- What the parts of a row say.
use Rattle.std.specs.Prelude.{◌≡◌, ℕ, ◌≤◌, Bool, true, false, ◌||◌, List, [], ◌∷◌, replicate}
use Rattle.hilti_base.specs.declared.refusal.Raise.{Raise}
use Rattle.hilti_table.specs.declared.row.Flow.{Flow}
use Rattle.hilti_table.specs.declared.row.Flow.TheVariants as flows
use Rattle.hilti_table.specs.declared.row.Kind.{Kind}
use Rattle.hilti_table.specs.declared.row.Kind.TheVariants.{Fixed, Own}
use Rattle.hilti_table.specs.declared.row.Plain.TheVariants as plain
use Rattle.hilti_table.specs.declared.row.Raises.{Raises}
use Rattle.hilti_table.specs.declared.row.Raises.TheVariants as raises
use Rattle.hilti_table.specs.declared.row.Takes.{Takes}
use Rattle.hilti_table.specs.declared.row.Takes.TheVariants as takes
use Rattle.hilti_table.specs.declared.row.Test.TheVariants as tests

-- whether so many operands can be written
abbrev pub IsCount : Takes → ℕ → Type 0
IsCount takes.Nothing n = n ≡ 0
IsCount (takes.One a) n = n ≡ 1
IsCount (takes.Two a b) n = n ≡ 2
IsCount (takes.Three a b c) n = n ≡ 3
IsCount (takes.Four a b c d) n = n ≡ 4
IsCount (takes.UpToEight a) n = n ≤ 8

-- the kinds of the operands, where n are written
abbrev pub kinds : Takes → ℕ → List Kind
kinds takes.Nothing n = []
kinds (takes.One a) n = a ∷ []
kinds (takes.Two a b) n = a ∷ b ∷ []
kinds (takes.Three a b c) n = a ∷ b ∷ c ∷ []
kinds (takes.Four a b c d) n = a ∷ b ∷ c ∷ d ∷ []
kinds (takes.UpToEight a) n = replicate n a

-- the exceptions that an instruction raises by itself
abbrev pub raised : Raises → List Raise
raised raises.Nothing = []
raised (raises.One a) = a ∷ []
raised (raises.Two a b) = a ∷ b ∷ []
raised (raises.Three a b c) = a ∷ b ∷ c ∷ []

-- whether an instruction is an ending one
abbrev pub ends_block : Flow → Bool
ends_block flows.Next = false
ends_block flows.Calls = false
ends_block flows.Jumps = true
ends_block (flows.Leaves body) = true
ends_block flows.Throws = true

-- a timer or a manager
abbrev pub is_timing : Kind → Bool
is_timing (Fixed plain.Timer) = true
is_timing (Fixed plain.Manager) = true
is_timing _ = false

-- a reference to objects of one kind, an iterator or a callable
abbrev pub is_handle : Kind → Bool
is_handle (Fixed plain.Callable) = true
is_handle (Own tests.Iterator) = true
is_handle (Own (tests.Object family)) = true
is_handle kind = is_timing kind

-- whether an instruction refuses Null: as its first operand, or as a timer or a manager
abbrev pub refuses_null : Takes → Bool
refuses_null takes.Nothing = false
refuses_null (takes.One a) = is_handle a
refuses_null (takes.Two a b) = is_handle a || is_timing b
refuses_null (takes.Three a b c) = is_handle a || is_timing b || is_timing c
refuses_null (takes.Four a b c d) = is_handle a || is_timing b || is_timing c || is_timing d
refuses_null (takes.UpToEight a) = is_handle a
