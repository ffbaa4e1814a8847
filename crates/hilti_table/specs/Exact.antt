-- The exact instructions, which raise ValueError where a result doesn't fit.
use Rattle.std.specs.Prelude.{◌≡◌, Bool, true, false, IsTrue, List, [], ◌∷◌, ◌++◌, filter}
use Rattle.hilti_types.specs.declared.op.Op.{Op}
use Rattle.hilti_types.specs.declared.op.Op.TheVariants as ops
use Rattle.hilti_table.specs.Rows.{raised}
use Rattle.hilti_table.specs.Table.{line_of, every_plain, value_error}

abbrev pub is_exact : Op → Bool
is_exact ops.IntAddExact = true
is_exact ops.IntSubExact = true
is_exact ops.IntMulExact = true
is_exact ops.IntShlExact = true
is_exact ops.IntSdivExact = true
is_exact ops.IntAsExact = true
is_exact _ = false

-- the exact instruction of a plain one, where there is one
abbrev pub exact_of : Op → Op
exact_of ops.IntAdd = ops.IntAddExact
exact_of ops.IntSub = ops.IntSubExact
exact_of ops.IntMul = ops.IntMulExact
exact_of ops.IntShl = ops.IntShlExact
exact_of ops.IntSdiv = ops.IntSdivExact
exact_of ops.IntAs = ops.IntAsExact
exact_of op = op

-- an instruction that is written, takes and gives what another does and goes on as that, and
-- raises ValueError besides, after all else
pub record IsExactOf (exact plain : Op) : Type 0 where
  pub written : (line_of exact).mnemonic ≡ (line_of plain).mnemonic
  pub takes : (line_of exact).row.takes ≡ (line_of plain).row.takes
  pub gives : (line_of exact).row.gives ≡ (line_of plain).row.gives
  pub flow : (line_of exact).row.flow ≡ (line_of plain).row.flow
  pub raises : raised (line_of exact).row.raises
      ≡ raised (line_of plain).row.raises ++ value_error ∷ []

-- the exact instruction of a plain one is exact of it
abbrev pub HasExactRow : Op → Type 0
HasExactRow op =
    is_exact op ≡ false → IsTrue (is_exact (exact_of op)) → IsExactOf (exact_of op) op

-- the plain instructions that have an exact one
abbrev pub made_exact : List Op
made_exact = filter (λ op. is_exact (exact_of op)) every_plain
