-- Which instruction a mnemonic means.
use Rattle.std.specs.Prelude.{◌≡◌, ◌↔◌, ℕ, false, List, Option, Some, bytes_eq, find}
use Rattle.hilti_types.specs.declared.op.Op.{Op}
use Rattle.hilti_table.specs.Exact.{is_exact}
use Rattle.hilti_table.specs.Table.{line_of, every_plain}

-- the first plain instruction that is written so
unfoldable pub named : List ℕ → Option Op
named mnemonic = find (λ op. bytes_eq (line_of op).mnemonic mnemonic) every_plain

-- a plain instruction that is written so; its exact one, if it has one, is written alike
pub record IsPlain (mnemonic : List ℕ) (op : Op) : Type 0 where
  pub plain : is_exact op ≡ false
  pub written : (line_of op).mnemonic ≡ mnemonic

-- what is found is the plain instruction that is written so, and nothing where none is
abbrev pub IsWrittenSo : Option Op → List ℕ → Type 0
IsWrittenSo found mnemonic = (op : Op) → (found ≡ Some op) ↔ IsPlain mnemonic op
