-- What a table keeps of its declared types.
use Rattle.std.specs.Prelude.{◌≡◌, List, map}
use Rattle.hilti_types.specs.Depths.{as_u32, depths}
use Rattle.hilti_types.specs.Sendable.{sendables}
use Rattle.hilti_types.specs.declared.declared.Declared.{Declared}
use Rattle.hilti_types.specs.declared.table.Told.{Told}

-- of each declared type, whether it is sendable and how deep it nests
pub record AreTold (types : List Declared) (told : List Told) : Type 0 where
  pub sendable : map (λ one. one.is_sendable) told ≡ sendables types
  pub depth : map (λ one. one.depth) told ≡ map as_u32 (depths types)
