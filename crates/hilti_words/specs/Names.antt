-- Words that are names of files.
use Rattle.std.specs.Prelude.{◌≢◌, ◌≤◌, ℕ, List, [], length, slice_index}
use Rattle.std.specs.List.{AllByRecursion}
use Rattle.std.specs.Str.{IsUtf8}

-- UTF-8, not empty, and not begun by a `-`
pub record IsName (word : List ℕ) : Type 0 where
  pub text : IsUtf8 word
  pub some : word ≢ []
  pub plain : slice_index word 0 ≢ 45

-- 1 to 16 names of modules
pub record AreModuleNames (modules : List (List ℕ)) : Type 0 where
  pub named : AllByRecursion IsName modules
  pub some : 1 ≤ length modules
  pub few : length modules ≤ 16
