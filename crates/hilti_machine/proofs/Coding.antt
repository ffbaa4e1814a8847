-- Each instruction of a program that is typed and runnable has its row.
use Rattle.std.proofs.Common.{◌≡◌, List, [], ◌∷◌, refl, Option, Some, None, IsSome}
use Rattle.std.specs.List.{All, AllByRecursion}
use Rattle.std.specs.Option.{option_and_then, option_map}
use Rattle.std.proofs.lemmas.List.Elements.{recursion_from_All}
use Rattle.hilti_parts.specs.declared.parts.Block.{Block}
use Rattle.hilti_parts.specs.declared.parts.Function.{Function}
use Rattle.hilti_parts.specs.declared.parts.Parts.{Parts}
use Rattle.hilti_rows.specs.Resolving.{row_of}
use Rattle.hilti_rows.specs.Sources.{each_of}
use Rattle.hilti_code.specs.Rows.{block_rows, function_rows, rows_of}
use Rattle.hilti_code.specs.declared.code.Code.{Code}
use Rattle.hilti_code.specs.Runnable.{IsTypedProgram, IsRunnable, HasRow}

module _ {A B : Type 0} (of : A → Option B) where
  more : (y : Option B) (ys : Option (List B)) → IsSome y → IsSome ys
      → IsSome (option_and_then (λ y. option_map (λ ys. y ∷ ys) ys) y)
  more (Some y) (Some ys) a b = refl
  more None ys a b = absurd cc
  more (Some y) None a b = absurd cc

  each_some : (P : A → Type 0) → ((x : A) → P x → IsSome (of x)) → (xs : List A)
      → AllByRecursion P xs → IsSome (each_of of xs)
  each_some P some [] h = refl
  each_some P some (x ∷ xs) h = more (of x) (each_of of xs) (some x h.0) (each_some P some xs h.1)

block_some : (b : Block) → All HasRow b.instructions → IsSome (block_rows b)
block_some b h =
    each_some row_of HasRow (λ i r. r.some) b.instructions
    (recursion_from_All HasRow b.instructions h)

function_some : (f : Function) → IsRunnable f → IsSome (function_rows f)
function_some f r =
    each_some block_rows (λ (b : Block). All HasRow b.instructions) block_some f.blocks
    (recursion_from_All (λ (b : Block). All HasRow b.instructions) f.blocks r)

pub has_rows : (parts : Parts) → IsTypedProgram parts → IsSome (rows_of parts)
has_rows parts program =
    each_some function_rows IsRunnable function_some parts.functions
    (recursion_from_All IsRunnable parts.functions program.runnable)

-- no program is without its code
pub no_code : (parts : Parts) (code : Option Code) → IsTypedProgram parts
    → option_map (λ (made : Code). made.functions) code ≡ rows_of parts → code ≡ None → ⊥
no_code parts (Some code) program is none = cc
no_code parts None program is none = absurd (cc (is, has_rows parts program))
