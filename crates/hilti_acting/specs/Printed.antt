-- What one printed value gives a line.
use Rattle.std.specs.Prelude.{ℕ, List, map}
use Rattle.hilti_print.specs.Trees.{tree_text}
use Rattle.hilti_rows.specs.declared.row.Printed.{Printed}
use Rattle.hilti_tree.specs.Sizes.{forest_size}
use Rattle.hilti_types.specs.declared.declared.Declared.{Declared}
use Rattle.hilti_values.specs.declared.value.Value.{Value}
use Rattle.hilti_effects.specs.Operands.{value_at}
use Rattle.hilti_effects.specs.Printing.{Shown, shown, tree_of}

-- its text
abbrev pub shown_text : List Declared → List Value → List Value → Printed → List ℕ
shown_text types slots globals item =
    tree_text types item.kind (tree_of (value_at slots globals item.value))

-- how much the trees of printed values measure together
abbrev pub shown_size : List Value → List Value → List Printed → ℕ
shown_size slots globals items =
    forest_size (map (λ (one : Shown). one.tree) (shown slots globals items))
