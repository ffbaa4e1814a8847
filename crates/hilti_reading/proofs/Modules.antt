-- A text is at most one module.
use Rattle.std.proofs.Common.{◌≡◌, ◌≤◌, List, subst}
use Rattle.std.proofs.Math.Bridge.{le_prop}
use Rattle.std.specs.Prelude.{map, Option}
use Rattle.hilti_lexer.proofs.Unique.{one_reading}
use Rattle.hilti_grammar.specs.Grammar.{Symbol.Rule}
use Rattle.hilti_grammar.specs.Reads.{list_tree}
use Rattle.hilti_module.specs.declared.types.Number.{Number}
use Rattle.hilti_module.specs.declared.types.Word.{Word}
use Rattle.hilti_module.specs.declared.module.Item.{Item}
use Rattle.hilti_module.specs.declared.module.Module.{Module}
use Rattle.hilti_module.specs.Counts.{module_count}
use Rattle.hilti_pieces.specs.Ends.{end_of}
use Rattle.hilti_syntax.specs.Items.{item_tree, module_tree}
use Rattle.hilti_reader.specs.Modules.{RuleName.ItemText as an_item, RuleName.ModuleText as a_module, grammar}
use Rattle.hilti_pieces.specs.Pieces.{pieces_of}
use Rattle.hilti_refusals.specs.Refusals.{DerivesModule}
use Rattle.hilti_reader.specs.Spelled.{word_tree, maybe_tree}
use Rattle.hilti_reading.specs.OneModule.{OneModule}
use Rattle.hilti_reading.proofs.Equal.{all_three}
use Rattle.hilti_reading.proofs.Fits.{Fits, fits_both, fits_rule, fitting_one}
use Rattle.hilti_reading.proofs.Items.{item_one, number_behind, number_behind_one}
use Rattle.hilti_reading.proofs.Shapes.{maybe_one}
use Rattle.hilti_reading.proofs.Spots.{word_one}

abbrev module_of : (name : Word) (version : Option Number) (inside : List Item) → module_count inside ≤ 1048576 → Module
module_of name version inside bounded = record { name = name; version = version; items = inside; bounded = bounded }

same_module : (m other : Module) → m.name ≡ other.name → m.version ≡ other.version → m.items ≡ other.items → m ≡ other
same_module m other e v f =
    subst (λ inside. (bounded : module_count inside ≤ 1048576) → m ≡ module_of other.name other.version inside bounded) f
    (λ bounded. all_three (λ name version b. module_of name version m.items b) e v (le_prop m.bounded bounded)) other.bounded

-- modules with one tree
module_one : (m other : Module) → Fits grammar (Rule a_module) (module_tree m) → module_tree m ≡ module_tree other → m ≡ other
module_one m other h e =
    same_module m other (word_one m.name other.name (let here : word_tree m.name ≡ word_tree other.name = cc in here))
    (maybe_one number_behind number_behind_one m.version other.version (let here : maybe_tree number_behind m.version ≡ maybe_tree number_behind other.version = cc in here))
    (fitting_one grammar (Rule an_item) item_tree item_one m.items other.items
    (fits_both grammar _ _ _ _ (fits_both grammar _ _ _ _ (fits_both grammar _ _ _ _ (fits_both grammar _ _ _ _ (fits_rule grammar a_module _ h)).1).1).1).1
    (let here : list_tree (map item_tree m.items) ≡ list_tree (map item_tree other.items) = cc in here))

-- modules of one text
pub one_module : OneModule
one_module file text m other is also =
    let derives = subst (λ tokens. DerivesModule tokens (end_of file text) (module_tree m)) (one_reading file text is.tokens also.tokens is.lexed also.lexed) is.are.0 in
    module_one m other (pieces_of also.tokens (end_of file text), derives) (also.are.1 (module_tree m) derives)
