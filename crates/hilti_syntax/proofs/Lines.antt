-- The trees of lines.
use Rattle.std.proofs.Common.{◌≡◌, Bool, true, false, cond, List, ◌∙◌, ap}
use Rattle.std.specs.Prelude.{None}
use Rattle.hilti_grammar.specs.Grammar.{Tree.Pair, Tree.Left, Tree.Right, has}
use Rattle.hilti_module.specs.declared.types.Word.{Word}
use Rattle.hilti_module.specs.declared.module.Line.TheVariants as lines
use Rattle.hilti_module.specs.declared.module.Mnemonic.{Mnemonic}
use Rattle.hilti_module.specs.declared.module.Operand.{Operand}
use Rattle.hilti_kinds.specs.Kinds.{look_up, keyword_kinds}
use Rattle.hilti_reader.specs.Modules.{grammar, words}
use Rattle.hilti_reader.specs.Spelled.{ModuleTree, word_tree}
use Rattle.hilti_syntax.specs.Items.{is_reserved, behind_first_word, instruction_tree, line_tree}
use Rattle.hilti_reader.proofs.Chosen.{not_reserved}

-- a word that may be a name isn't reserved
pub name_not_reserved : (word : Word) → has grammar words (look_up keyword_kinds word.bytes) ≡ true → is_reserved word ≡ false
name_not_reserved word h = not_reserved (look_up keyword_kinds word.bytes) h

chosen : (b c : Bool) (x y : ModuleTree) → b ≡ c → cond b x y ≡ cond c x y
chosen b c x y e = ap (λ b. cond b x y) e

-- the tree of an instruction by whether its first word is reserved
pub reserved_line : (mnemonic : Mnemonic) (first : Word) (inside : List Operand) → is_reserved first ≡ true → mnemonic.first ≡ first →
    line_tree (lines.Instruction None mnemonic inside) ≡ Right (Left (Pair (word_tree first) (behind_first_word mnemonic inside)))
reserved_line mnemonic first inside h e =
    chosen (is_reserved mnemonic.first) true _ _ (ap is_reserved e ∙ h) ∙ ap (λ w. Right (Left (Pair (word_tree w) (behind_first_word mnemonic inside)))) e

pub plain_line : (mnemonic : Mnemonic) (first : Word) (inside : List Operand) → is_reserved first ≡ false → mnemonic.first ≡ first →
    line_tree (lines.Instruction None mnemonic inside) ≡ Right (Right (Pair (word_tree first) (Right (Right (behind_first_word mnemonic inside)))))
plain_line mnemonic first inside h e =
    chosen (is_reserved mnemonic.first) false _ _ (ap is_reserved e ∙ h) ∙ ap (λ w. Right (Right (Pair (word_tree w) (Right (Right (behind_first_word mnemonic inside)))))) e

-- an instruction begins with its first word
pub begins_with : (first : Word) (mnemonic : Mnemonic) (inside : List Operand) → mnemonic.first ≡ first → instruction_tree mnemonic inside ≡ Pair (word_tree first) (behind_first_word mnemonic inside)
begins_with first mnemonic inside e = ap (λ word. Pair (word_tree word) (behind_first_word mnemonic inside)) e
