-- Trees of lines and bodies that a text can have tell what they are of.
use Rattle.std.proofs.Common.{◌≡◌, Bool, true, false, List, refl, sym, ap}
use Rattle.std.specs.Prelude.{map, cond, codes, Option, Some, None}
use Rattle.hilti_base.specs.declared.names.Place.{Place}
use Rattle.hilti_lexer.specs.declared.token.TokenKind.TheVariants as tokens
use Rattle.hilti_grammar.specs.Grammar.{Symbol, Symbol.One, Symbol.◌▹◌, Symbol.Rule, Keep.Placed, Tree.Pair, Tree.Left, Tree.Right}
use Rattle.hilti_grammar.specs.Reads.{list_tree}
use Rattle.hilti_kinds.specs.declared.kind.Kind.{Kind}
use Rattle.hilti_kinds.specs.declared.kind.Kind.TheVariants as kinds
use Rattle.hilti_module.specs.declared.types.Word.{Word}
use Rattle.hilti_module.specs.declared.types.Name.{Name}
use Rattle.hilti_module.specs.declared.module.Body.{Body}
use Rattle.hilti_module.specs.declared.module.Handler.{Handler}
use Rattle.hilti_module.specs.declared.module.Line.{Line}
use Rattle.hilti_module.specs.declared.module.Line.TheVariants as lines
use Rattle.hilti_module.specs.declared.module.Mnemonic.{Mnemonic}
use Rattle.hilti_module.specs.declared.module.Operand.{Operand}
use Rattle.hilti_module.specs.declared.module.Parameter.{Parameter}
use Rattle.hilti_read_operands.specs.Operands.{operands_tree}
use Rattle.hilti_syntax.specs.Items.{behind_first_word, instruction_tree, is_reserved, behind_target, handler_tree, line_tree, local_tree, body_tree}
use Rattle.hilti_read_shapes.specs.Shapes.{parameter_tree}
use Rattle.hilti_reader.specs.Modules.{RuleName, RuleName.Operands as the_operands, RuleName.AfterWord as after_word, RuleName.InstructionText as an_instruction, RuleName.LineText as a_line, RuleName.BodyText as a_body, grammar, mark, maybe, line_end, any_words}
use Rattle.hilti_reader.specs.Spelled.{ModuleTree, keyword_at, marked_at, word_tree, behind_word, maybe_tree, name_tree}
use Rattle.hilti_reading.proofs.Equal.{both, all_three, all_four}
use Rattle.hilti_reading.proofs.Fits.{Fits, fits_both, fits_left, fits_right, fits_rule, fitting_one}
use Rattle.hilti_reading.proofs.Literals.{behind_word_one}
use Rattle.hilti_reading.proofs.Operands.{operands_one}
use Rattle.hilti_reading.proofs.Sequences.{listed}
use Rattle.hilti_reading.proofs.Shapes.{maybe_one, parameter_one}
use Rattle.hilti_reading.proofs.Spots.{spot_one, word_one, name_one}

abbrev handler_of : Place → Name → Word → Word → Handler
handler_of place exception target slot = record { place = place; exception = exception; target = target; slot = slot }

handler_one : (a b : Handler) → handler_tree a ≡ handler_tree b → a ≡ b
handler_one a b e =
    all_four handler_of
    (spot_one a.place b.place (tokens.Word (codes "catch")) (tokens.Word (codes "catch")) (let here : keyword_at a.place kinds.Catch ≡ keyword_at b.place kinds.Catch = cc in here)).0
    (name_one a.exception b.exception (let here : name_tree a.exception ≡ name_tree b.exception = cc in here))
    (word_one a.target b.target (let here : word_tree a.target ≡ word_tree b.target = cc in here))
    (word_one a.slot b.slot (let here : word_tree a.slot ≡ word_tree b.slot = cc in here))

handlers_one : (xs ys : List Handler) → list_tree (map handler_tree xs) ≡ list_tree (map handler_tree ys) → xs ≡ ys
handlers_one xs ys e = listed handler_tree handler_one xs ys e

-- what stands behind the first word of a mnemonic
abbrev rest : Symbol Kind RuleName
rest = maybe (mark kinds.Dot ▹ One Placed any_words) ▹ (Rule the_operands ▹ line_end)

rest_one : (m n : Mnemonic) (xs ys : List Operand) → Fits grammar rest (behind_first_word m xs) → behind_first_word m xs ≡ behind_first_word n ys →
    (m.second ≡ n.second) × (xs ≡ ys)
rest_one m n xs ys h e = (
  maybe_one behind_word behind_word_one m.second n.second (let here : maybe_tree behind_word m.second ≡ maybe_tree behind_word n.second = cc in here),
  operands_one false xs ys (fits_both grammar _ _ _ _ (fits_both grammar _ _ _ _ h).1).0 (let here : operands_tree false xs ≡ operands_tree false ys = cc in here),
)

abbrev mnemonic_of : Word → Option Word → Mnemonic
mnemonic_of first second = record { first = first; second = second }

-- two instructions with the same first words and the same behind them
two_instructions : (t s : Option Name) (m n : Mnemonic) (xs ys : List Operand) → t ≡ s → m.first ≡ n.first → Fits grammar rest (behind_first_word m xs) → behind_first_word m xs ≡ behind_first_word n ys →
    lines.Instruction t m xs ≡ lines.Instruction s n ys
two_instructions t s m n xs ys target first h e =
    let same = rest_one m n xs ys h e in all_three (λ t m l. lines.Instruction t m l) target (both mnemonic_of first same.0) same.1

-- an instruction without a target, whose first word is reserved or not
abbrev lone : Bool → Word → ModuleTree → ModuleTree
lone reserved word tree = cond reserved (Right (Left (Pair (word_tree word) tree))) (Right (Right (Pair (word_tree word) (Right (Right tree)))))

lone_one : (r s : Bool) (v w : Word) (x y : ModuleTree) → lone r v x ≡ lone s w y → (v ≡ w) × (x ≡ y)
lone_one true true v w x y e = (word_one v w (let here : word_tree v ≡ word_tree w = cc in here), cc)
lone_one true false v w x y e = cc
lone_one false true v w x y e = cc
lone_one false false v w x y e = (word_one v w (let here : word_tree v ≡ word_tree w = cc in here), cc)

lone_fits : (r : Bool) (w : Word) (x : ModuleTree) → Fits grammar (Rule a_line) (lone r w x) → Fits grammar rest x
lone_fits true w x h = (fits_both grammar _ _ _ _ (fits_left grammar _ _ _ (fits_right grammar _ _ _ (fits_rule grammar a_line _ h)))).1
lone_fits false w x h =
    fits_right grammar _ _ _ (fits_right grammar _ _ _ (fits_rule grammar after_word _ (fits_both grammar _ _ _ _ (fits_right grammar _ _ _ (fits_right grammar _ _ _ (fits_rule grammar a_line _ h)))).1))

lone_not_label : (r : Bool) (w : Word) (x z : ModuleTree) → lone r w x ≡ Left z → ⊥
lone_not_label true w x z e = cc
lone_not_label false w x z e = cc

-- an instruction with a target
abbrev aimed : Name → ModuleTree → ModuleTree
aimed target tree = Right (Right (Pair (word_tree target.first) (behind_target target.second tree)))

target_one : (v w : Option Word) (x y : ModuleTree) → behind_target v x ≡ behind_target w y → (v ≡ w) × (x ≡ y)
target_one None None x y e = (refl, cc)
target_one None (Some w) x y e = cc
target_one (Some v) None x y e = cc
target_one (Some v) (Some w) x y e = (ap Some (word_one v w (let here : word_tree v ≡ word_tree w = cc in here)), cc)

target_fits : (v : Option Word) (x : ModuleTree) → Fits grammar (Rule after_word) (behind_target v x) → Fits grammar (Rule an_instruction) x
target_fits None x h = (fits_both grammar _ _ _ _ (fits_left grammar _ _ _ (fits_right grammar _ _ _ (fits_rule grammar after_word _ h)))).1
target_fits (Some w) x h = (fits_both grammar _ _ _ _ (fits_both grammar _ _ _ _ (fits_both grammar _ _ _ _ (fits_left grammar _ _ _ (fits_rule grammar after_word _ h))).1).1).1

not_target : (v : Option Word) (x y : ModuleTree) → behind_target v x ≡ Right (Right y) → ⊥
not_target None x y e = cc
not_target (Some w) x y e = cc

lone_not_aimed : (r : Bool) (w : Word) (x : ModuleTree) (t : Name) (y : ModuleTree) → lone r w x ≡ aimed t y → ⊥
lone_not_aimed true w x t y e = cc
lone_not_aimed false w x t y e = not_target t.second y x (let here : behind_target t.second y ≡ Right (Right x) = cc in here)

abbrev name_of : Word → Option Word → Name
name_of first second = record { first = first; second = second }

two_aimed : (t s : Name) (m n : Mnemonic) (xs ys : List Operand) → Fits grammar (Rule a_line) (aimed t (instruction_tree m xs)) → aimed t (instruction_tree m xs) ≡ aimed s (instruction_tree n ys) →
    lines.Instruction (Some t) m xs ≡ lines.Instruction (Some s) n ys
two_aimed t s m n xs ys h e =
    let first = word_one t.first s.first (let here : word_tree t.first ≡ word_tree s.first = cc in here) in
    let behind : behind_target t.second (instruction_tree m xs) ≡ behind_target s.second (instruction_tree n ys) = cc in
    let second = target_one t.second s.second (instruction_tree m xs) (instruction_tree n ys) behind in
    let instruction : instruction_tree m xs ≡ instruction_tree n ys = second.1 in
    let fits = target_fits t.second (instruction_tree m xs) (fits_both grammar _ _ _ _ (fits_right grammar _ _ _ (fits_right grammar _ _ _ (fits_rule grammar a_line _ h)))).1 in
    two_instructions (Some t) (Some s) m n xs ys (ap Some (both name_of first second.0))
    (word_one m.first n.first (let here : word_tree m.first ≡ word_tree n.first = cc in here))
    (fits_both grammar _ _ _ _ (fits_rule grammar an_instruction _ fits)).1
    (let here : behind_first_word m xs ≡ behind_first_word n ys = cc in here)

line_one : (a b : Line) → Fits grammar (Rule a_line) (line_tree a) → line_tree a ≡ line_tree b → a ≡ b
line_one (lines.Label p v xs) (lines.Label q w ys) h e =
    all_three (λ p w l. lines.Label p w l) (spot_one p q (tokens.Mark 64) (tokens.Mark 64) (let here : marked_at p 64 ≡ marked_at q 64 = cc in here)).0
    (word_one v w (let here : word_tree v ≡ word_tree w = cc in here))
    (handlers_one xs ys (let here : list_tree (map handler_tree xs) ≡ list_tree (map handler_tree ys) = cc in here))
line_one (lines.Label p v xs) (lines.Instruction None n ys) h e = absurd (lone_not_label (is_reserved n.first) n.first (behind_first_word n ys) _ (sym e))
line_one (lines.Label p v xs) (lines.Instruction (Some s) n ys) h e = cc
line_one (lines.Instruction None m xs) (lines.Label q w ys) h e = absurd (lone_not_label (is_reserved m.first) m.first (behind_first_word m xs) _ e)
line_one (lines.Instruction None m xs) (lines.Instruction None n ys) h e =
    let same = lone_one (is_reserved m.first) (is_reserved n.first) m.first n.first (behind_first_word m xs) (behind_first_word n ys) e in
    two_instructions None None m n xs ys refl same.0 (lone_fits (is_reserved m.first) m.first (behind_first_word m xs) h) same.1
line_one (lines.Instruction None m xs) (lines.Instruction (Some s) n ys) h e = absurd (lone_not_aimed (is_reserved m.first) m.first (behind_first_word m xs) s (instruction_tree n ys) e)
line_one (lines.Instruction (Some t) m xs) (lines.Label q w ys) h e = cc
line_one (lines.Instruction (Some t) m xs) (lines.Instruction None n ys) h e = absurd (lone_not_aimed (is_reserved n.first) n.first (behind_first_word n ys) t (instruction_tree m xs) (sym e))
line_one (lines.Instruction (Some t) m xs) (lines.Instruction (Some s) n ys) h e = two_aimed t s m n xs ys h e

local_one : (a b : Parameter) → local_tree a ≡ local_tree b → a ≡ b
local_one a b e = parameter_one a b (let here : parameter_tree a ≡ parameter_tree b = cc in here)

locals_one : (xs ys : List Parameter) → list_tree (map local_tree xs) ≡ list_tree (map local_tree ys) → xs ≡ ys
locals_one xs ys e = listed local_tree local_one xs ys e

abbrev body_of : List Parameter → List Line → Place → Body
body_of locals inside close = record { locals = locals; lines = inside; close = close }

pub body_one : (a b : Body) → Fits grammar (Rule a_body) (body_tree a) → body_tree a ≡ body_tree b → a ≡ b
body_one a b h e =
    let fits = (fits_both grammar _ _ _ _ (fits_both grammar _ _ _ _ (fits_both grammar _ _ _ _ (fits_both grammar _ _ _ _ (fits_rule grammar a_body _ h)).1).1).1).0 in
    all_three body_of (locals_one a.locals b.locals (let here : list_tree (map local_tree a.locals) ≡ list_tree (map local_tree b.locals) = cc in here))
    (fitting_one grammar (Rule a_line) line_tree line_one a.lines b.lines fits (let here : list_tree (map line_tree a.lines) ≡ list_tree (map line_tree b.lines) = cc in here))
    (spot_one a.close b.close (tokens.Mark 125) (tokens.Mark 125) (let here : marked_at a.close 125 ≡ marked_at b.close 125 = cc in here)).0
