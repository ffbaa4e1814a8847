-- What a line of a body stands for.
use Rattle.std.specs.Prelude.{ℕ, nat_eq, nat_le, Bool, true, not, ◌&&◌, cond, List, ◌++◌, length}
use Rattle.std.specs.Prelude.{codes, Option, Some, None, is_some, ok_or, Result, Ok}
use Rattle.hilti_base.specs.declared.names.Place.{Place}
use Rattle.hilti_base.specs.declared.refusal.Refusal.{Refusal}
use Rattle.hilti_base.specs.declared.refusal.Refusal.TheVariants.{At}
use Rattle.hilti_types.specs.declared.op.Op.{Op}
use Rattle.hilti_module.specs.declared.module.Mnemonic.{Mnemonic}
use Rattle.hilti_module.specs.declared.module.Operand.{Operand as Written}
use Rattle.hilti_module.specs.declared.types.Name.{Name}
use Rattle.hilti_module.specs.declared.types.Word.{Word}
use Rattle.hilti_table.specs.declared.row.Body.TheVariants as bodies
use Rattle.hilti_table.specs.declared.row.Flow.{Flow}
use Rattle.hilti_table.specs.declared.row.Flow.TheVariants as flows
use Rattle.hilti_table.specs.declared.row.Row.{Row}
use Rattle.hilti_table.specs.declared.row.Takes.{Takes}
use Rattle.hilti_table.specs.declared.row.Takes.TheVariants as takes
use Rattle.hilti_link.specs.declared.versions.Version.{Version}
use Rattle.hilti_link.specs.declared.versions.Version.TheVariants as versions
use Rattle.hilti_table.specs.Exact.{exact_of}
use Rattle.hilti_table.specs.Mnemonics.{named}
use Rattle.hilti_table.specs.Rows.{kinds}
use Rattle.hilti_table.specs.Table.{line_of}
use Rattle.hilti_parts.specs.declared.parts.Instruction.{Instruction}
use Rattle.hilti_parts.specs.declared.parts.Operand.{Operand}
use Rattle.hilti_typing.specs.Context.{Known}
use Rattle.hilti_operands.specs.Answers.{then_read, refused, if_passes}
use Rattle.hilti_operands.specs.Counts.{are_counted}
use Rattle.hilti_operands.specs.Lines.{Read, read_all, line_with}
use Rattle.hilti_operands.specs.Seen.{BodySeen, LineSeen}
use Rattle.hilti_lines.specs.Targets.{target_variable, target_type, is_target, target_refusal}

-- the instruction of a mnemonic; there is none of another spelling
abbrev pub spelled_with : List ℕ → Option Word → List ℕ
spelled_with first None = first
spelled_with first (Some second) = first ++ codes "." ++ second.bytes

abbrev pub spelled : Mnemonic → List ℕ
spelled mnemonic = spelled_with mnemonic.first.bytes mnemonic.second

abbrev pub read_mnemonic : Mnemonic → Result Op Refusal
read_mnemonic mnemonic = ok_or (named (spelled mnemonic)) (At mnemonic.first.place 39)

-- what an instruction is in a body: in one of version 2 the exact instruction, where it has one
abbrev pub in_version : Version → Op → Op
in_version versions.One op = op
in_version versions.Two op = exact_of op

abbrev pub op_in : BodySeen → Op → Op
op_in body op = in_version body.function.version op

-- whether a row takes so many operands
abbrev pub is_count : Takes → ℕ → Bool
is_count takes.Nothing n = nat_eq n 0
is_count (takes.One a) n = nat_eq n 1
is_count (takes.Two a b) n = nat_eq n 2
is_count (takes.Three a b c) n = nat_eq n 3
is_count (takes.Four a b c d) n = nat_eq n 4
is_count (takes.UpToEight a) n = nat_le n 8

-- whether the operands, and those in parentheses, are as many as they have to be
abbrev pub has_counts : LineSeen → Takes → List Written → Bool
has_counts line takes items =
    is_count takes (length items)
    && are_counted line (kinds takes (length items)) Known.Nothing items

-- operands: first how many they are, and then each, from left to right
abbrev pub read_operands : LineSeen → Takes → List Written → Result Read Refusal
read_operands line takes items =
    cond (has_counts line takes items)
    (read_all line (kinds takes (length items)) Known.Nothing items) (refused line.mnemonic 31)

-- the bodies that an instruction may stand in; a hook body has no result
abbrev pub may_stand : BodySeen → Flow → Bool
may_stand body (flows.Leaves bodies.Void) = not (is_some body.function.result)
may_stand body (flows.Leaves bodies.Result) = is_some body.function.result
may_stand body (flows.Leaves bodies.Hook) = is_some body.function.hook
may_stand body _ = true

abbrev pub stand_code : Flow → ℕ
stand_code (flows.Leaves bodies.Hook) = 38
stand_code _ = 37

-- an instruction with its target
abbrev pub instruction : Op → BodySeen → Option Name → List Operand → Instruction
instruction op body target items = record {
  op = op;
  target = target_variable body target;
  kind = target_type body target;
  operands = items;
}

-- behind the operands, the body and then the target are looked at
abbrev pub end_read : LineSeen → Row → Option Name → Read → Result (List Operand) Refusal
end_read line row target read =
    cond (may_stand line.body row.flow)
    (if_passes (is_target line target row.gives read.known) read.operands
    (target_refusal line target))
    (refused line.mnemonic (stand_code row.flow))

abbrev pub read_row : LineSeen → Row → Option Name → List Written → Result (List Operand) Refusal
read_row line row target items =
    then_read (read_operands line row.takes items) (end_read line row target)

-- a line as its operands are read in it
abbrev pub line_of_row : BodySeen → Place → Row → Option Name → List Written → LineSeen
line_of_row body mnemonic row target items =
    line_with body mnemonic (target_type body target) (kinds row.takes (length items)) items

abbrev pub read_in :
    BodySeen → Place → Op → Option Name → List Written → Result Instruction Refusal
read_in body mnemonic op target items =
    then_read (read_row (line_of_row body mnemonic (line_of op).row target items) (line_of op).row
    target items)
    (λ (read : List Operand). Ok (instruction op body target read))

-- the instruction that a line stands for in its body, or its first refusal: of the mnemonic, of how
-- many operands there are, of each operand from left to right, of the body, of the target
abbrev pub read_line :
    BodySeen → Option Name → Mnemonic → List Written → Result Instruction Refusal
read_line body target mnemonic items =
    then_read (read_mnemonic mnemonic) (λ (op : Op).
    read_in body mnemonic.first.place (op_in body op) target items)
