-- Parts that are typed, and parts that aren't.
use Rattle.std.specs.Prelude.{ℕ, false, List, [], ◌∷◌, ◌++◌, Some, None, codes}
use Rattle.hilti_types.specs.declared.op.Op.{Op}
use Rattle.hilti_types.specs.declared.op.Op.TheVariants as ops
use Rattle.hilti_types.specs.declared.value_type.ValueType.{ValueType}
use Rattle.hilti_types.specs.declared.value_type.ValueType.TheVariants as types
use Rattle.hilti_tree.specs.declared.tree.Tree.TheVariants as trees
use Rattle.hilti_parts.specs.declared.parts.Parts.{Parts}
use Rattle.hilti_parts.specs.declared.parts.Global.{Global}
use Rattle.hilti_parts.specs.declared.parts.Exception.{Exception}
use Rattle.hilti_parts.specs.declared.parts.Hook.{Hook}
use Rattle.hilti_parts.specs.declared.parts.Function.{Function}
use Rattle.hilti_parts.specs.declared.parts.Block.{Block}
use Rattle.hilti_parts.specs.declared.parts.Handler.{Handler}
use Rattle.hilti_parts.specs.declared.parts.Instruction.{Instruction}
use Rattle.hilti_typing.specs.Exceptions.{built_in_exceptions, below_top}
use Rattle.hilti_typing.specs.Programs.{AreTyped}

-- an instruction of one word
abbrev pub bare : Op → Instruction
bare op = record { op = op; target = None; kind = None; operands = [] }

-- a block of just that
abbrev pub leaving_block : List Handler → Op → Block
leaving_block handlers op = record { handlers = handlers; instructions = bare op ∷ [] }

-- a void function of one block, which just leaves
abbrev pub leaving : List ℕ → List ValueType → ℕ → List Handler → Op → Function
leaving name slots params handlers op = record {
  name = name;
  params = params;
  slots = slots;
  result = None;
  blocks = leaving_block handlers op ∷ [];
}

-- `packet` catches the declared exception, with the text in its local
abbrev pub catching : Handler
catching = record { exception = 7; block = 0; slot = 2 }

abbrev pub packet : Function
packet =
    leaving (codes "Main::packet") (types.Time ∷ types.Bytes ∷ types.Text ∷ []) 2
    (catching ∷ []) ops.ReturnVoid

abbrev pub seen : Function
seen = leaving (codes "Main::seen") (types.Bool ∷ []) 1 [] ops.HookStop

abbrev pub done : Function
done = leaving (codes "Main::done") [] 0 [] ops.ReturnVoid

-- the hook whose one body is the second function
abbrev pub seen_hook : Hook
seen_hook = record {
  name = codes "Main::seen";
  params = types.Bool ∷ [];
  bodies = record { n = 1 } ∷ [];
}

abbrev pub busy : Global
busy = record { name = codes "Main::busy"; kind = types.Bool; first = trees.Bool false }

-- a global, an exception that a module declares, a hook with one body, and two entries
abbrev pub whole : Parts
whole = record {
  types = [];
  globals = busy ∷ [];
  functions = packet ∷ seen ∷ done ∷ [];
  exceptions = built_in_exceptions ++ below_top (codes "Main::Odd") ∷ [];
  hooks = seen_hook ∷ [];
}

-- the same with other functions, exceptions or hooks
abbrev pub with_functions : List Function → Parts
with_functions functions = record {
  types = whole.types;
  globals = whole.globals;
  functions = functions;
  exceptions = whole.exceptions;
  hooks = whole.hooks;
}

abbrev pub with_exceptions : List Exception → Parts
with_exceptions exceptions = record {
  types = whole.types;
  globals = whole.globals;
  functions = whole.functions;
  exceptions = exceptions;
  hooks = whole.hooks;
}

abbrev pub with_hooks : List Hook → Parts
with_hooks hooks = record {
  types = whole.types;
  globals = whole.globals;
  functions = whole.functions;
  exceptions = whole.exceptions;
  hooks = hooks;
}

-- an exception that stands above itself
abbrev pub own_parent : Exception
own_parent = record { name = codes "Main::Odd"; parent = Some 7 }

-- `packet` takes only a time
abbrev pub packet_of_time : Function
packet_of_time = leaving (codes "Main::packet") (types.Time ∷ []) 1 [] ops.ReturnVoid

-- a function that stops a hook's run
abbrev pub stopping : Function
stopping = leaving (codes "Main::done") [] 0 [] ops.HookStop

pub record UntypedParts : Type 0 where
  pub no_packet : AreTyped (with_functions (done ∷ seen ∷ [])) → ⊥
  pub other_packet : AreTyped (with_functions (packet_of_time ∷ seen ∷ done ∷ [])) → ⊥
  pub stops_no_hook : AreTyped (with_functions (packet ∷ seen ∷ stopping ∷ [])) → ⊥
  pub circle : AreTyped (with_exceptions (built_in_exceptions ++ own_parent ∷ [])) → ⊥
  pub none_built_in : AreTyped (with_exceptions []) → ⊥
  pub body_of_two : AreTyped (with_hooks (seen_hook ∷ seen_hook ∷ [])) → ⊥
