-- Bodies that are read or refused.
use Rattle.std.specs.Prelude.{◌≡◌, ℕ, ◌+◌, cond, codes, bytes_eq, List, [], ◌∷◌, None, Result, Err}
use Rattle.hilti_base.specs.declared.names.Place.{Place}
use Rattle.hilti_base.specs.declared.refusal.Refusal.{Refusal}
use Rattle.hilti_base.specs.declared.refusal.Refusal.TheVariants.{At}
use Rattle.hilti_types.specs.declared.value_type.ValueType.TheVariants as types
use Rattle.hilti_module.specs.declared.types.Name.{Name}
use Rattle.hilti_module.specs.declared.types.Word.{Word}
use Rattle.hilti_module.specs.declared.module.Handler.{Handler as Written}
use Rattle.hilti_module.specs.declared.module.Line.{Line}
use Rattle.hilti_module.specs.declared.module.Line.TheVariants as lines
use Rattle.hilti_module.specs.declared.module.Operand.TheVariants as written
use Rattle.hilti_module.specs.declared.module.Simple.TheVariants as simples
use Rattle.hilti_scope.specs.declared.meaning.Meaning.{Meaning}
use Rattle.hilti_scope.specs.declared.meaning.Meaning.TheVariants as means
use Rattle.hilti_link.specs.declared.tables.LinkedFunction.{LinkedFunction}
use Rattle.hilti_link.specs.declared.tables.Tables.{Tables}
use Rattle.hilti_link.specs.declared.versions.Version.TheVariants as versions
use Rattle.hilti_parts.specs.declared.parts.Block.{Block}
use Rattle.hilti_bodies.specs.Blocks.{read_body}

-- places are those of one line here
abbrev pub at : ℕ → Place
at column = record { file = 0; line = 1; column = column }

abbrev pub word : ℕ → List ℕ → Word
word column bytes = record { place = at column; bytes = bytes }

-- `void f(string p) {`, with the locals `string s` and `bool b`
abbrev pub meaning : List ℕ → Meaning
meaning bytes =
    cond (bytes_eq bytes (codes "p")) (means.Local 0)
    (cond (bytes_eq bytes (codes "s")) (means.Local 1)
    (cond (bytes_eq bytes (codes "b")) (means.Local 2)
    (cond (bytes_eq bytes (codes "Exception")) (means.Exception 0) means.Nothing)))

abbrev pub mean : Name → Meaning
mean name = meaning name.first.bytes

abbrev pub tables : Tables
tables =
    record {
      types = [];
      sites = [];
      globals = [];
      functions = [];
      hooks = [];
      exceptions = [];
    }

abbrev pub function : LinkedFunction
function = record {
  site = record { file = 0; item = 0; place = at 1 };
  name = codes "f";
  version = versions.One;
  parameters = 1;
  slots = types.Text ∷ types.Text ∷ types.Bool ∷ [];
  result = None;
  hook = None;
}

-- lines of a body, whose closing brace stands in column 90
abbrev pub nop : ℕ → Line
nop column = lines.Instruction None (record { first = word column (codes "nop"); second = None }) []

abbrev pub jump : ℕ → List ℕ → Line
jump column label =
    lines.Instruction None (record { first = word column (codes "jump"); second = None })
    (written.Simple (simples.Label (at (column + 5)) (word (column + 6) label)) ∷ [])

abbrev pub label_with : ℕ → List ℕ → List Written → Line
label_with column name handlers = lines.Label (at column) (word (column + 1) name) handlers

-- `catch E @L S`, with its exception, its label and its slot in columns 10, 30 and 50
abbrev pub catching : List ℕ → List ℕ → List ℕ → Written
catching exception label slot = record {
  place = at 5;
  exception = record { first = word 10 exception; second = None };
  target = word 30 label;
  slot = word 50 slot;
}

abbrev pub caught_by : Written → List Line
caught_by handler = label_with 1 (codes "a") (handler ∷ []) ∷ jump 60 (codes "a") ∷ []

abbrev pub reading : List Line → Result (List Block) Refusal
reading body =
    read_body mean tables function (record { locals = []; lines = body; close = at 90 })

abbrev pub IsRefused : List Line → ℕ → ℕ → Type 0
IsRefused body column code = reading body ≡ Err (At (at column) code)

-- each body is refused by its first fault: one of no lines, ones of blocks without handlers, and
-- ones whose label has a handler
pub record RefusedBodies : Type 0 where
  pub nothing : IsRefused [] 90 33
  pub no_end : IsRefused (nop 1 ∷ []) 90 33
  pub behind_end :
      IsRefused (label_with 1 (codes "a") [] ∷ jump 5 (codes "a") ∷ nop 20 ∷ []) 20 34
  pub label_twice :
      IsRefused (label_with 1 (codes "a") [] ∷ jump 5 (codes "a")
      ∷ label_with 20 (codes "a") [] ∷ jump 25 (codes "a") ∷ []) 21 20
  pub unknown_exception :
      IsRefused (caught_by (catching (codes "E") (codes "a") (codes "s"))) 10 21
  pub other_exception :
      IsRefused (caught_by (catching (codes "s") (codes "a") (codes "s"))) 10 30
  pub other_label :
      IsRefused (caught_by (catching (codes "Exception") (codes "c") (codes "s"))) 30 21
  pub unknown_slot :
      IsRefused (caught_by (catching (codes "Exception") (codes "a") (codes "x"))) 50 21
  pub parameter_as_slot :
      IsRefused (caught_by (catching (codes "Exception") (codes "a") (codes "p"))) 50 30
  pub other_slot :
      IsRefused (caught_by (catching (codes "Exception") (codes "a") (codes "b"))) 50 30
