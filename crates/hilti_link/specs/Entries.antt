-- The entries of `Main`: `packet`, and where they are there `done` and `init`.
use Rattle.std.specs.Prelude.{ℕ, List, [], ◌∷◌, Bool, true, false, cond, codes, bytes_eq, ◌&&◌, map}
use Rattle.std.specs.Prelude.{Option, Some, None}
use Rattle.std.specs.List.{list_any, slice_get}
use Rattle.hilti_base.specs.declared.refusal.Refusal.{Refusal}
use Rattle.hilti_base.specs.declared.refusal.Refusal.TheVariants.{At}
use Rattle.hilti_module.specs.declared.types.Word.{Word}
use Rattle.hilti_module.specs.declared.types.TypeText.{TypeText, out-TypeText}
use Rattle.hilti_module.specs.declared.types.Parametric.{Parametric, out-Parametric}
use Rattle.hilti_module.specs.declared.types.InnerText.{InnerText, out-InnerText}
use Rattle.hilti_module.specs.declared.types.Container.{Container}
use Rattle.hilti_module.specs.declared.types.Container.TheOpen.{InnerText-F, Parametric-F}
use Rattle.hilti_module.specs.declared.types.Container.TheOpen.{TypeText-F}
use Rattle.hilti_module.specs.declared.types.PlainType.TheVariants as plain
use Rattle.hilti_module.specs.declared.types.PlainInner.TheVariants as words
use Rattle.hilti_module.specs.declared.module.Item.{Item}
use Rattle.hilti_module.specs.declared.module.Item.TheVariants as items
use Rattle.hilti_module.specs.declared.module.Module.{Module}
use Rattle.hilti_module.specs.declared.module.Parameter.{Parameter}
use Rattle.hilti_scope.specs.Items.{module_named, declared_word}
use Rattle.hilti_resolve.specs.Names.{first_of}

-- a written `time`, and a written `bytes`, also as `ref<bytes>`
abbrev pub is_time_text : TypeText-F Container InnerText Parametric TypeText → Bool
is_time_text (TypeText-F.Plain place plain.Time) = true
is_time_text _ = false

abbrev pub is_bytes_word : InnerText-F Container InnerText Parametric TypeText → Bool
is_bytes_word (InnerText-F.Word place words.Bytes) = true
is_bytes_word _ = false

abbrev pub is_bytes_ref : Parametric-F Container InnerText Parametric TypeText → Bool
is_bytes_ref (Parametric-F.Ref place to) = is_bytes_word (out-InnerText to)
is_bytes_ref _ = false

abbrev pub is_bytes_text : TypeText-F Container InnerText Parametric TypeText → Bool
is_bytes_text (TypeText-F.Plain place plain.Bytes) = true
is_bytes_text (TypeText-F.Parametric parametric) = is_bytes_ref (out-Parametric parametric)
is_bytes_text _ = false

abbrev pub is_time : TypeText → Bool
is_time text = is_time_text (out-TypeText text)

abbrev pub is_bytes : TypeText → Bool
is_bytes text = is_bytes_text (out-TypeText text)

-- a time and bytes
abbrev pub are_packet : List Parameter → Bool
are_packet (time ∷ bytes ∷ []) = is_time time.kind && is_bytes bytes.kind
are_packet _ = false

abbrev pub is_empty : List Parameter → Bool
is_empty [] = true
is_empty (parameter ∷ more) = false

abbrev pub unless : Bool → Word → Option Refusal
unless good word = cond good None (Some (At word.place 23))

-- what is asked of what `Main` declares as `packet`, and as `done` or `init`
abbrev pub asked : List ℕ → List Parameter → Bool
asked name parameters =
    cond (bytes_eq name (codes "packet")) (are_packet parameters) (is_empty parameters)

abbrev pub is_entry : List ℕ → Bool
is_entry name =
    cond (bytes_eq name (codes "packet")) true
    (cond (bytes_eq name (codes "done")) true (bytes_eq name (codes "init")))

abbrev pub as_asked : Item → Word → Bool
as_asked (items.Function None name parameters body) word = asked word.bytes parameters
as_asked _ word = false

abbrev pub entry_by : Item → Option Word → Option Refusal
entry_by item None = None
entry_by item (Some word) = cond (is_entry word.bytes) (unless (as_asked item word) word) None

-- an entry that isn't as it is asked is refused at its name
abbrev pub entry_refusal : Item → Option Refusal
entry_refusal item = entry_by item (declared_word item)

abbrev pub declares_packet : Item → Bool
declares_packet (items.Function result name parameters body) = bytes_eq name.bytes (codes "packet")
declares_packet _ = false

-- no `Main` declares `packet` as a function: at the start of the first module
abbrev pub no_packet : Option Refusal
no_packet = Some (At (record { file = 0; line = 1; column = 1 }) 22)

abbrev pub entries_of : Option Module → Option Refusal
entries_of None = no_packet
entries_of (Some m) =
    cond (list_any declares_packet m.items) (first_of (map entry_refusal m.items)) no_packet

abbrev pub main_of : List Module → Option ℕ → Option Module
main_of modules None = None
main_of modules (Some file) = slice_get modules file

-- the first refusal of the entries, which are looked at behind everything else
unfoldable pub entries_refusal : List Module → Option Refusal
entries_refusal modules = entries_of (main_of modules (module_named modules (codes "Main")))
