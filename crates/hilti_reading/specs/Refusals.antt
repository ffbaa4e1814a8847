-- What holds of every text that is refused, by the lexer or by the grammar.
use Rattle.std.specs.Prelude.{◌≡◌, ℕ, List}
use Rattle.hilti_base.specs.declared.names.Place.{Place}
use Rattle.hilti_module.specs.declared.module.Module.{Module}
use Rattle.hilti_syntax.specs.Texts.{TextIsModule, TextRefused}

-- no text both is a module and is refused
abbrev pub NeverBoth : Type 0
NeverBoth =
    (file : ℕ) (text : List ℕ) (m : Module) (code : ℕ) (place : Place) → TextIsModule file text m →
    TextRefused file text code place → ⊥

-- a text is refused with one code, at one place
abbrev pub OneRefusal : Type 0
OneRefusal = (file : ℕ) (text : List ℕ) (code other : ℕ) (place elsewhere : Place) →
    TextRefused file text code place → TextRefused file text other elsewhere →
    (code ≡ other) × (place ≡ elsewhere)
