-- What holds of every text that is a module: it is one module.
use Rattle.std.specs.Prelude.{◌≡◌, ℕ, List}
use Rattle.hilti_module.specs.declared.module.Module.{Module}
use Rattle.hilti_syntax.specs.Texts.{TextIsModule}

-- two modules of one text are equal
abbrev pub OneModule : Type 0
OneModule = (file : ℕ) (text : List ℕ) (m other : Module) →
    TextIsModule file text m → TextIsModule file text other → m ≡ other
