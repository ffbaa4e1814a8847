-- Hooks as the code has them.
use Rattle.hilti_link.specs.declared.hooks.Announced.{Announced as Kept}
use Rattle.hilti_link.specs.Hooks.{Announced}

-- a hook's declaration, whose parameters are lent
abbrev pub shows : Kept → Announced
shows hook = record { file = hook.file; here = hook.here; parameters = hook.parameters.now }
