-- What each form of a written type says.
use Rattle.std.proofs.Common.{◌≡◌, ◌∙◌, sym, ap, List, map, rules}
use Rattle.hilti_base.specs.declared.names.Place.{Place}
use Rattle.hilti_module.specs.declared.types.Name.{Name}
use Rattle.hilti_module.specs.declared.types.TypeText.{TypeText}
use Rattle.hilti_module.specs.declared.types.TypeText.TheVariants as texts
use Rattle.hilti_module.specs.declared.types.InnerText.{InnerText}
use Rattle.hilti_module.specs.declared.types.Parametric.{Parametric}
use Rattle.hilti_module.specs.declared.types.Parametric.TheVariants as parametrics
use Rattle.hilti_module.specs.declared.types.Container.TheFolds.{the_lemmas}
use Rattle.hilti_module.specs.declared.types.PlainType.{PlainType}
use Rattle.hilti_scope.specs.declared.meaning.Meaning.{Meaning}
use Rattle.hilti_resolve.specs.Written.{Plain, Tuple, says, parametric_writes, inner_writes, parts_of, reference_to}

module _ (mean : Name → Meaning) where
  pub plain_says : (place : Place) (plain : PlainType) → says mean (texts.Plain place plain) ≡ Plain plain
  plain_says place plain = ap (says mean) (sym (texts.rolls-Plain place plain)) ∙ search (rules, the_lemmas)

  pub parametric_says : (parametric : Parametric) → says mean (texts.Parametric parametric) ≡ parametric_writes mean parametric
  parametric_says parametric = ap (says mean) (sym (texts.rolls-Parametric parametric)) ∙ search (rules, the_lemmas)

  pub tuple_says : (place : Place) (parts : List TypeText)
      → parametric_writes mean (parametrics.Tuple place parts) ≡ Tuple (parts_of (map (says mean) parts))
  tuple_says place parts = ap (parametric_writes mean) (sym (parametrics.rolls-Tuple place parts)) ∙ search (rules, the_lemmas)

  pub reference_says : (place : Place) (to : InnerText)
      → parametric_writes mean (parametrics.Ref place to) ≡ reference_to (inner_writes mean to)
  reference_says place to = ap (parametric_writes mean) (sym (parametrics.rolls-Ref place to)) ∙ search (rules, the_lemmas)
