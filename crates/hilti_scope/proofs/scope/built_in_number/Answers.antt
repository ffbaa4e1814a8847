use Rattle.std.proofs.Common.{sym, ◌∙◌}
use Rattle.hilti_scope.specs.Meanings.{built_in_names}
use Rattle.hilti_scope.proofs.BuiltIn.{none_of}
use Rattle.hilti_scope.proofs.scope.built_in_number.Goals as goal

pub returns-else-is_same-7 : goal.returns-else-is_same-7
returns-else-is_same-7 c =
    sym (none_of c.args.word.now built_in_names (
      sym c.is_same.ensures ∙ c.if-is_same.false,
      (
        sym c.is_same-else-is_same.ensures ∙ c.if-is_same-2.false,
        (
          sym c.is_same-else-is_same-2.ensures ∙ c.if-is_same-3.false,
          (
            sym c.is_same-else-is_same-3.ensures ∙ c.if-is_same-4.false,
            (
              sym c.is_same-else-is_same-4.ensures ∙ c.if-is_same-5.false,
              (
                sym c.is_same-else-is_same-5.ensures ∙ c.if-is_same-6.false,
                (sym c.is_same-else-is_same-6.ensures ∙ c.if-is_same-7.false, tt),
              ),
            ),
          ),
        ),
      ),
    ))
