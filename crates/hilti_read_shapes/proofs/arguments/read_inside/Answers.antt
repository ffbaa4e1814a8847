use Rattle.std.proofs.Common.{◌∙◌, sym, ap}
use Rattle.hilti_grammar.specs.Runs.{Runs.ToRight, Runs.Leaves}
use Rattle.hilti_read_shapes.specs.Shapes.{inside_tree}
use Rattle.hilti_reader.proofs.Exits.{gives}
use Rattle.hilti_read_shapes.proofs.ReadingArguments.{sees_types, inside_some}
use Rattle.hilti_read_shapes.proofs.arguments.read_inside.Goals as goal

pub returns-then-not-sees-clause-reads : goal.returns-then-not-sees-clause-reads
returns-then-not-sees-clause-reads c = gives _ _ _ _ _ (ap inside_tree c.new.ensures) (ToRight (sees_types _ _ (sym c.sees.ensures ∙ c.if-not-sees.true)) Leaves)

pub returns-clause-reads : goal.returns-clause-reads
returns-clause-reads c = inside_some _ _ c.read_parameters.result c.read_parameters.ensures.some (sees_types _ _ (sym c.sees.ensures ∙ c.if-not-sees.false)) c.read_parameters.ensures.reads
