use Rattle.hilti_check.proofs.Typed.{typed}
use Rattle.hilti_check.proofs.laws.checked_are_typed.Goals as goal

pub returns : goal.returns
returns c = typed (record {
  cut = c.cut_at_labels.ensures;
  blocks = c.reads_typed_blocks.ensures;
  no_bodies = c.reads_no_bodies.ensures;
  short_blocks = c.reads_short_blocks.ensures;
  exceptions = c.exceptions_are_typed.ensures;
  globals = c.globals_begin_typed.ensures;
  hooks = c.hooks_are_typed.ensures;
  linked = c.bodies_of_hooks.ensures.linked;
  once = c.bodies_of_hooks.ensures.once;
  entries = c.entries_are_there.ensures;
  written = c.functions_have_bodies.ensures;
  short = c.tables_are_short.ensures;
  short_bodies = c.bodies_are_short.ensures;
})
