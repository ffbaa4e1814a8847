use Rattle.hilti_operands.specs.Seen.{body_seen}
use Rattle.hilti_lines.proofs.Hooks.{no_hook_result}
use Rattle.hilti_lines.proofs.gives.known_result.Goals as goal

pub returns-in-Hook : goal.returns-in-Hook
returns-in-Hook c = no_hook_result (body_seen c.args.body.now) _ _ c.in-Hook.is
