use Rattle.hilti_top.proofs.Exclusion.{never_both, one_program, one_refused}
use Rattle.hilti_top.proofs.laws.accepted_or_refused.Goals as goal

pub returns-clause-never_both : goal.returns-clause-never_both
returns-clause-never_both c = never_both c.never_both.ensures c.one_module.ensures

pub returns-clause-one_program : goal.returns-clause-one_program
returns-clause-one_program c = one_program c.one_module.ensures

pub returns-clause-one_refusal : goal.returns-clause-one_refusal
returns-clause-one_refusal c = one_refused c.never_both.ensures c.one_refusal.ensures c.one_module.ensures
