use Rattle.answer_laws.proofs.Checks.{check_one}
use Rattle.answer_laws.proofs.Completions.{trees_one}
use Rattle.answer_laws.proofs.CharacterSums.{act_one, multiply_one}
use Rattle.answer_laws.proofs.Details.{detail_one}
use Rattle.answer_laws.proofs.Given.{given_one}
use Rattle.answer_laws.proofs.Reports.{computed_one}
use Rattle.answer_laws.proofs.Samples.{sampled_one}
use Rattle.answer_laws.proofs.files_have_one_answer.Goals as goal

pub returns-clause-check : goal.returns-clause-check
returns-clause-check c = check_one

pub returns-clause-trees : goal.returns-clause-trees
returns-clause-trees c = trees_one (record { one = c.completion_laws.ensures.one; fault = c.completion_laws.ensures.fault; no_fault = c.completion_laws.ensures.no_fault })

pub returns-clause-compute : goal.returns-clause-compute
returns-clause-compute c = computed_one (record { one = c.completion_laws.ensures.one; fault = c.completion_laws.ensures.fault; no_fault = c.completion_laws.ensures.no_fault })

pub returns-clause-detail : goal.returns-clause-detail
returns-clause-detail c = detail_one

pub returns-clause-act : goal.returns-clause-act
returns-clause-act c = act_one

pub returns-clause-multiply : goal.returns-clause-multiply
returns-clause-multiply c = multiply_one

pub returns-clause-sample : goal.returns-clause-sample
returns-clause-sample c = sampled_one (record { one = c.completion_laws.ensures.one; fault = c.completion_laws.ensures.fault; no_fault = c.completion_laws.ensures.no_fault })

pub returns-clause-given : goal.returns-clause-given
returns-clause-given c = given_one (record { one = c.completion_laws.ensures.one; fault = c.completion_laws.ensures.fault; no_fault = c.completion_laws.ensures.no_fault })
