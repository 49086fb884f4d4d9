use Rattle.rule_stages.proofs.Next.{next_holds, next_least}
use Rattle.rule_stages.proofs.Parts.{next_parts}
use Rattle.rule_stages.proofs.laws.next_stage_laws.Goals as goal

pub returns-clause-holds : goal.returns-clause-holds
returns-clause-holds c = next_holds

pub returns-clause-least : goal.returns-clause-least
returns-clause-least c = next_least

pub returns-clause-parts : goal.returns-clause-parts
returns-clause-parts c = next_parts
