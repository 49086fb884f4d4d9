use Rattle.twisted_antipode.proofs.CountLaws.{count_same, count_after, among_after}
use Rattle.twisted_antipode.proofs.WorkLaws.{work_most}
use Rattle.twisted_antipode.proofs.laws.work_laws.Goals as goal

pub returns-clause-nothing : goal.returns-clause-nothing
returns-clause-nothing c = count_same

pub returns-clause-counted : goal.returns-clause-counted
returns-clause-counted c = count_after

pub returns-clause-finished : goal.returns-clause-finished
returns-clause-finished c = λ a b d hs ks ts grown kept. among_after b.pool d.pool hs ks ts a.finished b.finished d.finished grown.pool kept

pub returns-clause-most : goal.returns-clause-most
returns-clause-most c = work_most
