use Rattle.desk_clerk.proofs.ServedLemmas.{none_taken, fell, failed, goes_by_visit, keeps_by_visit}
use Rattle.desk_clerk.proofs.serving.answer_connection.Goals as goal

pub returns-clause-none : goal.returns-clause-none
returns-clause-none g c = λ is. none_taken _ _ _ _ _ _ is c.attend.ensures.visit

pub returns-clause-dropped : goal.returns-clause-dropped
returns-clause-dropped g c = λ is. fell _ _ _ _ _ _ is c.attend.ensures.visit

pub returns-clause-store_fault : goal.returns-clause-store_fault
returns-clause-store_fault g c = λ is. failed g.K.Keeper.told g.K.Keeper.faults g.K.Keeper.version _ _ _ _ _ is c.attend.ensures.visit

pub returns-clause-tables : goal.returns-clause-tables
returns-clause-tables g c = goes_by_visit g.K.Keeper.told g.K.Keeper.faults g.K.Keeper.version _ _ _ _ _ c.attend.ensures.visit

pub returns-clause-later : goal.returns-clause-later
returns-clause-later g c = (keeps_by_visit g.K.Keeper.told g.K.Keeper.faults g.K.Keeper.version _ _ _ _ _ c.attend.ensures.visit).0

pub returns-clause-version : goal.returns-clause-version
returns-clause-version g c = (keeps_by_visit g.K.Keeper.told g.K.Keeper.faults g.K.Keeper.version _ _ _ _ _ c.attend.ensures.visit).1
