use Rattle.desk_clerk.proofs.ServedLemmas.{goes_by_service, keeps_by_service}
use Rattle.desk_clerk.proofs.serving.serve.Goals as goal

pub returns-clause-tables : goal.returns-clause-tables
returns-clause-tables g c = goes_by_service g.K.Keeper.told g.K.Keeper.faults g.K.Keeper.version _ _ _ _ _ _ _ _ c.serve.ensures.service

pub returns-clause-later : goal.returns-clause-later
returns-clause-later g c = (keeps_by_service g.K.Keeper.told g.K.Keeper.faults g.K.Keeper.version _ _ _ _ _ _ _ _ c.serve.ensures.service).0

pub returns-clause-version : goal.returns-clause-version
returns-clause-version g c = (keeps_by_service g.K.Keeper.told g.K.Keeper.faults g.K.Keeper.version _ _ _ _ _ _ _ _ c.serve.ensures.service).1
