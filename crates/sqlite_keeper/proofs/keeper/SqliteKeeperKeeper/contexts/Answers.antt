use Rattle.std.proofs.Common.{inl, inr, subst, sym, ◌≡◌, map}
use Rattle.sqlite.specs.Held.{state}
use Rattle.result_keeper.specs.Kept.{contexts_of}
use Rattle.sqlite_keeper.specs.Tables.{IsStore}
use Rattle.sqlite_keeper.specs.Told.{kept_in}
use Rattle.sqlite_keeper.proofs.Telling.{told_answer, told_stays}
use Rattle.sqlite_keeper.proofs.keeper.SqliteKeeperKeeper.contexts.Goals as goal

pub returns-in-Ok-clause-contexts : goal.returns-in-Ok-clause-contexts
returns-in-Ok-clause-contexts g c =
    let old = (state g.S.Store c.args.self.now.conn).now in
    let new = (state g.S.Store c.contexts_in_order.new.conn).now in
    told_answer g.S.Steady.is_steady c.args.self.now.is_old new _ (λ steady is.
    let sure = g.met.S.Steady.stays c.contexts_in_order.new.conn.store steady in
    let same : new ≡ old = c.in-Ok.ensures.stays sure.clean sure.is_open (inr is) in
    subst (λ d. (map (λ x. x.items) c.in-Ok.contexts.items ≡ contexts_of (kept_in d))) (sym same) (c.in-Ok.ensures.contexts sure.clean (subst IsStore same is)))

pub returns-in-Ok-clause-stays : goal.returns-in-Ok-clause-stays
returns-in-Ok-clause-stays g c =
    told_stays g.S.Steady.is_steady c.args.self.now.is_old (state g.S.Store c.args.self.now.conn).now (state g.S.Store c.contexts_in_order.new.conn).now (λ steady is.
    let sure = g.met.S.Steady.stays c.contexts_in_order.new.conn.store steady in
    c.contexts_in_order.ensures.stays sure.clean sure.is_open (inl is))

pub returns-in-Err-clause-stays : goal.returns-in-Err-clause-stays
returns-in-Err-clause-stays g c =
    told_stays g.S.Steady.is_steady c.args.self.now.is_old (state g.S.Store c.args.self.now.conn).now (state g.S.Store c.contexts_in_order.new.conn).now (λ steady is.
    let sure = g.met.S.Steady.stays c.contexts_in_order.new.conn.store steady in
    c.contexts_in_order.ensures.stays sure.clean sure.is_open (inl is))
