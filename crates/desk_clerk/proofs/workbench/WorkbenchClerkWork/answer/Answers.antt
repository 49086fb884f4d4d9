use Rattle.std.proofs.Common.{subst}
use Rattle.desk_requests.specs.declared.decision.Command.TheVariants.{Add, Detail}
use Rattle.desk_clerk.specs.Replies.{IsRepliedWith}
use Rattle.desk_clerk.proofs.ReplyLemmas.{done_with, done_without}
use Rattle.desk_clerk.proofs.workbench.WorkbenchClerkWork.answer.Goals as goal

pub returns-in-Names-clause-reply : goal.returns-in-Names-clause-reply
returns-in-Names-clause-reply g c =
    rw c.in-Names.is (done_with g.K.Keeper.told g.K.Keeper.faults g.K.Keeper.version _ (c.args.store.now, c.args.work.now) (c.names_reply.new.keeper, c.args.work.now) c.names_reply.ensures.later c.names_reply.ensures.version c.names_reply.result (c.names_reply.ensures.replied _) c.names_reply.ensures.fault)

pub returns-in-Names-clause-memory : goal.returns-in-Names-clause-memory
returns-in-Names-clause-memory g c =
    rw c.in-Names.is (done_without g.K.Keeper.told g.K.Keeper.faults g.K.Keeper.version _ (c.args.store.now, c.args.work.now) (c.names_reply.new.keeper, c.args.work.now) c.names_reply.ensures.later c.names_reply.ensures.version c.names_reply.result (c.names_reply.ensures.replied _))

pub returns-in-Show-clause-reply : goal.returns-in-Show-clause-reply
returns-in-Show-clause-reply g c =
    rw c.in-Show.is (done_with g.K.Keeper.told g.K.Keeper.faults g.K.Keeper.version _ (c.args.store.now, c.args.work.now) (c.show_reply.new.keeper, c.args.work.now) c.show_reply.ensures.later c.show_reply.ensures.version c.show_reply.result (c.show_reply.ensures.replied _) c.show_reply.ensures.fault)

pub returns-in-Show-clause-memory : goal.returns-in-Show-clause-memory
returns-in-Show-clause-memory g c =
    rw c.in-Show.is (done_without g.K.Keeper.told g.K.Keeper.faults g.K.Keeper.version _ (c.args.store.now, c.args.work.now) (c.show_reply.new.keeper, c.args.work.now) c.show_reply.ensures.later c.show_reply.ensures.version c.show_reply.result (c.show_reply.ensures.replied _))

pub returns-in-Add-clause-reply : goal.returns-in-Add-clause-reply
returns-in-Add-clause-reply g c =
    rw c.in-Add.is (done_with g.K.Keeper.told g.K.Keeper.faults g.K.Keeper.version _ (c.args.store.now, c.args.work.now) (c.add_reply.new.keeper, c.args.work.now) c.add_reply.ensures.later c.add_reply.ensures.version c.add_reply.result (subst (λ t. IsRepliedWith (Add c.in-Add.name t) c.args.work.now.tables c.args.work.now.tables (g.K.Keeper.told c.args.store.now) (g.K.Keeper.told c.add_reply.new.keeper) c.add_reply.result) c.as_slice.ensures (c.add_reply.ensures.replied c.args.work.now.tables)) c.add_reply.ensures.fault)

pub returns-in-Add-clause-memory : goal.returns-in-Add-clause-memory
returns-in-Add-clause-memory g c =
    rw c.in-Add.is (done_without g.K.Keeper.told g.K.Keeper.faults g.K.Keeper.version _ (c.args.store.now, c.args.work.now) (c.add_reply.new.keeper, c.args.work.now) c.add_reply.ensures.later c.add_reply.ensures.version c.add_reply.result (subst (λ t. IsRepliedWith (Add c.in-Add.name t) c.args.work.now.tables c.args.work.now.tables (g.K.Keeper.told c.args.store.now) (g.K.Keeper.told c.add_reply.new.keeper) c.add_reply.result) c.as_slice.ensures (c.add_reply.ensures.replied c.args.work.now.tables)))

pub returns-in-Remove-clause-reply : goal.returns-in-Remove-clause-reply
returns-in-Remove-clause-reply g c =
    rw c.in-Remove.is (done_with g.K.Keeper.told g.K.Keeper.faults g.K.Keeper.version _ (c.args.store.now, c.args.work.now) (c.remove_reply.new.keeper, c.args.work.now) c.remove_reply.ensures.later c.remove_reply.ensures.version c.remove_reply.result (c.remove_reply.ensures.replied _) c.remove_reply.ensures.fault)

pub returns-in-Remove-clause-memory : goal.returns-in-Remove-clause-memory
returns-in-Remove-clause-memory g c =
    rw c.in-Remove.is (done_without g.K.Keeper.told g.K.Keeper.faults g.K.Keeper.version _ (c.args.store.now, c.args.work.now) (c.remove_reply.new.keeper, c.args.work.now) c.remove_reply.ensures.later c.remove_reply.ensures.version c.remove_reply.result (c.remove_reply.ensures.replied _))

pub returns-in-Trees-clause-reply : goal.returns-in-Trees-clause-reply
returns-in-Trees-clause-reply g c =
    rw c.in-Trees.is (done_with g.K.Keeper.told g.K.Keeper.faults g.K.Keeper.version _ (c.args.store.now, c.args.work.now) (c.trees_reply.new.keeper, c.args.work.now) c.trees_reply.ensures.later c.trees_reply.ensures.version c.trees_reply.result (c.trees_reply.ensures.replied _) c.trees_reply.ensures.fault)

pub returns-in-Trees-clause-memory : goal.returns-in-Trees-clause-memory
returns-in-Trees-clause-memory g c =
    rw c.in-Trees.is (done_without g.K.Keeper.told g.K.Keeper.faults g.K.Keeper.version _ (c.args.store.now, c.args.work.now) (c.trees_reply.new.keeper, c.args.work.now) c.trees_reply.ensures.later c.trees_reply.ensures.version c.trees_reply.result (c.trees_reply.ensures.replied _))

pub returns-in-Detail-clause-reply : goal.returns-in-Detail-clause-reply
returns-in-Detail-clause-reply g c =
    rw c.in-Detail.is (done_with g.K.Keeper.told g.K.Keeper.faults g.K.Keeper.version _ (c.args.store.now, c.args.work.now) (c.detail_reply.new.keeper, c.args.work.now) c.detail_reply.ensures.later c.detail_reply.ensures.version c.detail_reply.result (subst (λ t. IsRepliedWith (Detail c.in-Detail.name t) c.args.work.now.tables c.args.work.now.tables (g.K.Keeper.told c.args.store.now) (g.K.Keeper.told c.detail_reply.new.keeper) c.detail_reply.result) c.as_slice-in-Detail.ensures (c.detail_reply.ensures.replied c.args.work.now.tables)) c.detail_reply.ensures.fault)

pub returns-in-Detail-clause-memory : goal.returns-in-Detail-clause-memory
returns-in-Detail-clause-memory g c =
    rw c.in-Detail.is (done_without g.K.Keeper.told g.K.Keeper.faults g.K.Keeper.version _ (c.args.store.now, c.args.work.now) (c.detail_reply.new.keeper, c.args.work.now) c.detail_reply.ensures.later c.detail_reply.ensures.version c.detail_reply.result (subst (λ t. IsRepliedWith (Detail c.in-Detail.name t) c.args.work.now.tables c.args.work.now.tables (g.K.Keeper.told c.args.store.now) (g.K.Keeper.told c.detail_reply.new.keeper) c.detail_reply.result) c.as_slice-in-Detail.ensures (c.detail_reply.ensures.replied c.args.work.now.tables)))
