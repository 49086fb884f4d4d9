use Rattle.std.proofs.Common.{ap}
use Rattle.desk_requests.specs.Decisions.{closed}
use Rattle.desk_requests.specs.declared.decision.Refusal.TheVariants.{BadRequest}
use Rattle.http_desk.proofs.Answering.{gives_reply, gives_refusal}
use Rattle.http_desk.proofs.response.respond.Goals as goal

pub returns-in-Asked-clause-response : goal.returns-in-Asked-clause-response
returns-in-Asked-clause-response g c =
    gives_reply g.C.Clerk.acts (c.args.store.now, c.args.work.now) (c.of_command.new.store, c.of_command.new.work) c.of_command.result (closed c.args.decision) c.in-Asked.command (ap closed
    c.in-Asked.is) c.of_command.ensures.response

pub returns-in-Refused-clause-response : goal.returns-in-Refused-clause-response
returns-in-Refused-clause-response g c =
    gives_refusal g.C.Clerk.acts (c.args.store.now, c.args.work.now) c.of_refusal.result (closed c.args.decision) c.in-Refused.refusal (ap closed c.in-Refused.is)
    c.of_refusal.ensures.status c.of_refusal.ensures.bytes

pub returns-in-Open-clause-response : goal.returns-in-Open-clause-response
returns-in-Open-clause-response g c =
    gives_refusal g.C.Clerk.acts (c.args.store.now, c.args.work.now) c.of_refusal-in-Open.result (closed c.args.decision) BadRequest (ap closed c.in-Open.is)
    c.of_refusal-in-Open.ensures.status c.of_refusal-in-Open.ensures.bytes
