use Rattle.std.proofs.Common.{[]}
use Rattle.http_desk.proofs.Pieces.{on_err, unread, stopped_here}
use Rattle.http_desk.proofs.connection.read_request.Goals as goal

pub returns-in_err-routes-clause-stopped : goal.returns-in_err-routes-clause-stopped
returns-in_err-routes-clause-stopped g c =
    on_err c.from_residual.result (λ was h. stopped_here [] was (g.D.Door.told c.args.door.now) (unread was (g.D.Door.told c.args.door.now) h))
