use Rattle.http_desk.proofs.Pieces.{on_err, failed_begun}
use Rattle.http_desk.proofs.reading.read_piece.Goals as goal

pub returns-in_err-n-clause-begun : goal.returns-in_err-n-clause-begun
returns-in_err-n-clause-begun g c = on_err c.from_residual.result (failed_begun (g.D.Door.told c.args.door.now) (g.D.Door.told c.read.new.self)
    c.in_err-n.ensures.err)
