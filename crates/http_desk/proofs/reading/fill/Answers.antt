use Rattle.std.proofs.Common.{◌<◌, length, arith}
use Rattle.http_desk.specs.Seen.{seen}
use Rattle.http_desk.proofs.Pieces.{on_err, open_yet, stops, ended, more_read, goes_on, talking_then}
use Rattle.http_desk.proofs.reading.fill.Goals as goal

pub returns-in_err-read_piece-clause-stopped : goal.returns-in_err-read_piece-clause-stopped
returns-in_err-read_piece-clause-stopped g c =
    let low : length c.loop-door.bytes.items < c.args.wanted = omega (arith, c.loop-door-test.true, c.len.ensures) in
    let nothing = open_yet c.args.bytes.now.items c.loop-door.bytes.items c.args.wanted c.requires.waits c.loop-door.invariant.more low in
    on_err c.from_residual.result (λ was h. stops c.loop-door.bytes.items (g.D.Door.told c.loop-door.door) (g.D.Door.told c.read_piece.new.door)
    nothing c.in_err-read_piece.ensures.begun was (c.loop-door.invariant.goes was h))

pub returns-then-branch-eq0-clause-ended : goal.returns-then-branch-eq0-clause-ended
returns-then-branch-eq0-clause-ended g c = λ _.
    let low : length c.loop-door.bytes.items < c.args.wanted = omega (arith, c.loop-door-test.true, c.len.ensures) in
    let nothing = open_yet c.args.bytes.now.items c.loop-door.bytes.items c.args.wanted c.requires.waits c.loop-door.invariant.more low in
    ended c.in_ok-read_piece.field-0 c.args.bytes.now.items c.loop-door.bytes.items c.read_piece.new.bytes.items (g.D.Door.told c.args.door.now)
    (g.D.Door.told c.loop-door.door) (g.D.Door.told c.read_piece.new.door) c.if-branch-eq0.true nothing c.loop-door.invariant.goes
    c.in_ok-read_piece.ensures.piece

pub loop-door-preserved : goal.loop-door-preserved
loop-door-preserved g c =
    let at = seen g.D.Door.is_open g.D.Door.taken g.D.Door.door_faults g.D.Door.line_faults g.D.Door.told in
    let low : length c.loop-door.bytes.items < c.args.wanted = omega (arith, c.loop-door-test.true, c.len.ensures) in
    let nothing = open_yet c.args.bytes.now.items c.loop-door.bytes.items c.args.wanted c.requires.waits c.loop-door.invariant.more low in
    let piece = c.in_ok-read_piece.ensures.piece in
    record {
      talking = talking_then (at c.args.door.now) (at c.loop-door.door) (at c.read_piece.new.door) c.loop-door.invariant.talking
          c.in_ok-read_piece.ensures.talking;
      more = more_read c.in_ok-read_piece.field-0 c.args.bytes.now.items c.loop-door.bytes.items c.read_piece.new.bytes.items (g.D.Door.told
          c.loop-door.door) (g.D.Door.told c.read_piece.new.door) c.loop-door.invariant.more piece;
      goes = λ was h. goes_on c.in_ok-read_piece.field-0 c.loop-door.bytes.items c.read_piece.new.bytes.items (g.D.Door.told c.loop-door.door)
          (g.D.Door.told c.read_piece.new.door) nothing piece was (c.loop-door.invariant.goes was h);
    }
