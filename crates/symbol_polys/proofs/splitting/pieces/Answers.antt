use Rattle.std.proofs.Common.{map, get_or, arith, refl, sym, ap, ◌∙◌}
use Rattle.std.proofs.lemmas.List.{map_push}
use Rattle.symbol_polys.proofs.Cuts.{cut_here, cut_later, depth_most}
use Rattle.symbol_polys.proofs.splitting.pieces.Goals.{then-is_cut+in_ok-push, else-is_cut}
use Rattle.symbol_polys.proofs.splitting.pieces.Goals as goal

pub loop-i-preserved : goal.loop-i-preserved
loop-i-preserved c =
    let marks = c.args.marks.now in
    let text = c.args.text.now in
    let i = c.loop-i.i in
    let start = c.loop-i.start in
    let d = c.loop-i.depth in
    let byte = get_or text i 0 in
    let depth = c.depth_after-depth.ensures in
    elim c.if-is_cut.branch [
      | then-is_cut+in_ok-push w ↦ record {
        pieces = rw (depth, w.start-is) (cut_here marks text start d i byte (map (λ x. x.now) c.loop-i.pieces.items) (map (λ x. x.now) c.if-is_cut.pieces.items) _ c.loop-i-test.true refl (sym c.is_cut.ensures ∙ w.if-is_cut.true)
            (ap (λ v. map (λ x. x.now) v.items) w.pieces-is ∙ ap (map (λ x. x.now)) w.in_ok-push.ensures.items ∙ map_push (λ x. x.now) c.loop-i.pieces.items _) c.loop-i.invariant.pieces);
        start = omega (arith, w.start-is);
        depth = omega (arith, depth, depth_most d byte, c.loop-i.invariant.depth);
      }
      | else-is_cut w ↦ record {
        pieces = rw (depth, w.pieces-is, w.start-is) (cut_later marks text start d i byte (map (λ x. x.now) c.loop-i.pieces.items) _ c.loop-i.invariant.start c.loop-i-test.true refl (sym c.is_cut.ensures ∙ w.if-is_cut.false) c.loop-i.invariant.pieces);
        start = omega (arith, w.start-is, c.loop-i.invariant.start);
        depth = omega (arith, depth, depth_most d byte, c.loop-i.invariant.depth);
      }
    ]
