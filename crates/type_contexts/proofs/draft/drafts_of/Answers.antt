use Rattle.std.proofs.Common.{[], ◌+◌, take, subst, sym}
use Rattle.std.proofs.lemmas.Result.{err_from_is_err_and}
use Rattle.std.specs.List.{AllZip}
use Rattle.type_contexts.specs.Draft.{IsGoodPiece, IsPieceDraft}
use Rattle.type_contexts.proofs.Pieces.{zip_more, all_map_at}
use Rattle.type_contexts.proofs.draft.drafts_of.Goals as goal

pub returns-in_err-piece_draft-clause-err : goal.returns-in_err-piece_draft-clause-err
returns-in_err-piece_draft-clause-err c =
    let p = err_from_is_err_and c.from_residual.result c.from_residual.ensures.1 in
    rw (p.1, p.2) (λ is good. c.in_err-piece_draft.ensures.err is (all_map_at IsGoodPiece (λ s. s.now) c.args.pieces.now c.loop-piece.piece-index record { ref_ptr = (0, 0); now = [] } c.loop-piece-test.true good))

pub loop-piece-preserved : goal.loop-piece-preserved
loop-piece-preserved c =
    subst (λ ds. AllZip (λ s d. IsPieceDraft s.now d) (take (c.loop-piece.piece-index + 1) c.args.pieces.now) ds) (sym c.in_ok-push.ensures.items)
    (zip_more (λ s d. IsPieceDraft s.now d) c.args.pieces.now c.loop-piece.drafts.items c.loop-piece.piece-index record { ref_ptr = (0, 0); now = [] } c.in_ok-piece_draft.field-0 c.loop-piece-test.true c.loop-piece.invariant c.in_ok-piece_draft.ensures.ok)
