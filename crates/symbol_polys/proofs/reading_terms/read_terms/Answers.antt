use Rattle.std.proofs.Common.{[], List, ℕ, map, rules, sym, ◌∙◌, append-nil, Bor}
use Rattle.symbol_polys.specs.TermReading.{split_sign, written_of, IsTermOf, IsWritten}
use Rattle.symbol_polys.proofs.Following.{split_at, none_left}
use Rattle.symbol_polys.proofs.SignedTexts.{text_writes}
use Rattle.symbol_polys.proofs.TermReadings.{term_met, all_met}
use Rattle.symbol_polys.proofs.TermTexts.{sign_and_body}
use Rattle.symbol_polys.proofs.reading_terms.read_terms.Goals as goal

abbrev no_piece : Bor (List ℕ)
no_piece = record { ref_ptr = (0, 0); now = [] }

pub returns-in_err-read_term-clause-back : goal.returns-in_err-read_term-clause-back
returns-in_err-read_term-clause-back c = λ ts all some is.
    let ty = c.args.names.now.types.now in
    let ps = c.args.names.now.parameters.now in
    let items = c.behind_empty-piece-items.result.now in
    let pieces = rw (c.as_slice.ensures.value, c.in_ok-parts.ensures) at c.behind_empty-piece-items.ensures in
    let writes = text_writes ty ps c.requires.types c.requires.parameters c.args.text.now items ts all some is pieces in
    let left = c.loop-piece.invariant.back ts writes in
    let first = split_at (IsTermOf ty ps) (λ p. split_sign p.now) (sign_and_body ty ps) items c.loop-piece.piece-index no_piece left.0 c.loop-piece-test.true left.1 in
    let m = c.in_err-read_term.ensures.back first.head first.holds first.written in
    search rules

pub loop-piece-preserved : goal.loop-piece-preserved
loop-piece-preserved c =
    let ty = c.args.names.now.types.now in
    let ps = c.args.names.now.parameters.now in
    let items = c.behind_empty-piece-items.result.now in
    record {
      written = all_met (IsWritten ty ps) c.loop-piece.terms.items c.in_ok-read_term.field-0 c.keep.new.terms.items c.in_ok-keep.ensures c.in_ok-read_term.ensures.written c.loop-piece.invariant.written;
      back = λ ts writes.
          let left = c.loop-piece.invariant.back ts writes in
          let first = split_at (IsTermOf ty ps) (λ p. split_sign p.now) (sign_and_body ty ps) items c.loop-piece.piece-index no_piece left.0 c.loop-piece-test.true left.1 in
          let met = c.in_ok-read_term.ensures.back first.head first.holds first.written in
          (first.tail, first.others, term_met c.loop-piece.terms.items c.in_ok-read_term.field-0 c.keep.new.terms.items first.head first.tail ts c.in_ok-keep.ensures met (rw first.is at left.2));
    }

pub returns-clause-back : goal.returns-clause-back
returns-clause-back c = λ ts all some is.
    let ty = c.args.names.now.types.now in
    let ps = c.args.names.now.parameters.now in
    let items = c.behind_empty-piece-items.result.now in
    let pieces = rw (c.as_slice.ensures.value, c.in_ok-parts.ensures) at c.behind_empty-piece-items.ensures in
    let writes = text_writes ty ps c.requires.types c.requires.parameters c.args.text.now items ts all some is pieces in
    let left = c.loop-piece.invariant.back ts writes in
    let none = none_left (IsTermOf ty ps) (λ p. split_sign p.now) (sign_and_body ty ps) items c.loop-piece.piece-index left.0 c.loop-piece-test.false left.1 in
    sym (append-nil (map written_of c.loop-piece.terms.items)) ∙ rw none at left.2
