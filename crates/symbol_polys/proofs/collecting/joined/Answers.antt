use Rattle.std.proofs.Common.{◌≡◌, ◌++◌, [], ◌∷◌, List, unsigned_abs, ap, subst, ◌∙◌, arith}
use Rattle.std.proofs.IntoIterSteps.{All-taken}
use Rattle.symbol_polys.specs.Polynomials.{PlainTerm, size_of}
use Rattle.symbol_polys.specs.View.{term_of}
use Rattle.symbol_polys.proofs.JoinLaws.{join_onto, no_sum, IsJoinedSoFar, joined_next, joined_all, closes, is_sum-joined}
use Rattle.symbol_polys.proofs.collecting.joined.Goals as goal

pub loop-next-preserved : goal.loop-next-preserved
loop-next-preserved c =
    let same : term_of c.into_term-next.result ≡ c.in-Some.next = c.into_term-next.ensures.term in
    let done = c.loop-next.yielded in
    let closing = c.in_ok-close-in_default.ensures in
    record {
      whole = subst (λ (u : PlainTerm). IsJoinedSoFar (done ++ u ∷ []) c.close.new.terms.items (term_of c.into_term-next.result)) same
          (joined_next done c.loop-next.terms.items c.close.new.terms.items (term_of c.loop-next.open) (term_of c.into_term-next.result) c.loop-next.invariant.whole
          (λ e. c.in_default.not-Equal ((rw (c.as_slice.ensures, c.as_slice-in-loop-next.ensures) at c.monomial_order.ensures) ∙ e))
          (closes c.loop-next.terms.items c.close.new.terms.items (term_of c.loop-next.open) closing.zero closing.other));
      size = omega (arith, c.loop-next.invariant.size, ap size_of c.in-Some.ensures.steps.0, ap (λ (t : PlainTerm). unsigned_abs t.coefficient) same);
      monomial = c.into_term-next.ensures.monomial;
    }

pub returns-clause-sum : goal.returns-clause-sum
returns-clause-sum c =
    let closing = c.in_ok-close.ensures in
    let all : c.loop-next.yielded ≡ c.args.sorted.items =
    All-taken c.into_iter-next-iterator.result c.loop-next.yielded (c.next.new.self, (c.loop-next.next-iterator, c.loop-next.yielded_by, c.in-None.ensures.steps))
    ∙ c.into_iter-next-iterator.ensures.into_iter_gives.0 in
    is_sum-joined c.args.sorted.items c.close-2.new.terms.items c.requires.sorted
    (joined_all c.loop-next.yielded c.loop-next.terms.items c.close-2.new.terms.items (term_of c.loop-next.open) c.loop-next.invariant.whole
    (closes c.loop-next.terms.items c.close-2.new.terms.items (term_of c.loop-next.open) closing.zero closing.other)
    ∙ ap (λ (us : List PlainTerm). join_onto no_sum us) all)
