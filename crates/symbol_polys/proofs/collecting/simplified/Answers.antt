use Rattle.std.proofs.Common.{rules, is_lt, arith}
use Rattle.std.proofs.lemmas.List.Sorted.{ranks_by}
use Rattle.std.proofs.lemmas.Fn.{always_returns_same}
use Rattle.std.proofs.lemmas.Result.{IfOk-weaker}
use Rattle.symbol_polys.specs.Polynomials.{PlainTerm, term_order}
use Rattle.symbol_polys.proofs.SymbolLaws.{term_order_total}
use Rattle.symbol_polys.proofs.PermutedLaws.{size_of-permutation, is_sum-permutation}
use Rattle.symbol_polys.proofs.collecting.simplified.Goals as goal

pub joined-requires-clause-sorted : goal.joined-requires-clause-sorted
joined-requires-clause-sorted c =
    c.in_ok-sort_by.ensures.sorted (λ t u. is_lt (term_order t u)) (ranks_by term_order_total (λ (t : PlainTerm). t)) (always_returns_same _ _ _ (λ a r f k. search rules))

pub joined-requires-clause-size : goal.joined-requires-clause-size
joined-requires-clause-size c = omega (arith, c.requires, size_of-permutation c.args.terms.items c.sort_by.new.self.items c.sort_by.ensures.permutation)

pub returns-clause-sum : goal.returns-clause-sum
returns-clause-sum c =
    IfOk-weaker c.joined.result _ _
    (λ v h. is_sum-permutation c.args.terms.items c.sort_by.new.self.items v.items c.sort_by.ensures.permutation h) c.joined.ensures.sum
