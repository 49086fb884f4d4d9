use Rattle.std.proofs.Common.{◌≡◌, ◌≤◌, ◌∙◌, ap, map, filter, length, List, ℕ, sum}
use Rattle.std.specs.List.{AllByRecursion}
use Rattle.degree_numbers.specs.declared.types.Types.{Types}
use Rattle.plain_trees.specs.Coproducts.{is_above_zero}
use Rattle.pooled_cuttings.specs.RightProducts.{lowered, IsRightShifts}
use Rattle.pooled_cuttings.proofs.RightFitting.{if_ok_more, small_shifts_of, small_kept, kept_are}
use Rattle.pooled_cuttings.proofs.right_shifts.right_shifts.Goals as goal

pub kept_shifts-requires-clause-small : goal.kept_shifts-requires-clause-small
kept_shifts-requires-clause-small c =
    let five = c.requires.decoration in
    small_shifts_of c.types-2.result.now.dims c.most_to_try-most.result c.args.edge.now.p.entries c.in_ok-all.all.items c.as_slice.result.now five c.most_to_try-most.ensures.within
    (c.in_ok-all.ensures c.args.edge.now.p.entries five) c.as_slice.ensures.value

pub returns-clause-small : goal.returns-clause-small
returns-clause-small c =
    let five = c.requires.decoration in
    let small = small_shifts_of c.types-2.result.now.dims c.most_to_try-most.result c.args.edge.now.p.entries c.in_ok-all.all.items c.as_slice.result.now five c.most_to_try-most.ensures.within
    (c.in_ok-all.ensures c.args.edge.now.p.entries five) c.as_slice.ensures.value in
    if_ok_more c.kept_shifts.result _ (λ ss. AllByRecursion (λ s. sum s.entries ≤ 8192) ss.items)
    (λ ss e. small_kept (λ s. is_above_zero (lowered c.types-3.result.now c.branch_degree-branch.result s)) c.as_slice.result.now ss.items small e) c.kept_shifts.ensures

pub returns-clause-shifts : goal.returns-clause-shifts
returns-clause-shifts c =
    let five = c.requires.decoration in
    if_ok_more c.kept_shifts.result _ (λ ss. IsRightShifts c.args.pool.now c.args.edge.now (map (λ m. m.entries) ss.items))
    (λ ss e. kept_are c.args.pool.now c.args.edge.now c.types.result.now c.types-2.result.now c.types-3.result.now c.branch_degree-branch.result c.most_to_try-most.result
    c.in_ok-all.all.items c.as_slice.result.now ss.items c.types.ensures.types c.types-2.ensures.types c.types-3.ensures.types c.branch_degree-branch.ensures.degree
    c.most_to_try-most.ensures.within c.most_to_try-most.ensures.ample (c.in_ok-all.ensures c.args.edge.now.p.entries five) c.as_slice.ensures.value e) c.kept_shifts.ensures
