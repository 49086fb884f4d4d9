use Rattle.std.proofs.Common.{◌≡◌, ℕ, ◌+◌, ◌-◌, ◌<◌, ◌≤◌, List, drop, length, get_or, refl, ap, sym, ◌∙◌, subst, arith, true, false, None, [], ◌∷◌, ◌++◌, append-nil}
use Rattle.std.specs.List.{AllByRecursion}
use Rattle.exact_sums.specs.Saturating.{overflow}
use Rattle.plain_trees.specs.Plain.{Plain}
use Rattle.plain_trees.specs.Degree.{is_empty_tree}
use Rattle.tree_pool.specs.Content.{Content, tree_at, trees_of}
use Rattle.tree_pool.proofs.Growth.{grown_at, grown_length, grown_refl}
use Rattle.cutting_sizes.specs.Bounds.{IsBounded}
use Rattle.pooled_cuttings.specs.Lines.{IsExtractKey}
use Rattle.pooled_cuttings.proofs.Groves.{grove_trans}
use Rattle.extraction_coproduct.specs.Finished.{coproduct_of, grove_of}
use Rattle.extraction_coproduct.specs.Terms.{key_of}
use Rattle.extraction_coproduct.proofs.Grown.{coproduct_grown}
use Rattle.antipode_laws.specs.Weighed.{Weighed}
use Rattle.antipode_laws.specs.Antipode.{from_smaller}
use Rattle.twisted_antipode.specs.declared.value.Value.{Value}
use Rattle.twisted_antipode.specs.Quotients.{quotient_terms}
use Rattle.twisted_antipode.specs.RunTerms.{IsCoefficient, IsRunTerm, quotients_in, run_value}
use Rattle.twisted_antipode.specs.Values.{IsValueOf, sum_of, product_of, negative_of, forest_weighed}
use Rattle.twisted_antipode.specs.Counts.{AreFinishedOver}
use Rattle.twisted_antipode.specs.Known.{rank, IsHeldAs, first_held, IsGood, IsRunOf, pairs_in, other_pairs, part_value}
use Rattle.twisted_antipode.proofs.KnownLaws.{more_trans, more_grown, well_grown}
use Rattle.twisted_antipode.proofs.ValueLaws.{at_held, at_empty, at_sum, more_kept, from_refused, from_coproduct, with_more}
use Rattle.twisted_antipode.proofs.RecursionLaws.{part_asked, forest_more, some_value, no_value, if_ok}
use Rattle.twisted_antipode.proofs.RunSums.{no_term}
use Rattle.twisted_antipode.proofs.RunLaws.{coproduct_in, run_of, run_first, left_terms, known_grown, all_back}
use Rattle.twisted_antipode.proofs.ForestLaws.{IsAlone, run_over, run_terms, run_parts, whole_value, passed_value, added_value, over_run}
use Rattle.twisted_antipode.proofs.CountLaws.{count_same, count_after, count_one, over_same, over_after, over_part, over_one, over_coproduct}
use Rattle.twisted_antipode.proofs.recursion.+values.Goals as goal

pub forest_value-value_at-requires : goal.forest_value-value_at-requires
forest_value-value_at-requires t c =
    let pool = c.args.tables.now.pool in
    let most = c.loop-i.invariant.most in
    let lt : c.loop-i.i - 1 < length c.args.trees.now = omega (arith, most, c.loop-i-test.true) in
    let asked = part_asked pool c.loop-i.tables.pool (tree_at pool c.args.id.0) c.args.trees.now (c.loop-i.i - 1) c.loop-i.invariant.grown.pool c.requires.parts lt in
    let falls = asked.falls in
    (omega (arith, falls), (asked.known, (asked.bounded, c.loop-i.invariant.more.held)))

pub forest_value-returns-in_err-value-clause-more : goal.forest_value-returns-in_err-value-clause-more
forest_value-returns-in_err-value-clause-more t c =
    more_trans c.args.reading c.args.tables.now.pool c.loop-i.tables.pool c.value_at.new.tables.pool c.args.memo.now c.loop-i.memo c.value_at.new.memo c.value_at.ensures.grown.pool
    c.loop-i.invariant.more c.value_at.ensures.more

pub forest_value-returns-in_err-all-2-clause-more : goal.forest_value-returns-in_err-all-2-clause-more
forest_value-returns-in_err-all-2-clause-more t c =
    more_trans c.args.reading c.args.tables.now.pool c.loop-i.tables.pool c.value_at.new.tables.pool c.args.memo.now c.loop-i.memo c.value_at.new.memo c.value_at.ensures.grown.pool
    c.loop-i.invariant.more c.value_at.ensures.more

pub value_at-returns-in-Some-clause-value : goal.value_at-returns-in-Some-clause-value
value_at-returns-in-Some-clause-value t c = λ a h.
    at_held c.args.reading c.args.tables.now.pool c.args.memo.now c.args.id.0 c.in-Some.value a c.laws.ensures.grove.pooled c.requires.held c.requires.known
    (some_value (first_held c.args.memo.now c.args.id.0 ≡ None) (IsHeldAs c.args.memo.now c.args.id.0) c.in_ok-value.field-0 c.in-Some.value c.in-Some.is c.in_ok-value.ensures.value) h

pub value_at-returns-then-is_empty-clause-value : goal.value_at-returns-then-is_empty-clause-value
value_at-returns-then-is_empty-clause-value t c = λ a h.
    let pool = c.args.tables.now.pool in
    let empty : is_empty_tree (tree_at pool c.args.id.0) ≡ true = ap (λ (d : Content). is_empty_tree (tree_at d c.args.id.0)) (sym c.pool-2.ensures) ∙ sym c.is_empty.ensures ∙ c.if-is_empty.true in
    at_empty c.args.reading pool c.args.memo.now c.args.id.0 c.in_ok-unit.field-0 a c.laws.ensures.grove.pooled c.requires.held c.requires.known
    (no_value (first_held c.args.memo.now c.args.id.0 ≡ None) (IsHeldAs c.args.memo.now c.args.id.0) c.in_ok-value.field-0 c.in_default.not-Some c.in_ok-value.ensures.value) empty c.in_ok-unit.ensures.value h

found : (t : ℕ) (c : goal.value_at-In_ok-keep t) (a : Plain → Weighed) → IsGood c.args.reading c.args.tables.now.pool c.args.memo.now a → IsValueOf (a (tree_at c.args.tables.now.pool c.args.id.0)) c.in_ok-value-2.value
found t c a h =
    let pool = c.args.tables.now.pool in
    let empty : is_empty_tree (tree_at pool c.args.id.0) ≡ false = ap (λ (d : Content). is_empty_tree (tree_at d c.args.id.0)) (sym c.pool-2.ensures) ∙ sym c.is_empty.ensures ∙ c.if-is_empty.false in
    at_sum c.args.reading pool c.args.memo.now c.args.id.0 c.in_ok-value-2.value a c.laws.ensures.grove.pooled c.requires.held c.requires.known
    (no_value (first_held c.args.memo.now c.args.id.0 ≡ None) (IsHeldAs c.args.memo.now c.args.id.0) c.in_ok-value.field-0 c.in_default.not-Some c.in_ok-value.ensures.value) empty (c.in_ok-value-2.ensures.value a h) h

pub value_at-returns-clause-value : goal.value_at-returns-clause-value
value_at-returns-clause-value t c = λ a h. found t c a h

pub value_at-returns-in_err-keep-clause-more : goal.value_at-returns-in_err-keep-clause-more
value_at-returns-in_err-keep-clause-more t c =
    let pool = c.args.tables.now.pool in
    let new = c.new_value.new.tables.pool in
    let grown = c.in_ok-value-2.ensures.grown.pool in
    let longer = grown_length pool new grown in
    let known = c.requires.known in
    let empty : is_empty_tree (tree_at pool c.args.id.0) ≡ false = ap (λ (d : Content). is_empty_tree (tree_at d c.args.id.0)) (sym c.pool-2.ensures) ∙ sym c.is_empty.ensures ∙ c.if-is_empty.false in
    more_kept c.args.reading pool new c.args.memo.now c.new_value.new.memo c.keep.new.memo c.args.id.0 c.in_ok-value-2.value c.laws-2.ensures.grove.pooled (omega (arith, longer, known))
    c.in_ok-value-2.ensures.more c.keep.ensures.held
    (λ a h. subst (λ (s : Plain). IsValueOf (a s) c.in_ok-value-2.value) (sym (grown_at pool new c.args.id.0 grown known))
    (at_sum c.args.reading pool c.args.memo.now c.args.id.0 c.in_ok-value-2.value a c.laws.ensures.grove.pooled c.requires.held known
    (no_value (first_held c.args.memo.now c.args.id.0 ≡ None) (IsHeldAs c.args.memo.now c.args.id.0) c.in_ok-value.field-0 c.in_default.not-Some c.in_ok-value.ensures.value) empty (c.in_ok-value-2.ensures.value a h) h))

pub value_at-returns-clause-more : goal.value_at-returns-clause-more
value_at-returns-clause-more t c =
    let pool = c.args.tables.now.pool in
    let new = c.new_value.new.tables.pool in
    let grown = c.in_ok-value-2.ensures.grown.pool in
    let more = grown_length pool new grown in
    let known = c.requires.known in
    more_kept c.args.reading pool new c.args.memo.now c.new_value.new.memo c.keep.new.memo c.args.id.0 c.in_ok-value-2.value c.laws-2.ensures.grove.pooled (omega (arith, more, known))
    c.in_ok-value-2.ensures.more c.keep.ensures.held
    (λ a h. subst (λ (s : Plain). IsValueOf (a s) c.in_ok-value-2.value) (sym (grown_at pool new c.args.id.0 grown known)) (found t c a h))

pub forest_value-loop-i-preserved-in_ok-all-2 : goal.forest_value-loop-i-preserved-in_ok-all-2
forest_value-loop-i-preserved-in_ok-all-2 t c =
    let pool = c.args.tables.now.pool in
    let most = c.loop-i.invariant.most in
    let lt : c.loop-i.i - 1 < length c.args.trees.now = omega (arith, most, c.loop-i-test.true) in
    let one : c.loop-i.i - 1 + 1 ≡ c.loop-i.i = omega (arith, c.loop-i-test.true) in
    record {
      most = omega (arith, most);
      kept = c.in_ok-all-2.ensures.kept;
      value = λ a h.
          forest_more pool c.loop-i.tables.pool (tree_at pool c.args.id.0) c.args.trees.now c.loop-i.i (c.loop-i.i - 1) a c.in_ok-value.value c.loop-i.all c.in_ok-all-2.all
          c.loop-i.invariant.grown.pool c.requires.parts one lt (c.in_ok-value.ensures.value a (c.loop-i.invariant.more.good a h)) (c.loop-i.invariant.value a h) c.in_ok-all-2.ensures.value;
      more = more_trans c.args.reading pool c.loop-i.tables.pool c.value_at.new.tables.pool c.args.memo.now c.loop-i.memo c.value_at.new.memo c.value_at.ensures.grown.pool
          c.loop-i.invariant.more c.value_at.ensures.more;
      grown = grove_trans (grove_of c.args.tables.now) (grove_of c.loop-i.tables) (grove_of c.value_at.new.tables) c.loop-i.invariant.grown c.value_at.ensures.grown;
      counted = count_after c.args.tables.now c.loop-i.tables c.value_at.new.tables c.args.work.now.tables c.loop-i.work.tables c.value_at.new.work.tables c.loop-i.invariant.counted c.value_at.ensures.counted;
      finished = over_part c.args.tables.now c.loop-i.tables c.value_at.new.tables c.args.memo.now c.loop-i.memo (tree_at pool c.args.id.0) c.args.trees.now (c.loop-i.i - 1)
          c.loop-i.invariant.grown.pool c.value_at.ensures.grown.pool c.loop-i.invariant.more.kept c.requires.parts lt c.loop-i.invariant.finished c.value_at.ensures.finished;
    }

pub forest_value-loop-i-preserved : goal.forest_value-loop-i-preserved
forest_value-loop-i-preserved t c =
    let pool = c.args.tables.now.pool in
    let most = c.loop-i.invariant.most in
    let lt : c.loop-i.i - 1 < length c.args.trees.now = omega (arith, most, c.loop-i-test.true) in
    let one : c.loop-i.i - 1 + 1 ≡ c.loop-i.i = omega (arith, c.loop-i-test.true) in
    record {
      most = omega (arith, most);
      kept = c.in_ok-all-2.ensures.kept;
      value = λ a h.
          forest_more pool c.loop-i.tables.pool (tree_at pool c.args.id.0) c.args.trees.now c.loop-i.i (c.loop-i.i - 1) a c.in_ok-value.value c.loop-i.all c.in_ok-all-2.all
          c.loop-i.invariant.grown.pool c.requires.parts one lt (c.in_ok-value.ensures.value a (c.loop-i.invariant.more.good a h)) (c.loop-i.invariant.value a h) c.in_ok-all-2.ensures.value;
      more = more_trans c.args.reading pool c.loop-i.tables.pool c.value_at.new.tables.pool c.args.memo.now c.loop-i.memo c.value_at.new.memo c.value_at.ensures.grown.pool
          c.loop-i.invariant.more c.value_at.ensures.more;
      grown = grove_trans (grove_of c.args.tables.now) (grove_of c.loop-i.tables) (grove_of c.value_at.new.tables) c.loop-i.invariant.grown c.value_at.ensures.grown;
      counted = count_after c.args.tables.now c.loop-i.tables c.value_at.new.tables c.args.work.now.tables c.loop-i.work.tables c.value_at.new.work.tables c.loop-i.invariant.counted c.value_at.ensures.counted;
      finished = over_part c.args.tables.now c.loop-i.tables c.value_at.new.tables c.args.memo.now c.loop-i.memo (tree_at pool c.args.id.0) c.args.trees.now (c.loop-i.i - 1)
          c.loop-i.invariant.grown.pool c.value_at.ensures.grown.pool c.loop-i.invariant.more.kept c.requires.parts lt c.loop-i.invariant.finished c.value_at.ensures.finished;
    }

pub new_value-returns-in-Ok-clause-more : goal.new_value-returns-in-Ok-clause-more
new_value-returns-in-Ok-clause-more t c =
    let pool = c.args.tables.now.pool in
    more_trans c.args.reading pool c.coproduct.new.self.pool c.sum_of_runs.new.tables.pool c.args.memo.now c.args.memo.now c.sum_of_runs.new.memo c.sum_of_runs.ensures.grown.pool
    (more_grown c.args.reading pool c.coproduct.new.self.pool c.args.memo.now c.coproduct.ensures.grown.pool c.requires.held) c.sum_of_runs.ensures.more

pub new_value-returns-in-Err-CoefficientTooLarge-clause-more : goal.new_value-returns-in-Err-CoefficientTooLarge-clause-more
new_value-returns-in-Err-CoefficientTooLarge-clause-more t c =
    more_grown c.args.reading c.args.tables.now.pool c.coproduct.new.self.pool c.args.memo.now c.coproduct.ensures.grown.pool c.requires.held

pub new_value-returns-in-Err-Memory-clause-more : goal.new_value-returns-in-Err-Memory-clause-more
new_value-returns-in-Err-Memory-clause-more t c =
    more_grown c.args.reading c.args.tables.now.pool c.coproduct.new.self.pool c.args.memo.now c.coproduct.ensures.grown.pool c.requires.held

pub sum_of_runs-returns-in_err-total-2-clause-more : goal.sum_of_runs-returns-in_err-total-2-clause-more
sum_of_runs-returns-in_err-total-2-clause-more t c =
    more_trans c.args.reading c.args.tables.now.pool c.loop-left.tables.pool c.with_run.new.tables.pool c.args.memo.now c.loop-left.memo c.with_run.new.memo c.with_run.ensures.grown.pool
    c.loop-left.invariant.more c.with_run.ensures.more

pub sum_of_runs-loop-left-init : goal.sum_of_runs-loop-left-init
sum_of_runs-loop-left-init t c =
    let pool = c.args.tables.now.pool in
    record {
      kept = c.in_ok-total.ensures.kept;
      done = [];
      terms = c.requires.terms;
      value = λ a h. c.in_ok-total.ensures.value;
      listed = c.requires.listed;
      numbers = c.requires.numbers;
      more = more_grown c.args.reading pool pool c.args.memo.now (grown_refl pool) c.requires.held;
      grown = record { pool = grown_refl pool; forests = ([], sym (append-nil c.args.tables.now.forests)) };
      counted = count_same c.args.tables.now c.args.work.now.tables;
      finished = over_same c.args.tables.now c.args.tables.now c.args.memo.now (tree_at pool c.args.id.0 ∷ []) refl;
    }

pub new_value-sum_of_runs-requires : goal.new_value-sum_of_runs-requires
new_value-sum_of_runs-requires t c =
    let pool = c.args.tables.now.pool in
    let new = c.coproduct.new.self.pool in
    let i = c.args.id.0 in
    let grown = c.coproduct.ensures.grown.pool in
    let known = c.requires.known in
    let longer = grown_length pool new grown in
    let same = grown_at pool new i grown known in
    let size = ap rank same in
    let is = coproduct_in pool (grove_of c.coproduct.new.self) i c.in-Ok.terms.now grown known c.in-Ok.ensures.terms c.in-Ok.ensures.fits in (
      omega (arith, size),
      (omega (arith, longer, known), (subst IsBounded (sym same) c.requires.bounded, (well_grown pool new c.args.memo.now grown c.requires.held, (is.terms, (c.in-Ok.ensures.known, is.numbers))))),
    )

pub new_value-returns-in-Ok-clause-value : goal.new_value-returns-in-Ok-clause-value
new_value-returns-in-Ok-clause-value t c =
    let r = c.args.reading in
    let pool = c.args.tables.now.pool in
    let new = c.coproduct.new.self.pool in
    let memo = c.args.memo.now in
    let i = c.args.id.0 in
    if_ok c.sum_of_runs.result
    (λ (v : Value). (a : Plain → Weighed) → IsGood r new memo a → IsValueOf (part_value r new.types a (other_pairs (tree_at new i) (coproduct_of new i))) v)
    (λ (v : Value). (a : Plain → Weighed) → IsGood r pool memo a → IsValueOf (from_smaller pool.types (quotient_terms r pool.types) a (tree_at pool i)) v)
    (λ v value. from_coproduct r pool new memo i v c.coproduct.ensures.grown.pool c.requires.held c.requires.known c.in-Ok.ensures.fits value) c.sum_of_runs.ensures.value

pub new_value-returns-in-Err-CoefficientTooLarge-clause-value : goal.new_value-returns-in-Err-CoefficientTooLarge-clause-value
new_value-returns-in-Err-CoefficientTooLarge-clause-value t c = λ a h.
    from_refused c.args.reading c.args.tables.now.pool.types (tree_at c.args.tables.now.pool c.args.id.0) a (c.in-Err-CoefficientTooLarge.ensures.refusal c.in-Err-CoefficientTooLarge.field-0-is)

pub sum_of_runs-with_run-requires : goal.sum_of_runs-with_run-requires
sum_of_runs-with_run-requires t c =
    let pool = c.args.tables.now.pool in
    let now = c.loop-left.tables.pool in
    let i = c.args.id.0 in
    let inv = c.loop-left.invariant in
    let grown = inv.grown.pool in
    let known = c.requires.known in
    let longer = grown_length pool now grown in
    let same = grown_at pool now i grown known in
    let size = ap rank same in
    let g = grove_of c.loop-left.tables in
    let run = run_of g (coproduct_of now i) inv.done c.loop-left.left.now c.run_length.result c.run_length.ensures.some c.run_length.ensures.most
    (inv.terms ∙ sym (coproduct_grown pool now i grown known)) inv.listed inv.numbers c.run_length.ensures.forest in (
      omega (arith, size),
      (omega (arith, longer, known), (subst IsBounded (sym same) c.requires.bounded, (inv.more.held, (subst (IsRunOf g (coproduct_of now i)) (sym c.split_at.ensures.front) run, inv.kept)))),
    )

pub sum_of_runs-loop-left-preserved : goal.sum_of_runs-loop-left-preserved
sum_of_runs-loop-left-preserved t c =
    let r = c.args.reading in
    let pool = c.args.tables.now.pool in
    let old = c.loop-left.tables in
    let new = c.with_run.new.tables in
    let i = c.args.id.0 in
    let inv = c.loop-left.invariant in
    let known = c.requires.known in
    let n = c.run_length.result in
    let es = c.loop-left.left.now in
    let front = c.split_at.result.0.now in
    let back = c.split_at.result.1.now in
    let g = grove_of old in
    let h = grove_of new in
    let grove = c.laws.ensures.grove in
    let grown = c.with_run.ensures.grown in
    record {
      kept = c.in_ok-total-2.ensures.kept;
      done = inv.done ++ pairs_in g front;
      terms = rw (c.split_at.ensures.front, c.split_at.ensures.back) (left_terms g h grove grown (coproduct_of pool i) inv.done es n inv.terms inv.listed);
      value = with_more r pool old.pool c.args.memo.now c.loop-left.memo i inv.done (pairs_in g front) c.loop-left.total c.in_ok-total-2.total inv.grown.pool known inv.more inv.value
          c.in_ok-total-2.ensures.value;
      listed = rw c.split_at.ensures.back (known_grown g h grove grown (drop n es) (all_back (λ e. IsExtractKey g (key_of e)) n es inv.listed));
      numbers = rw c.split_at.ensures.back (all_back (λ e. IsCoefficient e.coefficient) n es inv.numbers);
      more = more_trans r pool old.pool new.pool c.args.memo.now c.loop-left.memo c.with_run.new.memo grown.pool inv.more c.with_run.ensures.more;
      grown = grove_trans (grove_of c.args.tables.now) g h inv.grown grown;
      counted = count_after c.args.tables.now c.loop-left.tables c.with_run.new.tables c.args.work.now.tables c.loop-left.work.tables c.with_run.new.work.tables c.loop-left.invariant.counted c.with_run.ensures.counted;
      finished = over_after c.args.tables.now c.loop-left.tables c.with_run.new.tables c.args.memo.now c.loop-left.memo (tree_at c.args.tables.now.pool c.args.id.0 ∷ []) c.loop-left.invariant.grown.pool
          c.with_run.ensures.grown.pool c.loop-left.invariant.more.kept c.loop-left.invariant.finished
          (subst (λ (s : Plain). AreFinishedOver c.loop-left.tables c.with_run.new.tables c.loop-left.memo (s ∷ []))
          (grown_at c.args.tables.now.pool c.loop-left.tables.pool c.args.id.0 c.loop-left.invariant.grown.pool c.requires.known) c.with_run.ensures.finished);
    }

pub with_run-trees-trees-requires : goal.with_run-trees-trees-requires
with_run-trees-trees-requires t c =
    let b = c.args.tables.now in
    subst (λ (fs : List (List ℕ)). (get_or c.args.run.now 0 no_term).forest.0 < length fs) (sym c.forests.ensures) (run_first (grove_of b) (coproduct_of b.pool c.args.id.0) c.args.run.now c.requires.run)

pub with_run-returns-then-is_alone-clause-value : goal.with_run-returns-then-is_alone-clause-value
with_run-returns-then-is_alone-clause-value t c = λ a w good most h.
    let b = c.args.tables.now in
    let ids = c.trees-trees.result.now in
    let over = run_over b c.forests.result.now c.args.id.0 ids c.args.run.now c.laws.ensures c.requires.known c.requires.run c.forests.ensures c.trees-trees.ensures in
    whole_value (grove_of b) c.args.id.0 ids c.args.run.now over c.args.reading a w c.args.total (c.is_alone.ensures.0 c.if-is_alone.true) most h

pub with_run-quotients-requires : goal.with_run-quotients-requires
with_run-quotients-requires t c =
    let b = c.args.tables.now in
    let ids = c.trees-trees.result.now in
    let over = run_over b c.forests.result.now c.args.id.0 ids c.args.run.now c.laws.ensures c.requires.known c.requires.run c.forests.ensures c.trees-trees.ensures in
    subst (λ (d : Content). AllByRecursion (IsRunTerm d) c.args.run.now) (sym c.pool.ensures) (run_terms (grove_of b) c.args.id.0 ids c.args.run.now over)

pub with_run-returns-then-is_nothing-clause-value : goal.with_run-returns-then-is_nothing-clause-value
with_run-returns-then-is_nothing-clause-value t c = λ a w good most h.
    let b = c.args.tables.now in
    let i = c.args.id.0 in
    let es = c.args.run.now in
    let ids = c.trees-trees.result.now in
    let over = run_over b c.forests.result.now i ids es c.laws.ensures c.requires.known c.requires.run c.forests.ensures c.trees-trees.ensures in
    let not : IsAlone i ids → ⊥ = λ e. (let is = c.is_alone.ensures.1 e in let no = c.if-is_alone.false in absurd cc) in
    let quotients = run_value c.args.reading b.pool.types (quotients_in b.pool es) in
    let value = subst (λ (d : Content). IsValueOf (run_value c.args.reading d.types (quotients_in d es)) c.in_ok-quotients.quotients) c.pool.ensures c.in_ok-quotients.ensures.value in
    passed_value (grove_of b) i ids es over c.args.reading a w c.args.total not most (c.is_nothing.ensures.mass c.if-is_nothing.true quotients value)
    (c.is_nothing.ensures.terms c.if-is_nothing.true quotients value) h

pub with_run-forest_value-requires : goal.with_run-forest_value-requires
with_run-forest_value-requires t c =
    let b = c.args.tables.now in
    let i = c.args.id.0 in
    let es = c.args.run.now in
    let ids = c.trees-trees.result.now in
    let over = run_over b c.forests.result.now i ids es c.laws.ensures c.requires.known c.requires.run c.forests.ensures c.trees-trees.ensures in
    let not : IsAlone i ids → ⊥ = λ e. (let is = c.is_alone.ensures.1 e in let no = c.if-is_alone.false in absurd cc) in
    (omega arith, (c.requires.known, (run_parts (grove_of b) i ids es over not c.requires.bounded, c.requires.held)))

pub with_run-returns-clause-value : goal.with_run-returns-clause-value
with_run-returns-clause-value t c =
    let r = c.args.reading in
    let b = c.args.tables.now in
    let pool = b.pool in
    let i = c.args.id.0 in
    let es = c.args.run.now in
    let ids = c.trees-trees.result.now in
    let over = run_over b c.forests.result.now i ids es c.laws.ensures c.requires.known c.requires.run c.forests.ensures c.trees-trees.ensures in
    let not : IsAlone i ids → ⊥ = λ e. (let is = c.is_alone.ensures.1 e in let no = c.if-is_alone.false in absurd cc) in
    let quotients = run_value r pool.types (quotients_in pool es) in
    let value = subst (λ (d : Content). IsValueOf (run_value r d.types (quotients_in d es)) c.in_ok-quotients.quotients) c.pool.ensures c.in_ok-quotients.ensures.value in
    if_ok c.with_product.result
    (λ (v : Value). (w q f : Weighed) → w.mass ≤ overflow → IsValueOf w c.args.total → IsValueOf q c.in_ok-quotients.quotients → IsValueOf f c.in_ok-forest.forest → IsValueOf (sum_of w (negative_of (product_of f q))) v)
    (λ (v : Value). (a : Plain → Weighed) (w : Weighed) → IsGood r pool c.args.memo.now a → w.mass ≤ overflow → IsValueOf w c.args.total →
    IsValueOf (sum_of w (part_value r pool.types a (other_pairs (tree_at pool i) (pairs_in (grove_of b) es)))) v)
    (λ v step a w good most h.
    added_value (grove_of b) i ids es over r a w v not (step w quotients (forest_weighed a (trees_of pool ids)) most h value (c.in_ok-forest.ensures.value a good)))
    c.with_product.ensures.value

pub forest_value-returns-in_err-value-clause-counted : goal.forest_value-returns-in_err-value-clause-counted
forest_value-returns-in_err-value-clause-counted t c =
    count_after c.args.tables.now c.loop-i.tables c.value_at.new.tables c.args.work.now.tables c.loop-i.work.tables c.value_at.new.work.tables c.loop-i.invariant.counted c.value_at.ensures.counted

pub forest_value-returns-in_err-value-clause-finished : goal.forest_value-returns-in_err-value-clause-finished
forest_value-returns-in_err-value-clause-finished t c =
    let pool = c.args.tables.now.pool in
    let most = c.loop-i.invariant.most in
    let lt : c.loop-i.i - 1 < length c.args.trees.now = omega (arith, most, c.loop-i-test.true) in
    over_part c.args.tables.now c.loop-i.tables c.value_at.new.tables c.args.memo.now c.loop-i.memo (tree_at pool c.args.id.0) c.args.trees.now (c.loop-i.i - 1)
    c.loop-i.invariant.grown.pool c.value_at.ensures.grown.pool c.loop-i.invariant.more.kept c.requires.parts lt c.loop-i.invariant.finished c.value_at.ensures.finished

pub forest_value-returns-in_err-all-2-clause-counted : goal.forest_value-returns-in_err-all-2-clause-counted
forest_value-returns-in_err-all-2-clause-counted t c =
    count_after c.args.tables.now c.loop-i.tables c.value_at.new.tables c.args.work.now.tables c.loop-i.work.tables c.value_at.new.work.tables c.loop-i.invariant.counted c.value_at.ensures.counted

pub forest_value-returns-in_err-all-2-clause-finished : goal.forest_value-returns-in_err-all-2-clause-finished
forest_value-returns-in_err-all-2-clause-finished t c =
    let pool = c.args.tables.now.pool in
    let most = c.loop-i.invariant.most in
    let lt : c.loop-i.i - 1 < length c.args.trees.now = omega (arith, most, c.loop-i-test.true) in
    over_part c.args.tables.now c.loop-i.tables c.value_at.new.tables c.args.memo.now c.loop-i.memo (tree_at pool c.args.id.0) c.args.trees.now (c.loop-i.i - 1)
    c.loop-i.invariant.grown.pool c.value_at.ensures.grown.pool c.loop-i.invariant.more.kept c.requires.parts lt c.loop-i.invariant.finished c.value_at.ensures.finished

pub sum_of_runs-returns-in_err-total-2-clause-counted : goal.sum_of_runs-returns-in_err-total-2-clause-counted
sum_of_runs-returns-in_err-total-2-clause-counted t c =
    count_after c.args.tables.now c.loop-left.tables c.with_run.new.tables c.args.work.now.tables c.loop-left.work.tables c.with_run.new.work.tables c.loop-left.invariant.counted c.with_run.ensures.counted

pub sum_of_runs-returns-in_err-total-2-clause-finished : goal.sum_of_runs-returns-in_err-total-2-clause-finished
sum_of_runs-returns-in_err-total-2-clause-finished t c =
    over_after c.args.tables.now c.loop-left.tables c.with_run.new.tables c.args.memo.now c.loop-left.memo (tree_at c.args.tables.now.pool c.args.id.0 ∷ []) c.loop-left.invariant.grown.pool
    c.with_run.ensures.grown.pool c.loop-left.invariant.more.kept c.loop-left.invariant.finished
    (subst (λ (s : Plain). AreFinishedOver c.loop-left.tables c.with_run.new.tables c.loop-left.memo (s ∷ []))
    (grown_at c.args.tables.now.pool c.loop-left.tables.pool c.args.id.0 c.loop-left.invariant.grown.pool c.requires.known) c.with_run.ensures.finished)

pub new_value-returns-in-Ok-clause-counted : goal.new_value-returns-in-Ok-clause-counted
new_value-returns-in-Ok-clause-counted t c =
    count_after c.args.tables.now c.coproduct.new.self c.sum_of_runs.new.tables c.args.work.now.tables c.coproduct.new.work.tables c.sum_of_runs.new.work.tables
    (count_one c.args.tables.now c.coproduct.new.self c.args.id.0 c.args.work.now.tables c.coproduct.new.work.tables c.coproduct.result c.coproduct.ensures.counted) c.sum_of_runs.ensures.counted

pub new_value-returns-in-Ok-clause-finished : goal.new_value-returns-in-Ok-clause-finished
new_value-returns-in-Ok-clause-finished t c =
    over_coproduct c.args.tables.now c.coproduct.new.self c.sum_of_runs.new.tables c.args.memo.now c.args.id.0 c.args.work.now.tables c.coproduct.new.work.tables c.coproduct.result
    c.coproduct.ensures.grown.pool c.sum_of_runs.ensures.grown.pool c.requires.known c.requires.lacking c.coproduct.ensures.counted c.sum_of_runs.ensures.finished

pub new_value-returns-in-Err-CoefficientTooLarge-clause-counted : goal.new_value-returns-in-Err-CoefficientTooLarge-clause-counted
new_value-returns-in-Err-CoefficientTooLarge-clause-counted t c =
    count_one c.args.tables.now c.coproduct.new.self c.args.id.0 c.args.work.now.tables c.coproduct.new.work.tables c.coproduct.result c.coproduct.ensures.counted

pub new_value-returns-in-Err-CoefficientTooLarge-clause-finished : goal.new_value-returns-in-Err-CoefficientTooLarge-clause-finished
new_value-returns-in-Err-CoefficientTooLarge-clause-finished t c =
    over_one c.args.tables.now c.coproduct.new.self c.args.memo.now c.args.id.0 c.args.work.now.tables c.coproduct.new.work.tables c.coproduct.result c.coproduct.ensures.grown.pool
    c.requires.known c.requires.lacking c.coproduct.ensures.counted

pub new_value-returns-in-Err-Memory-clause-counted : goal.new_value-returns-in-Err-Memory-clause-counted
new_value-returns-in-Err-Memory-clause-counted t c =
    count_one c.args.tables.now c.coproduct.new.self c.args.id.0 c.args.work.now.tables c.coproduct.new.work.tables c.coproduct.result c.coproduct.ensures.counted

pub new_value-returns-in-Err-Memory-clause-finished : goal.new_value-returns-in-Err-Memory-clause-finished
new_value-returns-in-Err-Memory-clause-finished t c =
    over_one c.args.tables.now c.coproduct.new.self c.args.memo.now c.args.id.0 c.args.work.now.tables c.coproduct.new.work.tables c.coproduct.result c.coproduct.ensures.grown.pool
    c.requires.known c.requires.lacking c.coproduct.ensures.counted

pub value_at-new_value-requires : goal.value_at-new_value-requires
value_at-new_value-requires t c =
    let pool = c.args.tables.now.pool in (
      omega arith,
      (
        c.requires.known,
        (
          c.requires.bounded,
          (
            c.requires.held,
            no_value (first_held c.args.memo.now c.args.id.0 ≡ None) (IsHeldAs c.args.memo.now c.args.id.0) c.in_ok-value.field-0 c.in_default.not-Some c.in_ok-value.ensures.value,
          ),
        ),
      ),
    )

pub with_run-returns-clause-finished : goal.with_run-returns-clause-finished
with_run-returns-clause-finished t c =
    let b = c.args.tables.now in
    let over = run_over b c.forests.result.now c.args.id.0 c.trees-trees.result.now c.args.run.now c.laws.ensures c.requires.known c.requires.run c.forests.ensures c.trees-trees.ensures in
    over_run b c.forest_value.new.tables c.args.memo.now c.args.id.0 c.trees-trees.result.now c.args.run.now over c.forest_value.ensures.finished

pub with_run-returns-in_err-forest-clause-finished : goal.with_run-returns-in_err-forest-clause-finished
with_run-returns-in_err-forest-clause-finished t c =
    let b = c.args.tables.now in
    let over = run_over b c.forests.result.now c.args.id.0 c.trees-trees.result.now c.args.run.now c.laws.ensures c.requires.known c.requires.run c.forests.ensures c.trees-trees.ensures in
    over_run b c.forest_value.new.tables c.args.memo.now c.args.id.0 c.trees-trees.result.now c.args.run.now over c.forest_value.ensures.finished
