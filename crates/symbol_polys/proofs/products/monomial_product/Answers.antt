use Rattle.std.proofs.Common.{◌<◌, length, ◌+◌, ◌++◌, ◌∷◌, [], List, map, drop, ap, ◌∙◌, arith}
use Rattle.symbol_polys.specs.Products.{monomial_product}
use Rattle.symbol_polys.specs.View.{symbol_of}
use Rattle.symbol_polys.specs.declared.symbols.Symbol.{Symbol}
use Rattle.symbol_polys.proofs.SymbolLaws.{small_at, bounded_at, bounded_behind}
use Rattle.symbol_polys.proofs.MonomialLaws.{first_step, second_step, sorted_after, taken, product_ends, back_slice}
use Rattle.symbol_polys.proofs.products.monomial_product.Goals.{then-loop-i-test+else-j-b, else-loop-i-test}
use Rattle.symbol_polys.proofs.products.monomial_product.Goals as goal

pub symbol_order-requires-clause-small_a : goal.symbol_order-requires-clause-small_a
symbol_order-requires-clause-small_a c = small_at c.args.a.now c.loop-i.i c.index-a-i.result c.loop-i-test.true c.index-a-i.is c.requires.a.trees

pub symbol_order-requires-clause-small_b : goal.symbol_order-requires-clause-small_b
symbol_order-requires-clause-small_b c = small_at c.args.b.now c.loop-i.j c.index-b-j.result c.if-j-b.true c.index-b-j.is c.requires.b.trees

pub copy_symbol-requires : goal.copy_symbol-requires
copy_symbol-requires c = bounded_at c.args.b.now c.loop-i.j c.index-b-j.result c.if-j-b.true c.index-b-j.is c.requires.b.trees

pub copy_symbol-requires-in_default : goal.copy_symbol-requires-in_default
copy_symbol-requires-in_default c = bounded_at c.args.a.now c.loop-i.i c.index-a-i.result c.loop-i-test.true c.index-a-i.is c.requires.a.trees

pub copy_symbols-requires : goal.copy_symbols-requires
copy_symbols-requires c = rw (back_slice c.args.a.now c.loop-i.i) (bounded_behind c.args.a.now c.loop-i.i c.requires.a.trees)

pub copy_symbols-requires-2 : goal.copy_symbols-requires-2
copy_symbols-requires-2 c = rw (back_slice c.args.b.now c.loop-i.j) (bounded_behind c.args.b.now c.loop-i.j c.requires.b.trees)

pub loop-i-preserved-in-Greater : goal.loop-i-preserved-in-Greater
loop-i-preserved-in-Greater c =
    let a = c.args.a.now in
    let b = c.args.b.now in
    let i = c.loop-i.i in
    let j = c.loop-i.j in
    let inv = c.loop-i.invariant in
    record {
      within_a = inv.within_a;
      within_b = omega (arith, c.if-j-b.true);
      sorted_a = inv.sorted_a;
      sorted_b = sorted_after b j c.index-b-j.result c.if-j-b.true c.index-b-j.is inv.sorted_b;
      whole = taken c.loop-i.product c.push.new.self c.index-b-j.result (monomial_product (map symbol_of (drop i a)) (map symbol_of (drop j b))) (monomial_product (map symbol_of (drop i a)) (map symbol_of (drop (j + 1) b)))
          (monomial_product (map symbol_of a) (map symbol_of b)) (c.in_ok-push-in-Greater.ensures.ok ∙ ap (λ (x : Symbol). c.loop-i.product ++ x ∷ []) c.in_ok-copy_symbol-in-Greater.ensures.copy)
          (second_step a b i j c.index-a-i.result c.index-b-j.result c.loop-i-test.true c.if-j-b.true c.index-a-i.is c.index-b-j.is inv.sorted_a c.in-Greater.ensures) inv.whole;
    }

pub loop-i-preserved : goal.loop-i-preserved
loop-i-preserved c =
    let a = c.args.a.now in
    let b = c.args.b.now in
    let i = c.loop-i.i in
    let j = c.loop-i.j in
    let inv = c.loop-i.invariant in
    record {
      within_a = omega (arith, c.loop-i-test.true);
      within_b = inv.within_b;
      sorted_a = sorted_after a i c.index-a-i.result c.loop-i-test.true c.index-a-i.is inv.sorted_a;
      sorted_b = inv.sorted_b;
      whole = taken c.loop-i.product c.push-in_default.new.self c.index-a-i.result (monomial_product (map symbol_of (drop i a)) (map symbol_of (drop j b))) (monomial_product (map symbol_of (drop (i + 1) a)) (map symbol_of (drop j b)))
          (monomial_product (map symbol_of a) (map symbol_of b)) (c.in_ok-push-in_default.ensures.ok ∙ ap (λ (x : Symbol). c.loop-i.product ++ x ∷ []) c.in_ok-copy_symbol-in_default.ensures.copy)
          (first_step a b i j c.index-a-i.result c.index-b-j.result c.loop-i-test.true c.if-j-b.true c.index-a-i.is c.index-b-j.is inv.sorted_a inv.sorted_b (λ e. c.in_default.not-Greater (c.symbol_order.ensures ∙ e))) inv.whole;
    }

pub returns-clause-value : goal.returns-clause-value
returns-clause-value c =
    let a = c.args.a.now in
    let b = c.args.b.now in
    let i = c.loop-i.i in
    let j = c.loop-i.j in
    let test : i < length a → j < length b → ⊥ = elim c.loop-i-test.branch [
      | then-loop-i-test+else-j-b w ↦ λ h k. omega (arith, w.if-j-b.false, k)
      | else-loop-i-test w ↦ λ h k. omega (arith, w.loop-i-test.false, h)
    ] in
    product_ends a b c.loop-i.product c.append.new.self c.append-2.new.self i j (monomial_product (map symbol_of a) (map symbol_of b)) c.loop-i.invariant.sorted_a test
    (c.in_ok-append.ensures ∙ ap (λ (x : List Symbol). c.loop-i.product ++ x) (c.in_ok-copy_symbols.ensures.copy ∙ back_slice a i))
    (c.in_ok-append-2.ensures ∙ ap (λ (x : List Symbol). c.append.new.self ++ x) (c.in_ok-copy_symbols-2.ensures.copy ∙ back_slice b j)) c.loop-i.invariant.whole
