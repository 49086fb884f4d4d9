-- The orders of symbols and of monomials are total, and equal in them is equal.
use Rattle.std.proofs.Common.{◌≡◌, ℕ, zero, suc, ◌<◌, ◌≤◌, List, [], ◌∷◌, length, get_or, map, drop, arith, refl, sym, ap, ◌∙◌, Ordering, Less, Equal, Greater, nat_cmp}
use Rattle.std.specs.Ordering.{ordering_reverse}
use Rattle.std.specs.Cmp.{IsTotalOrder}
use Rattle.std.specs.List.{AllByRecursion}
use Rattle.std.specs.Cmp.Lexicographic.{slice_cmp}
use Rattle.std.proofs.lemmas.Cmp.{on_total, then_total, lists_total, nat_cmp_total, nat_list_cmp_total}
use Rattle.std.proofs.lemmas.Map.Lookups.{exact_unsigned, exact_bytes}
use Rattle.plain_trees.specs.Plain.{Plain, edge_count_of}
use Rattle.plain_trees.proofs.OrderLaws.{tree_order_total, tree_exact, both_equal}
use Rattle.symbol_polys.specs.Code.{symbol_by, from_parts-parts}
use Rattle.symbol_polys.specs.Polynomials.{PlainTerm, term_order}
use Rattle.symbol_polys.specs.Symbols.{PlainSymbol, rank, number_in, multiindex_in, tree_in, symbol_order, monomial_order, HasBoundedTree}
use Rattle.symbol_polys.specs.View.{symbol_of}
use Rattle.symbol_polys.specs.declared.symbols.Symbol.{Symbol}

pub symbol_order_total : IsTotalOrder symbol_order
symbol_order_total =
    then_total (on_total rank nat_cmp_total)
    (then_total (on_total number_in nat_cmp_total) (then_total (on_total multiindex_in nat_list_cmp_total) (on_total tree_in tree_order_total)))

pub monomial_order_total : IsTotalOrder monomial_order
monomial_order_total = then_total (on_total length nat_cmp_total) (lists_total symbol_order_total)

pub term_order_total : IsTotalOrder term_order
term_order_total = on_total (λ (t : PlainTerm). t.symbols) monomial_order_total

same_parts : {i j k l : ℕ} {m n : List ℕ} {s t : Plain} → i ≡ j → k ≡ l → m ≡ n → s ≡ t → symbol_by i k m s ≡ symbol_by j l n t
same_parts a b c d = cc

pub symbol_order_exact : (s t : PlainSymbol) → symbol_order s t ≡ Equal → s ≡ t
symbol_order_exact s t h =
    let ranks = both_equal _ _ h in
    let numbers = both_equal _ _ ranks.1 in
    let multis = both_equal _ _ numbers.1 in
    sym (from_parts-parts s)
    ∙ same_parts (exact_unsigned (rank s) (rank t) ranks.0) (exact_unsigned (number_in s) (number_in t) numbers.0)
    (exact_bytes (multiindex_in s) (multiindex_in t) multis.0) (tree_exact (tree_in s) (tree_in t) multis.1)
    ∙ from_parts-parts t

symbols_exact : (m n : List PlainSymbol) → slice_cmp symbol_order m n ≡ Equal → m ≡ n
symbols_exact [] [] h = refl
symbols_exact [] (t ∷ n) h = absurd cc
symbols_exact (s ∷ m) [] h = absurd cc
symbols_exact (s ∷ m) (t ∷ n) h =
    let both = both_equal (symbol_order s t) (slice_cmp symbol_order m n) h in
    ap (λ (x : PlainSymbol). x ∷ m) (symbol_order_exact s t both.0) ∙ ap (λ (xs : List PlainSymbol). t ∷ xs) (symbols_exact m n both.1)

pub monomial_order_exact : (m n : List PlainSymbol) → monomial_order m n ≡ Equal → m ≡ n
monomial_order_exact m n h = symbols_exact m n (both_equal (nat_cmp (length m) (length n)) (slice_cmp symbol_order m n) h).1

own_equal : (a : Ordering) → a ≡ ordering_reverse a → a ≡ Equal
own_equal Less h = absurd cc
own_equal Equal h = refl
own_equal Greater h = absurd cc

pub symbol_order_self : (s : PlainSymbol) → symbol_order s s ≡ Equal
symbol_order_self s = own_equal (symbol_order s s) (symbol_order_total.antisymm s s)

pub monomial_order_self : (m : List PlainSymbol) → monomial_order m m ≡ Equal
monomial_order_self m = own_equal (monomial_order m m) (monomial_order_total.antisymm m m)

-- the trees at each place of a monomial are within the bounds
pub bounded_at : (m : List Symbol) (i : ℕ) (s : Symbol) → i < length m → s ≡ get_or m i s →
    AllByRecursion HasBoundedTree (map symbol_of m) → HasBoundedTree (symbol_of s)
bounded_at [] i s h e a = absurd (omega arith)
bounded_at (t ∷ m) zero s h e a = rw e a.0
bounded_at (t ∷ m) (suc i) s h e a = bounded_at m i s (omega arith) e a.1

pub small_at : (m : List Symbol) (i : ℕ) (s : Symbol) → i < length m → s ≡ get_or m i s →
    AllByRecursion HasBoundedTree (map symbol_of m) → edge_count_of (tree_in (symbol_of s)) ≤ 24
small_at m i s h e a = (bounded_at m i s h e a).1.edges

pub bounded_behind : (m : List Symbol) (i : ℕ) → AllByRecursion HasBoundedTree (map symbol_of m) → AllByRecursion HasBoundedTree (map symbol_of (drop i m))
bounded_behind m zero a = a
bounded_behind [] (suc i) a = tt
bounded_behind (t ∷ m) (suc i) a = bounded_behind m i a.1
