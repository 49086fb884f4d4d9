-- The noise edges of a tree by the edges of its root.
use Rattle.std.proofs.Common.{◌≡◌, ℕ, suc, zero, ◌+◌, ◌<◌, ◌≤◌, ◌==◌, ◌&&◌, ◌||◌, Bool, true, false, cond, ◌%◌, List, [], ◌∷◌, ◌++◌, map, drop, length, get_or, refl, sym, ap, ◌∙◌, arith, length-append, Ordering, nat_cmp}
use Rattle.std.proofs.lemmas.Bool.Decides.{nat_tests}
use Rattle.std.proofs.lemmas.Option.{slice_get-get_or}
use Rattle.degree_numbers.specs.declared.Types.{Types}
use Rattle.degree_numbers.specs.Types.{group_of}
use Rattle.ordered_lists.specs.Subs.{count_of}
use Rattle.plain_trees.specs.Plain.{Plain, bare, graft, edge_count_of}
use Rattle.plain_trees.specs.View.{Labelled, grafted}
use Rattle.tree_pool.specs.Content.{Content, IsPooled, tree_at, Holds, edge_over, tree_over}
use Rattle.tree_pool.specs.declared.EdgeTo.{EdgeTo}
use Rattle.tree_pool.proofs.Walks.{at_holds, tree_cut, count_most}
use Rattle.gaussian_pairings.specs.Vanishing.{is_noise_type, noise_here, noise_groups, noises_in, some_below}

pub count_of-append : {X : Type 0} (c : X → X → Ordering) (n : X) (xs ys : List X) → count_of c n (xs ++ ys) ≡ count_of c n xs + count_of c n ys
count_of-append c n [] ys = omega arith
count_of-append c n (x ∷ xs) ys = omega (arith, count_of-append c n xs ys)

one_noise : (a : Bool) (x g : ℕ) → count_of nat_cmp g (cond a (x ∷ []) []) ≡ cond (a && x == g) 1 0
one_noise true x g = grind (arith, nat_tests)
one_noise false x g = refl

pub noises_graft : (ty : Types) (k : ℕ) (p : List ℕ) (c t : Plain) (g : ℕ) →
    noises_in ty (graft k p c t) g ≡ noise_here ty k g + noises_in ty c g + noises_in ty t g
noises_graft ty k p c t g =
    omega (arith, count_of-append nat_cmp g (cond (is_noise_type ty k) (group_of ty k ∷ []) []) (noise_groups ty c ++ noise_groups ty t), count_of-append nat_cmp g (noise_groups ty c) (noise_groups ty t), one_noise (is_noise_type ty k) (group_of ty k) g)

one_at_most : (b : Bool) → cond b 1 0 ≤ 1
one_at_most true = omega arith
one_at_most false = omega arith

pub noises_most : (ty : Types) (t : Plain) (g : ℕ) → noises_in ty t g ≤ edge_count_of t
noises_most ty (bare n) g = omega arith
noises_most ty (graft k p c t) g = omega (arith, noises_graft ty k p c t g, noises_most ty c g, noises_most ty t g, one_at_most (is_noise_type ty k && group_of ty k == g))

-- noise edges do not hang on the root's decoration
groups_root : (ty : Types) (n m : List ℕ) (es : List Labelled) → noise_groups ty (grafted n es) ≡ noise_groups ty (grafted m es)
groups_root ty n m [] = refl
groups_root ty n m (e ∷ es) = ap (λ (gs : List ℕ). cond (is_noise_type ty e.kind.0) (group_of ty e.kind.0 ∷ []) [] ++ (noise_groups ty e.child ++ gs)) (groups_root ty n m es)

pub groups_whole : (ty : Types) (c : Content) (i : ℕ) (n : List ℕ) (es : List EdgeTo) →
    Holds c i (tree_over c.trees n es) →
    noise_groups ty (tree_over c.trees [] es) ≡ noise_groups ty (tree_at c i)
groups_whole ty c i n es h = groups_root ty [] n (map (edge_over c.trees) es) ∙ sym (ap (noise_groups ty) (at_holds c i (tree_over c.trees n es) h))

pub noises_whole : (ty : Types) (c : Content) (i : ℕ) (n : List ℕ) (es : List EdgeTo) (g : ℕ) →
    Holds c i (tree_over c.trees n es) →
    noises_in ty (tree_over c.trees [] es) g ≡ noises_in ty (tree_at c i) g
noises_whole ty c i n es g h = ap (count_of nat_cmp g) (groups_whole ty c i n es h)

pub noises_cut : (ty : Types) (c : Content) (es : List EdgeTo) (i : ℕ) (d : EdgeTo) (g : ℕ) → i < length es →
    noises_in ty (tree_over c.trees [] (drop i es)) g ≡ noise_here ty (get_or es i d).kind.0 g + noises_in ty (tree_at c (get_or es i d).child.0) g + noises_in ty (tree_over c.trees [] (drop (i + 1) es)) g
noises_cut ty c es i d g lt =
    ap (λ (t : Plain). noises_in ty t g) (tree_cut c [] es i d lt)
    ∙ noises_graft ty (get_or es i d).kind.0 (get_or es i d).p.entries (tree_at c (get_or es i d).child.0) (tree_over c.trees [] (drop (i + 1) es)) g

-- some number below
or_right : (a b : Bool) → b ≡ true → a || b ≡ true
or_right true b h = refl
or_right false b h = h

pub below_found : (n : ℕ) (test : ℕ → Bool) (g : ℕ) → g < n → test g ≡ true → some_below n test ≡ true
below_found zero test g h e = absurd (omega arith)
below_found (suc n) test g h e =
    (elim (g == n) as (λ (b : Bool). g == n ≡ b → some_below n test || test n ≡ true) [
      | true ↦ λ q. let same : g ≡ n = grind (arith, nat_tests) in or_right (some_below n test) (test n) (rw same at e)
      | false ↦ λ q. let lt : g < n = grind (arith, nat_tests) in rw (below_found n test g lt e) refl
    ]) refl

pub noises_within : (ty : Types) (c : Content) (i : ℕ) (t : Plain) (g : ℕ) → Holds c i t → edge_count_of t ≤ 24 → noises_in ty (tree_at c i) g ≤ 24
noises_within ty c i t g h small = omega (arith, noises_most ty (tree_at c i) g, count_most c i t h small)

-- the number of noise edges
one_group : (b : Bool) (g : ℕ) → length (cond b (g ∷ []) []) ≤ 1
one_group true g = omega arith
one_group false g = omega arith

groups_most : (ty : Types) (t : Plain) → length (noise_groups ty t) ≤ edge_count_of t
groups_most ty (bare n) = omega arith
groups_most ty (graft k p c t) =
    omega (arith, length-append (cond (is_noise_type ty k) (group_of ty k ∷ []) []) (noise_groups ty c ++ noise_groups ty t), length-append (noise_groups ty c) (noise_groups ty t), one_group (is_noise_type ty k) (group_of ty k), groups_most ty c, groups_most ty t)

pub groups_within : (ty : Types) (c : Content) (i : ℕ) → IsPooled c → i < length c.trees → length (noise_groups ty (tree_at c i)) ≤ 24
groups_within ty c i pool lt =
    let there = slice_get-get_or c.trees i (bare []) lt in
    omega (arith, groups_most ty (tree_at c i), (pool.kept i (tree_at c i) there).small.edges)
