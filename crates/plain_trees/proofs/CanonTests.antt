-- Steps of the test of canonical trees.
use Rattle.std.proofs.Common.{◌≡◌, ℕ, zero, suc, ◌+◌, ◌<◌, ◌≤◌, List, [], ◌∷◌, map, drop, length, get_or, refl, ap, arith}
use Rattle.std.proofs.lemmas.Grind.{common_steps}
use Rattle.plain_trees.specs.declared.tree.Edge.{Edge, out-Edge, fold_out-Edge}
use Rattle.plain_trees.specs.Plain.{Plain, edge_count_of}
use Rattle.plain_trees.specs.View.{Labelled, labelled_at, plain_at, plain, labelled, grafted}
use Rattle.plain_trees.specs.Canon.{Planted, planted_of, IsAtMostFirst, IsAtMostNext, IsCanonical}

at_most-root : (n m : List ℕ) (e : Planted) (es : List Labelled) → IsAtMostFirst e (grafted n es) → IsAtMostFirst e (grafted m es)
at_most-root n m e [] h = tt
at_most-root n m e (f ∷ fs) h = h

pub count-root : (n m : List ℕ) (es : List Labelled) → edge_count_of (grafted n es) ≡ edge_count_of (grafted m es)
count-root n m [] = refl
count-root n m (e ∷ es) = ap (λ i. 1 + edge_count_of e.child + i) (count-root n m es)

pub alone : (xs : List Edge) (i : ℕ) → length xs ≤ i + 1 → IsAtMostNext (map labelled (drop i xs))
alone [] zero h = tt
alone [] (suc i) h = tt
alone (x ∷ []) zero h = tt
alone (x ∷ y ∷ xs) zero h = absurd (omega arith)
alone (x ∷ xs) (suc i) h = alone xs i (omega arith)

pub canonical_parts : (n : List ℕ) (xs : List Edge) (i : ℕ) (x : Edge) → i < length xs →
    x ≡ get_or xs i x → IsCanonical (grafted n (map labelled (drop i xs))) →
    IsCanonical (plain (out-Edge x).child) × IsCanonical (grafted n (map labelled (drop (i + 1) xs))) × IsAtMostNext (map labelled (drop i xs))
canonical_parts n xs i x h at c =
    let first : drop i xs ≡ x ∷ drop (i + 1) xs = grind (arith, common_steps) in
    let e = fold_out-Edge Labelled Plain labelled_at plain_at x in
    let parts = rw (first, e) at c in
    (parts.0, parts.1, rw (first, e) (at_most-root n [] (planted_of (labelled_at record { kind = (out-Edge x).kind; p = (out-Edge x).p; child = plain (out-Edge x).child })) (map labelled (drop (i + 1) xs)) parts.2))

pub canonical_whole : (n : List ℕ) (xs : List Edge) (i : ℕ) (x : Edge) → i < length xs → x ≡ get_or xs i x → IsCanonical (plain (out-Edge x).child) →
    IsAtMostNext (map labelled (drop i xs)) → IsCanonical (grafted n (map labelled (drop (i + 1) xs))) → IsCanonical (grafted n (map labelled (drop i xs)))
canonical_whole n xs i x h at c next rest =
    let first : drop i xs ≡ x ∷ drop (i + 1) xs = grind (arith, common_steps) in
    let e = fold_out-Edge Labelled Plain labelled_at plain_at x in
    let most = rw (first, e) at next in
    rw (first, e) (c, rest, at_most-root [] n (planted_of (labelled_at record { kind = (out-Edge x).kind; p = (out-Edge x).p; child = plain (out-Edge x).child })) (map labelled (drop (i + 1) xs)) most)
