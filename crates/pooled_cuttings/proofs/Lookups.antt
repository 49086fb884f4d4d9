-- What was made of two numbers, in a map.
use Rattle.std.proofs.Common.{◌≡◌, ℕ, Bool, true, false, cond, List, [], ◌∷◌, ◌++◌, ◌<◌, arith, length, Option, Some, None, refl, sym, ap, ◌∙◌, subst, inl, inr, MatchOption}
use Rattle.std.specs.Bool.{Decides}
use Rattle.std.specs.Map.{lookup}
use Rattle.std.proofs.lemmas.Bool.Decides.{Decides-eqb, Decides-and, Decides-like}
use Rattle.std.proofs.lemmas.List.{map-append}
use Rattle.ordered_lists.specs.Members.{IsIn}
use Rattle.plain_trees.specs.Plain.{Plain, graft}
use Rattle.plain_trees.specs.Canon.{canon}
use Rattle.tree_pool.specs.Content.{Holds, tree_at}
use Rattle.plain_trees.specs.Coproducts.{canon_forest}
use Rattle.pooled_cuttings.specs.contracts.made_once.PairPartialEq.TheImpl.{eq-value}
use Rattle.pooled_cuttings.specs.declared.made_once.Pair.{Pair}
use Rattle.pooled_cuttings.specs.Groves.{GroveContent, IsGrove, IsGrownGrove, forest_in}
use Rattle.pooled_cuttings.specs.MadeOnce.{made_of, pairs_in}
use Rattle.pooled_cuttings.specs.MadeOver.{IsGraft, AreGrafts, IsUnion, AreUnions}
use Rattle.pooled_cuttings.specs.Products.{HoldsForest}
use Rattle.pooled_cuttings.proofs.Groves.{holds_grown, holds_forest_grown, forest_grown, more_trees, more_forests}
use Rattle.pooled_cuttings.proofs.MadeKeys.{graft_grown}
use Rattle.pooled_cuttings.proofs.Rows.{all_append}

abbrev pair : ℕ → ℕ → ℕ × ℕ
pair a b = (a, b)

abbrev entry : ℕ × ℕ → ℕ → (ℕ × ℕ) × ℕ
entry i n = (i, n)

abbrev pub key : ℕ → ℕ → Pair
key a b = record { first = a; second = b }

pub Pair-Decides : (a b : ℕ) (k : Pair) → Decides (eq-value.it (key a b) k) (pair a b ≡ pair k.first k.second)
Pair-Decides a b k =
    Decides-like _
    (λ (h : (a ≡ k.first) × (b ≡ k.second)). ap (λ (n : ℕ). pair n b) h.0 ∙ ap (pair k.first) h.1)
    (λ (h : pair a b ≡ pair k.first k.second). (ap (λ (x : ℕ × ℕ). x.0) h, ap (λ (x : ℕ × ℕ). x.1) h))
    (Decides-and _ _ (Decides-eqb a k.first) (Decides-eqb b k.second))

module _ (test : Pair → Bool) (i : ℕ × ℕ) (decides : (k : Pair) → Decides (test k) (i ≡ pair k.first k.second)) where
  found_in : (es : List (Pair × ℕ)) (v : ℕ) → lookup test es ≡ Some v → IsIn (entry i v) (made_of es)
  found_in [] v e = absurd cc
  found_in (x ∷ xs) v e =
      (elim (test x.0) as (λ b. test x.0 ≡ b → cond b (Some x.1) (lookup test xs) ≡ Some v → IsIn (entry i v) (made_of (x ∷ xs))) [
        | true ↦ λ t h.
            let same : x.1 ≡ v = cc in
            inl (ap (λ (n : ℕ × ℕ). entry n x.1) (sym ((decides x.0).0 t)) ∙ ap (entry i) same)
        | false ↦ λ t h. inr (found_in xs v h)
      ]) refl e

  missing_in : (es : List (Pair × ℕ)) → lookup test es ≡ None → IsIn i (pairs_in (made_of es)) → ⊥
  missing_in [] e h = h
  missing_in (x ∷ xs) e h =
      (elim (test x.0) as (λ b. test x.0 ≡ b → cond b (Some x.1) (lookup test xs) ≡ None → ⊥) [
        | true ↦ λ t n. absurd cc
        | false ↦ λ t n. elim h [
          | inl here ↦ let passes = (decides x.0).1 (sym here) in absurd cc
          | inr there ↦ missing_in xs n there
        ]
      ]) refl e

  pub lookup-missing : (es : List (Pair × ℕ)) → (IsIn i (pairs_in (made_of es)) → ⊥) → lookup test es ≡ None
  lookup-missing [] h = refl
  lookup-missing (x ∷ xs) h =
      (elim (test x.0) as (λ b. test x.0 ≡ b → cond b (Some x.1) (lookup test xs) ≡ None) [
        | true ↦ λ t. absurd (h (inl (sym ((decides x.0).0 t))))
        | false ↦ λ t. lookup-missing xs (λ there. h (inr there))
      ]) refl

  pub looked_up : (es : List (Pair × ℕ)) (r : Option ℕ) → r ≡ lookup test es →
      MatchOption r (IsIn i (pairs_in (made_of es)) → ⊥) (λ n. IsIn (entry i n) (made_of es))
  looked_up es None e = missing_in es (sym e)
  looked_up es (Some v) e = found_in es v (sym e)

pub made_of-push : (es : List (Pair × ℕ)) (k : Pair) (v : ℕ) → made_of (es ++ (k, v) ∷ []) ≡ made_of es ++ ((k.first, k.second), v) ∷ []
made_of-push es k v = map-append (λ (e : Pair × ℕ). ((e.0.first, e.0.second), e.1)) es ((k, v) ∷ [])

-- what was made stays what it is
union_in : (g h : GroveContent) (m i j : ℕ) → IsGrove g → IsGrownGrove g h → i < length g.forests → j < length g.forests →
    HoldsForest h m (canon_forest (forest_in g i ++ forest_in g j)) → HoldsForest h m (canon_forest (forest_in h i ++ forest_in h j))
union_in g h m i j is a p q held =
    record {
      known = held.known;
      trees =
          held.trees ∙ ap (λ (fs : List Plain). canon_forest (fs ++ forest_in g j)) (sym (forest_grown g h i is a p))
          ∙ ap (λ (fs : List Plain). canon_forest (forest_in h i ++ fs)) (sym (forest_grown g h j is a q));
    }

pub grafts_grown : (g h : GroveContent) (k : ℕ) (p : List ℕ) (ms : List ((ℕ × ℕ) × ℕ)) → IsGrownGrove g h → AreGrafts g.pool k p ms → AreGrafts h.pool k p ms
grafts_grown g h k p [] a is = tt
grafts_grown g h k p (m ∷ ms) a is =
    let n = more_trees g h a in
    let first = is.0.child in
    let second = is.0.rest in (
      record {
        child = omega (arith, n, first);
        rest = omega (arith, n, second);
        tree =
            subst (λ (t : Plain). Holds h.pool m.1 (canon t)) (sym (graft_grown g h k p m.0.0 m.0.1 a is.0.child is.0.rest))
            (holds_grown g h m.1 (canon (graft k p (tree_at g.pool m.0.0) (tree_at g.pool m.0.1))) a is.0.tree);
      },
      grafts_grown g h k p ms a is.1,
    )

pub unions_grown : (g h : GroveContent) (ms : List ((ℕ × ℕ) × ℕ)) → IsGrove g → IsGrownGrove g h → AreUnions g ms → AreUnions h ms
unions_grown g h [] is a us = tt
unions_grown g h (m ∷ ms) is a us =
    let n = more_forests g h a in
    let first = us.0.first in
    let second = us.0.second in (
      record {
        first = omega (arith, n, first);
        second = omega (arith, n, second);
        forest = union_in g h m.1 m.0.0 m.0.1 is a us.0.first us.0.second (holds_forest_grown g h m.1 _ is a us.0.forest);
      },
      unions_grown g h ms is a us.1,
    )

pub grafts_with : (g h : GroveContent) (k : ℕ) (p : List ℕ) (ms new : List ((ℕ × ℕ) × ℕ)) (child rest id : ℕ) → IsGrownGrove g h → AreGrafts g.pool k p ms →
    child < length g.pool.trees → rest < length g.pool.trees → Holds h.pool id (canon (graft k p (tree_at g.pool child) (tree_at g.pool rest))) →
    new ≡ ms ++ ((child, rest), id) ∷ [] → AreGrafts h.pool k p new
grafts_with g h k p ms new child rest id a is first second there e =
    let n = more_trees g h a in
    let last : IsGraft h.pool k p ((child, rest), id) = record {
      child = omega (arith, n, first);
      rest = omega (arith, n, second);
      tree = subst (λ (t : Plain). Holds h.pool id (canon t)) (sym (graft_grown g h k p child rest a first second)) there;
    } in
    subst (AreGrafts h.pool k p) (sym e) (all_append (IsGraft h.pool k p) ms (((child, rest), id) ∷ []) (grafts_grown g h k p ms a is) (last, tt))

pub unions_with : (g h : GroveContent) (ms new : List ((ℕ × ℕ) × ℕ)) (i j m : ℕ) → IsGrove g → IsGrownGrove g h → AreUnions g ms → i < length g.forests →
    j < length g.forests → HoldsForest h m (canon_forest (forest_in g i ++ forest_in g j)) → new ≡ ms ++ ((i, j), m) ∷ [] → AreUnions h new
unions_with g h ms new i j m is a us first second there e =
    let n = more_forests g h a in
    let last : IsUnion h ((i, j), m) = record {
      first = omega (arith, n, first);
      second = omega (arith, n, second);
      forest = union_in g h m i j is a first second there;
    } in
    subst (AreUnions h) (sym e) (all_append (IsUnion h) ms (((i, j), m) ∷ []) (unions_grown g h ms is a us) (last, tt))
