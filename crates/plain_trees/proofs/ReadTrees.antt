-- The tree that a written tree stands for.
use Rattle.std.proofs.Common.{◌≡◌, ℕ, zero, suc, ◌+◌, ◌≤◌, true, false, List, [], ◌∷◌, length, drop, sum, Option, Some, None, refl, sym, ◌∙◌, arith}
use Rattle.std.proofs.lemmas.List.Sums.{sum_by_from}
use Rattle.std.specs.Prelude.{is_some, unwrap_or}
use Rattle.std.specs.List.{AllByRecursion}
use Rattle.degree_numbers.specs.Types.{kind_of}
use Rattle.degree_numbers.specs.declared.types.Types.{Types}
use Rattle.degree_numbers.specs.declared.types.Kind.{Kind}
use Rattle.degree_numbers.specs.declared.types.Kind.TheVariants.{Noise}
use Rattle.tree_grammar.specs.Grammar.{Written, root, leaf, planted, IsMulti, IsGrammatical, number_named, kind_named, may_open}
use Rattle.tree_grammar.specs.Words.{entry_value, entries_sum, multi_sum, values, multi_of, edges_of, decorations_of, AreKnown}
use Rattle.tree_grammar.proofs.Numbers.{named_within}
use Rattle.plain_trees.specs.Plain.{Plain, edge_count_of, decoration_sum_of}
use Rattle.plain_trees.specs.Degree.{empty_tree, IsMultiIndex, HasTypes}
use Rattle.plain_trees.specs.Building.{type_of, plain_of}

pub sum_cons : (x : ℕ) (xs : List ℕ) → sum (x ∷ xs) ≡ x + sum xs
sum_cons x xs = let all : sum (x ∷ xs) ≡ 0 + x + sum xs = sum_by_from (λ y. y) (0 + x) xs in omega (arith, all)

sum_values : (k : ℕ) (es : List (List ℕ)) → length es ≤ k → sum (values k es) ≡ entries_sum entry_value es
sum_values zero [] l = refl
sum_values zero (e ∷ es) l = absurd (omega arith)
sum_values (suc k) [] l = let one = sum_values k [] (omega arith) in let two = sum_cons 0 (values k []) in omega (arith, one, two)
sum_values (suc k) (e ∷ es) l =
    let one = sum_values k es (omega arith) in
    let two = sum_cons (entry_value e) (values k es) in
    omega (arith, one, two)

length_values : (k : ℕ) (es : List (List ℕ)) → length (values k es) ≡ k
length_values zero es = refl
length_values (suc k) [] = let one = length_values k [] in omega (arith, one)
length_values (suc k) (e ∷ es) = let one = length_values k es in omega (arith, one)

rest_values : (k d : ℕ) (es : List (List ℕ)) → length es ≤ d → AllByRecursion (λ x. x ≡ 0) (drop d (values k es))
rest_values zero zero es l = tt
rest_values zero (suc d) es l = tt
rest_values (suc k) zero [] l = (refl, rest_values k zero [] l)
rest_values (suc k) zero (e ∷ es) l = absurd (omega arith)
rest_values (suc k) (suc d) [] l = rest_values k d [] (omega arith)
rest_values (suc k) (suc d) (e ∷ es) l = rest_values k d es (omega arith)

pub edges_plain : (ty : Types) (t : Written) → edges_of t ≡ edge_count_of (plain_of ty t)
edges_plain ty (root x) = refl
edges_plain ty (leaf n p t) = let one = edges_plain ty t in omega (arith, one)
edges_plain ty (planted n p c t) = let one = edges_plain ty c in let two = edges_plain ty t in omega (arith, one, two)

pub kind_at : (ty : Types) (n : List ℕ) (k : ℕ) → number_named ty n ≡ Some k → kind_named ty n ≡ kind_of ty k
kind_at ty n k h = rw h refl

pub known_number : (o : Option ℕ) → is_some o ≡ true → o ≡ Some (unwrap_or o 0)
known_number None h = absurd cc
known_number (Some k) h = refl

no_noise : (o : Option Kind) (c : Plain) → may_open o ≡ true → o ≡ Some Noise → c ≡ empty_tree
no_noise o c h e = let w : false ≡ true = rw e at h in absurd cc

module _ (ty : Types) (five_dims : ty.dims ≤ 5) where
  multi_total : (x : Option (List (List ℕ))) → IsMulti ty.dims x → sum (multi_of x) ≡ multi_sum entry_value x
  multi_total None h = refl
  multi_total (Some es) h = sum_values 5 es (omega (arith, h.0, five_dims))

  pub decorations_plain : (t : Written) → IsGrammatical ty t → decorations_of t ≡ decoration_sum_of (plain_of ty t)
  decorations_plain (root x) h = sym (multi_total x h)
  decorations_plain (leaf n p t) h =
      let one = multi_total p h.1 in
      let two = decorations_plain t h.3 in
      omega (arith, one, two)
  decorations_plain (planted n p c t) h =
      let one = multi_total p h.1 in
      let two = decorations_plain c h.3 in
      let three = decorations_plain t h.4 in
      omega (arith, one, two, three)

  index_of : (x : Option (List (List ℕ))) → IsMulti ty.dims x → IsMultiIndex ty.dims (multi_of x)
  index_of None h = record { entries = refl; rest = rest_values 5 ty.dims [] (omega arith) }
  index_of (Some es) h = record { entries = length_values 5 es; rest = rest_values 5 ty.dims es (omega (arith, h.0)) }

  empty_index : IsMultiIndex ty.dims (values 5 [])
  empty_index = record { entries = refl; rest = rest_values 5 ty.dims [] (omega arith) }

  pub types_plain : (t : Written) → IsGrammatical ty t → AreKnown ty t → HasTypes ty (plain_of ty t)
  types_plain (root x) h k = index_of x h
  types_plain (leaf n p t) h k =
      let found = known_number (number_named ty n) k.0 in
      (record { known = named_within ty n (type_of ty n) found; decoration = index_of p h.1; noise = λ e. refl }, empty_index, types_plain t h.3 k.1)
  types_plain (planted n p c t) h k =
      let found = known_number (number_named ty n) k.0 in (
        record {
          known = named_within ty n (type_of ty n) found;
          decoration = index_of p h.1;
          noise = λ e. no_noise (kind_named ty n) (plain_of ty c) h.2 (kind_at ty n (type_of ty n) found ∙ e);
        },
        types_plain c h.3 k.1,
        types_plain t h.4 k.2,
      )
