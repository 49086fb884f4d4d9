-- What writes a tree is grammatical, has known names, and stands for the tree.
use Rattle.std.proofs.Common.{◌≡◌, ℕ, zero, suc, ◌<◌, ◌≤◌, Bool, true, false, List, [], ◌∷◌, length, take, drop, map, sum, decimal, Option, Some, None, refl, sym, ap, ◌∙◌, arith, length-take, subst, inl, inr, get_or}
use Rattle.std.proofs.lemmas.Bool.{and_parts}
use Rattle.std.proofs.lemmas.Bool.Decides.{nat_tests}
use Rattle.std.proofs.lemmas.List.{length-map}
use Rattle.std.proofs.lemmas.Option.{slice_get_cases}
use Rattle.std.specs.Prelude.{◌==◌, ◌⊎◌, slice_get, is_some, unwrap_or}
use Rattle.std.specs.List.{AllByRecursion}
use Rattle.degree_numbers.specs.Multi.{is_zero}
use Rattle.degree_numbers.specs.Name.{is_name}
use Rattle.degree_numbers.specs.Types.{AreTypes, name_of, kind_of}
use Rattle.degree_numbers.specs.declared.types.Types.{Types}
use Rattle.degree_numbers.specs.declared.types.TypeEntry.{TypeEntry}
use Rattle.degree_numbers.specs.declared.types.Kind.{Kind}
use Rattle.degree_numbers.specs.declared.types.Kind.TheVariants.{Noise, Kernel}
use Rattle.tree_grammar.specs.Grammar.{IsNumber, IsMulti, IsGrammatical, number_named, kind_named, may_end, may_open}
use Rattle.tree_grammar.specs.Words.{values, multi_of, AreKnown}
use Rattle.tree_grammar.proofs.Entries.{decimal_number, decimal_value}
use Rattle.tree_grammar.proofs.Numbers.{number_found}
use Rattle.plain_trees.specs.Plain.{Plain, bare, graft, decoration_sum_of}
use Rattle.plain_trees.specs.Degree.{empty_tree, is_kernel, is_kernel_kind, IsMultiIndex, IsEdge, HasTypes}
use Rattle.plain_trees.specs.Building.{type_of, plain_of}
use Rattle.plain_trees.proofs.ReadTrees.{sum_cons, kind_at}
use Rattle.plain_trees.proofs.WrittenTrees.{written, written_multi}

-- no entry is above the sum
entries_within : (m : List ℕ) (most : ℕ) → sum m ≤ most → AllByRecursion (λ x. x ≤ most) m
entries_within [] most h = tt
entries_within (x ∷ m) most h = let all = sum_cons x m in (omega (arith, all), entries_within m most (omega (arith, all)))

numbers_of : (d : ℕ) (m : List ℕ) → AllByRecursion (λ x. x ≤ 4096) m → AllByRecursion IsNumber (map decimal (take d m))
numbers_of zero m h = tt
numbers_of (suc d) [] h = tt
numbers_of (suc d) (x ∷ m) h = (decimal_number x (omega (arith, h.0)), numbers_of d m h.1)

zeros_back : (k : ℕ) (m : List ℕ) → length m ≡ k → AllByRecursion (λ x. x ≡ 0) m → values k [] ≡ m
zeros_back zero [] l h = refl
zeros_back zero (x ∷ m) l h = absurd (omega (arith, l))
zeros_back (suc k) [] l h = absurd (omega (arith, l))
zeros_back (suc k) (x ∷ m) l h = rw (h.0, zeros_back k m (omega (arith, l)) h.1) refl

values_back : (k d : ℕ) (m : List ℕ) → length m ≡ k → AllByRecursion (λ x. x ≤ 4096) m →
    AllByRecursion (λ x. x ≡ 0) (drop d m) → values k (map decimal (take d m)) ≡ m
values_back k zero m l h r = zeros_back k m l r
values_back zero (suc d) [] l h r = refl
values_back zero (suc d) (x ∷ m) l h r = absurd (omega (arith, l))
values_back (suc k) (suc d) [] l h r = absurd (omega (arith, l))
values_back (suc k) (suc d) (x ∷ m) l h r = rw (decimal_value x (omega (arith, h.0)), values_back k d m (omega (arith, l)) h.1 r) refl

all_zero : (m : List ℕ) → is_zero m ≡ true → AllByRecursion (λ x. x ≡ 0) m
all_zero [] h = tt
all_zero (x ∷ m) h = let t = and_parts (x == 0) (is_zero m) h in (grind (arith, nat_tests), all_zero m t.1)

-- what holds of the mapped elements holds at each number
all_at : (P : List ℕ → Type 0) (es : List TypeEntry) (k : ℕ) (e : TypeEntry) → AllByRecursion P (map (λ f. f.name) es) → slice_get es k ≡ Some e → P e.name
all_at P [] k e h g = absurd cc
all_at P (x ∷ es) zero e h g = let w : x ≡ e = cc in subst (λ (f : TypeEntry). P f.name) w h.0
all_at P (x ∷ es) (suc k) e h g = all_at P es k e h.1 g

end_kind : (o : Option Kind) → is_kernel_kind o ≡ false → may_end o ≡ true
end_kind None h = refl
end_kind (Some Noise) h = refl
end_kind (Some Kernel) h = absurd cc

open_kind : (o : Option Kind) → is_kernel_kind o ≡ true → may_open o ≡ true
open_kind None h = refl
open_kind (Some Noise) h = absurd cc
open_kind (Some Kernel) h = refl

noise_kind : (k : Kind) → is_kernel_kind (Some k) ≡ false → k ≡ Noise
noise_kind Noise h = refl
noise_kind Kernel h = absurd cc

module _ (ty : Types) (types : AreTypes ty) where
  entry_in : (k : ℕ) →
      ((x : TypeEntry) × (k < length ty.list) × (slice_get ty.list k ≡ Some x) × (get_or ty.list k x ≡ x)) ⊎ ((length ty.list ≤ k) × (slice_get ty.list k ≡ None)) →
      k < length ty.list → (e : TypeEntry) × (slice_get ty.list k ≡ Some e)
  entry_in k (inl c) h = (c.0, c.2)
  entry_in k (inr c) h = absurd (omega (arith, c.0))

  entry_at : (k : ℕ) → k < length ty.list → (e : TypeEntry) × (slice_get ty.list k ≡ Some e)
  entry_at k h = entry_in k (slice_get_cases ty.list k).1 h

  name_at : (k : ℕ) (e : TypeEntry) → slice_get ty.list k ≡ Some e → name_of ty k ≡ e.name
  name_at k e g = rw g refl

  number_of_name : (k : ℕ) → k < length ty.list → number_named ty (name_of ty k) ≡ Some k
  number_of_name k h = let e = entry_at k h in rw (name_at k e.0 e.1) (number_found ty k e.0 types.names.different e.1)

  name_is : (k : ℕ) → k < length ty.list → is_name (name_of ty k) ≡ true
  name_is k h = let e = entry_at k h in rw (name_at k e.0 e.1) (all_at (λ n. is_name n ≡ true) ty.list k e.0 types.names.are_names e.1)

  multi_at : (m : List ℕ) (b : Bool) → is_zero m ≡ b → IsMultiIndex ty.dims m → sum m ≤ 4096 → IsMulti ty.dims (written_multi ty m)
  multi_at m true e h s = rw e tt
  multi_at m false e h s =
      let five = types.scaling.most in
      let long : length (map decimal (take ty.dims m)) ≡ ty.dims = omega (arith, length-map (take ty.dims m) decimal, length-take ty.dims m, h.entries) in
      rw e (long, numbers_of ty.dims m (entries_within m 4096 s))

  multi_is : (m : List ℕ) → IsMultiIndex ty.dims m → sum m ≤ 4096 → IsMulti ty.dims (written_multi ty m)
  multi_is m h s = multi_at m (is_zero m) refl h s

  back_at : (m : List ℕ) (b : Bool) → is_zero m ≡ b → IsMultiIndex ty.dims m → sum m ≤ 4096 → multi_of (written_multi ty m) ≡ m
  back_at m true e h s = rw e (zeros_back 5 m h.entries (all_zero m e))
  back_at m false e h s = rw e (values_back 5 ty.dims m h.entries (entries_within m 4096 s) h.rest)

  multi_back : (m : List ℕ) → IsMultiIndex ty.dims m → sum m ≤ 4096 → multi_of (written_multi ty m) ≡ m
  multi_back m h s = back_at m (is_zero m) refl h s

  pub record Keeps (t : Plain) : Type 0 where
    pub grammatical : IsGrammatical ty (written ty t)
    pub known : AreKnown ty (written ty t)
    pub back : plain_of ty (written ty t) ≡ t

  kind_back : (k : ℕ) → k < length ty.list → kind_named ty (name_of ty k) ≡ kind_of ty k
  kind_back k h = kind_at ty (name_of ty k) k (number_of_name k h)

  found : (k : ℕ) → k < length ty.list → is_some (number_named ty (name_of ty k)) ≡ true
  found k h = ap is_some (number_of_name k h)

  type_back : (k : ℕ) → k < length ty.list → type_of ty (name_of ty k) ≡ k
  type_back k h = ap (λ (o : Option ℕ). unwrap_or o 0) (number_of_name k h)

  noise_at : (k : ℕ) (c : Plain) → k < length ty.list → is_kernel ty k ≡ false → (kind_of ty k ≡ Some Noise → c ≡ empty_tree) → empty_tree ≡ c
  noise_at k c h e noise =
      let f = entry_at k h in
      let kind : kind_of ty k ≡ Some (f.0).kind = rw f.1 refl in
      let is : (f.0).kind ≡ Noise = noise_kind (f.0).kind (sym (ap is_kernel_kind kind) ∙ e) in
      sym (noise (kind ∙ ap (λ (x : Kind). Some x) is))

  keeps_at : (k : ℕ) (p : List ℕ) (c t : Plain) (b : Bool) → is_kernel ty k ≡ b → IsEdge ty k p c → sum p ≤ 4096 → Keeps c → Keeps t → Keeps (graft k p c t)
  keeps_at k p c t true e h s kc kt =
      let open_it = ap may_open (kind_back k h.known) ∙ open_kind (kind_of ty k) e in
      record {
        grammatical = rw e (name_is k h.known, multi_is p h.decoration s, open_it, kc.grammatical, kt.grammatical);
        known = rw e (found k h.known, kc.known, kt.known);
        back = rw e (rw (type_back k h.known, multi_back p h.decoration s, kc.back, kt.back) refl);
      }
  keeps_at k p c t false e h s kc kt =
      let end_it = ap may_end (kind_back k h.known) ∙ end_kind (kind_of ty k) e in
      record {
        grammatical = rw e (name_is k h.known, multi_is p h.decoration s, end_it, kt.grammatical);
        known = rw e (found k h.known, kt.known);
        back = rw e (rw (type_back k h.known, multi_back p h.decoration s, kt.back) (ap (λ (x : Plain). graft k p x t) (noise_at k c h.known e h.noise)));
      }

  pub keeps : (t : Plain) → HasTypes ty t → decoration_sum_of t ≤ 4096 → Keeps t
  keeps (bare n) h s = record { grammatical = multi_is n h s; known = tt; back = ap bare (multi_back n h s) }
  keeps (graft k p c t) h s = keeps_at k p c t (is_kernel ty k) refl h.0 (omega arith) (keeps c h.1 (omega arith)) (keeps t h.2 (omega arith))
