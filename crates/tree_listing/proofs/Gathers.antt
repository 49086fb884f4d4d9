-- What is found is right, and nothing is missed.
use Rattle.std.proofs.Common.{◌≡◌, ◌≢◌, ℕ, ◌<◌, ◌≤◌, Bool, true, false, not, nat_lt, if◌then◌else◌, List, [], ◌∷◌, Some, None, Option, refl, sym, ap, ◌∙◌, subst, arith, inl, inr}
use Rattle.std.specs.Ordering.{is_lt, ordering_reverse}
use Rattle.std.specs.declared.cmp.Ordering.{Ordering}
use Rattle.std.specs.declared.cmp.Ordering.TheVariants.{Less, Equal, Greater}
use Rattle.std.proofs.lemmas.Cmp.{tied_itself}
use Rattle.std.proofs.lemmas.Bool.Decides.{nat_tests}
use Rattle.degree_numbers.specs.declared.types.Types.{Types}
use Rattle.degree_numbers.specs.Degree.{degree_order, degree_zero}
use Rattle.degree_numbers.proofs.Orders.{degree_order_total, degree_exact}
use Rattle.equations.specs.declared.equation.Equation.{Equation}
use Rattle.ordered_lists.specs.Members.{IsIn}
use Rattle.ordered_lists.proofs.Insertion.{from_insert_key, insert_key_old, insert_key_new, insert_key_sorted}
use Rattle.ordered_lists.proofs.Members.{in_append_left}
use Rattle.plain_trees.specs.Plain.{Plain, edge_count_of, decoration_sum_of, tree_order}
use Rattle.plain_trees.specs.Degree.{degree_of, planted}
use Rattle.plain_trees.proofs.OrderLaws.{tree_order_total}
use Rattle.normal_rule.specs.declared.rule.RuleRow.{RuleRow}
use Rattle.normal_rule.specs.declared.rule.Rule.{Rule}
use Rattle.conforming_trees.specs.Budgets.{IsWhole}
use Rattle.conforming_trees.specs.Listed.{listing_order, IsCandidate, IsListed, IsZero, HasTooManyTrees}
use Rattle.conforming_trees.proofs.Orders.{listing_order_total}
use Rattle.conforming_trees.proofs.Wholes.{whole_is_candidate}
use Rattle.tree_budgets.specs.declared.plan.RulePlan.{RulePlan}
use Rattle.tree_listing.specs.Gathered.{Gathered, is_possible, first_of, with_possible, with_tree, with_trees, IsOverfull, IsBefore, IsSound, Covers, IsMore, IsFoundIn, gathered}
use Rattle.tree_pool.specs.Content.{Content, IsGrown}
use Rattle.tree_listing.specs.declared.found.Found.{Found}
use Rattle.tree_listing.specs.Levels.{AreWholes}
use Rattle.tree_listing.proofs.Keeping.{gathered-grown}
use Rattle.tree_listing.proofs.Places.{listing_exact}
use Rattle.tree_listing.proofs.RootLaws.{from_both, both}

lt_test : (o : Ordering) → is_lt o ≡ true → o ≡ Less
lt_test Less h = refl
lt_test Equal h = absurd cc
lt_test Greater h = absurd cc

not_lt : (o : Ordering) → is_lt o ≡ false → o ≡ Less → ⊥
not_lt Less h e = absurd cc
not_lt Equal h e = absurd cc
not_lt Greater h e = absurd cc

is_unplanted : (b : Bool) → not b ≡ true → b ≡ false
is_unplanted true h = absurd cc
is_unplanted false h = refl

unplanted_test : (b : Bool) → b ≡ false → not b ≡ true
unplanted_test true h = absurd cc
unplanted_test false h = refl

some_edge : (n : ℕ) → nat_lt 0 n ≡ true → 0 < n
some_edge n h = grind (arith, nat_tests)

edge_test : (n : ℕ) → 0 < n → nat_lt 0 n ≡ true
edge_test n h = grind (arith, nat_tests)

not_after_itself : (t : Plain) → tree_order t t ≢ Greater
not_after_itself t h = let e = tied_itself tree_order_total t in absurd cc

first-itself : (z : Option Plain) (t : Plain) → IsBefore (Some (first_of z t)) t
first-itself None t = not_after_itself t
first-itself (Some z) t =
    (elim (is_lt (tree_order t z)) as (λ b. is_lt (tree_order t z) ≡ b → tree_order (if b then t else z) t ≢ Greater) [
      | true ↦ λ e. not_after_itself t
      | false ↦ λ e h. not_lt (tree_order t z) e (tree_order_total.antisymm t z ∙ ap ordering_reverse h)
    ]) refl

first-before : (z : Option Plain) (t u : Plain) → IsBefore z u → IsBefore (Some (first_of z t)) u
first-before None t u h = absurd h
first-before (Some z) t u h =
    (elim (is_lt (tree_order t z)) as (λ b. is_lt (tree_order t z) ≡ b → tree_order (if b then t else z) u ≢ Greater) [
      | true ↦ λ e g.
          let below : tree_order u t ≡ Less = tree_order_total.antisymm u t ∙ ap ordering_reverse g in
          let far : tree_order u z ≡ Less = tree_order_total.trans u t z below (lt_test (tree_order t z) e) in
          h (tree_order_total.antisymm z u ∙ ap ordering_reverse far)
      | false ↦ λ e. h
    ]) refl

module _ (eq : Equation) (rule : Rule) (plan : RulePlan) where
  -- a tree that may be found
  pub record IsAny (t : Plain) : Type 0 where
    pub row : RuleRow
    pub of_rule : IsIn row rule.rows
    pub whole : IsWhole eq rule plan.mosts row t

  possible_candidate : (t : Plain) → IsAny t → is_possible eq.types t ≡ true → IsCandidate eq rule t
  possible_candidate t h p =
      let parts = from_both (nat_lt 0 (edge_count_of t)) (not (planted eq.types t)) p in
      whole_is_candidate eq rule plan.mosts h.row t h.of_rule h.whole (is_unplanted (planted eq.types t) parts.1) (some_edge (edge_count_of t) parts.0)

  candidate_possible : (t : Plain) → IsCandidate eq rule t → is_possible eq.types t ≡ true
  candidate_possible t h = both (nat_lt 0 (edge_count_of t)) (not (planted eq.types t)) (edge_test (edge_count_of t) h.edge) (unplanted_test (planted eq.types t) h.unplanted)

  sound_possible : (g : Gathered) (t : Plain) (o : Ordering) →
      degree_order (degree_of eq.types t) degree_zero ≡ o → IsAny t → IsCandidate eq rule t →
      IsSound eq rule g → IsSound eq rule (with_possible eq.types o g t)
  sound_possible g t Less e h k s =
      let listed : IsListed eq rule t = record { candidate = k; negative = e } in record {
        ascending = insert_key_sorted (listing_order eq.types) (listing_order_total eq.types) g.listed t s.ascending;
        listed = λ u m. elim (from_insert_key (listing_order eq.types) g.listed t u m) [ inl old ↦ s.listed u old | inr new ↦ subst (IsListed eq rule) new listed ];
        fit = λ u m. elim (from_insert_key (listing_order eq.types) g.listed t u m) [ inl old ↦ s.fit u old | inr new ↦ subst (λ x. (edge_count_of x ≤ 24) × (decoration_sum_of x ≤ 64)) new (h.whole.shaped.edges, h.whole.shaped.decorations) ];
        zero = s.zero;
      }
  sound_possible g t Equal e h k s =
      let null : IsZero eq rule t = record { candidate = k; zero = degree_exact (degree_of eq.types t) degree_zero e } in record {
        ascending = s.ascending;
        listed = s.listed;
        fit = s.fit;
        zero = λ z same. subst (IsZero eq rule) (some_same (first_of g.zero t) z same) (first_null g.zero t null s.zero);
      }
    where
      some_same : (x y : Plain) → Some x ≡ Some y → x ≡ y
      some_same x y h = cc

      first_null : (z : Option Plain) (t : Plain) → IsZero eq rule t → ((u : Plain) → z ≡ Some u → IsZero eq rule u) → IsZero eq rule (first_of z t)
      first_null None t h k = h
      first_null (Some z) t h k = elim (is_lt (tree_order t z)) as (λ b. IsZero eq rule (if b then t else z)) [ true ↦ h | false ↦ k z refl ]
  sound_possible g t Greater e h k s = s

  pub sound_with : (g : Gathered) (t : Plain) → IsAny t → IsSound eq rule g → IsSound eq rule (with_tree eq.types g t)
  sound_with g t h s =
      (elim (is_possible eq.types t) as (λ b. is_possible eq.types t ≡ b → IsSound eq rule (if b then with_possible eq.types (degree_order (degree_of eq.types t) degree_zero) g t else g)) [
        | true ↦ λ e. sound_possible g t (degree_order (degree_of eq.types t) degree_zero) refl h (possible_candidate t h e) s
        | false ↦ λ e. s
      ]) refl

  with_is : (g : Gathered) (t : Plain) (o : Ordering) → IsCandidate eq rule t →
      degree_order (degree_of eq.types t) degree_zero ≡ o →
      with_tree eq.types g t ≡ with_possible eq.types o g t
  with_is g t o k e =
      ap (λ b. if b then with_possible eq.types (degree_order (degree_of eq.types t) degree_zero) g t else g) (candidate_possible t k) ∙ ap (λ p. with_possible eq.types p g t) e

  covers_with : (g : Gathered) (t : Plain) → Covers eq rule (with_tree eq.types g t) t
  covers_with g t = record {
    listed = λ l. subst (λ (x : Gathered). IsIn t x.listed) (sym (with_is g t Less l.candidate l.negative)) (insert_key_new (listing_order eq.types) (listing_exact eq.types) g.listed t);
    zero = λ z. subst (λ (x : Gathered). IsBefore x.zero t) (sym (with_is g t Equal z.candidate (ap (λ d. degree_order d degree_zero) z.zero ∙ tied_itself degree_order_total degree_zero))) (first-itself g.zero t);
  }

  more_possible : (g : Gathered) (t u : Plain) (o : Ordering) → Covers eq rule g u → Covers eq rule (with_possible eq.types o g t) u
  more_possible g t u Less h = record { listed = λ l. insert_key_old (listing_order eq.types) g.listed t u (h.listed l); zero = h.zero }
  more_possible g t u Equal h = record { listed = h.listed; zero = λ z. first-before g.zero t u (h.zero z) }
  more_possible g t u Greater h = h

  more_with : (g : Gathered) (t u : Plain) → Covers eq rule g u → Covers eq rule (with_tree eq.types g t) u
  more_with g t u h =
      elim (is_possible eq.types t) as (λ b. Covers eq rule (if b then with_possible eq.types (degree_order (degree_of eq.types t) degree_zero) g t else g) u) [
        | true ↦ more_possible g t u (degree_order (degree_of eq.types t) degree_zero) h
        | false ↦ h
      ]

  pub sound_all : (g : Gathered) (ts : List Plain) → ((t : Plain) → IsIn t ts → IsAny t) → IsSound eq rule g → IsSound eq rule (with_trees eq.types g ts)
  sound_all g [] h s = s
  sound_all g (t ∷ ts) h s = sound_all (with_tree eq.types g t) ts (λ u m. h u (inr m)) (sound_with g t (h t (inl refl)) s)

  pub more_all : (g : Gathered) (ts : List Plain) (u : Plain) → Covers eq rule g u → Covers eq rule (with_trees eq.types g ts) u
  more_all g [] u h = h
  more_all g (t ∷ ts) u h = more_all (with_tree eq.types g t) ts u (more_with g t u h)

  pub covers_all : (g : Gathered) (ts : List Plain) (u : Plain) → IsIn u ts → Covers eq rule (with_trees eq.types g ts) u
  covers_all g [] u m = absurd m
  covers_all g (t ∷ ts) u (inl e) = subst (Covers eq rule (with_trees eq.types (with_tree eq.types g t) ts)) e (more_all (with_tree eq.types g t) ts t (covers_with g t))
  covers_all g (t ∷ ts) u (inr m) = covers_all (with_tree eq.types g t) ts u m

  pub overfull_many : (g : Gathered) (ts : List Plain) → ((t : Plain) → IsIn t ts → IsAny t) →
      IsSound eq rule g → IsOverfull eq.types g ts → HasTooManyTrees eq rule
  overfull_many g ts h s o =
      let sound = sound_all g o.first (λ t m. h t (subst (IsIn t) (sym o.all) (in_append_left t o.first o.rest m))) s in record {
        trees = (with_trees eq.types g o.first).listed;
        ascending = sound.ascending;
        many = o.many;
        listed = sound.listed;
        fit = sound.fit;
      }

  -- what the wholes of a row do, in the terms of the pool before the stems and after the wholes
  pub row_sound : (c d e : Content) (f new : Found) (ts : List Plain) → IsGrown c d →
      IsFoundIn c f → d.types ≡ eq.types → ((t : Plain) → IsIn t ts → IsAny t) →
      IsSound eq rule (gathered c f) → gathered e new ≡ with_trees d.types (gathered d f) ts →
      IsSound eq rule (gathered e new)
  row_sound c d e f new ts g h types any s is = subst (IsSound eq rule) (sym (is ∙ rw (types, gathered-grown c d f g h) refl)) (sound_all (gathered c f) ts any s)

  pub row_covers : (c d e : Content) (f new : Found) (ts : List Plain) (u : Plain) → IsGrown c d →
      IsFoundIn c f → d.types ≡ eq.types → gathered e new ≡ with_trees d.types (gathered d f) ts →
      IsIn u ts → Covers eq rule (gathered e new) u
  row_covers c d e f new ts u g h types is m = subst (λ (x : Gathered). Covers eq rule x u) (sym (is ∙ rw (types, gathered-grown c d f g h) refl)) (covers_all (gathered c f) ts u m)

  pub row_more : (c d e : Content) (f new : Found) (ts : List Plain) → IsGrown c d → IsFoundIn c f →
      d.types ≡ eq.types → gathered e new ≡ with_trees d.types (gathered d f) ts →
      IsMore eq rule (gathered c f) (gathered e new)
  row_more c d e f new ts g h types is = λ u k. subst (λ (x : Gathered). Covers eq rule x u) (sym (is ∙ rw (types, gathered-grown c d f g h) refl)) (more_all (gathered c f) ts u k)

  pub row_many : (c d : Content) (f : Found) (ts : List Plain) → IsGrown c d → IsFoundIn c f →
      d.types ≡ eq.types → ((t : Plain) → IsIn t ts → IsAny t) → IsSound eq rule (gathered c f) →
      IsOverfull d.types (gathered d f) ts → HasTooManyTrees eq rule
  row_many c d f ts g h types any s o =
      overfull_many (gathered c f) ts any s (subst (λ (x : Gathered). IsOverfull eq.types x ts) (gathered-grown c d f g h) (subst (λ (ty : Types). IsOverfull ty (gathered d f) ts) types o))

  pub any_of : (row : RuleRow) (e : ℕ) (ts : List Plain) → IsIn row rule.rows → AreWholes eq rule plan row e ts → (t : Plain) → IsIn t ts → IsAny t
  any_of row e ts i h t m = record { row = row; of_rule = i; whole = (h.each t m).0 }
