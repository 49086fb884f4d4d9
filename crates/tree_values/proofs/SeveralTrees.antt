-- The values of several trees, tree by tree.
use Rattle.std.proofs.Common.{◌≡◌, ◌<◌, ◌≤◌, ◌+◌, ℕ, inl, inr, List, [], ◌∷◌, ◌++◌, length, take, drop, get_or, sym, ap, ◌∙◌, subst, arith, Option, Some}
use Rattle.std.specs.List.{All}
use Rattle.std.proofs.lemmas.List.{take_more, take_all, map-append}
use Rattle.std.proofs.lemmas.Grind.{common_steps}
use Rattle.exact_sums.specs.Saturating.{overflow}
use Rattle.equations.specs.declared.Equation.{Equation}
use Rattle.plain_trees.specs.Plain.{Plain}
use Rattle.plain_trees.specs.Degree.{HasTypes}
use Rattle.tree_pool.specs.Content.{Content, IsGrown, IsPooled, tree_at, trees_of}
use Rattle.tree_pool.specs.declared.TreeId.{TreeId}
use Rattle.tree_pool.proofs.Growth.{grown_at}
use Rattle.counterterm_report.specs.declared.TreeValues.{TreeValues}
use Rattle.antipode_laws.specs.Weighed.{Weighed}
use Rattle.antipode_laws.specs.Constants.{expected, IsConstants}
use Rattle.antipode_laws.proofs.Solutions.{solution, is_solution}
use Rattle.twisted_antipode.specs.Counts.{AreFinishedOver}
use Rattle.twisted_antipode.specs.Held.{Held, held_over, AreHeldOver, IsExtended}
use Rattle.extraction_coproduct.specs.Finished.{TablesContent}
use Rattle.antipode_laws.proofs.OtherTerms.{member_of}
use Rattle.ordered_lists.specs.Members.{IsIn}
use Rattle.ordered_lists.proofs.Members.{in_map, member_at}
use Rattle.tree_values.specs.declared.quantity.Quantity.{Quantity}
use Rattle.tree_values.specs.declared.error.ValuesError.{ValuesError}
use Rattle.tree_values.specs.declared.error.ValuesError.TheVariants.{TooLarge, Memory}
use Rattle.tree_values.specs.Ranges.{IsFirstPast, IsInRange, IsFirstRefused}
use Rattle.tree_values.specs.Values.{IsValuesOf, AreValuesOf, IsRefusedFor, IsListRefused, IsKnownRefusal}
use Rattle.tree_values.proofs.Extended.{IsMoreHeld, more_held}
use Rattle.tree_values.proofs.OneTree.{typed_at}
use Rattle.tree_values.proofs.HeldMore.{held_range, in_range_before, first_before, values_before}

trees_next : (c : Content) (ids : List TreeId) (i : ℕ) (d : TreeId) → i < length ids → trees_of c (take (i + 1) ids) ≡ trees_of c (take i ids) ++ tree_at c (get_or ids i d).0 ∷ []
trees_next c ids i d lt = ap (trees_of c) (take_more ids i d lt) ∙ map-append (λ (id : TreeId). tree_at c id.0) (take i ids) (get_or ids i d ∷ [])

one_of_all : (ids : List TreeId) (i : ℕ) (d : TreeId) → i < length ids → ids ≡ take i ids ++ get_or ids i d ∷ drop (i + 1) ids
one_of_all ids i d lt = grind (arith, common_steps)

trees_split : (c : Content) (ids : List TreeId) (i : ℕ) (d : TreeId) → i < length ids → trees_of c ids ≡ trees_of c (take i ids) ++ tree_at c (get_or ids i d).0 ∷ trees_of c (drop (i + 1) ids)
trees_split c ids i d lt = ap (trees_of c) (one_of_all ids i d lt) ∙ map-append (λ (id : TreeId). tree_at c id.0) (take i ids) (get_or ids i d ∷ drop (i + 1) ids)

module _ (eq : Equation) (held : Plain → Option Weighed) (c : Plain → Weighed) where
  put_last : (ts : List Plain) (vs : List TreeValues) (t : Plain) (v : TreeValues) → AreValuesOf eq held c ts vs → IsInRange eq held c t → IsValuesOf eq c t v → AreValuesOf eq held c (ts ++ t ∷ []) (vs ++ v ∷ [])
  put_last [] [] t v h r k = (r, k, tt)
  put_last [] (w ∷ vs) t v h r k = absurd h
  put_last (s ∷ ts) [] t v h r k = absurd h
  put_last (s ∷ ts) (w ∷ vs) t v h r k = (h.0, h.1, put_last ts vs t v h.2 r k)

  refused_behind : (ts us : List Plain) (vs : List TreeValues) (t : Plain) (q : Quantity) → AreValuesOf eq held c ts vs → IsFirstRefused eq held c us t q → IsFirstRefused eq held c (ts ++ us) t q
  refused_behind [] us vs t q h k = k
  refused_behind (s ∷ ts) us [] t q h k = absurd h
  refused_behind (s ∷ ts) us (v ∷ vs) t q h k = inr (h.0, refused_behind ts us vs t q h.2 k)

  pub values_next : (pool : Content) (ids : List TreeId) (i : ℕ) (id : TreeId) (vs ws : List TreeValues) (v : TreeValues) → i < length ids → id ≡ get_or ids i id → ws ≡ vs ++ v ∷ [] →
      AreValuesOf eq held c (trees_of pool (take i ids)) vs → IsInRange eq held c (tree_at pool id.0) → IsValuesOf eq c (tree_at pool id.0) v → AreValuesOf eq held c (trees_of pool (take (i + 1) ids)) ws
  values_next pool ids i id vs ws v lt is put h r k =
      subst (AreValuesOf eq held c (trees_of pool (take (i + 1) ids))) (sym put)
      (subst (λ (ts : List Plain). AreValuesOf eq held c ts (vs ++ v ∷ [])) (sym (trees_next pool ids i id lt))
      (subst (λ (j : TreeId). AreValuesOf eq held c (trees_of pool (take i ids) ++ tree_at pool j.0 ∷ []) (vs ++ v ∷ [])) is
      (put_last (trees_of pool (take i ids)) vs (tree_at pool id.0) v h r k)))

  pub refused_here : (pool : Content) (ids : List TreeId) (i : ℕ) (id : TreeId) (vs : List TreeValues) (e : ValuesError) → i < length ids → id ≡ get_or ids i id →
      AreValuesOf eq held c (trees_of pool (take i ids)) vs → IsRefusedFor id (IsFirstPast eq held c (tree_at pool id.0)) e → IsListRefused eq held c pool ids e
  refused_here pool ids i id vs Memory lt is h k = tt
  refused_here pool ids i id vs (TooLarge tree q) lt is h k =
      let rest = trees_of pool (drop (i + 1) ids) in
      let here : IsFirstRefused eq held c (tree_at pool id.0 ∷ rest) (tree_at pool tree.0) q = inl (ap (λ (j : TreeId). tree_at pool j.0) k.0, k.1) in
      subst (λ (ts : List Plain). IsFirstRefused eq held c ts (tree_at pool tree.0) q) (sym (trees_split pool ids i id lt))
      (refused_behind (trees_of pool (take i ids)) (tree_at pool (get_or ids i id).0 ∷ rest) vs (tree_at pool tree.0) q h
      (subst (λ (j : TreeId). IsFirstRefused eq held c (tree_at pool j.0 ∷ rest) (tree_at pool tree.0) q) is here))

-- what a call says of the constants over what is held by then, said of those over what was held at the start
module _ (eq : Equation) (held more : Plain → Option Weighed) (extends : IsMoreHeld eq.types held more) (range : (t : Plain) (w : Weighed) → more t ≡ Some w → w.mass < overflow)
    (c : Plain → Weighed) (solves : IsConstants eq.types held c) (t : Plain) (typed : HasTypes eq.types t) where
  abbrev over_more : Plain → Weighed
  over_more = solution eq.types (expected eq.types) more

  also : IsConstants eq.types more over_more
  also = is_solution eq.types (expected eq.types) more

  abbrev SaysOfValues : (Plain → Option Weighed) → TreeValues → (Plain → Weighed) → Type 0
  SaysOfValues h v a = IsInRange eq h a t × IsValuesOf eq a t v

  pub values_at_start : (v : TreeValues) → ((a : Plain → Weighed) → IsConstants eq.types more a → SaysOfValues more v a) → SaysOfValues held v c
  values_at_start v h =
      let at = h over_more also in (
        in_range_before eq held more c over_more solves also (extends c solves) range t typed at.0,
        values_before eq held more c over_more solves also (extends c solves) range t typed v at.1,
      )

  pub refused_at_start : (id : TreeId) (e : ValuesError) → ((a : Plain → Weighed) → IsConstants eq.types more a → IsRefusedFor id (IsFirstPast eq more a t) e) → IsRefusedFor id (IsFirstPast eq held c t) e
  refused_at_start id (TooLarge tree q) h = let at = h over_more also in (at.0, first_before eq held more c over_more solves also (extends c solves) range t typed q at.1)
  refused_at_start id Memory h = tt

-- one tree of the list, where the pool has grown and constants are held besides
module _ (eq : Equation) (pool grown : Content) (old now : List Held) (types : pool.types ≡ eq.types) (pooled : IsPooled pool) (growth : IsGrown pool grown) (before : AreHeldOver pool old) (held : AreHeldOver grown now)
    (extended : IsExtended grown old now) (ids : List TreeId) (known : All (λ id. id.0 < length pool.trees) ids) (i : ℕ) (id : TreeId) (lt : i < length ids) (is : id ≡ get_or ids i id) where
  pub known_here : id.0 < length pool.trees
  known_here = subst (λ (j : TreeId). j.0 < length pool.trees) (sym is) (known i id lt)

  typed_here : HasTypes eq.types (tree_at pool id.0)
  typed_here = typed_at pool eq.types id.0 pooled types known_here

  more : IsMoreHeld eq.types (held_over pool old) (held_over grown now)
  more = more_held eq.types pool grown old now types growth before extended

  same_tree : tree_at grown id.0 ≡ tree_at pool id.0
  same_tree = grown_at pool grown id.0 growth known_here

  range : (t : Plain) (w : Weighed) → held_over grown now t ≡ Some w → w.mass < overflow
  range t w e = held_range grown now t w held e

  abbrev Says : TreeValues → Plain → (Plain → Weighed) → Type 0
  Says v t a = IsInRange eq (held_over grown now) a t × IsValuesOf eq a t v

  module _ (c : Plain → Weighed) (solves : IsConstants eq.types (held_over pool old) c) where
    at_start : (v : TreeValues) → ((a : Plain → Weighed) → IsConstants eq.types (held_over grown now) a → Says v (tree_at grown id.0) a) →
        IsInRange eq (held_over pool old) c (tree_at pool id.0) × IsValuesOf eq c (tree_at pool id.0) v
    at_start v h =
        values_at_start eq (held_over pool old) (held_over grown now) more range c solves (tree_at pool id.0) typed_here v (λ a also. subst (λ (t : Plain). Says v t a) same_tree (h a also))

    pub next_values : (vs ws : List TreeValues) (v : TreeValues) → ws ≡ vs ++ v ∷ [] → AreValuesOf eq (held_over pool old) c (trees_of pool (take i ids)) vs →
        ((a : Plain → Weighed) → IsConstants eq.types (held_over grown now) a → Says v (tree_at grown id.0) a) → AreValuesOf eq (held_over pool old) c (trees_of pool (take (i + 1) ids)) ws
    next_values vs ws v put so_far h = let both = at_start v h in values_next eq (held_over pool old) c pool ids i id vs ws v lt is put so_far both.0 both.1

    pub first_refused : (vs : List TreeValues) (e : ValuesError) → AreValuesOf eq (held_over pool old) c (trees_of pool (take i ids)) vs →
        ((a : Plain → Weighed) → IsConstants eq.types (held_over grown now) a → IsRefusedFor id (IsFirstPast eq (held_over grown now) a (tree_at grown id.0)) e) → IsListRefused eq (held_over pool old) c pool ids e
    first_refused vs e so_far h =
        refused_here eq (held_over pool old) c pool ids i id vs e lt is so_far
        (refused_at_start eq (held_over pool old) (held_over grown now) more range c solves (tree_at pool id.0) typed_here id e
        (λ a also. subst (λ (t : Plain). IsRefusedFor id (IsFirstPast eq (held_over grown now) a t) e) same_tree (h a also)))

  named : (e : ValuesError) (first : Quantity → Type 0) → IsRefusedFor id first e → IsKnownRefusal pool e
  named (TooLarge tree q) first h = subst (λ (j : TreeId). j.0 < length pool.trees) (sym h.0) known_here
  named Memory first h = tt

  pub names_known : (e : ValuesError) → ((a : Plain → Weighed) → IsConstants eq.types (held_over grown now) a → IsRefusedFor id (IsFirstPast eq (held_over grown now) a (tree_at grown id.0)) e) → IsKnownRefusal pool e
  names_known e h =
      let a = solution eq.types (expected eq.types) (held_over grown now) in
      named e (IsFirstPast eq (held_over grown now) a (tree_at grown id.0)) (h a (is_solution eq.types (expected eq.types) (held_over grown now)))

  -- what is finished for this tree is finished for one of the list
  pub one_finished : (b c : TablesContent) → b.pool ≡ grown → AreFinishedOver b c now (tree_at b.pool id.0 ∷ []) → AreFinishedOver b c now (trees_of pool ids)
  one_finished b c at h = λ ts has all.
      let tree : tree_at b.pool id.0 ≡ tree_at pool id.0 = ap (λ (p : Content). tree_at p id.0) at ∙ same_tree in
      let listed : IsIn (tree_at pool id.0) (trees_of pool ids) = in_map (λ (j : TreeId). tree_at pool j.0) id ids (member_at ids i id lt is) in
      h ts (subst (λ (t : Plain). IsIn t ts) (sym tree) (member_of (λ (f : Plain). IsIn f ts) (trees_of pool ids) (tree_at pool id.0) has listed), tt) all

-- the end of the list
pub all_done : (eq : Equation) (held : Plain → Option Weighed) (c : Plain → Weighed) (pool : Content) (ids : List TreeId) (i : ℕ) (vs : List TreeValues) → length ids ≤ i →
    AreValuesOf eq held c (trees_of pool (take i ids)) vs → AreValuesOf eq held c (trees_of pool ids) vs
all_done eq held c pool ids i vs end h = subst (λ (js : List TreeId). AreValuesOf eq held c (trees_of pool js) vs) (take_all i ids end) h
