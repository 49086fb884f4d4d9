-- What products make of lines with the sums of the tables of recentring of a tree that is not too large is small.
use Rattle.std.proofs.Common.{◌≡◌, ℕ, suc, ◌+◌, ◌*◌, ◌/◌, ◌<◌, ◌≤◌, ℤ, pos, ◌+ℤ◌, ◌-ℤ◌, ◌<ℤ◌, ◌≤ℤ◌, Bool, true, false, cond, inl, inr, List, [], ◌∷◌, ◌++◌, map, filter, length, sum, refl, sym, ap, ◌∙◌, arith, subst, unsigned_abs, append-nil, Result, Ok, Err}
use Rattle.std.specs.Prelude.{IfOk}
use Rattle.std.specs.List.{AllByRecursion}
use Rattle.std.proofs.lemmas.Int.{ints}
use Rattle.std.proofs.lemmas.List.{map-append}
use Rattle.std.proofs.lemmas.List.Elements.{filter-append}
use Rattle.std.proofs.lemmas.Option.{slice_get-get_or}
use Rattle.std.proofs.Math.Nat.{div-lt_iff_lt-mul}
use Rattle.ordered_lists.specs.Members.{IsIn}
use Rattle.exact_sums.specs.Saturating.{saturated}
use Rattle.exact_sums.specs.Keyed.{rekeyed, same_by, sum_at}
use Rattle.degree_numbers.specs.declared.types.Types.{Types}
use Rattle.degree_numbers.specs.declared.degree.Degree.{Degree}
use Rattle.degree_numbers.specs.declared.multi.Multi.{Multi}
use Rattle.degree_numbers.specs.Degree.{degree_plus, degree_zero, degree_order, IsWithin}
use Rattle.degree_numbers.specs.Types.{AreTypes, size_in_units}
use Rattle.degree_numbers.specs.Multi.{plus_of}
use Rattle.plain_trees.specs.Plain.{Plain, bare, graft}
use Rattle.plain_trees.specs.Canon.{canon}
use Rattle.plain_trees.specs.Degree.{HasTypes, edge_degree_of, degree_of}
use Rattle.plain_trees.specs.Cutting.{limits, shifts}
use Rattle.plain_trees.specs.Multinomials.{below}
use Rattle.plain_trees.specs.Coproducts.{Recentred, are_above_zero, is_above_zero, each_direction, recentred_order, positive_size}
use Rattle.plain_trees.proofs.DegreeBounds.{small_b}
use Rattle.plain_trees.proofs.DegreeLaws.{canon_types}
use Rattle.tree_pool.specs.declared.node.EdgeTo.{EdgeTo}
use Rattle.tree_pool.specs.Content.{Content, tree_at, tree_over, IsPooled, IsGrown}
use Rattle.tree_cuttings.specs.Entries.{Entry, with_inside, with_outside}
use Rattle.tree_cuttings.specs.Rooted.{whole_entry, rooted_entries}
use Rattle.tree_cuttings.specs.Terms.{recentred_entry}
use Rattle.tree_cuttings.proofs.Degrees.{edge_high, degree_high, edge_raised}
use Rattle.tree_cuttings.proofs.RootedBounds.{above-joined}
use Rattle.cutting_sizes.specs.Bounds.{AreTyped, IsFit, HasAtMost, most_shift, most_part}
use Rattle.cutting_sizes.proofs.Made.{IsBelow, below_is}
use Rattle.cutting_sizes.proofs.Steps.{rooted_inside, rooted_outside}
use Rattle.cutting_sizes.proofs.Bounded.{canon_at_most, at_most_small}
use Rattle.cutting_sizes.proofs.Recentred.{rooted_small, shifts_fit}
use Rattle.cutting_sizes.proofs.Sizes.{den_some}
use Rattle.cutting_sizes.proofs.TypesKept.{rooted_typed}
use Rattle.cutting_tables.specs.Keys.{left_inside, right_outside, right_branch}
use Rattle.cutting_tables.specs.Tables.{right_shifts}
use Rattle.cutting_tables.specs.Live.{AreSameRecentred, recentred_within}
use Rattle.cutting_tables.proofs.Rooted.{recentred_term, recentred_keyed, recentred-inside, recentred-outside, right_step}
use Rattle.cutting_tables.proofs.Steps.{exact_recentred}
use Rattle.pooled_cuttings.specs.declared.keys.RightKey.{RightKey}
use Rattle.pooled_cuttings.specs.Lines.{recentred_in, recentred_terms_in, AreRightLines}
use Rattle.pooled_cuttings.specs.NodeTables.{IsRightTable, IsOneMoreFit}
use Rattle.pooled_cuttings.specs.Products.{CanHold}
use Rattle.pooled_cuttings.specs.RightProducts.{IsRightFit, IsRightEdge, IsRightShifts, right_seed, branch_of, lowered, left_product, left_terms, right_product, right_terms, AreLeftFit, AreRightFit}
use Rattle.pooled_cuttings.proofs.Fitting.{more_shifts, shift_sum}
use Rattle.pooled_cuttings.proofs.Members.{in_all, all_in, all_more, all_mapped_in, all_unmapped, keys_hold}
use Rattle.pooled_cuttings.proofs.SameKeys.{and_true}

-- members that pass a test
pub in_filter : {X : Type 0} (p : X → Bool) (x : X) (xs : List X) → IsIn x (filter p xs) → IsIn x xs × (p x ≡ true)
in_filter p x [] h = absurd h
in_filter {X} p x (y ∷ ys) h =
    (elim (p y) as (λ b. p y ≡ b → IsIn x (cond b (y ∷ filter p ys) (filter p ys)) → IsIn x (y ∷ ys) × (p x ≡ true)) [
      | true ↦ λ e i. elim i [ inl same ↦ (inl same, subst (λ (z : X). p z ≡ true) same e) | inr r ↦ (let rest = in_filter p x ys r in (inr rest.0, rest.1)) ]
      | false ↦ λ e i. let rest = in_filter p x ys i in (inr rest.0, rest.1)
    ]) refl h

pub filter_same : {X : Type 0} (p q : X → Bool) → ((x : X) → p x ≡ q x) → (xs : List X) → filter p xs ≡ filter q xs
filter_same p q h [] = refl
filter_same {X} p q h (x ∷ xs) =
    ap (λ (b : Bool). cond b (x ∷ filter p xs) (filter p xs)) (h x)
    ∙ ap (λ (ys : List X). cond (q x) (x ∷ ys) ys) (filter_same p q h xs)

module _ (ty : Types) where
  abbrev w : List ℕ
  w = each_direction ty.dims most_shift

  abbrev above : Entry → Bool
  above e = are_above_zero ty e.quotient

  -- the keys of the table of t
  abbrev pub IsRightOf : Plain → Recentred → Type 0
  IsRightOf t x = (e : Entry) × IsIn e (rooted_entries w t) × (are_above_zero ty e.quotient ≡ true) × (recentred_entry e ≡ x)

  right_keys : (t : Plain) → AllByRecursion (λ x. IsRightOf t x.0) (recentred_within ty most_shift t)
  right_keys t =
      subst (AllByRecursion (λ x. IsRightOf t x.0)) (recentred_keyed ty w t)
      (all_mapped_in (λ x. IsRightOf t x.0) recentred_term (filter above (rooted_entries w t))
      (λ e i. let both = in_filter above e (rooted_entries w t) i in (e, both.0, both.1, refl)))

  pub right_of_table : (t : Plain) (ts : List (Recentred × ℕ)) → AreSameRecentred ts (recentred_within ty most_shift t) → AllByRecursion (λ x. 0 < x.1) ts →
      AllByRecursion (λ x. IsRightOf t x.0) ts
  right_of_table t ts h some = keys_hold (same_by recentred_order) exact_recentred (IsRightOf t) ts (recentred_within ty most_shift t) h some (right_keys t)

  -- products are keys of the tree with one more edge
  pub left_of : (k : ℕ) (p : List ℕ) (c t : Plain) (x y : Recentred) → IsRightOf c x → IsRightOf t y → IsRightOf (graft k p c t) (left_inside k p x y)
  left_of k p c t x y (e, i, a, q) (f, j, b, r) = (
    with_inside k p e f,
    rooted_inside w k p c t e f i j,
    above-joined ty e.quotient f.quotient ∙ and_true _ _ a b,
    recentred-inside k p e f ∙ ap (λ (z : Recentred). left_inside k p z (recentred_entry f)) q ∙ ap (left_inside k p x) r,
  )

  pub right_of : (s : List ℕ) (k : ℕ) (p : List ℕ) (c t : Plain) (y : Recentred) → IsIn s (shifts w p) → right_branch ty k p c s ≡ true → IsRightOf t y →
      IsRightOf (graft k p c t) (right_outside s k p c y)
  right_of s k p c t y n h (f, j, b, r) = (
    with_outside s k p (whole_entry c) f,
    rooted_outside w s k p c t f n j,
    and_true _ _ h b,
    recentred-outside s k p c f ∙ ap (right_outside s k p c) r,
  )

  module _ (types : AreTypes ty) (t : Plain) (typed : HasTypes ty t) (fit : IsFit t) where
    held : (s : Plain) → HasTypes ty s → HasAtMost most_part s → CanHold ty (canon s)
    held s h a = record { types = canon_types ty s h; small = at_most_small most_part (canon s) (omega arith) (canon_at_most most_part s a) }

    pub right_fit : (x : Recentred) → IsRightOf t x → IsRightFit ty x
    right_fit x (e, i, a, q) =
        let small = in_all (λ e. are_above_zero ty e.quotient ≡ true → HasAtMost most_part e.part × HasAtMost most_part e.quotient) (rooted_entries w t) e
        (rooted_small ty most_shift t types typed fit) i a in
        let of_types = in_all (AreTyped ty) (rooted_entries w t) e (rooted_typed ty most_shift t typed) i in
        subst (IsRightFit ty) q (record { left = held e.part of_types.part small.0; right = held e.quotient of_types.quotient small.1 })

-- lines and the terms that they mean
right_meant : (c : Content) (Q : Recentred → Type 0) (ls : List (RightKey × ℕ)) → AllByRecursion (λ x. Q x.0) (recentred_terms_in c ls) →
    AllByRecursion (λ l. Q (recentred_in c l.0)) ls
right_meant c Q [] a = tt
right_meant c Q (l ∷ ls) a = (a.0, right_meant c Q ls a.1)

right_above : (c : Content) (ls : List (RightKey × ℕ)) → AreRightLines c ls → AllByRecursion (λ x. 0 < x.1) (recentred_terms_in c ls)
right_above c [] a = tt
right_above c (l ∷ ls) a = (a.0.1, right_above c ls a.1)

-- the parts of a tree with one more edge, as lines
pub record AreRightParts (c : Content) (e : EdgeTo) (rest : Plain) (above others : List (RightKey × ℕ)) : Type 0 where
  pub types : AreTypes c.types
  pub typed : HasTypes c.types (graft e.kind.0 e.p.entries (tree_at c e.child.0) rest)
  pub fit : IsFit (graft e.kind.0 e.p.entries (tree_at c e.child.0) rest)
  pub child : e.child.0 < length c.trees
  pub of_child : IsRightTable c (tree_at c e.child.0) above
  pub of_rest : IsRightTable c rest others

module _ (c : Content) (e : EdgeTo) (rest : Plain) (above others : List (RightKey × ℕ)) (p : AreRightParts c e rest above others) where
  abbrev child : Plain
  child = tree_at c e.child.0

  abbrev whole : Plain
  whole = graft e.kind.0 e.p.entries child rest

  of_above : AllByRecursion (λ l. IsRightOf c.types child (recentred_in c l.0)) above
  of_above = right_meant c (IsRightOf c.types child) above
      (right_of_table c.types child (recentred_terms_in c above) p.of_child.sums (right_above c above p.of_child.lines))

  of_others : AllByRecursion (λ l. IsRightOf c.types rest (recentred_in c l.0)) others
  of_others = right_meant c (IsRightOf c.types rest) others
      (right_of_table c.types rest (recentred_terms_in c others) p.of_rest.sums (right_above c others p.of_rest.lines))

  pub parts_edge : IsRightEdge c e
  parts_edge =
      let d = p.fit.decorations in
      record { kind = p.typed.0.known; small = omega (arith, d); child = p.child }

  pub parts_left : AreLeftFit c e above others
  parts_left =
      all_more (λ x. IsRightOf c.types child (recentred_in c x.0)) _ above
      (λ x i. all_more (λ y. IsRightOf c.types rest (recentred_in c y.0)) _ others
      (λ y j. right_fit c.types p.types whole p.typed p.fit (left_product e (recentred_in c x.0) (recentred_in c y.0))
      (left_of c.types e.kind.0 e.p.entries child rest (recentred_in c x.0) (recentred_in c y.0) i j)) of_others) of_above

  one_right : (s : List ℕ) (m : ℕ) → m ≤ most_shift → IsBelow s (limits (each_direction c.types.dims m) e.p.entries) → right_branch c.types e.kind.0 e.p.entries child s ≡ true →
      AreRightFit c e s others
  one_right s m most below h =
      all_more (λ y. IsRightOf c.types rest (recentred_in c y.0)) _ others
      (λ y j. right_fit c.types p.types whole p.typed p.fit (right_product e child s (recentred_in c y.0))
      (right_of c.types s e.kind.0 e.p.entries child rest (recentred_in c y.0) (more_shifts c.types.dims m most_shift s e.p.entries most below) h j)) of_others

  pub parts_right : (ss : List Multi) → IsRightShifts c e (map (λ m. m.entries) ss) → AllByRecursion (λ s. AreRightFit c e s.entries others) ss
  parts_right ss is =
      let test = right_branch c.types e.kind.0 e.p.entries child in
      let all = shifts (each_direction c.types.dims is.most) e.p.entries in
      all_unmapped (λ s. AreRightFit c e s others) (λ (s : Multi). s.entries) ss
      (subst (AllByRecursion (λ s. AreRightFit c e s others)) (sym is.shifts)
      (all_in (λ s. AreRightFit c e s others) (filter test all)
      (λ s i. let both = in_filter test s all i in
      one_right s is.most is.within (in_all (λ s. IsBelow s (limits (each_direction c.types.dims is.most) e.p.entries)) all s (below_is (limits (each_direction c.types.dims is.most) e.p.entries)) both.0) both.1)))

  pub parts_high : (branch_of c e).a <ℤ pos (unsigned_abs c.types.units.den * suc most_shift)
  parts_high =
      let ty = c.types in
      let fit = shifts_fit ty whole p.types p.fit in
      let some = den_some ty p.types in
      let size : positive_size ty whole < suc most_shift * unsigned_abs ty.units.den =
      (div-lt_iff_lt-mul {k = unsigned_abs ty.units.den} {x = positive_size ty whole} {y = suc most_shift} some).0 (omega (arith, fit)) in
      let g = edge_high ty e.kind.0 e.p.entries in
      let d = degree_high ty child in
      omega (arith, ints, g, d, size)

  pub right_table : (new : List (Recentred × ℕ)) (ss : List (List ℕ)) → IsRightShifts c e ss →
      AreSameRecentred new
      (left_terms e (recentred_terms_in c above) (recentred_terms_in c others) ++ right_terms e child ss (recentred_terms_in c others)) →
      AreSameRecentred new (recentred_within c.types most_shift whole)
  right_table new ss is h =
      let of_shifts = subst (λ (zs : List (List ℕ)). AreSameRecentred new
      (left_terms e (recentred_terms_in c above) (recentred_terms_in c others) ++ right_terms e child zs (recentred_terms_in c others))) is.shifts h in
      λ key. of_shifts key
      ∙ right_step c.types most_shift e.kind.0 e.p.entries child rest p.types is.most is.within is.ample (recentred_terms_in c above) (recentred_terms_in c others)
      p.of_child.sums p.of_rest.sums key

-- the shifts of the code
pub lowered_branch : (c : Content) (e : EdgeTo) (s : List ℕ) →
    is_above_zero (lowered c.types (branch_of c e) s) ≡ right_branch c.types e.kind.0 e.p.entries (tree_at c e.child.0) s
lowered_branch c e s =
    let raised = edge_raised c.types e.kind.0 e.p.entries s in
    let same : (branch_of c e).a -ℤ pos (size_in_units c.types s) ≡ (degree_plus (edge_degree_of c.types e.kind.0 (plus_of e.p.entries s)) (degree_of c.types (tree_at c e.child.0))).a =
    omega (arith, ints, raised) in
    ap (λ (z : ℤ). is_above_zero (degree_with z (branch_of c e).b)) same
  where
    degree_with : ℤ → ℤ → Degree
    degree_with a b = record { a = a; b = b }

pub shifts_are : (c : Content) (e : EdgeTo) (m : ℕ) (all ss : List (List ℕ)) → m ≤ most_shift → (branch_of c e).a <ℤ pos (unsigned_abs c.types.units.den * suc m) →
    all ≡ shifts (each_direction c.types.dims m) e.p.entries → ss ≡ filter (λ s. is_above_zero (lowered c.types (branch_of c e) s)) all → IsRightShifts c e ss
shifts_are c e m all ss most ample whole kept = record {
  most = m;
  within = most;
  ample = ample;
  shifts =
      kept ∙ filter_same (λ s. is_above_zero (lowered c.types (branch_of c e) s)) (right_branch c.types e.kind.0 e.p.entries (tree_at c e.child.0)) (lowered_branch c e) all
      ∙ ap (filter (right_branch c.types e.kind.0 e.p.entries (tree_at c e.child.0))) whole;
}

pub small_below : (d m : ℕ) (p : List ℕ) → length p ≡ 5 → m ≤ most_shift → AllByRecursion (λ s. sum s ≤ 8192) (shifts (each_direction d m) p)
small_below d m p five most =
    all_more (λ s. IsBelow s (limits (each_direction d m) p)) (λ s. sum s ≤ 8192) (shifts (each_direction d m) p)
    (λ s below. let total = shift_sum d m s p below in let e : length p * m ≡ 5 * m = ap (λ (n : ℕ). n * m) five in omega (arith, total, e, most))
    (below_is (limits (each_direction d m) p))

pub all_filtered : {X : Type 0} (P : X → Type 0) (p : X → Bool) (xs : List X) → AllByRecursion P xs → AllByRecursion P (filter p xs)
all_filtered P p xs a = all_in P (filter p xs) (λ x i. in_all P xs x a (in_filter p x xs i).0)

-- degrees of branches
pub pool_degree_b : (c : Content) (i : ℕ) → IsPooled c → i < length c.trees → IsWithin (degree_of c.types (tree_at c i)).b 100000000000
pool_degree_b c i pool h = small_b c.types (tree_at c i) pool.types (pool.kept i (tree_at c i) (slice_get-get_or c.trees i (bare []) h)).small

pub order_by : (ty : Types) (d left : Degree) (s : List ℕ) (size : ℤ) → left.a ≡ d.a -ℤ size → left.b ≡ d.b → size ≡ pos (size_in_units ty s) →
    degree_order left (record { a = pos 0; b = pos 0 }) ≡ degree_order (lowered ty d s) degree_zero
order_by ty d left s size h i e =
    ap (λ (x : ℤ). degree_order (record { a = x; b = left.b }) degree_zero) (h ∙ ap (λ (x : ℤ). d.a -ℤ x) e)
    ∙ ap (λ (x : ℤ). degree_order (record { a = d.a -ℤ pos (size_in_units ty s); b = x }) degree_zero) i

-- the shifts that are kept, one by one
module _ (test : List ℕ → Bool) where
  abbrev pub kept_row : List Multi → List (List ℕ)
  kept_row ss = filter test (map (λ m. m.entries) ss)

  abbrev pub kept_one : Multi → List (List ℕ)
  kept_one s = filter test (s.entries ∷ [])

  pub kept_parts : (s : Multi) (ss : List Multi) → kept_row (s ∷ ss) ≡ kept_one s ++ kept_row ss
  kept_parts s ss = filter-append test (s.entries ∷ []) (map (λ m. m.entries) ss)

  pub kept_put : (old new : List Multi) (s : Multi) → test s.entries ≡ true → new ≡ old ++ s ∷ [] → map (λ m. m.entries) new ≡ map (λ m. m.entries) old ++ kept_one s
  kept_put old new s h e =
      ap (λ (ms : List Multi). map (λ m. m.entries) ms) e ∙ map-append (λ (m : Multi). m.entries) old (s ∷ [])
      ∙ ap (λ (b : Bool). map (λ m. m.entries) old ++ cond b (s.entries ∷ []) []) (sym h)

  pub kept_not : (old : List Multi) (s : Multi) → test s.entries ≡ false → map (λ m. m.entries) old ≡ map (λ m. m.entries) old ++ kept_one s
  kept_not old s h =
      sym (append-nil (map (λ m. m.entries) old)) ∙ ap (λ (b : Bool). map (λ m. m.entries) old ++ cond b (s.entries ∷ []) []) (sym h)

all_mapped : (P : List ℕ → Type 0) (ss : List Multi) → AllByRecursion (λ s. P s.entries) ss → AllByRecursion P (map (λ m. m.entries) ss)
all_mapped P [] a = tt
all_mapped P (s ∷ ss) a = (a.0, all_mapped P ss a.1)

pub if_ok_more : {V E : Type 0} (r : Result V E) (P Q : V → Type 0) → ((v : V) → P v → Q v) → IfOk r P → IfOk r Q
if_ok_more (Ok v) P Q h a = h v a
if_ok_more (Err e) P Q h a = tt

pub if_ok_two : {V E : Type 0} (r : Result V E) (P Q R : V → Type 0) → ((v : V) → P v → Q v → R v) → IfOk r P → IfOk r Q → IfOk r R
if_ok_two (Ok v) P Q R h a b = h v a b
if_ok_two (Err e) P Q R h a b = tt

pub small_shifts_of : (d m : ℕ) (p : List ℕ) (all slice : List Multi) → length p ≡ 5 → m ≤ most_shift → map (λ m. m.entries) all ≡ shifts (each_direction d m) p → slice ≡ all →
    AllByRecursion (λ s. sum s.entries ≤ 8192) slice
small_shifts_of d m p all slice five most whole same =
    subst (AllByRecursion (λ (s : Multi). sum s.entries ≤ 8192)) (sym same)
    (all_unmapped (λ (s : List ℕ). sum s ≤ 8192) (λ (s : Multi). s.entries) all
    (subst (AllByRecursion (λ (s : List ℕ). sum s ≤ 8192)) (sym whole) (small_below d m p five most)))

pub small_kept : (test : List ℕ → Bool) (slice kept : List Multi) → AllByRecursion (λ s. sum s.entries ≤ 8192) slice → map (λ m. m.entries) kept ≡ filter test (map (λ m. m.entries) slice) →
    AllByRecursion (λ s. sum s.entries ≤ 8192) kept
small_kept test slice kept a e =
    all_unmapped (λ (s : List ℕ). sum s ≤ 8192) (λ (s : Multi). s.entries) kept
    (subst (AllByRecursion (λ (s : List ℕ). sum s ≤ 8192)) (sym e)
    (all_filtered (λ (s : List ℕ). sum s ≤ 8192) test (map (λ m. m.entries) slice) (all_mapped (λ (s : List ℕ). sum s ≤ 8192) slice a)))

pub kept_are : (c : Content) (e : EdgeTo) (one two three : Types) (b : Degree) (m : ℕ) (all slice kept : List Multi) → one ≡ c.types → two ≡ c.types → three ≡ c.types → b ≡ branch_of c e →
    m ≤ most_shift → b.a <ℤ pos (unsigned_abs one.units.den * suc m) → map (λ m. m.entries) all ≡ shifts (each_direction two.dims m) e.p.entries → slice ≡ all →
    map (λ m. m.entries) kept ≡ filter (λ s. is_above_zero (lowered three b s)) (map (λ m. m.entries) slice) → IsRightShifts c e (map (λ m. m.entries) kept)
kept_are c e one two three b m all slice kept h i j branch most ample whole same is =
    shifts_are c e m (map (λ m. m.entries) all) (map (λ m. m.entries) kept) most
    (subst (λ (d : Degree). d.a <ℤ pos (unsigned_abs c.types.units.den * suc m)) branch (subst (λ (ty : Types). b.a <ℤ pos (unsigned_abs ty.units.den * suc m)) h ample))
    (subst (λ (ty : Types). map (λ m. m.entries) all ≡ shifts (each_direction ty.dims m) e.p.entries) i whole)
    (subst (λ (d : Degree). map (λ m. m.entries) kept ≡ filter (λ s. is_above_zero (lowered c.types d s)) (map (λ m. m.entries) all)) branch
    (subst (λ (ty : Types). map (λ m. m.entries) kept ≡ filter (λ s. is_above_zero (lowered ty b s)) (map (λ m. m.entries) all)) j
    (subst (λ (ss : List Multi). map (λ m. m.entries) kept ≡ filter (λ s. is_above_zero (lowered three b s)) (map (λ m. m.entries) ss)) same is)))

-- the table of the tree with one more edge, in a pool that has grown
pub one_more_table : (c d : Content) (e : EdgeTo) (rest : Plain) (above others : List (RightKey × ℕ)) (new : List (RightKey × ℕ)) (ss : List (List ℕ)) →
    AreRightParts c e rest above others → IsGrown c d → AreRightLines d new → IsRightShifts c e ss →
    AreSameRecentred (recentred_terms_in d new)
    (left_terms e (recentred_terms_in c above) (recentred_terms_in c others) ++ right_terms e (tree_at c e.child.0) ss (recentred_terms_in c others)) →
    IsRightTable d (graft e.kind.0 e.p.entries (tree_at c e.child.0) rest) new
one_more_table c d e rest above others new ss p a lines is h = record {
  lines = lines;
  sums =
      subst (λ (ty : Types). AreSameRecentred (recentred_terms_in d new) (recentred_within ty most_shift (graft e.kind.0 e.p.entries (tree_at c e.child.0) rest))) (sym a.types)
      (right_table c e rest above others p (recentred_terms_in d new) ss is h);
}

pub parts_at : (c : Content) (e : EdgeTo) (n : Multi) (rest : List EdgeTo) (above others : List (RightKey × ℕ)) → IsPooled c → IsOneMoreFit c e n rest →
    IsRightTable c (tree_at c e.child.0) above → IsRightTable c (tree_over c.trees n.entries rest) others → AreRightParts c e (tree_over c.trees n.entries rest) above others
parts_at c e n rest above others pool one a o = record {
  types = pool.types;
  typed = one.types;
  fit = one.fit;
  child = one.known.0;
  of_child = a;
  of_rest = o;
}

-- the tree with one node
pub node_table : (c d : Content) (n : List ℕ) (start new : List (RightKey × ℕ)) (parts slice : List Multi) → IsGrown c d → start ≡ [] → slice ≡ parts → map (λ a. a.entries) parts ≡ below n →
    AreRightLines d new → recentred_terms_in d new ≡ recentred_terms_in c start ++ map (right_seed n) (map (λ a. a.entries) slice) → IsRightTable d (bare n) new
node_table c d n start new parts slice a none same are lines terms =
    let whole =
    terms
    ∙ ap (λ (ls : List (RightKey × ℕ)). recentred_terms_in c ls ++ map (right_seed n) (map (λ a. a.entries) slice)) none
    ∙ ap (λ (ms : List Multi). map (right_seed n) (map (λ a. a.entries) ms)) same
    ∙ ap (λ (ms : List (List ℕ)). map (right_seed n) ms) are in
    record { lines = lines; sums = λ key. ap (λ (ts : List (Recentred × ℕ)). saturated (sum_at (same_by recentred_order) key ts)) whole }
