-- One more edge: lines with the sums of the tables of two trees may be put together.
use Rattle.std.proofs.Common.{◌≡◌, ℕ, suc, ◌+◌, ◌*◌, ◌<◌, ◌≤◌, ℤ, pos, neg_ℤ, ◌+ℤ◌, ◌≤ℤ◌, Bool, true, false, cond, not, List, [], ◌∷◌, ◌++◌, map, flat_map, filter, length, sum, refl, sym, ap, ◌∙◌, arith, subst, unsigned_abs}
use Rattle.std.specs.List.{AllByRecursion}
use Rattle.std.proofs.lemmas.Int.{ints}
use Rattle.std.specs.Ordering.{int_cmp, is_gt}
use Rattle.exact_sums.specs.Saturating.{overflow, saturated}
use Rattle.exact_sums.proofs.KeyedLaws.{saturated_sums}
use Rattle.exact_sums.specs.Keyed.{rekeyed, same_by, sum_at}
use Rattle.degree_numbers.specs.declared.types.Types.{Types}
use Rattle.degree_numbers.specs.declared.multi.Multi.{Multi}
use Rattle.degree_numbers.specs.Types.{AreTypes}
use Rattle.degree_numbers.specs.Multi.{IsMultiIndex}
use Rattle.degree_numbers.specs.declared.types.TypeId.{TypeId}
use Rattle.tree_pool.specs.Content.{tree_at, tree_over}
use Rattle.tree_pool.specs.declared.node.EdgeTo.{EdgeTo}
use Rattle.cutting_tables.specs.declared.lows.Lows.{Lows}
use Rattle.cutting_tables.specs.PoolLows.{AreLows}
use Rattle.plain_trees.specs.Plain.{Plain, bare, graft}
use Rattle.plain_trees.specs.Degree.{HasTypes, degree_of}
use Rattle.plain_trees.specs.Cutting.{limits, shifts}
use Rattle.plain_trees.specs.Coproducts.{Extracted, each_direction, extracted_order}
use Rattle.cutting_sizes.specs.Bounds.{IsBounded, most_shift}
use Rattle.cutting_sizes.specs.Lows.{low, lowest}
use Rattle.cutting_sizes.proofs.Made.{IsBelow, below_is}
use Rattle.cutting_tables.specs.Keys.{Opened, inside, outside, beside, closes, closing, opened_order}
use Rattle.cutting_tables.specs.Tables.{closed_terms, idle_branch, touched_branch, seeds}
use Rattle.cutting_tables.specs.Live.{AreSameOpened, AreSameExtracted, is_live, live_terms, tables_within, IsLiveTable}
use Rattle.cutting_tables.proofs.Closing.{touched_step_types, idle_step, closed_step}
use Rattle.cutting_tables.proofs.Steps.{is_live-live, is_live-dead}
use Rattle.pooled_cuttings.proofs.Degrees.{true_low, not_low}
use Rattle.pooled_cuttings.specs.declared.keys.OpenKey.{OpenKey}
use Rattle.pooled_cuttings.specs.declared.keys.ExtractKey.{ExtractKey}
use Rattle.pooled_cuttings.specs.declared.steps.EdgeStep.{EdgeStep}
use Rattle.pooled_cuttings.specs.Groves.{GroveContent, IsGrove, IsGrownGrove}
use Rattle.pooled_cuttings.specs.declared.tables.TableBounds.{TableBounds}
use Rattle.pooled_cuttings.specs.declared.tables.NodeTables.{NodeTables}
use Rattle.pooled_cuttings.specs.NodeTables.{AreTables, IsTableBounds, IsOneMore}
use Rattle.pooled_cuttings.proofs.Means.{tables_grown, extract_lines_grown, extract_terms_grown}
use Rattle.pooled_cuttings.specs.Lines.{opened_in, extracted_in, opened_terms_in, extracted_terms_in, AreOpenLines, AreExtractLines, IsOpenLine, IsExtractLine}
use Rattle.pooled_cuttings.specs.Products.{is_low, low_terms, kept_terms, touched_products, CanHold, IsEdgeStep, AreInsideFit, AreOutsideFit, AreBesideFit}
use Rattle.pooled_cuttings.proofs.Members.{all_more, all_unmapped}
use Rattle.pooled_cuttings.proofs.Fitting.{IsOpenOf, IsIdleOf, IsClosedOf, open_lines, idle_lines, closed_lines, open_fit, idle_fit, inside_of, outside_of, beside_of, more_shifts, shift_sum}

-- lines and the terms that they mean
pub all_meant : {K J : Type 0} (f : K → J) (Q : J → Type 0) (ls : List (K × ℕ)) → AllByRecursion (λ x. Q x.0) (rekeyed f ls) → AllByRecursion (λ l. Q (f l.0)) ls
all_meant f Q [] a = tt
all_meant f Q (l ∷ ls) a = (a.0, all_meant f Q ls a.1)

open_above : (g : GroveContent) (ls : List (OpenKey × ℕ)) → AreOpenLines g ls → AllByRecursion (λ x. 0 < x.1) (opened_terms_in g ls)
open_above g [] a = tt
open_above g (l ∷ ls) a = (a.0.1, open_above g ls a.1)

extract_above : (g : GroveContent) (ls : List (ExtractKey × ℕ)) → AreExtractLines g ls → AllByRecursion (λ x. 0 < x.1) (extracted_terms_in g ls)
extract_above g [] a = tt
extract_above g (l ∷ ls) a = (a.0.1, extract_above g ls a.1)

-- low parts are live ones
low_live : (ty : Types) (b : ℕ) (most : ℤ) (t part : Plain) → most ≡ low ty t +ℤ pos b → is_low ty most part ≡ is_live ty b t part
low_live ty b most t part e =
    let d = (degree_of ty part).a in
    (elim (is_low ty most part) as (λ x. is_low ty most part ≡ x → x ≡ is_live ty b t part) [
      | true ↦ λ h. let l = true_low d most h in sym (is_live-live ty b t part (omega (arith, ints, l, e)))
      | false ↦ λ h. let l = not_low d most h in sym (is_live-dead ty b t part (omega (arith, ints, l, e)))
    ]) refl

low_terms_live : (ty : Types) (b : ℕ) (most : ℤ) (t : Plain) → most ≡ low ty t +ℤ pos b → (xs : List (Opened × ℕ)) → low_terms ty most xs ≡ live_terms ty b t xs
low_terms_live ty b most t e [] = refl
low_terms_live ty b most t e (x ∷ xs) =
    ap (λ (d : Bool). cond d (x ∷ low_terms ty most xs) (low_terms ty most xs)) (low_live ty b most t x.0.part e)
    ∙ ap (λ (ys : List (Opened × ℕ)). cond (is_live ty b t x.0.part) (x ∷ ys) ys) (low_terms_live ty b most t e xs)

module _ (g : GroveContent) (types : AreTypes g.pool.types) (e : EdgeStep) (c t : Plain) where
  abbrev ty : Types
  ty = g.pool.types

  abbrev whole : Plain
  whole = graft e.kind.0 e.p.entries c t

  module _ (typed : HasTypes ty whole) (bounded : IsBounded whole) (b : ℕ) (ample : b ≤ unsigned_abs ty.units.den * most_shift) (is : e.most ≡ low ty whole +ℤ pos b) where
    pub inside_fits : (xs ys : List (OpenKey × ℕ)) → AreOpenLines g xs → IsLiveTable ty most_shift b c (opened_terms_in g xs) → AreOpenLines g ys →
        IsLiveTable ty most_shift b t (opened_terms_in g ys) → AreInsideFit g e xs ys
    inside_fits xs ys i h j k =
        let of_xs = all_meant (opened_in g) (IsOpenOf ty c) xs (open_lines ty b c (opened_terms_in g xs) h (open_above g xs i)) in
        let of_ys = all_meant (opened_in g) (IsOpenOf ty t) ys (open_lines ty b t (opened_terms_in g ys) k (open_above g ys j)) in
        all_more (λ x. IsOpenOf ty c (opened_in g x.0)) _ xs
        (λ x p. all_more (λ y. IsOpenOf ty t (opened_in g y.0)) _ ys
        (λ y q. open_fit ty types whole typed bounded b e.most (inside e.kind.0 e.p.entries (opened_in g x.0) (opened_in g y.0)) ample is
        (inside_of ty e.kind.0 e.p.entries c t (opened_in g x.0) (opened_in g y.0) p q)) of_ys) of_xs

    pub outside_fits : (s : List ℕ) (m : ℕ) → m ≤ most_shift → IsBelow s (limits (each_direction ty.dims m) e.p.entries) → (xs : List (ExtractKey × ℕ)) (ys : List (OpenKey × ℕ)) →
        AreExtractLines g xs → AreSameExtracted (extracted_terms_in g xs) (closed_terms ty (tables_within ty most_shift c)) → AreOpenLines g ys →
        IsLiveTable ty most_shift b t (opened_terms_in g ys) → AreOutsideFit g e s xs ys
    outside_fits s m most below xs ys i h j k =
        let of_xs = all_meant (extracted_in g) (IsClosedOf ty c) xs (closed_lines ty c (extracted_terms_in g xs) h (extract_above g xs i)) in
        let of_ys = all_meant (opened_in g) (IsOpenOf ty t) ys (open_lines ty b t (opened_terms_in g ys) k (open_above g ys j)) in
        let shift = more_shifts ty.dims m most_shift s e.p.entries most below in
        all_more (λ x. IsClosedOf ty c (extracted_in g x.0)) _ xs
        (λ x p. all_more (λ y. IsOpenOf ty t (opened_in g y.0)) _ ys
        (λ y q. open_fit ty types whole typed bounded b e.most (outside s e.kind.0 e.p.entries (extracted_in g x.0) (opened_in g y.0)) ample is
        (outside_of ty s e.kind.0 e.p.entries c t (extracted_in g x.0) (opened_in g y.0) shift p q)) of_ys) of_xs

    -- the shifts of the code
    pub shift_fits : (m : ℕ) → m ≤ most_shift → (ss : List Multi) → map (λ s. s.entries) ss ≡ shifts (each_direction ty.dims m) e.p.entries →
        (xs : List (ExtractKey × ℕ)) (ys : List (OpenKey × ℕ)) →
        AreExtractLines g xs → AreSameExtracted (extracted_terms_in g xs) (closed_terms ty (tables_within ty most_shift c)) → AreOpenLines g ys →
        IsLiveTable ty most_shift b t (opened_terms_in g ys) → AllByRecursion (λ s. AreOutsideFit g e s.entries xs ys) ss
    shift_fits m most ss same xs ys i h j k =
        all_unmapped (λ s. AreOutsideFit g e s xs ys) (λ (s : Multi). s.entries) ss
        (subst (AllByRecursion (λ s. AreOutsideFit g e s xs ys)) (sym same)
        (all_more (λ s. IsBelow s (limits (each_direction ty.dims m) e.p.entries)) (λ s. AreOutsideFit g e s xs ys) (shifts (each_direction ty.dims m) e.p.entries)
        (λ s below. outside_fits s m most below xs ys i h j k) (below_is (limits (each_direction ty.dims m) e.p.entries))))

  pub beside_fits : HasTypes ty whole → IsBounded whole → (xs ys : List (ExtractKey × ℕ)) → AreExtractLines g xs →
      AreSameExtracted (extracted_terms_in g xs) (closed_terms ty (tables_within ty most_shift c)) → AreExtractLines g ys →
      AreSameExtracted (extracted_terms_in g ys) (tables_within ty most_shift t).idle → AreBesideFit g e xs ys
  beside_fits typed bounded xs ys i h j k =
      let of_xs = all_meant (extracted_in g) (IsClosedOf ty c) xs (closed_lines ty c (extracted_terms_in g xs) h (extract_above g xs i)) in
      let of_ys = all_meant (extracted_in g) (IsIdleOf ty t) ys (idle_lines ty t (extracted_terms_in g ys) k (extract_above g ys j)) in
      all_more (λ x. IsClosedOf ty c (extracted_in g x.0)) _ xs
      (λ x p. all_more (λ y. IsIdleOf ty t (extracted_in g y.0)) _ ys
      (λ y q. let z = beside_of ty e.kind.0 e.p.entries c t (extracted_in g x.0) (extracted_in g y.0) p q in
      subst (CanHold ty) z.2 (idle_fit ty types whole typed bounded z.0 z.1)) of_ys) of_xs

pub small_shifts : (d m : ℕ) (p : List ℕ) (ss : List Multi) → length p ≡ 5 → m ≤ most_shift → map (λ s. s.entries) ss ≡ shifts (each_direction d m) p →
    AllByRecursion (λ s. sum s.entries ≤ 8192) ss
small_shifts d m p ss five most same =
    all_unmapped (λ (s : List ℕ). sum s ≤ 8192) (λ (s : Multi). s.entries) ss
    (subst (AllByRecursion (λ s. sum s ≤ 8192)) (sym same)
    (all_more (λ s. IsBelow s (limits (each_direction d m) p)) (λ s. sum s ≤ 8192) (shifts (each_direction d m) p)
    (λ s below. let total = shift_sum d m s p below in let e : length p * m ≡ 5 * m = ap (λ (n : ℕ). n * m) five in omega (arith, total, e, most))
    (below_is (limits (each_direction d m) p))))

-- the parts of a tree with one more edge, as lines
pub record AreParts (g : GroveContent) (b : TableBounds) (e : EdgeStep) (c t : Plain) (above others : NodeTables) (closed : List (ExtractKey × ℕ)) : Type 0 where
  pub types : AreTypes g.pool.types
  pub typed : HasTypes g.pool.types (graft e.kind.0 e.p.entries c t)
  pub bounded : IsBounded (graft e.kind.0 e.p.entries c t)
  pub bounds : IsTableBounds g.pool.types b
  pub most : e.most ≡ low g.pool.types (graft e.kind.0 e.p.entries c t) +ℤ pos b.excess
  pub of_child : AreTables g b c above
  pub closed_lines : AreExtractLines g closed
  pub closed_sums : AreSameExtracted (extracted_terms_in g closed) (closed_terms g.pool.types (tables_within g.pool.types most_shift c))
  pub of_rest : AreTables g b t others

pub parts_grown : (g h : GroveContent) (b : TableBounds) (e : EdgeStep) (c t : Plain) (above others : NodeTables) (closed : List (ExtractKey × ℕ)) →
    IsGrove g → IsGrownGrove g h → AreParts g b e c t above others closed → AreParts h b e c t above others closed
parts_grown g h b e c t above others closed is a p =
    let ty = sym a.pool.types in
    let whole = graft e.kind.0 e.p.entries c t in
    record {
      types = subst AreTypes ty p.types;
      typed = subst (λ (u : Types). HasTypes u whole) ty p.typed;
      bounded = p.bounded;
      bounds = subst (λ (u : Types). IsTableBounds u b) ty p.bounds;
      most = subst (λ (u : Types). e.most ≡ low u whole +ℤ pos b.excess) ty p.most;
      of_child = tables_grown g h b c above is a p.of_child;
      closed_lines = extract_lines_grown g h closed a p.closed_lines;
      closed_sums =
          subst (λ (u : Types). AreSameExtracted (extracted_terms_in h closed) (closed_terms u (tables_within u most_shift c))) ty
          (subst (λ (ts : List (Extracted × ℕ)). AreSameExtracted ts (closed_terms g.pool.types (tables_within g.pool.types most_shift c))) (sym (extract_terms_grown g h closed is a p.closed_lines)) p.closed_sums);
      of_rest = tables_grown g h b t others is a p.of_rest;
    }

module _ (g : GroveContent) (b : TableBounds) (e : EdgeStep) (c t : Plain) (above others : NodeTables) (closed : List (ExtractKey × ℕ)) (p : AreParts g b e c t above others closed) where
  pub parts_step : IsEdgeStep g.pool.types e
  parts_step =
      let d = p.bounded.derivatives in
      record { known = p.typed.0.known; small = omega (arith, d) }

  pub parts_beside : AreBesideFit g e closed others.idle.items
  parts_beside = beside_fits g p.types e c t p.typed p.bounded closed others.idle.items p.closed_lines p.closed_sums p.of_rest.idle_lines p.of_rest.idle

  pub parts_inside : AreInsideFit g e above.touched.items others.touched.items
  parts_inside =
      inside_fits g p.types e c t p.typed p.bounded b.excess p.bounds.excess p.most above.touched.items others.touched.items
      p.of_child.touched_lines p.of_child.touched p.of_rest.touched_lines p.of_rest.touched

  pub parts_outside : (ss : List Multi) → map (λ s. s.entries) ss ≡ shifts (each_direction g.pool.types.dims b.shift) e.p.entries →
      AllByRecursion (λ s. AreOutsideFit g e s.entries closed others.touched.items) ss
  parts_outside ss same =
      shift_fits g p.types e c t p.typed p.bounded b.excess p.bounds.excess p.most b.shift p.bounds.shift ss same closed others.touched.items
      p.closed_lines p.closed_sums p.of_rest.touched_lines p.of_rest.touched

  -- what comes out
  pub idle_table : (new : List (Extracted × ℕ)) →
      AreSameExtracted new (idle_branch e.kind.0 e.p.entries (extracted_terms_in g closed) (extracted_terms_in g others.idle.items)) →
      AreSameExtracted new (tables_within g.pool.types most_shift (graft e.kind.0 e.p.entries c t)).idle
  idle_table new h = λ key.
      h key
      ∙ idle_step g.pool.types most_shift e.kind.0 e.p.entries c t (extracted_terms_in g closed) (extracted_terms_in g others.idle.items) p.closed_sums p.of_rest.idle key

  pub touched_table : (new : List (Opened × ℕ)) →
      AreSameOpened new
      (low_terms g.pool.types e.most
      (touched_branch (each_direction g.pool.types.dims b.shift) e.kind.0 e.p.entries (opened_terms_in g above.touched.items) (extracted_terms_in g closed) (opened_terms_in g others.touched.items))) →
      IsLiveTable g.pool.types most_shift b.excess (graft e.kind.0 e.p.entries c t) new
  touched_table new h = λ key.
      let made = touched_branch (each_direction g.pool.types.dims b.shift) e.kind.0 e.p.entries (opened_terms_in g above.touched.items) (extracted_terms_in g closed) (opened_terms_in g others.touched.items) in
      h key
      ∙ ap (λ (ts : List (Opened × ℕ)). saturated (sum_at (same_by opened_order) key ts)) (low_terms_live g.pool.types b.excess e.most (graft e.kind.0 e.p.entries c t) p.most made)
      ∙ touched_step_types g.pool.types most_shift b.shift b.excess e.kind.0 e.p.entries c t (opened_terms_in g above.touched.items) (opened_terms_in g others.touched.items) (extracted_terms_in g closed)
      p.types p.bounds.shift p.bounds.ample p.of_child.touched p.closed_sums p.of_rest.touched key

abbrev step_of : TypeId → Multi → ℤ → EdgeStep
step_of k p m = record { kind = k; p = p; most = m }

step_is : (e : EdgeStep) (k : TypeId) (p : Multi) (m : ℤ) → e.kind ≡ k → e.p ≡ p → e.most ≡ m → e ≡ step_of k p m
step_is e k p m a b c = ap (λ (x : TypeId). step_of x e.p e.most) a ∙ ap (λ (x : Multi). step_of k x e.most) b ∙ ap (step_of k p) c

module _ (g : GroveContent) (b : TableBounds) (edge : EdgeTo) (n : Multi) (rest : List EdgeTo) (above others : NodeTables) (closed : List (ExtractKey × ℕ)) (lows : Lows) (e : EdgeStep)
    (kind : e.kind ≡ edge.kind) (p : e.p ≡ edge.p) (most : e.most ≡ lows.low +ℤ pos b.excess) where
  abbrev child : Plain
  child = tree_at g.pool edge.child.0

  abbrev stump : Plain
  stump = tree_over g.pool.trees n.entries rest

  pub parts_of : IsGrove g → IsTableBounds g.pool.types b → IsOneMore g.pool edge n rest → AreTables g b child above → AreExtractLines g closed →
      AreSameExtracted (extracted_terms_in g closed) (closed_terms g.pool.types (tables_within g.pool.types most_shift child)) → AreTables g b stump others →
      AreLows g.pool.types (graft edge.kind.0 edge.p.entries child stump) lows → AreParts g b e child stump above others closed
  parts_of is bounds one a ls cl o l =
      subst (λ (s : EdgeStep). AreParts g b s child stump above others closed) (sym (step_is e edge.kind edge.p (lows.low +ℤ pos b.excess) kind p most))
      (record {
        types = is.pooled.types;
        typed = one.types;
        bounded = one.bounded;
        bounds = bounds;
        most = ap (λ (z : ℤ). z +ℤ pos b.excess) l.low;
        of_child = a;
        closed_lines = ls;
        closed_sums = cl;
        of_rest = o;
      })

  pub lows_back : AreLows g.pool.types (graft edge.kind.0 edge.p.entries child stump) lows → AreLows g.pool.types (graft e.kind.0 e.p.entries child stump) lows
  lows_back l =
      subst (λ (s : EdgeStep). AreLows g.pool.types (graft s.kind.0 s.p.entries child stump) lows) (sym (step_is e edge.kind edge.p (lows.low +ℤ pos b.excess) kind p most)) l

  pub back : (h : GroveContent) (x : NodeTables) → AreTables h b (graft e.kind.0 e.p.entries child stump) x → AreTables h b (graft edge.kind.0 edge.p.entries child stump) x
  back h x t =
      subst (λ (s : EdgeStep). AreTables h b (graft s.kind.0 s.p.entries child stump) x) (step_is e edge.kind edge.p (lows.low +ℤ pos b.excess) kind p most) t

pub made_tables : (g h k : GroveContent) (b : TableBounds) (e : EdgeStep) (c t : Plain) (above others : NodeTables) (closed : List (ExtractKey × ℕ)) (lows : Lows) (x : NodeTables) →
    IsGrove g → IsGrove h → IsGrownGrove g h → IsGrownGrove h k → AreParts g b e c t above others closed → x.lows ≡ lows → AreLows g.pool.types (graft e.kind.0 e.p.entries c t) lows →
    AreExtractLines h x.idle.items →
    AreSameExtracted (extracted_terms_in h x.idle.items) (idle_branch e.kind.0 e.p.entries (extracted_terms_in g closed) (extracted_terms_in g others.idle.items)) →
    AreOpenLines k x.touched.items →
    AreSameOpened (opened_terms_in k x.touched.items)
    (low_terms h.pool.types e.most
    (touched_branch (each_direction h.pool.types.dims b.shift) e.kind.0 e.p.entries (opened_terms_in h above.touched.items) (extracted_terms_in h closed) (opened_terms_in h others.touched.items))) →
    AreTables k b (graft e.kind.0 e.p.entries c t) x
made_tables g h k b e c t above others closed lows x is ish a d p same l il i tl s =
    let q = parts_grown g h b e c t above others closed is a p in
    let whole = graft e.kind.0 e.p.entries c t in
    let ty : k.pool.types ≡ g.pool.types = d.pool.types ∙ a.pool.types in
    record {
      lows = subst (λ (u : Types). AreLows u whole x.lows) (sym ty) (subst (AreLows g.pool.types whole) (sym same) l);
      idle_lines = extract_lines_grown h k x.idle.items d il;
      idle =
          subst (λ (u : Types). AreSameExtracted (extracted_terms_in k x.idle.items) (tables_within u most_shift whole).idle) (sym ty)
          (subst (λ (ts : List (Extracted × ℕ)). AreSameExtracted ts (tables_within g.pool.types most_shift whole).idle) (sym (extract_terms_grown h k x.idle.items ish d il))
          (idle_table g b e c t above others closed p (extracted_terms_in h x.idle.items) i));
      touched_lines = tl;
      touched = subst (λ (u : Types). IsLiveTable u most_shift b.excess whole (opened_terms_in k x.touched.items)) (sym d.pool.types) (touched_table h b e c t above others closed q (opened_terms_in k x.touched.items) s);
    }

-- closed lines
pub closed_table : (ty : Types) (b : ℕ) (t : Plain) (new old start idle : List (Extracted × ℕ)) (touched : List (Opened × ℕ)) → AreSameExtracted new old → start ≡ idle →
    old ≡ start ++ rekeyed closing (filter (λ e. closes ty e.0) touched) → neg_ℤ (pos b) ≤ℤ lowest ty t → AreSameExtracted idle (tables_within ty most_shift t).idle →
    IsLiveTable ty most_shift b t touched → AreSameExtracted new (closed_terms ty (tables_within ty most_shift t))
closed_table ty b t new old start idle touched h first e enough i l = λ key.
    h key
    ∙ ap (λ (ts : List (Extracted × ℕ)). saturated (sum_at (same_by extracted_order) key ts))
    (e ∙ ap (λ (ts : List (Extracted × ℕ)). ts ++ rekeyed closing (filter (λ e. closes ty e.0) touched)) first)
    ∙ closed_step ty most_shift b t enough idle touched i l key

-- the tree with one node
pub node_tables : (g h k : GroveContent) (b : TableBounds) (n : List ℕ) (x : NodeTables) → IsGrove h → IsGrownGrove g h → IsGrownGrove h k → AreLows g.pool.types (bare n) x.lows →
    AreExtractLines h x.idle.items → extracted_terms_in h x.idle.items ≡ (([], bare n), 1) ∷ [] → AreOpenLines k x.touched.items →
    opened_terms_in k x.touched.items ≡ kept_terms h.pool.types (pos b.excess) (seeds n) → AreTables k b (bare n) x
node_tables g h k b n x ish a d l il i tl e =
    let ty : k.pool.types ≡ g.pool.types = d.pool.types ∙ a.pool.types in
    let zero_low : pos b.excess ≡ low h.pool.types (bare n) +ℤ pos b.excess = omega (arith, ints) in
    let idle = extract_terms_grown h k x.idle.items ish d il ∙ i in
    record {
      lows = subst (λ (u : Types). AreLows u (bare n) x.lows) (sym ty) l;
      idle_lines = extract_lines_grown h k x.idle.items d il;
      idle = λ key. ap (λ (ts : List (Extracted × ℕ)). saturated (sum_at (same_by extracted_order) key ts)) idle;
      touched_lines = tl;
      touched =
          subst (λ (u : Types). IsLiveTable u most_shift b.excess (bare n) (opened_terms_in k x.touched.items)) (sym d.pool.types)
          (λ key.
          ap (λ (ts : List (Opened × ℕ)). saturated (sum_at (same_by opened_order) key ts)) e
          ∙ saturated_sums (same_by opened_order) (low_terms h.pool.types (pos b.excess) (seeds n)) key
          ∙ ap (λ (ts : List (Opened × ℕ)). saturated (sum_at (same_by opened_order) key ts)) (low_terms_live h.pool.types b.excess (pos b.excess) (bare n) zero_low (seeds n)));
    }
