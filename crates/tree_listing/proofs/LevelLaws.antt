-- Levels while the pool grows, and one more level.
use Rattle.std.proofs.Common.{◌≡◌, ℕ, zero, suc, ◌+◌, ◌<◌, ◌≤◌, ◌⊎◌, List, [], ◌∷◌, ◌++◌, length, Some, refl, sym, ap, ◌∙◌, subst, arith, All, inl, inr}
use Rattle.std.specs.Prelude.{slice_get}
use Rattle.equations.specs.declared.equation.Equation.{Equation}
use Rattle.ordered_lists.specs.Members.{IsIn}
use Rattle.plain_trees.specs.Plain.{Plain, edge_count_of}
use Rattle.plain_trees.specs.Degree.{empty_tree}
use Rattle.normal_rule.specs.declared.rule.RuleRow.{RuleRow}
use Rattle.normal_rule.specs.declared.rule.Rule.{Rule}
use Rattle.conforming_trees.specs.Budgets.{IsWhole, most_at}
use Rattle.degree_numbers.specs.declared.degree.Degree.{Degree}
use Rattle.tree_budgets.specs.declared.plan.RowPlan.{RowPlan}
use Rattle.tree_budgets.specs.declared.plan.RulePlan.{RulePlan}
use Rattle.tree_budgets.specs.Plan.{IsRowPlan, AreRowPlans}
use Rattle.tree_pool.specs.Content.{Content, IsGrown}
use Rattle.tree_pool.specs.declared.node.TreeId.{TreeId}
use Rattle.tree_pool.proofs.Growth.{grown_holds}
use Rattle.tree_pool.proofs.Trees.{slice_get-append_cases}
use Rattle.tree_listing.specs.declared.level.Stem.{Stem}
use Rattle.tree_listing.specs.declared.level.RowLevel.{RowLevel}
use Rattle.tree_listing.specs.declared.level.Level.{Level}
use Rattle.tree_listing.specs.declared.found.Found.{Found}
use Rattle.tree_listing.specs.Levels.{trees, sprouts, stem_trees, AreSprouts, AreWholes, IsRowLevel, IsLevel, AreLevels, IsSetting}
use Rattle.tree_listing.specs.Made.{IsLeast}
use Rattle.tree_listing.specs.Gathered.{Gathered, IsKeeping, IsGood, IsSound, Covers, AreCovered, IsMore, decorated_all}
use Rattle.tree_listing.proofs.Growing.{trees-grown, sprouts-grown, ids-grown, stems-grown}
use Rattle.tree_listing.proofs.Keeping.{keeping-grown, gathered-grown}
use Rattle.tree_listing.proofs.Leasts.{least-grown}
use Rattle.tree_listing.proofs.RowWholes.{row_wholes_are}

module _ (eq : Equation) (rule : Rule) (plan : RulePlan) where
  pub setting-grown : (c d : Content) (empty : TreeId) → IsGrown c d → IsSetting eq rule plan c empty → IsSetting eq rule plan d empty
  setting-grown c d empty g h = record {
    equation = h.equation;
    normal = h.normal;
    planned = h.planned;
    types = g.types ∙ h.types;
    empty_tree = grown_holds c d empty.0 empty_tree g h.empty_tree;
  }

  pub row_level-grown : (c d : Content) (row : RuleRow) (e : ℕ) (x : RowLevel) → IsGrown c d →
      IsRowLevel eq rule plan c row e x → IsRowLevel eq rule plan d row e x
  row_level-grown c d row e x g h = record {
    kernel = h.kernel;
    known = record { stems = stems-grown c d x.stems g h.known.stems; wholes = ids-grown c d x.wholes g h.known.wholes; least = least-grown c d x.wholes x.least g h.known.wholes h.known.least };
    stems = subst (AreSprouts eq rule plan row e) (sym (sprouts-grown c d x.stems g h.known.stems)) h.stems;
    wholes = subst (AreWholes eq rule plan row e) (sym (trees-grown c d x.wholes g h.known.wholes)) h.wholes;
  }

  pub level-grown : (c d : Content) (e : ℕ) (level : Level) → IsGrown c d → IsLevel eq rule plan c e level → IsLevel eq rule plan d e level
  level-grown c d e level g h = record { count = h.count; rows = λ r row x i j. row_level-grown c d row e x g (h.rows r row x i j) }

  pub levels-grown : (c d : Content) (levels : List Level) → IsGrown c d → AreLevels eq rule plan c levels → AreLevels eq rule plan d levels
  levels-grown c d levels g h = λ e level at. level-grown c d e level g (h e level at)

  pub good-grown : (c d : Content) (f : Found) → IsGrown c d → IsGood eq rule c f → IsGood eq rule d f
  good-grown c d f g h = record { keeping = keeping-grown c d f [] g h.keeping; sound = subst (IsSound eq rule) (sym (gathered-grown c d f g h.keeping.found)) h.sound }

  -- a row that is made
  pub row_made : (c d : Content) (p : RowPlan) (row : RuleRow) (e : ℕ) (stems : List Stem) (wholes : List TreeId) (x : RowLevel) →
      IsGrown c d → c.types ≡ eq.types → eq.types.dims ≤ 5 →
      IsRowPlan eq plan.lows plan.mosts row p →
      AreSprouts eq rule plan row e (sprouts c stems) → All (λ s. s.id.0 < length c.trees) stems → All (λ i. i.0 < length d.trees) wholes → trees d wholes ≡ decorated_all c.types p.most (stem_trees c stems) →
      x.kernel ≡ p.kernel → x.stems ≡ stems → x.wholes ≡ wholes → IsLeast d wholes x.least → IsRowLevel eq rule plan d row e x
  row_made c d p row e stems wholes x g types five planned sprouted known ids is kernel same_stems same_wholes least = record {
    kernel = kernel ∙ planned.kernel;
    known = record { stems = rw same_stems (stems-grown c d stems g known); wholes = rw same_wholes ids; least = rw same_wholes least };
    stems = rw same_stems (subst (AreSprouts eq rule plan row e) (sym (sprouts-grown c d stems g known)) sprouted);
    wholes = rw (same_wholes, is, types) (row_wholes_are eq rule plan c row p.most e stems five planned.most sprouted);
  }

  pub made_wholes : (c : Content) (row : RuleRow) (most : Degree) (e : ℕ) (ss stems : List Stem) →
      c.types ≡ eq.types → eq.types.dims ≤ 5 → most ≡ most_at plan.mosts row.kernel.0 →
      AreSprouts eq rule plan row e (sprouts c stems) → ss ≡ stems →
      AreWholes eq rule plan row e (decorated_all c.types most (stem_trees c ss))
  made_wholes c row most e ss stems types five same h is = rw (is, types) (row_wholes_are eq rule plan c row most e stems five same h)

  pub keeping_none : (c : Content) (f : Found) (is : List TreeId) → IsKeeping c f is → IsKeeping c f []
  keeping_none c f is h = record { found = h.found; ascending = h.ascending; few = h.few; wholes = λ k d l. absurd (omega (arith, l)) }

  -- one more row
  pub rows_step : (c d : Content) (n : ℕ) (rows new : List RowLevel) (x : RowLevel) → IsGrown c d →
      ((r : ℕ) (row : RuleRow) (y : RowLevel) → slice_get rule.rows r ≡ Some row → slice_get rows r ≡ Some y → IsRowLevel eq rule plan c row n y) →
      ((row : RuleRow) → slice_get rule.rows (length rows) ≡ Some row → IsRowLevel eq rule plan d row n x) → new ≡ rows ++ x ∷ [] →
      (r : ℕ) (row : RuleRow) (y : RowLevel) → slice_get rule.rows r ≡ Some row → slice_get new r ≡ Some y → IsRowLevel eq rule plan d row n y
  rows_step c d n rows new x g old last is r row y i at =
      elim (slice_get-append_cases rows x r y (subst (λ (zs : List RowLevel). slice_get zs r ≡ Some y) is at)) [
        | inl there ↦ row_level-grown c d row n y g (old r row y i there)
        | inr here ↦ subst (IsRowLevel eq rule plan d row n) here.1 (last row (subst (λ (k : ℕ). slice_get rule.rows k ≡ Some row) here.0 i))
      ]

  pub covered_step : (n k : ℕ) (g h : Gathered) → IsMore eq rule g h →
      ((r : ℕ) (row : RuleRow) → r < k → slice_get rule.rows r ≡ Some row → AreCovered eq rule plan row n g) →
      ((row : RuleRow) → slice_get rule.rows k ≡ Some row → AreCovered eq rule plan row n h) → (r : ℕ) (row : RuleRow) → r < k + 1 → slice_get rule.rows r ≡ Some row → AreCovered eq rule plan row n h
  covered_step n k g h more old last r row lt i =
      elim (last_one r k lt) [
        | inl less ↦ λ t whole count. more t (old r row less i t whole count)
        | inr same ↦ last row (subst (λ (j : ℕ). slice_get rule.rows j ≡ Some row) same i)
      ]
    where
      last_one : (a b : ℕ) → a < b + 1 → (a < b) ⊎ (a ≡ b)
      last_one zero zero l = inr refl
      last_one zero (suc b) l = inl (omega arith)
      last_one (suc a) zero l = absurd (omega (arith, l))
      last_one (suc a) (suc b) l = elim (last_one a b (omega (arith, l))) [ inl x ↦ inl (omega (arith, x)) | inr x ↦ inr (ap suc x) ]

  -- one more level
  pub levels_step : (c d : Content) (levels new : List Level) (level : Level) → IsGrown c d →
      AreLevels eq rule plan c levels → IsLevel eq rule plan d (length levels) level →
      new ≡ levels ++ level ∷ [] → AreLevels eq rule plan d new
  levels_step c d levels new level g old last is e x at =
      elim (slice_get-append_cases levels level e x (subst (λ (zs : List Level). slice_get zs e ≡ Some x) is at)) [
        | inl there ↦ level-grown c d e x g (old e x there)
        | inr here ↦ subst (λ (k : ℕ). IsLevel eq rule plan d k x) (sym here.0) (subst (IsLevel eq rule plan d (length levels)) here.1 last)
      ]

  pub all_covered_step : (n : ℕ) (g h : Gathered) → IsMore eq rule g h →
      ((row : RuleRow) (t : Plain) → IsIn row rule.rows → IsWhole eq rule plan.mosts row t → edge_count_of t < n → Covers eq rule g t) →
      ((row : RuleRow) → IsIn row rule.rows → AreCovered eq rule plan row n h) → (row : RuleRow) (t : Plain) → IsIn row rule.rows → IsWhole eq rule plan.mosts row t → edge_count_of t < n + 1 → Covers eq rule h t
  all_covered_step n g h more old last row t i whole lt =
      elim (last_one (edge_count_of t) n lt) [
        | inl less ↦ more t (old row t i whole less)
        | inr same ↦ last row i t whole same
      ]
    where
      last_one : (a b : ℕ) → a < b + 1 → (a < b) ⊎ (a ≡ b)
      last_one zero zero l = inr refl
      last_one zero (suc b) l = inl (omega arith)
      last_one (suc a) zero l = absurd (omega (arith, l))
      last_one (suc a) (suc b) l = elim (last_one a b (omega (arith, l))) [ inl x ↦ inl (omega (arith, x)) | inr x ↦ inr (ap suc x) ]

  pub length-plans : (lows mosts : List Degree) (rs : List RuleRow) (ps : List RowPlan) → AreRowPlans eq lows mosts rs ps → length ps ≡ length rs
  length-plans lows mosts [] [] h = refl
  length-plans lows mosts [] (p ∷ ps) h = absurd h
  length-plans lows mosts (r ∷ rs) [] h = absurd h
  length-plans lows mosts (r ∷ rs) (p ∷ ps) h = omega (arith, length-plans lows mosts rs ps h.1)
