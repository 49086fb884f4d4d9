-- The values and the report of a completed rule.
use Rattle.std.proofs.Common.{◌≡◌, ◌≢◌, ◌+◌, ◌<◌, ◌≤◌, ◌⊎◌, inl, inr, ℕ, Bool, true, false, cond, List, [], ◌∷◌, length, Result, Ok, Err, IfOk, IfErr, refl, sym, ap, ◌∙◌, subst, arith, Option, None, Some}
use Rattle.std.specs.Prelude.{filter, is_some, is_none}
use Rattle.std.specs.List.{All, AllByRecursion}
use Rattle.std.specs.Ordering.{is_gt}
use Rattle.std.specs.declared.cmp.Ordering.{Ordering}
use Rattle.std.specs.declared.cmp.Ordering.TheVariants.{Less, Greater}
use Rattle.std.proofs.lemmas.List.{length-map}
use Rattle.std.proofs.lemmas.Bool.{cases_lt}
use Rattle.limits.specs.declared.TheConstants.{MOST_LISTED_TREES}
use Rattle.ordered_lists.specs.Members.{IsIn}
use Rattle.ordered_lists.proofs.Members.{in_map, all_from_members}
use Rattle.degree_numbers.specs.declared.types.Types.{Types}
use Rattle.degree_numbers.specs.Degree.{degree_order, degree_zero}
use Rattle.equations.specs.declared.equation.Equation.{Equation}
use Rattle.plain_trees.specs.Plain.{Plain, tree_order}
use Rattle.plain_trees.specs.Canon.{canon}
use Rattle.plain_trees.specs.Cutting.{components}
use Rattle.plain_trees.specs.Coproducts.{Extracted, extraction_terms, with_tree, canon_forest}
use Rattle.plain_trees.specs.Degree.{degree_of}
use Rattle.tree_pool.specs.Content.{Content, IsGrown, IsPooled, tree_at}
use Rattle.tree_pool.proofs.Growth.{grown_at}
use Rattle.tree_pool.specs.declared.node.TreeId.{TreeId}
use Rattle.rule_steps.specs.Steps.{trees_of}
use Rattle.normal_rule.specs.declared.rule.Rule.{Rule}
use Rattle.normal_rule.specs.Regularity.{HasRows}
use Rattle.normal_rule.specs.Text.{AreKnown}
use Rattle.normal_rule.proofs.Fits.{rule_rows}
use Rattle.conforming_trees.specs.Listed.{IsListed, IsWholeList, IsTooLarge, HasTooManyTrees, HasTooLargeTree}
use Rattle.rule_stages.specs.Closure.{IsClosedUnderCutting}
use Rattle.cutting_sizes.specs.Bounds.{IsBounded}
use Rattle.cutting_sizes.proofs.TermSums.{extraction_comes}
use Rattle.antipode_laws.proofs.OtherTerms.{all_members}
use Rattle.extraction_coproduct.specs.Finished.{TablesContent}
use Rattle.twisted_antipode.specs.Counts.{IsCountOf, HasAll, HasAllComponents, AreFinishedOver}
use Rattle.twisted_antipode.specs.Kinds.{AreHeldTyped}
use Rattle.twisted_antipode.proofs.WorkLaws.{work_most}
use Rattle.twisted_antipode.proofs.KnownLaws.{held_grown}
use Rattle.twisted_antipode.proofs.SolutionLaws.{well_of}
use Rattle.twisted_antipode.proofs.HeldLaws.{over_grown}
use Rattle.cutting_sizes.proofs.Recentred.{fit_bounded, not_large_fit}
use Rattle.antipode_laws.specs.Weighed.{Weighed}
use Rattle.antipode_laws.specs.Antipode.{nothing}
use Rattle.antipode_laws.specs.Constants.{expected, IsConstants}
use Rattle.antipode_laws.proofs.Solutions.{solution, is_solution}
use Rattle.twisted_antipode.specs.Held.{Held, held_over, AreHeldOver}
use Rattle.counterterm_report.specs.declared.TreeValues.{TreeValues}
use Rattle.counterterm_report.specs.Report.{IsReportText}
use Rattle.counterterm_report.specs.Values.{IsTreeValues, AreReportValues}
use Rattle.tree_values.specs.declared.ValuesError.{ValuesError}
use Rattle.tree_values.specs.declared.ValuesError.TheVariants.{TooLarge}
use Rattle.tree_values.specs.declared.ValuesError.TheVariants as too_large
use Rattle.tree_values.specs.Values.{AreValuesOf, IsListRefused, IsKnownRefusal}
use Rattle.workbench_core.specs.declared.completed.Completed.{Completed}
use Rattle.workbench_core.specs.declared.compute.Reported.{Reported}
use Rattle.workbench_core.specs.declared.compute.Computed.{Computed}
use Rattle.workbench_core.specs.declared.refusal.Refusal.{Refusal}
use Rattle.workbench_core.specs.declared.refusal.Refusal.TheVariants.{Memory}
use Rattle.workbench_core.specs.Completed.{CompletedRule, completed_rule, HasFacts, IsForCompleted, IsCompletedFile}
use Rattle.workbench_core.specs.Compute.{of_tree, of_values, held_among, unheld_among, ForConstants, HasValues, IsPastIn, GivesValues, IsReport, WritesReport, IsComputed, Computing, computing}
use Rattle.workbench_core.proofs.CompletedLemmas.{file_goes_on}
use Rattle.workbench_core.proofs.Onward.{file_onward}

-- the listed trees are within the bounds
not_greater : (o : Ordering) → o ≡ Less → o ≢ Greater
not_greater o e = λ g. (let no : Less ≡ Greater = sym e ∙ g in absurd cc)

module _ (eq : Equation) (rule : Rule) (fit : HasTooLargeTree eq rule → ⊥) where
  fits : (t : Plain) → IsListed eq rule t → IsTooLarge t → ⊥
  fits t listed large = fit (record { tree = t; candidate = listed.candidate; at_most_zero = not_greater (degree_order (degree_of eq.types t) degree_zero) listed.negative; large = large })

  bounded : (t : Plain) → IsListed eq rule t → IsBounded t
  bounded t listed = fit_bounded t (not_large_fit t (fits t listed))

  pub few_trees : (ts : List Plain) → (HasTooManyTrees eq rule → ⊥) → IsWholeList eq rule ts → length ts ≤ MOST_LISTED_TREES
  few_trees ts few whole =
      elim (cases_lt MOST_LISTED_TREES (length ts)) [
        | inl many ↦ absurd (few (record {
          trees = ts;
          ascending = whole.ascending;
          many = many;
          listed = whole.listed;
          fit = λ t i. (let f = not_large_fit t (fits t (whole.listed t i)) in (f.edges, f.decorations));
        }))
        | inr at_most ↦ at_most
      ]

  pub bounded_trees : (pool : Content) (ids : List TreeId) → IsWholeList eq rule (trees_of pool ids) → All (λ id. IsBounded (tree_at pool id.0)) ids
  bounded_trees pool ids whole =
      all_from_members (λ (id : TreeId). IsBounded (tree_at pool id.0)) ids (λ id i. bounded (tree_at pool id.0) (whole.listed (tree_at pool id.0) (in_map (λ (j : TreeId). tree_at pool j.0) id ids i)))

-- with the constants over what is held
module _ (done : Completed) (held : Plain → Option Weighed) where
  abbrev constants : Plain → Weighed
  constants = solution done.eq.types (expected done.eq.types) held

  are_constants : IsConstants done.eq.types held constants
  are_constants = is_solution done.eq.types (expected done.eq.types) held

  pub gives_values : (r : Reported) → r.eq ≡ done.eq → r.values.base ≡ done.base → r.values.completed ≡ done.rule →
      ((k : Plain → Weighed) → IsConstants done.eq.types held k → AreValuesOf done.eq held k (trees_of done.pool done.trees) r.values.trees) → GivesValues held (completed_rule done) (Ok r)
  gives_values r eq base rule h = (eq, (constants, are_constants, record { base = base; completed = rule; trees = h constants are_constants }))

module _ (done : Completed) where
  pub can_be_printed : (r : Reported) → HasFacts done → r.eq ≡ done.eq → r.values.base ≡ done.base → r.values.completed ≡ done.rule → All (IsTreeValues done.eq) r.values.trees → AreReportValues r.eq r.values
  can_be_printed r facts eq base rule printed =
      subst (λ (x : Equation). AreReportValues x r.values) (sym eq)
      (record {
        base = subst (HasRows done.eq) (sym base) (rule_rows done.eq done.base facts.equation facts.base.normal);
        completed = subst (HasRows done.eq) (sym rule) facts.rule.rows;
        known = subst (λ (x : Rule). AreKnown done.eq.types x.rows) (sym rule) facts.rule.known;
        trees = printed;
      })

-- the refusal of values
pub past_in : (eq : Equation) (held : Plain → Option Weighed) (pool grown : Content) (ids : List TreeId) (e : ValuesError) (f : Refusal) → pool.types ≡ eq.types → IsGrown pool grown → IsKnownRefusal pool e →
    ((k : Plain → Weighed) → IsConstants eq.types held k → IsListRefused eq held k pool ids e) → (f ≡ Memory) ⊎ (f ≡ of_values grown e) →
    (f ≡ Memory) ⊎ ForConstants eq.types held (λ k. IsPastIn eq held (trees_of pool ids) k f)
past_in eq held pool grown ids e f types growth known h (inl memory) = inl memory
past_in eq held pool grown ids too_large.Memory f types growth known h (inr is) = inl is
past_in eq held pool grown ids (TooLarge tree q) f types growth known h (inr is) =
    let k = solution eq.types (expected eq.types) held in
    let solves = is_solution eq.types (expected eq.types) held in
    inr (
      k,
      solves,
      record {
        tree = tree_at pool tree.0;
        quantity = q;
        first = h k solves;
        is = is ∙ ap (λ (ty : Types). of_tree ty (tree_at grown tree.0) q) (growth.types ∙ types) ∙ ap (λ (t : Plain). of_tree eq.types t q) (grown_at pool grown tree.0 growth known);
      },
    )

-- the work
all_with_tree : (P : Plain → Type 0) (t : Plain) (us : List Plain) → P t → AllByRecursion P us → AllByRecursion P (with_tree t us)
all_with_tree P t [] h k = (h, tt)
all_with_tree P t (u ∷ us) h k = elim (is_gt (tree_order t u)) as (λ b. AllByRecursion P (cond b (u ∷ with_tree t us) (t ∷ u ∷ us))) [ true ↦ (k.0, all_with_tree P t us h k.1) | false ↦ (h, k) ]

all_canon : (P : Plain → Type 0) (ts : List Plain) → AllByRecursion (λ s. P (canon s)) ts → AllByRecursion P (canon_forest ts)
all_canon P [] h = tt
all_canon P (t ∷ ts) h = all_with_tree P (canon t) (canon_forest ts) h.0 (all_canon P ts h.1)

-- the components of listed trees are listed
pub all_components : (eq : Equation) (rule : Rule) (ts : List Plain) → IsWholeList eq rule ts → ((t : Plain) → IsListed eq rule t → IsClosedUnderCutting eq rule t) → HasAllComponents eq.types ts
all_components eq rule ts whole closed t i =
    all_members (λ (x : Extracted × ℕ). HasAll x.0.0 ts) (extraction_terms eq.types t)
    (λ x j.
    let origin = extraction_comes eq.types t x.0 (in_map (λ (y : Extracted × ℕ). y.0) x (extraction_terms eq.types t) j) in
    let listed = (closed t (whole.listed t i) origin.cutting origin.of_tree origin.admissible).0 in
    subst (λ (k : Extracted). HasAll k.0 ts) origin.gives
    (all_canon (λ (f : Plain). IsIn f ts) (components false origin.cutting)
    (all_members (λ (s : Plain). IsIn (canon s) ts) (components false origin.cutting) (λ s m. whole.whole (canon s) (listed s m)))))

pub work_in : (old new : TablesContent) (eq : Equation) (hs : List Held) (ids : List TreeId) (before after : ℕ) → old.pool.types ≡ eq.types → IsPooled new.pool → IsGrown old.pool new.pool → AreHeldOver old.pool hs →
    IsCountOf old new before after → AreFinishedOver old new hs (trees_of old.pool ids) → HasAllComponents eq.types (trees_of old.pool ids) →
    after ≤ before + length (unheld_among (held_over old.pool hs) (trees_of old.pool ids))
work_in old new eq hs ids before after types pooled growth over counted finished all =
    let ts = trees_of old.pool ids in
    let among = finished ts (all_members (λ (f : Plain). IsIn f ts) ts (λ f i. i)) (subst (λ (ty : Types). HasAllComponents ty ts) (sym types) all) in
    let most = work_most old new hs ts before after pooled (over_grown old.pool new.pool hs growth over) counted among in
    let same = λ (t : Plain). held_grown old.pool new.pool hs t growth (well_of old.pool hs over) in
    subst (λ (held : Plain → Option Weighed). after ≤ before + length (unheld_among held ts)) (λ i t. same t i) most

-- as many values as trees
many_values : (eq : Equation) (held : Plain → Option Weighed) (c : Plain → Weighed) (ts : List Plain) (vs : List TreeValues) → AreValuesOf eq held c ts vs → length vs ≡ length ts
many_values eq held c [] [] h = refl
many_values eq held c [] (v ∷ vs) h = absurd h
many_values eq held c (t ∷ ts) [] h = absurd h
many_values eq held c (t ∷ ts) (v ∷ vs) h = let rest = many_values eq held c ts vs h.2 in omega (arith, rest)

-- trees that are held, and the others
both_among : (held : Plain → Option Weighed) (ts : List Plain) → length (held_among held ts) + length (unheld_among held ts) ≡ length ts
both_among held [] = refl
both_among held (t ∷ ts) =
    let rest = both_among held ts in
    elim (held t) as (λ (h : Option Weighed). length (cond (is_some h) (t ∷ held_among held ts) (held_among held ts)) + length (cond (is_none h) (t ∷ unheld_among held ts) (unheld_among held ts)) ≡ length (t ∷ ts)) [
      | None ↦ omega (arith, rest)
      | Some w ↦ omega (arith, rest)
    ]

pub none_among : (ts : List Plain) → 0 ≡ length (held_among nothing ts)
none_among [] = refl
none_among (t ∷ ts) = none_among ts

-- from values to the report
module _ (r : Reported) (g : Computed) (reused : ℕ) (text : IsReportText r.eq r.values g.report.items) (is_reused : g.reused ≡ reused) (others : g.computed + reused ≡ length r.values.trees) where
  pub report_is : (c : CompletedRule) (held : Plain → Option Weighed) (k : Plain → Weighed) → r.eq ≡ c.eq → HasValues c held k r.values → reused ≡ length (held_among held c.trees) → IsReport c held k (computing g)
  report_is c held k eq values count =
      let both = both_among held c.trees in
      let many = many_values c.eq held k c.trees r.values.trees values.trees in
      record {
        values = r.values;
        has_values = values;
        text = subst (λ (x : Equation). IsReportText x r.values g.report.items) eq text;
        reused = is_reused ∙ count;
        computed = omega (arith, both, many, others, count);
      }

abbrev SaysReport : Reported → ℕ → Computed → Type 0
SaysReport r reused g = (c : CompletedRule) (held : Plain → Option Weighed) (k : Plain → Weighed) → r.eq ≡ c.eq → HasValues c held k r.values → reused ≡ length (held_among held c.trees) → IsReport c held k (computing g)

writes_report : (r : Reported) (g : Computed) (c : CompletedRule) → SaysReport r 0 g → GivesValues nothing c (Ok r) → WritesReport nothing c (Ok (computing g))
writes_report r g c says h = (h.1.0, h.1.1, says c nothing h.1.0 h.0 h.1.2 (none_among c.trees))

abbrev pub refused : (T : Type 0) → Refusal → Result T Refusal
refused T e = Err e

pub same_refusal : (T U : Type 0) (e f : Refusal) → refused T e ≡ refused T f → refused U e ≡ refused U f
same_refusal T U e f h = (let same : e ≡ f = cc in ap (refused U) same)

pub refused_file : (file : List ℕ) (e : Refusal) → (e ≡ Memory) ⊎ IsForCompleted (GivesValues nothing) file (Err e) → (e ≡ Memory) ⊎ IsComputed file (Err e)
refused_file file e (inl memory) = inl memory
refused_file file e (inr h) = inr (file_onward (GivesValues nothing) (WritesReport nothing) (Err e) (Err e) (λ f is. same_refusal Reported Computing e f is) (λ c given. given) file h)

pub report_printed : (file : List ℕ) (r : Reported) (printed : Result Computed Refusal) → IfOk printed (SaysReport r 0) → IsForCompleted (GivesValues nothing) file (Ok r) →
    IfOk printed (λ g. IsComputed file (Ok (computing g)))
report_printed file r (Ok g) says h = file_onward (GivesValues nothing) (WritesReport nothing) (Ok r) (Ok (computing g)) (λ e is. absurd cc) (λ c given. writes_report r g c says given) file h
report_printed file r (Err e) says h = says

-- what is held at the start is nothing
pub given_nothing : (c : CompletedRule) (pool : Content) (hs : List Held) (r : Result Reported Refusal) → hs ≡ [] → GivesValues (held_over pool hs) c r → GivesValues nothing c r
given_nothing c pool [] r e h = h
given_nothing c pool (g ∷ hs) r e h = absurd cc

pub over_nothing : (pool : Content) (hs : List Held) → hs ≡ [] → AreHeldOver pool hs
over_nothing pool hs e = subst (AreHeldOver pool) (sym e) tt

pub typed_nothing : (ty : Types) (hs : List Held) → hs ≡ [] → AreHeldTyped ty hs
typed_nothing ty hs e = subst (AreHeldTyped ty) (sym e) tt

pub refused_nothing : (file : List ℕ) (done : Completed) (hs : List Held) (e : Refusal) → hs ≡ [] → IsCompletedFile file (Ok (completed_rule done)) →
    (e ≡ Memory) ⊎ GivesValues (held_over done.pool hs) (completed_rule done) (Err e) → (e ≡ Memory) ⊎ IsForCompleted (GivesValues nothing) file (Err e)
refused_nothing file done hs e none completed (inl memory) = inl memory
refused_nothing file done hs e none completed (inr h) =
    inr (file_goes_on (GivesValues nothing) (completed_rule done) (Err e) (given_nothing (completed_rule done) done.pool hs (Err e) none h) file completed)

-- as much work as trees that are not held
fewer : {X : Type 0} (p : X → Bool) (xs : List X) → length (filter p xs) ≤ length xs
fewer p [] = omega arith
fewer p (x ∷ xs) = let rest = fewer p xs in elim (p x) as (λ b. length (cond b (x ∷ filter p xs) (filter p xs)) ≤ length (x ∷ xs)) [ true ↦ omega (arith, rest) | false ↦ omega (arith, rest) ]

pub work_of_all : (done : Completed) (held : Plain → Option Weighed) (r : Reported) (before after : ℕ) → GivesValues held (completed_rule done) (Ok r) →
    after ≤ before + length (unheld_among held (completed_rule done).trees) → after ≤ before + length r.values.trees
work_of_all done held r before after h most =
    let many = many_values done.eq held h.1.0 (completed_rule done).trees r.values.trees h.1.2.trees in
    let few = fewer (λ t. is_none (held t)) (completed_rule done).trees in
    omega (arith, most, many, few)

-- from what a completed rule gives to what its file gives
pub over_file : (file : List ℕ) (done : Completed) (hs : List Held) (result : Result Reported Refusal) → hs ≡ [] → IsCompletedFile file (Ok (completed_rule done)) →
    IfOk result (λ r. GivesValues (held_over done.pool hs) (completed_rule done) (Ok r)) → IfOk result (λ r. IsForCompleted (GivesValues nothing) file (Ok r))
over_file file done hs (Ok r) none completed h = file_goes_on (GivesValues nothing) (completed_rule done) (Ok r) (given_nothing (completed_rule done) done.pool hs (Ok r) none h) file completed
over_file file done hs (Err e) none completed h = h

pub refused_over_file : (file : List ℕ) (done : Completed) (hs : List Held) (result : Result Reported Refusal) → hs ≡ [] → IsCompletedFile file (Ok (completed_rule done)) →
    IfErr result (λ e. (e ≡ Memory) ⊎ GivesValues (held_over done.pool hs) (completed_rule done) (Err e)) → IfErr result (λ e. (e ≡ Memory) ⊎ IsForCompleted (GivesValues nothing) file (Err e))
refused_over_file file done hs (Ok r) none completed h = h
refused_over_file file done hs (Err e) none completed h = refused_nothing file done hs e none completed h

pub work_over : (done : Completed) (hs : List Held) (result : Result Reported Refusal) (before after : ℕ) → IfOk result (λ r. GivesValues (held_over done.pool hs) (completed_rule done) (Ok r)) →
    IfOk result (λ r. after ≤ before + length (unheld_among (held_over done.pool hs) (completed_rule done).trees)) → IfOk result (λ r. after ≤ before + length r.values.trees)
work_over done hs (Ok r) before after h most = work_of_all done (held_over done.pool hs) r before after h most
work_over done hs (Err e) before after h most = most

-- the parts of a completed rule
abbrev pub SaysValues : Equation → Content → List Held → List TreeId → List TreeValues → Type 0
SaysValues eq pool hs ids vs = (k : Plain → Weighed) → IsConstants eq.types (held_over pool hs) k → AreValuesOf eq (held_over pool hs) k (trees_of pool ids) vs

abbrev pub SaysRefused : Equation → Content → List Held → List TreeId → Refusal → Type 0
SaysRefused eq pool hs ids e = (e ≡ Memory) ⊎ ForConstants eq.types (held_over pool hs) (λ k. IsPastIn eq (held_over pool hs) (trees_of pool ids) k e)

module _ (done : Completed) (eq : Equation) (pool : Content) (ids : List TreeId) (is_eq : eq ≡ done.eq) (is_pool : pool ≡ done.pool) (are_ids : ids ≡ done.trees) where
  pub known_in : HasFacts done → All (λ id. id.0 < length pool.trees) ids
  known_in facts = subst (λ (js : List TreeId). All (λ id. id.0 < length pool.trees) js) (sym are_ids) (subst (λ (p : Content). All (λ id. id.0 < length p.trees) done.trees) (sym is_pool) facts.known)

  pub bounded_in : HasFacts done → All (λ id. IsBounded (tree_at pool id.0)) ids
  bounded_in facts =
      subst (λ (js : List TreeId). All (λ id. IsBounded (tree_at pool id.0)) js) (sym are_ids)
      (subst (λ (p : Content). All (λ id. IsBounded (tree_at p id.0)) done.trees) (sym is_pool) (bounded_trees done.eq done.rule facts.fit done.pool done.trees facts.whole))

  pub held_in : (hs : List Held) → AreHeldOver done.pool hs → AreHeldOver pool hs
  held_in hs over = subst (λ (p : Content). AreHeldOver p hs) (sym is_pool) over

  pub values_in_done : (hs : List Held) (vs ws : List TreeValues) → ws ≡ vs → SaysValues eq pool hs ids vs → SaysValues done.eq done.pool hs done.trees ws
  values_in_done hs vs ws same h =
      subst (λ (x : Equation). SaysValues x done.pool hs done.trees ws) is_eq
      (subst (λ (p : Content). SaysValues eq p hs done.trees ws) is_pool (subst (λ (js : List TreeId). SaysValues eq pool hs js ws) are_ids (subst (λ (us : List TreeValues). SaysValues eq pool hs ids us) (sym same) h)))

  pub refused_in_done : (hs : List Held) (e : Refusal) → SaysRefused eq pool hs ids e → SaysRefused done.eq done.pool hs done.trees e
  refused_in_done hs e h =
      subst (λ (x : Equation). SaysRefused x done.pool hs done.trees e) is_eq (subst (λ (p : Content). SaysRefused eq p hs done.trees e) is_pool (subst (λ (js : List TreeId). SaysRefused eq pool hs js e) are_ids h))

  pub closed_in : HasFacts done → HasAllComponents eq.types (trees_of pool ids)
  closed_in facts =
      let all = all_components done.eq done.rule (trees_of done.pool done.trees) facts.whole facts.closed in
      subst (λ (x : Equation). HasAllComponents x.types (trees_of pool ids)) (sym is_eq)
      (subst (λ (p : Content). HasAllComponents done.eq.types (trees_of p ids)) (sym is_pool) (subst (λ (js : List TreeId). HasAllComponents done.eq.types (trees_of done.pool js)) (sym are_ids) all))

  pub work_on : (hs : List Held) (before after : ℕ) → after ≤ before + length (unheld_among (held_over pool hs) (trees_of pool ids)) →
      after ≤ before + length (unheld_among (held_over done.pool hs) (completed_rule done).trees)
  work_on hs before after h =
      subst (λ (p : Content). after ≤ before + length (unheld_among (held_over p hs) (trees_of p done.trees))) is_pool
      (subst (λ (js : List TreeId). after ≤ before + length (unheld_among (held_over pool hs) (trees_of pool js))) are_ids h)

pub few_values : (done : Completed) (held : Plain → Option Weighed) (r : Reported) → HasFacts done → GivesValues held (completed_rule done) (Ok r) → length r.values.trees ≤ MOST_LISTED_TREES
few_values done held r facts h =
    let many = many_values done.eq held h.1.0 (completed_rule done).trees r.values.trees h.1.2.trees in
    let few = few_trees done.eq done.rule facts.fit (trees_of done.pool done.trees) facts.few facts.whole in
    omega (arith, many, few)
