-- Values over constants that are held besides are values over those that were held.
use Rattle.std.proofs.Common.{◌≡◌, ◌<◌, inl, inr, List, [], ◌∷◌, length, Result, Ok, Err, IfOk, IfErr, refl, Option, Some}
use Rattle.std.specs.List.{All, AllByRecursion}
use Rattle.ordered_lists.specs.Members.{IsIn}
use Rattle.exact_sums.specs.Saturating.{overflow}
use Rattle.equations.specs.declared.Equation.{Equation}
use Rattle.plain_trees.specs.Plain.{Plain}
use Rattle.plain_trees.specs.Degree.{HasTypes}
use Rattle.tree_pool.specs.Content.{Content, IsGrown, IsPooled, tree_at, trees_of}
use Rattle.tree_pool.specs.declared.TreeId.{TreeId}
use Rattle.tree_pool.proofs.Growth.{grown_refl}
use Rattle.extraction_coproduct.specs.Finished.{TablesContent}
use Rattle.counterterm_report.specs.declared.TreeValues.{TreeValues}
use Rattle.antipode_laws.specs.Weighed.{Weighed}
use Rattle.antipode_laws.specs.Constants.{expected, IsConstants}
use Rattle.antipode_laws.proofs.Solutions.{solution, is_solution}
use Rattle.twisted_antipode.specs.Counts.{AreFinishedOver}
use Rattle.twisted_antipode.specs.Held.{Held, held_over, AreHeldOver, IsExtended}
use Rattle.twisted_antipode.proofs.CountLaws.{over_same, over_after}
use Rattle.tree_values.specs.declared.quantity.Quantity.{Quantity}
use Rattle.tree_values.specs.declared.error.ValuesError.{ValuesError}
use Rattle.tree_values.specs.declared.error.ValuesError.TheVariants.{TooLarge, Memory}
use Rattle.tree_values.specs.Ranges.{IsFirstRefused}
use Rattle.tree_values.specs.Values.{AreValuesOf, IsListRefused}
use Rattle.tree_values.proofs.Extended.{IsMoreHeld, more_held}
use Rattle.tree_values.proofs.HeldMore.{held_range, in_range_before, first_before, values_before}
use Rattle.vanishing_constants.proofs.HeldZeros.{trees_typed}

module _ (eq : Equation) (held more : Plain → Option Weighed) (extends : IsMoreHeld eq.types held more) (range : (t : Plain) (w : Weighed) → more t ≡ Some w → w.mass < overflow)
    (c : Plain → Weighed) (solves : IsConstants eq.types held c) where
  over_more : Plain → Weighed
  over_more = solution eq.types (expected eq.types) more

  also : IsConstants eq.types more over_more
  unfolding over_more
  also = is_solution eq.types (expected eq.types) more

  list_before : (d : Plain → Weighed) → IsConstants eq.types more d → (ts : List Plain) (vs : List TreeValues) → AllByRecursion (HasTypes eq.types) ts → AreValuesOf eq more d ts vs → AreValuesOf eq held c ts vs
  list_before d k [] [] typed h = h
  list_before d k [] (v ∷ vs) typed h = h
  list_before d k (t ∷ ts) [] typed h = h
  list_before d k (t ∷ ts) (v ∷ vs) typed h =
      (in_range_before eq held more c d solves k (extends c solves) range t typed.0 h.0, values_before eq held more c d solves k (extends c solves) range t typed.0 v h.1, list_before d k ts vs typed.1 h.2)

  pub values_from : (ts : List Plain) (vs : List TreeValues) → AllByRecursion (HasTypes eq.types) ts → ((d : Plain → Weighed) → IsConstants eq.types more d → AreValuesOf eq more d ts vs) → AreValuesOf eq held c ts vs
  values_from ts vs typed h = list_before over_more also ts vs typed (h over_more also)

  refused_before : (d : Plain → Weighed) → IsConstants eq.types more d → (ts : List Plain) (t : Plain) (q : Quantity) → AllByRecursion (HasTypes eq.types) ts → IsFirstRefused eq more d ts t q → IsFirstRefused eq held c ts t q
  refused_before d k [] t q typed h = h
  refused_before d k (s ∷ ts) t q typed (inl h) = inl (h.0, first_before eq held more c d solves k (extends c solves) range s typed.0 q h.1)
  refused_before d k (s ∷ ts) t q typed (inr h) = inr (in_range_before eq held more c d solves k (extends c solves) range s typed.0 h.0, refused_before d k ts t q typed.1 h.1)

  pub refused_from : (pool : Content) (ids : List TreeId) (e : ValuesError) → AllByRecursion (HasTypes eq.types) (trees_of pool ids) → ((d : Plain → Weighed) → IsConstants eq.types more d → IsListRefused eq more d pool ids e) → IsListRefused eq held c pool ids e
  refused_from pool ids (TooLarge tree q) typed h = refused_before over_more also (trees_of pool ids) (tree_at pool tree.0) q typed (h over_more also)
  refused_from pool ids Memory typed h = tt

-- over what was held before 0 was put in
module _ (eq : Equation) (pool : Content) (old mid : List Held) (ids : List TreeId) (pooled : IsPooled pool) (types : pool.types ≡ eq.types) (known : All (λ id. id.0 < length pool.trees) ids) (before : AreHeldOver pool old)
    (held : AreHeldOver pool mid) (extended : IsExtended pool old mid) where
  typed : AllByRecursion (HasTypes eq.types) (trees_of pool ids)
  typed = trees_typed pool eq.types ids pooled types known

  more : IsMoreHeld eq.types (held_over pool old) (held_over pool mid)
  more = more_held eq.types pool pool old mid types (grown_refl pool) before extended

  range : (t : Plain) (w : Weighed) → held_over pool mid t ≡ Some w → w.mass < overflow
  range t w e = held_range pool mid t w held e

  abbrev Says : List Held → List TreeValues → Type 0
  Says hs vs = (c : Plain → Weighed) → IsConstants eq.types (held_over pool hs) c → AreValuesOf eq (held_over pool hs) c (trees_of pool ids) vs

  abbrev Refuses : List Held → ValuesError → Type 0
  Refuses hs e = (c : Plain → Weighed) → IsConstants eq.types (held_over pool hs) c → IsListRefused eq (held_over pool hs) c pool ids e

  pub says_before : (vs : List TreeValues) → Says mid vs → Says old vs
  says_before vs h = λ c solves. values_from eq (held_over pool old) (held_over pool mid) more range c solves (trees_of pool ids) vs typed h

  pub refuses_before : (e : ValuesError) → Refuses mid e → Refuses old e
  refuses_before e h = λ c solves. refused_from eq (held_over pool old) (held_over pool mid) more range c solves pool ids e typed h

  pub values_kept : {E : Type 0} (r : Result (List TreeValues) E) → IfOk r (Says mid) → IfOk r (Says old)
  values_kept (Ok vs) h = says_before vs h
  values_kept (Err e) h = h

  pub refusal_kept : {T : Type 0} (r : Result T ValuesError) → IfErr r (Refuses mid) → IfErr r (Refuses old)
  refusal_kept (Ok vs) h = h
  refusal_kept (Err e) h = refuses_before e h

pub finished_from : (a b : TablesContent) (old mid : List Held) (fs : List Plain) → IsGrown a.pool b.pool → ((h : Held) → IsIn h old → IsIn h mid) → AreFinishedOver a b mid fs → AreFinishedOver a b old fs
finished_from a b old mid fs g kept h = over_after a a b old mid fs (grown_refl a.pool) g kept (over_same a a old fs refl) h
