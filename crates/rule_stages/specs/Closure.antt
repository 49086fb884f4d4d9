-- What the completion of a rule is closed under.
--   AreComponentsListed eq rule c == each component of the cutting c is, in canonical form, a
--       listed tree of the rule
--   IsQuotientConforming eq rule c == its quotient strongly conforms to the rule, in canonical form
--   IsClosedUnderCutting eq rule t == so it is for each cutting of t all of whose components are
--       unplanted and of negative degree
use Rattle.std.specs.Prelude.{◌≡◌, true, false}
use Rattle.equations.specs.declared.equation.Equation.{Equation}
use Rattle.ordered_lists.specs.Members.{IsIn}
use Rattle.plain_trees.specs.Plain.{Plain}
use Rattle.plain_trees.specs.Canon.{canon}
use Rattle.plain_trees.specs.Cutting.{Cutting, components, quotient, cuttings}
use Rattle.plain_trees.specs.Coproducts.{extraction_bound, is_admissible}
use Rattle.normal_rule.specs.declared.rule.Rule.{Rule}
use Rattle.conforming_trees.specs.Conforming.{IsConforming}
use Rattle.conforming_trees.specs.Listed.{IsListed}

abbrev pub AreComponentsListed : Equation → Rule → Cutting → Type 0
AreComponentsListed eq rule c = (t : Plain) → IsIn t (components false c) →
    IsListed eq rule (canon t)

abbrev pub IsQuotientConforming : Equation → Rule → Cutting → Type 0
IsQuotientConforming eq rule c = IsConforming eq.types rule (canon (quotient c))

abbrev pub IsClosedUnderCutting : Equation → Rule → Plain → Type 0
IsClosedUnderCutting eq rule t =
    (c : Cutting) → IsIn c (cuttings (extraction_bound eq.types t) false t) →
    is_admissible eq.types c ≡ true → AreComponentsListed eq rule c × IsQuotientConforming eq rule c
