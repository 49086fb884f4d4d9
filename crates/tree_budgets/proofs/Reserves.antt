-- The reserve of a node type, as it is found.
use Rattle.std.proofs.Common.{◌≡◌, ℕ, ◌+◌, ◌<◌, ◌⊎◌, List, [], length, take, get_or, refl, sym, subst, inl, inr, arith}
use Rattle.std.specs.List.{All}
use Rattle.std.proofs.lemmas.Int.{ints}
use Rattle.degree_numbers.specs.declared.Degree.{Degree}
use Rattle.degree_numbers.specs.declared.Types.{Types}
use Rattle.degree_numbers.specs.Degree.{degree_zero}
use Rattle.degree_numbers.specs.Types.{AreTypes}
use Rattle.equations.specs.declared.Equation.{Equation}
use Rattle.ordered_lists.specs.Members.{IsIn}
use Rattle.ordered_lists.proofs.Members.{all_at}
use Rattle.normal_rule.specs.declared.NodeType.{NodeType}
use Rattle.normal_rule.specs.declared.RuleRow.{RuleRow}
use Rattle.conforming_trees.specs.Conforming.{EdgeLabel, labels}
use Rattle.conforming_trees.specs.Budgets.{IsNotAbove, IsUsable, IsReserve}
use Rattle.tree_budgets.specs.Bounds.{IsModest, AreBounded}
use Rattle.tree_budgets.specs.Fronts.{IsFrontLow, IsFrontLeast}
use Rattle.tree_budgets.proofs.FrontLaws.{least_lower, usable_part}
use Rattle.tree_budgets.proofs.Loops.{all_step, read_member}
use Rattle.tree_budgets.proofs.SumBounds.{lows_modest}

-- after the first node types of the row
pub record IsLeastSoFar (ty : Types) (lows : List Degree) (row : RuleRow) (es : List EdgeLabel) (done : List NodeType) (d : Degree) : Type 0 where
  pub attained : IsUsable es → (m : NodeType) × IsIn m row.nodes × IsFrontLow ty lows m es d
  pub least : All (IsFrontLeast ty lows es d) done
  pub modest : IsModest d

none_modest : IsModest degree_zero
none_modest = record { a = record { low = omega (arith, ints); high = omega (arith, ints) }; b = record { low = omega (arith, ints); high = omega (arith, ints) } }

pub least_at_first : (ty : Types) (lows : List Degree) (row : RuleRow) (n : NodeType) → IsIn n row.nodes → IsLeastSoFar ty lows row (labels n) [] degree_zero
least_at_first ty lows row n i = record {
  attained = λ u. (n, i, record { front = []; usable = u; ends = refl; is = refl });
  least = λ k d lt. absurd (omega (arith, lt));
  modest = none_modest;
}

module _ (ty : Types) (lows : List Degree) (row : RuleRow) (es : List EdgeLabel) (h : AreTypes ty) (b : AreBounded lows) where
  front_modest : (m : NodeType) (d : Degree) → IsFrontLow ty lows m es d → IsModest d
  front_modest m d f = lows_modest ty lows f.front d h b (usable_part f.front es (subst IsUsable f.ends f.usable)) f.is

  lower_all : (d e : Degree) (ns : List NodeType) → IsNotAbove e d → All (IsFrontLeast ty lows es d) ns → All (IsFrontLeast ty lows es e) ns
  lower_all d e ns le all = λ k m lt. least_lower ty lows es d e (get_or ns k m) le (all k m lt)

  pub least_more : (items : List NodeType) (i : ℕ) (m none : NodeType) (d e : Degree) →
      i < length items → m ≡ get_or items i none → items ≡ row.nodes →
      IsLeastSoFar ty lows row es (take i items) d → IsNotAbove e d →
      IsFrontLeast ty lows es e m → (e ≡ d) ⊎ IsFrontLow ty lows m es e → IsLeastSoFar ty lows row es (take (i + 1) items) e
  least_more items i m none d e lt at same s le here is = record {
    attained = λ u. elim is [
      | inl old ↦ let a = s.attained u in (a.0, a.1, subst (IsFrontLow ty lows a.0 es) (sym old) a.2)
      | inr new ↦ (m, read_member items row.nodes i m none lt at same, new)
    ];
    least = all_step (IsFrontLeast ty lows es e) items i m none lt at (lower_all d e (take i items) le s.least) here;
    modest = elim is [ inl old ↦ subst IsModest (sym old) s.modest | inr new ↦ front_modest m e new ];
  }

pub least_is_reserve : (eq : Equation) (lows : List Degree) (row : RuleRow) (es : List EdgeLabel) (d : Degree) →
    IsLeastSoFar eq.types lows row es row.nodes d → IsUsable es → IsReserve eq lows row es d
least_is_reserve eq lows row es d s u =
    let a = s.attained u in record {
      node = a.0;
      front = a.2.front;
      node_of_row = a.1;
      usable = a.2.usable;
      ends = a.2.ends;
      is = a.2.is;
      least = λ n f i usable ends. (all_at (IsFrontLeast eq.types lows es d) row.nodes n s.least i).least f usable ends;
    }
