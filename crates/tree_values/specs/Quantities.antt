-- The quantities of a tree that a report or a detail asks for.
--   quantity_text ty q == the words for the quantity q; those of one at an unknown end with its
--       name
--   quantities_at us == the differential and then the denominator at each of the unknowns us
--   quantities eq == what the report asks for each tree, in this order: the coefficients of its
--       extraction coproduct, the mass of its constant, and those of each unknown
use Rattle.std.specs.Prelude.{ℕ, List, [], ◌∷◌, ◌++◌, codes, flat_map}
use Rattle.degree_numbers.specs.declared.types.Types.{Types}
use Rattle.degree_numbers.specs.Types.{name_of}
use Rattle.equations.specs.declared.equation.Equation.{Equation}
use Rattle.equations.specs.declared.equation.Unknown.{Unknown}
use Rattle.tree_values.specs.declared.quantity.Quantity.{Quantity}
use Rattle.tree_values.specs.declared.quantity.Quantity.TheVariants.{Extraction, Recentring, Antipode, Constant, Differential, Denominator}

abbrev pub quantity_text : Types → Quantity → List ℕ
quantity_text ty Extraction = codes "extraction"
quantity_text ty Recentring = codes "recentring"
quantity_text ty Antipode = codes "antipode"
quantity_text ty Constant = codes "constant"
quantity_text ty (Differential kernel) = codes "differential " ++ name_of ty kernel.0
quantity_text ty (Denominator kernel) = codes "denominator " ++ name_of ty kernel.0

abbrev pub quantities_at : List Unknown → List Quantity
quantities_at us = flat_map (λ u. Differential u.kernel ∷ Denominator u.kernel ∷ []) us

abbrev pub quantities : Equation → List Quantity
quantities eq = Extraction ∷ Constant ∷ quantities_at eq.unknowns
