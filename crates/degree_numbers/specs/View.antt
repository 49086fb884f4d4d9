-- What the parts that the code keeps mean.
-- What contracts of public calls say:
--   fraction f == the fraction that is kept as f
--   part p == the part that is kept as p: its fraction, and whether it has `k`
--   parts p == what both parts write
-- Working notions of the code and of proofs:
--   lowest f == the fraction in lowest terms that is kept as f
use Rattle.std.specs.Option.{option_map}
use Rattle.degree_numbers.specs.declared.part.Fraction.{Fraction as KeptFraction}
use Rattle.degree_numbers.specs.declared.part.Part.{Part as KeptPart}
use Rattle.degree_numbers.specs.declared.part.Parts.{Parts as KeptParts}
use Rattle.degree_numbers.specs.declared.lowest.Lowest.{Lowest as KeptLowest}
use Rattle.degree_numbers.specs.Fraction.{Fraction}
use Rattle.degree_numbers.specs.DegreeText.{Part, Written, written}

abbrev pub fraction : KeptFraction → Fraction
fraction f = record { negative = f.negative; num = f.num; den = f.den }

abbrev pub part : KeptPart → Part
part p = record { fraction = fraction p.fraction; has_k = p.has_k }

-- what both parts write
abbrev pub parts : KeptParts → Written
parts p = written (part p.first) (option_map part p.second)

abbrev pub lowest : KeptLowest → Fraction
lowest f = record { negative = f.negative; num = f.num; den = f.den }
