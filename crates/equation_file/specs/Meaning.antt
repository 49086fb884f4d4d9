-- The equation that a document writes down.
--   with_group groups n == the names of groups, and behind them that of the noise n where it is not
--       there
--   groups_of noises == the names of the groups, in the order of their first noise
--   is_written written i == the direction i stands in the list
--   reflect_of dims written == the directions that stand in the list, ascending
--   noise_type l groups n, kernel_type l u == the types of a noise and of an unknown, whose degrees
--       are in units of one over l
--   type_list l doc == the types: noises, then kernels, in file order
--   types_of l doc == these with the scaling, the groups and the directions that may be reflected
--   unknown_of l q names k u right == the unknown with kernel k, whose right side is collected and
--       cleared by q
--   unknowns_from l q names k us rights == the unknowns with their right sides, whose kernels count
--       from k
--   equation_in l q doc == the equation in units of one over l, cleared by q
--   document_equation doc == the equation, in units of one over the least common denominator of the
--       degrees, cleared by that of the coefficients
use Rattle.std.specs.Prelude.{ℕ, ◌+◌, pos, List, [], ◌∷◌, ◌++◌, length, map, take, if◌then◌else◌, fold, Bool, nat_eq, None}
use Rattle.std.specs.List.{list_any, filter, range_with_len}
use Rattle.degree_numbers.specs.declared.types.Kind.TheVariants.{Noise, Kernel}
use Rattle.degree_numbers.specs.declared.types.TypeEntry.{TypeEntry}
use Rattle.degree_numbers.specs.declared.types.Types.{Types}
use Rattle.degree_numbers.specs.Written.{degree_in}
use Rattle.right_side_text.specs.declared.written.WrittenTerm.{WrittenTerm}
use Rattle.equation_document.specs.declared.document.Document.{Document}
use Rattle.equation_document.specs.declared.document.NoiseEntry.{NoiseEntry}
use Rattle.equation_document.specs.declared.document.UnknownEntry.{UnknownEntry}
use Rattle.equation_document.specs.declared.names.Names.{Names}
use Rattle.equation_document.specs.Limits.{units_of, denominator_of}
use Rattle.equation_document.specs.Names.{place_of, stands_in}
use Rattle.equations.specs.declared.equation.Equation.{Equation}
use Rattle.equations.specs.declared.equation.Unknown.{Unknown}
use Rattle.equation_file.specs.Collect.{collected}
use Rattle.equation_file.specs.Products.{five, products}

abbrev pub with_group : List (List ℕ) → NoiseEntry → List (List ℕ)
with_group groups n = if stands_in groups n.group then groups else groups ++ n.group ∷ []

abbrev pub groups_of : List NoiseEntry → List (List ℕ)
groups_of noises = fold with_group [] noises

abbrev pub is_written : List ℕ → ℕ → Bool
is_written written i = list_any (λ j. nat_eq j i) written

abbrev pub reflect_of : ℕ → List ℕ → List ℕ
reflect_of dims written = filter (is_written written) (range_with_len 1 dims)

abbrev pub noise_type : ℕ → List (List ℕ) → NoiseEntry → TypeEntry
noise_type l groups n = record {
  name = n.name;
  kind = Noise;
  degree = degree_in l n.degree;
  group = place_of groups n.group;
  moments = None;
}

abbrev pub kernel_type : ℕ → UnknownEntry → TypeEntry
kernel_type l u = record {
  name = u.name;
  kind = Kernel;
  degree = degree_in l u.degree;
  group = 0;
  moments = u.moments;
}

abbrev pub type_list : ℕ → Document → List TypeEntry
type_list l doc = map (noise_type l (groups_of doc.noises)) doc.noises
    ++ map (kernel_type l) doc.unknowns

abbrev pub types_of : ℕ → Document → Types
types_of l doc = record {
  dims = length doc.scaling;
  scaling = five doc.scaling;
  units = record { den = pos l };
  list = type_list l doc;
  groups = groups_of doc.noises;
  reflect = reflect_of (length doc.scaling) doc.reflect;
}

abbrev pub unknown_of : ℕ → ℕ → Names → ℕ → UnknownEntry → List WrittenTerm → Unknown
unknown_of l q names k u right = record {
  kernel = record { 0 = k };
  regularity = degree_in l u.regularity;
  right = collected q (products names right);
}

abbrev pub unknowns_from : ℕ → ℕ → Names → ℕ → List UnknownEntry → List (List WrittenTerm) →
    List Unknown
unknowns_from l q names k [] rights = []
unknowns_from l q names k (u ∷ us) [] = []
unknowns_from l q names k (u ∷ us) (right ∷ rights) =
    unknown_of l q names k u right ∷ unknowns_from l q names (k + 1) us rights

abbrev pub equation_in : ℕ → ℕ → Document → Equation
equation_in l q doc = record {
  types = types_of l doc;
  parameters = take doc.names.first_noise doc.names.list;
  unknowns = unknowns_from l q doc.names (length doc.noises) doc.unknowns doc.rights;
  denominator = pos q;
}

unfoldable pub document_equation : Document → Equation
document_equation doc = equation_in (units_of doc) (denominator_of doc) doc
