-- What is true of all that a table holds, where it has no fault.
--   IsFractionRead f == the denominator of f is not 0
--   IsDegreeRead w == so are both of w; and where w has no number past 1,000,000, so have none its
--       fractions
--   IsFactorRead names dims f == the name of f is known, its derivative has no entry or one for
--       each dimension, its power is not 0
--   IsTermRead names dims t == so is each factor of t, the denominator of its coefficient is not 0,
--       and t has at most one noise
--   IsRead doc == the scaling is not empty and has no 0; the names are names, all different:
--       parameters, noises, unknowns; groups are names; degrees are read; kernel degrees are above
--       0 and have, as the regularities, no k part; moment numbers are at most 20; there is an
--       unknown, and a right side for each, of terms that are read
use Rattle.std.specs.Prelude.{ℕ, ◌≡◌, ◌≤◌, ◌<◌, ◌+◌, ◌⊎◌, true, ◌++◌, length, map, take, None}
use Rattle.std.specs.List.{AllByRecursion}
use Rattle.degree_numbers.specs.DegreeText.{Written}
use Rattle.degree_numbers.specs.Name.{is_name}
use Rattle.degree_numbers.specs.Types.{AreNames, IsMoments}
use Rattle.right_side_text.specs.declared.written.WrittenFactor.{WrittenFactor}
use Rattle.right_side_text.specs.declared.written.WrittenTerm.{WrittenTerm}
use Rattle.equation_document.specs.declared.document.Document.{Document}
use Rattle.equation_document.specs.declared.document.UnknownEntry.{UnknownEntry}
use Rattle.equation_document.specs.declared.names.Names.{Names}
use Rattle.equation_document.specs.DegreeEntry.{is_positive, is_standard}
use Rattle.equation_document.specs.Names.{is_known, noise_power}

pub record IsDegreeRead (w : Written) : Type 0 where
  pub plain_above : 0 < w.plain.den
  pub k_above : 0 < w.with_k.den
  pub plain_num : w.large ≡ None → w.plain.num ≤ 1000000
  pub plain_den : w.large ≡ None → w.plain.den ≤ 1000000
  pub k_num : w.large ≡ None → w.with_k.num ≤ 1000000
  pub k_den : w.large ≡ None → w.with_k.den ≤ 1000000

pub record IsFactorRead (names : Names) (dims : ℕ) (f : WrittenFactor) : Type 0 where
  pub known : is_known names f ≡ true
  pub entries : (length f.entries ≡ 0) ⊎ (length f.entries ≡ dims)
  pub power : 0 < f.power

pub record IsTermRead (names : Names) (dims : ℕ) (t : WrittenTerm) : Type 0 where
  pub den_above : 0 < t.coefficient.den
  pub factors : AllByRecursion (IsFactorRead names dims) t.factors
  pub one_noise : noise_power names t ≤ 1

pub record IsUnknownRead (u : UnknownEntry) : Type 0 where
  pub degree : IsDegreeRead u.degree
  pub positive : is_positive u.degree ≡ true
  pub regularity : IsDegreeRead u.regularity
  pub standard : is_standard u.regularity ≡ true
  pub moments : IsMoments u.moments

pub record IsRead (doc : Document) : Type 0 where
  pub dims : 0 < length doc.scaling
  pub scaling : AllByRecursion (λ s. 0 < s) doc.scaling
  pub names : AreNames doc.names.list
  pub in_parts : doc.names.list ≡ take doc.names.first_noise doc.names.list ++ (map (λ n. n.name) doc.noises ++ map (λ u. u.name) doc.unknowns)
  pub first_noise : doc.names.first_noise ≤ length doc.names.list
  pub first_unknown : doc.names.first_unknown ≡ doc.names.first_noise + length doc.noises
  pub groups : AllByRecursion (λ n. is_name n.group ≡ true) doc.noises
  pub noises : AllByRecursion (λ n. IsDegreeRead n.degree) doc.noises
  pub some : 0 < length doc.unknowns
  pub unknowns : AllByRecursion IsUnknownRead doc.unknowns
  pub rights : length doc.rights ≡ length doc.unknowns
  pub terms : AllByRecursion (AllByRecursion (IsTermRead doc.names (length doc.scaling))) doc.rights
