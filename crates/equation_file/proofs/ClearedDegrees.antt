-- The units of a document clear all its degrees, and a file can write what they become.
use Rattle.std.proofs.Common.{◌≡◌, ℕ, ◌==◌, ◌<◌, ◌≤◌, Bool, true, false, not, List, [], ◌∷◌, ◌++◌, map, fold, None, pos, refl, arith}
use Rattle.std.proofs.lemmas.Bool.{not-true}
use Rattle.std.specs.List.{AllByRecursion}
use Rattle.std.proofs.lemmas.Bool.Decides.{nat_tests}
use Rattle.text_parts.specs.Reading.{most}
use Rattle.degree_numbers.specs.DegreeText.{Written}
use Rattle.degree_numbers.specs.Fraction.{Fraction, Clears, ClearsAll}
use Rattle.degree_numbers.specs.Types.{IsWritable, IsNoiseEntry, IsKernelEntry}
use Rattle.degree_numbers.specs.Written.{above_zero, in_units_of, degree_in}
use Rattle.degree_numbers.proofs.InUnits.{in_units_in_range, in_units_size, rounded_up_most, in_units_zero, in_units_above}
use Rattle.right_side_text.specs.declared.written.WrittenFraction.{WrittenFraction}
use Rattle.equation_document.specs.declared.document.Document.{Document}
use Rattle.equation_document.specs.declared.document.NoiseEntry.{NoiseEntry}
use Rattle.equation_document.specs.declared.document.UnknownEntry.{UnknownEntry}
use Rattle.equation_document.specs.DegreeEntry.{written, is_standard, rounded_up, degree_size}
use Rattle.equation_document.specs.FirstOf.{over}
use Rattle.equation_document.specs.Limits.{noise_number, unknown_number, noise_size, unknown_size, with_fractions, noise_fractions, unknown_fractions, degree_fractions, units_of}
use Rattle.equation_document.proofs.DocumentRead.{IsDegreeRead, IsUnknownRead}
use Rattle.equation_document.proofs.Everywhere.{all_parts}
use Rattle.equation_document.proofs.FirstOfLemmas.{neither, within}
use Rattle.equation_document.proofs.LeastCommon.{plain, zero_is, both, least_clears}
use Rattle.equation_file.specs.Meaning.{noise_type, kernel_type}

abbrev pub AreCleared : ℕ → Written → Type 0
AreCleared l w = Clears l w.plain × Clears l w.with_k

abbrev IsCleared : ℕ → WrittenFraction → Type 0
IsCleared l f = Clears l (plain f)

each_cleared : (l : ℕ) (fs : List WrittenFraction) → ClearsAll l (map plain fs) → AllByRecursion (IsCleared l) fs
each_cleared l [] h = tt
each_cleared l (f ∷ fs) h = (h.0, each_cleared l fs h.1)

of_degree : (l : ℕ) (fs : List WrittenFraction) (w : Written) →
    AllByRecursion (IsCleared l) (with_fractions fs w) →
    AllByRecursion (IsCleared l) fs × AreCleared l w
of_degree l fs w h =
    let p = all_parts (IsCleared l) (fs ++ written w.plain ∷ []) (written w.with_k ∷ []) h in
    let q = all_parts (IsCleared l) fs (written w.plain ∷ []) p.0 in
    (q.0, (q.1.0, p.1.0))

of_noises : (l : ℕ) (fs : List WrittenFraction) (ns : List NoiseEntry) →
    AllByRecursion (IsCleared l) (fold noise_fractions fs ns) →
    AllByRecursion (IsCleared l) fs × AllByRecursion (λ n. AreCleared l n.degree) ns
of_noises l fs [] h = (h, tt)
of_noises l fs (n ∷ ns) h =
    let rest = of_noises l (with_fractions fs n.degree) ns h in
    let here = of_degree l fs n.degree rest.0 in
    (here.0, (here.1, rest.1))

of_unknowns : (l : ℕ) (fs : List WrittenFraction) (us : List UnknownEntry) →
    AllByRecursion (IsCleared l) (fold unknown_fractions fs us) →
    AllByRecursion (IsCleared l) fs × AllByRecursion (λ u. AreCleared l u.degree × AreCleared l u.regularity) us
of_unknowns l fs [] h = (h, tt)
of_unknowns l fs (u ∷ us) h =
    let rest = of_unknowns l (with_fractions (with_fractions fs u.degree) u.regularity) us h in
    let second = of_degree l (with_fractions fs u.degree) u.regularity rest.0 in
    let first = of_degree l fs u.degree second.0 in
    (first.0, ((first.1, second.1), rest.1))

below_most : (n : ℕ) → n ≤ 1000000 → n < most
below_most n le = omega (arith, le)

pub units_clear : (doc : Document) → units_of doc ≤ 1000000 →
    AllByRecursion (λ n. AreCleared (units_of doc) n.degree) doc.noises × AllByRecursion (λ u. AreCleared (units_of doc) u.degree × AreCleared (units_of doc) u.regularity) doc.unknowns
unfolding units_of
units_clear doc le =
    let all = each_cleared (units_of doc) (degree_fractions doc) (least_clears (degree_fractions doc) (below_most (units_of doc) le)) in
    let unknowns = of_unknowns (units_of doc) (fold noise_fractions [] doc.noises) doc.unknowns all in
    let noises = of_noises (units_of doc) [] doc.noises unknowns.0 in
    (noises.1, unknowns.1)

fraction_writable : (l : ℕ) (f : Fraction) → 0 < f.den → Clears l f → f.num ≤ 1000000 →
    f.den ≤ 1000000 → over 20 (rounded_up f) ≡ None → IsWritable l (in_units_of l f)
fraction_writable l f above clears num den small = record {
  size = in_units_size l f above clears (rounded_up_most f.num f.den above (within 20 (rounded_up f) small));
  written = in_units_in_range l f above clears num den;
}

degree_writable : (l : ℕ) (w : Written) → IsDegreeRead w → AreCleared l w → w.large ≡ None →
    degree_size w ≡ None →
    IsWritable l (in_units_of l w.plain) × IsWritable l (in_units_of l w.with_k)
degree_writable l w read cleared none size =
    let sizes = neither (over 20 (rounded_up w.plain)) (over 20 (rounded_up w.with_k)) size in (
      fraction_writable l w.plain read.plain_above cleared.0 (read.plain_num none) (read.plain_den none) sizes.0,
      fraction_writable l w.with_k read.k_above cleared.1 (read.k_num none) (read.k_den none) sizes.1,
    )

twice : (b : Bool) → not (not b) ≡ true → b ≡ true
twice true h = refl
twice false h = h

above_of : (n : ℕ) → (n == 0) ≡ false → 0 < n
above_of n e = grind (arith, nat_tests)

without_k : (l : ℕ) (w : Written) → IsDegreeRead w → AreCleared l w → is_standard w ≡ true → in_units_of l w.with_k ≡ pos 0
without_k l w read cleared standard = in_units_zero l w.with_k read.k_above cleared.1 (zero_is w.with_k.num (twice (w.with_k.num == 0) standard))

pub noise_entry : (l : ℕ) (gs : List (List ℕ)) (n : NoiseEntry) → IsDegreeRead n.degree →
    AreCleared l n.degree → noise_number n ≡ None → noise_size n ≡ None →
    IsNoiseEntry l (noise_type l gs n)
noise_entry l gs n read cleared none size =
    let d = degree_writable l n.degree read cleared none size in
    record { kind = refl; a = d.0; b = d.1; moments = refl }

-- what is known of an unknown of a file that is accepted
pub record IsUnknownFit (l : ℕ) (u : UnknownEntry) : Type 0 where
  pub read : IsUnknownRead u
  pub degree : AreCleared l u.degree
  pub regularity : AreCleared l u.regularity
  pub number : unknown_number u ≡ None
  pub size : unknown_size u ≡ None

pub kernel_entry : (l : ℕ) (u : UnknownEntry) → 0 < l → IsUnknownFit l u → IsKernelEntry l (kernel_type l u)
kernel_entry l u above h =
    let read = h.read in
    let number = neither u.degree.large u.regularity.large h.number in
    let size = neither (degree_size u.degree) (degree_size u.regularity) h.size in
    let d = degree_writable l u.degree read.degree h.degree number.0 size.0 in
    let positive = both (is_standard u.degree) (above_zero u.degree) read.positive in
    let signs = both (not (u.degree.plain.num == 0)) (not u.degree.plain.negative) positive.1 in
    record {
      kind = refl;
      a = d.0;
      above = in_units_above l u.degree.plain above h.degree.0 (above_of u.degree.plain.num (not-true (u.degree.plain.num == 0) signs.0)) (not-true u.degree.plain.negative signs.1);
      without_k = without_k l u.degree read.degree h.degree positive.0;
      group = refl;
      moments = read.moments;
    }

pub regularity_fits : (l : ℕ) (u : UnknownEntry) → IsUnknownFit l u → IsWritable l (degree_in l u.regularity).a × ((degree_in l u.regularity).b ≡ pos 0)
regularity_fits l u h =
    let read = h.read in
    let number = neither u.degree.large u.regularity.large h.number in
    let size = neither (degree_size u.degree) (degree_size u.regularity) h.size in (
      (degree_writable l u.regularity read.regularity h.regularity number.1 size.1).0,
      without_k l u.regularity read.regularity h.regularity read.standard,
    )
