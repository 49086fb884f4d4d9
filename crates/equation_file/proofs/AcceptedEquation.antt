-- Every equation that is read is within all limits of a file.
use Rattle.std.proofs.Common.{◌≡◌, ℕ, ◌<◌, ◌≤◌, ◌≤ℤ◌, true≢false, is_ok, unwrap_or, inl, inr, List, [], ◌∷◌, length, Result, Ok, Err, IfOk, pos, unsigned_abs, refl, sym, ap, subst, ◌∙◌, arith}
use Rattle.std.specs.List.{AllByRecursion, range_with_len}
use Rattle.std.specs.Result.{result_ok}
use Rattle.std.proofs.lemmas.Int.{ints}
use Rattle.std.proofs.lemmas.List.{length-take-le}
use Rattle.std.proofs.lemmas.List.Elements.{All-from_recursion}
use Rattle.degree_numbers.specs.declared.types.Types.{Types}
use Rattle.degree_numbers.specs.Types.{IsWritable, noise_count}
use Rattle.equation_document.specs.declared.document.Document.{Document}
use Rattle.equation_document.specs.declared.fault.Fault.{Fault}
use Rattle.equation_document.specs.File.{reading}
use Rattle.equation_document.specs.Limits.{units_of, denominator_of, limits_of}
use Rattle.equation_document.proofs.DocumentFacts.{read_is_read}
use Rattle.equation_document.proofs.DocumentRead.{IsRead}
use Rattle.equation_document.proofs.LimitFacts.{is_within}
use Rattle.equations.specs.declared.equation.Equation.{Equation}
use Rattle.equations.specs.declared.equation.Unknown.{Unknown}
use Rattle.equation_file.specs.declared.refusal.FileRefusal.{FileRefusal}
use Rattle.equations.specs.Accepted.{IsUnknown, IsEquation}
use Rattle.equation_file.specs.File.{told, equation_of}
use Rattle.equation_file.specs.Refusals.{IsAnswer}
use Rattle.equation_file.specs.Meaning.{types_of, equation_in, document_equation}
use Rattle.equation_file.proofs.AcceptedRights.{IsRight, accepted_rights, regularities_are, kernel_numbers}
use Rattle.equation_file.proofs.AcceptedTypes.{accepted_types, all_names, denominator_within, kernels_are, noise_count_is, regularity_writable}

unknowns_are : (ty : Types) (count : ℕ) (us : List Unknown) →
    AllByRecursion (λ u. IsRight ty count u.right) us →
    AllByRecursion (λ u. IsWritable (unsigned_abs ty.units.den) u.regularity.a × (u.regularity.b ≡ pos 0)) us →
    AllByRecursion (IsUnknown ty count) us
unknowns_are ty count [] rights regularities = tt
unknowns_are ty count (u ∷ us) rights regularities = (
  record { standard = regularities.0.1; bounded = regularities.0.0; few = rights.0.0; terms = rights.0.1 },
  unknowns_are ty count us rights.1 regularities.1,
)

in_equation : (doc : Document) → IsRead doc → limits_of doc ≡ Ok tt → IsEquation (equation_in (units_of doc) (denominator_of doc) doc)
in_equation doc read passed =
    let l = units_of doc in
    let q = denominator_of doc in
    let eq = equation_in l q doc in
    let limits = is_within doc passed in
    let count : length eq.parameters ≡ doc.names.first_noise = length-take-le doc.names.first_noise doc.names.list read.first_noise in
    let regular : AllByRecursion (λ u. IsWritable (unsigned_abs (types_of l doc).units.den) u.regularity.a × (u.regularity.b ≡ pos 0)) eq.unknowns =
    regularities_are (λ r. IsWritable l r.a × (r.b ≡ pos 0)) l q doc.names (length doc.noises) doc.unknowns doc.rights (regularity_writable doc read passed) in
    let above = (denominator_within doc passed).0 in
    let most = (denominator_within doc passed).1 in
    record {
      types = accepted_types doc read passed;
      few_parameters = omega (arith, count, limits.parameters);
      names = all_names doc read;
      kernels = kernel_numbers doc read ∙ ap (λ n. range_with_len n (length doc.unknowns)) (sym (noise_count_is l doc)) ∙ ap (λ n. range_with_len (noise_count (types_of l doc)) n) (sym (kernels_are l doc));
      unknowns = All-from_recursion (IsUnknown (types_of l doc) (length eq.parameters)) eq.unknowns (unknowns_are (types_of l doc) (length eq.parameters) eq.unknowns (accepted_rights doc read passed) regular);
      denominator_above = at_least_one q above;
      denominator_bounded = at_most_million q most;
    }
  where
    at_least_one : (q : ℕ) → 0 < q → pos 1 ≤ℤ pos q
    at_least_one q h = omega (arith, ints)

    at_most_million : (q : ℕ) → q ≤ 1000000 → pos q ≤ℤ pos 1000000
    at_most_million q h = omega (arith, ints)

pub document_is_equation : (doc : Document) → IsRead doc → limits_of doc ≡ Ok tt → IsEquation (document_equation doc)
unfolding document_equation
document_is_equation doc read passed = in_equation doc read passed

told_is : (read : Result Document Fault) (eq : Equation) →
    ((doc : Document) → read ≡ Ok doc → IsEquation (document_equation doc)) → told read ≡ Ok eq →
    IsEquation eq
told_is (Ok doc) eq is h = subst IsEquation (ap (λ r. unwrap_or (result_ok r) (document_equation doc)) h) (is doc refl)
told_is (Err f) eq is h = absurd (true≢false (sym (ap is_ok h)))

pub answer_is : (bytes : List ℕ) (result : Result Equation FileRefusal) → IsAnswer (equation_of bytes) result → IfOk result (λ eq. IsEquation eq)
answer_is bytes (Ok eq) (inl memory) = absurd (true≢false (ap is_ok memory))
answer_is bytes (Ok eq) (inr same) =
    told_is (reading bytes) eq (λ doc read. let facts = read_is_read bytes doc read in document_is_equation doc facts.0 facts.1) (sym same)
answer_is bytes (Err e) h = tt
