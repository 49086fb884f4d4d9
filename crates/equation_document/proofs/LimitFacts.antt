-- What is known of a document that passes no limit.
use Rattle.std.proofs.Common.{◌≡◌, ℕ, ◌≤◌, length, Option, None, Some, Result, Ok, Err, refl}
use Rattle.std.specs.Prelude.{⊤}
use Rattle.equation_document.specs.declared.document.Document.{Document}
use Rattle.equation_document.specs.declared.fault.Fault.{Fault}
use Rattle.equation_document.specs.declared.fault.Which.{Which}
use Rattle.equation_document.specs.FirstOf.{over, first_of}
use Rattle.equation_document.specs.Limits.{limit, noise_number, unknown_number, file_size, right_terms, units_of, denominator_of, counts_of, numbers_of, rights_of, limits_of}
use Rattle.equation_document.specs.Reading.{◌>>=◌}
use Rattle.equation_document.specs.Terms.{term_number, term_factors, term_derivative}
use Rattle.equation_document.proofs.FirstOfLemmas.{within, neither}

pub record IsWithin (doc : Document) : Type 0 where
  pub dimensions : length doc.scaling ≤ 5
  pub scaling : first_of (over 10) doc.scaling ≡ None
  pub parameters : doc.names.first_noise ≤ 8
  pub noises : length doc.noises ≤ 8
  pub unknowns : length doc.unknowns ≤ 8
  pub noise_numbers : first_of noise_number doc.noises ≡ None
  pub unknown_numbers : first_of unknown_number doc.unknowns ≡ None
  pub right_numbers : first_of (first_of term_number) doc.rights ≡ None
  pub sizes : file_size doc ≡ None
  pub units : units_of doc ≤ 1000000
  pub terms : first_of right_terms doc.rights ≡ None
  pub factors : first_of (first_of term_factors) doc.rights ≡ None
  pub derivatives : first_of (first_of term_derivative) doc.rights ≡ None
  pub denominator : denominator_of doc ≤ 1000000

-- both of two tests pass where the second after the first does
both_pass : (r s : Result ⊤ Fault) → (r >>= (λ x. s)) ≡ Ok tt → (r ≡ Ok tt) × (s ≡ Ok tt)
both_pass (Ok x) s h = (refl, h)
both_pass (Err e) s h = search

none_found : (which : Which) (found : Option ℕ) → limit which found ≡ Ok tt → found ≡ None
none_found which None h = refl
none_found which (Some n) h = search

pub is_within : (doc : Document) → limits_of doc ≡ Ok tt → IsWithin doc
unfolding limits_of counts_of numbers_of rights_of
is_within doc h =
    let all = both_pass _ _ h in
    let later = both_pass _ _ all.1 in
    let c1 = both_pass _ _ all.0 in
    let c2 = both_pass _ _ c1.1 in
    let c3 = both_pass _ _ c2.1 in
    let c4 = both_pass _ _ c3.1 in
    let n1 = both_pass _ _ later.0 in
    let n2 = both_pass _ _ n1.1 in
    let r1 = both_pass _ _ later.1 in
    let r2 = both_pass _ _ r1.1 in
    let r3 = both_pass _ _ r2.1 in
    let numbers = neither _ _ (none_found _ _ n1.0) in
    record {
      dimensions = within _ _ (none_found _ _ c1.0);
      scaling = none_found _ _ c2.0;
      parameters = within _ _ (none_found _ _ c3.0);
      noises = within _ _ (none_found _ _ c4.0);
      unknowns = within _ _ (none_found _ _ c4.1);
      noise_numbers = numbers.0;
      unknown_numbers = (neither _ _ numbers.1).0;
      right_numbers = (neither _ _ numbers.1).1;
      sizes = none_found _ _ n2.0;
      units = within _ _ (none_found _ _ n2.1);
      terms = none_found _ _ r1.0;
      factors = none_found _ _ r2.0;
      derivatives = none_found _ _ r3.0;
      denominator = within _ _ (none_found _ _ r3.1);
    }
