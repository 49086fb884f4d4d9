-- The types of a file that is accepted.
use Rattle.std.proofs.Common.{◌≡◌, ℕ, suc, ◌+◌, ◌<◌, ◌≤◌, List, [], ◌∷◌, ◌++◌, map, length, take, drop, None, Ok, pos, ◌<ℤ◌, ◌≤ℤ◌, refl, sym, ap, subst, ◌∙◌, arith}
use Rattle.std.specs.List.{AllByRecursion, prefix_len}
use Rattle.std.proofs.lemmas.Int.{ints}
use Rattle.degree_numbers.specs.declared.types.TypeEntry.{TypeEntry}
use Rattle.degree_numbers.specs.Types.{IsScaling, IsWritable, IsNoiseEntry, IsKernelEntry, AreNames, AreInOrder, AreTypes, is_noise, noise_count, noises, kernels}
use Rattle.degree_numbers.specs.Written.{degree_in}
use Rattle.degree_numbers.proofs.TypeBounds.{all_weaker}
use Rattle.equation_document.specs.declared.document.Document.{Document}
use Rattle.equation_document.specs.declared.document.NoiseEntry.{NoiseEntry}
use Rattle.equation_document.specs.declared.document.UnknownEntry.{UnknownEntry}
use Rattle.equation_document.specs.FirstOf.{over, first_of}
use Rattle.equation_document.specs.Limits.{noise_number, unknown_number, noise_size, unknown_size, degree_fractions, units_of, coefficients, denominator_of, limits_of}
use Rattle.equation_document.proofs.DocumentRead.{IsDegreeRead, IsUnknownRead, IsRead}
use Rattle.equation_document.proofs.Everywhere.{all_mapped, all_both, all_none}
use Rattle.equation_document.proofs.FirstOfLemmas.{neither, within}
use Rattle.equation_document.proofs.LeastCommon.{least_above}
use Rattle.equation_document.proofs.LimitFacts.{is_within}
use Rattle.equation_file.specs.Meaning.{groups_of, is_written, noise_type, kernel_type, types_of}
use Rattle.equation_file.specs.Products.{five}
use Rattle.equation_file.proofs.ClearedDegrees.{AreCleared, IsUnknownFit, units_clear, noise_entry, kernel_entry, regularity_fits}
use Rattle.equation_file.proofs.DirectionLemmas.{directions_kept}
use Rattle.equation_file.proofs.GroupLemmas.{later_names, groups_named, in_order}

pub units_above : (doc : Document) → 0 < units_of doc
unfolding units_of
units_above doc = least_above (degree_fractions doc)

pub denominator_above : (doc : Document) → 0 < denominator_of doc
unfolding denominator_of
denominator_above doc = least_above (coefficients doc)

pub units_within : (doc : Document) → limits_of doc ≡ Ok tt → (0 < units_of doc) × (units_of doc ≤ 1000000)
units_within doc limits = (units_above doc, (is_within doc limits).units)

pub denominator_within : (doc : Document) → limits_of doc ≡ Ok tt → (0 < denominator_of doc) × (denominator_of doc ≤ 1000000)
denominator_within doc limits = (denominator_above doc, (is_within doc limits).denominator)

-- the noises stand in front
one_more : (n : ℕ) → 1 + n ≡ suc n
one_more n = omega arith

noises_counted : (l : ℕ) (gs : List (List ℕ)) (ns : List NoiseEntry) (us : List UnknownEntry) →
    prefix_len (λ (e : TypeEntry). is_noise e.kind) (map (noise_type l gs) ns ++ map (kernel_type l) us) ≡ length ns
noises_counted l gs [] [] = refl
noises_counted l gs [] (u ∷ us) = refl
noises_counted l gs (n ∷ ns) us = ap (λ i. 1 + i) (noises_counted l gs ns us) ∙ one_more (length ns)

pub noise_count_is : (l : ℕ) (doc : Document) → noise_count (types_of l doc) ≡ length doc.noises
noise_count_is l doc = noises_counted l (groups_of doc.noises) doc.noises doc.unknowns

taken_mapped : {X Y : Type 0} (f : X → Y) (xs : List X) (ys : List Y) → take (length xs) (map f xs ++ ys) ≡ map f xs
taken_mapped f [] ys = refl
taken_mapped f (x ∷ xs) ys = ap (λ zs. f x ∷ zs) (taken_mapped f xs ys)

dropped_mapped : {X Y : Type 0} (f : X → Y) (xs : List X) (ys : List Y) → drop (length xs) (map f xs ++ ys) ≡ ys
dropped_mapped f [] ys = refl
dropped_mapped f (x ∷ xs) ys = dropped_mapped f xs ys

mapped_length : {X Y : Type 0} (f : X → Y) (xs : List X) → length (map f xs) ≡ length xs
mapped_length f [] = refl
mapped_length f (x ∷ xs) = ap suc (mapped_length f xs)

pub noise_list : (l : ℕ) (doc : Document) → noises (types_of l doc) ≡ map (noise_type l (groups_of doc.noises)) doc.noises
noise_list l doc =
    ap (λ n. take n (types_of l doc).list) (noise_count_is l doc) ∙ taken_mapped (noise_type l (groups_of doc.noises)) doc.noises (map (kernel_type l) doc.unknowns)

pub kernel_list : (l : ℕ) (doc : Document) → kernels (types_of l doc) ≡ map (kernel_type l) doc.unknowns
kernel_list l doc =
    ap (λ n. drop n (types_of l doc).list) (noise_count_is l doc) ∙ dropped_mapped (noise_type l (groups_of doc.noises)) doc.noises (map (kernel_type l) doc.unknowns)

pub kernels_are : (l : ℕ) (doc : Document) → length (kernels (types_of l doc)) ≡ length doc.unknowns
kernels_are l doc = ap length (kernel_list l doc) ∙ mapped_length (kernel_type l) doc.unknowns

kernel_names : (l : ℕ) (us : List UnknownEntry) → map (λ (e : TypeEntry). e.name) (map (kernel_type l) us) ≡ map (λ (u : UnknownEntry). u.name) us
kernel_names l [] = refl
kernel_names l (u ∷ us) = ap (λ names. u.name ∷ names) (kernel_names l us)

type_names : (l : ℕ) (gs : List (List ℕ)) (ns : List NoiseEntry) (us : List UnknownEntry) →
    map (λ (e : TypeEntry). e.name) (map (noise_type l gs) ns ++ map (kernel_type l) us) ≡ map (λ (n : NoiseEntry). n.name) ns ++ map (λ (u : UnknownEntry). u.name) us
type_names l gs [] us = kernel_names l us
type_names l gs (n ∷ ns) us = ap (λ names. n.name ∷ names) (type_names l gs ns us)

-- all names of a file: the parameters, then the types
pub all_names : (doc : Document) → IsRead doc →
    AreNames (take doc.names.first_noise doc.names.list ++ map (λ (e : TypeEntry). e.name) (types_of (units_of doc) doc).list)
all_names doc read =
    subst AreNames (read.in_parts ∙ ap (λ names. take doc.names.first_noise doc.names.list ++ names) (sym (type_names (units_of doc) (groups_of doc.noises) doc.noises doc.unknowns))) read.names

five_front : (P : ℕ → Type 0) (xs : List ℕ) → length xs ≤ 5 → AllByRecursion P xs → AllByRecursion P (take (length xs) (five xs))
five_front P [] le h = tt
five_front P (a ∷ []) le h = h
five_front P (a ∷ b ∷ []) le h = h
five_front P (a ∷ b ∷ c ∷ []) le h = h
five_front P (a ∷ b ∷ c ∷ d ∷ []) le h = h
five_front P (a ∷ b ∷ c ∷ d ∷ e ∷ []) le h = h
five_front P (a ∷ b ∷ c ∷ d ∷ e ∷ f ∷ xs) le h = absurd (omega (arith, le))

five_rest : (xs : List ℕ) → length xs ≤ 5 → AllByRecursion (λ s. s ≡ 0) (drop (length xs) (five xs))
five_rest [] le = (refl, (refl, (refl, (refl, (refl, tt)))))
five_rest (a ∷ []) le = (refl, (refl, (refl, (refl, tt))))
five_rest (a ∷ b ∷ []) le = (refl, (refl, (refl, tt)))
five_rest (a ∷ b ∷ c ∷ []) le = (refl, (refl, tt))
five_rest (a ∷ b ∷ c ∷ d ∷ []) le = (refl, tt)
five_rest (a ∷ b ∷ c ∷ d ∷ e ∷ []) le = tt
five_rest (a ∷ b ∷ c ∷ d ∷ e ∷ f ∷ xs) le = absurd (omega (arith, le))

scaling_is : (doc : Document) → IsRead doc → limits_of doc ≡ Ok tt → IsScaling (length doc.scaling) (five doc.scaling)
scaling_is doc read limits =
    let w = is_within doc limits in
    let small : AllByRecursion (λ s. s ≤ 10) doc.scaling = all_weaker (λ s. over 10 s ≡ None) (λ s. s ≤ 10) doc.scaling (λ s h. within 10 s h) (all_none (over 10) doc.scaling w.scaling) in
    record {
      some = read.dims;
      most = w.dimensions;
      entries = refl;
      within = five_front (λ s. (0 < s) × (s ≤ 10)) doc.scaling w.dimensions (all_both (λ s. 0 < s) (λ s. s ≤ 10) doc.scaling read.scaling small);
      rest = five_rest doc.scaling w.dimensions;
    }

-- both limits on sizes
sizes : (doc : Document) → limits_of doc ≡ Ok tt → (first_of noise_size doc.noises ≡ None) × (first_of unknown_size doc.unknowns ≡ None)
sizes doc limits = neither (first_of noise_size doc.noises) (first_of unknown_size doc.unknowns) (is_within doc limits).sizes

noises_are : (doc : Document) → IsRead doc → limits_of doc ≡ Ok tt →
    AllByRecursion (IsNoiseEntry (units_of doc)) (map (noise_type (units_of doc) (groups_of doc.noises)) doc.noises)
noises_are doc read limits =
    let w = is_within doc limits in
    let l = units_of doc in
    let P : NoiseEntry → Type 0 = λ n. (noise_number n ≡ None) × (noise_size n ≡ None) in
    let Q : NoiseEntry → Type 0 = λ n. IsDegreeRead n.degree × AreCleared l n.degree in
    let limited = all_both (λ n. noise_number n ≡ None) (λ n. noise_size n ≡ None) doc.noises (all_none noise_number doc.noises w.noise_numbers) (all_none noise_size doc.noises (sizes doc limits).0) in
    let cleared = all_both (λ n. IsDegreeRead n.degree) (λ n. AreCleared l n.degree) doc.noises read.noises (units_clear doc w.units).0 in
    all_mapped (IsNoiseEntry l) (noise_type l (groups_of doc.noises)) doc.noises
    (all_weaker (λ n. Q n × P n) (λ n. IsNoiseEntry l (noise_type l (groups_of doc.noises) n)) doc.noises (λ n h. noise_entry l (groups_of doc.noises) n h.0.0 h.0.1 h.1.0 h.1.1)
    (all_both Q P doc.noises cleared limited))

unknowns_fit : (doc : Document) → IsRead doc → limits_of doc ≡ Ok tt → AllByRecursion (IsUnknownFit (units_of doc)) doc.unknowns
unknowns_fit doc read limits =
    let w = is_within doc limits in
    let l = units_of doc in
    let P : UnknownEntry → Type 0 = λ u. (unknown_number u ≡ None) × (unknown_size u ≡ None) in
    let Q : UnknownEntry → Type 0 = λ u. IsUnknownRead u × (AreCleared l u.degree × AreCleared l u.regularity) in
    let limited = all_both (λ u. unknown_number u ≡ None) (λ u. unknown_size u ≡ None) doc.unknowns (all_none unknown_number doc.unknowns w.unknown_numbers) (all_none unknown_size doc.unknowns (sizes doc limits).1) in
    let cleared = all_both IsUnknownRead (λ u. AreCleared l u.degree × AreCleared l u.regularity) doc.unknowns read.unknowns (units_clear doc w.units).1 in
    all_weaker (λ u. Q u × P u) (IsUnknownFit l) doc.unknowns
    (λ u h. record { read = h.0.0; degree = h.0.1.0; regularity = h.0.1.1; number = h.1.0; size = h.1.1 })
    (all_both Q P doc.unknowns cleared limited)

kernels_fit : (doc : Document) → IsRead doc → limits_of doc ≡ Ok tt →
    AllByRecursion (IsKernelEntry (units_of doc)) (map (kernel_type (units_of doc)) doc.unknowns)
kernels_fit doc read limits =
    let l = units_of doc in
    all_mapped (IsKernelEntry l) (kernel_type l) doc.unknowns
    (all_weaker (IsUnknownFit l) (λ u. IsKernelEntry l (kernel_type l u)) doc.unknowns (λ u h. kernel_entry l u (units_above doc) h) (unknowns_fit doc read limits))

pub regularity_writable : (doc : Document) → IsRead doc → limits_of doc ≡ Ok tt →
    AllByRecursion (λ u. IsWritable (units_of doc) (degree_in (units_of doc) u.regularity).a × ((degree_in (units_of doc) u.regularity).b ≡ pos 0)) doc.unknowns
regularity_writable doc read limits =
    let l = units_of doc in
    all_weaker (IsUnknownFit l) (λ u. IsWritable l (degree_in l u.regularity).a × ((degree_in l u.regularity).b ≡ pos 0)) doc.unknowns (λ u h. regularity_fits l u h) (unknowns_fit doc read limits)

above_pos : (l : ℕ) → 0 < l → pos 0 <ℤ pos l
above_pos l h = omega (arith, ints)

most_pos : (l : ℕ) → l ≤ 1000000 → pos l ≤ℤ pos 1000000
most_pos l h = omega (arith, ints)

pub accepted_types : (doc : Document) → IsRead doc → limits_of doc ≡ Ok tt → AreTypes (types_of (units_of doc) doc)
accepted_types doc read limits =
    let l = units_of doc in
    let w = is_within doc limits in
    let gs = groups_of doc.noises in
    record {
      scaling = scaling_is doc read limits;
      den_above = above_pos l (units_above doc);
      den_most = most_pos l w.units;
      noises_most = subst (λ n. n ≤ 8) (sym (noise_count_is l doc)) w.noises;
      kernels_some = subst (λ n. 0 < n) (sym (kernels_are l doc)) read.some;
      kernels_most = subst (λ n. n ≤ 8) (sym (kernels_are l doc)) w.unknowns;
      of_noises = subst (AllByRecursion (IsNoiseEntry l)) (sym (noise_list l doc)) (noises_are doc read limits);
      of_kernels = subst (AllByRecursion (IsKernelEntry l)) (sym (kernel_list l doc)) (kernels_fit doc read limits);
      names = later_names (take doc.names.first_noise doc.names.list) (map (λ (e : TypeEntry). e.name) (types_of l doc).list) (all_names doc read);
      groups = groups_named doc.noises [] (record { are_names = tt; different = tt }) read.groups;
      numbered = subst (λ es. AreInOrder 0 (map (λ (e : TypeEntry). e.group) es) (length gs)) (sym (noise_list l doc)) (in_order l doc.noises []);
      reflected = directions_kept (is_written doc.reflect) 0 (length doc.scaling) (length doc.scaling) (omega arith);
    }
