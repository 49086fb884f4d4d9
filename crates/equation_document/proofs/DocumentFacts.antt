-- What is true of all that a table holds, where it has no fault.
use Rattle.std.proofs.Common.{◌≡◌, ℕ, ◌+◌, ◌<◌, ◌≤◌, ℤ, pos, negsuc, Bool, true, false, true≢false, List, [], ◌∷◌, ◌++◌, length, map, take, nat_lt, Option, None, Some, Result, Ok, Err, refl, sym, ap, subst, ◌∙◌, arith}
use Rattle.std.proofs.Math.Logic.{inl, inr}
use Rattle.std.specs.Prelude.{◌&&◌, codes, is_ok, nat_le, if◌then◌else◌}
use Rattle.std.specs.List.{AllByRecursion, list_all}
use Rattle.std.proofs.Math.Seq.{take-append_seam}
use Rattle.std.proofs.lemmas.Bool.Decides.{nat_tests}
use Rattle.std.proofs.lemmas.List.{length-append, length-map, append_assoc, append-nil}
use Rattle.toml.specs.Data.{Data, Items, no_items, item, Members, get_member, as_array, as_integer, as_str, as_table}
use Rattle.degree_numbers.specs.DegreeText.{Written, written_of}
use Rattle.degree_numbers.specs.Name.{is_name}
use Rattle.degree_numbers.specs.Types.{AreNames, IsMoments}
use Rattle.degree_numbers.proofs.TypeBounds.{all_weaker}
use Rattle.right_side_text.specs.Grammar.{right_side}
use Rattle.right_side_text.specs.declared.written.WrittenFactor.{WrittenFactor}
use Rattle.right_side_text.specs.declared.written.WrittenTerm.{WrittenTerm}
use Rattle.equation_document.specs.DegreeEntry.{is_positive, is_standard}
use Rattle.equation_document.specs.File.{reading}
use Rattle.equation_document.specs.Limits.{limits_of}
use Rattle.equation_document.specs.Names.{stands_in, is_known, are_known, noise_power, have_one_noise}
use Rattle.equation_document.specs.Reading.{required, of_kind, of_value, of_name, of_degree, keys_of, version_of, of_version, whole, natural, up_to, number_of, numbers_from, reflect_of, moments_of, some_items, list_of, new_name, parameter_of, parameters_from, parameters_of, table_of, text_of, name_of, degree_of, group_of, noise_of, noises_from, noises_of, positive_of, standard_of, unknown_of, unknowns_from, known_terms, terms_of, right_of, rights_from, names_of, directions_of, unknown_part, document_of}
use Rattle.equation_document.specs.declared.document.Document.{Document}
use Rattle.equation_document.specs.declared.document.NoiseEntry.{NoiseEntry}
use Rattle.equation_document.specs.declared.document.UnknownEntry.{UnknownEntry}
use Rattle.equation_document.specs.declared.fault.Section.{Section}
use Rattle.equation_document.specs.declared.fault.Section.TheVariants.{Scaling, Parameters, Noise, Unknown}
use Rattle.equation_document.specs.declared.fault.Field.TheVariants as fields
use Rattle.equation_document.specs.declared.fault.Reason.TheVariants as reasons
use Rattle.equation_document.specs.declared.fault.Entry.{Entry}
use Rattle.equation_document.specs.declared.fault.Entry.TheVariants.{File, Whole, Item, Part}
use Rattle.equation_document.specs.declared.fault.Fault.{Fault}
use Rattle.equation_document.specs.declared.fault.Fault.TheVariants.{Malformed}
use Rattle.equation_document.specs.declared.versions.FileVersion.{FileVersion}
use Rattle.equation_document.specs.declared.names.Names.{Names}
use Rattle.equation_document.specs.declared.entries.KeySet.TheVariants as keys
use Rattle.equation_document.proofs.DegreeFacts.{degree_read}
use Rattle.equation_document.proofs.DocumentRead.{IsDegreeRead, IsFactorRead, IsTermRead, IsUnknownRead, IsRead}
use Rattle.equation_document.proofs.NameFacts.{names_push}
use Rattle.equation_document.proofs.ReadFacts.{bind_ok, err_ok, same_value, accepted_parts, read_accepted}
use Rattle.right_side_text.proofs.TermFacts.{IsFactorWritten, IsTermWritten, none_some, side_of, same_some, all_push, right_side_written}

-- how many items there are
abbrev count : Items → ℕ
count no_items = 0
count (item d ds) = 1 + count ds

-- what passes a test that is a fault where it fails
pub passed : {A : Type 0} (c : Bool) (a b : A) (e : Fault) → (if c then Ok a else Err e) ≡ Ok b → (c ≡ true) × (a ≡ b)
passed true a b e h = (refl, same_value a b h)
passed false a b e h = err_ok e b h

is_value : {A : Type 0} (e : Entry) (o : Option A) (a : A) → of_value e o ≡ Ok a → o ≡ Some a
is_value e None a h = err_ok (Malformed e reasons.Value) a h
is_value e (Some x) a h = ap Some (same_value x a h)

tested_above : (m : ℕ) → nat_lt 0 m ≡ true → 0 < m
tested_above m h = grind (arith, nat_tests)

whole_above : (z : ℤ) (n : ℕ) → whole z ≡ Some n → 0 < n
whole_above (pos m) n h =
    elim (side_of (nat_lt 0 m) (Some m) None (Some n) h) [
      | inl p ↦ subst (λ x. 0 < x) (same_some m n p.1) (tested_above m p.0)
      | inr p ↦ none_some n p.1
    ]
whole_above (negsuc m) n h = none_some n h

number_above : (at : ℕ) (d : Data) (n : ℕ) → number_of at d ≡ Ok n → 0 < n
unfolding number_of
number_above at d n h =
    let z = bind_ok (of_kind (Item Scaling at) (as_integer d)) _ n h in
    whole_above z.0 n (is_value (Item Scaling at) (whole z.0) n z.2)

numbers_above : (at : ℕ) (found : List ℕ) (ds : Items) (r : List ℕ) →
    AllByRecursion (λ s. 0 < s) found → numbers_from at found ds ≡ Ok r →
    AllByRecursion (λ s. 0 < s) r × (length r ≡ length found + count ds)
unfolding numbers_from
numbers_above at found no_items r so h = subst (λ x. AllByRecursion (λ s. 0 < s) x × (length x ≡ length found + 0)) (same_value found r h) (so, omega arith)
numbers_above at found (item d ds) r so h =
    let n = bind_ok (number_of at d) _ r h in
    let rest = numbers_above (at + 1) (found ++ n.0 ∷ []) ds r (all_push (λ s. 0 < s) found n.0 so (number_above at d n.0 n.1)) n.2 in
    (rest.0, omega (arith, rest.1, length-append found (n.0 ∷ [])))

some_counted : (s : Section) (ds r : Items) → some_items s ds ≡ Ok r → 0 < count r
some_counted s no_items r h = err_ok (Malformed (Whole s) reasons.Value) r h
some_counted s (item d ds) r h = subst (λ x. 0 < count x) (same_value (item d ds) r h) (omega arith)

list_counted : (s : Section) (key : List ℕ) (ms : Members) (r : Items) → list_of s key ms ≡ Ok r → 0 < count r
unfolding list_of
list_counted s key ms r h =
    let d = bind_ok (required (Whole s) (get_member key ms)) _ r h in
    let items = bind_ok (of_kind (Whole s) (as_array d.0)) (some_items s) r d.2 in
    some_counted s items.0 r items.2

named : (e : Entry) (text name : List ℕ) → of_name e text ≡ Ok name → is_name name ≡ true
named e text name h =
    let p = passed (is_name text) text name (Malformed e reasons.Name) h in
    subst (λ x. is_name x ≡ true) p.1 p.0

not_seen : (c : Bool) (a b : List ℕ) (e : Fault) → (if c then Err e else Ok a) ≡ Ok b → (c ≡ false) × (a ≡ b)
not_seen true a b e h = err_ok e b h
not_seen false a b e h = (refl, same_value a b h)

-- a name that is not seen before
pub record IsNew (seen : List (List ℕ)) (name : List ℕ) : Type 0 where
  pub is : is_name name ≡ true
  pub new : stands_in seen name ≡ false

new_named : (e : Entry) (seen : List (List ℕ)) (text name : List ℕ) → new_name e seen text ≡ Ok name → IsNew seen name
unfolding new_name
new_named e seen text name h =
    let n = bind_ok (of_name e text) _ name h in
    let p = not_seen (stands_in seen n.0) n.0 name (Malformed e reasons.Repeated) n.2 in
    subst (IsNew seen) p.1 (record { is = named e text n.0 n.1; new = p.0 })

more_names : (seen : List (List ℕ)) (name : List ℕ) → AreNames seen → IsNew seen name → AreNames (seen ++ name ∷ [])
more_names seen name are new = names_push seen name are new.is new.new

parameters_named : (at : ℕ) (seen : List (List ℕ)) (ds : Items) (r : List (List ℕ)) → AreNames seen → parameters_from at seen ds ≡ Ok r → AreNames r
unfolding parameters_from parameter_of
parameters_named at seen no_items r are h = subst AreNames (same_value seen r h) are
parameters_named at seen (item d ds) r are h =
    let n = bind_ok (parameter_of at seen d) _ r h in
    let t = bind_ok (of_kind (Item Parameters at) (as_str d)) _ n.0 n.1 in
    parameters_named (at + 1) (seen ++ n.0 ∷ []) ds r (more_names seen n.0 are (new_named (Item Parameters at) seen t.0 n.0 t.2)) n.2

no_names : AreNames []
no_names = record { are_names = tt; different = tt }

parameters_of_named : (d : Option Data) (r : List (List ℕ)) → parameters_of d ≡ Ok r → AreNames r
unfolding parameters_of
parameters_of_named None r h = subst AreNames (same_value [] r h) no_names
parameters_of_named (Some d) r h =
    let items = bind_ok (of_kind (Whole Parameters) (as_array d)) (parameters_from 1 []) r h in
    parameters_named 1 [] items.0 r no_names items.2

name_new : (s : Section) (at : ℕ) (seen : List (List ℕ)) (ms : Members) (name : List ℕ) → name_of s at seen ms ≡ Ok name → IsNew seen name
unfolding name_of
name_new s at seen ms name h =
    let t = bind_ok (text_of (Part s at fields.Name) (codes "name") ms) _ name h in
    new_named (Part s at fields.Name) seen t.0 name t.2

is_degree : (e : Entry) (o : Option Written) (w : Written) → of_degree e o ≡ Ok w → o ≡ Some w
is_degree e None w h = err_ok (Malformed e reasons.Degree) w h
is_degree e (Some x) w h = ap Some (same_value x w h)

degree_of_read : (e : Entry) (key : List ℕ) (ms : Members) (w : Written) → degree_of e key ms ≡ Ok w → IsDegreeRead w
unfolding degree_of
degree_of_read e key ms w h =
    let t = bind_ok (text_of e key ms) _ w h in
    degree_read t.0 w (is_degree e (written_of t.0) w t.2)

group_named : (e : Entry) (name : List ℕ) (d : Option Data) (r : List ℕ) → is_name name ≡ true → group_of e name d ≡ Ok r → is_name r ≡ true
unfolding group_of
group_named e name None r is h = subst (λ x. is_name x ≡ true) (same_value name r h) is
group_named e name (Some d) r is h =
    let t = bind_ok (of_kind e (as_str d)) (of_name e) r h in
    named e t.0 r t.2

-- a noise behind the names that were seen before
pub record IsNoiseRead (seen : List (List ℕ)) (n : NoiseEntry) : Type 0 where
  pub name : IsNew seen n.name
  pub group : is_name n.group ≡ true
  pub degree : IsDegreeRead n.degree

noise_read : (at : ℕ) (seen : List (List ℕ)) (d : Data) (n : NoiseEntry) → noise_of at seen d ≡ Ok n → IsNoiseRead seen n
unfolding noise_of
noise_read at seen d n h =
    let ms = bind_ok (table_of Noise keys.OfNoise at d) _ n h in
    let name = bind_ok (name_of Noise at seen ms.0) _ n ms.2 in
    let degree = bind_ok (degree_of (Part Noise at fields.Degree) (codes "degree") ms.0) _ n name.2 in
    let group = bind_ok (group_of (Part Noise at fields.Group) name.0 (get_member (codes "group") ms.0)) _ n degree.2 in
    let made : NoiseEntry = record { name = name.0; degree = degree.0; group = group.0 } in
    let new : IsNew seen name.0 = name_new Noise at seen ms.0 name.0 name.1 in
    let is : IsNoiseRead seen made = record {
      name = new;
      group = group_named (Part Noise at fields.Group) name.0 (get_member (codes "group") ms.0) group.0 new.is group.1;
      degree = degree_of_read (Part Noise at fields.Degree) (codes "degree") ms.0 degree.0 degree.1;
    } in
    subst (IsNoiseRead seen) (same_value made n group.2) is

-- names that are named by more entries
pub record AreMore {E : Type 0} (name : E → List ℕ) (P : E → Type 0) (seen : List (List ℕ)) (found : List E) (n : ℕ) (r : List (List ℕ) × List E) : Type 0 where
  pub names : AreNames r.0
  pub more : List E
  pub named : r.0 ≡ seen ++ map name more
  pub entries : r.1 ≡ found ++ more
  pub all : AllByRecursion P more
  pub counted : length more ≡ n

none_more : {E : Type 0} (name : E → List ℕ) (P : E → Type 0) (seen : List (List ℕ)) (found : List E) →
    AreNames seen → AreMore name P seen found 0 (seen, found)
none_more name P seen found are = record { names = are; more = []; named = sym (append-nil seen); entries = sym (append-nil found); all = tt; counted = refl }

one_more : {E : Type 0} (name : E → List ℕ) (P : E → Type 0) (seen : List (List ℕ)) (found : List E) (n : ℕ) (r : List (List ℕ) × List E) (x : E) →
    P x → AreMore name P (seen ++ name x ∷ []) (found ++ x ∷ []) n r →
    AreMore name P seen found (1 + n) r
one_more name P seen found n r x p m = record {
  names = m.names;
  more = x ∷ m.more;
  named = m.named ∙ append_assoc seen (name x ∷ []) (map name m.more);
  entries = m.entries ∙ append_assoc found (x ∷ []) m.more;
  all = (p, m.all);
  counted = let c = m.counted in omega arith;
}

abbrev IsNoiseKept : NoiseEntry → Type 0
IsNoiseKept n = (is_name n.group ≡ true) × IsDegreeRead n.degree

abbrev noise_name : NoiseEntry → List ℕ
noise_name n = n.name

abbrev unknown_name : UnknownEntry → List ℕ
unknown_name u = u.name

noises_read : (at : ℕ) (seen : List (List ℕ)) (found : List NoiseEntry) (ds : Items) (r : List (List ℕ) × List NoiseEntry) →
    AreNames seen → noises_from at seen found ds ≡ Ok r →
    AreMore noise_name IsNoiseKept seen found (count ds) r
unfolding noises_from
noises_read at seen found no_items r are h = subst (AreMore noise_name IsNoiseKept seen found 0) (same_value (seen, found) r h) (none_more noise_name IsNoiseKept seen found are)
noises_read at seen found (item d ds) r are h =
    let n = bind_ok (noise_of at seen d) _ r h in
    let is = noise_read at seen d n.0 n.1 in
    one_more noise_name IsNoiseKept seen found (count ds) r n.0 (is.group, is.degree)
    (noises_read (at + 1) (seen ++ n.0.name ∷ []) (found ++ n.0 ∷ []) ds r (more_names seen n.0.name are is.name) n.2)

noises_of_read : (seen : List (List ℕ)) (d : Option Data) (r : List (List ℕ) × List NoiseEntry) →
    AreNames seen → noises_of seen d ≡ Ok r → (n : ℕ) × AreMore noise_name IsNoiseKept seen [] n r
unfolding noises_of
noises_of_read seen None r are h = (0, subst (AreMore noise_name IsNoiseKept seen [] 0) (same_value (seen, []) r h) (none_more noise_name IsNoiseKept seen [] are))
noises_of_read seen (Some d) r are h =
    let items = bind_ok (of_kind (Whole Noise) (as_array d)) (noises_from 1 seen []) r h in
    (count items.0, noises_read 1 seen [] items.0 r are items.2)

positive_read : (e : Entry) (key : List ℕ) (ms : Members) (w : Written) → positive_of e key ms ≡ Ok w → IsDegreeRead w × (is_positive w ≡ true)
unfolding positive_of
positive_read e key ms w h =
    let d = bind_ok (degree_of e key ms) _ w h in
    let p = passed (is_positive d.0) d.0 w (Malformed e reasons.Value) d.2 in
    subst (λ x. IsDegreeRead x × (is_positive x ≡ true)) p.1 (degree_of_read e key ms d.0 d.1, p.0)

standard_read : (e : Entry) (key : List ℕ) (ms : Members) (w : Written) → standard_of e key ms ≡ Ok w → IsDegreeRead w × (is_standard w ≡ true)
unfolding standard_of
standard_read e key ms w h =
    let d = bind_ok (degree_of e key ms) _ w h in
    let p = passed (is_standard d.0) d.0 w (Malformed e reasons.Value) d.2 in
    subst (λ x. IsDegreeRead x × (is_standard x ≡ true)) p.1 (degree_of_read e key ms d.0 d.1, p.0)

up_to_most : (most : ℕ) (o : Option ℕ) (n : ℕ) → up_to most o ≡ Some n → n ≤ most
up_to_most most None n h = none_some n h
up_to_most most (Some m) n h =
    elim (side_of (nat_le m most) (Some m) None (Some n) h) [
      | inl p ↦ subst (λ x. x ≤ most) (same_some m n p.1) (tested_most m most p.0)
      | inr p ↦ none_some n p.1
    ]
  where
    tested_most : (m most : ℕ) → nat_le m most ≡ true → m ≤ most
    tested_most m most h = grind (arith, nat_tests)

moments_read : (e : Entry) (version : FileVersion) (d : Option Data) (r : Option ℕ) → moments_of e version d ≡ Ok r → IsMoments r
unfolding moments_of
moments_read e version None r h = subst IsMoments (same_value None r h) tt
moments_read e version (Some d) r h =
    let later = bind_ok (of_version e version) _ r h in
    let z = bind_ok (of_kind e (as_integer d)) _ r later.2 in
    let n = bind_ok (of_value e (up_to 20 (natural z.0))) _ r z.2 in
    subst IsMoments (same_value (Some n.0) r n.2) (up_to_most 20 (natural z.0) n.0 (is_value e (up_to 20 (natural z.0)) n.0 n.1))

unknown_read : (version : FileVersion) (at : ℕ) (seen : List (List ℕ)) (d : Data) (u : UnknownEntry) →
    unknown_of version at seen d ≡ Ok u → IsNew seen u.name × IsUnknownRead u
unfolding unknown_of
unknown_read version at seen d u h =
    let ms = bind_ok (table_of Unknown keys.OfUnknown at d) _ u h in
    let name = bind_ok (name_of Unknown at seen ms.0) _ u ms.2 in
    let degree = bind_ok (positive_of (Part Unknown at fields.Degree) (codes "degree") ms.0) _ u name.2 in
    let regularity = bind_ok (standard_of (Part Unknown at fields.Regularity) (codes "regularity") ms.0) _ u degree.2 in
    let moments = bind_ok (moments_of (Part Unknown at fields.Moments) version (get_member (codes "moments") ms.0)) _ u regularity.2 in
    let made : UnknownEntry = record { name = name.0; degree = degree.0; regularity = regularity.0; moments = moments.0 } in
    let d_read = positive_read (Part Unknown at fields.Degree) (codes "degree") ms.0 degree.0 degree.1 in
    let r_read = standard_read (Part Unknown at fields.Regularity) (codes "regularity") ms.0 regularity.0 regularity.1 in
    let is : IsUnknownRead made = record { degree = d_read.0; positive = d_read.1; regularity = r_read.0; standard = r_read.1; moments = moments_read (Part Unknown at fields.Moments) version (get_member (codes "moments") ms.0) moments.0 moments.1 } in
    subst (λ x. IsNew seen x.name × IsUnknownRead x) (same_value made u moments.2) (name_new Unknown at seen ms.0 name.0 name.1, is)

unknowns_read : (version : FileVersion) (at : ℕ) (seen : List (List ℕ)) (found : List UnknownEntry) (ds : Items) (r : List (List ℕ) × List UnknownEntry) →
    AreNames seen → unknowns_from version at seen found ds ≡ Ok r →
    AreMore unknown_name IsUnknownRead seen found (count ds) r
unfolding unknowns_from
unknowns_read version at seen found no_items r are h = subst (AreMore unknown_name IsUnknownRead seen found 0) (same_value (seen, found) r h) (none_more unknown_name IsUnknownRead seen found are)
unknowns_read version at seen found (item d ds) r are h =
    let u = bind_ok (unknown_of version at seen d) _ r h in
    let is = unknown_read version at seen d u.0 u.1 in
    one_more unknown_name IsUnknownRead seen found (count ds) r u.0 is.1
    (unknowns_read version (at + 1) (seen ++ u.0.name ∷ []) (found ++ u.0 ∷ []) ds r (more_names seen u.0.name are is.0) u.2)

both : (a b : Bool) → (a && b) ≡ true → (a ≡ true) × (b ≡ true)
both true b h = (refl, h)
both false b h = absurd (true≢false (sym h))

at_most_one : (n : ℕ) → nat_le n 1 ≡ true → n ≤ 1
at_most_one n h = grind (arith, nat_tests)

factors_read : (names : Names) (dims : ℕ) (fs : List WrittenFactor) →
    AllByRecursion (IsFactorWritten dims) fs → list_all (is_known names) fs ≡ true →
    AllByRecursion (IsFactorRead names dims) fs
factors_read names dims [] h k = tt
factors_read names dims (f ∷ fs) h k =
    let b = both (is_known names f) (list_all (is_known names) fs) k in
    (record { known = b.0; entries = h.0.entries; power = h.0.power }, factors_read names dims fs h.1 b.1)

terms_read : (names : Names) (dims : ℕ) (ts : List WrittenTerm) →
    AllByRecursion (IsTermWritten dims) ts → are_known names ts ≡ true →
    have_one_noise names ts ≡ true → AllByRecursion (IsTermRead names dims) ts
terms_read names dims [] h k one = tt
terms_read names dims (t ∷ ts) h k one =
    let b = both (list_all (is_known names) t.factors) (are_known names ts) k in
    let c = both (nat_le (noise_power names t) 1) (have_one_noise names ts) one in (
      record { den_above = h.0.den_above; factors = factors_read names dims t.factors h.0.factors b.0; one_noise = at_most_one (noise_power names t) c.0 },
      terms_read names dims ts h.1 b.1 c.1,
    )

known_read : (e : Entry) (names : Names) (dims : ℕ) (ts r : List WrittenTerm) →
    AllByRecursion (IsTermWritten dims) ts → known_terms e names ts ≡ Ok r →
    AllByRecursion (IsTermRead names dims) r
known_read e names dims ts r so h =
    elim (side_of (are_known names ts) (if have_one_noise names ts then Ok ts else Err (Malformed e reasons.Noise)) (Err (Malformed e reasons.Polynomial)) (Ok r) h) [
      | inl k ↦
          let p = passed (have_one_noise names ts) ts r (Malformed e reasons.Noise) k.1 in
          subst (AllByRecursion (IsTermRead names dims)) p.1 (terms_read names dims ts so k.0 p.0)
      | inr k ↦ err_ok (Malformed e reasons.Polynomial) r k.1
    ]

terms_of_read : (e : Entry) (names : Names) (dims : ℕ) (o : Option (List WrittenTerm)) (r : List WrittenTerm) →
    ((ts : List WrittenTerm) → o ≡ Some ts → AllByRecursion (IsTermWritten dims) ts) →
    terms_of e names o ≡ Ok r → AllByRecursion (IsTermRead names dims) r
terms_of_read e names dims None r so h = err_ok (Malformed e reasons.Polynomial) r h
terms_of_read e names dims (Some ts) r so h = known_read e names dims ts r (so ts refl) h

right_read : (names : Names) (dims at : ℕ) (d : Data) (r : List WrittenTerm) → right_of names dims at d ≡ Ok r → AllByRecursion (IsTermRead names dims) r
unfolding right_of
right_read names dims at d r h =
    let ms = bind_ok (of_kind (Item Unknown at) (as_table d)) _ r h in
    let t = bind_ok (text_of (Part Unknown at fields.Right) (codes "right") ms.0) _ r ms.2 in
    terms_of_read (Part Unknown at fields.Right) names dims (right_side dims t.0) r (λ ts e. right_side_written dims t.0 ts e) t.2

rights_read : (names : Names) (dims at : ℕ) (found : List (List WrittenTerm)) (ds : Items) (r : List (List WrittenTerm)) →
    AllByRecursion (AllByRecursion (IsTermRead names dims)) found →
    rights_from names dims at found ds ≡ Ok r →
    AllByRecursion (AllByRecursion (IsTermRead names dims)) r × (length r ≡ length found + count ds)
unfolding rights_from
rights_read names dims at found no_items r so h =
    subst (λ x. AllByRecursion (AllByRecursion (IsTermRead names dims)) x × (length x ≡ length found + 0)) (same_value found r h) (so, omega arith)
rights_read names dims at found (item d ds) r so h =
    let t = bind_ok (right_of names dims at d) _ r h in
    let rest = rights_read names dims (at + 1) (found ++ t.0 ∷ []) ds r (all_push (AllByRecursion (IsTermRead names dims)) found t.0 so (right_read names dims at d t.0 t.1)) t.2 in
    (rest.0, omega (arith, rest.1, length-append found (t.0 ∷ [])))

-- the names of parameters, of noises and of unknowns, one after the other
in_three : (all first second : List (List ℕ)) (middle last : List (List ℕ)) →
    second ≡ first ++ middle → all ≡ second ++ last →
    all ≡ take (length first) all ++ (middle ++ last)
in_three all first second middle last s a =
    let whole : all ≡ first ++ (middle ++ last) = a ∙ ap (λ x. x ++ last) s ∙ append_assoc first middle last in
    let front : take (length first) all ≡ first = ap (take (length first)) whole ∙ take-append_seam first (middle ++ last) in
    whole ∙ ap (λ x. x ++ (middle ++ last)) (sym front)

directions_read : (version : FileVersion) (ms : Members) (r : List ℕ × List ℕ) →
    directions_of version ms ≡ Ok r → (0 < length r.0) × AllByRecursion (λ s. 0 < s) r.0
unfolding directions_of
directions_read version ms r h =
    let b1 = bind_ok (list_of Scaling (codes "scaling") ms) _ r h in
    let b2 = bind_ok (numbers_from 1 [] b1.0) _ r b1.2 in
    let b3 = bind_ok (reflect_of version (length b2.0) (get_member (codes "reflect") ms)) _ r b2.2 in
    let numbers = numbers_above 1 [] b1.0 b2.0 tt b2.1 in
    let some = list_counted Scaling (codes "scaling") ms b1.0 b1.1 in
    subst (λ x. (0 < length x.0) × AllByRecursion (λ s. 0 < s) x.0) (same_value (b2.0, b3.0) r b3.2) (omega (arith, numbers.1, some), numbers.0)

part_read : (version : FileVersion) (directions : List ℕ × List ℕ) (parameters : List (List ℕ)) (noises : List (List ℕ) × List NoiseEntry) (ds : Items) (n : ℕ) (doc : Document) →
    0 < length directions.0 → AllByRecursion (λ s. 0 < s) directions.0 → 0 < count ds →
    AreMore noise_name IsNoiseKept parameters [] n noises →
    unknown_part version directions (length parameters) noises ds ≡ Ok doc → IsRead doc
unfolding unknown_part
part_read version directions parameters noises ds n doc dims above some ns h =
    let u = bind_ok (unknowns_from version 1 noises.0 [] ds) _ doc h in
    let names = names_of u.0.0 (length parameters) (length noises.0) in
    let r = bind_ok (rights_from names (length directions.0) 1 [] ds) _ doc u.2 in
    let made : Document = record { scaling = directions.0; reflect = directions.1; names = names; noises = noises.1; unknowns = u.0.1; rights = r.0 } in
    let us : AreMore unknown_name IsUnknownRead noises.0 [] (count ds) u.0 = unknowns_read version 1 noises.0 [] ds u.0 ns.names u.1 in
    let rs = rights_read names (length directions.0) 1 [] ds r.0 tt r.1 in
    let noises_are : noises.1 ≡ ns.more = ns.entries in
    let unknowns_are : u.0.1 ≡ us.more = us.entries in
    let noise_names : noises.0 ≡ parameters ++ map noise_name noises.1 = ns.named ∙ ap (λ x. parameters ++ map noise_name x) (sym noises_are) in
    let unknown_names : u.0.0 ≡ noises.0 ++ map unknown_name u.0.1 = us.named ∙ ap (λ x. noises.0 ++ map unknown_name x) (sym unknowns_are) in
    let noises_kept : AllByRecursion IsNoiseKept noises.1 = subst (AllByRecursion IsNoiseKept) (sym noises_are) ns.all in
    let noise_count : length noises.0 ≡ length parameters + length noises.1 = ap length noise_names ∙ length-append parameters (map noise_name noises.1) ∙ ap (λ x. length parameters + x) (length-map noises.1 noise_name) in
    let name_count : length u.0.0 ≡ length noises.0 + length (map unknown_name u.0.1) = ap length unknown_names ∙ length-append noises.0 (map unknown_name u.0.1) in
    let unknown_count : length u.0.1 ≡ count ds = ap length unknowns_are ∙ us.counted in
    let is : IsRead made = record {
      dims = dims;
      scaling = above;
      names = us.names;
      in_parts = in_three u.0.0 parameters noises.0 (map noise_name noises.1) (map unknown_name u.0.1) noise_names unknown_names;
      first_noise = omega (arith, noise_count, name_count);
      first_unknown = noise_count;
      groups = all_weaker IsNoiseKept (λ x. is_name x.group ≡ true) noises.1 (λ x p. p.0) noises_kept;
      noises = all_weaker IsNoiseKept (λ x. IsDegreeRead x.degree) noises.1 (λ x p. p.1) noises_kept;
      some = omega (arith, unknown_count, some);
      unknowns = subst (AllByRecursion IsUnknownRead) (sym unknowns_are) us.all;
      rights = omega (arith, rs.1, unknown_count);
      terms = rs.0;
    } in
    subst IsRead (same_value made doc r.2) is

pub document_is_read : (ms : Members) (doc : Document) → document_of ms ≡ Ok doc → IsRead doc
unfolding document_of
document_is_read ms doc h =
    let b1 = bind_ok (keys_of File keys.Top ms) _ doc h in
    let b2 = bind_ok (version_of ms) _ doc b1.2 in
    let b3 = bind_ok (directions_of b2.0 ms) _ doc b2.2 in
    let b5 = bind_ok (parameters_of (get_member (codes "parameters") ms)) _ doc b3.2 in
    let b6 = bind_ok (noises_of b5.0 (get_member (codes "noise") ms)) _ doc b5.2 in
    let b7 = bind_ok (list_of Unknown (codes "unknown") ms) _ doc b6.2 in
    let directions = directions_read b2.0 ms b3.0 b3.1 in
    let noises = noises_of_read b5.0 (get_member (codes "noise") ms) b6.0 (parameters_of_named (get_member (codes "parameters") ms) b5.0 b5.1) b6.1 in
    part_read b2.0 b3.0 b5.0 b6.0 b7.0 noises.0 doc directions.0 directions.1 (list_counted Unknown (codes "unknown") ms b7.0 b7.1) noises.1 b7.2

-- what is read of bytes is so, and passes no limit
pub read_is_read : (bytes : List ℕ) (doc : Document) → reading bytes ≡ Ok doc → IsRead doc × (limits_of doc ≡ Ok tt)
read_is_read bytes doc h =
    let a = read_accepted bytes doc h in
    let parts = accepted_parts a.0 doc a.1 in
    (document_is_read a.0 doc parts.0, parts.1)
