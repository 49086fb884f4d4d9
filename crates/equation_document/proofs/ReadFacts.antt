-- What is known of a table that is accepted, and of bytes that are read.
use Rattle.std.proofs.Common.{◌≡◌, ℕ, ◌+◌, ◌≤◌, List, [], ◌∷◌, ◌++◌, length, true, false, true≢false, nat_lt, Result, Ok, Err, Option, None, Some, refl, sym, ap, subst, arith}
use Rattle.std.specs.Prelude.{IsUtf8, codes, is_ok, IfOk, Bool, if◌then◌else◌}
use Rattle.std.specs.Str.{is_utf8}
use Rattle.std.proofs.lemmas.Bool.Decides.{nat_tests}
use Rattle.std.proofs.lemmas.List.{length-append}
use Rattle.std.proofs.lemmas.Str.{is_utf8-from_IsUtf8, IsUtf8-from_is_utf8}
use Rattle.toml.specs.Data.{Data, Items, no_items, item, Members, get_member, as_array}
use Rattle.toml.specs.Parse.{parse_document}
use Rattle.equation_document.specs.Counted.{AreCounted}
use Rattle.equation_document.specs.File.{accepted, table_document, reading}
use Rattle.equation_document.specs.Gives.{Gives}
use Rattle.equation_document.specs.Limits.{limits_of}
use Rattle.equation_document.specs.Reading.{◌>>=◌, of_kind, keys_of, version_of, list_of, directions_of, parameters_of, noise_of, noises_from, noises_of, unknown_of, unknowns_from, rights_from, unknown_part, document_of, names_of}
use Rattle.equation_document.specs.declared.fault.Section.TheVariants.{Noise, Unknown}
use Rattle.equation_document.specs.declared.fault.Entry.TheVariants.{File, Whole}
use Rattle.equation_document.specs.declared.entries.KeySet.TheVariants as keys
use Rattle.equation_document.specs.declared.versions.FileVersion.{FileVersion}
use Rattle.equation_document.specs.declared.document.Document.{Document}
use Rattle.equation_document.specs.declared.document.NoiseEntry.{NoiseEntry}
use Rattle.equation_document.specs.declared.document.UnknownEntry.{UnknownEntry}
use Rattle.equation_document.specs.declared.fault.Fault.{Fault}
use Rattle.equation_document.specs.declared.fault.Fault.TheVariants as faults
use Rattle.equation_document.specs.declared.fault.ReadError.{ReadError}

pub bind_ok : {A B : Type 0} (r : Result A Fault) (f : A → Result B Fault) (b : B) → (r >>= f) ≡ Ok b → (a : A) × (r ≡ Ok a) × (f a ≡ Ok b)
bind_ok (Ok a) f b h = (a, refl, h)
bind_ok (Err e) f b h = absurd (true≢false (sym (ap is_ok h)))

pub err_ok : {A P : Type 0} (e : Fault) (a : A) → ◌≡◌ {A = Result A Fault} (Err e) (Ok a) → P
err_ok e a h = absurd (true≢false (sym (ap is_ok h)))

or_else : {A : Type 0} → A → Result A Fault → A
or_else d (Ok a) = a
or_else d (Err e) = d

pub same_value : {A : Type 0} (a b : A) → ◌≡◌ {A = Result A Fault} (Ok a) (Ok b) → a ≡ b
unfolding or_else
same_value a b h = ap (or_else a) h

pub noises_counted : (at : ℕ) (seen : List (List ℕ)) (found : List NoiseEntry) (ds : Items) (r : List (List ℕ) × List NoiseEntry) →
    noises_from at seen found ds ≡ Ok r → length r.0 + length found ≡ length seen + length r.1
unfolding noises_from
noises_counted at seen found no_items r h = let e = same_value (seen, found) r h in subst (λ x. length x.0 + length found ≡ length seen + length x.1) e refl
noises_counted at seen found (item d ds) r h =
    let b = bind_ok (noise_of at seen d) _ r h in
    let rest = noises_counted (at + 1) (seen ++ b.0.name ∷ []) (found ++ b.0 ∷ []) ds r b.2 in
    omega (arith, rest, length-append seen (b.0.name ∷ []), length-append found (b.0 ∷ []))

pub unknowns_counted : (version : FileVersion) (at : ℕ) (seen : List (List ℕ)) (found : List UnknownEntry) (ds : Items) (r : List (List ℕ) × List UnknownEntry) →
    unknowns_from version at seen found ds ≡ Ok r →
    length r.0 + length found ≡ length seen + length r.1
unfolding unknowns_from
unknowns_counted version at seen found no_items r h = let e = same_value (seen, found) r h in subst (λ x. length x.0 + length found ≡ length seen + length x.1) e refl
unknowns_counted version at seen found (item d ds) r h =
    let b = bind_ok (unknown_of version at seen d) _ r h in
    let rest = unknowns_counted version (at + 1) (seen ++ b.0.name ∷ []) (found ++ b.0 ∷ []) ds r b.2 in
    omega (arith, rest, length-append seen (b.0.name ∷ []), length-append found (b.0 ∷ []))

pub noises_of_counted : (seen : List (List ℕ)) (d : Option Data) (r : List (List ℕ) × List NoiseEntry) →
    noises_of seen d ≡ Ok r → length r.0 ≡ length seen + length r.1
unfolding noises_of
noises_of_counted seen None r h = let e = same_value (seen, []) r h in subst (λ x. length x.0 ≡ length seen + length x.1) e (omega arith)
noises_of_counted seen (Some d) r h =
    let b = bind_ok (of_kind (Whole Noise) (as_array d)) (noises_from 1 seen []) r h in
    omega (arith, noises_counted 1 seen [] b.0 r b.2)

part_counted : (version : FileVersion) (directions : List ℕ × List ℕ) (n : ℕ) (noises : List (List ℕ) × List NoiseEntry) (ds : Items) (doc : Document) →
    length noises.0 ≡ n + length noises.1 → unknown_part version directions n noises ds ≡ Ok doc →
    AreCounted doc
unfolding unknown_part
part_counted version directions n noises ds doc c h =
    let u = bind_ok (unknowns_from version 1 noises.0 [] ds) _ doc h in
    let names = names_of u.0.0 n (length noises.0) in
    let r = bind_ok (rights_from names (length directions.0) 1 [] ds) _ doc u.2 in
    let made : Document = record { scaling = directions.0; reflect = directions.1; names = names; noises = noises.1; unknowns = u.0.1; rights = r.0 } in
    let more : length u.0.0 + 0 ≡ length noises.0 + length u.0.1 = unknowns_counted version 1 noises.0 [] ds u.0 u.1 in
    let last : length u.0.0 ≡ length noises.0 + length u.0.1 = omega (arith, more) in
    let is : AreCounted made = record { noises = c; unknowns = last } in
    subst AreCounted (same_value made doc r.2) is

pub counted : (ms : Members) (doc : Document) → document_of ms ≡ Ok doc → AreCounted doc
unfolding document_of
counted ms doc h =
    let b1 = bind_ok (keys_of File keys.Top ms) _ doc h in
    let b2 = bind_ok (version_of ms) _ doc b1.2 in
    let b3 = bind_ok (directions_of b2.0 ms) _ doc b2.2 in
    let b5 = bind_ok (parameters_of (get_member (codes "parameters") ms)) _ doc b3.2 in
    let b6 = bind_ok (noises_of b5.0 (get_member (codes "noise") ms)) _ doc b5.2 in
    let b7 = bind_ok (list_of Unknown (codes "unknown") ms) _ doc b6.2 in
    part_counted b2.0 b3.0 (length b5.0) b6.0 b7.0 doc (noises_of_counted b5.0 (get_member (codes "noise") ms) b6.0 b6.1) b7.2

pub accepted_parts : (ms : Members) (doc : Document) → accepted ms ≡ Ok doc → (document_of ms ≡ Ok doc) × (limits_of doc ≡ Ok tt)
unfolding accepted
accepted_parts ms doc h =
    let b = bind_ok (document_of ms) _ doc h in
    let l = bind_ok (limits_of b.0) _ doc b.2 in
    let e = same_value b.0 doc l.2 in
    subst (λ d. (document_of ms ≡ Ok d) × (limits_of d ≡ Ok tt)) e (b.1, l.1)

not_longer : (n m : ℕ) → m ≤ n → nat_lt n m ≡ false
not_longer n m h = grind (arith, nat_tests)

not_utf8 : (bs : List ℕ) → ¬ (IsUtf8 bs) → is_utf8 bs ≡ false
not_utf8 bs h = elim (is_utf8 bs) as (λ b. is_utf8 bs ≡ b → b ≡ false) [ true ↦ λ e. absurd (h (IsUtf8-from_is_utf8 bs e)) | false ↦ λ e. refl ] refl

pub reading-short : (bs : List ℕ) → length bs ≤ 65536 → IsUtf8 bs → reading bs ≡ table_document (parse_document bs)
reading-short bs short utf8 = rw (not_longer 65536 (length bs) short, is_utf8-from_IsUtf8 bs utf8) refl

pub reading-not_utf8 : (bs : List ℕ) → length bs ≤ 65536 → ¬ (IsUtf8 bs) → reading bs ≡ Err faults.NotUtf8
reading-not_utf8 bs short wrong = rw (not_longer 65536 (length bs) short, not_utf8 bs wrong) refl

of_table : (table : Option Members) (doc : Document) → table_document table ≡ Ok doc → (ms : Members) × (accepted ms ≡ Ok doc)
of_table None doc h = err_ok faults.NotToml doc h
of_table (Some ms) doc h = (ms, h)

read_as : (long utf8 : Bool) (read : Result Document Fault) (f g : Fault) (doc : Document) →
    (if long then Err f else if utf8 then read else Err g) ≡ Ok doc → read ≡ Ok doc
read_as true utf8 read f g doc h = err_ok f doc h
read_as false true read f g doc h = h
read_as false false read f g doc h = err_ok g doc h

-- what is read is held by an accepted table
pub read_accepted : (bytes : List ℕ) (doc : Document) → reading bytes ≡ Ok doc → (ms : Members) × (accepted ms ≡ Ok doc)
read_accepted bytes doc h = of_table (parse_document bytes) doc (read_as (nat_lt 65536 (length bytes)) (is_utf8 bytes) (table_document (parse_document bytes)) _ _ doc h)

-- so its names are counted, and it passes no limit
pub read_counted : (bytes : List ℕ) (result : Result Document ReadError) → Gives (λ d. d) result (reading bytes) → IfOk result (λ d. AreCounted d)
read_counted bytes (Ok doc) h = let a = read_accepted bytes doc h in counted a.0 doc (accepted_parts a.0 doc a.1).0
read_counted bytes (Err e) h = tt

pub read_within : (bytes : List ℕ) (result : Result Document ReadError) → Gives (λ d. d) result (reading bytes) → IfOk result (λ d. limits_of d ≡ Ok tt)
read_within bytes (Ok doc) h = let a = read_accepted bytes doc h in (accepted_parts a.0 doc a.1).1
read_within bytes (Err e) h = tt
