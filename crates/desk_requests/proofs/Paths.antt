-- The targets that have a place, in plain words.
use Rattle.std.proofs.Common.{◌≡◌, ℕ, ◌-◌, ◌<◌, ◌==◌, not, nat_lt, List, [], ◌∷◌, ◌++◌, length, codes, true, false, Option, Some, None, refl, sym, ap, ◌∙◌, inl, inr, arith, rules, tests, ◌⊎◌, subst}
use Rattle.std.specs.List.{AllByRecursion, list_all, take_while}
use Rattle.std.proofs.lemmas.Bool.{cases_Bool, false≢true}
use Rattle.std.proofs.lemmas.Bool.Decides.{nat_tests}
use Rattle.std.proofs.lemmas.List.{append-nil, length-append}
use Rattle.std.proofs.lemmas.List.Sums.{take_while-cons}
use Rattle.matchit.specs.Rows.{RowsOf, param_token}
use Rattle.matchit.specs.Router.{RouteOf}
use Rattle.matchit.specs.Seek.{first, seek, step, param_step, has_slash}
use Rattle.matchit.proofs.OnLiterals.{matchit_on_literals}
use Rattle.result_keeper.specs.ProjectName.{is_project_start, is_project_byte, is_project_name}
use Rattle.desk_requests.specs.Places.{project_row, projects_row, desk_rows, tail_of, path_of, name_in, place_at, place_on, place_of, has_name}
use Rattle.desk_requests.specs.declared.place.Part.{Part}
use Rattle.desk_requests.specs.declared.place.Part.TheVariants as Parts
use Rattle.desk_requests.specs.declared.place.Place.{Place}
use Rattle.desk_requests.specs.declared.place.Place.TheVariants.{AllProjects, Project}
use Rattle.desk_requests.proofs.ProjectNames.{both, name_bytes}
use Rattle.desk_requests.proofs.Seeking.{none_some, seek_none, seek_skip, seek_over, seek_byte, or_none, strip, follow, segment_whole, segment_front, parts_of, no_cut, cut}

abbrev Found : Type 0
Found = RouteOf (Option Part)

abbrev route_at : Part → Found
route_at part = (project_row part).1

abbrev all_route : Found
all_route = projects_row.1

-- what is left of the routes after `/projects`, after the slash, after a name, and after the slash
-- behind it
abbrev top_rows : RowsOf Found
top_rows =
    (codes "/" ++ param_token ∷ codes "/detail", route_at Parts.Detail)
    ∷ (codes "/" ++ param_token ∷ codes "/report", route_at Parts.Report)
    ∷ (codes "/" ++ param_token ∷ codes "/trees", route_at Parts.Trees)
    ∷ (codes "/" ++ param_token ∷ [], route_at Parts.File)
    ∷ ([], all_route)
    ∷ []

abbrev name_rows : RowsOf Found
name_rows = (param_token ∷ codes "/detail", route_at Parts.Detail) ∷ (param_token ∷ codes "/report", route_at Parts.Report) ∷ (param_token ∷ codes "/trees", route_at Parts.Trees) ∷ (param_token ∷ [], route_at Parts.File) ∷ []

abbrev slash_rows : RowsOf Found
slash_rows = (codes "/detail", route_at Parts.Detail) ∷ (codes "/report", route_at Parts.Report) ∷ (codes "/trees", route_at Parts.Trees) ∷ []

abbrev end_rows : RowsOf Found
end_rows = (codes "/detail", route_at Parts.Detail) ∷ (codes "/report", route_at Parts.Report) ∷ (codes "/trees", route_at Parts.Trees) ∷ ([], route_at Parts.File) ∷ []

abbrev tail_rows : RowsOf Found
tail_rows = (codes "detail", route_at Parts.Detail) ∷ (codes "report", route_at Parts.Report) ∷ (codes "trees", route_at Parts.Trees) ∷ []

abbrev from : Found → Option Found → Found
from a None = a
from a (Some b) = b

abbrev place_from : Place → Option Place → Place
place_from p None = p
place_from p (Some q) = q

some_is : (a b : Found) → Some a ≡ Some b → b ≡ a
some_is a b e = sym (ap (λ o. from a o) e)

param_whole : (name : List ℕ) → has_slash name ≡ false → param_step end_rows name ≡ (length name, end_rows)
unfolding matchit_on_literals
param_whole name h = rw (segment_whole name h, no_cut name h, h) refl

param_cut : (c : ℕ) (front back : List ℕ) → has_slash (c ∷ front) ≡ false → param_step end_rows ((c ∷ front) ++ 47 ∷ back) ≡ (length (c ∷ front), slash_rows)
unfolding matchit_on_literals
param_cut c front back h =
    let size : length ((c ∷ front) ++ 47 ∷ []) - 1 ≡ length (c ∷ front) = omega (arith, length-append (c ∷ front) (47 ∷ [])) in
    rw (segment_front (c ∷ front) back h, cut c front) (ap (λ n. (n, slash_rows)) size)

param_none : (back : List ℕ) → param_step end_rows (47 ∷ back) ≡ (0, [])
unfolding matchit_on_literals
param_none back = refl

at_name : (c : ℕ) (path : List ℕ) → c < 256 → (n : ℕ) (rs : RowsOf Found) →
    param_step end_rows (c ∷ path) ≡ (n, rs) → seek 0 name_rows (c ∷ path) ≡ seek (n - 1) rs path
unfolding seek
at_name c path small n rs h =
    let byte : (256 == c) ≡ false = grind (arith, nat_tests) in
    rw (byte, h, seek_none {K = Found} 0 path) (or_none (seek (n - 1) rs path))

only_end : (k : Found) (rest : List ℕ) (r : Found) → seek 0 (([], k) ∷ []) rest ≡ Some r → (rest ≡ []) × (r ≡ k)
unfolding seek
only_end k [] r h = (refl, some_is k r h)
only_end k (b ∷ rest) r h = absurd (none_some r (sym (seek_byte (([], k) ∷ []) b rest refl refl ∙ seek_none 0 rest) ∙ h))

abbrev EndsAs : List ℕ → Found → Type 0
EndsAs tail r = (part : Part) × (tail ≡ tail_of part) × (r ≡ route_at part)

bytes_small : (w : List ℕ) → list_all (λ b. nat_lt b 256) w ≡ true → AllByRecursion (λ b. b < 256) w
bytes_small [] h = tt
bytes_small (b ∷ w) h =
    elim (cases_Bool (nat_lt b 256)) [
      | inl yes' ↦ (grind (arith, nat_tests, yes'), bytes_small w (rw yes' at h))
      | inr no' ↦ absurd (false≢true (rw no' at h))
    ]

-- a tail after its slash
found_tail : (back : List ℕ) (r : Found) → seek 0 tail_rows back ≡ Some r → EndsAs (47 ∷ back) r
unfolding seek
found_tail [] r h = absurd (none_some r h)
found_tail (b ∷ back) r h =
    let t : seek 0 (step b tail_rows) back ≡ Some r = sym (seek_byte tail_rows b back refl refl) ∙ h in
    elim (cases_Bool (100 == b)) [
      | inl d ↦
          let is : b ≡ 100 = grind (arith, nat_tests, d) in
          let found = strip (codes "etail") (([], route_at Parts.Detail) ∷ []) back r (bytes_small (codes "etail") refl) (subst (λ x. seek 0 (step x tail_rows) back ≡ Some r) is t) in
          let end = only_end (route_at Parts.Detail) found.0 r found.2 in
          (Parts.Detail, rw (is, found.1, end.0) refl, end.1)
      | inr nd ↦ elim (cases_Bool (114 == b)) [
        | inl e ↦
            let is : b ≡ 114 = grind (arith, nat_tests, e) in
            let found = strip (codes "eport") (([], route_at Parts.Report) ∷ []) back r (bytes_small (codes "eport") refl) (subst (λ x. seek 0 (step x tail_rows) back ≡ Some r) is t) in
            let end = only_end (route_at Parts.Report) found.0 r found.2 in
            (Parts.Report, rw (is, found.1, end.0) refl, end.1)
        | inr nr ↦ elim (cases_Bool (116 == b)) [
          | inl f ↦
              let is : b ≡ 116 = grind (arith, nat_tests, f) in
              let found = strip (codes "rees") (([], route_at Parts.Trees) ∷ []) back r (bytes_small (codes "rees") refl) (subst (λ x. seek 0 (step x tail_rows) back ≡ Some r) is t) in
              let end = only_end (route_at Parts.Trees) found.0 r found.2 in
              (Parts.Trees, rw (is, found.1, end.0) refl, end.1)
          | inr nt ↦ absurd (none_some r (sym (seek_none 0 back) ∙ rw (nd, nr, nt) at t))
        ]
      ]
    ]

-- a name and a slash behind it
found_front : (front back : List ℕ) (r : Found) → AllByRecursion (λ b. b < 256) front →
    has_slash front ≡ false → seek 0 name_rows (front ++ 47 ∷ back) ≡ Some r → EndsAs (47 ∷ back) r
found_front [] back r small h s = absurd (none_some r (sym (at_name 47 back (omega arith) 0 [] (param_none back) ∙ seek_none (0 - 1) back) ∙ s))
found_front (d ∷ front) back r small h s =
    let size : length (d ∷ front) - 1 ≡ length front = omega arith in
    let t : seek 0 slash_rows (47 ∷ back) ≡ Some r = sym (at_name d (front ++ 47 ∷ back) small.0 (length (d ∷ front)) slash_rows (param_cut d front back h) ∙ (ap (λ n. seek n slash_rows (front ++ 47 ∷ back)) size ∙ seek_over slash_rows front (47 ∷ back))) ∙ s in
    found_tail back r (sym (seek_byte slash_rows 47 back refl refl) ∙ t)

all_front : (P : ℕ → Type 0) (front back : List ℕ) → AllByRecursion P (front ++ back) → AllByRecursion P front
all_front P [] back h = tt
all_front P (b ∷ front) back h = (h.0, all_front P front back h.1)

all_back : (P : ℕ → Type 0) (front back : List ℕ) → AllByRecursion P (front ++ back) → AllByRecursion P back
all_back P [] back h = h
all_back P (b ∷ front) back h = all_back P front back h.1

abbrev IsNamedAs : List ℕ → Found → Type 0
IsNamedAs path r = (part : Part) × (name : List ℕ) × (path ≡ name ++ tail_of part) × (has_slash name ≡ false) × (r ≡ route_at part)

found_name : (path : List ℕ) (r : Found) → AllByRecursion (λ b. b < 256) path → seek 0 name_rows path ≡ Some r → IsNamedAs path r
unfolding seek
found_name [] r small h = absurd (none_some r h)
found_name (c ∷ path) r small h =
    elim (parts_of (c ∷ path)) [
      | inl none ↦
          let size : length (c ∷ path) - 1 ≡ length path = omega arith in
          let t : Some (route_at Parts.File) ≡ Some r = sym (at_name c path small.0 (length (c ∷ path)) end_rows (param_whole (c ∷ path) none) ∙ (ap (λ n. seek n end_rows path) size ∙ seek_skip end_rows path)) ∙ h in
          (Parts.File, c ∷ path, sym (append-nil (c ∷ path)), none, some_is (route_at Parts.File) r t)
      | inr split ↦
          let bytes : AllByRecursion (λ b. b < 256) (split.0 ++ 47 ∷ split.1) = subst (λ q. AllByRecursion (λ b. b < 256) q) split.2 small in
          let found = found_front split.0 split.1 r (all_front (λ b. b < 256) split.0 (47 ∷ split.1) bytes) split.3 (subst (λ q. seek 0 name_rows q ≡ Some r) split.2 h) in
          (found.0, split.0, split.2 ∙ ap (λ t. split.0 ++ t) found.1, split.3, found.2)
    ]

abbrev IsTopAs : List ℕ → Found → Type 0
IsTopAs rest r = ((rest ≡ []) × (r ≡ all_route)) ⊎ ((part : Part) × (name : List ℕ) × (rest ≡ 47 ∷ (name ++ tail_of part)) × (has_slash name ≡ false) × (r ≡ route_at part))

found_top : (rest : List ℕ) (r : Found) → AllByRecursion (λ b. b < 256) rest → seek 0 top_rows rest ≡ Some r → IsTopAs rest r
unfolding seek
found_top [] r small h = inl (refl, some_is all_route r h)
found_top (b ∷ rest) r small h =
    let t : seek 0 (step b top_rows) rest ≡ Some r = sym (seek_byte top_rows b rest refl refl) ∙ h in
    elim (cases_Bool (47 == b)) [
      | inl same ↦
          let is : b ≡ 47 = grind (arith, nat_tests, same) in
          let found = found_name rest r small.1 (subst (λ x. seek 0 (step x top_rows) rest ≡ Some r) is t) in
          inr (found.0, found.1, ap (λ y. y ∷ rest) is ∙ ap (λ q. 47 ∷ q) found.2, found.3, found.4)
      | inr other ↦ absurd (none_some r (sym (seek_none 0 rest) ∙ rw other at t))
    ]

-- the name in a path
take_front : (name : List ℕ) (part : Part) → has_slash name ≡ false → take_while (λ b. not (b == 47)) (name ++ tail_of part) ≡ name
take_front [] Parts.File h = refl
take_front [] Parts.Report h = refl
take_front [] Parts.Trees h = refl
take_front [] Parts.Detail h = refl
take_front (b ∷ name) part h =
    elim (cases_Bool (b == 47)) [
      | inl same ↦ absurd (false≢true (sym (rw same at h)))
      | inr other ↦ take_while-cons (λ c. not (c == 47)) b (name ++ tail_of part) ∙ rw other (ap (λ l. b ∷ l) (take_front name part (rw other at h)))
    ]

named : (part : Part) (name : List ℕ) (p : Place) → place_at (Some part) name ≡ Some p → p ≡ Project part name
named part name p h =
    elim (cases_Bool (is_project_name name)) [
      | inl good ↦ sym (ap (λ o. place_from p o) (rw good at h))
      | inr bad ↦ absurd (none_some p (rw bad at h))
    ]

name_is : (target name : List ℕ) (part : Part) → target ≡ codes "/projects/" ++ (name ++ tail_of part) → has_slash name ≡ false → name_in target ≡ name
name_is target name part e h = ap name_in e ∙ take_front name part h

from_route : (target : List ℕ) (p : Place) (o : Option Found) →
    AllByRecursion (λ b. b < 256) target → first desk_rows target ≡ o → place_on o target ≡ Some p →
    target ≡ path_of p
from_route target p None small e h = absurd (none_some p h)
from_route target p (Some r) small e h =
    let parts = strip (codes "/projects") top_rows target r (bytes_small (codes "/projects") refl) e in
    elim (found_top parts.0 r (all_back _ (codes "/projects") parts.0 (rw parts.1 at small)) parts.2) [
      | inl top ↦
          let is : p ≡ AllProjects = sym (ap (place_from p) (rw top.1 at h)) in
          rw (is, parts.1, top.0) refl
      | inr one ↦
          let path : target ≡ codes "/projects/" ++ (one.1 ++ tail_of one.0) = parts.1 ∙ ap (λ t. codes "/projects" ++ t) one.2 in
          let is : p ≡ Project one.0 one.1 = named one.0 one.1 p (rw (name_is target one.1 one.0 path one.3) at (rw one.4 at h)) in
          rw is path
    ]

name_good : (part : Part) (name : List ℕ) (p : Place) → place_at (Some part) name ≡ Some p → has_name p ≡ true
name_good part name p h =
    elim (cases_Bool (is_project_name name)) [
      | inl good ↦ rw (named part name p h) good
      | inr bad ↦ absurd (none_some p (rw bad at h))
    ]

named_at : (o : Option Part) (name : List ℕ) (p : Place) → place_at o name ≡ Some p → has_name p ≡ true
named_at None name p h = rw (sym (ap (place_from p) h)) refl
named_at (Some part) name p h = name_good part name p h

named_on : (o : Option Found) (target : List ℕ) (p : Place) → place_on o target ≡ Some p → has_name p ≡ true
named_on None target p h = absurd (none_some p h)
named_on (Some r) target p h = named_at r.value (name_in target) p h

-- a target that has a place is the path of that place
pub target_is_path : (target : List ℕ) (p : Place) → AllByRecursion (λ b. b < 256) target → place_of target ≡ Some p → target ≡ path_of p
target_is_path target p small h = from_route target p (first desk_rows target) small refl h

start_small : (c : ℕ) → is_project_start c ≡ true → c < 256
start_small c h = search (rules, tests)

no_slash_byte : (c : ℕ) → is_project_byte c ≡ true → (c == 47) ≡ false
no_slash_byte c h =
    elim (cases_Bool (c == 47)) [
      | inl same ↦ let is : c ≡ 47 = grind (arith, nat_tests, same) in absurd (false≢true (rw is at h))
      | inr other ↦ other
    ]

bytes_no_slash : (name : List ℕ) → list_all is_project_byte name ≡ true → has_slash name ≡ false
bytes_no_slash [] h = refl
bytes_no_slash (b ∷ name) h =
    let parts = both (is_project_byte b) (list_all is_project_byte name) h in
    rw (no_slash_byte b parts.0) (bytes_no_slash name parts.1)

-- what stands behind the slash after a name
report_end : seek 0 slash_rows (codes "/report") ≡ Some (route_at Parts.Report)
unfolding matchit_on_literals
report_end = refl

trees_end : seek 0 slash_rows (codes "/trees") ≡ Some (route_at Parts.Trees)
unfolding matchit_on_literals
trees_end = refl

detail_end : seek 0 slash_rows (codes "/detail") ≡ Some (route_at Parts.Detail)
unfolding matchit_on_literals
detail_end = refl

found_behind : (part : Part) (c : ℕ) (front back : List ℕ) → c < 256 →
    has_slash (c ∷ front) ≡ false → seek 0 slash_rows (47 ∷ back) ≡ Some (route_at part) →
    seek 0 name_rows ((c ∷ front) ++ 47 ∷ back) ≡ Some (route_at part)
found_behind part c front back small h end =
    let size : length (c ∷ front) - 1 ≡ length front = omega arith in
    at_name c (front ++ 47 ∷ back) small (length (c ∷ front)) slash_rows (param_cut c front back h)
    ∙ (ap (λ n. seek n slash_rows (front ++ 47 ∷ back)) size ∙ (seek_over slash_rows front (47 ∷ back) ∙ end))

-- the path of a part of a project
found_at : (part : Part) (c : ℕ) (front : List ℕ) → c < 256 → has_slash (c ∷ front) ≡ false →
    seek 0 name_rows ((c ∷ front) ++ tail_of part) ≡ Some (route_at part)
found_at Parts.File c front small h =
    let size : length (c ∷ front) - 1 ≡ length front = omega arith in
    ap (λ q. seek 0 name_rows q) (append-nil (c ∷ front))
    ∙ (at_name c front small (length (c ∷ front)) end_rows (param_whole (c ∷ front) h)
    ∙ (ap (λ n. seek n end_rows front) size ∙ seek_skip end_rows front))
found_at Parts.Report c front small h = found_behind Parts.Report c front (codes "report") small h report_end
found_at Parts.Trees c front small h = found_behind Parts.Trees c front (codes "trees") small h trees_end
found_at Parts.Detail c front small h = found_behind Parts.Detail c front (codes "detail") small h detail_end

name_parts : (c : ℕ) (front : List ℕ) → is_project_name (c ∷ front) ≡ true → (c < 256) × (has_slash (c ∷ front) ≡ false)
name_parts c front h =
    let parts = name_bytes c front h in
    (start_small c parts.0, bytes_no_slash (c ∷ front) parts.1)

first_at : (part : Part) (c : ℕ) (front : List ℕ) → is_project_name (c ∷ front) ≡ true →
    first desk_rows (path_of (Project part (c ∷ front))) ≡ Some (route_at part)
first_at part c front h =
    let parts = name_parts c front h in
    follow (codes "/projects") top_rows (47 ∷ ((c ∷ front) ++ tail_of part)) (bytes_small (codes "/projects") refl)
    ∙ (seek_byte top_rows 47 ((c ∷ front) ++ tail_of part) refl refl ∙ found_at part c front parts.0 parts.1)

all_path : first desk_rows (codes "/projects") ≡ Some all_route
unfolding matchit_on_literals
all_path = refl

-- the path of a place has that place
pub path_has_place : (p : Place) → has_name p ≡ true → place_of (path_of p) ≡ Some p
path_has_place AllProjects h = rw all_path refl
path_has_place (Project part []) h = absurd (false≢true h)
path_has_place (Project part (c ∷ front)) h =
    rw (first_at part c front h, name_is (path_of (Project part (c ∷ front))) (c ∷ front) part refl (name_parts c front h).1, h) refl

-- and a place has only names of projects
pub place_is_named : (target : List ℕ) (p : Place) → place_of target ≡ Some p → has_name p ≡ true
place_is_named target p h = named_on (first desk_rows target) target p h
