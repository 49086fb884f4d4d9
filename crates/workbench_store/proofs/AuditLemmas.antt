-- Pages of rows, one after the other.
use Rattle.std.proofs.Common.{◌≡◌, ◌≢◌, ◌⊎◌, inl, inr, ◌<◌, ◌+◌, ℕ, zero, suc, List, [], ◌∷◌, ◌++◌, map, length, take, drop, get_or, slice_get, Option, None, Some, Result, Ok, Err, IfSome, IfOk, IfErr, refl, sym, ap, ◌∙◌, subst, arith}
use Rattle.std.specs.List.{AllByRecursion}
use Rattle.std.proofs.lemmas.Simd.{map-map}
use Rattle.degree_numbers.specs.declared.types.Types.{Types}
use Rattle.degree_numbers.specs.Types.{AreTypes}
use Rattle.type_contexts.specs.Context.{IsContextText}
use Rattle.result_keeper.specs.Kept.{Kept, contexts_of, results_of}
use Rattle.result_keeper.specs.Told.{Stays}
use Rattle.stored_constants.specs.declared.AuditCause.{AuditCause}
use Rattle.stored_constants.specs.Sound.{IsFirstFalse}
use Rattle.workbench_core.specs.declared.refusal.Refusal.{Refusal}
use Rattle.workbench_core.specs.declared.refusal.Refusal.TheVariants.{OldStore, StoredRow, Memory}
use Rattle.workbench_store.specs.Audit.{Page, pages_of, row_count, IsReadPage, row_at, IsUnreadPage, IsTruePage, of_cause, IsFalsePage, IsFirst, audit_text, AuditsPages, Audits}
use Rattle.workbench_store.specs.Stepped.{IsRefusedWith, IsDone}
use Rattle.workbench_store.proofs.SteppedLemmas.{told_is, told_before, halts, stops, happens_where_they_stay, stays_itself}

all_append : (P : Page → Type 0) (ps : List Page) (p : Page) → AllByRecursion P ps → P p → AllByRecursion P (ps ++ p ∷ [])
all_append P [] p all h = (h, tt)
all_append P (q ∷ ps) p all h = (all.0, all_append P ps p all.1 h)

-- the audit of rows that are there
pub audited : (ps : List Page) (text : List ℕ) → AllByRecursion IsTruePage ps → text ≡ audit_text (row_count ps) → AuditsPages ps (Ok text)
audited ps text all is = inr (inr (all, ap Ok is))

pub unread_pages : (ps : List Page) (e : Refusal) →
    (e ≡ Memory) ⊎ IsFirst IsReadPage (λ p. (tree : List ℕ) × IsUnreadPage p tree × (e ≡ StoredRow p.0 tree)) ps →
    (e ≡ Memory) ⊎ AuditsPages ps (Err e)
unread_pages ps e (inl memory) = inl memory
unread_pages ps e (inr h) = inr (inl (record {
  front = h.front;
  page = h.page;
  rest = h.rest;
  parts = h.parts;
  before = h.before;
  there = (h.there.0, h.there.1, ap Err h.there.2);
}))

pub false_pages : (ps : List Page) (e : Refusal) → AllByRecursion IsReadPage ps →
    (e ≡ Memory) ⊎ IsFirst IsTruePage (λ p. IsFalsePage p e) ps →
    (e ≡ Memory) ⊎ AuditsPages ps (Err e)
false_pages ps e read (inl memory) = inl memory
false_pages ps e read (inr h) = inr (inr (inl (
  read,
  record {
    front = h.front;
    page = h.page;
    rest = h.rest;
    parts = h.parts;
    before = h.before;
    there = (e, h.there, refl);
  },
)))

-- the audit over a keeper
module _ (old mid : Option Kept) (stays : Stays old mid) where
  pub old_rows : (version : ℕ) → version ≡ 1 → IfSome old (λ k. version ≡ k.version) → IsRefusedWith Audits old mid (Err OldStore) OldStore
  old_rows version one is = stops Audits old mid (Err OldStore) OldStore stays (inr (λ k told. (refl, inl (sym (told_before (λ k. version ≡ k.version) old k is told) ∙ one, refl))))

  pub rows_audited : {T : Type 0} (view : T → List ℕ) (version : ℕ) (ps : List Page) (r : Result T Refusal) →
      version ≢ 1 → IfSome old (λ k. version ≡ k.version) → IfSome old (λ k. ps ≡ pages_of k)
      → IfOk r (λ v. AuditsPages ps (Ok (view v))) → IfErr r (λ e. (e ≡ Memory) ⊎ AuditsPages ps (Err e)) → IsDone Audits view old mid r
  rows_audited view version ps (Ok v) other is are ok err = happens_where_they_stay Audits old mid (Ok (view v)) stays (λ k told.
      (refl, inr ((λ one. other (told_before (λ k. version ≡ k.version) old k is told ∙ one)), subst (λ qs. AuditsPages qs (Ok (view v))) (told_before (λ k. ps ≡ pages_of k) old k are told) ok)))
  rows_audited view version ps (Err e) other is are ok (inl memory) = halts Audits old mid (Err e) e stays (inr memory)
  rows_audited view version ps (Err e) other is are ok (inr h) = stops Audits old mid (Err e) e stays (inr (λ k told.
      (refl, inr ((λ one. other (told_before (λ k. version ≡ k.version) old k is told ∙ one)), subst (λ qs. AuditsPages qs (Err e)) (told_before (λ k. ps ≡ pages_of k) old k are told) h))))

-- a context of no types
pub no_types_page : (p : Page) (e : Refusal) →
    ((ty : Types) → AreTypes ty → IsContextText ty p.0 → ⊥) →
    (e ≡ Memory) ⊎ (e ≡ StoredRow p.0 (row_at p.1 0).0) →
    (e ≡ Memory) ⊎ ((tree : List ℕ) × IsUnreadPage p tree × (e ≡ StoredRow p.0 tree))
no_types_page p e none (inl memory) = inl memory
no_types_page p e none (inr is) = inr ((row_at p.1 0).0, record { place = 0; unread = inl (none, refl); is = refl }, is)

row_there : (rows : List (List ℕ × List ℕ)) (place : ℕ) (row : List ℕ × List ℕ) → slice_get rows place ≡ Some row → row_at rows place ≡ row
row_there [] place row h = absurd cc
row_there (r ∷ rows) zero row h = cc
row_there (r ∷ rows) (suc place) row h = row_there rows place row h

pub false_page : (p : Page) (ty : Types) → AreTypes ty → IsContextText ty p.0 →
    (place : ℕ) (cause : AuditCause) → IsFirstFalse ty p.1 place cause → (e : Refusal) →
    (e ≡ Memory) ⊎ (e ≡ of_cause (row_at p.1 place) cause) → (e ≡ Memory) ⊎ IsFalsePage p e
false_page p ty are text place cause first e (inl memory) = inl memory
false_page p ty are text place cause first e (inr is) = inr (record {
  types = ty;
  are_types = are;
  context = text;
  place = place;
  cause = cause;
  first = first;
  is = is ∙ ap (λ row. of_cause row cause) (row_there p.1 place first.row first.at);
})

-- pages one after the other
pub one_more_page : (P : Page → Type 0) (ps : List Page) (p : Page) → AllByRecursion P ps → P p → AllByRecursion P (ps ++ p ∷ [])
one_more_page P ps p all h = all_append P ps p all h

pub first_page : (good bad : Page → Type 0) (ps front rest : List Page) (p : Page) (e : Refusal) →
    ps ≡ front ++ p ∷ rest → AllByRecursion good front → (e ≡ Memory) ⊎ bad p →
    (e ≡ Memory) ⊎ IsFirst good bad ps
first_page good bad ps front rest p e parts all (inl memory) = inl memory
first_page good bad ps front rest p e parts all (inr h) = inr (record { front = front; page = p; rest = rest; parts = parts; before = all; there = h })

pub page_at : (P : Page → Type 0) (front rest : List Page) (p : Page) → AllByRecursion P (front ++ p ∷ rest) → P p
page_at P [] rest p all = all.0
page_at P (q ∷ front) rest p all = page_at P front rest p all.1

-- a list up to an element, the element, and the rest
pub parts_at : {X Y : Type 0} (f : X → Y) (xs : List X) (i : ℕ) (x : X) → i < length xs →
    x ≡ get_or xs i x → map f xs ≡ map f (take i xs) ++ f x ∷ map f (drop (suc i) xs)
parts_at f [] i x lt is = absurd (omega (arith, lt))
parts_at f (y ∷ ys) zero x lt is = ap (λ z. f z ∷ map f ys) (sym is)
parts_at f (y ∷ ys) (suc i) x lt is = ap (λ l. f y ∷ l) (parts_at f ys i x (omega (arith, lt)) is)

-- the pages of the contexts that are told
pub all_pages : {V P E : Type 0} (items : V → List ℕ) (pages : P → List Page) (old mid : Option Kept) (cs ds : List V) (result : Result P E) →
    Stays old mid → ds ≡ cs → IfSome mid (λ k. map items cs ≡ contexts_of k)
    → IfOk result (λ r. IfSome mid (λ k. pages r ≡ map (λ c. (items c, results_of k (items c))) ds)) → IfOk result (λ r. IfSome old (λ k. pages r ≡ pages_of k))
all_pages items pages None mid cs ds (Ok r) stays same are h = tt
all_pages items pages (Some k) mid cs ds (Ok r) stays same are h =
    let told = told_is (λ k. map items cs ≡ contexts_of k) (Some k) mid k stays are refl in
    let made = told_is (λ k. pages r ≡ map (λ c. (items c, results_of k (items c))) ds) (Some k) mid k stays h refl in
    made ∙ ap (map (λ c. (items c, results_of k (items c)))) same ∙ sym (map-map (λ c. (c, results_of k c)) items cs) ∙ ap (map (λ c. (c, results_of k c))) told
all_pages items pages old mid cs ds (Err e) stays same are h = h

-- the rows of one page more
rows_more : {X : Type 0} (f : X → Page) (xs : List X) (i : ℕ) (x : X) → i < length xs →
    x ≡ get_or xs i x →
    row_count (map f (take (suc i) xs)) ≡ row_count (map f (take i xs)) + length (f x).1
rows_more f [] i x lt is = absurd (omega (arith, lt))
rows_more f (y ∷ ys) zero x lt is = let same = ap (λ z. length (f z).1) is in omega (arith, same)
rows_more f (y ∷ ys) (suc i) x lt is = let rest = rows_more f ys i x (omega (arith, lt)) is in omega (arith, rest)

pub more_rows : {X : Type 0} (f : X → Page) (xs : List X) (i : ℕ) (x : X) → i < length xs →
    x ≡ get_or xs i x →
    row_count (map f (take (i + 1) xs)) ≡ row_count (map f (take i xs)) + length (f x).1
more_rows f xs i x lt is =
    let next : i + 1 ≡ suc i = omega arith in
    ap (λ n. row_count (map f (take n xs))) next ∙ rows_more f xs i x lt is
