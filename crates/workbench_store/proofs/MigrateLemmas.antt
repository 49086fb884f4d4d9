-- The contexts of an old store, and the new ones.
use Rattle.std.proofs.Common.{◌≡◌, ◌≢◌, ◌⊎◌, inl, inr, ℕ, List, [], ◌∷◌, ◌++◌, map, length, true, false, Option, None, Some, Result, Ok, Err, IfSome, refl, sym, ap, ◌∙◌, subst}
use Rattle.std.specs.List.{All, AllByRecursion, IsDistinct, list_any, dedup}
use Rattle.std.specs.Ordering.{eq_by_cmp}
use Rattle.std.specs.Str.{bytes_eq}
use Rattle.std.specs.FinMap.{keys, entries, entries_sorted}
use Rattle.std.proofs.lemmas.Map.Keys.{IsDistinct-head, IsDistinct-tail, IsDistinct-cons, IsDistinct-from_sorted}
use Rattle.std.proofs.lemmas.Map.Text.{is_eq-slice_cmp}
use Rattle.std.proofs.lemmas.List.Kept.{IsStrictlySortedBy-dedup}
use Rattle.std.proofs.lemmas.List.{map-append}
use Rattle.std.proofs.lemmas.List.Elements.{All-from_recursion}
use Rattle.degree_numbers.specs.declared.types.Types.{Types}
use Rattle.degree_numbers.specs.Types.{AreTypes}
use Rattle.type_contexts.specs.Context.{IsContextText, IsOldContextText}
use Rattle.result_keeper.specs.Kept.{Kept, bytes_cmp, contexts_of, migrated, CanMigrate}
use Rattle.result_keeper.specs.Told.{Becomes, Stays}
use Rattle.result_keeper.proofs.Orders.{bytes_total}
use Rattle.result_keeper.proofs.Ordered.{sorted_contexts}
use Rattle.result_keeper.proofs.Moves.{bytes_itself, same_bytes}
use Rattle.workbench_core.specs.declared.refusal.Refusal.{Refusal}
use Rattle.workbench_core.specs.declared.refusal.Refusal.TheVariants.{StoredContext, Memory}
use Rattle.workbench_store.specs.Contexts.{IsRenewed, AreRenewed, IsNoContext, IsFirstNoContext, migrated_text, Renews, Migrates}
use Rattle.workbench_store.specs.Stepped.{Happens, IsRefusedWith, IsDone}
use Rattle.workbench_store.proofs.SteppedLemmas.{told_is, told_before, stays_itself, halts, stops, happens_where_they_stay, happens_by, done_so}

-- texts that differ
other_bytes : (x y : List ℕ) → x ≢ y → bytes_eq x y ≡ false
other_bytes x y differ =
    elim (bytes_eq x y) as (λ b. bytes_eq x y ≡ b → bytes_eq x y ≡ false) [
      | true ↦ λ same. absurd (differ (same_bytes x y same))
      | false ↦ λ other. other
    ] refl

differ_by : (x y : List ℕ) → bytes_eq x y ≡ false → x ≢ y
differ_by x y other same = let itself : bytes_eq x y ≡ true = subst (λ z. bytes_eq x z ≡ true) same (bytes_itself x) in cc

abbrev pub Apart : Type 0
Apart = (s t : Types) (text other old old_other : List ℕ) → AreTypes s → AreTypes t → IsContextText s text → IsContextText t other → IsOldContextText s old → IsOldContextText t old_other → old ≢ old_other → text ≢ other

abbrev pub Other : Type 0
Other = (s t : Types) (text : List ℕ) → IsContextText s text → IsOldContextText t text → ⊥

-- contexts come once
same_test : (λ x y. eq_by_cmp bytes_cmp x y) ≡ bytes_eq
same_test i x y = is_eq-slice_cmp x y i

pub contexts_differ : (k : Kept) → IsDistinct bytes_eq (contexts_of k)
contexts_differ k =
    let kept = map (λ (r : List ℕ × List ℕ). r.0) (keys k.rows) in
    let strictly = IsStrictlySortedBy-dedup bytes_total (λ x y. sym (is_eq-slice_cmp x y)) kept (sorted_contexts (entries k.rows) (entries_sorted k.rows)) in
    subst (λ e. IsDistinct e (contexts_of k)) same_test (IsDistinct-from_sorted bytes_cmp (contexts_of k) strictly)

module _ (apart : Apart) (other : Other) where
  new_differs : (o n p m : List ℕ) → IsRenewed o n → IsRenewed p m → bytes_eq o p ≡ false → bytes_eq n m ≡ false
  new_differs o n p m h j e = other_bytes n m (apart h.types j.types n m o p h.are_types j.are_types h.new_text j.new_text h.old_text j.old_text (differ_by o p e))

  news_differ_from : (o n : List ℕ) (ps : List (List ℕ × List ℕ)) → IsRenewed o n →
      AllByRecursion (λ p. IsRenewed p.0 p.1) ps →
      AllByRecursion (λ y. bytes_eq o y ≡ false) (map (λ p. p.0) ps) →
      AllByRecursion (λ y. bytes_eq n y ≡ false) (map (λ p. p.1) ps)
  news_differ_from o n [] h all differ = tt
  news_differ_from o n (p ∷ ps) h all differ = (new_differs o n p.0 p.1 h all.0 differ.0, news_differ_from o n ps h all.1 differ.1)

  news_differ : (ps : List (List ℕ × List ℕ)) → AllByRecursion (λ p. IsRenewed p.0 p.1) ps →
      IsDistinct bytes_eq (map (λ p. p.0) ps) → IsDistinct bytes_eq (map (λ p. p.1) ps)
  news_differ [] all differ = differ
  news_differ (p ∷ ps) all differ =
      IsDistinct-cons bytes_eq p.1 (map (λ p. p.1) ps)
      (news_differ_from p.0 p.1 ps all.0 all.1 (IsDistinct-head bytes_eq p.0 (map (λ p. p.0) ps) differ))
      (news_differ ps all.1 (IsDistinct-tail bytes_eq p.0 (map (λ p. p.0) ps) differ))

  none_is_old : (o n : List ℕ) (ps : List (List ℕ × List ℕ)) → IsRenewed o n →
      AllByRecursion (λ p. IsRenewed p.0 p.1) ps → list_any (bytes_eq n) (map (λ p. p.0) ps) ≡ false
  none_is_old o n [] h all = refl
  none_is_old o n (p ∷ ps) h all =
      let first : bytes_eq n p.0 ≡ false = other_bytes n p.0 (λ same. other h.types all.0.types p.0 (subst (λ t. IsContextText h.types t) same h.new_text) all.0.old_text) in
      let rest = none_is_old o n ps h all.1 in
      rw (first, rest) refl

  none_are_old : (all ps : List (List ℕ × List ℕ)) → AllByRecursion (λ p. IsRenewed p.0 p.1) all →
      AllByRecursion (λ p. IsRenewed p.0 p.1) ps →
      AllByRecursion (λ p. list_any (bytes_eq p.1) (map (λ p. p.0) all) ≡ false) ps
  none_are_old all [] h renewed = tt
  none_are_old all (p ∷ ps) h renewed = (none_is_old p.0 p.1 all renewed.0 h, none_are_old all ps h renewed.1)

  pub can_migrate : (k : Kept) (ps : List (List ℕ × List ℕ)) → AreRenewed (contexts_of k) ps → CanMigrate ps k
  can_migrate k ps h = record {
    olds = h.olds_are;
    news = news_differ ps h.renewed (subst (λ cs. IsDistinct bytes_eq cs) (sym h.olds_are) (contexts_differ k));
    apart = subst (λ cs. All (λ p. list_any (bytes_eq p.1) cs ≡ false) ps) h.olds_are
        (All-from_recursion (λ p. list_any (bytes_eq p.1) (map (λ p. p.0) ps) ≡ false) ps (none_are_old ps ps h.renewed h.renewed));
  }

  pub can_migrate_told : (told : Option Kept) (ps : List (List ℕ × List ℕ)) → IfSome told (λ k. AreRenewed (contexts_of k) ps) → IfSome told (CanMigrate ps)
  can_migrate_told None ps h = h
  can_migrate_told (Some k) ps h = can_migrate k ps h

-- contexts that are read one after the other
pub one_more : (front : List (List ℕ)) (pairs : List (List ℕ × List ℕ)) (old new : List ℕ) →
    AreRenewed front pairs → IsRenewed old new →
    AreRenewed (front ++ old ∷ []) (pairs ++ (old, new) ∷ [])
one_more front pairs old new h renewed = record {
  olds_are = map-append (λ (p : List ℕ × List ℕ). p.0) pairs ((old, new) ∷ []) ∙ ap (λ l. l ++ old ∷ []) h.olds_are;
  renewed = all_more pairs h.renewed renewed;
} where
  all_more : (ps : List (List ℕ × List ℕ)) → AllByRecursion (λ p. IsRenewed p.0 p.1) ps →
      IsRenewed old new → AllByRecursion (λ p. IsRenewed p.0 p.1) (ps ++ (old, new) ∷ [])
  all_more [] all r = (r, tt)
  all_more (p ∷ ps) all r = (all.0, all_more ps all.1 r)

-- the first that is not read
pub not_one_more : (front rest : List (List ℕ)) (pairs : List (List ℕ × List ℕ)) (old : List ℕ) (contexts : List (List ℕ)) (e : Refusal) →
    contexts ≡ front ++ old ∷ rest → AreRenewed front pairs
    → (e ≡ Memory) ⊎ (IsNoContext old × (e ≡ StoredContext old)) → (e ≡ Memory) ⊎ ((c : List ℕ) × IsFirstNoContext contexts c × (e ≡ StoredContext c))
not_one_more front rest pairs old contexts e parts h (inl memory) = inl memory
not_one_more front rest pairs old contexts e parts h (inr none) = inr (
  old,
  record {
    pairs = pairs;
    rest = rest;
    contexts_are = parts ∙ ap (λ l. l ++ old ∷ rest) (sym h.olds_are);
    renewed = h.renewed;
    none = none.0;
  },
  none.1,
)

-- the rows stand under the new contexts
pub rows_moved : (old new : Option Kept) (ps : List (List ℕ × List ℕ)) (n : ℕ) (text : List ℕ) →
    IfSome old (λ k. AreRenewed (contexts_of k) ps) → text ≡ migrated_text n → n ≡ length ps →
    Becomes (migrated ps) old new → Happens Renews old new (Ok text)
rows_moved old new ps n text renewed is count becomes = happens_by Renews (migrated ps) old new (Ok text) becomes (λ k told. inl (record {
  pairs = ps;
  renewed = told_before (λ k. AreRenewed (contexts_of k) ps) old k renewed told;
  answer = ap Ok (is ∙ ap migrated_text count);
  tables = refl;
}))

-- an old context is that of no types
pub no_context_renewed : (old mid : Option Kept) (given contexts : List (List ℕ)) (e : Refusal) →
    Stays old mid → given ≡ contexts → IfSome mid (λ k. contexts ≡ contexts_of k)
    → (e ≡ Memory) ⊎ ((c : List ℕ) × IsFirstNoContext given c × (e ≡ StoredContext c)) → IsRefusedWith Renews old mid (Err e) e
no_context_renewed old mid given contexts e stays same are (inl memory) = halts Renews old mid (Err e) e stays (inr memory)
no_context_renewed old mid given contexts e stays same are (inr h) = stops Renews old mid (Err e) e stays (inr (λ k told. inr (record {
  context = h.0;
  first = subst (λ cs. IsFirstNoContext cs h.0) (same ∙ told_is (λ k. contexts ≡ contexts_of k) old mid k stays are told) h.1;
  answer = ap Err h.2;
  tables = refl;
})))

-- the two versions
pub old_migrated : {T : Type 0} (view : T → List ℕ) (old new : Option Kept) (version : ℕ) (r : Result T Refusal) →
    version ≡ 1 → IfSome old (λ k. version ≡ k.version) → IsDone Renews view old new r →
    IsDone Migrates view old new r
old_migrated view old new version r one is done = done_so Renews Migrates view old new r (λ k next a told d. inl (sym (told_before (λ k. version ≡ k.version) old k is told) ∙ one, d)) done

pub new_migrated : (told : Option Kept) (version : ℕ) (text : List ℕ) → version ≢ 1 →
    IfSome told (λ k. version ≡ k.version) → text ≡ migrated_text 0 →
    Happens Migrates told told (Ok text)
new_migrated told version text other is same = happens_where_they_stay Migrates told told (Ok text) (stays_itself told) (λ k told_k.
    inr ((λ one. other (told_before (λ k. version ≡ k.version) told k is told_k ∙ one)), ap Ok same, refl))
