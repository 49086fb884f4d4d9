-- Commands on projects.
use Rattle.std.proofs.Common.{◌≡◌, ◌⊎◌, inl, inr, ℕ, List, ◌++◌, Bool, true, false, codes, flat_map, is_some, Option, None, Some, Result, Ok, Err, IfOk, IfErr, IfSome, refl, sym, ap, ◌∙◌, subst}
use Rattle.std.specs.FinMap.{get, contains_key}
use Rattle.result_keeper.specs.declared.put.Put.{Put}
use Rattle.result_keeper.specs.Kept.{Kept, names_of, put_answer, after_put, without_project}
use Rattle.result_keeper.specs.Told.{Becomes, Stays}
use Rattle.workbench_core.specs.declared.refusal.Refusal.{Refusal}
use Rattle.workbench_core.specs.declared.refusal.Refusal.TheVariants.{NoProject, Memory}
use Rattle.workbench_core.specs.Check.{IsChecked}
use Rattle.workbench_store.specs.Projects.{IsItself, IsForKept, IsForProject, Reads, GivesNames, said, Removes, Adds}
use Rattle.workbench_store.specs.Stepped.{Does, IsHalt, Happens, IsWhole, IsRefusedWith, IsDone}
use Rattle.workbench_store.proofs.SteppedLemmas.{told_is, halts, happens_where_they_stay, stops, happens_by, whole_by}

module _ (name : List ℕ) (old new : Option Kept) (stays : Stays old new) where
  pub shown : (kept : Option (List ℕ)) (file : List ℕ) → kept ≡ Some file →
      IfSome new (λ k. kept ≡ get k.projects name) →
      Happens (Reads (IsForProject IsItself name)) old new (Ok file)
  shown kept file is h = happens_where_they_stay (Reads (IsForProject IsItself name)) old new (Ok file) stays
      (λ k told. (subst (λ f. IsForKept IsItself name f (Ok file)) (sym is ∙ told_is (λ k. kept ≡ get k.projects name) old new k stays h told) refl, refl))

  pub missing : (kept : Option (List ℕ)) (e : Refusal) → kept ≡ None →
      IfSome new (λ k. kept ≡ get k.projects name) → (e ≡ Memory) ⊎ (e ≡ NoProject name) →
      IsRefusedWith (Reads (IsForProject IsItself name)) old new (Err e) e
  missing kept e is h (inl memory) = halts (Reads (IsForProject IsItself name)) old new (Err e) e stays (inr memory)
  missing kept e is h (inr none) = stops (Reads (IsForProject IsItself name)) old new (Err e) e stays
      (inr (λ k told. (subst (λ f. IsForKept IsItself name f (Err e)) (sym is ∙ told_is (λ k. kept ≡ get k.projects name) old new k stays h told) (ap Err none), refl)))

module _ {V : Type 0} (answers : List ℕ → Result V Refusal → Type 0) (name : List ℕ) (old new : Option Kept) where
  not_itself : (file : Option (List ℕ)) (e : Refusal) → IsForKept IsItself name file (Err e) → IsForKept answers name file (Err e)
  not_itself None e h = ap Err cc
  not_itself (Some f) e h = absurd cc

  itself : (file : Option (List ℕ)) (f : List ℕ) (r : Result V Refusal) → IsForKept IsItself name file (Ok f) → answers f r → IsForKept answers name file r
  itself None f r h a = absurd cc
  itself (Some g) f r h a = let same : f ≡ g = cc in subst (λ x. answers x r) same a

  whole_unread : IsWhole (Reads (IsForProject IsItself name)) old new → IsWhole (Reads (IsForProject answers name)) old new
  whole_unread h =
      elim old as (λ o. IsWhole (Reads (IsForProject IsItself name)) o new → IsWhole (Reads (IsForProject answers name)) o new) [
        | None ↦ λ w. tt
        | Some k ↦ λ w. elim w [
          | inl same ↦ inl same
          | inr w ↦ inl (w.2 ∙ ap Some w.3.1)
        ]
      ] h

  happens_unread : (e : Refusal) → Happens (Reads (IsForProject IsItself name)) old new (Err e) → Happens (Reads (IsForProject answers name)) old new (Err e)
  happens_unread e h =
      elim old as (λ o. Happens (Reads (IsForProject IsItself name)) o new (Err e) → Happens (Reads (IsForProject answers name)) o new (Err e)) [
        | None ↦ λ w. tt
        | Some k ↦ λ w. (w.0, w.1, (not_itself (get k.projects name) e w.2.0, w.2.1))
      ] h

  -- a file that is not there is not read
  pub unread : (e : Refusal) →
      IsRefusedWith (Reads (IsForProject IsItself name)) old new (Err e) e →
      IsRefusedWith (Reads (IsForProject answers name)) old new (Err e) e
  unread e (inl halt) = inl (halt.0, whole_unread halt.1)
  unread e (inr h) = inr (happens_unread e h)

  happens_read : (file : List ℕ) (r : Result V Refusal) →
      Happens (Reads (IsForProject IsItself name)) old new (Ok file) → answers file r →
      Happens (Reads (IsForProject answers name)) old new r
  happens_read file r h a =
      elim old as (λ o. Happens (Reads (IsForProject IsItself name)) o new (Ok file) → Happens (Reads (IsForProject answers name)) o new r) [
        | None ↦ λ w. tt
        | Some k ↦ λ w. (w.0, w.1, (itself (get k.projects name) file r w.2.0 a, w.2.1))
      ] h

  whole_read : (file : List ℕ) → Happens (Reads (IsForProject IsItself name)) old new (Ok file) → IsWhole (Reads (IsForProject answers name)) old new
  whole_read file h =
      elim old as (λ o. Happens (Reads (IsForProject IsItself name)) o new (Ok file) → IsWhole (Reads (IsForProject answers name)) o new) [
        | None ↦ λ w. tt
        | Some k ↦ λ w. inl (w.1 ∙ ap Some w.2.1)
      ] h

  -- what is answered for the file
  pub answered : {T : Type 0} (view : T → V) (file : List ℕ) (r : Result T Refusal) →
      Happens (Reads (IsForProject IsItself name)) old new (Ok file) →
      IfOk r (λ v. answers file (Ok (view v))) → IfErr r (λ e. (e ≡ Memory) ⊎ answers file (Err e))
      → IsDone (Reads (IsForProject answers name)) view old new r
  answered view file (Ok v) h ok err = happens_read file (Ok (view v)) h ok
  answered view file (Err e) h ok (inl memory) = inl (inr memory, whole_read file h)
  answered view file (Err e) h ok (inr a) = inr (happens_read file (Err e) h a)

-- a file that is put
pub is_put : (name file text : List ℕ) (put : Put) (old new : Option Kept) →
    IsChecked file (Ok text) → IfSome old (λ k. put ≡ put_answer k.projects name) →
    Becomes (after_put put name file) old new
    → Happens (Adds name file) old new (Ok put)
is_put name file text put old new checked answer becomes =
    happens_by (Adds name file) (after_put put name file) old new (Ok put) becomes (λ k told.
    let is : put ≡ put_answer k.projects name = subst (λ o. IfSome o (λ k. put ≡ put_answer k.projects name)) told answer in
    inl (record { text = text; checked = checked; answer = ap Ok is; tables = ap (λ p. after_put p name file k) is }))

pub unchecked : (name file : List ℕ) (told : Option Kept) (e : Refusal) → Stays told told →
    (e ≡ Memory) ⊎ IsChecked file (Err e) → IsRefusedWith (Adds name file) told told (Err e) e
unchecked name file told e stays (inl memory) = halts (Adds name file) told told (Err e) e stays (inr memory)
unchecked name file told e stays (inr checked) = stops (Adds name file) told told (Err e) e stays
    (inr (λ k is. inr (record { refusal = e; checked = checked; answer = refl; tables = refl })))

module _ (name : List ℕ) (old new : Option Kept) (becomes : Becomes (without_project name) old new) where
  was_there : (file : Option (List ℕ)) (text : List ℕ) → true ≡ is_some file →
      text ≡ said (codes "removed ") name →
      IsForKept (λ file r. r ≡ Ok (said (codes "removed ") name)) name file (Ok text)
  was_there None text there is = absurd cc
  was_there (Some f) text there is = ap Ok is

  was_absent : (file : Option (List ℕ)) (e : Refusal) → false ≡ is_some file → e ≡ NoProject name →
      IsForKept (λ file r. r ≡ Ok (said (codes "removed ") name)) name file (Err e)
  was_absent None e absent is = ap Err is
  was_absent (Some f) e absent is = absurd cc

  pub removed : (b : Bool) (text : List ℕ) → b ≡ true →
      IfSome old (λ k. b ≡ contains_key k.projects name) → text ≡ said (codes "removed ") name →
      Happens (Removes name) old new (Ok text)
  removed b text was there is = happens_by (Removes name) (without_project name) old new (Ok text) becomes (λ k told.
      (was_there (get k.projects name) text (sym was ∙ subst (λ o. IfSome o (λ k. b ≡ contains_key k.projects name)) told there) is, refl))

  not_there : (b : Bool) (e : Refusal) → b ≡ false →
      IfSome old (λ k. b ≡ contains_key k.projects name) → e ≡ NoProject name →
      Happens (Removes name) old new (Err e)
  not_there b e was absent is = happens_by (Removes name) (without_project name) old new (Err e) becomes (λ k told.
      (was_absent (get k.projects name) e (sym was ∙ subst (λ o. IfSome o (λ k. b ≡ contains_key k.projects name)) told absent) is, refl))

  pub not_removed : (b : Bool) (e : Refusal) → b ≡ false →
      IfSome old (λ k. b ≡ contains_key k.projects name) → (e ≡ Memory) ⊎ (e ≡ NoProject name) →
      IsRefusedWith (Removes name) old new (Err e) e
  not_removed b e was absent (inl memory) = inl (
    inr memory,
    whole_by (Removes name) (without_project name) old new (Err (NoProject name)) becomes (λ k told.
        (was_absent (get k.projects name) (NoProject name) (sym was ∙ subst (λ o. IfSome o (λ k. b ≡ contains_key k.projects name)) told absent) refl, refl)),
  )
  not_removed b e was absent (inr none) = inr (not_there b e was absent none)

pub named : (old new : Option Kept) (names : List (List ℕ)) (text : List ℕ) → Stays old new →
    IfSome new (λ k. names ≡ names_of k) → text ≡ flat_map (λ name. name ++ codes "\n") names →
    Happens (Reads GivesNames) old new (Ok text)
named old new names text stays h is = happens_where_they_stay (Reads GivesNames) old new (Ok text) stays
    (λ k told. (ap Ok (is ∙ ap (flat_map (λ name. name ++ codes "\n")) (told_is (λ k. names ≡ names_of k) old new k stays h told)), refl))

-- what is known after a file was asked for
module _ (name : List ℕ) where
  pub stays_asked : (old new : Option Kept) (r : Result (List ℕ) Refusal) → Happens (Reads (IsForProject IsItself name)) old new r → Stays old new
  stays_asked None new r h = tt
  stays_asked (Some k) new r h = h.1 ∙ ap Some h.2.1

  it_is : (kept : Option (List ℕ)) (file : List ℕ) → IsForKept IsItself name kept (Ok file) → kept ≡ Some file
  it_is None file h = absurd cc
  it_is (Some f) file h = let same : file ≡ f = cc in ap Some (sym same)

  it_is_not : (kept : Option (List ℕ)) (e : Refusal) → IsForKept IsItself name kept (Err e) → (kept ≡ None) × (e ≡ NoProject name)
  it_is_not None e h = (refl, cc)
  it_is_not (Some f) e h = absurd cc

  pub file_known : (old new : Option Kept) (file : List ℕ) →
      Happens (Reads (IsForProject IsItself name)) old new (Ok file) → (k : Kept) → old ≡ Some k →
      get k.projects name ≡ Some file
  file_known old new file h k told = it_is (get k.projects name) file (subst (λ o. Happens (Reads (IsForProject IsItself name)) o new (Ok file)) told h).2.0

  pub none_known : (old new : Option Kept) (e : Refusal) →
      Happens (Reads (IsForProject IsItself name)) old new (Err e) → (k : Kept) → old ≡ Some k →
      (get k.projects name ≡ None) × (e ≡ NoProject name)
  none_known old new e h k told = it_is_not (get k.projects name) e (subst (λ o. Happens (Reads (IsForProject IsItself name)) o new (Err e)) told h).2.0

  whole_stays : (old new : Option Kept) → IsWhole (Reads (IsForProject IsItself name)) old new → Stays old new
  whole_stays None new w = tt
  whole_stays (Some k) new (inl same) = same
  whole_stays (Some k) new (inr w) = w.2 ∙ ap Some w.3.1

  -- a file that is not there, whatever is asked of it
  pub not_asked : {A : Type 0} (doing : Does A) (a : A) (old new : Option Kept) (e : Refusal) →
      ((k : Kept) → get k.projects name ≡ None → e ≡ NoProject name → doing k a k) →
      IsRefusedWith (Reads (IsForProject IsItself name)) old new (Err e) e →
      IsRefusedWith doing old new a e
  not_asked doing a old new e h (inl halt) = halts doing old new a e (whole_stays old new halt.1) halt.0
  not_asked doing a old new e h (inr happens) = stops doing old new a e (stays_asked old new (Err e) happens) (inr (λ k told. let known = none_known old new e happens k told in h k known.0 known.1))
