-- Connections one after the other, and their lines.
use Rattle.std.proofs.Common.{◌≡◌, ℕ, ◌+◌, ◌-◌, ◌^◌, ◌<◌, ◌≤◌, min, List, [], ◌∷◌, ◌++◌, Bool, true, false, Option, None, Some, Result, Ok, Err, OnOk, refl, sym, ap, ◌∙◌, subst, arith}
use Rattle.std.proofs.lemmas.Bool.{false≢true}
use Rattle.std.proofs.lemmas.List.{append_assoc, append-nil}
use Rattle.wb_outside.specs.Causes.{Rose}
use Rattle.wb_outside.specs.Told.{Grows, GrowsByFront, Writing, Gets}
use Rattle.wb_outside.proofs.ToldLemmas.{gets_whole, gets_front}
use Rattle.desk_responses.specs.declared.status.Status.{Status}
use Rattle.desk_responses.specs.declared.status.Status.TheVariants as Statuses
use Rattle.desk_responses.specs.Responses.{code_of}
use Rattle.http_desk.specs.declared.connection.Served.{Served}
use Rattle.http_desk.specs.declared.connection.Served.TheVariants.{Answered, Dropped, NoConnection}
use Rattle.http_desk.specs.declared.serving.ServeFault.{ServeFault}
use Rattle.http_desk.specs.declared.serving.ServeFault.TheVariants as Faults
use Rattle.http_desk.specs.Pages.{Acts}
use Rattle.http_desk.specs.Seen.{Seen}
use Rattle.http_desk.specs.Visits.{whole, front, IsVisit, none, taken}
use Rattle.http_desk.specs.Series.{IsSeries, taken_by, taken_in, line_of, lines_of, IsStatus, RoseBy, IsWork}

-- results told apart
abbrev is_done : Result Unit ServeFault → Bool
is_done (Ok x) = true
is_done (Err e) = false

abbrev is_door : Result Unit ServeFault → Bool
is_door (Ok x) = false
is_door (Err Faults.Door) = true
is_door (Err Faults.Write) = false

abbrev is_connection : Served → Bool
is_connection (Answered status) = true
is_connection Dropped = true
is_connection NoConnection = false

apart : {T : Type 0} (test : T → Bool) (x y : T) → test x ≡ true → test y ≡ false → x ≡ y → ⊥
apart test x y is other e = false≢true (sym other ∙ (ap test (sym e) ∙ is))

small_code : (s : Status) → code_of s < 1000
small_code Statuses.Ok = omega arith
small_code Statuses.Created = omega arith
small_code Statuses.BadRequest = omega arith
small_code Statuses.NotFound = omega arith
small_code (Statuses.MethodNotAllowed methods) = omega arith
small_code Statuses.Conflict = omega arith
small_code Statuses.LengthRequired = omega arith
small_code Statuses.ContentTooLarge = omega arith
small_code Statuses.UnprocessableContent = omega arith
small_code Statuses.InternalServerError = omega arith
small_code Statuses.ServiceUnavailable = omega arith
small_code Statuses.InsufficientStorage = omega arith

-- a status that is told has at most three digits
pub visit_status : {S : Type 0} (acts : Acts S) (old : Seen) (was : S) (served : Served) (new : Seen) (now : S)
    → IsVisit acts old was served new now → IsStatus served
visit_status acts old was served new now (none is untaken same) = subst IsStatus (sym is) tt
visit_status acts old was served new now (taken (whole sent page is response told) has) = subst IsStatus (sym is) (small_code page.status)
visit_status acts old was served new now (taken (front sent page begun rest is response parts told rose) has) = subst IsStatus (sym is) tt

-- where no connection came, that was for a fault
untaken_rose : {S : Type 0} (acts : Acts S) (old : Seen) (was : S) (served : Served) (new : Seen) (now : S) → served ≡ NoConnection
    → IsVisit acts old was served new now
    → Rose old.door_faults new.door_faults
untaken_rose acts old was served new now gone (none is untaken same) = untaken.rose
untaken_rose acts old was served new now gone (taken (whole sent page is response told) has) = absurd (apart is_connection (Answered (code_of
    page.status)) NoConnection refl refl (sym is ∙ gone))
untaken_rose acts old was served new now gone (taken (front sent page begun rest is response parts told rose) has) = absurd (apart is_connection
    Dropped NoConnection refl refl (sym is ∙ gone))

-- no fault of the door is forgotten
visit_later : {S : Type 0} (acts : Acts S) (old : Seen) (was : S) (served : Served) (new : Seen) (now : S) → IsVisit acts old was served new now
    → old.door_faults ≤ new.door_faults
visit_later acts old was served new now (none is untaken same) = untaken.door
visit_later acts old was served new now (taken ended has) = has.door

pub visit_taken : {S : Type 0} (acts : Acts S) (old : Seen) (was : S) (served : Served) (new : Seen) (now : S) → IsVisit acts old was served new now
    → min (old.taken + taken_by served) (2 ^ 64 - 1) ≤ new.taken
visit_taken acts old was served new now (none is untaken same) =
    let zero_taken : taken_by served ≡ 0 = ap taken_by is in omega (arith, untaken.taken, zero_taken)
visit_taken acts old was served new now (taken (whole sent page is response told) has) =
    let one_taken : taken_by served ≡ 1 = ap taken_by is in omega (arith, has.taken, one_taken)
visit_taken acts old was served new now (taken (front sent page begun rest is response parts told rose) has) =
    let one_taken : taken_by served ≡ 1 = ap taken_by is in omega (arith, has.taken, one_taken)

series_later : {S : Type 0} (acts : Acts S) (old : Seen) (was : S) (visits : List Served) (new : Seen) (now : S)
    → IsSeries acts old was visits new now → old.door_faults ≤ new.door_faults
series_later acts old was [] new now h = omega (arith, ap (λ d. d.door_faults) h.0)
series_later acts old was (served ∷ visits) new now (mid, then, visit, rest) =
    omega (arith, visit_later acts old was served mid then visit, series_later acts mid then visits new now rest)

rose_more : (before n m mid now : ℕ) → min (before + n) (2 ^ 64 - 1) ≤ mid → min (mid + m) (2 ^ 64 - 1) ≤ now → min (before + (n + m)) (2 ^ 64 - 1) ≤ now
rose_more before n m mid now h k = omega (arith, h, k)

-- so many connections were taken
pub series_taken : {S : Type 0} (acts : Acts S) (old : Seen) (was : S) (visits : List Served) (new : Seen) (now : S) → IsSeries acts old was visits new now
    → RoseBy (taken_in visits) old.taken new.taken
series_taken acts old was [] new now h = omega (arith, ap (λ d. d.taken) h.0)
series_taken acts old was (served ∷ visits) new now (mid, then, visit, rest) =
    rose_more old.taken (taken_by served) (taken_in visits) mid.taken new.taken (visit_taken acts old was served mid then visit) (series_taken acts
    mid then visits new now rest)

-- one series after another
series_then : {S : Type 0} (acts : Acts S) (old : Seen) (was : S) (visits : List Served) (mid : Seen) (then : S) (more : List Served) (new : Seen) (now : S)
    → IsSeries acts old was visits mid then → IsSeries acts mid then more new now → IsSeries acts old was (visits ++ more) new now
series_then acts old was [] mid then more new now h k =
    subst (λ d. IsSeries acts d was more new now) h.0 (subst (λ s. IsSeries acts mid s more new now) h.1 k)
series_then acts old was (served ∷ visits) mid then more new now (first, next, visit, rest) k =
    (first, next, visit, series_then acts first next visits mid then more new now rest k)

taken_both : (visits more : List Served) → taken_in (visits ++ more) ≡ taken_in visits + taken_in more
taken_both [] more = omega arith
taken_both (served ∷ visits) more = omega (arith, taken_both visits more)

lines_both : (visits more : List Served) → lines_of (visits ++ more) ≡ lines_of visits ++ lines_of more
lines_both [] more = refl
lines_both (served ∷ visits) more = ap (λ xs. line_of served ++ xs) (lines_both visits more) ∙ sym (append_assoc (line_of served) (lines_of visits)
    (lines_of more))

grows_then : (a b c : Option (List ℕ)) (x y : List ℕ) → Grows a b x → Grows b c y → Grows a c (x ++ y)
grows_then a b None x y h k = tt
grows_then a None (Some c) x y h k = absurd k
grows_then None (Some b) (Some c) x y h k = absurd h
grows_then (Some a) (Some b) (Some c) x y h k = k ∙ (ap (λ xs. xs ++ y) h ∙ append_assoc a x y)

-- a sink that got some bytes whole, and then others
gets_then : (a b c : Option (List ℕ)) (n m k : ℕ) (x y : List ℕ) → n ≤ m → Grows a b x → Gets (record { old = b; new = c; before = m; after = k }) y
    → Gets (record { old = a; new = c; before = n; after = k }) (x ++ y)
gets_then a b c n m k x y low h gets = record {
  front = record {
    front = x ++ gets.front.front;
    rest = gets.front.rest;
    parts = ap (λ xs. x ++ xs) gets.front.parts ∙ sym (append_assoc x gets.front.front gets.front.rest);
    grows = grows_then a b c x gets.front.front h gets.front.grows;
  };
  whole = λ stayed. grows_then a b c x y h (gets.whole (λ rose. stayed (omega (arith, low, rose))));
}

-- work that was done, and more
pub work_then : {S : Type 0} (acts : Acts S) (i : ℕ) (old mid new : Seen) (was then now : S) (result : Result Unit ServeFault) (a b c : Option (List
    ℕ)) (n m k : ℕ)
    → IsWork acts i old was (Ok tt) mid then (record { old = a; new = b; before = n; after = m })
    → IsWork acts 1 mid then result new now (record { old = b; new = c; before = m; after = k })
    → IsWork acts (i + 1) old was result new now (record { old = a; new = c; before = n; after = k })
work_then acts i old mid new was then now result a b c n m k h w =
    let so_far = h.ok refl in
    let taken = taken_both h.visits w.visits in
    let lines = lines_both h.visits w.visits in
    record {
      visits = h.visits ++ w.visits;
      series = series_then acts old was h.visits mid then w.visits new now h.series w.series;
      most = omega (arith, taken, so_far.0, w.most);
      lines = subst (Gets (record { old = a; new = c; before = n; after = k })) (sym lines) (gets_then a b c n m k (lines_of h.visits) (lines_of
          w.visits) h.later so_far.1 w.lines);
      later = omega (arith, h.later, w.later);
      ok = λ e. (
        omega (arith, taken, so_far.0, (w.ok e).0),
        subst (Grows a c) (sym lines) (grows_then a b c (lines_of h.visits) (lines_of w.visits)
            so_far.1 (w.ok e).1),
      );
      door = λ e. (omega (arith, taken, so_far.0, (w.door e).0), omega (arith, series_later acts old was h.visits mid then h.series, (w.door e).1));
      write = λ e. omega (arith, h.later, w.write e);
    }

-- less was done than was asked for
pub work_within : {S : Type 0} (acts : Acts S) (i count : ℕ) (old : Seen) (was : S) (result : Result Unit ServeFault) (new : Seen) (now : S) (out :
    Writing) → i ≤ count
    → (result ≡ Ok tt → ⊥) → IsWork acts i old was result new now out → IsWork acts count old was result new now out
work_within acts i count old was result new now out low other w = record {
  visits = w.visits;
  series = w.series;
  most = omega (arith, low, w.most);
  lines = w.lines;
  later = w.later;
  ok = λ e. absurd (other e);
  door = λ e. (omega (arith, low, (w.door e).0), (w.door e).1);
  write = w.write;
}

pub no_ok : (e : ServeFault) (r : Result Unit ServeFault) → r ≡ Err e → r ≡ Ok tt → ⊥
no_ok e r is h = false≢true (sym (ap is_done is) ∙ ap is_done h)

grows_nothing : (told : Option (List ℕ)) → Grows told told []
grows_nothing None = tt
grows_nothing (Some bytes) = sym (append-nil bytes)

-- nothing was done yet
pub no_work : {S : Type 0} (acts : Acts S) (old : Seen) (was : S) (told : Option (List ℕ)) (n : ℕ)
    → IsWork acts 0 old was (Ok tt) old was (record { old = told; new = told; before = n; after = n })
no_work acts old was told n = record {
  visits = [];
  series = (refl, refl);
  most = omega arith;
  lines = gets_whole (record { old = told; new = told; before = n; after = n }) [] (grows_nothing told);
  later = omega arith;
  ok = λ e. (refl, grows_nothing told);
  door = λ e. absurd (false≢true (ap is_done (sym e)));
  write = λ e. absurd (false≢true (ap is_done (sym e)));
}

one_series : {S : Type 0} (acts : Acts S) (old : Seen) (was : S) (served : Served) (new : Seen) (now : S) → IsVisit acts old was served new now
    → IsSeries acts old was (served ∷ []) new now
one_series acts old was served new now visit = (new, now, visit, (refl, refl))

-- no connection came
pub untaken_work : {S : Type 0} (acts : Acts S) (old : Seen) (was : S) (served : Served) (new : Seen) (now : S) (told : Option (List ℕ)) (n : ℕ)
    → served ≡ NoConnection
    → IsVisit acts old was served new now → IsWork acts 1 old was (Err Faults.Door) new now (record { old = told; new = told; before = n; after = n })
untaken_work acts old was served new now told n gone visit =
    let none_taken : taken_in (served ∷ []) ≡ 0 = ap (λ v. taken_in (v ∷ [])) gone in
    let no_line : lines_of (served ∷ []) ≡ [] = ap (λ v. lines_of (v ∷ [])) gone in
    record {
      visits = served ∷ [];
      series = one_series acts old was served new now visit;
      most = omega (arith, none_taken);
      lines = subst (Gets (record { old = told; new = told; before = n; after = n })) (sym no_line) (gets_whole (record {
        old = told;
        new = told;
        before = n;
        after = n;
      }) [] (grows_nothing told));
      later = omega arith;
      ok = λ e. absurd (false≢true (ap is_done e));
      door = λ e. (omega (arith, none_taken), untaken_rose acts old was served new now gone visit);
      write = λ e. absurd (apart is_door (Err Faults.Door) (Err Faults.Write) refl refl e);
    }

one_taken : (served : Served) → (served ≡ NoConnection → ⊥) → taken_in (served ∷ []) ≡ 1
one_taken (Answered status) other = refl
one_taken Dropped other = refl
one_taken NoConnection other = absurd (other refl)

-- a connection came, whose line was written
pub told_work : {S : Type 0} (acts : Acts S) (old : Seen) (was : S) (served : Served) (new : Seen) (now : S) (out : Writing) → (served ≡ NoConnection → ⊥)
    → IsVisit acts old was served new now → out.before ≤ out.after → Grows out.old out.new (line_of served) → IsWork acts 1 old was (Ok tt) new now out
told_work acts old was served new now out other visit later grows =
    let line : Grows out.old out.new (lines_of (served ∷ [])) = subst (Grows out.old out.new) (sym (append-nil (line_of served))) grows in
    record {
      visits = served ∷ [];
      series = one_series acts old was served new now visit;
      most = omega (arith, one_taken served other);
      lines = gets_whole out (lines_of (served ∷ [])) line;
      later = later;
      ok = λ e. (one_taken served other, line);
      door = λ e. absurd (false≢true (ap is_done (sym e)));
      write = λ e. absurd (false≢true (ap is_done (sym e)));
    }

-- one came whose line was not
pub untold_work : {S : Type 0} (acts : Acts S) (old : Seen) (was : S) (served : Served) (new : Seen) (now : S) (out : Writing) → (served ≡ NoConnection → ⊥)
    → IsVisit acts old was served new now → out.before ≤ out.after → GrowsByFront out.old out.new (line_of served) → Rose out.before out.after
    → IsWork acts 1 old was (Err Faults.Write) new now out
untold_work acts old was served new now out other visit later grows rose = record {
  visits = served ∷ [];
  series = one_series acts old was served new now visit;
  most = omega (arith, one_taken served other);
  lines = subst (Gets out) (sym (append-nil (line_of served))) (gets_front out (line_of served) grows rose);
  later = later;
  ok = λ e. absurd (false≢true (ap is_done e));
  door = λ e. absurd (apart is_door (Err Faults.Door) (Err Faults.Write) refl refl (sym e));
  write = λ e. rose;
}

-- the connections that were to be taken were
pub work_taken : {S : Type 0} (acts : Acts S) (count : ℕ) (old : Seen) (was : S) (result : Result Unit ServeFault) (new : Seen) (now : S) (out :
    Writing) (before : ℕ) → old.taken ≡ before
    → IsWork acts count old was result new now out → OnOk result (RoseBy count before new.taken)
work_taken acts count old was (Ok x) new now out before same w =
    let done = w.ok refl in omega (arith, same, done.0, series_taken acts old was w.visits new now w.series)
work_taken acts count old was (Err e) new now out before same w = tt

pub door_or_write : (r : Result Unit ServeFault) → r ≡ Err Faults.Door → r ≡ Err Faults.Write → ⊥
door_or_write r is other = apart is_door (Err Faults.Door) (Err Faults.Write) refl refl (sym is ∙ other)
