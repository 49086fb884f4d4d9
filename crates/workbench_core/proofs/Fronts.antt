-- What the fronts of files give.
use Rattle.std.proofs.Common.{◌≡◌, ◌⊎◌, inl, inr, ℕ, zero, suc, Bool, List, [], ◌∷◌, take, Result, Ok, sym, ap, subst}
use Rattle.workbench_core.specs.declared.refusal.Refusal.{Refusal}
use Rattle.workbench_core.specs.declared.request.Request.{Request}
use Rattle.workbench_core.specs.declared.request.Request.TheVariants.{Check, Compute, Trees, Detail, Act, Multiply, Sample}
use Rattle.equations.specs.declared.equation.Equation.{Equation}
use Rattle.workbench_core.specs.Answers.{Answer, of_result, of_computing, IsPrinted, file_at, IsGiven, IsCounted}
use Rattle.workbench_core.specs.Characters.{IsActIn, IsActOf, IsMultiplyIn, IsMultiplyOf}
use Rattle.workbench_core.specs.Check.{IsVerdict}
use Rattle.workbench_core.specs.Completed.{IsForEquation}
use Rattle.antipode_laws.specs.Antipode.{nothing}
use Rattle.workbench_core.specs.Compute.{WritesReport}
use Rattle.workbench_core.specs.Detail.{IsDetailIn}
use Rattle.workbench_core.specs.Files.{IsForFile}
use Rattle.workbench_core.specs.Trees.{ListsTrees}
use Rattle.workbench_core.proofs.FileLemmas.{IsForFile-take}
use Rattle.workbench_core.proofs.TableFronts.{act_front, first_front, second_front}

-- a piece is a file, or as much of it as is read
abbrev pub IsFront : List ℕ → List ℕ → Type 0
IsFront piece file = (piece ≡ file) ⊎ (piece ≡ take 65537 file)

-- each piece is
abbrev pub AreFronts : List (List ℕ) → List (List ℕ) → Type 0
AreFronts [] files = files ≡ []
AreFronts (piece ∷ pieces) [] = ⊥
AreFronts (piece ∷ pieces) (file ∷ files) = IsFront piece file × AreFronts pieces files

front_at : (pieces files : List (List ℕ)) (i : ℕ) → AreFronts pieces files → IsFront (file_at pieces i) (file_at files i)
front_at [] files i none = inl (ap (λ fs. file_at fs i) (sym none))
front_at (p ∷ pieces) [] i fronts = absurd fronts
front_at (p ∷ pieces) (f ∷ files) zero fronts = fronts.0
front_at (p ∷ pieces) (f ∷ files) (suc i) fronts = front_at pieces files i fronts.1

module _ {T : Type 0} (print : Result T Refusal → Answer) (answers : List ℕ → Result T Refusal → Type 0) (whole : (file : List ℕ) (r : Result T Refusal) → answers (take 65537 file) r → answers file r) where
  of_front : (piece file : List ℕ) (r : Result T Refusal) → IsFront piece file → answers piece r → answers file r
  of_front piece file r (inl same) h = subst (λ f. answers f r) same h
  of_front piece file r (inr front) h = whole file r (subst (λ f. answers f r) front h)

  printed_of_front : (piece file : List ℕ) (a : Answer) → IsFront piece file → IsPrinted print (answers piece) a → IsPrinted print (answers file) a
  printed_of_front piece file a front h = record { result = h.result; answers_it = of_front piece file h.result front h.answers_it; printed = h.printed }

-- what the fronts of the files give is what the files give
module _ (pieces files : List (List ℕ)) (a : Answer) (fronts : AreFronts pieces files) where
  file_front : {T : Type 0} (print : Result T Refusal → Answer) (answers : Equation → Result T Refusal → Type 0) → IsPrinted print (IsForFile answers (file_at pieces 0)) a → IsPrinted print (IsForFile answers (file_at files 0)) a
  file_front {T} print answers h = printed_of_front print (IsForFile answers) (IsForFile-take answers) (file_at pieces 0) (file_at files 0) a (front_at pieces files 0 fronts) h

  acts_front : (tree : List ℕ) (recentre : Bool) → IsPrinted of_result (IsActOf (file_at pieces 0) tree (file_at pieces 1) recentre) a → IsPrinted of_result (IsActOf (file_at files 0) tree (file_at files 1) recentre) a
  acts_front tree recentre h =
      printed_of_front of_result (λ table r. IsActOf (file_at files 0) tree table recentre r) (λ table r. act_front (file_at files 0) tree table recentre r) (file_at pieces 1) (file_at files 1) a
      (front_at pieces files 1 fronts) (file_front of_result (λ eq. IsActIn eq tree (file_at pieces 1) recentre) h)

  multiplies_front : (tree : List ℕ) → IsPrinted of_result (IsMultiplyOf (file_at pieces 0) tree (file_at pieces 1) (file_at pieces 2)) a
      → IsPrinted of_result (IsMultiplyOf (file_at files 0) tree (file_at files 1) (file_at files 2)) a
  multiplies_front tree h =
      printed_of_front of_result (λ table r. IsMultiplyOf (file_at files 0) tree (file_at files 1) table r) (λ table r. second_front (file_at files 0) tree (file_at files 1) table r)
      (file_at pieces 2) (file_at files 2) a (front_at pieces files 2 fronts)
      (printed_of_front of_result (λ table r. IsMultiplyOf (file_at files 0) tree table (file_at pieces 2) r) (λ table r. first_front (file_at files 0) tree table (file_at pieces 2) r)
      (file_at pieces 1) (file_at files 1) a (front_at pieces files 1 fronts) (file_front of_result (λ eq. IsMultiplyIn eq tree (file_at pieces 1) (file_at pieces 2)) h))

  pub IsGiven-fronts : (r : Request) → IsGiven r pieces a → IsGiven r files a
  IsGiven-fronts (Check name) h = file_front of_result IsVerdict h
  IsGiven-fronts (Compute name) h = file_front of_computing (IsForEquation (WritesReport nothing)) h
  IsGiven-fronts (Trees name) h = file_front of_result (IsForEquation ListsTrees) h
  IsGiven-fronts (Detail name tree) h = file_front of_result (λ eq. IsDetailIn eq tree) h
  IsGiven-fronts (Act name tree table recentre) h = acts_front tree recentre h
  IsGiven-fronts (Multiply name tree first second) h = multiplies_front tree h
  IsGiven-fronts (Sample number) h = h

-- and so is what was counted
pub IsCounted-fronts : (pieces files : List (List ℕ)) (before after : ℕ) → AreFronts pieces files → (r : Request) → IsCounted r pieces before after → IsCounted r files before after
IsCounted-fronts pieces files before after fronts (Check name) h = h
IsCounted-fronts pieces files before after fronts (Compute name) h =
    record {
      computing = h.computing;
      computed = of_front of_computing (IsForFile (IsForEquation (WritesReport nothing))) (IsForFile-take (IsForEquation (WritesReport nothing))) (file_at pieces 0) (file_at files 0) (Ok h.computing)
          (front_at pieces files 0 fronts) h.computed;
      most = h.most;
    }
IsCounted-fronts pieces files before after fronts (Trees name) h = h
IsCounted-fronts pieces files before after fronts (Detail name tree) h = h
IsCounted-fronts pieces files before after fronts (Act name tree table recentre) h = h
IsCounted-fronts pieces files before after fronts (Multiply name tree first second) h = h
IsCounted-fronts pieces files before after fronts (Sample number) h = h
