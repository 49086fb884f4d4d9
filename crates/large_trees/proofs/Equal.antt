-- `==` of lists of lines holds of equal ones alone.
use Rattle.std.proofs.Common.{◌≡◌, Bool, true, false, ◌&&◌, List, [], ◌∷◌, refl, sym, ap, ◌∙◌, Some, None}
use Rattle.std.specs.declared.option.Option.{Option}
use Rattle.std.specs.Option.{option_eq}
use Rattle.std.specs.Cmp.Lexicographic.{pointwise}
use Rattle.std.proofs.lemmas.Bool.Decides.{Decides-int_eq}
use Rattle.large_trees.specs.contracts.excess.ExcessPartialEq.TheImpl.{eq-value as excess_eq}
use Rattle.large_trees.specs.contracts.line.LinePartialEq.TheImpl.{eq-value as line_eq}
use Rattle.large_trees.specs.declared.excess.Excess.{Excess}
use Rattle.large_trees.specs.declared.line.Line.{Line as Cells}
use Rattle.large_trees.specs.Lines.{Line}
use Rattle.large_trees.proofs.LineLaws.{excess_is}

both : (a b : Bool) → (a && b) ≡ true → (a ≡ true) × (b ≡ true)
both true true h = (refl, refl)
both true false h = absurd cc
both false b h = absurd cc

same_excess : (x y : Excess) → excess_eq.it x y ≡ true → x ≡ y
same_excess x y h = let parts = both _ _ h in excess_is x y ((Decides-int_eq x.a y.a).0 parts.0) ((Decides-int_eq x.b y.b).0 parts.1)

same_cell : (x y : Option Excess) → option_eq excess_eq.it x y ≡ true → x ≡ y
same_cell None None h = refl
same_cell None (Some y) h = absurd cc
same_cell (Some x) None h = absurd cc
same_cell (Some x) (Some y) h = ap Some (same_excess x y h)

same_list : {A : Type 0} (E : A → A → Bool) → ((x y : A) → E x y ≡ true → x ≡ y) → (xs ys : List A) → pointwise E xs ys ≡ true → xs ≡ ys
same_list E one [] [] h = refl
same_list E one [] (y ∷ ys) h = absurd cc
same_list E one (x ∷ xs) [] h = absurd cc
same_list E one (x ∷ xs) (y ∷ ys) h =
    let parts = both (E x y) (pointwise E xs ys) h in
    let first = one x y parts.0 in
    let rest = same_list E one xs ys parts.1 in
    cc

abbrev made : Line → Cells
made cells = record { cells = cells }

same_line : (x y : Cells) → line_eq.it x y ≡ true → x ≡ y
same_line x y h = let cells : x.cells ≡ y.cells = same_list (option_eq excess_eq.it) same_cell x.cells y.cells h in ap made cells

pub same_lines : (xs ys : List Cells) (r : Bool) → r ≡ pointwise line_eq.it xs ys → r ≡ true → xs ≡ ys
same_lines xs ys r is h = same_list line_eq.it same_line xs ys (sym is ∙ h)
