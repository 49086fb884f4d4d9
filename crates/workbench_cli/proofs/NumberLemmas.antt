-- Numbers that words write.
use Rattle.std.proofs.Common.{◌≡◌, ◌≢◌, ◌<◌, ◌≤◌, ◌^◌, ℕ, List, Option, Some, Result, Ok, decimal, bytes_eq, true, false, sym, ap, ◌∙◌, subst, arith}
use Rattle.std.specs.Str.Parse.{ParsesUnsigned}
use Rattle.std.proofs.lemmas.Fmt.{parse-decimal}
use Rattle.std.proofs.lemmas.Slice.Eq.{bytes_eq-Decides}
use Rattle.workbench_cli.specs.Numbers.{IsNumber}

pub parse_back : {E : Type 0} (word : List ℕ) (r : Result ℕ E) (n : ℕ) → ParsesUnsigned 32 10 word r → n < 2 ^ 32 → word ≡ decimal n → r ≡ Ok n
parse_back word r n h lt is = parse-decimal 32 n word r lt (omega (arith, lt)) is h

module _ (least most number n : ℕ) (word : List ℕ) (small : most < 2 ^ 32) (back : (m : ℕ) → m < 2 ^ 32 → word ≡ decimal m → Some number ≡ Some m) (h : IsNumber least most word n) where
  same : number ≡ n
  same = let most_is = h.at_most in let e = back n (omega (arith, small, most_is)) h.digits in cc

  pub not_small : number < least → ⊥
  not_small lt = let e = same in let at = h.at_least in omega (arith, e, at, lt)

  pub not_large : most < number → ⊥
  not_large lt = let e = same in let at = h.at_most in omega (arith, e, at, lt)

  pub not_other : bytes_eq word (decimal number) ≡ false → ⊥
  not_other other =
      let digits : word ≡ decimal number = h.digits ∙ ap decimal (sym same) in
      let yes : bytes_eq word (decimal number) ≡ true = (bytes_eq-Decides word (decimal number)).1 digits in
      let wrong : true ≡ false = sym yes ∙ other in
      cc
