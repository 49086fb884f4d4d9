use Rattle.std.proofs.Common.{◌≡◌, ◌≤◌, ℕ, List, map, take, decimal}
use Rattle.std.specs.List.{AllByRecursion}
use Rattle.type_contexts.proofs.reflect.numbers_of.Given as goal

abbrev pub invariant-loop-i : goal.invariant-loop-i
invariant-loop-i l = (is : List ℕ) → map (λ s. s.now) l.parts ≡ map decimal is → AllByRecursion (λ n. n ≤ 5) is → l.found ≡ take l.i is
