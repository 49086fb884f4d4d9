-- The cuttings from which the terms of the two coproducts come.
--   IsExtraction ty t k == some cutting of t, of which all components are extracted, has the forest
--       and the quotient k
--   IsRecentring ty t k == some cutting of t that recentres has the left and the right tree k
use Rattle.std.specs.Prelude.{◌≡◌, true, false}
use Rattle.ordered_lists.specs.Members.{IsIn}
use Rattle.degree_numbers.specs.declared.types.Types.{Types}
use Rattle.plain_trees.specs.Plain.{Plain}
use Rattle.plain_trees.specs.Cutting.{Cutting, cuttings}
use Rattle.plain_trees.specs.Coproducts.{Extracted, Recentred, extraction_bound, recentring_bound, is_admissible, is_recentred, extracted, recentred}

pub record IsExtraction (ty : Types) (t : Plain) (k : Extracted) : Type 0 where
  pub cutting : Cutting
  pub of_tree : IsIn cutting (cuttings (extraction_bound ty t) false t)
  pub admissible : is_admissible ty cutting ≡ true
  pub gives : extracted cutting ≡ k

pub record IsRecentring (ty : Types) (t : Plain) (k : Recentred) : Type 0 where
  pub cutting : Cutting
  pub of_tree : IsIn cutting (cuttings (recentring_bound ty t) true t)
  pub recentres : is_recentred ty cutting ≡ true
  pub gives : recentred cutting ≡ k
