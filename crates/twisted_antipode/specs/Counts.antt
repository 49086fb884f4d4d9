-- Of which trees the extraction coproducts are finished by a call, and how many these are.
--   IsCountOf old new before after == what was finished stays so, and the count is raised once for
--       each coproduct that is finished
--   HasAllComponents ty ts == with each of its trees the list ts has all trees of the forests of
--       the terms of its extraction coproduct
--   HasAll fs ts == the list ts has each of the trees fs
--   IsNewAmong c hs ts old i == the number i is that of a tree of ts for which nothing is held in
--       hs, and it is not among old
--   AreFinishedAmong c hs ts old new == new is old with the numbers of such trees behind it, each
--       once
--   AreFinishedOver old new hs fs == so it is, over the values hs that are held, for each list ts
--       that has the trees fs and all their components
--   unheld_of c hs ts == the trees of ts for which nothing is held in hs
use Rattle.std.specs.Prelude.{◌≡◌, ◌<◌, ℕ, List, ◌++◌, filter, fold, is_none, length, None}
use Rattle.std.specs.List.{AllByRecursion}
use Rattle.ordered_lists.specs.Members.{IsIn}
use Rattle.multiplicities.specs.Distinct.{AreDistinct}
use Rattle.degree_numbers.specs.declared.types.Types.{Types}
use Rattle.plain_trees.specs.Plain.{Plain}
use Rattle.plain_trees.specs.Coproducts.{extraction_terms}
use Rattle.tree_pool.specs.Content.{Content, tree_at}
use Rattle.extraction_coproduct.specs.Finished.{TablesContent, raised}
use Rattle.twisted_antipode.specs.Held.{Held, held_over}
use Rattle.twisted_antipode.specs.Known.{first_held}

pub record IsCountOf (old new : TablesContent) (before after : ℕ) : Type 0 where
  pub more : List ℕ
  pub finished : new.finished ≡ old.finished ++ more
  pub count : after ≡ fold (λ n i. raised n) before more

abbrev pub HasAll : List Plain → List Plain → Type 0
HasAll fs ts = AllByRecursion (λ f. IsIn f ts) fs

abbrev pub HasAllComponents : Types → List Plain → Type 0
HasAllComponents ty ts =
    (t : Plain) → IsIn t ts → AllByRecursion (λ x. HasAll x.0.0 ts) (extraction_terms ty t)

pub record IsNewAmong (c : Content) (hs : List Held) (ts : List Plain) (old : List ℕ) (i : ℕ) :
    Type 0 where
  pub known : i < length c.trees
  pub tree : IsIn (tree_at c i) ts
  pub unheld : first_held hs i ≡ None
  pub lacking : IsIn i old → ⊥

pub record AreFinishedAmong (c : Content) (hs : List Held) (ts : List Plain) (old new : List ℕ) :
    Type 0 where
  pub more : List ℕ
  pub finished : new ≡ old ++ more
  pub each : AllByRecursion (IsNewAmong c hs ts old) more
  pub once : AreDistinct more

abbrev pub AreFinishedOver : TablesContent → TablesContent → List Held → List Plain → Type 0
AreFinishedOver old new hs fs =
    (ts : List Plain) → HasAll fs ts → HasAllComponents old.pool.types ts →
    AreFinishedAmong new.pool hs ts old.finished new.finished

abbrev pub unheld_of : Content → List Held → List Plain → List Plain
unheld_of c hs ts = filter (λ t. is_none (held_over c hs t)) ts
