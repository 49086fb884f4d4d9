use Rattle.std.proofs.Common.{◌∙◌, ◌++◌, ap, subst, sym, map, pos, List, ℕ}
use Rattle.degree_numbers.specs.declared.types.Types.{Types}
use Rattle.degree_numbers.specs.declared.multi.Multi.{Multi}
use Rattle.std.specs.List.{AllByRecursion}
use Rattle.cutting_tables.specs.Keys.{Opened}
use Rattle.pooled_cuttings.specs.declared.keys.OpenKey.{OpenKey}
use Rattle.pooled_cuttings.specs.Lines.{opened_terms_in}
use Rattle.pooled_cuttings.specs.Products.{IsPart, kept_terms, seed}
use Rattle.pooled_cuttings.proofs.Parts.{parts_are}
use Rattle.pooled_cuttings.proofs.Loops.{seed_row}
use Rattle.pooled_cuttings.proofs.seeds.seed_lines.Goals as goal

pub push_seeds-requires-clause-parts : goal.push_seeds-requires-clause-parts
push_seeds-requires-clause-parts c =
    let n = c.args.n.now.entries in
    rw c.as_slice.ensures.value
    (subst (λ (ty : Types). AllByRecursion (λ a. IsPart ty n a.entries) c.in_ok-parts.parts.items) (sym c.in_ok-none.ensures.grown.pool.types)
    (parts_are c.args.grove.now.pool.types n c.in_ok-parts.parts.items c.requires.types c.requires.small c.in_ok-parts.ensures))

pub returns-clause-terms : goal.returns-clause-terms
returns-clause-terms c =
    let n = c.args.n.now.entries in
    let most = pos c.args.bounds.now.excess in
    let h = c.no_tree.new.self in
    c.in_ok-push_seeds.ensures.terms
    ∙ ap (λ (ls : List (OpenKey × ℕ)). opened_terms_in h ls ++ seed_row h most n c.as_slice.result.now) c.new-lines.ensures.items
    ∙ ap (λ (ty : Types). kept_terms ty most (map (seed n) (map (λ a. a.entries) c.as_slice.result.now))) c.in_ok-none.ensures.grown.pool.types
    ∙ ap (λ (ms : List Multi). kept_terms c.args.grove.now.pool.types most (map (seed n) (map (λ a. a.entries) ms))) c.as_slice.ensures.value
    ∙ ap (λ (ms : List (List ℕ)). kept_terms c.args.grove.now.pool.types most (map (seed n) ms)) c.in_ok-parts.ensures
