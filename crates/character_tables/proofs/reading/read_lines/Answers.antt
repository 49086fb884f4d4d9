use Rattle.std.proofs.Common.{◌≡◌, ◌<◌, ◌+◌, ◌∷◌, [], ◌++◌, ℕ, List, map, take, length, get_or, refl, sym, subst, ◌∙◌, arith, Bor}
use Rattle.std.proofs.lemmas.List.{get_or_default, length-map}
use Rattle.tree_pool.proofs.Growth.{grown_refl, grown_trans}
use Rattle.character_tables.specs.Reading.{AreReadRows}
use Rattle.character_tables.proofs.Tables.{empty_table, fault_at, map_more, passes, fails}
use Rattle.character_tables.proofs.reading.read_lines.Goals as goal

abbrev blank : Bor (List ℕ)
blank = record { ref_ptr = (0, 0); now = [] }

more : (lines : List (Bor (List ℕ))) (i : ℕ) → i < length lines →
    take (i + 1) (map (λ s. s.now) lines) ≡ take i (map (λ s. s.now) lines) ++ (get_or lines i blank).now ∷ []
more lines i lt = map_more (λ (s : Bor (List ℕ)). s.now) lines i (get_or lines i blank) lt (get_or_default lines i blank (get_or lines i blank) lt)

pub loop-i-init : goal.loop-i-init
loop-i-init c = record { grown = grown_refl c.args.pool.now; read = rw c.new-rows.ensures (empty_table c.args.pool.now) }

pub returns-then-not-branch-clause-refusal : goal.returns-then-not-branch-clause-refusal
returns-then-not-branch-clause-refusal c =
    let i = c.loop-i.i in
    let ls = map (λ s. s.now) c.args.lines.now in
    fault_at c.loop-i.pool c.args.types.now ls i (get_or c.args.lines.now i blank).now c.loop-i.rows (c.loop-i.invariant.grown.types ∙ c.requires.types)
    (omega (arith, c.loop-i-test.true, length-map c.args.lines.now (λ s. s.now))) (more c.args.lines.now i c.loop-i-test.true) c.loop-i.invariant.read
    (fails _ _ c.in_ok-read_next_row.field-0 (c.in_ok-read_next_row.ensures.read (take i ls) c.loop-i.invariant.read) c.if-not-branch.true)

pub loop-i-preserved : goal.loop-i-preserved
loop-i-preserved c =
    let i = c.loop-i.i in
    let ls = map (λ s. s.now) c.args.lines.now in
    record {
      grown = grown_trans c.args.pool.now c.loop-i.pool c.read_next_row.new.pool c.loop-i.invariant.grown c.in_ok-read_next_row.ensures.grown;
      read =
          subst (λ (xs : List (List ℕ)). AreReadRows c.read_next_row.new.pool xs c.read_next_row.new.rows) (sym (more c.args.lines.now i c.loop-i-test.true))
          (passes _ _ c.in_ok-read_next_row.field-0 (c.in_ok-read_next_row.ensures.read (take i ls) c.loop-i.invariant.read) c.if-not-branch.false);
    }
