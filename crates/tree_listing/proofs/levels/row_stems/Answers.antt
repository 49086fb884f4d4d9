use Rattle.std.proofs.Common.{sym, length}
use Rattle.tree_listing.proofs.Base.{base_some, base_known, base_are}
use Rattle.tree_listing.proofs.Members.{same_number}
use Rattle.tree_listing.proofs.Settings.{row_item}
use Rattle.tree_listing.proofs.levels.row_stems.Goals as goal

pub base_stems-requires : goal.base_stems-requires
base_stems-requires c =
    let s = c.args.setting.now in
    base_some s.eq.now s.rule.now s.plan.now c.args.pool.now s.empty c.index-as_slice-row.result c.args.row c.requires.setting c.requires.row (row_item c.as_slice.result.now s.plan.now.rows c.args.row c.index-as_slice-row.result c.as_slice.ensures c.index-as_slice-row.is)

pub returns-then-is_empty-clause-known : goal.returns-then-is_empty-clause-known
returns-then-is_empty-clause-known c =
    let s = c.args.setting.now in
    base_known s.eq.now s.rule.now s.plan.now c.args.pool.now s.empty c.index-as_slice-row.result c.in_ok-base_stems.field-0 c.requires.setting c.in_ok-base_stems.ensures

pub returns-then-is_empty-clause-stems : goal.returns-then-is_empty-clause-stems
returns-then-is_empty-clause-stems c = λ r is.
    let s = c.args.setting.now in
    let none = same_number (length c.args.levels.now) 0 (sym c.if-is_empty.ensures) in
    rw none (base_are s.eq.now s.rule.now s.plan.now c.args.pool.now s.empty c.index-as_slice-row.result c.args.row r c.in_ok-base_stems.field-0 c.requires.setting c.requires.row (row_item c.as_slice.result.now s.plan.now.rows c.args.row c.index-as_slice-row.result c.as_slice.ensures c.index-as_slice-row.is) is c.in_ok-base_stems.ensures)
