use Rattle.row_laws.proofs.SameRows.{true_row}
use Rattle.row_laws.proofs.true_rows_in_all_units.Goals as goal

pub returns : goal.returns
returns c s t row s_types t_types same h = true_row s t s_types t_types same row h
