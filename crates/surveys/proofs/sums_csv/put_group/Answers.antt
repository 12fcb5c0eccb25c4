use Rattle.surveys.proofs.sums_csv.put_group.Goals as goal

pub returns : goal.returns
returns c = rw c.cells_of-cells.ensures at c.put_cells.ensures
