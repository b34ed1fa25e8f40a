-- The cell of a timer within an entry of the table.
use Rattle.timer_core.specs.declared.table.LinkedCell.{LinkedCell}
use Rattle.timer_core.specs.declared.timer.Cell.{Cell}

abbrev pub cell_in : LinkedCell → Cell
cell_in linked_cell = record { start = linked_cell.start; interval = linked_cell.interval }
