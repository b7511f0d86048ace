-- The window's boundaries hold of its definitions: each row computes. Assumes nothing.
use Rattle.window.specs.Window.{member, rising, all_holdable, well_formed, place, numbers, insert_packet_number, before_held, insert_range, run_length, consume}
use Rattle.samples.specs.WindowRows.{InsertRows, RangeRows, PassesRows, WindowConsumeRows}

pub insert_rows : InsertRows
unfolding member rising all_holdable well_formed place numbers insert_packet_number
insert_rows = search

pub range_rows : RangeRows
unfolding member rising all_holdable well_formed place numbers before_held insert_range
range_rows = search

pub passes_rows : PassesRows
unfolding member place before_held
passes_rows = search

pub window_consume_rows : WindowConsumeRows
unfolding rising all_holdable well_formed run_length consume
window_consume_rows = search
