-- The boundaries of closing and opening hold of their definitions: each row computes. Assumes nothing.
use Rattle.header.specs.Header.{header_bytes}
use Rattle.samples.specs.CloseRows.{CloseRows, FinRows, HelloRows}

pub close_rows : CloseRows
close_rows = search

pub fin_rows : FinRows
unfolding header_bytes
fin_rows = search

pub hello_rows : HelloRows
hello_rows = search
