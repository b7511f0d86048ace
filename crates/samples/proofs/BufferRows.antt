-- The receive buffer's boundaries hold of its definitions: each row computes. Assumes nothing.
use mathlib.Core.List.{flatten}
use Rattle.ordered_bytes.specs.Receiver.{walk, consumed, payloads, any_held, numbers_fit}
use Rattle.ordered_bytes.specs.Buffer.{all_within, view, well_formed}
use Rattle.ordered_bytes.specs.Calls.{creating, starting, accepting, peeking, consuming, consuming_bytes}
use Rattle.samples.specs.BufferRows.{NewRows, StartRows, AcceptRows, PeekRows}
use Rattle.samples.specs.ReadRows.{ConsumeRows, ConsumeBytesRows}

pub new_rows : NewRows
unfolding creating
new_rows = search

pub start_rows : StartRows
unfolding any_held numbers_fit all_within view well_formed starting
start_rows = search

pub accept_rows : AcceptRows
unfolding numbers_fit all_within view well_formed accepting
accept_rows = search

pub peek_rows : PeekRows
unfolding numbers_fit all_within view well_formed peeking
peek_rows = search

pub consume_rows : ConsumeRows
unfolding walk consumed numbers_fit all_within view well_formed consuming
consume_rows = search

pub consume_bytes_rows : ConsumeBytesRows
unfolding flatten payloads numbers_fit all_within view well_formed consuming_bytes
consume_bytes_rows = search
