-- The header's boundaries hold of its definitions: each row computes. Assumes nothing.
use Rattle.header.specs.Header.{header_bytes, header_at}
use Rattle.samples.specs.HeaderRows.{HeaderRows}

pub header_rows : HeaderRows
unfolding header_bytes header_at
header_rows = search
