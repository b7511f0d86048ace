-- `first_held`: the number at base's place is not below base; where it is base + i, those before it are not held, and where the range ends first, none is.
use Rattle.std.proofs.Common.{arith}
use Rattle.window.proofs.Loops.{next_is, next_from, before_next}
use Rattle.window.proofs.first_held.Goals as goal

pub overflow_sub-distance : goal.overflow_sub-distance
overflow_sub-distance c =
    let a = c.args in
    let next = next_is a.held.now a.at c.get.result c.get.ensures.lookup.0 c.get.ensures.lookup.1 c.copied.ensures c.unwrap_or-next.ensures in
    next_from a.base a.at a.held.now c.requires.place (omega arith) next

pub returns-then-i-distance-clause-value : goal.returns-then-i-distance-clause-value
returns-then-i-distance-clause-value c =
    let a = c.args in
    let q = c.requires in
    let next = next_is a.held.now a.at c.get.result c.get.ensures.lookup.0 c.get.ensures.lookup.1 c.copied.ensures c.unwrap_or-next.ensures in
    let from = next_from a.base a.at a.held.now q.place (omega arith) next in
    (before_next a.base a.range a.at c.loop-i.i a.held.now q.rises q.place (omega arith) q.fits.1 next (omega arith) (λ h. omega arith), omega arith)

pub returns-clause-value : goal.returns-clause-value
returns-clause-value c =
    let a = c.args in
    let q = c.requires in
    let next = next_is a.held.now a.at c.get.result c.get.ensures.lookup.0 c.get.ensures.lookup.1 c.copied.ensures c.unwrap_or-next.ensures in
    let from = next_from a.base a.at a.held.now q.place (omega arith) next in
    (before_next a.base a.range a.at a.range a.held.now q.rises q.place (omega arith) q.fits.1 next (omega arith) (λ h. absurd (omega arith)), omega arith)
