-- The checks in order, the header written, and its bytes kept. Assumes nothing.
use Rattle.std.proofs.Common.{◌≡◌, sym, arith, rules, Err}
use Rattle.refusal.specs.declared.Refusal.TheVariants.{Exhausted}
use Rattle.outstanding.specs.Outstanding.{places}
use Rattle.outstanding.proofs.Laws.{viewed_below}
use Rattle.writer.proofs.Empty.{empty-malformed, empty-exhausted, empty_short, empty_full, empty_fits, empty_sends}
use Rattle.writer.proofs.pack_empty_into.Goals as goal

pub returns-then-not-well_formed_below-clause-sent : goal.returns-then-not-well_formed_below-clause-sent
returns-then-not-well_formed_below-clause-sent c =
    sym (empty-malformed _ _ _ _ _ (viewed_below _ c.view.ensures c.if-not-well_formed_below.ensures))

pub returns-in_err-next-clause-sent : goal.returns-in_err-next-clause-sent
returns-in_err-next-clause-sent c =
    let none = rw c.in_err-next.ensures.ok_part at c.checked_add.ensures in
    let refused : c.from_residual.result ≡ Err Exhausted = search rules in
    rw refused (sym (empty-exhausted _ _ _ _ _ (viewed_below _ c.view.ensures c.if-not-well_formed_below.ensures) (omega arith)))

pub returns-then-out-lt-HEADER_SIZE-clause-sent : goal.returns-then-out-lt-HEADER_SIZE-clause-sent
returns-then-out-lt-HEADER_SIZE-clause-sent c =
    let some = rw c.in_ok-next.ensures.ok_part at c.checked_add.ensures in
    sym (empty_short _ _ _ _ _ (viewed_below _ c.view.ensures c.if-not-well_formed_below.ensures) (omega arith) c.if-out-lt-HEADER_SIZE.true)

pub returns-then-store-eq-PLACES-clause-sent : goal.returns-then-store-eq-PLACES-clause-sent
unfolding places
returns-then-store-eq-PLACES-clause-sent c =
    let some = rw c.in_ok-next.ensures.ok_part at c.checked_add.ensures in
    sym (empty_full _ _ _ _ _ (viewed_below _ c.view.ensures c.if-not-well_formed_below.ensures) (omega arith) c.if-out-lt-HEADER_SIZE.false c.if-store-eq-PLACES.true)

pub keep-requires : goal.keep-requires
unfolding places
keep-requires c =
    let a = c.args in
    let some = rw c.in_ok-next.ensures.ok_part at c.checked_add.ensures in
    empty_fits _ a.next_packet_num a.ids.source a.ids.destination a.out.now (viewed_below _ c.view.ensures c.if-not-well_formed_below.ensures) (omega arith)
    c.if-out-lt-HEADER_SIZE.false c.build_empty_encrypted_packet-header.ensures c.serialise_at_unchecked.ensures c.if-store-eq-PLACES.false

pub returns-clause-sent : goal.returns-clause-sent
unfolding places
returns-clause-sent c =
    let some = rw c.in_ok-next.ensures.ok_part at c.checked_add.ensures in
    rw some.1
    (empty_sends _ _ _ _ _ (viewed_below _ c.view.ensures c.if-not-well_formed_below.ensures) (omega arith) c.if-out-lt-HEADER_SIZE.false
    c.build_empty_encrypted_packet-header.ensures c.serialise_at_unchecked.ensures c.if-store-eq-PLACES.false c.keep.ensures.kept)
