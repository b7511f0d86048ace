-- The store's check, the packing under its limit, and what is kept of it. Assumes nothing.
use Rattle.std.proofs.Common.{◌≡◌, sym, arith, rules, Err}
use Rattle.std.proofs.Math.Seq.{length-take-le}
use Rattle.outstanding.specs.Outstanding.{store_now, places}
use Rattle.outstanding.proofs.Laws.{below_good, viewed_below}
use Rattle.writer.specs.Packing.{payload_size, byte_limit}
use Rattle.writer.proofs.Sending.{malformed_refuses}
use Rattle.writer.proofs.Kept.{refuses_too, refuses_full, sends_kept, small, within, keep_fits}
use Rattle.writer.proofs.consume_data_into.Goals as goal

pub returns-then-not-well_formed_below-clause-sent : goal.returns-then-not-well_formed_below-clause-sent
returns-then-not-well_formed_below-clause-sent c =
    sym (malformed_refuses _ _ _ _ _ _ (viewed_below _ c.view.ensures c.if-not-well_formed_below.ensures))

pub overflow_sub-free : goal.overflow_sub-free
unfolding places
overflow_sub-free c =
    let a = c.args in
    omega (arith, (below_good a.next_packet_num {k = store_now a.store.now} (viewed_below _ c.view.ensures c.if-not-well_formed_below.ensures)).0.few)

pub returns-in_err-packed-clause-sent : goal.returns-in_err-packed-clause-sent
unfolding byte_limit payload_size places
returns-in_err-packed-clause-sent c =
    let refused : c.from_residual.result ≡ Err c.in_err-packed.field-0.0 = search rules in
    rw refused (refuses_too _ _ _ _ _ _ (viewed_below _ c.view.ensures c.if-not-well_formed_below.ensures) c.min-limit.ensures c.pack_up_to.ensures c.in_err-packed.was)

pub returns-then-free-eq0-clause-sent : goal.returns-then-free-eq0-clause-sent
unfolding byte_limit payload_size places
returns-then-free-eq0-clause-sent c =
    let well = viewed_below c.args.next_packet_num {k = store_now c.args.store.now} c.view.ensures c.if-not-well_formed_below.ensures in
    let few = (below_good c.args.next_packet_num well).0.few in
    refuses_full _ _ _ _ _ _ well c.min-limit.ensures c.pack_up_to.ensures c.in_ok-packed.was (omega arith)

pub overflow_mul-end : goal.overflow_mul-end
unfolding byte_limit payload_size places
overflow_mul-end c =
    omega (arith, small _ _ _ _ _ _ (viewed_below _ c.view.ensures c.if-not-well_formed_below.ensures) c.min-limit.ensures c.pack_up_to.ensures c.in_ok-packed.was)

pub overflow_add-end : goal.overflow_add-end
unfolding byte_limit payload_size places
overflow_add-end c =
    omega (arith, small _ _ _ _ _ _ (viewed_below _ c.view.ensures c.if-not-well_formed_below.ensures) c.min-limit.ensures c.pack_up_to.ensures c.in_ok-packed.was)

pub slice_bounds-keep-end : goal.slice_bounds-keep-end
unfolding byte_limit payload_size places
slice_bounds-keep-end c =
    within _ _ _ _ _ _ (viewed_below _ c.view.ensures c.if-not-well_formed_below.ensures) c.min-limit.ensures c.pack_up_to.ensures c.in_ok-packed.was

pub slice_bounds-keep-end-2 : goal.slice_bounds-keep-end-2
unfolding byte_limit payload_size places
slice_bounds-keep-end-2 c =
    sym (length-take-le _ _ (within _ _ _ _ _ _ (viewed_below _ c.view.ensures c.if-not-well_formed_below.ensures) c.min-limit.ensures c.pack_up_to.ensures c.in_ok-packed.was))

pub keep-requires : goal.keep-requires
unfolding byte_limit payload_size places
keep-requires c =
    keep_fits _ _ _ _ _ _ (viewed_below _ c.view.ensures c.if-not-well_formed_below.ensures) c.min-limit.ensures c.pack_up_to.ensures c.in_ok-packed.was

pub returns-clause-sent : goal.returns-clause-sent
unfolding byte_limit payload_size places
returns-clause-sent c =
    sends_kept _ _ _ _ _ _ (viewed_below _ c.view.ensures c.if-not-well_formed_below.ensures) c.min-limit.ensures c.pack_up_to.ensures c.in_ok-packed.was
    (λ full. c.if-free-eq0.false (omega arith)) c.keep.ensures.kept
