-- The cells and bytes that move lie within those lent. Assumes nothing.
use Rattle.std.proofs.Common.{◌≡◌, ℕ, ap, ◌∙◌, sym, arith, take, length}
use Rattle.std.proofs.Math.Seq.{length-take-le}
use Rattle.outstanding.specs.Outstanding.{Store, store_in, store_now, lengths_of, size, well_formed}
use Rattle.outstanding.proofs.Laws.{good, size_small, room, gone_within, dropped_law}
use Rattle.outstanding.proofs.StoreViewMut.drop_first.Goals as goal

-- the bytes that go, and all, as the view counts them
gone : {v k : Store} {r : ℕ} (n : ℕ) → v ≡ k → r ≡ size (take n v.lengths) → r ≡ size (take n k.lengths)
gone n e q = q ∙ ap (λ (k : Store). size (take n k.lengths)) e

total : {v k : Store} {r : ℕ} → v ≡ k → r ≡ size (lengths_of v) → r ≡ size (lengths_of k)
total e q = q ∙ ap (λ (k : Store). size (lengths_of k)) e

pub slice_bounds-size_of-end : goal.slice_bounds-size_of-end
slice_bounds-size_of-end c =
    let lengths = ap (λ (k : Store). length k.lengths) c.view-store.ensures in
    sym (length-take-le _ _ (omega (arith, room (store_now c.args.self.now) c.requires.0)))

pub size_of-gone-requires : goal.size_of-gone-requires
size_of-gone-requires c =
    let lengths = ap (λ (k : Store). length k.lengths) c.view-store.ensures in
    let r = room (store_now c.args.self.now) c.requires.0 in
    omega (arith, length-take-le c.args.n c.view-store.result.lengths.now (omega arith))

pub size-total-requires : goal.size-total-requires
size-total-requires c =
    omega (arith, room (store_in c.view-store.result) (ap well_formed c.view-store.ensures ∙ c.requires.0))

pub copy_within-requires-clause-in_bounds : goal.copy_within-requires-clause-in_bounds
copy_within-requires-clause-in_bounds c = omega (arith, room (store_now c.args.self.now) c.requires.0)

pub copy_within-requires-clause-dest_in_bounds : goal.copy_within-requires-clause-dest_in_bounds
copy_within-requires-clause-dest_in_bounds c = omega (arith, room (store_now c.args.self.now) c.requires.0)

pub copy_within-requires-2-clause-in_bounds : goal.copy_within-requires-2-clause-in_bounds
copy_within-requires-2-clause-in_bounds c = omega (arith, room (store_now c.args.self.now) c.requires.0)

pub copy_within-requires-2-clause-dest_in_bounds : goal.copy_within-requires-2-clause-dest_in_bounds
copy_within-requires-2-clause-dest_in_bounds c = omega (arith, room (store_now c.args.self.now) c.requires.0)

pub overflow_sub-total : goal.overflow_sub-total
overflow_sub-total c =
    omega (arith, gone _ c.view-store.ensures c.size_of-gone.ensures, total c.view-store.ensures c.size-total.ensures, gone_within (store_now c.args.self.now) c.args.n c.requires.0 c.requires.1)

pub move_part-requires : goal.move_part-requires
move_part-requires c =
    let k = store_now c.args.self.now in
    let few = gone_within k c.args.n c.requires.0 c.requires.1 in
    omega (arith, gone _ c.view-store.ensures c.size_of-gone.ensures, total c.view-store.ensures c.size-total.ensures, room k c.requires.0, size_small (good {k = k} c.requires.0))

pub returns-clause-left : goal.returns-clause-left
returns-clause-left c =
    dropped_law (store_now c.args.self.now) c.args.n c.size_of-gone.result c.size-total.result _ _ _ c.requires.0 c.requires.1
    (gone _ c.view-store.ensures c.size_of-gone.ensures) (total c.view-store.ensures c.size-total.ensures)
    c.copy_within.ensures.after c.copy_within-2.ensures.after c.move_part.ensures
