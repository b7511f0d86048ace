-- The packets up to the last number answered are dropped. Assumes nothing.
use Rattle.std.proofs.Common.{◌≡◌, ℕ, Bool, ap, ◌∙◌, sym, arith}
use Rattle.outstanding.specs.Outstanding.{Store, store_now, numbers_of, up_to, well_formed, answering}
use Rattle.outstanding.proofs.Laws.{good, answered_few, answering_is}
use Rattle.outstanding.proofs.StoreViewMut.drop_answered.Goals as goal

-- what the view answered is so of the store
tested : {v k : Store} {r : Bool} → v ≡ k → r ≡ well_formed v → r ≡ well_formed k
tested e q = q ∙ ap well_formed e

counted : {v k : Store} {n : ℕ} (last : ℕ) → v ≡ k → n ≡ up_to last (numbers_of v) → n ≡ up_to last (numbers_of k)
counted last e q = q ∙ ap (λ (k : Store). up_to last (numbers_of k)) e

pub returns-then-not-well_formed-clause-left : goal.returns-then-not-well_formed-clause-left
unfolding answering
returns-then-not-well_formed-clause-left c = simp (sym (tested c.view-store.ensures c.if-not-well_formed.ensures))

pub drop_first-requires : goal.drop_first-requires
drop_first-requires c =
    let well = sym (tested c.view-store.ensures c.if-not-well_formed.ensures) in
    let few = answered_few (good {k = store_now c.args.self.now} well) c.args.last in
    (well, omega (arith, counted c.args.last c.view-store.ensures c.answered_by-answered.ensures))

pub returns-clause-left : goal.returns-clause-left
returns-clause-left c =
    let well = sym (tested c.view-store.ensures c.if-not-well_formed.ensures) in
    let n = counted c.args.last c.view-store.ensures c.answered_by-answered.ensures in
    rw (answering_is (store_now c.args.self.now) well c.args.last, c.drop_first.ensures.left, n)
