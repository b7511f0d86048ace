-- What the copy and the two loops leave, together. Assumes nothing.
use Rattle.std.proofs.Common.{ap, ◌∙◌, refl, arith}
use Rattle.std.proofs.lemmas.Slice.{put_mid-paste}
use Rattle.outstanding.specs.Outstanding.{Store, store_now, lengths_of, size}
use Rattle.outstanding.proofs.Laws.{kept_law}
use Rattle.outstanding.proofs.Loops.{numbers_put, lengths_put}
use Rattle.outstanding.proofs.StoreViewMut.keep.Goals as goal

pub returns-clause-kept : goal.returns-clause-kept
returns-clause-kept c =
    let a = c.args in
    let k = store_now a.self.now in
    kept_law k a.next a.q a.c c.size-total.result a.datagram.now _ _ _ (c.size-total.ensures ∙ ap (λ (k : Store). size (lengths_of k)) c.view.ensures)
    (put_mid-paste _ _ _ _ a.datagram.now _ c.copy_from_slice.ensures.after (omega arith) refl)
    (numbers_put k.numbers _ k.state.count a.c (omega arith) a.next c.put_numbers.ensures)
    (lengths_put k.lengths _ k.state.count a.c (omega arith) a.q c.put_lengths.ensures)
