-- `any` over the distances left is what is held from the first of them on.
use Rattle.std.proofs.Common.{◌∙◌, refl, length, get_or, false, rules, tests}
use Rattle.std.proofs.lemmas.Iterator.{YieldsList-from_range}
use Rattle.std.proofs.lemmas.Iterator.Search.{any_from_yields_List}
use Rattle.ordered_bytes.specs.Buffer.{buffer_in, slot_at}
use Rattle.ordered_bytes.proofs.Tests.{any_marked}
use Rattle.ordered_bytes.proofs.BufferView.held_from.Goals as goal

pub returns : goal.returns
returns c =
    let b = buffer_in c.args.self.now in
    any_from_yields_List (λ i. get_or b.marks (slot_at b i) false) _ _ c.any.result c.any.ensures.ran
    (YieldsList-from_range c.args.distance (length b.marks) _ (cc) refl) (λ x r q k. search (rules, tests))
    ∙ any_marked b c.args.distance _ refl
