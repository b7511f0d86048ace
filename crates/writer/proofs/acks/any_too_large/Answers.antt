-- The test by places is the definition's. Assumes nothing.
use Rattle.std.proofs.Common.{get_or, rules, tests, arith, ◌∙◌}
use Rattle.std.proofs.lemmas.Iterator.{YieldsList-from_range}
use Rattle.std.proofs.lemmas.Iterator.Search.{any_from_yields_List}
use Rattle.ring_buffer.specs.Ring.{blank, contents}
use Rattle.ring_buffer.proofs.Laws.{length-contents}
use Rattle.writer.specs.Acks.{too_large}
use Rattle.writer.proofs.AckTurns.{any_by_places}
use Rattle.writer.proofs.acks.any_too_large.Goals as goal

pub returns : goal.returns
returns c =
    let v = c.args.ring.now in
    let queue = contents v.state v.records.now in
    let long = length-contents v.state v.records.now c.requires.well in
    any_from_yields_List (λ i. too_large (get_or queue i blank)) _ _ _ c.any.ensures.ran (YieldsList-from_range 0 c.args.k c.args.k (cc) (omega arith)) (λ x b q k. search (rules, tests))
    ∙ any_by_places queue 0 c.args.k (omega (arith, long))
