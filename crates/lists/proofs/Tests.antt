-- What a test that holds says of its parts.
-- Assumes nothing.

-- both sides of a conjunction that holds
pub use Rattle.std.proofs.lemmas.Bool.{and_parts as both}
