-- What a caller of overlays wants of the polygons that it gets: they are valid. So `first_fault` tells nothing of them.
pub use Rattle.validity.proofs.ValidLemmas.{valid}
