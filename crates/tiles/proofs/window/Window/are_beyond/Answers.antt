use Rattle.std.proofs.Common.{◌⊎◌, inl, inr, Bool, true, false}
use Rattle.std.proofs.lemmas.Bool.{MatchBool-at_false}
use Rattle.std.specs.Bool.{MatchBool}
use Rattle.tiles.proofs.window.Window.are_beyond.Goals as goal

-- none of the first three holds, so the last one decides
last-decides : (r : Bool) (A B C D : Type 0) → ¬ A → ¬ B → ¬ C → MatchBool r D (¬ D) → MatchBool r (A ⊎ B ⊎ C ⊎ D) (¬ (A ⊎ B ⊎ C ⊎ D))
last-decides true A B C D a b c holds = inr (inr (inr holds))
last-decides false A B C D a b c not = λ some. elim some [
  | inl first ↦ a first
  | inr (inl second) ↦ b second
  | inr (inr (inl third)) ↦ c third
  | inr (inr (inr last)) ↦ not last
]

pub returns : goal.returns
returns c =
    last-decides c.are_above.result _ _ _ _
    (MatchBool-at_false _ _ c.if-are_left.false c.are_left.ensures) (MatchBool-at_false _ _ c.if-are_right.false c.are_right.ensures) (MatchBool-at_false _ _ c.if-are_below.false c.are_below.ensures)
    c.are_above.ensures
