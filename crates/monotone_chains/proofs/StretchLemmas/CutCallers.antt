-- What the code that cuts parts anew asks, as lemmas over plain variables.
use Rattle.std.proofs.Common.{◌≡◌, ◌⊎◌, inl, inr, ℕ, ◌≤◌, Bool, true, false, List, ◌++◌, length, get_or, take, drop, sym, ap, ap₂, ◌∙◌, subst, arith}
use Rattle.std.specs.List.{All, AllPairs, AllZip}
use Rattle.std.proofs.Math.Seq.{drop-append_seam, take-append_seam}
use Rattle.std.proofs.lemmas.List.{length-append, length-take-le, take-append-drop}
use Rattle.plane.specs.declared.edge.Edge.{Edge}
use Rattle.monotone_chains.specs.Stretches.{AreApart, AreClear, IsLong}
use Rattle.monotone_chains.specs.Stretches.Cut.{AreCut, IsRound, IsPart, IsSettled, edges_along, way}
use Rattle.monotone_chains.specs.declared.stretches.parts.Part.{Part}
use Rattle.overlay.proofs.BoundaryLemmas.Broken.{zip-back, zip-front}
use Rattle.noding.proofs.ChainLemmas.Offsets.{joined}
use Rattle.monotone_chains.proofs.StretchLemmas.CutGroups.{AreStretches-ways, clear-parts}
use Rattle.monotone_chains.proofs.StretchLemmas.CutLists.{joined-append}
use Rattle.monotone_chains.proofs.StretchLemmas.CutRefined.{Cut, edges-cut, parts-cut}

-- a pair stays settled where marks stay
pub IsSettled-kept : (parts : List Part) (before after : List Bool) (pair : ℕ × ℕ) → ((k : ℕ) → get_or before k false ≡ true → get_or after k false ≡ true) → IsSettled parts before pair → IsSettled parts after pair
IsSettled-kept parts before after pair keeps is d = on (is d)
  where
    on : ((get_or before pair.0 false ≡ true) × (get_or before pair.1 false ≡ true)) ⊎ AreApart (way (get_or parts pair.0 d)) (way (get_or parts pair.1 d))
        → ((get_or after pair.0 false ≡ true) × (get_or after pair.1 false ≡ true)) ⊎ AreApart (way (get_or parts pair.0 d)) (way (get_or parts pair.1 d))
    on (inl (one, other)) = inl (keeps pair.0 one, keeps pair.1 other)
    on (inr apart) = inr apart

-- ---- one round after another

-- parts, so many first ones of one side, and what they are cut into
module _ (parts refined : List Part) (groups : List (List Part)) (count bound : ℕ) (within : count ≤ length parts) (zip : AllZip Cut parts groups)
    (is : refined ≡ joined groups) (stops : bound ≡ length (joined (take count groups))) where
  abbrev front : List Part
  front = joined (take count groups)

  abbrev back : List Part
  back = joined (drop count groups)

  whole : refined ≡ front ++ back
  whole = is ∙ ap (λ (all : List (List Part)). joined all) (sym (take-append-drop count groups)) ∙ joined-append (take count groups) (drop count groups)

  together : AllZip Cut (take count parts ++ drop count parts) groups
  together = subst (λ (all : List Part). AllZip Cut all groups) (sym (take-append-drop count parts)) zip

  size : length (take count parts) ≡ count
  size = length-take-le count parts within

  front-kept : edges_along (take count parts) ≡ edges_along (take bound refined)
  front-kept =
      edges-cut (take count parts) (take count groups) (subst (λ (n : ℕ). AllZip Cut (take count parts) (take n groups)) size (zip-front Cut (take count parts) (drop count parts) groups together))
      ∙ ap (λ (list : List Part). edges_along list) (sym (ap₂ (λ (n : ℕ) (list : List Part). take n list) stops whole ∙ take-append_seam front back))

  back-kept : edges_along (drop count parts) ≡ edges_along (drop bound refined)
  back-kept =
      edges-cut (drop count parts) (drop count groups) (subst (λ (n : ℕ). AllZip Cut (drop count parts) (drop n groups)) size (zip-back Cut (take count parts) (drop count parts) groups together))
      ∙ ap (λ (list : List Part). edges_along list) (sym (ap₂ (λ (n : ℕ) (list : List Part). drop n list) stops whole ∙ drop-append_seam front back))

  pub bound-within : bound ≤ length refined
  bound-within = let all = ap (λ (list : List Part). length list) whole in let sum = length-append front back in omega (arith, stops, all, sum)

  pub all-parts : All IsPart refined
  all-parts = subst (All IsPart) (sym is) (parts-cut parts groups zip)

-- ---- the result

AreCut-last : (subject clip : List Edge) (parts refined : List Part) (groups : List (List Part)) (count bound : ℕ) → All IsPart parts → count ≤ length parts → IsRound 1 parts groups
    → refined ≡ joined groups → bound ≡ length (joined (take count groups)) → subject ≡ edges_along (take count parts) → clip ≡ edges_along (drop count parts)
    → AreCut subject clip refined bound
AreCut-last subject clip parts refined groups count bound each within round is stops first second = (
  AreStretches-ways subject clip (take bound refined) (drop bound refined)
      (first ∙ front-kept parts refined groups count bound within round.refined.cut is stops)
      (second ∙ back-kept parts refined groups count bound within round.refined.cut is stops)
      (subst (All IsPart) (sym (take-append-drop bound refined)) (all-parts parts refined groups count bound within round.refined.cut is stops))
      (subst (AllPairs (λ one other. IsLong (way one) ⊎ IsLong (way other) → AreClear (way one) (way other))) (sym is ∙ sym (take-append-drop bound refined)) (clear-parts parts groups each round)),
  bound-within parts refined groups count bound within round.refined.cut is stops,
)

-- where they were cut before
pub AreCut-next : (parts shorter given refined : List Part) (groups : List (List Part)) (count bound refined_count : ℕ) → count ≤ length parts → AllZip Cut parts groups
    → shorter ≡ joined groups → bound ≡ length (joined (take count groups)) → given ≡ shorter
    → ((groups' : List (List Part)) × IsRound 1 given groups' × (refined ≡ joined groups') × (refined_count ≡ length (joined (take bound groups'))))
    → AreCut (edges_along (take count parts)) (edges_along (drop count parts)) refined refined_count
AreCut-next parts shorter given refined groups count bound refined_count within zip is stops same (groups', round, is', stops') =
    AreCut-last (edges_along (take count parts)) (edges_along (drop count parts)) given refined groups' bound refined_count
    (all-parts parts given groups count bound within zip here stops) (bound-within parts given groups count bound within zip here stops) round is' stops'
    (front-kept parts given groups count bound within zip here stops) (back-kept parts given groups count bound within zip here stops)
  where
    here : given ≡ joined groups
    here = same ∙ is
