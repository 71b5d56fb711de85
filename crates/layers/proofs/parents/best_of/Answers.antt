use Rattle.std.proofs.Common.{◌≡◌, ◌<◌, ◌∷◌, ◌++◌, [], ℕ, List, None, Option, Some, IfSome, IsSomeAnd, length, get_or, set, take, ap, subst, sym, arith}
use Rattle.std.proofs.lemmas.List.{get_or_read, take_more}
use Rattle.layers.specs.Parents.{AreBest, IsNoBetter}
use Rattle.layers.proofs.ParentLemmas.Depths.{AreBest-kept, AreBest-same, AreBest-taken}
use Rattle.layers.proofs.parents.best_of.Goals as goal
use Rattle.layers.proofs.parents.best_of.Goals.{then-place-around+then-is_better, else-place-around, else-place-around-via-then-place-around+else-is_better, else-place-around-via-else-place-around}

-- the next pair has a better one, or none
pub loop-place-preserved : goal.loop-place-preserved
loop-place-preserved g c =
    let index = c.loop-place.place-index in
    let pairs = c.args.pairs.now in
    let depths = c.args.depths.now in
    let found = c.loop-place.found.items in
    let after = c.if-place-around.found.items in
    let place = (get_or pairs index (0, 0)).0 in
    let around = (get_or pairs index (0, 0)).1 in
    let before = take index pairs in
    let are = c.loop-place.invariant in
    let below = c.loop-place-test.true in
    let within : place < length depths = (c.requires index (0, 0) below).0 in
    let room : place < length found = (let size = are.size in omega (arith, size, within)) in
    let done : AreBest depths (before ++ (place, around) ∷ []) after =
    elim c.if-place-around.branch [
      | then-place-around+then-is_better w ↦
          let is : after ≡ set found place (Some around) = ap (λ v. v.items) w.found-is in
          let now = get_or_read found place _ room w.index.ensures None in
          subst (λ (all : List (Option ℕ)). AreBest depths (before ++ (place, around) ∷ []) all) (sym is)
          (AreBest-taken depths before found place around are within w.if-place-around.true
          (subst (λ (best : Option ℕ). IfSome best (λ other. IsNoBetter depths other around)) now w.if-is_better.ensures))
      | else-place-around w ↦
          let is : after ≡ found = ap (λ v. v.items) w.found-is in
          subst (λ (all : List (Option ℕ)). AreBest depths (before ++ (place, around) ∷ []) all) (sym is)
          (elim w.else-place-around.branch [
            | else-place-around-via-then-place-around+else-is_better x ↦
                let now = get_or_read found place _ room x.index.ensures None in
                AreBest-kept depths before found place around are within
                (subst (λ (best : Option ℕ). IsSomeAnd best (λ other. IsNoBetter depths around other)) now x.if-is_better.ensures)
            | else-place-around-via-else-place-around x ↦ AreBest-same depths before found place around are within x.if-place-around.false
          ])
    ] in
    subst (λ (some : List (ℕ × ℕ)). AreBest depths some after) (sym (take_more pairs index (0, 0) below)) done
