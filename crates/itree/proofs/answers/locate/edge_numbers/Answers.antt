use Rattle.std.proofs.Common.{◌≡◌, ◌<◌, ◌+◌, ◌++◌, ◌∷◌, [], ◌∙◌, ℕ, pos, Bool, true, false, cond, List, length, take, get_or, ap, sym, arith, append-nil}
use Rattle.std.proofs.lemmas.List.{take_more, length-take-le}
use Rattle.std.specs.Option.{is_some}
use Rattle.itree.specs.LocateLines.{edge_in, edge_numbers}
use Rattle.itree.specs.declared.lines.locate.LocateLine.{LocateLine}
use Rattle.itree.specs.declared.lines.locate.LocateLine.TheVariants as locate_line
use Rattle.itree.proofs.Located.{last_number, edge_numbers-push}
use Rattle.itree.proofs.answers.locate.edge_numbers.Goals as goal
use Rattle.itree.proofs.answers.locate.edge_numbers.Goals.{then-is_some+in_ok-push, else-is_some}

-- what is read outside the list
abbrev no_line : LocateLine
no_line = locate_line.Edge (record { x0 = pos 0; y0 = pos 0; x1 = pos 0; y1 = pos 0 })

-- one more line, and whether it says an edge is decided
next : (said : List LocateLine) (numbers kept new : List ℕ) (place : ℕ) (is_edge : Bool) → length numbers ≡ length said → place < length said → kept ≡ edge_numbers (take place said) (take place numbers)
    → is_some (edge_in (get_or said place no_line)) ≡ is_edge → new ≡ kept ++ cond is_edge (get_or numbers place 0 ∷ []) [] → new ≡ edge_numbers (take (place + 1) said) (take (place + 1) numbers)
next said numbers kept new place is_edge same within are decided is =
    let line = get_or said place no_line in
    let number = get_or numbers place 0 in
    let inside : place < length numbers = omega (arith, same, within) in
    let even : length (take place numbers) ≡ length (take place said) = length-take-le place numbers (omega (arith, inside)) ∙ sym (length-take-le place said (omega (arith, within))) in
    is ∙ ap (λ (b : Bool). kept ++ cond b (number ∷ []) []) (sym decided)
    ∙ ap (λ (ns : List ℕ). ns ++ last_number line number) are
    ∙ sym (edge_numbers-push (take place said) (take place numbers) line number even)
    ∙ ap (λ (lines : List LocateLine). edge_numbers lines (take place numbers ++ number ∷ [])) (sym (take_more said place no_line within))
    ∙ ap (λ (ns : List ℕ). edge_numbers (take (place + 1) said) ns) (sym (take_more numbers place 0 inside))

pub loop-place-preserved : goal.loop-place-preserved
loop-place-preserved g c =
    let said = c.args.said.now in
    let numbers = c.args.numbers.now in
    let place = c.loop-place.place in
    let edge_is = c.edge.ensures in
    let some_is = c.is_some.ensures in
    elim c.if-is_some.branch [
      | then-is_some+in_ok-push w ↦
          let tested = w.if-is_some.true in
          let kept_is = w.kept-is in
          let pushed = w.in_ok-push.ensures.items in
          let decided : is_some (edge_in (get_or said place no_line)) ≡ true = cc in
          let more : c.if-is_some.kept.items ≡ c.loop-place.kept.items ++ get_or numbers place 0 ∷ [] = cc in
          next said numbers c.loop-place.kept.items c.if-is_some.kept.items place true c.requires c.loop-place-test.true c.loop-place.invariant decided more
      | else-is_some w ↦
          let tested = w.if-is_some.false in
          let kept_is = w.kept-is in
          let decided : is_some (edge_in (get_or said place no_line)) ≡ false = cc in
          let none = append-nil c.loop-place.kept.items in
          let as_before : c.if-is_some.kept.items ≡ c.loop-place.kept.items ++ [] = cc in
          next said numbers c.loop-place.kept.items c.if-is_some.kept.items place false c.requires c.loop-place-test.true c.loop-place.invariant decided as_before
    ]
