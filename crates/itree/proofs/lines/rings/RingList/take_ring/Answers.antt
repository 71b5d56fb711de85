use Rattle.std.proofs.Common.{◌≡◌, ◌++◌, ◌∷◌, ◌∙◌, [], ℕ, List, length, refl, ap, append_assoc, rules}
use Rattle.std.specs.Slice.Iter.{chunks_rest, chunks_size}
use Rattle.plane.specs.declared.point.Point.{Point}
use Rattle.itree.proofs.Ringed.{Taken-next, Taken-all, unsaid, Holds-more}
use Rattle.itree.proofs.lines.rings.RingList.take_ring.Goals as goal

pub returns-in_default-clause-untaken : goal.returns-in_default-clause-untaken
returns-in_default-clause-untaken g c = λ none ring says.
    let (size, (so_far, _, taken), _) = c.loop-pair.invariant in
    let (_, (cut, many, some)) = c.in-Some.ensures.steps in
    unsaid c.args.words.now (chunks_rest c.loop-pair.pair-iterator) c.in-Some.pair.now (chunks_rest c.next.new.self) so_far taken (chunks_size c.loop-pair.pair-iterator) size cut many some
    (λ x y read. c.in_default.ensures.unread refl x y read) ring says

pub loop-pair-preserved : goal.loop-pair-preserved
loop-pair-preserved g c =
    let (size, (so_far, points, taken), ends) = c.loop-pair.invariant in
    let (same, (cut, many, some)) = c.in-Some.ensures.steps in
    let x = c.in-Some-two_numbers.x in
    let y = c.in-Some-two_numbers.y in
    let point : Point = record { x = x; y = y } in
    let pushed : c.push.new.self.items ≡ c.loop-pair.self.points.items ++ point ∷ [] = search rules in (
      same ∙ size,
      (
        so_far ++ point ∷ [],
        pushed ∙ ap (λ (before : List Point). before ++ point ∷ []) points ∙ append_assoc c.args.self.now.points.items so_far (point ∷ []),
        Taken-next c.args.words.now (chunks_rest c.loop-pair.pair-iterator) c.in-Some.pair.now (chunks_rest c.next.new.self) so_far taken (chunks_size c.loop-pair.pair-iterator) size cut many some
            x y c.in-Some-two_numbers.ensures.read,
      ),
      ends,
    )

pub returns-clause-taken : goal.returns-clause-taken
returns-clause-taken g c = λ yes.
    let (_, (ring, points, taken), ends) = c.loop-pair.invariant in
    let (_, (none, _)) = c.in-None.ensures.steps in
    let pushed : c.push-2.new.self.items ≡ c.loop-pair.self.ends.items ++ length c.loop-pair.self.points.items ∷ [] = search rules in
    let stops = pushed ∙ ap (λ (before : List ℕ). before ++ length c.loop-pair.self.points.items ∷ []) ends in (
      ring,
      Taken-all c.args.words.now (chunks_rest c.loop-pair.pair-iterator) ring none taken,
      λ rings held. Holds-more c.args.self.now (record { points = c.loop-pair.self.points; ends = c.push-2.new.self }) rings ring points stops held,
    )
