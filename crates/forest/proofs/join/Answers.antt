use Rattle.std.proofs.Common.{ap, inl, inr, sym, ◌∙◌}
use Rattle.forest.proofs.Joining.{HasJoined-more, joined-already}
use Rattle.forest.proofs.join.Goals as goal

pub returns-then-one-other : goal.returns-then-one-other
returns-then-one-other c =
    let first = c.root_of-one.ensures.same in
    let second = c.root_of-other.ensures.same in
    joined-already c.args.edges.now c.args.place c.args.parents.now c.requires.joined c.requires.place c.root_of-one.result first
    (λ label along. ap label c.if-one-other.true ∙ second label along)

pub returns-then-ranks-one : goal.returns-then-ranks-one
returns-then-ranks-one c = (
  c.link.ensures.trees,
  rw c.link.ensures.parents (HasJoined-more c.args.edges.now c.args.place c.args.parents.now c.requires.joined c.root_of-one.result c.root_of-other.result c.root_of-one.ensures.inside c.root_of-other.ensures.inside
      c.if-one-other.false c.root_of-one.ensures.root c.root_of-other.ensures.root
      (inl (λ label along. (c.root_of-one.ensures.same label along, c.root_of-other.ensures.same label along)))),
)

pub returns-else-ranks-one : goal.returns-else-ranks-one
returns-else-ranks-one c = (
  c.link-else-ranks-one.ensures.trees,
  rw c.link-else-ranks-one.ensures.parents (HasJoined-more c.args.edges.now c.args.place c.args.parents.now c.requires.joined c.root_of-other.result c.root_of-one.result c.root_of-other.ensures.inside c.root_of-one.ensures.inside
      (λ same. c.if-one-other.false (sym same)) c.root_of-other.ensures.root c.root_of-one.ensures.root
      (inr (λ label along. (c.root_of-other.ensures.same label along, c.root_of-one.ensures.same label along)))),
)
