use Rattle.std.proofs.Common.{◌≡◌, ◌≤◌, ◌++◌, List, length, take, drop, ap, subst₂, ◌∙◌, arith}
use Rattle.std.specs.List.{flat_map}
use Rattle.std.proofs.lemmas.List.{length-append}
use Rattle.std.proofs.Math.Seq.{drop-append_seam, take-append_seam}
use Rattle.plane.specs.declared.edge.Edge.{Edge}
use Rattle.plane.specs.declared.point.Point.{Point}
use Rattle.overlay.specs.Boundary.{AreBroken}
use Rattle.noding.specs.Offsets.{offsets}
use Rattle.noding.proofs.SnapLemmas.Local.{IsPath-nodes}
use Rattle.overlay.proofs.BoundaryLemmas.Broken.{chains-count, chains-some, cut-broken}
use Rattle.overlay.proofs.boundary.broken.broken.Goals as goal

-- all edges are the subject's and the clip's
module _ (subject clip edges : List Edge) (listed : edges ≡ subject ++ clip) where
  within : length subject ≤ length edges
  within =
      let sum = length-append subject clip in
      let same = ap (λ (list : List Edge). length list) listed in
      omega (arith, sum, same)

  first : take (length subject) edges ≡ subject
  first = ap (λ (list : List Edge). take (length subject) list) listed ∙ take-append_seam subject clip

  second : drop (length subject) edges ≡ clip
  second = ap (λ (list : List Edge). drop (length subject) list) listed ∙ drop-append_seam subject clip

pub count_pieces-count-requires : goal.count_pieces-count-requires
count_pieces-count-requires g c =
    let edges = c.deref.result.now in
    let listed = c.deref.ensures.value ∙ c.in_ok-edges.ensures in
    let (chains, are, points_are, ends_are) = c.in_ok-node.ensures.ok in
    let none = c.in_ok-points.ensures.items in
    let ends = c.deref-4.ensures.value ∙ ends_are ∙ ap (λ before. before ++ offsets (length c.in_ok-points.points.items) chains) c.in_ok-ends.ensures.items ∙ ap (λ (before : List Point). offsets (length before) chains) none in
    let paths = IsPath-nodes edges edges chains (λ edge among. among) are in
    (chains, ends, chains-some edges chains paths, chains-count edges chains (length c.args.subject.now) (within c.args.subject.now c.args.clip.now edges listed) paths)

pub returns-clause-ok : goal.returns-clause-ok
returns-clause-ok g c =
    let subject = c.args.subject.now in
    let clip = c.args.clip.now in
    let edges = c.deref.result.now in
    let listed = c.deref.ensures.value ∙ c.in_ok-edges.ensures in
    let (chains, are, points_are, ends_are) = c.in_ok-node.ensures.ok in
    let none = c.in_ok-points.ensures.items in
    let points = c.deref-2.ensures.value ∙ points_are ∙ ap (λ (before : List Point). before ++ flat_map (λ chain. chain) chains) none in
    let ends = c.deref-3.ensures.value ∙ ends_are ∙ ap (λ before. before ++ offsets (length c.in_ok-points.points.items) chains) c.in_ok-ends.ensures.items ∙ ap (λ (before : List Point). offsets (length before) chains) none in
    let ends_too = c.deref-4.ensures.value ∙ ends_are ∙ ap (λ before. before ++ offsets (length c.in_ok-points.points.items) chains) c.in_ok-ends.ensures.items ∙ ap (λ (before : List Point). offsets (length before) chains) none in
    let some = within subject clip edges listed in
    let paths = IsPath-nodes edges edges chains (λ edge among. among) are in
    let count = c.count_pieces-count.ensures chains ends_too (chains-some edges chains paths) (chains-count edges chains (length subject) some paths) in
    let pieces = c.in_ok-pieces.pieces.items in
    let told = c.count_pieces-count.result in
    subst₂ (λ (one other : List Edge). (told ≤ length pieces) × AreBroken one other (take told pieces) (drop told pieces)) (first subject clip edges listed) (second subject clip edges listed)
    (cut-broken edges pieces chains (length subject) told some are (c.in_ok-pieces.ensures chains (points, ends)) count)
