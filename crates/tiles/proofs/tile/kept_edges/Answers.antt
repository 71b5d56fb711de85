use Rattle.std.proofs.Common.{◌∷◌, ◌++◌, ◌∙◌, [], List, ap, drop, subst, subst₂, sym, take}
use Rattle.plane.specs.declared.edge.Edge.{Edge}
use Rattle.noding.specs.Windings.{IsClosed}
use Rattle.overlay.specs.Boundary.{BoundsResult}
use Rattle.overlay.specs.Rings.{real_edges}
use Rattle.overlay.proofs.Callers.{edges-closed, filled-bounds}
use Rattle.tiles.proofs.InPlace.{HasEnds-joined, IsBordered-made}
use Rattle.tiles.specs.Tile.{border}
use Rattle.tiles.proofs.tile.kept_edges.Goals as goal

pub real_edges_of-requires-clause-ends : goal.real_edges_of-requires-clause-ends
real_edges_of-requires-clause-ends g c =
    let (rings, joined, _) = c.in_ok-subject.ensures.ok in
    let more = c.in_ok-append_border.ensures rings joined in
    let all = c.in_ok-append_turned_border.ensures (rings ++ border c.args.window ∷ []) more in
    (HasEnds-joined _ _ _ c.rings.result c.rings.ensures.points c.rings.ensures.ends all).0

pub real_edges_of-requires-clause-clip_ends : goal.real_edges_of-requires-clause-clip_ends
real_edges_of-requires-clause-clip_ends g c =
    let (rings, joined, _) = c.in_ok-clip.ensures.ok in
    (HasEnds-joined _ _ _ c.rings-2.result c.rings-2.ensures.points c.rings-2.ensures.ends joined).0

pub bounding_edges-requires-clause-closed : goal.bounding_edges-requires-clause-closed
bounding_edges-requires-clause-closed g c =
    subst IsClosed (sym (ap (λ (edges : List Edge). take c.in_ok-edges.count edges) c.deref.ensures.value ∙ c.in_ok-edges.ensures.subject)) (edges-closed c.rings.result)

pub bounding_edges-requires-clause-clip_closed : goal.bounding_edges-requires-clause-clip_closed
bounding_edges-requires-clause-clip_closed g c =
    subst IsClosed (sym (ap (λ (edges : List Edge). drop c.in_ok-edges.count edges) c.deref.ensures.value ∙ c.in_ok-edges.ensures.clip)) (edges-closed c.rings-2.result)

pub returns-clause-bordered : goal.returns-clause-bordered
returns-clause-bordered g c =
    let (rings, joined, in_place) = c.in_ok-subject.ensures.ok in
    let (clip_rings, clip_joined, clip_in_place) = c.in_ok-clip.ensures.ok in
    let more = c.in_ok-append_border.ensures rings joined in
    let all = c.in_ok-append_turned_border.ensures (rings ++ border c.args.window ∷ []) more in
    let (_, subject_is) = HasEnds-joined _ _ _ c.rings.result c.rings.ensures.points c.rings.ensures.ends all in
    let (_, clip_is) = HasEnds-joined _ _ _ c.rings-2.result c.rings-2.ensures.points c.rings-2.ensures.ends clip_joined in
    let (broken, broken_clip, are, filled) = c.in_ok-kept.ensures.filled in
    let rule = c.args.choice.rule in
    let operation = c.args.choice.operation in
    let kept = c.in_ok-kept.kept.items in
    let first = ap (λ (edges : List Edge). take c.in_ok-edges.count edges) c.deref.ensures.value ∙ c.in_ok-edges.ensures.subject ∙ ap real_edges subject_is in
    let second = ap (λ (edges : List Edge). drop c.in_ok-edges.count edges) c.deref.ensures.value ∙ c.in_ok-edges.ensures.clip ∙ ap real_edges clip_is in
    IsBordered-made c.args.window rule operation _ _ rings clip_rings kept in_place clip_in_place filled.closed
    (subst₂ (λ (subject clip : List Edge). BoundsResult rule operation subject clip kept) first second (filled-bounds _ _ broken broken_clip are rule operation kept filled))
