use Rattle.std.proofs.Common.{◌≡◌, ◌++◌, ◌∷◌, [], ℕ, Bool, List, length, map, ap, sym, subst, subst₂, ◌∙◌, arith}
use Rattle.std.proofs.lemmas.Result.{IfOk-weaker}
use Rattle.plane.specs.declared.edge.Edge.{Edge}
use Rattle.plane.specs.Meet.Edges.{RationalPoint}
use Rattle.overlay.specs.declared.fill.rules.FillRule.{FillRule}
use Rattle.layers.specs.declared.around.half_point.HalfPoint.{HalfPoint}
use Rattle.layers.specs.declared.points.Border.TheVariants.{Closed}
use Rattle.layers.specs.Around.{ArePairsIn, halved}
use Rattle.layers.specs.LineParts.{AreMarked, AreTold}
use Rattle.layers.specs.Lines.{middle}
use Rattle.layers.proofs.LineLemmas.Marks.{firsts-within, rings-end, rings-shape, told}
use Rattle.layers.proofs.lines.keeping.kept_edges.Goals as goal

-- the pairs that stand there are those of the edges' middles and of the one shape
pairs-so : (rule : FillRule) (edges rings : List Edge) (halves middles : List HalfPoint) (shape : List Edge) (before after pairs now : List (ℕ × ℕ)) → ArePairsIn rule Closed (map halved halves) (shape ∷ []) pairs
    → halves ≡ middles → map halved middles ≡ map middle edges → shape ≡ rings → before ≡ [] → after ≡ before ++ pairs → now ≡ after → ArePairsIn rule Closed (map middle edges) (rings ∷ []) now
pairs-so rule edges rings halves middles shape before after pairs now exact same are is none gained read =
    subst (λ (list : List (ℕ × ℕ)). ArePairsIn rule Closed (map middle edges) (rings ∷ []) list) (sym (read ∙ gained ∙ ap (λ (list : List (ℕ × ℕ)). list ++ pairs) none))
    (subst₂ (λ (points : List RationalPoint) (one : List Edge). ArePairsIn rule Closed points (one ∷ []) pairs) (ap (λ (list : List HalfPoint). map halved list) same ∙ are) is exact)

pub append_pairs_in-requires : goal.append_pairs_in-requires
append_pairs_in-requires g c =
    let (rings, are, loops) = c.requires in
    (rings-end rings c.args.ring_edges.now c.args.ring_ends.now c.deref.result.now are (c.deref.ensures.value ∙ c.in_ok-points.ensures), (omega arith, omega arith, tt))

pub marks_of-requires : goal.marks_of-requires
marks_of-requires g c =
    let (rings, are, loops) = c.requires in
    let edges = c.args.edges.now in
    let ring_edges = c.args.ring_edges.now in
    let (pairs, gained, exact) = c.in_ok-append_pairs_in.ensures.ok in
    let shape = rings-shape rings ring_edges c.args.ring_ends.now c.deref.result.now are (c.deref.ensures.value ∙ c.in_ok-points.ensures) loops in
    firsts-within c.args.rule ring_edges edges c.deref-3.result.now
    (pairs-so c.args.rule edges ring_edges c.deref-2.result.now c.in_ok-middles.middles.items _ c.new-pairs.result.items c.append_pairs_in.new.out.items pairs c.deref-3.result.now exact
    c.deref-2.ensures.value c.in_ok-middles.ensures shape c.new-pairs.ensures.items gained c.deref-3.ensures.value)

pub returns : goal.returns
returns g c =
    let (rings, are, loops) = c.requires in
    let edges = c.args.edges.now in
    let ring_edges = c.args.ring_edges.now in
    let now = c.deref-3.result.now in
    let (pairs, gained, exact) = c.in_ok-append_pairs_in.ensures.ok in
    let shape = rings-shape rings ring_edges c.args.ring_ends.now c.deref.result.now are (c.deref.ensures.value ∙ c.in_ok-points.ensures) loops in
    IfOk-weaker c.marks_of.result (λ flags. AreMarked now c.mark_of.result (length edges) flags.items) (λ flags. AreTold c.args.rule c.args.keep ring_edges edges flags.items) (λ flags marked.
    told c.args.rule ring_edges edges now
    (pairs-so c.args.rule edges ring_edges c.deref-2.result.now c.in_ok-middles.middles.items _ c.new-pairs.result.items c.append_pairs_in.new.out.items pairs now exact
    c.deref-2.ensures.value c.in_ok-middles.ensures shape c.new-pairs.ensures.items gained c.deref-3.ensures.value)
    c.args.keep flags.items (subst (λ (mark : Bool). AreMarked now mark (length edges) flags.items) c.mark_of.ensures marked)) c.marks_of.ensures
