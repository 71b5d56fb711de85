use Rattle.std.proofs.Common.{ℤ, List, ap, subst, sym, IfOk, string_bytes, rules}
use Rattle.std.proofs.lemmas.Result.{IfOk-weaker}
use Rattle.i_tree.specs.Expiring.Tree.{items}
use Rattle.i_tree.specs.Rb.Shape.{Shape, entries}
use Rattle.i_tree.specs.Seg.Buckets.{IsLayout}
use Rattle.i_tree.specs.Set.Pairs.{values}
use Rattle.i_tree.specs.Set.SetList.{numbered}
use Rattle.itree.specs.Answers.{AnswersKeys, AnswersSet, AnswersSegments, AnswersSweep, AnswersMeetings, AnswersLocate, AnswersCrossings, AnswersSnap, AnswersNode, AnswersOverlay, AnswersTile, AnswersGrown, AnswersShrunk, AnswersPaths}
use Rattle.itree.specs.Grammar.{lines_of}
use Rattle.itree.specs.KeyLines.{KeyLine}
use Rattle.itree.specs.SegLines.{SegLine}
use Rattle.itree.specs.Texts.{HasOverlapLine, HasCrossingLines, HasUnfit}
use Rattle.itree.specs.declared.lines.crossings.CrossingsLine.{CrossingsLine}
use Rattle.itree.specs.declared.lines.locate.LocateLine.{LocateLine}
use Rattle.itree.specs.declared.lines.sweep.SweepLine.{SweepLine}
use Rattle.itree.specs.declared.mode.Mode.{Mode}
use Rattle.itree.specs.declared.mode.Mode.TheVariants.{KeyTree, KeyList, SetTree, SetList, Segments, Sweep, Meetings, Locate, Crossings, Snap, Node, Overlay, Tile, Grow, Shrink, Paths}
use Rattle.plane.specs.declared.edge.Edge.{Edge}
use Rattle.itree.specs.declared.set_key.SetKey.{SetKey}
use Rattle.itree.specs.declared.timed_key.TimedKey.{TimedKey}
use Rattle.itree.proofs.Answered.{answered}
use Rattle.itree.proofs.answers.answer_text.Goals as goal

pub returns-in_ok-tree-in-KeyTree-clause-answered : goal.returns-in_ok-tree-in-KeyTree-clause-answered
returns-in_ok-tree-in-KeyTree-clause-answered g c =
    let parsed = c.in_ok-commands-in-KeyTree in
    let tree = c.in_ok-tree-in-KeyTree in
    answered c.answer_keys.result (λ output. string_bytes output) KeyTree c.args.mode c.in-KeyTree.is c.args.text.now parsed.commands.items parsed.ensures.said
    (subst (λ (stored : List (TimedKey × ℤ)). IfOk c.answer_keys.result (λ output. AnswersKeys stored parsed.commands.items (string_bytes output))) (ap (λ (shape : Shape (TimedKey × ℤ)). items shape) tree.ensures.makes.empty)
    (subst (λ (commands : List KeyLine). IfOk c.answer_keys.result (λ output. AnswersKeys (items tree.tree.shape) commands (string_bytes output))) c.deref.ensures.value c.answer_keys.ensures.answered))

pub returns-in_ok-list-in-KeyList-clause-answered : goal.returns-in_ok-list-in-KeyList-clause-answered
returns-in_ok-list-in-KeyList-clause-answered g c =
    let parsed = c.in_ok-commands-in-KeyList in
    let list = c.in_ok-list-in-KeyList in
    answered c.answer_keys-in-KeyList.result (λ output. string_bytes output) KeyList c.args.mode c.in-KeyList.is c.args.text.now parsed.commands.items parsed.ensures.said
    (subst (λ (stored : List (TimedKey × ℤ)). IfOk c.answer_keys-in-KeyList.result (λ output. AnswersKeys stored parsed.commands.items (string_bytes output))) list.ensures.empty
    (subst (λ (commands : List KeyLine). IfOk c.answer_keys-in-KeyList.result (λ output. AnswersKeys list.list.pairs commands (string_bytes output))) c.deref-in-KeyList.ensures.value c.answer_keys-in-KeyList.ensures.answered))

pub returns-in_ok-tree-in-SetTree-clause-answered : goal.returns-in_ok-tree-in-SetTree-clause-answered
returns-in_ok-tree-in-SetTree-clause-answered g c =
    let parsed = c.in_ok-commands-in-SetTree in
    answered c.answer_set.result (λ output. string_bytes output) SetTree c.args.mode c.in-SetTree.is c.args.text.now parsed.commands.items parsed.ensures.said
    (subst (λ (shape : Shape SetKey). IfOk c.answer_set.result (λ output. AnswersSet (values (entries shape)) parsed.commands.items (string_bytes output))) c.in_ok-tree-in-SetTree.ensures.makes.empty c.answer_set.ensures.answered)

pub returns-in_ok-list-in-SetList-clause-answered : goal.returns-in_ok-list-in-SetList-clause-answered
returns-in_ok-list-in-SetList-clause-answered g c =
    let parsed = c.in_ok-commands-in-SetList in
    answered c.answer_set-in-SetList.result (λ output. string_bytes output) SetList c.args.mode c.in-SetList.is c.args.text.now parsed.commands.items parsed.ensures.said
    (subst (λ (stored : List SetKey). IfOk c.answer_set-in-SetList.result (λ output. AnswersSet (values (numbered stored)) parsed.commands.items (string_bytes output))) c.in_ok-list-in-SetList.ensures.empty c.answer_set-in-SetList.ensures.answered)

pub returns-in-Some-clause-answered : goal.returns-in-Some-clause-answered
returns-in-Some-clause-answered g c =
    let parsed = c.in_ok-commands-in-Segments in
    let buckets = c.in-Some.tree.buckets in
    let layout : IsLayout c.in-Segments.min c.in-Segments.max buckets = search rules in
    answered c.answer_segments.result (λ output. string_bytes output) (Segments c.in-Segments.min c.in-Segments.max) c.args.mode c.in-Segments.is c.args.text.now parsed.commands.items parsed.ensures.said
    (IfOk-weaker c.answer_segments.result (λ output. AnswersSegments buckets parsed.commands.items (string_bytes output)) _ (λ output answers. (buckets, layout, answers))
    (subst (λ (commands : List SegLine). IfOk c.answer_segments.result (λ output. AnswersSegments buckets commands (string_bytes output))) c.deref-in-Some.ensures.value c.answer_segments.ensures.answered))

pub returns-in_ok-tree-in-Sweep-clause-answered : goal.returns-in_ok-tree-in-Sweep-clause-answered
returns-in_ok-tree-in-Sweep-clause-answered g c =
    let parsed = c.in_ok-said-in-Sweep in
    answered c.answer_sweep.result (λ output. string_bytes output) Sweep c.args.mode c.in-Sweep.is c.args.text.now parsed.said.items parsed.ensures.said
    (subst (λ (said : List SweepLine). IfOk c.answer_sweep.result (λ output. AnswersSweep said (string_bytes output))) c.deref-in-Sweep.ensures.value c.answer_sweep.ensures.answered)

pub returns-in_ok-tree-in-Sweep-clause-overlap : goal.returns-in_ok-tree-in-Sweep-clause-overlap
returns-in_ok-tree-in-Sweep-clause-overlap g c = λ number is.
    subst (λ (mode : Mode). HasOverlapLine mode c.args.text.now number) (sym c.in-Sweep.is) (c.answer_sweep.ensures.overlap number is)

pub returns-in_ok-edges-in-Meetings-clause-answered : goal.returns-in_ok-edges-in-Meetings-clause-answered
returns-in_ok-edges-in-Meetings-clause-answered g c =
    let parsed = c.in_ok-edges-in-Meetings in
    answered c.answer_meetings.result (λ output. string_bytes output) Meetings c.args.mode c.in-Meetings.is c.args.text.now parsed.edges.items parsed.ensures.said
    (subst (λ (edges : List Edge). IfOk c.answer_meetings.result (λ output. AnswersMeetings (lines_of c.args.text.now) edges (string_bytes output))) c.deref-in-Meetings.ensures.value c.answer_meetings.ensures.answered)

pub returns-in_ok-status-in-Locate-clause-answered : goal.returns-in_ok-status-in-Locate-clause-answered
returns-in_ok-status-in-Locate-clause-answered g c =
    let parsed = c.in_ok-said-in-Locate in
    answered c.answer_locate.result (λ output. string_bytes output) Locate c.args.mode c.in-Locate.is c.args.text.now parsed.said.items parsed.ensures.said
    (subst (λ (said : List LocateLine). IfOk c.answer_locate.result (λ output. AnswersLocate (lines_of c.args.text.now) said (string_bytes output))) c.deref-in-Locate.ensures.value c.answer_locate.ensures.answered)

pub returns-in_ok-status-in-Locate-clause-crossing : goal.returns-in_ok-status-in-Locate-clause-crossing
returns-in_ok-status-in-Locate-clause-crossing g c = λ first second is.
    subst (λ (mode : Mode). HasCrossingLines mode c.args.text.now first second) (sym c.in-Locate.is) (c.answer_locate.ensures.crossing first second is)

pub returns-in_ok-said-in-Crossings-clause-answered : goal.returns-in_ok-said-in-Crossings-clause-answered
returns-in_ok-said-in-Crossings-clause-answered g c =
    let parsed = c.in_ok-said-in-Crossings in
    answered c.answer_crossings.result (λ output. string_bytes output) Crossings c.args.mode c.in-Crossings.is c.args.text.now parsed.said.items parsed.ensures.said
    (subst (λ (said : List CrossingsLine). IfOk c.answer_crossings.result (λ output. AnswersCrossings (lines_of c.args.text.now) said (string_bytes output))) c.deref-in-Crossings.ensures.value c.answer_crossings.ensures.answered)

pub returns-in_ok-edges-in-Snap-clause-answered : goal.returns-in_ok-edges-in-Snap-clause-answered
returns-in_ok-edges-in-Snap-clause-answered g c =
    let parsed = c.in_ok-edges-in-Snap in
    answered c.answer_snap.result (λ output. string_bytes output) Snap c.args.mode c.in-Snap.is c.args.text.now parsed.edges.items parsed.ensures.said
    (subst (λ (edges : List Edge). IfOk c.answer_snap.result (λ output. AnswersSnap edges (string_bytes output))) c.deref-in-Snap.ensures.value c.answer_snap.ensures.answered)

pub returns-in_ok-edges-in-Node-clause-answered : goal.returns-in_ok-edges-in-Node-clause-answered
returns-in_ok-edges-in-Node-clause-answered g c =
    let parsed = c.in_ok-edges-in-Node in
    answered c.answer_node.result (λ output. string_bytes output) Node c.args.mode c.in-Node.is c.args.text.now parsed.edges.items parsed.ensures.said
    (subst (λ (edges : List Edge). IfOk c.answer_node.result (λ output. AnswersNode edges (string_bytes output))) c.deref-in-Node.ensures.value c.answer_node.ensures.answered)

pub returns-in_ok-said-in-Overlay-clause-answered : goal.returns-in_ok-said-in-Overlay-clause-answered
returns-in_ok-said-in-Overlay-clause-answered g c =
    let (said, says, held) = c.in_ok-said-in-Overlay.ensures.said in
    let operation = c.in-Overlay.operation in
    let rule = c.in-Overlay.rule in
    answered c.answer_rings.result (λ output. string_bytes output) (Overlay operation rule) c.args.mode c.in-Overlay.is c.args.text.now said says
    (IfOk-weaker c.answer_rings.result _ (λ output. AnswersOverlay operation rule said (string_bytes output)) (λ output answers. answers said held) c.answer_rings.ensures.answered)

pub returns-in_ok-said-in-Tile-clause-answered : goal.returns-in_ok-said-in-Tile-clause-answered
returns-in_ok-said-in-Tile-clause-answered g c =
    let (said, says, held) = c.in_ok-said-in-Tile.ensures.said in
    let window = c.in-Tile.window in
    let operation = c.in-Tile.operation in
    let rule = c.in-Tile.rule in
    answered c.answer_tile.result (λ output. string_bytes output) (Tile window operation rule) c.args.mode c.in-Tile.is c.args.text.now said says
    (IfOk-weaker c.answer_tile.result _ (λ output. AnswersTile window operation rule said (string_bytes output)) (λ output answers. answers said held) c.answer_tile.ensures.answered)

pub returns-in_ok-said-in-Grow-clause-answered : goal.returns-in_ok-said-in-Grow-clause-answered
returns-in_ok-said-in-Grow-clause-answered g c =
    let (said, says, held) = c.in_ok-said-in-Grow.ensures.said in
    answered c.answer_grown.result (λ output. string_bytes output) (Grow c.in-Grow.rule) c.args.mode c.in-Grow.is c.args.text.now said says
    (IfOk-weaker c.answer_grown.result _ (λ output. AnswersGrown c.in-Grow.rule said (string_bytes output)) (λ output answers. answers said held) c.answer_grown.ensures.answered)

pub returns-in_ok-said-in-Grow-clause-unfit : goal.returns-in_ok-said-in-Grow-clause-unfit
returns-in_ok-said-in-Grow-clause-unfit g c = λ why is.
    let (said, says, held) = c.in_ok-said-in-Grow.ensures.said in
    subst (λ (mode : Mode). HasUnfit mode c.args.text.now why) (sym c.in-Grow.is) (said, says, c.answer_grown.ensures.unfit why is said held)

pub returns-in_ok-said-in-Shrink-clause-answered : goal.returns-in_ok-said-in-Shrink-clause-answered
returns-in_ok-said-in-Shrink-clause-answered g c =
    let (said, says, held) = c.in_ok-said-in-Shrink.ensures.said in
    answered c.answer_shrunk.result (λ output. string_bytes output) (Shrink c.in-Shrink.rule) c.args.mode c.in-Shrink.is c.args.text.now said says
    (IfOk-weaker c.answer_shrunk.result _ (λ output. AnswersShrunk c.in-Shrink.rule said (string_bytes output)) (λ output answers. answers said held) c.answer_shrunk.ensures.answered)

pub returns-in_ok-said-in-Shrink-clause-unfit : goal.returns-in_ok-said-in-Shrink-clause-unfit
returns-in_ok-said-in-Shrink-clause-unfit g c = λ why is.
    let (said, says, held) = c.in_ok-said-in-Shrink.ensures.said in
    subst (λ (mode : Mode). HasUnfit mode c.args.text.now why) (sym c.in-Shrink.is) (said, says, c.answer_shrunk.ensures.unfit why is said held)

pub returns-in_ok-said-in-Paths-clause-answered : goal.returns-in_ok-said-in-Paths-clause-answered
returns-in_ok-said-in-Paths-clause-answered g c =
    let (said, says, held) = c.in_ok-said-in-Paths.ensures.said in
    answered c.answer_paths.result (λ output. string_bytes output) Paths c.args.mode c.in-Paths.is c.args.text.now said says
    (IfOk-weaker c.answer_paths.result _ (λ output. AnswersPaths said (string_bytes output)) (λ output answers. answers said held) c.answer_paths.ensures.answered)

pub returns-in_ok-said-in-Paths-clause-unfit : goal.returns-in_ok-said-in-Paths-clause-unfit
returns-in_ok-said-in-Paths-clause-unfit g c = λ why is.
    let (said, says, held) = c.in_ok-said-in-Paths.ensures.said in
    subst (λ (mode : Mode). HasUnfit mode c.args.text.now why) (sym c.in-Paths.is) (said, says, c.answer_paths.ensures.unfit why is said held)
