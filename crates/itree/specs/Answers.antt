-- What the program answers to the commands of each kind.
use Rattle.std.specs.Prelude.{◌≡◌, ⊤, ℕ, ℤ, List, Option, Some, All, length, slice_get}
use Rattle.std.specs.List.{AllZip, flat_map}
use Rattle.std.specs.List.Sorted.{IsSorted}
use Rattle.std.specs.Ordering.{int_cmp}
use Rattle.std.specs.declared.cmp.Ordering.{Ordering}
use Rattle.i_tree.specs.Seg.Buckets.{Buckets, IsLayout}
use Rattle.itree.specs.MeetingsLines.{AreMetLines}
use Rattle.itree.specs.CrossingsLines.{AreToldLines}
use Rattle.itree.specs.KeyLines.{KeyLine}
use Rattle.runs.specs.KeyMachine as keys
use Rattle.itree.specs.LocateLines.{IsLineBelow, edges_of, points_of as points_among}
use Rattle.itree.specs.Replies.{key_reply_words, seg_reply_words, set_reply_words, height_words, met_words, crossing_lines, edge_words, chain_words, polygon_lines, reply_lines}
use Rattle.itree.specs.RingLines.{RingLine, subject_of, others_of, shape_of}
use Rattle.itree.specs.SegLines.{SegLine}
use Rattle.runs.specs.SegMachine as segments
use Rattle.runs.specs.SegMachine.{Reply as seg_reply}
use Rattle.itree.specs.SetLines.{SetLine}
use Rattle.runs.specs.SetMachine as sets
use Rattle.horizontal.specs.Heights.{IsHeightBelow, NoneCollide}
use Rattle.itree.specs.SweepLines.{segments_of, points_of}
use Rattle.itree.specs.declared.lines.crossings.CrossingsLine.{CrossingsLine}
use Rattle.itree.specs.declared.lines.locate.LocateLine.{LocateLine}
use Rattle.itree.specs.declared.lines.sweep.SweepLine.{SweepLine}
use Rattle.plane.specs.SweepLine.Crossings.{NoneCross}
use Rattle.plane.specs.declared.edge.Edge.{Edge}
use Rattle.plane.specs.declared.point.Point.{Point}
use Rattle.overlay.specs.Contours.Rings.{ring_edges}
use Rattle.noding.specs.Chains.{AreChains}
use Rattle.noding.specs.Local.{AreNodeChains}
use Rattle.overlay.specs.declared.fill.rules.FillRule.{FillRule}
use Rattle.overlay.specs.declared.fill.rules.Operation.{Operation}
use Rattle.overlay.specs.Overlay.{IsOverlay}
use Rattle.tiles.specs.Tile.{IsTile}
use Rattle.tiles.specs.declared.window.Window.{Window}
use Rattle.offset.specs.Lines.{AreGrownLines, raw_of_paths}
use Rattle.offset.specs.Minkowski.{IsErosionFault, IsGrown, IsShrunk, IsSumFault}
use Rattle.offset.specs.Raw.{IsIn32Bits}
use Rattle.offset.specs.Shape.{IsConvexAroundOrigin}
use Rattle.offset.specs.declared.fault.MinkowskiFault.{MinkowskiFault}
use Rattle.offset.specs.declared.fault.MinkowskiFault.TheVariants as minkowski_fault
use Rattle.runs.specs.declared.keys.KeyReply.{KeyReply}
use Rattle.runs.specs.declared.sets.SetReply.{SetReply}
use Rattle.itree.specs.declared.fault.Fault.{Fault}
use Rattle.itree.specs.declared.fault.Fault.TheVariants as faults
use Rattle.itree.specs.declared.fault.Unfit.{Unfit}
use Rattle.itree.specs.declared.fault.Unfit.TheVariants.{Shape, Range}
use Rattle.itree.specs.declared.set_key.SetKey.{SetKey}
use Rattle.itree.specs.declared.timed_key.TimedKey.{TimedKey}
use Rattle.itree.specs.declared.timed_val.TimedVal.{TimedVal}

-- keys are compared by `key` alone
abbrev pub cmp_keys : TimedKey → TimedKey → Ordering
cmp_keys left right = int_cmp left.key right.key

-- how a key stands to the one that is sought
abbrev pub cmp_sought : ℤ → TimedKey → Ordering
cmp_sought sought timed = int_cmp timed.key sought

-- the output is the lines of replies that are a run of the key machine over the commands, from these pairs and no last time on
pub record AnswersKeys (stored : List (TimedKey × ℤ)) (commands : List KeyLine) (output : List ℕ) : Type 0 where
  pub replies : List (KeyReply ℤ)
  pub end : keys.State TimedKey ℤ ℤ
  pub run : keys.Run (λ timed. timed.expiration) int_cmp cmp_keys cmp_sought (keys.beginning stored) commands replies end
  pub written : output ≡ reply_lines key_reply_words replies

-- the output is the lines of replies that are a run of the set machine over the commands, from these values on
pub record AnswersSet (values : List SetKey) (commands : List SetLine) (output : List ℕ) : Type 0 where
  pub replies : List (SetReply ℤ SetKey)
  pub end : List SetKey
  pub run : sets.Run (λ value. value.key) int_cmp values commands replies end
  pub written : output ≡ reply_lines set_reply_words replies

-- values are compared by `val` alone
abbrev pub cmp_vals : TimedVal → TimedVal → Ordering
cmp_vals left right = int_cmp left.val right.val

-- where the reply lists values, they are in rising order
abbrev pub ListsRising : segments.Reply TimedVal → Type 0
ListsRising (seg_reply.Values values) = IsSorted cmp_vals values
ListsRising seg_reply.Inserted = ⊤
ListsRising seg_reply.Outside = ⊤
ListsRising seg_reply.Late = ⊤
ListsRising seg_reply.Refused = ⊤
ListsRising seg_reply.Cleared = ⊤

-- the output is the lines of replies that are a run of the segment machine over the commands, over these buckets from
-- nothing on, and that list values in rising order
pub record AnswersSegments (buckets : Buckets) (commands : List SegLine) (output : List ℕ) : Type 0 where
  pub replies : List (segments.Reply TimedVal)
  pub end : segments.State ℤ TimedVal
  pub run : segments.Run (λ timed. timed.expiration) int_cmp (λ number. number) buckets segments.nothing commands replies end
  pub rising : All ListsRising replies
  pub written : output ≡ reply_lines seg_reply_words replies

-- no two of the segments that are said collide, and the output is the lines of the answers to the points that are said, over
-- these segments
pub record AnswersSweep (said : List SweepLine) (output : List ℕ) : Type 0 where
  pub answers : List (Option ℤ)
  pub apart : NoneCollide (segments_of said)
  pub below : AllZip (IsHeightBelow (segments_of said)) (points_of said) answers
  pub written : output ≡ reply_lines height_words answers

-- the same over the buckets of the range between these ends
abbrev pub AnswersRange : ℤ → ℤ → List SegLine → List ℕ → Type 0
AnswersRange min max commands output = (buckets : Buckets) × IsLayout min max buckets × AnswersSegments buckets commands output

-- each edge has one reply, which lists the lines of the earlier edges that it meets, and the output is the lines of these
-- replies
pub record AnswersMeetings (lines : List (List ℕ)) (edges : List Edge) (output : List ℕ) : Type 0 where
  pub replies : List (List ℕ)
  pub one_each : length replies ≡ length edges
  pub met : (place : ℕ) (numbers : List ℕ) → slice_get replies place ≡ Some numbers → AreMetLines lines edges place numbers
  pub written : output ≡ reply_lines met_words replies

-- no two of the edges that are said cross, and the output is the lines of the answers to the points that are said, each of
-- which tells the line of the edge below its point
pub record AnswersLocate (lines : List (List ℕ)) (said : List LocateLine) (output : List ℕ) : Type 0 where
  pub replies : List (Option ℕ)
  pub apart : NoneCross (edges_of said)
  pub below : AllZip (IsLineBelow lines said) (points_among said) replies
  pub written : output ≡ reply_lines edge_words replies

-- each edge and each range has one reply, which lists the lines of the earlier edges that cross the edge, or of the edges that
-- reach the range; and the output is the lines of these replies
pub record AnswersCrossings (lines : List (List ℕ)) (said : List CrossingsLine) (output : List ℕ) : Type 0 where
  pub replies : List (List ℕ)
  pub one_each : length replies ≡ length said
  pub told : (place : ℕ) (numbers : List ℕ) → slice_get replies place ≡ Some numbers → AreToldLines lines said place numbers
  pub written : output ≡ crossing_lines said replies

-- the chains are those of the edges, each at its edge's place, and the output is their lines
pub record AnswersSnap (edges : List Edge) (output : List ℕ) : Type 0 where
  pub chains : List (List Point)
  pub are : AreChains edges chains
  pub written : output ≡ reply_lines chain_words chains

-- the chains are those of the edges over their nodes, each at its edge's place, and the output is their lines
pub record AnswersNode (edges : List Edge) (output : List ℕ) : Type 0 where
  pub chains : List (List Point)
  pub are : AreNodeChains edges chains
  pub written : output ≡ reply_lines chain_words chains

-- the polygons are what the operation makes of the inside of the subject and that of the clip, whose rings are said, and the output
-- is their lines
pub record AnswersOverlay (operation : Operation) (rule : FillRule) (said : List RingLine) (output : List ℕ) : Type 0 where
  pub polygons : List (List (List Point))
  pub are : IsOverlay rule operation (flat_map ring_edges (subject_of said)) (flat_map ring_edges (others_of said)) polygons
  pub written : output ≡ flat_map polygon_lines polygons

-- the polygons are what of them lies in the window, and the output is their lines
pub record AnswersTile (window : Window) (operation : Operation) (rule : FillRule) (said : List RingLine) (output : List ℕ) : Type 0 where
  pub polygons : List (List (List Point))
  pub are : IsTile window rule operation (flat_map ring_edges (subject_of said)) (flat_map ring_edges (others_of said)) polygons
  pub written : output ≡ flat_map polygon_lines polygons

-- the polygons are what the inside of the rings that are said becomes where it grows by the shape that is said, and the output is
-- their lines
pub record AnswersGrown (rule : FillRule) (said : List RingLine) (output : List ℕ) : Type 0 where
  pub polygons : List (List (List Point))
  pub shape : IsConvexAroundOrigin (shape_of said)
  pub are : IsGrown rule (flat_map ring_edges (subject_of said)) (shape_of said) polygons
  pub written : output ≡ flat_map polygon_lines polygons

-- the polygons are what is left of it where the shape is taken along outside
pub record AnswersShrunk (rule : FillRule) (said : List RingLine) (output : List ℕ) : Type 0 where
  pub polygons : List (List (List Point))
  pub shape : IsConvexAroundOrigin (shape_of said)
  pub are : IsShrunk rule (flat_map ring_edges (subject_of said)) (shape_of said) polygons
  pub written : output ≡ flat_map polygon_lines polygons

-- the polygons are what the paths that are said become where they grow by the shape
pub record AnswersPaths (said : List RingLine) (output : List ℕ) : Type 0 where
  pub polygons : List (List (List Point))
  pub shape : IsConvexAroundOrigin (shape_of said)
  pub are : AreGrownLines (subject_of said) (shape_of said) polygons
  pub written : output ≡ flat_map polygon_lines polygons

-- why there is no such answer: the shape that is said is none, or a corner of the curve around what is made has no 32 bits
abbrev pub IsUnfitGrown : FillRule → List RingLine → Unfit → Type 0
IsUnfitGrown rule said Shape = ¬ (IsConvexAroundOrigin (shape_of said))
IsUnfitGrown rule said Range = IsSumFault rule (flat_map ring_edges (subject_of said)) (shape_of said) minkowski_fault.Range

-- and why none of what shrinks
abbrev pub IsUnfitShrunk : FillRule → List RingLine → Unfit → Type 0
IsUnfitShrunk rule said Shape = ¬ (IsConvexAroundOrigin (shape_of said))
IsUnfitShrunk rule said Range = IsErosionFault rule (flat_map ring_edges (subject_of said)) (shape_of said) minkowski_fault.Range

-- and why none of paths
abbrev pub IsUnfitPaths : List RingLine → Unfit → Type 0
IsUnfitPaths said Shape = ¬ (IsConvexAroundOrigin (shape_of said))
IsUnfitPaths said Range = ¬ (All IsIn32Bits (raw_of_paths (shape_of said) (subject_of said)))

-- for private contracts: how a call's fault is told, of which the ends are right
abbrev pub fault_of : MinkowskiFault → Fault
fault_of minkowski_fault.Lengths = faults.Memory
fault_of minkowski_fault.Shape = faults.Unfit Shape
fault_of minkowski_fault.Range = faults.Unfit Range
fault_of minkowski_fault.OutOfMemory = faults.Memory
