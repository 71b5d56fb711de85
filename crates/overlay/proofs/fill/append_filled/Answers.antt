use Rattle.std.proofs.Common.{◌≡◌, ◌++◌, ℕ, List, [], length, drop, ap, ap₂, sym, subst, ◌∙◌, ◌*◌, append-nil, append_assoc, arith}
use Rattle.std.specs.List.{All}
use Rattle.std.proofs.Math.Seq.{drop-append_seam}
use Rattle.plane.specs.declared.edge.Edge.{Edge}
use Rattle.overlay.specs.declared.fill.pieces.Piece.{Piece}
use Rattle.overlay.specs.declared.fill.rules.Choice.{Choice}
use Rattle.overlay.specs.Fill.Rules.{is_result}
use Rattle.overlay.specs.Fill.Begins.{BeginInOrder}
use Rattle.overlay.specs.Fill.Pieces.{ArePieces}
use Rattle.overlay.specs.Fill.Sweep.{AreFillPieces, WeighUpto, kept_of}
use Rattle.overlay.specs.Fill.Turned.{AreSloped, AreUnjoined, IsSmall}
use Rattle.overlay.specs.Fill.Verticals.{AreVerticalsOf, BoundRegion}
use Rattle.overlay.proofs.KeptLemmas.Region.{kept-alone, kept-filled, kept-region}
use Rattle.overlay.proofs.fill.append_filled.Goals.{then-not-are_sloped+in_ok-append_verticals, else-not-are_sloped}
use Rattle.overlay.proofs.fill.append_filled.Goals as goal

-- the pieces that were joined are those of a fill
fill-pieces : (subject clip : List Edge) (pieces joined : List Piece) → AreUnjoined subject clip pieces → ArePieces subject clip joined → ((most : ℕ) → All (IsSmall most) pieces → WeighUpto (most * length pieces) joined) → BeginInOrder joined → AreFillPieces joined
fill-pieces subject clip pieces joined unjoined are weigh order = record {
  subject = subject;
  clip = clip;
  closed = unjoined.closed;
  clip_closed = unjoined.clip_closed;
  noded = unjoined.noded;
  are = are;
  order = order;
  most = unjoined.stand.most * length pieces;
  weigh = weigh unjoined.stand.most unjoined.stand.small;
  countable = unjoined.stand.countable;
}

abbrev kept : Choice → List Piece → List Edge
kept choice pieces = kept_of (λ counts. is_result choice.rule choice.operation counts.subject counts.clip) pieces pieces

-- what is kept of them stands behind the edges that were there
module _ (choice : Choice) (items list : List Piece) (same : list ≡ items) (before out : List Edge) (told : out ≡ before ++ kept choice list) (first : ℕ) (size : first ≡ length before) where
  all : out ≡ before ++ kept choice items
  all = told ∙ ap (λ (pieces : List Piece). before ++ kept choice pieces) same

  gained : drop first out ≡ kept choice items
  gained = ap₂ (λ (n : ℕ) (edges : List Edge). drop n edges) size all ∙ drop-append_seam before (kept choice items)

pub append_kept-requires-clause-pieces : goal.append_kept-requires-clause-pieces
append_kept-requires-clause-pieces g c =
    let (subject, clip, unjoined, _) = c.requires.unjoined in
    let items = c.join_in_order.new.pieces.items in
    let ensured = c.in_ok-join_in_order.ensures in
    subst AreFillPieces (sym c.deref.ensures.value) (fill-pieces subject clip c.args.pieces.items items unjoined (ensured.pieces subject clip unjoined) ensured.weigh ensured.order)

pub append_verticals-requires-clause-bound : goal.append_verticals-requires-clause-bound
append_verticals-requires-clause-bound g c =
    let (subject, clip, unjoined, _) = c.requires.unjoined in
    let choice = c.args.choice in
    let items = c.join_in_order.new.pieces.items in
    let fill = fill-pieces subject clip c.args.pieces.items items unjoined (c.in_ok-join_in_order.ensures.pieces subject clip unjoined) c.in_ok-join_in_order.ensures.weigh c.in_ok-join_in_order.ensures.order in
    let size : c.len-first.result ≡ length c.args.out.now.items = (let told = c.len-first.ensures in omega (arith, told)) in
    subst BoundRegion (sym (gained choice items c.deref.result.now c.deref.ensures.value c.args.out.now.items c.append_kept.new.out.items c.in_ok-append_kept.ensures.ok c.len-first.result size))
    (kept-region choice.rule choice.operation items fill)

-- where subject and clip have no vertical edge, what is kept needs none to be closed
alone : (choice : Choice) (subject clip : List Edge) (pieces joined : List Piece) (unjoined : AreUnjoined subject clip pieces) (are : ArePieces subject clip joined) (weigh : (most : ℕ) → All (IsSmall most) pieces → WeighUpto (most * length pieces) joined) (order : BeginInOrder joined)
    → AreSloped subject × AreSloped clip → AreVerticalsOf (kept choice joined) []
unfolding fill-pieces
alone choice subject clip pieces joined unjoined are weigh order sloped = kept-alone choice.rule choice.operation joined (fill-pieces subject clip pieces joined unjoined are weigh order) sloped.0 sloped.1

pub returns-clause-ok : goal.returns-clause-ok
unfolding fill-pieces
returns-clause-ok g c = λ subject clip unjoined.
    let choice = c.args.choice in
    let items = c.join_in_order.new.pieces.items in
    let list = c.deref.result.now in
    let same = c.deref.ensures.value in
    let before = c.args.out.now.items in
    let out = c.append_kept.new.out.items in
    let told = c.in_ok-append_kept.ensures.ok in
    let joined = c.in_ok-join_in_order.ensures in
    let fill = fill-pieces subject clip c.args.pieces.items items unjoined (joined.pieces subject clip unjoined) joined.weigh joined.order in
    let size : c.len-first.result ≡ length before = (let told = c.len-first.ensures in omega (arith, told)) in
    let gained_is = gained choice items list same before out told c.len-first.result size in
    let (verticals, more, closes) : (verticals : List Edge) × (c.if-not-are_sloped.out.items ≡ out ++ verticals) × AreVerticalsOf (kept choice items) verticals = elim c.if-not-are_sloped.branch [
      | then-not-are_sloped+in_ok-append_verticals w ↦
          let (verticals, more, closes) = w.in_ok-append_verticals.ensures.ok in
          (verticals, rw w.out-is more, subst (λ (sloped : List Edge). AreVerticalsOf sloped verticals) gained_is closes)
      | else-not-are_sloped w ↦
          let (first, second, known, sloped) = c.requires.unjoined in
          ([], rw w.out-is (sym (append-nil out)), alone choice first second c.args.pieces.items items known (joined.pieces first second known) joined.weigh joined.order (sloped w.if-not-are_sloped.false))
    ] in (
      kept choice items ++ verticals,
      more ∙ ap (λ (edges : List Edge). edges ++ verticals) (all choice items list same before out told c.len-first.result size) ∙ append_assoc before (kept choice items) verticals,
      kept-filled choice.rule choice.operation items fill verticals closes,
    )
