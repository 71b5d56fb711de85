use Rattle.std.proofs.Common.{◌≡◌, ◌∷◌, ℕ, suc, ◌+◌, List, pos, get_or, length, drop, sym, ap, subst₂, ◌∙◌, arith}
use Rattle.std.proofs.Math.Seq.{drop-cons}
use Rattle.std.proofs.lemmas.List.Elements.{All-get_or}
use Rattle.overlay.specs.declared.boundary.lines.Change.{Change}
use Rattle.overlay.specs.declared.boundary.lines.Sums.{Sums}
use Rattle.overlay.specs.declared.fill.pieces.Piece.{Piece}
use Rattle.overlay.specs.Lines.{IsSmallChange}
use Rattle.overlay.proofs.LineLemmas.Upto.{AreUpto, small-fit, upto-more}
use Rattle.overlay.proofs.boundary.lines.stretches_of.Goals as goal

-- stands where a list has no change
abbrev no_change : Change
no_change = record { place = record { line = record { x0 = pos 0; y0 = pos 0; x1 = pos 0; y1 = pos 0 }; along = pos 0 }; count = pos 0; subject = pos 0; clip = pos 0 }

pub plus-sums-requires : goal.plus-sums-requires
plus-sums-requires g c =
    let changes = c.args.changes.now in
    let k = c.loop-change.change-index in
    let inside = c.loop-change-test.true in
    small-fit k (length changes) c.loop-change.sums (get_or changes k no_change) c.loop-change.invariant.small (All-get_or IsSmallChange changes k no_change inside c.requires.small) inside c.requires.few

pub loop-change-preserved : goal.loop-change-preserved
loop-change-preserved g c =
    let changes = c.args.changes.now in
    let k = c.loop-change.change-index in
    let change = get_or changes k no_change in
    let next : suc k ≡ k + 1 = omega arith in
    let cut : drop k changes ≡ change ∷ drop (k + 1) changes = drop-cons changes k no_change c.loop-change-test.true ∙ ap (λ (n : ℕ). change ∷ drop n changes) next in
    subst₂ (λ (sums : Sums) (stretches : List Piece). AreUpto changes (k + 1) change.place sums stretches) (sym c.plus-sums.ensures) (sym c.in_ok-push_stretch.ensures)
    (upto-more changes k c.loop-change.from c.loop-change.sums c.loop-change.stretches.items change cut (All-get_or IsSmallChange changes k no_change c.loop-change-test.true c.requires.small) c.loop-change.invariant)
