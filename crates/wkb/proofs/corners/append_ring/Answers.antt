use Rattle.std.proofs.Common.{◌≡◌, ◌++◌, List, length, subst, sym, ap, ◌∙◌, arith}
use Rattle.grid.specs.declared.position.Position.{Position}
use Rattle.grid.specs.Fit.{AreFinite, IsFirstInfinite}
use Rattle.wkb.specs.Coordinates.{positions_of}
use Rattle.wkb.proofs.CornersLemmas.{AreFinite-append, behind_is}
use Rattle.wkb.proofs.RingLemmas.{few_positions}
use Rattle.wkb.proofs.corners.append_ring.Goals as goal

pub returns-in_default-clause-finite : goal.returns-in_default-clause-finite
returns-in_default-clause-finite g c =
    let here : List Position = positions_of c.args.bytes.now c.args.ring.now in
    let old : List Position = c.args.positions.now.items in
    let all : c.deref.result.now ≡ old ++ here = c.deref.ensures.value ∙ c.in_ok-append_positions.ensures in
    let slice = behind_is old here c.deref.result.now (length c.as_slice-before.result.now) all (ap (λ (ps : List Position). length ps) c.as_slice-before.ensures.value) in
    let finite : AreFinite here = subst AreFinite slice c.in_default.ensures.finite in
    subst AreFinite (sym c.in_ok-append_positions.ensures) (AreFinite-append old here c.requires.finite finite)

pub place_of-requires-clause-below : goal.place_of-requires-clause-below
place_of-requires-clause-below g c =
    let here : List Position = positions_of c.args.bytes.now c.args.ring.now in
    let old : List Position = c.args.positions.now.items in
    let all : c.deref.result.now ≡ old ++ here = c.deref.ensures.value ∙ c.in_ok-append_positions.ensures in
    let slice = behind_is old here c.deref.result.now (length c.as_slice-before.result.now) all (ap (λ (ps : List Position). length ps) c.as_slice-before.ensures.value) in
    let first : IsFirstInfinite here c.in-Err.place = subst (λ (ps : List Position). IsFirstInfinite ps c.in-Err.place) slice c.in-Err.ensures.infinite in
    omega (arith, first.within, few_positions c.args.bytes.now c.args.ring.now)
