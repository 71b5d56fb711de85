use Rattle.std.proofs.Common.{◌≡◌, ◌++◌, [], ℕ, true, inl, inr, IsPermutation, List, get_or, length, sym, ◌∙◌, subst, append-nil, arith}
use Rattle.std.specs.List.{flat_map}
use Rattle.std.proofs.lemmas.Bool.{cases_eq}
use Rattle.std.proofs.lemmas.List.Sorted.{IsPermutation-refl}
use Rattle.plane.specs.declared.edge.Edge.{Edge}
use Rattle.plane.proofs.PairsLemmas.Extends.{OnErr-always, Extends-trans}
use Rattle.plane.specs.declared.point.Point.{Point}
use Rattle.overlay.specs.Contours.Ends.{StartBefore}
use Rattle.overlay.specs.Contours.Order.{IsFirstFrom, point_at}
use Rattle.overlay.specs.Contours.Rings.{ring_edges}
use Rattle.overlay.specs.Contours.Walks.{unwalked}
use Rattle.noding.specs.Offsets.{offsets}
use Rattle.overlay.proofs.ContourLemmas.Counts.{IsClosed-rest}
use Rattle.overlay.proofs.ContourLemmas.Order.{IsBehind-trans}
use Rattle.overlay.proofs.ContourLemmas.Rings.{AreAppended-more, AreAppended-none, rings-more}
use Rattle.overlay.proofs.ContourLemmas.Walks.{unwalked-none}
use Rattle.overlay.proofs.WindsLemmas.Walked.{pairs-at_first, sides-more, sides-none}
use Rattle.overlay.proofs.contours.walk.walk_all.Goals as goal

pub loop-first-init : goal.loop-first-init
loop-first-init g c =
    let sorted = c.args.sorted.now in (
      (
        [],
        AreAppended-none c.args.points.now.items c.args.ring_ends.now.items,
        subst (λ (edges : List Edge). IsPermutation edges sorted) (sym c.requires.all) (IsPermutation-refl sorted),
        λ are. (sides-none sorted, pairs-at_first sorted c.args.walk.now.used.items c.requires.all c.requires.used_size),
      ),
      (λ k below. absurd (omega (arith, below))),
      c.requires.used_size,
      c.requires.marks_size,
      c.requires.begins,
      omega arith,
      (λ k from within j before. absurd (omega (arith, before))),
    )

pub next_from-corner-requires-clause-before : goal.next_from-corner-requires-clause-before
next_from-corner-requires-clause-before g c =
    let (so_far, walked, used_size, marks_size, none, upto, before) = c.loop-first.invariant in
    subst (λ (at : Point). StartBefore c.args.sorted.now at c.loop-first.corner) (sym c.start_of.ensures) (before c.loop-first.first (omega arith) c.loop-first-test.true)

pub walk_from-requires-clause-from : goal.walk_from-requires-clause-from
walk_from-requires-clause-from g c =
    subst (λ (at : Point). IsFirstFrom c.args.sorted.now at c.next_from-corner.result) c.start_of.ensures c.next_from-corner.ensures

pub walk_from-requires-clause-rest : goal.walk_from-requires-clause-rest
walk_from-requires-clause-rest g c =
    let ((rings, appended, moved, sides), walked, used_size, marks_size, none, upto, before) = c.loop-first.invariant in
    let sorted = c.args.sorted.now in
    IsClosed-rest rings (unwalked sorted c.loop-first.walk.used.items) sorted moved c.requires.closed

pub returns-in_err-walk_from-clause-err : goal.returns-in_err-walk_from-clause-err
returns-in_err-walk_from-clause-err g c =
    let ((rings, appended, moved, sides), walked, used_size, marks_size, none, upto, before) = c.loop-first.invariant in
    let (points, ends) = c.in_err-walk_from.ensures.err in
    OnErr-always c.from_residual.result _ (
      Extends-trans c.args.points.now.items c.loop-first.points.items c.walk_from.new.points.items (flat_map (λ ring. ring) rings, appended.points_are) points,
      Extends-trans c.args.ring_ends.now.items c.loop-first.ring_ends.items c.walk_from.new.ring_ends.items (offsets (length c.args.points.now.items) rings, appended.ends_are) ends,
    )

pub loop-first-preserved : goal.loop-first-preserved
loop-first-preserved g c =
    let ((rings, appended, moved, sides), walked, used_size, marks_size, none, upto, before) = c.loop-first.invariant in
    let (others, now_appended, now_moved, now_none, now_sides) = c.in_ok-walk_from.ensures.ok in
    let sorted = c.args.sorted.now in
    let used = c.loop-first.walk.used.items in
    let first = c.loop-first.first in
    let from = subst (λ (at : Point). IsFirstFrom sorted at c.next_from-corner.result) c.start_of.ensures c.next_from-corner.ensures in
    let used_same = c.in_ok-walk_from.ensures.used_size in
    let marks_same = c.in_ok-walk_from.ensures.marks_size in (
      (
        rings ++ others,
        AreAppended-more rings others c.args.points.now.items c.loop-first.points.items c.walk_from.new.points.items c.args.ring_ends.now.items c.loop-first.ring_ends.items c.walk_from.new.ring_ends.items appended now_appended,
        rings-more rings others (unwalked sorted c.walk_from.new.walk.used.items) (unwalked sorted used) sorted now_moved moved,
        λ are. (let (kept, pairs) = sides are in let (kept_too, pairs_too) = now_sides are pairs in (sides-more sorted rings others kept kept_too, pairs_too)),
      ),
      (λ k below. elim (cases_eq k first) [
        | inl same ↦ subst (λ (n : ℕ). get_or c.walk_from.new.walk.used.items n true ≡ true) (sym same) c.in_ok-walk_from.ensures.walked
        | inr differs ↦ c.in_ok-walk_from.ensures.keeps k (walked k (omega (arith, below, differs)))
      ]),
      used_same ∙ used_size,
      marks_same ∙ marks_size,
      now_none,
      from.inside,
      (λ k later within j below behind. from.before j below (IsBehind-trans (point_at sorted first) (point_at sorted k) (point_at sorted j) (c.requires.order first k (omega (arith, later)) within) behind)),
    )

pub returns-clause-ok : goal.returns-clause-ok
returns-clause-ok g c =
    let ((rings, appended, moved, sides), walked, used_size, marks_size, none, upto, before) = c.loop-first.invariant in
    let past = c.loop-first-test.false in
    let sorted = c.args.sorted.now in
    let left : unwalked sorted c.loop-first.walk.used.items ≡ [] = unwalked-none sorted c.loop-first.walk.used.items (λ k within. walked k (omega (arith, within, past))) in (
      rings,
      appended,
      subst (λ (edges : List Edge). IsPermutation edges sorted) (append-nil (flat_map ring_edges rings)) (subst (λ (edges : List Edge). IsPermutation (flat_map ring_edges rings ++ edges) sorted) left moved),
      λ are. (sides are).0,
    )
