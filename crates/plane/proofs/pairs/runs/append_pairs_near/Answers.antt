use Rattle.std.proofs.Common.{◌≡◌, ◌<◌, ◌∙◌, ℕ, ap, get_or, length, pos, subst, sym}
use Rattle.std.proofs.lemmas.List.{length-map}
use Rattle.std.proofs.lemmas.Option.{slice_get-get_or}
use Rattle.plane.specs.Pairs.Bounds.{IsFromUpto}
use Rattle.plane.specs.Pairs.Pairs.{PairAt}
use Rattle.plane.specs.declared.pairs.items.Bounds.{Bounds}
use Rattle.plane.proofs.PairsLemmas.Compared.{run_apart}
use Rattle.plane.proofs.PairsLemmas.Points.{Gains-none}
use Rattle.plane.proofs.pairs.runs.append_pairs_near.Goals as goal

pub returns-then-not-boxes_meet-clause-ok : goal.returns-then-not-boxes_meet-clause-ok
returns-then-not-boxes_meet-clause-ok g c =
    let items = c.args.items.now in
    let boxes = c.args.boxes.now in
    let run = c.args.run in
    let second = c.args.second in
    let none : Bounds = record { left = pos 0; right = pos 0; low = pos 0; high = pos 0 } in
    let within = c.requires.inside in
    let inside : c.args.second < length c.args.boxes.now = subst (λ (many : ℕ). c.args.second < many) (sym (length-map items g.T.Boxed.bounds) ∙ ap length (sym c.requires.boxes)) within in
    let stands = slice_get-get_or boxes second none inside in
    Gains-none (λ i j. IsFromUpto run.from run.to i × (j ≡ second) × PairAt g.T.Meets.Meeting items i j) c.args.out.now.items
    (λ i j (within, at, pair). run_apart c.requires.boxed items boxes c.requires.boxes run.from run.to run.around c.requires.around second (get_or boxes second none) stands c.if-not-boxes_meet.ensures i j within at pair)
