use Rattle.std.proofs.Common.{◌≡◌, Bool, List, false, length, replicate, ap, ◌∙◌}
use Rattle.std.proofs.lemmas.List.{length-replicate}
use Rattle.overlay.specs.Contours.Walks.{unwalked}
use Rattle.overlay.proofs.ContourLemmas.Walks.{unwalked-all}
use Rattle.overlay.proofs.contours.walk.append_rings.Goals as goal

pub walk_all-requires-clause-used_size : goal.walk_all-requires-clause-used_size
walk_all-requires-clause-used_size g c =
    let all : c.in_ok-used.used.items ≡ replicate (length c.args.sorted.now) false = c.in_ok-used.ensures.items_if_clones_equal (λ y same. same) in
    ap (λ (list : List Bool). length list) all ∙ length-replicate (length c.args.sorted.now) false

pub walk_all-requires-clause-all : goal.walk_all-requires-clause-all
walk_all-requires-clause-all g c =
    let all : c.in_ok-used.used.items ≡ replicate (length c.args.sorted.now) false = c.in_ok-used.ensures.items_if_clones_equal (λ y same. same) in
    ap (λ (used : List Bool). unwalked c.args.sorted.now used) all ∙ unwalked-all c.args.sorted.now
