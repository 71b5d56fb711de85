use Rattle.std.proofs.Common.{rules}
use Rattle.std.proofs.lemmas.Result.{on_ok_weaker}
use Rattle.plane.specs.Ends.{start_of}
use Rattle.overlay.proofs.ContourLemmas.Order.{behind-from_sort}
use Rattle.overlay.proofs.contours.order.put_in_order.Goals as goal

pub returns-clause-order : goal.returns-clause-order
returns-clause-order g c =
    let sorted = c.sort_in_buckets.new.items.items in
    on_ok_weaker c.sort_in_buckets.result
    (λ told. λ i j upto within. behind-from_sort start_of sorted told (λ f a r f' called. search rules) i j _ upto within)
    c.sort_in_buckets.ensures.sorted
