use Rattle.std.proofs.Common.{◌≤ℤ◌}
use Rattle.tiles.proofs.JoinTests.{both-decide}
use Rattle.tiles.specs.Window.{IsWithin}
use Rattle.tiles.proofs.joined.windows.is_within.Goals as goal

pub returns : goal.returns
returns c =
    let window = c.args.window in
    let point = c.args.point in
    both-decide c.lies_up.result ((window.left ≤ℤ point.x) × (point.x ≤ℤ window.right)) ((window.low ≤ℤ point.y) × (point.y ≤ℤ window.high)) (IsWithin window point)
    c.if-not-lies_across.ensures
    (λ across up. record { from_left = across.0; upto_right = across.1; from_low = up.0; upto_high = up.1 })
    (λ is. (is.from_low, is.upto_high))
    c.lies_up.ensures
