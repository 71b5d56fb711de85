use Rattle.std.proofs.Common.{Bool, true, false, not, inr}
use Rattle.std.specs.Bool.{MatchBool, OnTrue}
use Rattle.overlay.proofs.ContourLemmas.Ends.{first-tested}
use Rattle.overlay.proofs.contours.ends.is_first.Goals as goal

on_other : {P Q : Type 0} (b : Bool) → MatchBool b Q (¬ Q) → ((¬ Q) → P) → OnTrue (not b) P
on_other true is told = tt
on_other false is told = told is

pub returns : goal.returns
returns c =
    let inside = c.if-sorted-place.false in
    on_other c.starts_at-2.result c.starts_at-2.ensures
    (λ differs. first-tested c.args.sorted.now c.requires c.args.at c.args.place inside c.if-not-starts_at.ensures (inr differs))
