use Rattle.std.proofs.Common.{inr, refl}
use Rattle.noding.specs.declared.moved.Visit.{Visit}
use Rattle.noding.proofs.moved.push_unless_kept.Goals as goal

pub returns : goal.returns
returns g c =
    let visit : Visit = record { number = c.number_of.result; point = c.point_of-point.result; place = c.args.stop.place } in
    inr (
      c.if-is_kept.ensures,
      (
        visit,
        record { at = refl; is = c.point_of-point.ensures; numbered = c.number_of.ensures.is; fits = c.number_of.ensures.in_range },
        c.in_ok-push.ensures.items,
      ),
    )
