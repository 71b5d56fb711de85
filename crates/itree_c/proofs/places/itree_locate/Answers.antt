use Rattle.std.proofs.Common.{rules, Err, ap}
use Rattle.std.proofs.lemmas.Slice.Zip.{AllZip-long}
use Rattle.itree_c.proofs.places.itree_locate.Goals as goal

-- there are as many answers as points
pub write_places-requires : goal.write_places-requires
write_places-requires c =
    let long = AllZip-long _ _ _ (c.in-Ok.ensures.ok.1) in
    grind (rules, long, c.deref.ensures.value, c.if-places-points.false)

-- the pair is that of the sweep
pub returns-in-Err-Cross-clause-crossing : goal.returns-in-Err-Cross-clause-crossing
returns-in-Err-Cross-clause-crossing c = λ status.
    c.in-Err-Cross.ensures.crossing c.in-Err-Cross.one c.in-Err-Cross.other (ap Err c.in-Err-Cross.field-0-is)
