use Rattle.std.proofs.Common.{rules}
use Rattle.std.proofs.lemmas.Slice.Zip.{AllZip-long}
use Rattle.itree_c.proofs.heights.itree_below.Goals as goal

-- there are as many answers as points
pub write_heights-requires : goal.write_heights-requires
write_heights-requires c =
    let long = AllZip-long _ _ _ (c.in-Ok.ensures.ok.1) in
    grind (rules, long, c.deref.ensures.value, c.if-heights-points.false)
