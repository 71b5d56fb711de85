use Rattle.std.proofs.Common.{rules, pos, [], ◌<◌, length, map, sym, ◌∙◌}
use Rattle.monotone_chains.specs.Stretches.Cut.{way}
use Rattle.monotone_chains.specs.declared.stretches.parts.Part.{Part}
use Rattle.monotone_chains.proofs.StretchLemmas.Entries.{entry-stands, straight-goes, stretch-goes}
use Rattle.monotone_chains.proofs.stretches.widening.append_way.Goals as goal

none : Part
none = record { from = record { x = pos 0; y = pos 0 }; inner = record { ref_ptr = (0, 0); now = [] }; to = record { x = pos 0; y = pos 0 } }

pub bounds-parts-stretch : goal.bounds-parts-stretch
bounds-parts-stretch g c =
    let (sloped, among, same) = c.in-Some.ensures in
    (entry-stands c.args.parts.now c.args.table.now c.requires c.in-Some.stretch none among).inside

pub offset_bounds-parts-stretch : goal.offset_bounds-parts-stretch
offset_bounds-parts-stretch g c =
    let (sloped, among, same) = c.in-Some.ensures in
    let inside : c.in-Some.stretch.place < length c.args.parts.now = (entry-stands c.args.parts.now c.args.table.now c.requires c.in-Some.stretch none among).inside in
    search rules

pub returns-in-Some : goal.returns-in-Some
returns-in-Some g c =
    let (sloped, among, same) = c.in-Some.ensures in
    let parts = c.args.parts.now in
    let stands = entry-stands parts c.args.table.now c.requires c.in-Some.stretch _ among in
    stretch-goes (map way parts) _ c.args.from c.args.to c.append_stretch.result c.args.points.now.items c.append_stretch.new.points.items stands.among stands.long sloped (sym stands.chord_is ∙ same)
    c.append_stretch.ensures.along c.append_stretch.ensures.back

pub returns-in_ok-push-in-None : goal.returns-in_ok-push-in-None
returns-in_ok-push-in-None g c = (_, straight-goes c.args.parts.now c.args.table.now c.requires c.args.from c.args.to c.in-None.ensures, c.in_ok-push-in-None.ensures.items)
