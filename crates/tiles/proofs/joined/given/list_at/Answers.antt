use Rattle.std.proofs.Common.{ℕ, length, ap₂, sym, ◌∙◌, rules}
use Rattle.std.specs.List.{between}
use Rattle.tiles.proofs.JoinLists.{lists_of-at}
use Rattle.tiles.proofs.joined.given.list_at.Goals as goal

pub offset_bounds-items-start : goal.offset_bounds-items-start
offset_bounds-items-start g c =
    let within = c.range_at-start.ensures.within (length c.args.items.now) c.requires.ends in
    search rules

pub returns : goal.returns
returns g c =
    ap₂ (λ (i j : ℕ). between i j c.args.items.now) c.range_at-start.ensures.start c.range_at-start.ensures.end
    ∙ sym (lists_of-at c.args.items.now 0 c.args.ends.now c.args.place c.requires.place)
