use Rattle.std.proofs.Common.{◌≡◌, ◌++◌, ◌+◌, map, take}
use Rattle.layers.proofs.append.append_moved.Given as goal

-- the ends so far are appended
abbrev pub invariant-loop-end : goal.invariant-loop-end
invariant-loop-end g l = l.out.items ≡ l.fn.out.items ++ map (λ end. l.by + end) (take l.end-index l.ends)
