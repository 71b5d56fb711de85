use Rattle.std.proofs.Common.{◌≡◌, true, false, sym, arith}
use Rattle.i_tree.specs.declared.rb.links.Colour.TheVariants.{Black}
use Rattle.i_tree.specs.Rb.Balance.{is_black, IsShort}
use Rattle.i_tree.specs.Rb.Shape.{top}
use Rattle.i_tree.proofs.RbLemmas.Removal.Step.{Subtrees}
use Rattle.i_tree.proofs.RbLemmas.Removal.ShortSide.{subtrees_beside, IsHandle-short, IsHandle-sibling, IsHandle-outer, IsHandle-inner, outer_top, inner_top, says_outer, says_inner, CanRotation-short, CanRotation-sibling, CanRotation-straightened, IsHandle-high, IsEnded-inner}
use Rattle.i_tree.proofs.RbLemmas.Removal.OuterRed.{IsHandle-raised_outer, IsEnded-outer}
use Rattle.i_tree.proofs.RbLemmas.Removal.BothBlack.{IsHandle-above_red, says_node, IsRisen-black, IsEnded-red}
use Rattle.i_tree.proofs.RootLemmas.Counts.{OnlyRotates-none, OnlyRotates-one, OnlyRotates-both}
use Rattle.i_tree.proofs.rb.rebalancing.removal.rebalance_beside_black.Goals.{After-child-sibling, After-child-outer, After-child-inner}
use Rattle.i_tree.proofs.rb.rebalancing.removal.rebalance_beside_black.Goals as goal

-- what is read of the sibling and its subtrees
beside : (g : _) (c : goal.After-child-sibling g) (cut : IsShort c.args.arena.now.shape c.args.node c.args.side) (black : is_black cut.far ≡ true) → Subtrees c.args.side Black cut.far c.child-sibling.result
beside g c cut black = subtrees_beside _ _ _ cut black _ _ c.other-away.ensures c.child-sibling.ensures

outer : (g : _) (c : goal.After-child-outer g) (cut : IsShort c.args.arena.now.shape c.args.node c.args.side) (black : is_black cut.far ≡ true) → c.child-outer.result ≡ top (beside g (goal.at.is_black-requires g c).After-child-sibling cut black).outer
outer g c cut black = outer_top _ _ _ cut _ (beside g (goal.at.is_black-requires g c).After-child-sibling cut black) _ _ c.other-away.ensures c.child-outer.ensures

inner : (g : _) (c : goal.After-child-inner g) (cut : IsShort c.args.arena.now.shape c.args.node c.args.side) (black : is_black cut.far ≡ true) → c.child-inner.result ≡ top (beside g (goal.at.is_black-requires-2 g c).After-child-sibling cut black).inner
inner g c cut black = inner_top _ _ _ cut _ (beside g (goal.at.is_black-requires-2 g c).After-child-sibling cut black) _ c.child-inner.ensures

pub child-sibling-requires : goal.child-sibling-requires
child-sibling-requires g c = IsHandle-short _ _ _ c.requires.cut

pub child-outer-requires : goal.child-outer-requires
child-outer-requires g c = IsHandle-sibling _ _ _ c.requires.cut _ (beside g (goal.at.child-outer-requires g c).After-child-sibling c.requires.cut c.requires.black)

pub is_black-requires : goal.is_black-requires
is_black-requires g c = IsHandle-outer _ _ _ c.requires.cut _ (beside g (goal.at.is_black-requires g c).After-child-sibling c.requires.cut c.requires.black) _ (outer g c c.requires.cut c.requires.black)

pub rotate-requires : goal.rotate-requires
rotate-requires g c = CanRotation-short _ _ _ c.requires.cut _ Black (beside g (goal.at.rotate-requires g c).After-child-sibling c.requires.cut c.requires.black)

pub paint-requires : goal.paint-requires
paint-requires g c =
    let at = goal.at.paint-requires g c in
    let subtrees = beside g at.After-child-sibling c.requires.cut c.requires.black in
    IsHandle-raised_outer _ _ _ c.requires.cut _ subtrees _ (outer g at.After-child-outer c.requires.cut c.requires.black) (sym (says_outer _ _ _ c.requires.cut _ subtrees _ false (outer g at.After-child-outer c.requires.cut c.requires.black) c.if-not-is_black.ensures.value)) _ c.rotate.ensures.shape

pub returns-then-not-is_black-clause-rebalanced : goal.returns-then-not-is_black-clause-rebalanced
returns-then-not-is_black-clause-rebalanced g c cut black =
    let at = goal.at.returns-then-not-is_black-clause-rebalanced g c in
    let subtrees = beside g at.After-child-sibling cut black in
    IsEnded-outer _ _ _ cut _ subtrees _ (outer g at.After-child-outer cut black) (sym (says_outer _ _ _ cut _ subtrees _ false (outer g at.After-child-outer cut black) c.if-not-is_black.ensures.value)) _ c.rotate.ensures.shape _ c.paint.ensures.shape

pub child-inner-requires : goal.child-inner-requires
child-inner-requires g c = IsHandle-sibling _ _ _ c.requires.cut _ (beside g (goal.at.child-inner-requires g c).After-child-sibling c.requires.cut c.requires.black)

pub is_black-requires-2 : goal.is_black-requires-2
is_black-requires-2 g c = IsHandle-inner _ _ _ c.requires.cut _ (beside g (goal.at.is_black-requires-2 g c).After-child-sibling c.requires.cut c.requires.black) _ (inner g c c.requires.cut c.requires.black)

pub rotate-requires-then-not-is_black-2 : goal.rotate-requires-then-not-is_black-2
rotate-requires-then-not-is_black-2 g c =
    let at = goal.at.rotate-requires-then-not-is_black-2 g c in
    let subtrees = beside g at.After-child-sibling c.requires.cut c.requires.black in
    CanRotation-sibling _ _ _ c.requires.cut _ subtrees _ (inner g at.After-child-inner c.requires.cut c.requires.black) (sym (says_inner _ _ _ c.requires.cut _ subtrees _ false (inner g at.After-child-inner c.requires.cut c.requires.black) c.if-not-is_black-2.ensures.value)) _ c.other-away.ensures

pub rotate-requires-then-not-is_black-2-2 : goal.rotate-requires-then-not-is_black-2-2
rotate-requires-then-not-is_black-2-2 g c =
    let at = goal.at.rotate-requires-then-not-is_black-2-2 g c in
    let subtrees = beside g at.After-child-sibling c.requires.cut c.requires.black in
    CanRotation-straightened _ _ _ c.requires.cut _ subtrees _ (inner g at.After-child-inner c.requires.cut c.requires.black) (sym (says_inner _ _ _ c.requires.cut _ subtrees _ false (inner g at.After-child-inner c.requires.cut c.requires.black) c.if-not-is_black-2.ensures.value)) _ c.other-away.ensures _ c.rotate-then-not-is_black-2.ensures.shape

pub paint-requires-then-not-is_black-2 : goal.paint-requires-then-not-is_black-2
paint-requires-then-not-is_black-2 g c =
    let at = goal.at.paint-requires-then-not-is_black-2 g c in
    let subtrees = beside g at.After-child-sibling c.requires.cut c.requires.black in
    IsHandle-high _ _ _ c.requires.cut _ subtrees _ (inner g at.After-child-inner c.requires.cut c.requires.black) (sym (says_inner _ _ _ c.requires.cut _ subtrees _ false (inner g at.After-child-inner c.requires.cut c.requires.black) c.if-not-is_black-2.ensures.value)) _ c.other-away.ensures _ c.rotate-then-not-is_black-2.ensures.shape _ c.rotate-then-not-is_black-2-2.ensures.shape

pub returns-then-not-is_black-2-clause-rebalanced : goal.returns-then-not-is_black-2-clause-rebalanced
returns-then-not-is_black-2-clause-rebalanced g c cut black =
    let at = goal.at.returns-then-not-is_black-2-clause-rebalanced g c in
    let subtrees = beside g at.After-child-sibling cut black in
    IsEnded-inner _ _ _ cut _ subtrees _ (inner g at.After-child-inner cut black) (sym (says_inner _ _ _ cut _ subtrees _ false (inner g at.After-child-inner cut black) c.if-not-is_black-2.ensures.value)) _ c.other-away.ensures _ c.rotate-then-not-is_black-2.ensures.shape _ c.rotate-then-not-is_black-2-2.ensures.shape _ c.paint-then-not-is_black-2.ensures.shape

pub paint-requires-2 : goal.paint-requires-2
paint-requires-2 g c = IsHandle-sibling _ _ _ c.requires.cut _ (beside g (goal.at.paint-requires-2 g c).After-child-sibling c.requires.cut c.requires.black)

pub is_black-requires-3 : goal.is_black-requires-3
is_black-requires-3 g c _ =
    let at = goal.at.is_black-requires-3 g c in
    let subtrees = beside g at.After-child-sibling c.requires.cut c.requires.black in
    IsHandle-above_red _ _ _ c.requires.cut _ subtrees (sym (says_inner _ _ _ c.requires.cut _ subtrees _ true (inner g at.After-child-inner c.requires.cut c.requires.black) c.if-not-is_black-2.ensures.value)) (sym (says_outer _ _ _ c.requires.cut _ subtrees _ true (outer g at.After-child-outer c.requires.cut c.requires.black) c.if-not-is_black.ensures.value)) _ c.paint-2.ensures.shape

pub returns-then-is_black-clause-rebalanced : goal.returns-then-is_black-clause-rebalanced
returns-then-is_black-clause-rebalanced g c cut black =
    let at = goal.at.returns-then-is_black-clause-rebalanced g c in
    let subtrees = beside g at.After-child-sibling cut black in
    let inner_black = sym (says_inner _ _ _ cut _ subtrees _ true (inner g at.After-child-inner cut black) c.if-not-is_black-2.ensures.value) in
    let outer_black = sym (says_outer _ _ _ cut _ subtrees _ true (outer g at.After-child-outer cut black) c.if-not-is_black.ensures.value) in
    IsRisen-black _ _ _ cut _ subtrees inner_black outer_black _ c.paint-2.ensures.shape (sym (says_node _ _ _ cut _ subtrees inner_black outer_black _ c.paint-2.ensures.shape true c.if-is_black.ensures.value))

pub paint-requires-3 : goal.paint-requires-3
paint-requires-3 g c =
    let at = goal.at.paint-requires-3 g c in
    let subtrees = beside g at.After-child-sibling c.requires.cut c.requires.black in
    IsHandle-above_red _ _ _ c.requires.cut _ subtrees (sym (says_inner _ _ _ c.requires.cut _ subtrees _ true (inner g at.After-child-inner c.requires.cut c.requires.black) c.if-not-is_black-2.ensures.value)) (sym (says_outer _ _ _ c.requires.cut _ subtrees _ true (outer g at.After-child-outer c.requires.cut c.requires.black) c.if-not-is_black.ensures.value)) _ c.paint-2.ensures.shape

pub returns-clause-rebalanced : goal.returns-clause-rebalanced
returns-clause-rebalanced g c cut black =
    let at = goal.at.returns-clause-rebalanced g c in
    let subtrees = beside g at.After-child-sibling cut black in
    let inner_black = sym (says_inner _ _ _ cut _ subtrees _ true (inner g at.After-child-inner cut black) c.if-not-is_black-2.ensures.value) in
    let outer_black = sym (says_outer _ _ _ cut _ subtrees _ true (outer g at.After-child-outer cut black) c.if-not-is_black.ensures.value) in
    IsEnded-red _ _ _ cut _ subtrees inner_black outer_black _ c.paint-2.ensures.shape _ c.paint-3.ensures.shape (sym (says_node _ _ _ cut _ subtrees inner_black outer_black _ c.paint-2.ensures.shape false c.if-is_black.ensures.value))

pub returns-then-not-is_black-2-clause-steps : goal.returns-then-not-is_black-2-clause-steps
returns-then-not-is_black-2-clause-steps g c =
    OnlyRotates-both g.met.C.Counter.law 2 (omega arith) (OnlyRotates-one c.rotate-then-not-is_black-2.ensures.steps) (OnlyRotates-one c.rotate-then-not-is_black-2-2.ensures.steps)

pub returns-then-is_black-clause-steps : goal.returns-then-is_black-clause-steps
returns-then-is_black-clause-steps g c = OnlyRotates-none g.met.C.Counter.law c.args.steps.now 0

pub returns-clause-steps : goal.returns-clause-steps
returns-clause-steps g c = OnlyRotates-none g.met.C.Counter.law c.args.steps.now 2
