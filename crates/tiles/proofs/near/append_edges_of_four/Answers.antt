use Rattle.std.proofs.Common.{[], ◌≡◌, ◌∷◌, ◌++◌, ◌∙◌, List, ap, ap₂, append_assoc}
use Rattle.plane.specs.declared.edge.Edge.{Edge}
use Rattle.tiles.proofs.near.append_edges_of_four.Goals as goal

same_four : (before : List Edge) (a b c d p q r s : Edge) → a ≡ p → b ≡ q → c ≡ r → d ≡ s → before ++ a ∷ b ∷ c ∷ d ∷ [] ≡ before ++ p ∷ q ∷ r ∷ s ∷ []
same_four before a b c d p q r s first second third fourth =
    ap₂ (λ (x y : Edge). before ++ x ∷ y ∷ c ∷ d ∷ []) first second ∙ ap₂ (λ (x y : Edge). before ++ p ∷ q ∷ x ∷ y ∷ []) third fourth

pub returns : goal.returns
returns g c =
    let before = c.args.edges.now.items in
    let one = c.edge_between.result in
    let two = c.edge_between-2.result in
    let three = c.edge_between-3.result in
    let four = c.edge_between-4.result in
    c.in_ok-push-4.ensures.items
    ∙ ap (λ (edges : List Edge). edges ++ four ∷ []) (c.in_ok-push-3.ensures.items
    ∙ ap (λ (edges : List Edge). edges ++ three ∷ []) (c.in_ok-push-2.ensures.items
    ∙ ap (λ (edges : List Edge). edges ++ two ∷ []) c.in_ok-push.ensures.items))
    ∙ append_assoc ((before ++ one ∷ []) ++ two ∷ []) (three ∷ []) (four ∷ [])
    ∙ append_assoc (before ++ one ∷ []) (two ∷ []) (three ∷ four ∷ [])
    ∙ append_assoc before (one ∷ []) (two ∷ three ∷ four ∷ [])
    ∙ same_four before one two three four _ _ _ _
    c.edge_between.ensures c.edge_between-2.ensures c.edge_between-3.ensures c.edge_between-4.ensures
