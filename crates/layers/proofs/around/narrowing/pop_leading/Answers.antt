use Rattle.std.proofs.Common.{◌≡◌, ℕ, ◌-◌, ◌<◌, List, [], ◌∷◌, ◌++◌, Option, Some, MatchOption, length, get_or, sym, subst, ap, ap₂, ◌∙◌, arith}
use Rattle.std.specs.List.{slice_get}
use Rattle.std.specs.Option.{option_to_list}
use Rattle.std.proofs.lemmas.Option.{get_or_from_slice_get, slice_get_within}
use Rattle.layers.specs.Chains.{Leads}
use Rattle.layers.proofs.around.narrowing.pop_leading.Goals as goal

-- what is taken from the end of a list is what stood there
popped : {X : Type 0} (P : X → Type 0) (items rest : List X) (n : ℕ) (last : X) (taken : Option X) → n ≡ length items → Some last ≡ slice_get items (n - 1) → items ≡ rest ++ option_to_list taken
    → ((d : X) → 0 < n → taken ≡ Some (get_or items (n - 1) d)) → P last → MatchOption taken (rest ≡ items) (λ x. (items ≡ rest ++ x ∷ []) × P x)
popped P items rest n last taken size stands are value holds =
    let within = slice_get_within items (n - 1) last (sym stands) in
    let at = get_or_from_slice_get items (n - 1) last last (sym stands) in
    let is : taken ≡ Some last = value last (omega (arith, within, size)) ∙ ap Some at in
    subst (λ o. MatchOption o (rest ≡ items) (λ x. (items ≡ rest ++ x ∷ []) × P x)) (sym is) (subst (λ o. items ≡ rest ++ option_to_list o) is are, holds)

pub returns-then-leads_to : goal.returns-then-leads_to
returns-then-leads_to g c =
    popped (λ last. Leads c.args.extent last c.args.chain) c.args.kept.now.items c.pop.new.self.items _ c.in_ok-last.field-0.now c.pop.result
    (sym c.deref.ensures.len ∙ ap length c.deref.ensures.value)
    (c.in_ok-last.ensures.value ∙ ap₂ (λ xs n. slice_get xs (n - 1)) c.deref.ensures.value c.deref.ensures.len) c.pop.ensures.items c.pop.ensures.value (c.leads_to.ensures.0 c.if-leads_to.true)
