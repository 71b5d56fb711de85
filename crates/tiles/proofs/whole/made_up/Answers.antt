use Rattle.std.proofs.Common.{List, length, ◌∙◌, ap, sym, subst}
use Rattle.std.proofs.lemmas.Bool.{eqb-false, eqb-true}
use Rattle.std.proofs.lemmas.List.{nil_from_length}
use Rattle.tiles.specs.Whole.{IsWhole}
use Rattle.tiles.specs.declared.window.Window.{Window}
use Rattle.tiles.proofs.MadeUp.{none-whole, whole-made, whole-none}
use Rattle.tiles.proofs.whole.made_up.Goals as goal

pub returns-then-is_empty : goal.returns-then-is_empty
returns-then-is_empty c =
    subst (λ (windows : List Window). (whole : Window) → ¬ (IsWhole whole windows)) (sym (nil_from_length c.args.windows.now (eqb-true _ _ (sym c.is_empty.ensures ∙ c.if-is_empty.true)))) none-whole

pub returns-then-area_of_all-area_of : goal.returns-then-area_of_all-area_of
returns-then-area_of_all-area_of c =
    whole-made c.args.windows.now c.around-whole.result c.around-whole.ensures.some c.around-whole.ensures.all c.requires.some c.requires.beside
    (sym c.area_of_all.ensures ∙ c.if-area_of_all-area_of.true ∙ c.area_of.ensures.area)

pub returns-else-area_of_all-area_of : goal.returns-else-area_of_all-area_of
returns-else-area_of_all-area_of c =
    whole-none c.args.windows.now c.around-whole.result c.around-whole.ensures.some c.around-whole.ensures.all c.requires.some c.requires.beside
    (λ outer has. c.around-whole.ensures.least outer (λ empty. eqb-false _ _ (sym c.is_empty.ensures ∙ c.if-is_empty.false) (ap (λ (windows : List Window). length windows) empty)) has)
    (λ same. c.if-area_of_all-area_of.false (c.area_of_all.ensures ∙ same ∙ sym c.area_of.ensures.area))
