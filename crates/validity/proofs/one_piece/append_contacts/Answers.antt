use Rattle.std.proofs.Common.{ap, ◌∙◌, ◌++◌, ◌∷◌, [], List}
use Rattle.validity.specs.declared.one_piece.Contact.{Contact}
use Rattle.validity.proofs.Contacts.{contacts-two}
use Rattle.validity.proofs.one_piece.append_contacts.Goals as goal

pub returns : goal.returns
returns g c =
    contacts-two c.args.one c.args.other c.touching_point-point.result c.if-one-other.false c.if-not-touch_alone.ensures c.touching_point-point.ensures.on c.touching_point-point.ensures.other_on _ _
    (c.in_ok-push-2.ensures.items ∙ ap (λ (list : List Contact). list ++ (record { point = c.touching_point-point.result; ring = c.args.other.ring }) ∷ []) c.in_ok-push.ensures.items)
