use Rattle.oem_atom.proofs.comparing.are_alike.Goals as goal

pub returns-in_default : goal.returns-in_default
returns-in_default c = (λ false_is. absurd (cc), λ alike. absurd (c.in_default.ensures.none alike.0 alike.2))

pub returns-in_default-text_of : goal.returns-in_default-text_of
returns-in_default-text_of c = (λ false_is. absurd (cc), λ alike. absurd (c.in_default-text_of.ensures.none alike.1 alike.3))
