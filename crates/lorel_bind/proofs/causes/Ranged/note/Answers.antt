use Rattle.std.proofs.Common.{refl, ℕ, List, [], ◌∷◌, ◌++◌, ◌||◌, not, subst}
use Rattle.lorel_bind.specs.inside.Causes.{HasNoted}
use Rattle.lorel_bind.specs.declared.causes.Ranged.{Ranged}
use Rattle.lorel_bind.proofs.TextCauseLaws.{HasNoted-push}
use Rattle.lorel_bind.proofs.causes.Ranged.note.Goals as goal

pub returns : goal.returns
returns c = λ earlier noted.
    let new : Ranged = record { texts = c.insert.new.self; doubled = c.args.self.now.doubled || not c.in_ok-first.first } in
    subst (λ (text : List ℕ). HasNoted (earlier ++ text ∷ []) new) c.as_bytes.ensures
    (HasNoted-push earlier c.args.self.now new c.as_bytes.result c.in_ok-first.first c.in_ok-first.ensures.added c.in_ok-first.ensures.keys refl noted)
