use Rattle.std.proofs.Common.{◌+◌, ◌<◌, length, refl, sym, ap, arith}
use Rattle.std.proofs.lemmas.Bool.{true≢false}
use Rattle.lore_base.specs.Wildcards.{characters}
use Rattle.lore_base.specs.inside.Attempts.{signs_of}
use Rattle.lore_base.proofs.WildcardLaws.{lies-on, lies-off, many-none, many-later, many-further}
use Rattle.lore_base.proofs.wildcards.stand_for.Goals as goal

pub places-init : goal.places-init
places-init c =
    let meets = c.in-Many.ensures.many c.in-Many.later c.in-Many.rest refl in
    (lies-off _ _ _ _ meets.lies, lies-on _ _ _ _ meets.lies)

pub returns-in_default : goal.returns-in_default
returns-in_default c = (
  λ denied. absurd (true≢false (sym denied)),
  λ on. absurd (many-none _ _ (ap characters c.in_default.ensures.none) (c.in-Fails-attempt.ensures.fails refl) (c.places.invariant.0 on)),
)

pub places-preserved-in-Fails-attempt : goal.places-preserved-in-Fails-attempt
places-preserved-in-Fails-attempt c =
    let later = many-later (signs_of c.args.in_like c.places.later.now) (characters c.places.rest.now) c.in-Some.field-0-0.now (characters c.in-Some.behind.now)
    c.in-Some.ensures.parts (c.in-Fails-attempt.ensures.fails refl) in
    (λ on. later.0 (c.places.invariant.0 on), λ on. c.places.invariant.1 (later.1 on))

pub places-smaller : goal.places-smaller
places-smaller c =
    let meets = c.in-Many-attempt.ensures.many c.in-Many-attempt.behind c.in-Many-attempt.left refl in
    let smaller : length c.in-Many-attempt.behind.now + length c.in-Many-attempt.left.now < length c.places.later.now + length c.places.rest.now
    = omega (arith, meets.shorter, meets.no_longer) in
    smaller

pub places-preserved : goal.places-preserved
places-preserved c =
    let meets = c.in-Many-attempt.ensures.many c.in-Many-attempt.behind c.in-Many-attempt.left refl in
    let further = many-further _ _ _ _ meets.lies in
    (λ on. further.0 (c.places.invariant.0 on), λ on. c.places.invariant.1 (further.1 on))
