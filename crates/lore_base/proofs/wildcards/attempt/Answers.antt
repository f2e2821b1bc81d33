use Rattle.std.proofs.Common.{◌≡◌, ◌≢◌, [], sym, ◌∙◌, rules, arith}
use Rattle.std.proofs.lemmas.Bool.{true≢false}
use Rattle.lore_base.proofs.WildcardLaws.{lies-none, lies-more, lies-on, lies-off, differs, signs-split, none-left, mismatch, no-bytes, whole, ended}
use Rattle.lore_base.proofs.wildcards.attempt.Goals as goal

pub signs-init : goal.signs-init
signs-init c = record { lies = lies-none _ _; shorter = omega arith; no_longer = omega arith }

pub returns-in_default-split_character-clause-fails : goal.returns-in_default-split_character-clause-fails
returns-in_default-split_character-clause-fails c _ on =
    let left = lies-off _ _ _ _ c.signs.invariant.lies on in
    let other = differs c.in-Some.sign.now c.as_slice.result.now c.as_slice.ensures c.if-eq.ensures in
    none-left c.args.in_like c.signs.pattern.now c.in-Some.sign.now c.in-Some.later.now c.signs.text.now c.in-Some.ensures.parts other left
    c.in_default-split_character.ensures.none

pub returns-then-not-stands-clause-fails : goal.returns-then-not-stands-clause-fails
returns-then-not-stands-clause-fails c _ on =
    let left = lies-off _ _ _ _ c.signs.invariant.lies on in
    let other = differs c.in-Some.sign.now c.as_slice.result.now c.as_slice.ensures c.if-eq.ensures in
    let stands = mismatch c.args.in_like c.signs.pattern.now c.in-Some.sign.now c.in-Some.later.now c.signs.text.now c.in-Some.ensures.parts other left
    c.in-Some-split_character.character.now c.in-Some-split_character.rest.now c.in-Some-split_character.ensures.parts in
    true≢false (sym ((c.stands.ensures other).1 stands) ∙ c.if-not-stands.true)

pub signs-preserved : goal.signs-preserved
signs-preserved c =
    let other = differs c.in-Some.sign.now c.as_slice.result.now c.as_slice.ensures c.if-eq.ensures in
    record {
      lies = lies-more _ _ _ _ _ _ _ _ c.signs.invariant.lies
          (signs-split c.args.in_like c.signs.pattern.now c.in-Some.sign.now c.in-Some.later.now c.signs.text.now c.in-Some.ensures.parts)
          c.in-Some-split_character.ensures.parts ((c.stands.ensures other).0 c.if-not-stands.false);
      shorter = omega (arith, c.signs.invariant.shorter, c.in-Some.ensures.shorter);
      no_longer = omega (arith, c.signs.invariant.no_longer, c.in-Some-split_character.ensures.shorter);
    }

pub returns-then-is_empty-clause-whole : goal.returns-then-is_empty-clause-whole
returns-then-is_empty-clause-whole c _ =
    let none : c.signs.text.now ≡ [] = no-bytes c.signs.text.now c.is_empty.result c.is_empty.ensures c.if-is_empty.true in
    lies-on _ _ _ _ c.signs.invariant.lies (whole c.args.in_like c.signs.pattern.now c.signs.text.now c.in_default.ensures.none none)

pub returns-else-is_empty-clause-fails : goal.returns-else-is_empty-clause-fails
returns-else-is_empty-clause-fails c _ on =
    let some : c.signs.text.now ≢ [] = search rules in
    some (ended c.args.in_like c.signs.pattern.now c.signs.text.now c.in_default.ensures.none (lies-off _ _ _ _ c.signs.invariant.lies on))
