use Rattle.std.proofs.Common.{ℕ, ◌≤◌, List, [], length, Some, Option, sym, ap, ◌∙◌, subst, arith}
use Rattle.std.specs.List.{slice_get}
use Rattle.std.specs.Option.{IfSome, option_map}
use Rattle.std.proofs.lemmas.Option.{get_or_from_slice_get}
use Rattle.least_words.specs.Types.{Oid, Label, Origin}
use Rattle.least_words.specs.MachineWords.{word_to}
use Rattle.least_words.specs.inside.Groups.{words_of, word_at}
use Rattle.least_words.proofs.EndLaws.{word_to_end}
use Rattle.least_words.proofs.least.LeastWords.word.Goals as goal

pub returns-in_default : goal.returns-in_default
returns-in_default c =
    let origins = c.self.inside.origins.items in
    ap (option_map (word_at origins)) c.in_default.ensures.value
    ∙ sym (word_to_end origins c.self.inside.ends.entries c.args.to)
    ∙ ap (λ (l : List (Oid × List Label)). word_to l c.args.to) c.self.view_is

pub spell-requires-clause-within : goal.spell-requires-clause-within
spell-requires-clause-within c =
    let origins = c.self.inside.origins.items in
    let within : c.in-Some.group.now ≤ length origins =
    subst (λ (o : Option ℕ). IfSome o (λ group. group ≤ length origins)) (sym c.in-Some.ensures.value) (c.self.invariant.1 c.args.to) in
    omega (arith, within, ap length c.as_slice.ensures.value)

pub returns : goal.returns
returns c =
    let origins = c.self.inside.origins.items in
    let group = c.in-Some.group.now in
    let word = c.in_ok-word.word in
    let here = ap (λ (l : List Origin). slice_get (words_of l) group) (sym c.as_slice.ensures.value) ∙ c.in_ok-word.ensures in
    ap Some (sym (get_or_from_slice_get (words_of origins) group word [] here))
    ∙ ap (option_map (word_at origins)) c.in-Some.ensures.value
    ∙ sym (word_to_end origins c.self.inside.ends.entries c.args.to)
    ∙ ap (λ (l : List (Oid × List Label)). word_to l c.args.to) c.self.view_is
