use Rattle.std.proofs.Common.{◌≡◌, ℕ, List, [], ◌∷◌, ◌++◌, length, sym, ◌∙◌, subst, arith}
use Rattle.lorel_trees.specs.Trees.{literal_tree}
use Rattle.oem_text.specs.inside.Views.{body_of}
use Rattle.oem_text.specs.inside.Places.{AreMarks}
use Rattle.oem_text.proofs.MarkLaws.{marks_same, marks_more}
use Rattle.oem_text.proofs.places.add_mark.Goals as goal

pub returns-in_default : goal.returns-in_default
returns-in_default c =
    λ bodies are size.
    marks_same bodies (body_of (literal_tree c.args.literal.now)) c.args.marks.now (sym c.mark_of.ensures ∙ c.in_default.is) are

pub returns : goal.returns
returns c =
    λ bodies are size.
    let body = body_of (literal_tree c.args.literal.now) in
    let last : c.in-Ok.place ≡ length bodies = omega (arith, c.in-Ok.ensures, size) in
    subst (λ (l : List (ℕ × ℕ)). AreMarks (bodies ++ body ∷ []) l) (sym c.in_ok-push.ensures.ok)
    (marks_more bodies body c.in-Some.number c.in-Ok.place c.args.marks.now (sym c.mark_of.ensures ∙ c.in-Some.is) last are)
