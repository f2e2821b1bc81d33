use Rattle.std.proofs.Common.{ℕ, inl, inr, List, [], ◌∷◌, ◌++◌, Bor, sym, ap, ◌∙◌, subst}
use Rattle.std.proofs.lemmas.List.{map-append}
use Rattle.lorel_ranges.specs.Views.{texts}
use Rattle.live_views.specs.inside.Touched.{AreFound}
use Rattle.live_views.proofs.FoundLaws.{AreFound-met, AreFound-text, AreFound-blank}
use Rattle.live_views.proofs.labels.LabelTexts.add_edge.Goals as goal

pub returns-then-not-note : goal.returns-then-not-note
returns-then-not-note c = λ earlier found.
    AreFound-met (c.args.all.now.labels.now ++ c.args.all.now.new_labels.now) earlier c.args.edge c.args.self.now.noted.items c.note.new.noted.items
    (texts c.args.self.now.found.items) (c.note.ensures.before c.if-not-note.true)
    (λ place here. elim (c.note.ensures.now place here) [ inl old ↦ inl old | inr own ↦ inr own.1 ]) found

pub returns-in_ok-push : goal.returns-in_ok-push
returns-in_ok-push c = λ earlier found.
    let labels = c.args.all.now.labels.now ++ c.args.all.now.new_labels.now in
    let before = c.args.self.now.found.items in
    let text = c.in-Some.text in
    let pushed = ap texts c.in_ok-push.ensures.items ∙ map-append (λ (t : Bor (List ℕ)). t.now) before (text ∷ []) in
    subst (λ (l : List (List ℕ)). AreFound labels (earlier ++ c.args.edge ∷ []) c.note.new.noted.items l) (sym pushed)
    (AreFound-text labels earlier c.args.edge c.args.self.now.noted.items c.note.new.noted.items (texts before) text.now (sym c.in-Some.ensures)
    (λ place here. elim (c.note.ensures.now place here) [ inl old ↦ inl old | inr own ↦ inr own.1 ]) found)

pub returns-in_default : goal.returns-in_default
returns-in_default c = λ earlier found.
    AreFound-blank (c.args.all.now.labels.now ++ c.args.all.now.new_labels.now) earlier c.args.edge c.args.self.now.noted.items c.note.new.noted.items
    (texts c.args.self.now.found.items) (sym c.in_default.ensures)
    (λ place here. elim (c.note.ensures.now place here) [ inl old ↦ inl old | inr own ↦ inr own.1 ]) found
