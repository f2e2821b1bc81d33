use Rattle.std.proofs.Common.{◌≡◌, ℕ, List, sym, ap, subst, ◌∙◌}
use Rattle.live_views.specs.Views.{View, NamedView, TurnsRows}
use Rattle.live_views.proofs.RowLaws.{TurnsRows-set, TurnsRows-none}
use Rattle.live_views.proofs.views.Views.set_rows.Goals as goal
use Rattle.live_views.proofs.views.Views.set_rows.Goals.{in-Some, in-None+in-Some-1, in-None+in-None-1}

pub returns : goal.returns
returns c =
    let name = c.args.name.now in
    let rows = c.args.rows in
    let before = c.self.inside.kept.entries in
    let told = λ (own : List ℕ). own ≡ name in
    elim c.match-get_mut.branch [
      | in-Some w ↦
          let after = w.set_rows.new.self in
          let now = ap (λ (s : _). s.kept.entries) w.self-inside-is ∙ (c.get_mut.follows.holds after).0 in
          let turned = TurnsRows-set name rows before w.in-Some.view.now after c.get_mut.ensures.ordered (sym w.in-Some.ensures.value)
          (ap (λ (v : View). v.select) w.set_rows.ensures) (ap (λ (v : View). v.rows) w.set_rows.ensures) in
          subst (λ (l : List NamedView). TurnsRows told rows l c.match-get_mut.self-inside.kept.entries) c.self.view_is
          (subst (λ (l : List NamedView). TurnsRows told rows before l) (sym now) turned)
      | in-None+in-Some-1 w ↦
          let now = ap (λ (s : _). s.kept.entries) w.self-inside-is ∙ ap (λ (m : _). m.entries) c.get_mut.follows.holds-at-none in
          subst (λ (l : List NamedView). TurnsRows told rows l c.match-get_mut.self-inside.kept.entries) c.self.view_is
          (subst (λ (l : List NamedView). TurnsRows told rows before l) (sym now)
          (TurnsRows-none name rows before c.get_mut.ensures.ordered (sym w.in-None.ensures.value)))
      | in-None+in-None-1 w ↦
          let now = ap (λ (s : _). s.kept.entries) w.self-inside-is ∙ ap (λ (m : _). m.entries) c.get_mut.follows.holds-at-none in
          subst (λ (l : List NamedView). TurnsRows told rows l c.match-get_mut.self-inside.kept.entries) c.self.view_is
          (subst (λ (l : List NamedView). TurnsRows told rows before l) (sym now)
          (TurnsRows-none name rows before c.get_mut.ensures.ordered (sym w.in-None.ensures.value)))
    ]
