use Rattle.std.proofs.Common.{◌≡◌, List, ℕ, Less, All, sym, subst}
use Rattle.lore_base.specs.Bytes.{bytes_cmp}
use Rattle.dataguide.specs.Types.{Node}
use Rattle.dataguide.proofs.EntryLaws.{entries-push}
use Rattle.dataguide.proofs.entries.Entries.push.Goals as goal

pub invariant_of-self-2 : goal.invariant_of-self-2
invariant_of-self-2 c =
    let below = subst (λ (l : List (List ℕ × Node)). All (λ e. bytes_cmp e.0 c.args.name.now ≡ Less) l)
    (sym c.self.view_is) c.requires in
    rw c.in_ok-push.ensures.items (entries-push c.self.inside.list.items (c.in_ok-text.text, c.args.node)
    c.self.invariant
    (subst (λ (t : List ℕ). All (λ (e : List ℕ × Node). bytes_cmp e.0 t ≡ Less) c.self.inside.list.items)
    (sym c.in_ok-text.ensures) below))
