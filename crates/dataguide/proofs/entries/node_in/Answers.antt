use Rattle.std.proofs.Common.{◌≡◌, rules}
use Rattle.std.proofs.lemmas.Fn.{always_returns_same}
use Rattle.lore_base.specs.Bytes.{bytes_cmp}
use Rattle.dataguide.proofs.EntryLaws.{entry-found, entry-none}
use Rattle.dataguide.proofs.entries.node_in.Goals as goal

pub returns-in-Ok : goal.returns-in-Ok
returns-in-Ok c =
    let name = c.args.name.now in
    let equal =
    c.in-Ok.ensures.position (λ e. bytes_cmp e.0 name)
    (always_returns_same _ (λ a r. r ≡ bytes_cmp a.0.now.0 name) _ (λ a r q k. search rules)) in
    entry-found c.args.entries.now name c.requires _ _ c.in-Ok.ensures.bound (equal _)

pub returns-in-Err : goal.returns-in-Err
returns-in-Err c =
    let name = c.args.name.now in
    let gap =
    c.in-Err.ensures.position (λ e. bytes_cmp e.0 name)
    (always_returns_same _ (λ a r. r ≡ bytes_cmp a.0.now.0 name) _ (λ a r q k. search rules)) in
    entry-none c.args.entries.now name c.requires c.in-Err.field-0 gap
