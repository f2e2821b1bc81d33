use Rattle.std.proofs.Common.{◌≡◌, ◌<◌, ℕ, List, arith, subst, sym, ap, ◌∙◌}
use Rattle.std.specs.List.{count_by}
use Rattle.std.specs.Prelude.{nat_lt}
use Rattle.block_haste.specs.inside.Tallies.{Key, key_eq}
use Rattle.block_haste.proofs.TallyLaws.{has_key}
use Rattle.block_haste.proofs.tally.Tally.has.Goals as goal

pub returns-clause-stands : goal.returns-clause-stands
returns-clause-stands c =
    let count : c.count_of.result ≡ count_by (key_eq c.args.key) c.args.self.now =
    c.count_of.ensures ∙ c.self.invariant c.args.key ∙ ap (λ (l : List Key). count_by (key_eq c.args.key) l) c.self.view_is in
    ap (λ n. nat_lt 0 n) count

pub returns-clause-somewhere : goal.returns-clause-somewhere
returns-clause-somewhere c =
    let count : c.count_of.result ≡ count_by (key_eq c.args.key) c.args.self.now =
    c.count_of.ensures ∙ c.self.invariant c.args.key ∙ ap (λ (l : List Key). count_by (key_eq c.args.key) l) c.self.view_is in
    has_key c.args.self.now c.args.key c.count_of.result count
