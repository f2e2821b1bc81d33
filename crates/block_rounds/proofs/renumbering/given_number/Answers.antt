use Rattle.std.proofs.Common.{◌≡◌, ℕ, ◌+◌, ◌≤◌, ap, sym, length, arith, inr, subst, length-append}
use Rattle.indexmap.specs.IndexMap.{get}
use Rattle.block_rounds.specs.Given.{pair_eq}
use Rattle.block_rounds.specs.inside.Renumbering.{AreFresh}
use Rattle.block_rounds.proofs.RenumberLaws.{Keeps-updated, AreFresh-updated}
use Rattle.block_rounds.proofs.renumbering.given_number.Goals as goal

pub returns-in-Some-get-clause-fresh : goal.returns-in-Some-get-clause-fresh
returns-in-Some-get-clause-fresh c base below fresh = record {
  news = fresh;
  either = inr (fresh (c.args.number, c.in-Some.mark) c.in-Some-get.given.now (sym c.in-Some-get.ensures.value));
}

pub returns-in_ok-insert-in-None-clause-kept : goal.returns-in_ok-insert-in-None-clause-kept
returns-in_ok-insert-in-None-clause-kept c =
    Keeps-updated (get pair_eq c.args.fresh.now) (get pair_eq c.insert.new.self) (c.args.number, c.in-Some.mark) c.len-given.result
    c.in_ok-insert-in-None.ensures.updates.0 (sym c.in-None.ensures.value)

pub returns-in_ok-insert-in-None-clause-fresh : goal.returns-in_ok-insert-in-None-clause-fresh
returns-in_ok-insert-in-None-clause-fresh c base below fresh =
    let old = get pair_eq c.args.fresh.now in
    let new = get pair_eq c.insert.new.self in
    let count : c.len-given.result ≡ length c.args.heads.now.items = omega (arith, c.len-given.ensures, c.args.heads.now.ok.0) in
    let within : base ≤ c.len-given.result = omega arith in
    let grown : c.len-given.result + 1 ≡ length c.push.new.self.items = omega (arith, ap length c.in_ok-push-in-None.ensures.items, length-append {A = ℕ}) in
    let before : AreFresh base c.len-given.result old = subst (λ (n : ℕ). AreFresh base n old) (sym count) fresh in
    record {
      news = subst (λ (n : ℕ). AreFresh base n new) grown
          (AreFresh-updated old new (c.args.number, c.in-Some.mark) c.len-given.result c.in_ok-insert-in-None.ensures.updates.0 base within before);
      either = inr (within, omega arith);
    }
