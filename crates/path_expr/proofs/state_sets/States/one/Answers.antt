use Rattle.std.proofs.Common.{◌≡◌, ◌↔◌, ◌*◌, ◌^◌, ◌%◌, ℕ, subst, sym}
use Rattle.std.specs.Int.{bit_at}
use Rattle.path_expr.proofs.StateLaws.{bit_of_one}
use Rattle.path_expr.proofs.state_sets.States.one.Goals as goal

pub returns : goal.returns
returns c = λ other. subst (λ (k : ℕ). (bit_at (1 * 2 ^ k % 2 ^ 128) other ≡ 1) ↔ (other ≡ c.args.state)) (sym c.from.ensures) (bit_of_one c.args.state other c.requires)
