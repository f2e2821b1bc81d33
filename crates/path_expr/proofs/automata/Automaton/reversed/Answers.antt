use Rattle.std.proofs.Common.{◌≡◌, ◌+◌, ◌≤◌, ℕ, List, length, subst, sym, ap, ◌∙◌, arith}
use Rattle.path_expr.specs.Types.{States}
use Rattle.path_expr.specs.Machines.{Machine}
use Rattle.path_expr.proofs.ReverseLaws.{BeforeSoFar, before_more, reverses, accepts_backwards}
use Rattle.path_expr.proofs.automata.Automaton.reversed.Goals as goal

pub states-preserved : goal.states-preserved
states-preserved c =
    subst (λ (follow : List States). BeforeSoFar c.args.self.now follow (c.states.state + 1)) (sym c.in_ok-push.ensures.items)
    (before_more c.args.self.now c.states.follow.items c.states.state c.before-in-states.result c.states.invariant
    c.before-in-states.ensures.exact c.before-in-states.ensures.within)

pub returns : goal.returns
returns c =
    let machine = c.args.self.now in
    let back : Machine = record { leaves = c.in_ok-leaves.leaves.items; follow = c.states.follow.items; start = c.before-start.result } in
    let few : length machine.leaves ≤ 64 = subst (λ (m : Machine). length m.leaves ≤ 64) c.self.view_is c.self.invariant.few in
    let paired : length machine.follow ≡ length machine.leaves =
    subst (λ (m : Machine). length m.follow ≡ length m.leaves) c.self.view_is c.self.invariant.paired in
    let leaves : back.leaves ≡ machine.leaves = c.in_ok-leaves.ensures ∙ c.as_slice.ensures.value ∙ ap (λ (m : Machine). m.leaves) c.self.view_is in
    let before : BeforeSoFar machine back.follow (length machine.leaves) =
    subst (λ (count : ℕ). BeforeSoFar machine back.follow count) (omega arith) c.states.invariant in
    λ labels word. accepts_backwards labels machine back few (reverses machine back leaves before c.before-start.ensures.exact) paired word
