use Rattle.std.proofs.Common.{◌++◌, List, Result, Ok, Err, IfOk, Contains, sym, subst}
use Rattle.std.proofs.lemmas.List.{map-append}
use Rattle.std.proofs.lemmas.List.Elements.{Contains-append_left}
use Rattle.std.proofs.lemmas.Result.{IfErr-weaker}
use Rattle.lore_base.specs.declared.edges.Oid.{Oid}
use Rattle.lore_base.specs.declared.edges.Edge.{Edge}
use Rattle.dataguide.specs.Touched.{parents_of}
use Rattle.dataguide.specs.Guides.{sets_of}
use Rattle.dataguide.specs.Deltas.{nodes_then}
use Rattle.dataguide.proofs.ReadBounds.{reads_are_within, some_reads_are_within}
use Rattle.guide_maintain.proofs.upkeep.plan.Goals as goal

-- what the lost edges leave is left by an edge that came or went
lost-parents : (lost fresh : List Edge) (oid : Oid) → Contains (parents_of lost) oid → Contains (parents_of (lost ++ fresh)) oid
lost-parents lost fresh oid at =
    subst (λ (l : List Oid). Contains l oid) (sym (map-append (λ (edge : Edge). edge.parent) lost fresh))
    (Contains-append_left (parents_of lost) (parents_of fresh) oid at)

ok-both : {T E : Type 0} (r : Result T E) (P Q R : T → Type 0) → ((x : T) → P x → Q x → R x) → IfOk r P → IfOk r Q → IfOk r R
ok-both (Ok x) P Q R both one other = both x one other
ok-both (Err e) P Q R both one other = tt

pub returns-clause-within : goal.returns-clause-within
returns-clause-within g c =
    let kept = sets_of c.args.guide.now.nodes in
    let lost = c.args.lost.now in
    let fresh = c.args.fresh.now in
    ok-both c.plan.result _ _ _ (λ delta stands reads.
    reads_are_within kept (parents_of lost) (parents_of fresh) (parents_of (lost ++ fresh)) c.args.names.now
    (g.A.Adjacent.edges c.args.after.now) (sets_of (nodes_then c.args.guide.now.nodes delta.nodes))
    c.args.steps.now c.plan.new.steps stands.nodes reads (lost-parents lost fresh))
    c.plan.ensures.guide c.plan.ensures.steps

pub returns-clause-refused : goal.returns-clause-refused
returns-clause-refused g c =
    let kept = sets_of c.args.guide.now.nodes in
    let lost = c.args.lost.now in
    let fresh = c.args.fresh.now in
    IfErr-weaker c.plan.result _ _ (λ fault reads no_memory.
    some_reads_are_within kept (parents_of lost) (parents_of fresh) (parents_of (lost ++ fresh)) c.args.limit c.args.names.now
    (g.A.Adjacent.edges c.args.after.now) c.args.steps.now c.plan.new.steps (reads no_memory) (lost-parents lost fresh))
    c.plan.ensures.reads
