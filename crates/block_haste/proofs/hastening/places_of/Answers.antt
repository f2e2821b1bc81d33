use Rattle.std.proofs.Common.{◌≡◌, ℕ, ◌+◌, ◌<◌, ◌∷◌, ◌++◌, [], List, inl, inr, length, get_or, take, All, Contains, sym, ap, ◌∙◌, subst}
use Rattle.std.specs.Prelude.{slice_index_or}
use Rattle.std.proofs.lemmas.List.{take_more, take_all, get_or_default}
use Rattle.std.proofs.lemmas.List.Elements.{All-append, Contains-push_cases, Contains-append_left, Contains-append_right}
use Rattle.block_haste.proofs.hastening.places_of.Goals as goal

pub nodes-preserved : goal.nodes-preserved
nodes-preserved c =
    let nodes = c.args.nodes.now in
    let outs = c.args.outs.now in
    let i = c.nodes.node-index in
    let item = get_or nodes i 0 in
    let places = c.nodes.places.items in
    let own : List ℕ = slice_index_or outs item [] in
    let new = c.extend_from_slice.new.self.items in
    let inside : item < length outs = c.requires i 0 c.nodes-test.true in
    let grown : new ≡ places ++ own =
    c.in_ok-extend_from_slice.ensures.items
    ∙ ap (λ (l : List ℕ). places ++ l) (c.as_slice.ensures ∙ c.index-outs-node.is ∙ get_or_default outs item c.index-outs-node.result [] inside) in
    record {
      every = λ node place held at. elim (Contains-push_cases (take i nodes) item node (subst (λ (l : List ℕ). Contains l node) (take_more nodes i 0 c.nodes-test.true) held)) [
        | inl earlier ↦ subst (λ (l : List ℕ). Contains l place) (sym grown)
            (Contains-append_left places own place (c.nodes.invariant.every node place earlier at))
        | inr last ↦ subst (λ (l : List ℕ). Contains l place) (sym grown)
            (Contains-append_right places own place (subst (λ (k : ℕ). Contains (slice_index_or outs k []) place) (sym last) at))
      ];
      within = λ count all. subst (λ (l : List ℕ). All (λ place. place < count) l) (sym grown)
          (All-append (λ place. place < count) places own (c.nodes.invariant.within count all)
          (all item [] (c.requires i 0 c.nodes-test.true)));
    }

pub returns-clause-every : goal.returns-clause-every
returns-clause-every c node place held at =
    c.nodes.invariant.every node place
    (subst (λ (l : List ℕ). Contains l node) (sym (take_all c.nodes.node-index c.args.nodes.now c.nodes-test.false)) held) at
