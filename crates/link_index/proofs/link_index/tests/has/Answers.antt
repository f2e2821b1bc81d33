use Rattle.std.proofs.Common.{◌≡◌, ◌↔◌, ◌==◌, ◌&&◌, Bool, true, None, List, ◌++◌, Contains, refl, ap, subst, ◌∙◌, arith}
use Rattle.std.specs.Bool.{Decides}
use Rattle.std.specs.List.{IsAnyAnswer}
use Rattle.std.proofs.lemmas.Bool.Decides.{nat_tests}
use Rattle.std.proofs.lemmas.List.Elements.{contains_decides, Decides-contains}
use Rattle.lore_base.specs.Walks.{ListsEntering}
use Rattle.index_traits.proofs.ObjectLaws.{same_oid, same_label}
use Rattle.link_index.specs.Types.{Edge}
use Rattle.link_index.proofs.link_index.tests.has.Goals as goal

abbrev is_same : Edge → Edge → Bool
is_same a b = (a.parent.0 == b.parent.0) && ((a.label.0 == b.label.0) && (a.child.0 == b.child.0))

same_decides : (a b : Edge) → Decides (is_same a b) (a ≡ b)
same_decides a b = (
  λ h.
      let parent : (a.parent.0 == b.parent.0) ≡ true = grind (arith, nat_tests) in
      let label : (a.label.0 == b.label.0) ≡ true = grind (arith, nat_tests) in
      let child : (a.child.0 == b.child.0) ≡ true = grind (arith, nat_tests) in
      λ i. record { parent = same_oid a.parent b.parent parent i; label = same_label a.label b.label label i; child = same_oid a.child b.child child i },
  λ same. subst (λ (x : Edge). is_same a x ≡ true) same self,
)
  where
    self : is_same a a ≡ true
    self = grind (arith, nat_tests)

found_decides : (found : List Edge) (edge : Edge) (answer : Bool) → IsAnyAnswer (λ y b. is_same y edge ≡ b) found answer → Decides answer (Contains found edge)
found_decides found edge answer told = Decides-contains found edge answer (contains_decides is_same same_decides found edge answer told)

-- the edge is among those that enter its child exactly where it is among all
among : (links found : List Edge) (edge : Edge) (answer : Bool) → ListsEntering links edge.child None found → IsAnyAnswer (λ y b. is_same y edge ≡ b) found answer
    → (answer ≡ true) ↔ Contains links edge
among links found edge answer lists told = (
  λ is. ((lists.exact edge).0 ((found_decides found edge answer told).0 is)).0,
  λ has. (found_decides found edge answer told).1 ((lists.exact edge).1 (has, refl, tt)),
)

pub returns : goal.returns
returns g c =
    let more = c.in_ok-parents.ensures.edges in
    let slice : c.as_slice.result.now ≡ more.0 = c.as_slice.ensures ∙ more.1 ∙ ap (λ (l : List Edge). l ++ more.0) c.new-found.ensures in
    among c.args.index.now.links more.0 c.args.edge.now c.contains.result more.2
    (subst (λ (l : List Edge). IsAnyAnswer (λ y b. is_same y c.args.edge.now ≡ b) l c.contains.result) slice c.contains.ensures.cases)
