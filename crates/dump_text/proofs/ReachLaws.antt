-- What names walk to is what a search from their objects finds.
use Rattle.std.proofs.Common.{◌≡◌, ◌↔◌, ℕ, zero, suc, ◌+◌, ◌<◌, inl, inr, Bool, List, [], ◌∷◌, ◌++◌, get_or, map, All, Contains, refl, sym, ◌∙◌, subst, arith}
use Rattle.std.specs.Bool.{IsTrue}
use Rattle.std.proofs.lemmas.List.Elements.{All-weaker, All-contains, Contains-get_or}
use Rattle.list_laws.proofs.MemberLaws.{Contains-map, Contains-from_map}
use Rattle.lore_base.specs.Walks.{edge_of}
use Rattle.lore_base.specs.Databases.{IsLinked, IsLive, IsReached}
use Rattle.lore_base.specs.TargetSets.{ListsInOrder}
use Rattle.lore_base.proofs.MemberLaws.{Contains-same}
use Rattle.lore_base.proofs.WalkLaws.{Walk-push}
use Rattle.object_search.specs.LowerParents.{IsLed, AreLed}
use Rattle.object_search.specs.Reached.{IsWalkedFrom}
use Rattle.dump_text.specs.Types.{Oid, Edge, Value, Complex}
use Rattle.dump_text.specs.inside.Noted.{IsNoted}

-- what is walked to from the objects of names is reached
pub walked_reached : (edges : List Edge) (names : List (List ℕ × Oid)) (oid : Oid)
    → IsWalkedFrom edges (map (λ entry. entry.1) names) oid ↔ IsReached names edges oid
walked_reached edges names oid = (
  λ walked.
      let entry = Contains-from_map (λ (e : List ℕ × Oid). e.1) names walked.0 walked.2 in
      record {
        name = (entry.0).0;
        start = walked.0;
        word = walked.1;
        named = subst (λ (o : Oid). Contains names ((entry.0).0, o)) entry.2 entry.1;
        walked = walked.3;
      },
  λ reached. (
    reached.start,
    reached.word,
    Contains-map (λ (e : List ℕ × Oid). e.1) names (reached.name, reached.start) reached.named,
    reached.walked,
  ),
)

pub reached_in_order : (edges : List Edge) (names : List (List ℕ × Oid)) (starts oids : List Oid) → starts ≡ map (λ entry. entry.1) names
    → ListsInOrder (IsWalkedFrom edges starts) oids → ListsInOrder (IsReached names edges) oids
reached_in_order edges names starts oids is lists =
    let walked : ListsInOrder (IsWalkedFrom edges (map (λ entry. entry.1) names)) oids =
    subst (λ (l : List Oid). ListsInOrder (IsWalkedFrom edges l) oids) is lists in
    record {
      ascending = walked.ascending;
      exact = λ oid.
          let reached = walked_reached edges names oid in
          (λ at. reached.0 ((walked.exact oid).0 at), λ h. (walked.exact oid).1 (reached.1 h));
    }

-- so objects that are among these are reached
pub among_reached : (names : List (List ℕ × Oid)) (edges : List Edge) (objects : List (Oid × Value)) (reached oids : List Oid) (answer : Bool)
    → ListsInOrder (IsReached names edges) reached → oids ≡ reached → IsTrue answer ↔ All (λ object. Contains oids object.0) objects
    → IsTrue answer ↔ All (λ object. IsReached names edges object.0) objects
among_reached names edges objects reached oids answer lists is tells = (
  λ yes. All-weaker (λ (o : Oid × Value). Contains oids o.0) (λ (o : Oid × Value). IsReached names edges o.0)
      (λ o at. (lists.exact o.0).0 (subst (λ (l : List Oid). Contains l o.0) is at)) objects (tells.0 yes),
  λ all. tells.1 (All-weaker (λ (o : Oid × Value). IsReached names edges o.0) (λ (o : Oid × Value). Contains oids o.0)
      (λ o h. subst (λ (l : List Oid). Contains l o.0) (sym is) ((lists.exact o.0).1 h)) objects all),
)

-- objects whose numbers are noted are led to
pub noted_led : (names : List (List ℕ × Oid)) (starts some : List Oid) (edges : List Edge) (objects : List (Oid × Value)) (first : ℕ) (noted read : List Bool)
    → some ≡ starts → starts ≡ map (λ entry. entry.1) names → read ≡ noted → AreLed some edges first noted
    → All (λ object. IsNoted read first object.0.0) objects → All (λ object. IsLed (map (λ entry. entry.1) names) edges object.0.0) objects
noted_led names starts some edges objects first noted read same is all led each =
    let own : AreLed (map (λ entry. entry.1) names) edges first read =
    subst (λ (l : List Bool). AreLed (map (λ entry. entry.1) names) edges first l) (sym all) (subst (λ (l : List Oid). AreLed l edges first noted) (same ∙ is) led) in
    All-weaker (λ (o : Oid × Value). IsNoted read first o.0.0) (λ (o : Oid × Value). IsLed (map (λ entry. entry.1) names) edges o.0.0)
    (λ o at. subst (IsLed (map (λ entry. entry.1) names) edges) at.2 (own at.0 at.1)) objects each

-- Where each object is led to by lower numbers, each is reached.
module _ (names : List (List ℕ × Oid)) (edges : List Edge) (objects : List (Oid × Value)) (linked : All (IsLinked objects) edges)
    (led : All (λ object. IsLed (map (λ entry. entry.1) names) edges object.0.0) objects) where
  number_reached : (bound : ℕ) (oid : Oid) → oid.0 < bound → IsLive objects oid → IsReached names edges oid
  number_reached zero oid low live = absurd (omega (arith, low))
  number_reached (suc bound) oid low live =
      elim (All-contains (λ (o : Oid × Value). IsLed (map (λ entry. entry.1) names) edges o.0.0) objects (oid, live.0) led live.1) [
        | inl start ↦
            let same : start.0 ≡ oid = (let is = start.2 in λ i. record { 0 = is i }) in
            let entry = Contains-from_map (λ (e : List ℕ × Oid). e.1) names start.0 start.1 in
            record {
              name = (entry.0).0;
              start = oid;
              word = [];
              named = subst (λ (o : Oid). Contains names ((entry.0).0, o)) (entry.2 ∙ same) entry.1;
              walked = refl;
            }
        | inr child ↦
            let edge = child.0 in
            let live_parent : IsLive objects edge.parent = (Complex, (All-contains (IsLinked objects) edges edge linked child.1).parent) in
            let parent = number_reached bound edge.parent (omega (arith, child.3, low)) live_parent in
            record {
              name = parent.name;
              start = parent.start;
              word = parent.word ++ edge.label ∷ [];
              named = parent.named;
              walked = Walk-push edges parent.start parent.word edge.parent edge.label oid parent.walked
                  (Contains-same edges edge (edge_of edge.parent edge.label oid) (let is = child.2 in λ i. record { parent = edge.parent; label = edge.label; child = record { 0 = is i } }) child.1);
            }
      ]

  pub led_reached : All (λ object. IsReached names edges object.0) objects
  led_reached k d within =
      number_reached ((get_or objects k d).0.0 + 1) (get_or objects k d).0 (omega arith) ((get_or objects k d).1, Contains-get_or objects k d within)
