-- What walks along a finite list of edges lead to from listed objects can be listed.
use Rattle.std.proofs.Common.{◌≡◌, inl, inr, List, [], ◌∷◌, ◌++◌, refl, sym, ap, subst}
use Rattle.std.specs.List.{Contains}
use Rattle.std.proofs.lemmas.List.Elements.{Contains-append_left, Contains-append_right, Contains-append_cases}
use Rattle.oem_changes.specs.Types.{Oid, Label, Edge}
use Rattle.lore_base.specs.Walks.{Walk, edge_of}
use Rattle.lore_base.proofs.MemberLaws.{Contains-none, Contains-head, Contains-tail, Contains-cases, Contains-same}
use Rattle.lore_base.proofs.WalkLaws.{Walk-within, Walk-append}
use Rattle.lore_base.proofs.ToldLaws.{IsTold, told_member, told_oid, told_same}

-- what each edge of a walk keeps holds at its end, if it holds at its start
pub kept_walk : (edges : List Edge) (P : Oid → Type 0)
    → ((edge : Edge) → Contains edges edge → P edge.parent → P edge.child)
    → (word : List Label) (x y : Oid) → Walk edges x word y → P x → P y
kept_walk edges P keeps [] x y same start = subst P same start
kept_walk edges P keeps (label ∷ word) x y walk start =
    kept_walk edges P keeps word walk.0 y walk.2 (keeps (edge_of x label walk.0) walk.1 start)

-- some walk leads from one of the starts to the object
pub record IsWalkedTo (edges : List Edge) (starts : List Oid) (oid : Oid) : Type 0 where
  pub start : Oid
  pub word : List Label
  pub starts_there : Contains starts start
  pub walked : Walk edges start word oid

-- the list has the starts and what edges lead to from its objects, and nothing that no walk leads to
pub record HasWalkedTo (edges : List Edge) (starts found : List Oid) : Type 0 where
  pub started : (oid : Oid) → Contains starts oid → Contains found oid
  pub closed : (edge : Edge) → Contains edges edge → Contains found edge.parent → Contains found edge.child
  pub sound : (oid : Oid) → Contains found oid → IsWalkedTo edges starts oid

module _ (edge : Edge) (edges : List Edge) (starts : List Oid) where
  walked_more : (oid : Oid) → IsWalkedTo edges starts oid → IsWalkedTo (edge ∷ edges) starts oid
  walked_more oid h = record {
    start = h.start;
    word = h.word;
    starts_there = h.starts_there;
    walked = Walk-within edges (edge ∷ edges) (Contains-tail edge edges) h.start h.word oid h.walked;
  }

  -- an edge more, whose parent isn't in the list
  has_without : (found : List Oid) → HasWalkedTo edges starts found → (Contains found edge.parent → ⊥)
      → HasWalkedTo (edge ∷ edges) starts found
  has_without found has apart = record {
    started = has.started;
    closed = λ other at parent. elim (Contains-cases edge edges other at) [
      | inl same ↦ absurd (apart
          (Contains-same found other.parent edge.parent (sym (ap (λ (e : Edge). e.parent) same)) parent))
      | inr old ↦ has.closed other old parent
    ];
    sound = λ oid at. walked_more oid (has.sound oid at);
  }

  -- an edge more, whose parent is in the list, and what its child leads to
  has_with : (found more : List Oid) → HasWalkedTo edges starts found → Contains found edge.parent
      → HasWalkedTo edges (edge.child ∷ []) more → HasWalkedTo (edge ∷ edges) starts (found ++ more)
  has_with found more has there behind = record {
    started = λ oid at. Contains-append_left found more oid (has.started oid at);
    closed = λ other at parent. elim (Contains-cases edge edges other at) [
      | inl same ↦ Contains-append_right found more other.child
          (Contains-same more edge.child other.child (ap (λ (e : Edge). e.child) same)
          (behind.started edge.child (Contains-head edge.child [])))
      | inr old ↦ elim (Contains-append_cases found more other.parent parent) [
        | inl left ↦ Contains-append_left found more other.child (has.closed other old left)
        | inr right ↦ Contains-append_right found more other.child (behind.closed other old right)
      ]
    ];
    sound = λ oid at. elim (Contains-append_cases found more oid at) [
      | inl left ↦ walked_more oid (has.sound oid left)
      | inr right ↦ (
          let front = walked_more edge.parent (has.sound edge.parent there) in
          let last = behind.sound oid right in
          let child : edge.child ≡ last.start = elim (Contains-cases edge.child [] last.start last.starts_there) [
            | inl same ↦ same
            | inr none ↦ absurd (Contains-none last.start none)
          ] in
          let rest : Walk (edge ∷ edges) edge.child last.word oid = subst
          (λ (o : Oid). Walk (edge ∷ edges) o last.word oid) (sym child)
          (Walk-within edges (edge ∷ edges) (Contains-tail edge edges) last.start last.word oid last.walked) in
          record {
            start = front.start;
            word = front.word ++ edge.label ∷ last.word;
            starts_there = front.starts_there;
            walked = Walk-append (edge ∷ edges) front.start front.word edge.parent
                (edge.label ∷ last.word) oid front.walked
                (edge.child, Contains-head edge edges, rest);
          })
    ];
  }

some_walked_to : (edges : List Edge) (starts : List Oid) → (found : List Oid) × HasWalkedTo edges starts found
some_walked_to [] starts = (
  starts,
  record {
    started = λ oid at. at;
    closed = λ edge at parent. absurd (Contains-none edge at);
    sound = λ oid at. record { start = oid; word = []; starts_there = at; walked = refl };
  },
)
some_walked_to (edge ∷ edges) starts =
    let first = some_walked_to edges starts in
    elim (told_member told_oid first.0 edge.parent) [
      | inr apart ↦ (first.0, has_without edge edges starts first.0 first.1 apart)
      | inl there ↦ (
          let behind = some_walked_to edges (edge.child ∷ []) in
          (first.0 ++ behind.0, has_with edge edges starts first.0 behind.0 first.1 there behind.1))
    ]

-- so it can be told of each object whether some walk leads to it
pub told_walked : (edges : List Edge) (starts : List Oid) (oid : Oid) → IsTold (IsWalkedTo edges starts oid)
told_walked edges starts oid =
    let list = some_walked_to edges starts in
    told_same (list.1.sound oid)
    (λ (h : IsWalkedTo edges starts oid). kept_walk edges (Contains list.0) list.1.closed h.word h.start oid h.walked
    (list.1.started h.start h.starts_there))
    (told_member told_oid list.0 oid)
