-- Edges that leave what names don't walk to lead to no target set.
use Rattle.std.proofs.Common.{◌↔◌, ℕ, List, [], ◌∷◌, ◌++◌, Contains, refl}
use Rattle.std.proofs.lemmas.List.Elements.{All-weaker, All-contains}
use Rattle.lore_base.specs.Walks.{Walk, edge_of}
use Rattle.lore_base.specs.Databases.{IsReached}
use Rattle.lore_base.proofs.WalkLaws.{Walk-push}
use Rattle.lore_base.proofs.TargetLaws.{ListsInOrder-same}
use Rattle.list_laws.proofs.MemberLaws.{All-from_members, Contains-map}
use Rattle.lore_base.specs.TargetSets.{LabelPath, LeadsTo, IsLedTo, LeavesTo, AreTargetSets}
use Rattle.dataguide.specs.Types.{Oid, Label, Edge, GuideNode}
use Rattle.lore_base.specs.PathOrder.{IsLeastPath, AreInPathOrder}
use Rattle.lore_base.specs.GuideLimits.{FitsGuide, AreFirstSets, ExceedsNodes, ExceedsCells}
use Rattle.dataguide.specs.Guides.{GuideGraph, StandsFor}
use Rattle.set_explorer.specs.Nodes.{sets_of, HasItsSteps}
use Rattle.dataguide.specs.GuideLaws.{AgreeWhereReached, ReachedEdgesDecide}
use Rattle.set_steps.proofs.PlaceLaws.{AllZip-weaker}

-- what leads to sets by the one edges does so by the others
module _ (names : List (List ℕ × Oid)) (edges others : List Edge)
    (there : (path : LabelPath) (set : List Oid) → LeadsTo names edges path set → LeadsTo names others path set)
    (back : (path : LabelPath) (set : List Oid) → LeadsTo names others path set → LeadsTo names edges path set) where
  led-there : (set : List Oid) → IsLedTo names edges set → IsLedTo names others set
  led-there set led = (led.0, there led.0 set led.1)

  fits-there : (limit : ℕ) → FitsGuide limit names others → FitsGuide limit names edges
  fits-there limit fits sets apart led =
      fits sets apart (All-weaker (IsLedTo names edges) (IsLedTo names others) led-there sets led)

  targets-there : (sets : List (List Oid)) → AreTargetSets names edges sets → AreTargetSets names others sets
  targets-there sets are = record {
    apart = are.apart;
    exact = λ set. (
      λ at. led-there set ((are.exact set).0 at),
      λ led. (are.exact set).1 (led.0, back led.0 set led.1),
    );
  }

  least-there : (path : LabelPath) (set : List Oid) → IsLeastPath names edges path set
      → IsLeastPath names others path set
  least-there path set is = record {
    leads = there path set is.leads;
    least = λ other leads. is.least other (back other set leads);
  }

  order-there : (sets : List (List Oid)) → AreInPathOrder names edges sets → AreInPathOrder names others sets
  order-there sets are = record {
    paths = are.paths;
    least = AllZip-weaker (IsLeastPath names edges) (IsLeastPath names others) least-there are.paths sets
        are.least;
    ascending = are.ascending;
  }

  first-there : (sets : List (List Oid)) → AreFirstSets names edges sets → AreFirstSets names others sets
  first-there sets are = record {
    paths = are.paths;
    least = AllZip-weaker (IsLeastPath names edges) (IsLeastPath names others) least-there are.paths sets
        are.least;
    ascending = are.ascending;
    others = λ path set leads. are.others path set (back path set leads);
  }

  nodes-there : (limit : ℕ) → ExceedsNodes limit names edges → ExceedsNodes limit names others
  nodes-there limit passes = record {
    sets = passes.sets;
    next = passes.next;
    first = first-there (passes.sets ++ passes.next ∷ []) passes.first;
    kept = passes.kept;
    passed = passes.passed;
  }

  cells-there : (limit : ℕ) → ExceedsCells limit names edges → ExceedsCells limit names others
  cells-there limit passes = record {
    sets = passes.sets;
    next = passes.next;
    first = first-there (passes.sets ++ passes.next ∷ []) passes.first;
    kept = passes.kept;
    room = passes.room;
    passed = passes.passed;
  }

  module _ (leave : (set : List Oid) → IsLedTo names edges set → (label : Label) (oid : Oid)
      → LeavesTo edges set label oid ↔ LeavesTo others set label oid) where
    step-there : (nodes : List GuideNode) (node : GuideNode) → IsLedTo names edges node.set
        → HasItsSteps edges nodes node → HasItsSteps others nodes node
    step-there nodes node led has = record {
      ascending = has.ascending;
      exact = λ label next. (
        λ edge. (
            let step = (has.exact label next).0 edge in (
              step.0,
              step.1,
              ListsInOrder-same (LeavesTo edges node.set label) (LeavesTo others node.set label) step.0
                  (leave node.set led label) step.2,
            )),
        λ step. (has.exact label next).1 (
          step.0,
          step.1,
          ListsInOrder-same (LeavesTo others node.set label) (LeavesTo edges node.set label) step.0
              (λ oid. let both = leave node.set led label oid in (both.1, both.0)) step.2,
        ),
      );
    }

    stands-there : (guide : GuideGraph) → StandsFor guide names edges → StandsFor guide names others
    stands-there guide stands = record {
      nodes = targets-there (sets_of guide.nodes) stands.nodes;
      steps = All-from_members (HasItsSteps others guide.nodes) guide.nodes (λ node at.
          step-there guide.nodes node
          ((stands.nodes.exact node.set).0 (Contains-map (λ (n : GuideNode). n.set) guide.nodes node at))
          (All-contains (HasItsSteps edges guide.nodes) guide.nodes node stands.steps at));
      entries = stands.entries;
    }

module _ (names : List (List ℕ × Oid)) (edges others : List Edge)
    (agree : AgreeWhereReached names edges others) where
  -- where an edge leads to from what is reached is reached too
  reached-on : (x : Oid) (label : Label) (z : Oid) → IsReached names edges x
      → Contains edges (edge_of x label z) → IsReached names edges z
  reached-on x label z reached edge = record {
    name = reached.name;
    start = reached.start;
    word = reached.word ++ label ∷ [];
    named = reached.named;
    walked = Walk-push edges reached.start reached.word x label z reached.walked edge;
  }

  walk-there : (x : Oid) (word : List Label) (y : Oid) → IsReached names edges x → Walk edges x word y
      → Walk others x word y
  walk-there x [] y reached walked = walked
  walk-there x (label ∷ word) y reached walked = (
    walked.0,
    (agree (edge_of x label walked.0) reached).0 walked.1,
    walk-there walked.0 word y (reached-on x label walked.0 reached walked.1) walked.2,
  )

  walk-back : (x : Oid) (word : List Label) (y : Oid) → IsReached names edges x → Walk others x word y
      → Walk edges x word y
  walk-back x [] y reached walked = walked
  walk-back x (label ∷ word) y reached walked =
      let edge = (agree (edge_of x label walked.0) reached).1 walked.1 in
      (walked.0, edge, walk-back walked.0 word y (reached-on x label walked.0 reached edge) walked.2)

  start-reached : (name : List ℕ) (start : Oid) → Contains names (name, start) → IsReached names edges start
  start-reached name start named =
      record { name = name; start = start; word = []; named = named; walked = refl }

  walks-same : (name : List ℕ) (start : Oid) → Contains names (name, start) → (word : List Label) (oid : Oid)
      → Walk edges start word oid ↔ Walk others start word oid
  walks-same name start named word oid = (
    walk-there start word oid (start-reached name start named),
    walk-back start word oid (start-reached name start named),
  )

  leads-there : (path : LabelPath) (set : List Oid) → LeadsTo names edges path set
      → LeadsTo names others path set
  leads-there path set leads = record {
    start = leads.start;
    named = leads.named;
    target = ListsInOrder-same (Walk edges leads.start path.word) (Walk others leads.start path.word) set
        (walks-same path.name leads.start leads.named path.word) leads.target;
    some = leads.some;
  }

  leads-back : (path : LabelPath) (set : List Oid) → LeadsTo names others path set
      → LeadsTo names edges path set
  leads-back path set leads = record {
    start = leads.start;
    named = leads.named;
    target = ListsInOrder-same (Walk others leads.start path.word) (Walk edges leads.start path.word) set
        (λ oid. let both = walks-same path.name leads.start leads.named path.word oid in (both.1, both.0))
        leads.target;
    some = leads.some;
  }

  -- members of a target set are reached, so that the same edges leave them
  member-reached : (set : List Oid) → IsLedTo names edges set → (oid : Oid) → Contains set oid
      → IsReached names edges oid
  member-reached set led oid member = record {
    name = led.0.name;
    start = led.1.start;
    word = led.0.word;
    named = led.1.named;
    walked = (led.1.target.exact oid).0 member;
  }

  leaves-same : (set : List Oid) → IsLedTo names edges set → (label : Label) (oid : Oid)
      → LeavesTo edges set label oid ↔ LeavesTo others set label oid
  leaves-same set led label oid =
      let same = λ (from : Oid) (member : Contains set from).
      agree (edge_of from label oid) (member-reached set led from member) in (
        λ leaves. record {
          from = leaves.from;
          member = leaves.member;
          edge = (same leaves.from leaves.member).0 leaves.edge;
        },
        λ leaves. record {
          from = leaves.from;
          member = leaves.member;
          edge = (same leaves.from leaves.member).1 leaves.edge;
        },
      )

  leaves-back : (set : List Oid) → IsLedTo names others set → (label : Label) (oid : Oid)
      → LeavesTo others set label oid ↔ LeavesTo edges set label oid
  leaves-back set led label oid =
      let both = leaves-same set (led.0, leads-back led.0 set led.1) label oid in (both.1, both.0)

pub reached_edges_decide : ReachedEdgesDecide
reached_edges_decide names edges others agree =
    let there = leads-there names edges others agree in
    let back = leads-back names edges others agree in
    record {
      leads = λ path set. (there path set, back path set);
      fits = λ limit. (
        fits-there names others edges back there limit,
        fits-there names edges others there back limit,
      );
      nodes = λ limit. (
        nodes-there names edges others there back limit,
        nodes-there names others edges back there limit,
      );
      cells = λ limit. (
        cells-there names edges others there back limit,
        cells-there names others edges back there limit,
      );
      guides = λ guide. (
        stands-there names edges others there back (leaves-same names edges others agree) guide,
        stands-there names others edges back there (leaves-back names edges others agree) guide,
      );
      order = λ sets. (
        order-there names edges others there back sets,
        order-there names others edges back there sets,
      );
    }
