-- A search begins with the names, and goes on by the steps of one set after another.
use Rattle.std.proofs.Common.{◌≡◌, ℕ, ◌+◌, ◌<◌, ◌≤◌, inl, inr, List, [], ◌∷◌, length, map, Some, All, Contains, refl}
use Rattle.std.proofs.Common.{sym, ap, ◌∙◌, subst, arith, length-append}
use Rattle.std.specs.List.{slice_get}
use Rattle.std.proofs.lemmas.Bool.{cases_lt}
use Rattle.std.proofs.lemmas.List.{length-map, map-append}
use Rattle.std.proofs.lemmas.List.Elements.{All-contains}
use Rattle.std.proofs.lemmas.Option.{slice_get_within}
use Rattle.lore_base.specs.Lists.{Extends}
use Rattle.lore_base.specs.Names.{IsNameTable}
use Rattle.lore_base.proofs.MemberLaws.{Contains-none}
use Rattle.list_laws.proofs.MemberLaws.{All-from_members, Contains-map, Contains-from_map}
use Rattle.list_laws.proofs.PlaceLaws.{Contains-from_place, pair_at}
use Rattle.list_laws.proofs.PartLaws.{map-map}
use Rattle.set_explorer.specs.Types.{Oid, Label, Edge, Node, GuideNode}
use Rattle.lore_base.specs.TargetSets.{IsStep, LeavesTo, LeadsTo}
use Rattle.lore_base.specs.PathOrder.{ComesBefore}
use Rattle.set_explorer.specs.Nodes.{sets_of, HasSet, AscendByLabel}
use Rattle.set_steps.specs.SetSteps.{AreSteps}
use Rattle.set_explorer.specs.inside.Entering.{AreEntered}
use Rattle.set_explorer.specs.inside.Trails.{TrailStop, longer, IsMet, IsTrail, HasRow, IsDone, IsSearched, IsExpanded}
use Rattle.set_explorer.proofs.PathOrder.{before-longer, before-trans}
use Rattle.set_steps.proofs.PlaceLaws.{at-grown, at-front, at-map, at-unmap}
use Rattle.set_steps.proofs.PlaceLaws.{zip-left, zip-right}
use Rattle.set_explorer.proofs.TrailLaws.{set_of, IsGrown, trail-entered, met-extends}
use Rattle.set_explorer.proofs.StopLaws.{stop_of, named_stop, stops-lead, stops-ascend, names-lead, names-ascend}
use Rattle.set_explorer.proofs.StopLaws.{row-ascends}

-- a node that has a set keeps it while nodes are put behind
pub set-extends : (nodes new : List GuideNode) (node : Node) (set : List Oid) → Extends nodes new
    → HasSet nodes node set → HasSet new node set
set-extends nodes new node set extends has =
    let there = at-unmap (λ (n : GuideNode). n.set) nodes node.0 set has in
    at-map (λ (n : GuideNode). n.set) new node.0 there.0
    (at-grown nodes extends.0 new node.0 there.0 extends.1 there.1) ∙ ap Some there.2

module _ (names : List (List ℕ × Oid)) (edges : List Edge) where
  nothing : IsTrail names edges [] []
  nothing = record {
    found = refl;
    leads = λ k d within. absurd (omega (arith, within));
    ascending = λ i j d less within. absurd (omega (arith, within));
    apart = λ i j d less within. absurd (omega (arith, within));
  }

  -- with the names' objects entered the search begins
  pub searched-start : (nodes : List GuideNode) → IsNameTable names
      → AreEntered [] (map (λ named. named.1 ∷ []) names) (sets_of nodes) → IsSearched names edges nodes 0
  searched-start nodes table entered =
      let grown =
      trail-entered names edges (map named_stop names) [] [] (sets_of nodes) nothing (names-lead names edges)
      (names-ascend names table)
      (λ earlier later none in_names. absurd (Contains-none earlier none))
      (subst (λ (l : List (List Oid)). AreEntered [] l (sets_of nodes)) (sym (map-map named_stop set_of names))
      entered) in
      record {
        trail = grown.grown;
        is = grown.is;
        started = All-from_members (λ (named : List ℕ × Oid). IsMet grown.grown (named_stop named)) names
            (λ named there. grown.met (named_stop named) (Contains-map named_stop names named there));
        done = λ place stop less at. absurd (omega (arith, less));
        rows = λ place node less at. absurd (omega (arith, less));
        ahead = λ stop label at. All-from_members (λ (earlier : TrailStop). ComesBefore earlier.path (longer stop.path label))
            grown.grown
            (λ earlier there. elim (grown.from earlier there) [
              | inl none ↦ absurd (Contains-none earlier none)
              | inr begun ↦ (
                  let named = Contains-from_map named_stop names earlier begun in
                  subst (λ (s : TrailStop). ComesBefore s.path (longer stop.path label)) named.2
                  (inl (omega (arith, length-append stop.path.word (label ∷ [])))))
            ]);
      }

  module _ (nodes new : List GuideNode) (n : ℕ) (before : IsSearched names edges nodes n)
      (now : IsExpanded edges nodes n new) where
    -- the stop whose steps were entered
    stop_at : (stop : TrailStop) × (slice_get before.trail n ≡ Some stop) × (stop.set ≡ now.set)
    stop_at =
        at-unmap set_of before.trail n now.set (subst (λ (l : List (List Oid)). slice_get l n ≡ Some now.set)
        (sym before.is.found) now.at)

    within : n < length before.trail
    within = slice_get_within before.trail n stop_at.0 stop_at.1

    steps_are : AreSteps edges stop_at.0.set now.steps
    steps_are = subst (λ (l : List Oid). AreSteps edges l now.steps) (sym stop_at.2) now.are

    leads_there : LeadsTo names edges stop_at.0.path stop_at.0.set
    leads_there =
        All-contains (λ (stop : TrailStop). LeadsTo names edges stop.path stop.set) before.trail stop_at.0 before.is.leads
        (Contains-from_place before.trail n stop_at.0 stop_at.1)

    grown : IsGrown names edges before.trail (map (stop_of stop_at.0.path) now.steps) (sets_of now.between)
    grown =
        trail-entered names edges (map (stop_of stop_at.0.path) now.steps) before.trail (sets_of nodes)
        (sets_of now.between) before.is
        (stops-lead names edges stop_at.0.path stop_at.0.set now.steps leads_there steps_are)
        (stops-ascend edges stop_at.0.path stop_at.0.set now.steps steps_are)
        (λ earlier later in_trail in_steps.
        let step = Contains-from_map (stop_of stop_at.0.path) now.steps later in_steps in
        subst (λ (s : TrailStop). ComesBefore earlier.path s.path) step.2
        (All-contains (λ (s : TrailStop). ComesBefore s.path (longer stop_at.0.path step.0.0)) before.trail earlier
        (before.ahead stop_at.0 step.0.0 stop_at.1) in_trail))
        (subst (λ (l : List (List Oid)). AreEntered (sets_of nodes) l (sets_of now.between))
        (sym (map-map (stop_of stop_at.0.path) set_of now.steps)) now.entered)

    trail_at : (place : ℕ) (stop : TrailStop) → place < length before.trail → slice_get grown.grown place ≡ Some stop
        → slice_get before.trail place ≡ Some stop
    trail_at place stop less at =
        at-front before.trail grown.extends.0 place stop less
        (subst (λ (l : List TrailStop). slice_get l place ≡ Some stop) grown.extends.1 at)

    stop_stays : slice_get grown.grown n ≡ Some stop_at.0
    stop_stays = at-grown before.trail grown.extends.0 grown.grown n stop_at.0 grown.extends.1 stop_at.1

    -- all steps of the stop are met now
    done-here : IsDone edges grown.grown stop_at.0
    done-here label oid leaves =
        let step = steps_are.all label oid leaves in (
          step.0,
          All-contains (λ (s : Label × List Oid). IsStep edges stop_at.0.set s.0 s.1) now.steps (label, step.0)
              steps_are.sets step.1,
          grown.met (stop_of stop_at.0.path (label, step.0))
              (Contains-map (stop_of stop_at.0.path) now.steps (label, step.0) step.1),
        )

    done-more : (place : ℕ) (stop : TrailStop) → place < n + 1 → slice_get grown.grown place ≡ Some stop
        → IsDone edges grown.grown stop
    done-more place stop less at = elim (cases_lt place n) [
      | inl early ↦ λ label oid leaves. (
          let earlier =
          before.done place stop early (trail_at place stop (omega (arith, within, early)) at) label oid leaves in (
            earlier.0,
            earlier.1,
            met-extends before.trail grown.grown
                (record { path = longer stop.path label; set = earlier.0 }) grown.extends earlier.2,
          ))
      | inr late ↦ (
          let here : place ≡ n = omega (arith, late, less) in
          let same : stop_at.0 ≡ stop =
          (let both : Some stop_at.0 ≡ Some stop = sym stop_stays ∙ sym (ap (λ k. slice_get grown.grown k) here)
          ∙ at in cc) in
          subst (λ (s : TrailStop). IsDone edges grown.grown s) same done-here)
    ]

    -- nodes that have a set have it now
    set-stays : (node : Node) (set : List Oid) → HasSet now.between node set → HasSet new node set
    set-stays node set has = subst (λ (l : List (List Oid)). slice_get l node.0 ≡ Some set) (sym now.sets) has

    row-stays : (node : GuideNode) → HasRow edges nodes node → HasRow edges new node
    row-stays node row = record {
      ascending = row.ascending;
      sound = λ label next there. (
          let from = row.sound label next there in
          (from.0, set-stays next from.0 (set-extends nodes now.between next from.0 now.kept from.1), from.2));
      all = row.all;
    }

    abbrev RowFits : Label × List Oid → Label × Node → Type 0
    RowFits step edge = (edge.0 ≡ step.0) × HasSet now.between edge.1 step.1

    row-here : (node : GuideNode) → node.set ≡ now.set → node.edges ≡ now.row → HasRow edges new node
    row-here node set_is row_is = record {
      ascending =
          subst (λ (l : List (Label × Node)). AscendByLabel l) (sym row_is)
          (row-ascends RowFits (λ step edge fits. fits.0) now.steps now.row now.placed now.are.ascend);
      sound = λ label next there. (
          let from =
          zip-right RowFits now.steps now.row (label, next) now.placed
          (subst (λ (l : List (Label × Node)). Contains l (label, next)) row_is there) in
          let step =
          All-contains (λ (s : Label × List Oid). IsStep edges now.set s.0 s.1) now.steps from.0 now.are.sets from.1 in (
            from.0.1,
            set-stays next from.0.1 from.2.1,
            subst (λ (l : List Oid). IsStep edges l label from.0.1) (sym set_is)
                (subst (λ (l : Label). IsStep edges now.set l from.0.1) (sym from.2.0) step),
          ));
      all = λ label oid leaves. (
          let step = now.are.all label oid (subst (λ (l : List Oid). LeavesTo edges l label oid) set_is leaves) in
          let edge = zip-left RowFits now.steps now.row (label, step.0) now.placed step.1 in (
            edge.0.1,
            subst (λ (l : List (Label × Node)). Contains l (label, edge.0.1)) (sym row_is)
                (subst (λ (l : Label). Contains now.row (l, edge.0.1)) edge.2.0 edge.1),
          ));
    }

    set-here : (node : GuideNode) → slice_get new n ≡ Some node → node.set ≡ now.set
    set-here node at =
        let here : slice_get (sets_of new) n ≡ Some node.set = at-map (λ (g : GuideNode). g.set) new n node at in
        let there : HasSet new (record { 0 = n }) now.set =
        set-stays (record { 0 = n }) now.set (set-extends nodes now.between (record { 0 = n }) now.set now.kept
        now.at) in
        let both : Some node.set ≡ Some now.set = sym here ∙ there in
        cc

    rows-more : (place : ℕ) (node : GuideNode) → place < n + 1 → slice_get new place ≡ Some node → HasRow edges new node
    rows-more place node less at = elim (cases_lt place n) [
      | inl early ↦ (
          let between : slice_get now.between place ≡ Some node =
          sym (now.others place (λ same. omega (arith, early, same))) ∙ at in
          let few : n < length nodes =
          omega (
            arith,
            slice_get_within (sets_of nodes) n now.set now.at,
            length-map nodes
                (λ (g : GuideNode). g.set),
          ) in
          row-stays node (before.rows place node early
          (at-front nodes now.kept.0 place node (omega (arith, early, few))
          (subst (λ (l : List GuideNode). slice_get l place ≡ Some node) now.kept.1 between))))
      | inr late ↦ (
          let here : place ≡ n = omega (arith, late, less) in
          let at_n : slice_get new n ≡ Some node = subst (λ (k : ℕ). slice_get new k ≡ Some node) here at in
          row-here node (set-here node at_n) (now.put node at_n))
    ]

    ahead-more : (stop : TrailStop) (label : Label) → slice_get grown.grown (n + 1) ≡ Some stop
        → All (λ earlier. ComesBefore earlier.path (longer stop.path label)) grown.grown
    ahead-more stop label at =
        let rises : ComesBefore stop_at.0.path stop.path =
        pair_at (λ (a b : TrailStop). ComesBefore a.path b.path) grown.grown n (n + 1) stop_at.0 stop grown.is.ascending
        (omega arith) stop_stays at in
        All-from_members (λ (earlier : TrailStop). ComesBefore earlier.path (longer stop.path label)) grown.grown
        (λ earlier there. elim (grown.from earlier there) [
          | inl old ↦ before-trans earlier.path (longer stop_at.0.path label) (longer stop.path label)
              (All-contains (λ (s : TrailStop). ComesBefore s.path (longer stop_at.0.path label)) before.trail earlier
              (before.ahead stop_at.0 label stop_at.1) old)
              (before-longer stop_at.0.path stop.path label label rises)
          | inr begun ↦ (
              let step = Contains-from_map (stop_of stop_at.0.path) now.steps earlier begun in
              subst (λ (s : TrailStop). ComesBefore s.path (longer stop.path label)) step.2
              (before-longer stop_at.0.path stop.path step.0.0 label rises))
        ])

    pub searched-more : IsSearched names edges new (n + 1)
    searched-more = record {
      trail = grown.grown;
      is = subst (λ (l : List (List Oid)). IsTrail names edges grown.grown l) (sym now.sets) grown.is;
      started = All-from_members (λ (named : List ℕ × Oid). IsMet grown.grown (named_stop named)) names
          (λ named there. met-extends before.trail grown.grown (named_stop named) grown.extends
          (All-contains (λ (named : List ℕ × Oid). IsMet before.trail (named_stop named)) names named before.started
          there));
      done = done-more;
      rows = rows-more;
      ahead = ahead-more;
    }

-- the sets of a node table grow with it
pub sets-extend : (nodes new : List GuideNode) → Extends nodes new → Extends (sets_of nodes) (sets_of new)
sets-extend nodes new extends =
    (sets_of extends.0, ap sets_of extends.1 ∙ map-append (λ (n : GuideNode). n.set) nodes extends.0)

pub sets-length : (nodes new : List GuideNode) → sets_of new ≡ sets_of nodes → length new ≡ length nodes
sets-length nodes new same =
    sym (length-map new (λ (n : GuideNode). n.set)) ∙ ap length same ∙ length-map nodes (λ (n : GuideNode). n.set)

module _ (edges : List Edge) (nodes new : List GuideNode) (n : ℕ) (now : IsExpanded edges nodes n new) where
  pub expanded-sets : Extends (sets_of nodes) (sets_of new)
  expanded-sets = let grown = sets-extend nodes now.between now.kept in (grown.0, now.sets ∙ grown.1)

  pub expanded-stays : (node : Node) (set : List Oid) → HasSet nodes node set → HasSet new node set
  expanded-stays node set has =
      subst (λ (l : List (List Oid)). slice_get l node.0 ≡ Some set) (sym now.sets)
      (set-extends nodes now.between node set now.kept has)

  pub expanded-more : length nodes ≤ length new
  expanded-more =
      omega (arith, ap length now.kept.1, length-append nodes now.kept.0, sets-length now.between new now.sets)
