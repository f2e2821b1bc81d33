-- What vanishes with changes leads to no target set.
use Rattle.lore_base.specs.declared.change_set.Changes.{Changes}
use Rattle.lore_base.specs.Databases.{OemGraph}
use Rattle.lore_base.specs.ChangeSets.{IsGraphAfter}
use Rattle.dataguide.specs.GuideLaws.{AgreeWhereReached, VanishedEdgesLeadNowhere}
use Rattle.dataguide.proofs.SameTargets.{reached_edges_decide}

-- of the edges then, those are left that leave what names walk to
pub left-agree : (before : OemGraph) (changes : Changes) (after : OemGraph)
    (is : IsGraphAfter before changes after) → AgreeWhereReached after.names is.between after.edges
left-agree before changes after is edge reached = (
  λ there. (is.edges edge).1 (
    there,
    record {
      name = reached.name;
      start = reached.start;
      word = reached.word;
      named = (is.names (reached.name, reached.start)).0 reached.named;
      walked = reached.walked;
    },
  ),
  λ there. ((is.edges edge).0 there).0,
)

pub vanished_edges_lead_nowhere : VanishedEdgesLeadNowhere
vanished_edges_lead_nowhere before changes after is =
    reached_edges_decide after.names is.between after.edges (left-agree before changes after is)
