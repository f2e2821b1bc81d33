-- A record joined to its list or parted from it, from the links that are set.
use Rattle.std.proofs.Common.{◌≡◌, ◌≢◌, ℕ, Option, Some, List, ◌∙◌, subst}
use Rattle.slab.specs.Slab.{Slab}
use Rattle.edge_lists.specs.Types.{Oid, Side, Way, Before, After, EdgeRecord, ObjectRecord}
use Rattle.near_links.specs.Links.{AreJoined, AreParted}
use Rattle.edge_lists.specs.Records.{link_at, SameEdges, IsRelinked}
use Rattle.edge_lists.specs.Objects.{head_of}
use Rattle.edge_lists.specs.Chains.{next_of, IsLed, IsLedBack, IsJoined, IsParted}

pub same-edges : (a b c : Slab EdgeRecord) → SameEdges a b → SameEdges b c → SameEdges a c
same-edges a b c one two = record {
  edges = λ key. two.edges key ∙ one.edges key;
  len = two.len ∙ one.len;
  capacity = two.capacity ∙ one.capacity;
}

before-after : ◌≢◌ {A = Way} Before After
before-after same = absurd (cc)

after-before : ◌≢◌ {A = Way} After Before
after-before same = absurd (cc)

pub joined-by : (side : Side) (key : ℕ) (owner : Oid) (place next : Option ℕ) (o0 o3 : List ObjectRecord) (r0 r1 r2 r3 r4 : Slab EdgeRecord)
    → next ≡ next_of side o0 r0 owner place
    → IsRelinked r0 side Before key place r1 → IsRelinked r1 side After key next r2
    → IsLed side owner place (Some key) o0 r2 o3 r3 → IsLedBack side next (Some key) r3 r4
    → place ≢ Some key → next ≢ Some key
    → IsJoined side key owner place o0 r0 o3 r4
joined-by side key owner place next o0 o3 r0 r1 r2 r3 r4 is back on led led_back apart new = record {
  edges = same-edges r0 r1 r4 back.edges (same-edges r1 r2 r4 on.edges (same-edges r2 r3 r4 led.edges led_back.edges));
  objects = led.objects;
  ascend = led.ascend;
  joined = subst
      (λ (n : Option ℕ). AreJoined key owner place n (link_at side After r0) (link_at side Before r0) (head_of side o0)
      (link_at side After r4) (link_at side Before r4) (head_of side o3)) is joined;
  others = λ s other. (
    λ way j. led_back.others s other way j ∙ (led.others s other).0 way j ∙ on.other_side s other way j ∙ back.other_side s other way j,
    (led.others s other).1,
  );
}
  where
    joined : AreJoined key owner place next (link_at side After r0) (link_at side Before r0) (head_of side o0)
        (link_at side After r4) (link_at side Before r4) (head_of side o3)
    joined = record {
      own_after = led_back.after key ∙ led.after key apart ∙ on.set;
      own_before = led_back.before key new ∙ led.before key ∙ on.other_way Before before-after key ∙ back.set;
      place_after = λ p at. led_back.after p ∙ led.placed p at;
      next_before = λ n at. led_back.set n at;
      other_after = λ j other elsewhere. led_back.after j ∙ led.after j elsewhere ∙ on.others j other After ∙ back.others j other After;
      other_before = λ j other elsewhere. led_back.before j elsewhere ∙ led.before j ∙ on.others j other Before ∙ back.others j other Before;
      head = led.head;
      kept_head = led.kept_head;
      other_heads = led.heads;
    }

pub parted-by : (side : Side) (key : ℕ) (owner : Oid) (place next : Option ℕ) (o0 o1 : List ObjectRecord) (r0 r1 r2 : Slab EdgeRecord)
    → place ≡ link_at side Before r0 key → next ≡ link_at side After r0 key
    → IsLed side owner place next o0 r0 o1 r1 → IsLedBack side next place r1 r2
    → IsParted side key owner o0 r0 o1 r2
parted-by side key owner place next o0 o1 r0 r1 r2 place_is next_is led led_back = record {
  edges = same-edges r0 r1 r2 led.edges led_back.edges;
  objects = led.objects;
  ascend = led.ascend;
  parted = subst
      (λ (p : Option ℕ). AreParted key owner p (link_at side After r0 key) (link_at side After r0) (link_at side Before r0) (head_of side o0)
      (link_at side After r2) (link_at side Before r2) (head_of side o1)) place_is
      (subst
      (λ (n : Option ℕ). AreParted key owner place n (link_at side After r0) (link_at side Before r0) (head_of side o0)
      (link_at side After r2) (link_at side Before r2) (head_of side o1)) next_is parted);
  others = λ s other. (
    λ way j. led_back.others s other way j ∙ (led.others s other).0 way j,
    (led.others s other).1,
  );
}
  where
    parted : AreParted key owner place next (link_at side After r0) (link_at side Before r0) (head_of side o0)
        (link_at side After r2) (link_at side Before r2) (head_of side o1)
    parted = record {
      place_after = λ p at. led_back.after p ∙ led.placed p at;
      next_before = λ n at. led_back.set n at;
      other_after = λ j other elsewhere. led_back.after j ∙ led.after j elsewhere;
      other_before = λ j other elsewhere. led_back.before j elsewhere ∙ led.before j;
      head = led.head;
      kept_head = led.kept_head;
      other_heads = led.heads;
    }
