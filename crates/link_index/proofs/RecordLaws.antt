-- Records of links in the lists of their children.
use Rattle.std.proofs.Common.{◌≡◌, ◌≢◌, ◌⊎◌, ℕ, ◌-◌, ◌<◌, Less, Equal, Greater, Option, Some, None, List, [], ◌∷◌, ◌++◌, length, get_or, set, take, drop, map, Contains, refl, sym, ap, ◌∙◌, inl, inr, subst, arith}
use Rattle.std.specs.Cmp.{IsTotalOrder}
use Rattle.std.specs.Option.{IfSome}
use Rattle.std.specs.Ordering.{ordering_reverse}
use Rattle.std.specs.declared.cmp.Ordering.{Ordering}
use Rattle.std.proofs.lemmas.Bool.{cases_eq, cases_lt}
use Rattle.std.proofs.lemmas.Bool.Decides.{nat_tests}
use Rattle.std.proofs.lemmas.Cmp.{nat_cmp_total, on_total, then_total}
use Rattle.std.proofs.lemmas.List.{get_or-set_same, get_or-set_other, length-set, get_or_past, get_or_append_left, get_or-append_right, length_push, get_or_default, length-map, take-append-le, take_all}
use Rattle.std.proofs.lemmas.List.Elements.{Contains-append_left, Contains-append_right, Contains-append_cases}
use Rattle.near_links.specs.Links.{IsNearest, IsAdded, IsRemoved, AreAtKeys, AreJoinedAhead, ArePartedAhead}
use Rattle.near_links.proofs.NearLaws.{IsOrder}
use Rattle.near_links.proofs.LinkLaws.{joined-ahead, parted-ahead}
use Rattle.near_links.proofs.AheadLaws.{some_same, none_some, next_nearest, next_is, place_here}
use Rattle.near_links.proofs.SlotLaws.{key_within}
use Rattle.link_index.specs.Types.{Oid}
use Rattle.link_index.specs.declared.link.Link.{Link}
use Rattle.link_index.specs.declared.records.LinkRecord.{LinkRecord}
use Rattle.link_index.specs.declared.heads.Head.{Head}
use Rattle.link_index.specs.inside.LinkEdges.{order}
use Rattle.link_index.specs.inside.Records.{link_in, nothing, edge_at, after_at, LiesAt, HasLink, child_of, Precedes, head_of, AreAscendingHeads, AreChained, IsStart, IsPlace, next_of, IsHeaded, IsLed, IsWritten, ArePut, AreTaken}
use Rattle.link_index.proofs.LinkLaws.{tied_link}

-- ---- the order of links
pub link_total : IsTotalOrder order
link_total = then_total (on_total (λ (l : Link). l.child.0) nat_cmp_total) (then_total (on_total (λ (l : Link). l.label.0) nat_cmp_total) (on_total (λ (l : Link). l.parent.0) nat_cmp_total))

pub link_self : (a : Link) → order a a ≡ Equal
link_self a = grind (arith, nat_tests)

-- how two links lie
lie : (a b : Link) → (order a b ≡ Less) ⊎ ((a ≡ b) ⊎ (order b a ≡ Less))
lie a b = at (order a b) refl
  where
    at : (o : Ordering) → order a b ≡ o → (order a b ≡ Less) ⊎ ((a ≡ b) ⊎ (order b a ≡ Less))
    at Less is = inl is
    at Equal is = inr (inl (tied_link a b is))
    at Greater is = inr (inr (link_total.antisymm b a ∙ ap ordering_reverse is))

pub less≢equal : ◌≢◌ {A = Ordering} Less Equal
less≢equal same = absurd (cc)

pub list_order : IsOrder child_of Precedes
list_order = record {
  owned = λ a b less. less.0;
  never = λ a less. less≢equal (sym less.1 ∙ link_self a);
  trans = λ a b c one two. (one.0 ∙ two.0, link_total.trans a b c one.1 two.1);
  total = λ a b same. elim (lie a b) [
    | inl less ↦ inl (same, less)
    | inr other ↦ elim other [ inl equal ↦ inr (inl equal) | inr more ↦ inr (inr (sym same, more)) ]
  ];
}

pub same_child : (a b : Oid) → (a ≡ b) ⊎ (a ≢ b)
same_child a b = elim (cases_eq a.0 b.0) [
  | inl same ↦ inl (ap (λ n. record { 0 = n }) same)
  | inr other ↦ inr (λ same. other (ap (λ (o : Oid). o.0) same))
]

pub lies_once : (records : List LinkRecord) → AreAtKeys (LiesAt records)
lies_once records k x y at_x at_y = some_same (sym at_x ∙ at_y)

pub lies_within : (records : List LinkRecord) (place : ℕ) (link : Link) → LiesAt records place link → place < length records
lies_within records place link lies = key_within link_in order link_total link_self nothing refl records place link lies

-- ---- what is written
pub led_record : (heads : List Head) (records : List LinkRecord) (child : Oid) (place : ℕ) (link : Option ℕ) (d : LinkRecord) → AreAscendingHeads heads → place < length records
    → IsLed child (Some place) link heads records heads (set records place (record (get_or records place d) { after = link }))
led_record heads records child place link d ascend lt = record {
  edges = λ k. elim (cases_eq k place) [
    | inl same ↦
        let here : get_or (set records place written) k nothing ≡ written = ap (λ n. get_or (set records place written) n nothing) same ∙ get_or-set_same records place written nothing lt in
        let there : get_or records place d ≡ get_or records k nothing = get_or_default records place d nothing lt ∙ ap (λ n. get_or records n nothing) (sym same) in
        ap link_in here ∙ ap (λ (r : LinkRecord). r.edge) there
    | inr other ↦ ap link_in (get_or-set_other records place k written nothing other)
  ];
  len = length-set records place written;
  children = refl;
  ascend = ascend;
  placed = λ p is.
      let here : get_or (set records place written) p nothing ≡ written = ap (λ n. get_or (set records place written) n nothing) (sym (some_same is)) ∙ get_or-set_same records place written nothing lt in
      ap (λ (r : LinkRecord). r.after) here;
  after = λ j other. ap (λ (r : LinkRecord). r.after) (get_or-set_other records place j written nothing (λ same. other (ap Some (sym same))));
  head = λ none. absurd (none_some (sym none));
  kept_head = λ p is. refl;
  heads = λ x other. refl;
}
  where
    written : LinkRecord
    written = record (get_or records place d) { after = link }

pub led_head : (heads new : List Head) (records : List LinkRecord) (child : Oid) (link : Option ℕ) → IsHeaded heads child link new
    → IsLed child None link heads records new records
led_head heads new records child link headed = record {
  edges = λ k. refl;
  len = refl;
  children = headed.children;
  ascend = headed.ascend;
  placed = λ p is. absurd (none_some is);
  after = λ j other. refl;
  head = λ none. headed.head;
  kept_head = λ p is. absurd (none_some is);
  heads = headed.others;
}

-- a free record is written over
pub written_over : (records : List LinkRecord) (place : ℕ) (written : LinkRecord) → place < length records → edge_at records place ≡ None
    → IsWritten records place written (set records place written)
written_over records place written lt free = record {
  vacant = free;
  within = omega (arith, lt, length-set records place written);
  set = get_or-set_same records place written nothing lt;
  others = λ j other. get_or-set_other records place j written nothing other;
}

-- a record is written behind the others
pub written_behind : (records : List LinkRecord) (written : LinkRecord) → IsWritten records (length records) written (records ++ written ∷ [])
written_behind records written = record {
  vacant = ap link_in (get_or_past records (length records) nothing (omega arith));
  within = omega (arith, length_push records written);
  set = get_or-append_right records (written ∷ []) (length records) (length records) nothing refl (omega arith) ∙ ap (λ n. get_or (written ∷ []) n nothing) zero_is;
  others = λ j other. elim (cases_lt j (length records)) [
    | inl lt ↦ get_or_append_left records (written ∷ []) nothing j lt
    | inr ge ↦ get_or_past (records ++ written ∷ []) j nothing (omega (arith, length_push records written, ge, other)) ∙ sym (get_or_past records j nothing ge)
  ];
}
  where
    zero_is : length records - length records ≡ 0
    zero_is = omega arith

-- ---- a link is put
pub place_written : (records new : List LinkRecord) (link : Link) (key : ℕ) (written : LinkRecord) (place : Option ℕ) → IsPlace records link place → IsWritten records key written new
    → IfSome place (λ p. p < length new)
place_written records new link key written None here put = tt
place_written records new link key written (Some p) here put =
    let other : p ≢ key = λ same. none_some (sym put.vacant ∙ subst (λ (n : ℕ). LiesAt records n here.0) same here.1) in
    lies_within new p here.0 (ap link_in (put.others p other) ∙ here.1)

pub put_one : (h0 h1 : List Head) (r0 r1 r2 : List LinkRecord) (link : Link) (place next : Option ℕ) (key : ℕ) → AreChained h0 r0 → (¬ HasLink r0 link)
    → IsPlace r0 link place → next ≡ next_of h0 r0 link.child place → IsWritten r0 key (record { edge = Some link; after = next }) r1
    → IsLed link.child place (Some key) h0 r1 h1 r2 → ArePut (link ∷ []) r0 h1 r2
put_one h0 h1 r0 r1 r2 link place next key chained new here next_at put led = record {
  ascend = led.ascend;
  chained = joined-ahead child_of Precedes list_order same_child (LiesAt r0) (LiesAt r2) (lies_once r0) (after_at r0) (head_of h0) chained key link added fresh
      place next here (subst (λ (l : Option ℕ). IsNearest (LiesAt r0) (λ y. Precedes link y) Precedes l) (sym next_at)
      (next_nearest child_of Precedes list_order (LiesAt r0) (lies_once r0) (after_at r0) (head_of h0) chained link fresh place here))
      (after_at r2) (head_of h1) join;
  links = λ x. (
    λ has. elim (added.only has.0 x has.1) [
      | inl old ↦ inl (has.0, old)
      | inr now ↦ inr (0, omega arith, sym now.1)
    ],
    λ either. elim either [
      | inl old ↦ (old.0, added.kept old.0 x old.1)
      | inr at ↦
          let first : at.0 ≡ 0 = omega (arith, at.1) in
          let is : link ≡ x = ap (λ n. get_or (link ∷ []) n x) (sym first) ∙ at.2 in
          (key, added.new ∙ ap Some is)
    ],
  );
  kept = added.kept;
}
  where
    fresh : (j : ℕ) (x : Link) → LiesAt r0 j x → x ≢ link
    fresh j x lies same = new (j, lies ∙ ap Some same)

    apart : (k : ℕ) (x : Link) → LiesAt r0 k x → k ≢ key
    apart k x lies same = none_some (sym put.vacant ∙ subst (λ (n : ℕ). LiesAt r0 n x) same lies)

    added : IsAdded (LiesAt r0) key link (LiesAt r2)
    added = record {
      kept = λ k x lies. led.edges k ∙ ap link_in (put.others k (apart k x lies)) ∙ lies;
      new = led.edges key ∙ ap link_in put.set;
      only = λ k x lies. elim (cases_eq k key) [
        | inl same ↦ inr (same, some_same (sym (subst (λ (n : ℕ). LiesAt r2 n x) same lies) ∙ led.edges key ∙ ap link_in put.set))
        | inr other ↦ inl (ap link_in (sym (put.others k other)) ∙ sym (led.edges k) ∙ lies)
      ];
      vacant = λ x lies. none_some (sym put.vacant ∙ lies);
    }

    place_apart : (o : Option ℕ) → IsPlace r0 link o → o ≢ Some key
    place_apart None none = λ same. none_some same
    place_apart (Some p) near = λ same. apart p near.0 near.1 (some_same same)

    join : AreJoinedAhead key link.child place next (after_at r0) (head_of h0) (after_at r2) (head_of h1)
    join = record {
      own_after = led.after key (place_apart place here) ∙ ap (λ (r : LinkRecord). r.after) put.set;
      place_after = led.placed;
      other_after = λ j other elsewhere. led.after j elsewhere ∙ ap (λ (r : LinkRecord). r.after) (put.others j other);
      head = led.head;
      kept_head = led.kept_head;
      other_heads = led.heads;
    }

pub put_more : (come : List Link) (link : Link) (h1 h2 : List Head) (r0 r1 r2 : List LinkRecord) → ArePut come r0 h1 r1 → ArePut (link ∷ []) r1 h2 r2
    → ArePut (come ++ link ∷ []) r0 h2 r2
put_more come link h1 h2 r0 r1 r2 all one = record {
  ascend = one.ascend;
  chained = one.chained;
  links = λ x. (
    λ has. elim ((one.links x).0 has) [
      | inl had ↦ elim ((all.links x).0 had) [ inl old ↦ inl old | inr at ↦ inr (Contains-append_left come (link ∷ []) x at) ]
      | inr at ↦ inr (Contains-append_right come (link ∷ []) x at)
    ],
    λ either. elim either [
      | inl old ↦ (one.links x).1 (inl ((all.links x).1 (inl old)))
      | inr at ↦ elim (Contains-append_cases come (link ∷ []) x at) [
        | inl earlier ↦ (one.links x).1 (inl ((all.links x).1 (inr earlier)))
        | inr here ↦ (one.links x).1 (inr here)
      ]
    ],
  );
  kept = λ k x lies. one.kept k x (all.kept k x lies);
}

-- a link is put behind the last one of its list
start_within : (old new : List LinkRecord) (link : Link) (key : ℕ) (written : LinkRecord) (place : ℕ) → IsStart old link (Some place) → IsWritten old key written new → place < length new
start_within old new link key written place start put =
    let other : place ≢ key = λ same. none_some (sym put.vacant ∙ subst (λ (n : ℕ). LiesAt old n start.0) same start.1) in
    lies_within new place start.0 (ap link_in (put.others place other) ∙ start.1)

pub put_behind : (heads : List Head) (r0 r1 : List LinkRecord) (link : Link) (place key : ℕ) (was : LinkRecord) → AreAscendingHeads heads → AreChained heads r0 → (¬ HasLink r0 link)
    → IsStart r0 link (Some place) → after_at r0 place ≡ None → IsWritten r0 key (record { edge = Some link; after = None }) r1 → was ≡ get_or r1 place was
    → ArePut (link ∷ []) r0 heads (set r1 place (record was { after = Some key }))
put_behind heads r0 r1 link place key was ascend chained new start last put is =
    subst (λ (r : LinkRecord). ArePut (link ∷ []) r0 heads (set r1 place (record r { after = Some key }))) (sym is)
    (put_one heads heads r0 r1 (set r1 place (record (get_or r1 place was) { after = Some key })) link (Some place) None key chained new
    (place_here child_of Precedes list_order (LiesAt r0) (lies_once r0) (after_at r0) (head_of heads) chained link (Some place) None start last tt)
    (sym last) put (led_record heads r1 link.child place (Some key) was ascend (start_within r0 r1 link key (record { edge = Some link; after = None }) place start put)))

-- ---- a link is taken
pub next_lies : (heads : List Head) (records : List LinkRecord) (link : Link) (place : Option ℕ) → AreChained heads records → IsPlace records link place → (has : HasLink records link)
    → next_of heads records link.child place ≡ Some has.0
next_lies heads records link place chained here has =
    next_is child_of Precedes list_order (LiesAt records) (lies_once records) (after_at records) (head_of heads) chained link has.0 has.1 place here

pub take_one : (h0 h1 : List Head) (r0 r1 r2 : List LinkRecord) (link : Link) (place : Option ℕ) (key : ℕ) (free : Option ℕ) → AreChained h0 r0 → IsPlace r0 link place → LiesAt r0 key link
    → IsLed link.child place (after_at r0 key) h0 r0 h1 r1 → r2 ≡ set r1 key (record { edge = None; after = free }) → AreTaken (link ∷ []) h0 r0 h1 r2
take_one h0 h1 r0 r1 r2 link place key free chained here lies led is = record {
  children = led.children;
  len = ap length is ∙ length-set r1 key (record { edge = None; after = free }) ∙ led.len;
  ascend = led.ascend;
  chained = parted-ahead child_of Precedes list_order same_child (LiesAt r0) (LiesAt r2) (lies_once r0) (after_at r0) (head_of h0) chained key link removed lies place here
      (after_at r2) (head_of h1) part;
  links = λ x. (
    λ has.
        let old = removed.only has.0 x has.1 in
        ((has.0, old.0), λ at. old.1 (chained.once has.0 key link (old.0 ∙ ap Some (sym (only_one x at))) lies)),
    λ both. (both.0.0, removed.kept both.0.0 x both.0.1 (apart both.0.0 x both.0.1 both.1)),
  );
  kept = λ k x at stays. removed.kept k x at (apart k x at stays);
}
  where
    only_one : (x : Link) → Contains (link ∷ []) x → link ≡ x
    only_one x at =
        let first : at.0 ≡ 0 = omega (arith, at.1) in
        ap (λ n. get_or (link ∷ []) n x) (sym first) ∙ at.2

    apart : (k : ℕ) (x : Link) → LiesAt r0 k x → (¬ Contains (link ∷ []) x) → k ≢ key
    apart k x at stays same =
        let link_is : link ≡ x = some_same (sym lies ∙ subst (λ (n : ℕ). LiesAt r0 n x) same at) in
        stays (0, omega arith, link_is)

    within : key < length r1
    within = omega (arith, lies_within r0 key link lies, led.len)

    slot : (j : ℕ) → j ≢ key → get_or r2 j nothing ≡ get_or r1 j nothing
    slot j other = ap (λ (r : List LinkRecord). get_or r j nothing) is ∙ get_or-set_other r1 key j (record { edge = None; after = free }) nothing other

    own : get_or r2 key nothing ≡ record { edge = None; after = free }
    own = ap (λ (r : List LinkRecord). get_or r key nothing) is ∙ get_or-set_same r1 key (record { edge = None; after = free }) nothing within

    removed : IsRemoved (LiesAt r0) key (LiesAt r2)
    removed = record {
      kept = λ k x at other. ap link_in (slot k other) ∙ led.edges k ∙ at;
      only = λ k x at. elim (cases_eq k key) [
        | inl same ↦ absurd (none_some (sym (ap link_in own) ∙ subst (λ (n : ℕ). LiesAt r2 n x) same at))
        | inr other ↦ (sym (led.edges k) ∙ ap link_in (sym (slot k other)) ∙ at, other)
      ];
    }

    part : ArePartedAhead key link.child place (after_at r0 key) (after_at r0) (head_of h0) (after_at r2) (head_of h1)
    part = record {
      place_after = λ p at. ap (λ (r : LinkRecord). r.after) (slot p (place_apart place here p at)) ∙ led.placed p at;
      other_after = λ j other elsewhere. ap (λ (r : LinkRecord). r.after) (slot j other) ∙ led.after j elsewhere;
      head = led.head;
      kept_head = led.kept_head;
      other_heads = led.heads;
    }
      where
        place_apart : (o : Option ℕ) → IsPlace r0 link o → (p : ℕ) → o ≡ Some p → p ≢ key
        place_apart None none p at = absurd (none_some at)
        place_apart (Some q) near p at = λ same.
            let there : LiesAt r0 key near.0 = subst (λ (n : ℕ). LiesAt r0 n near.0) (some_same at ∙ same) near.1 in
            list_order.never link (subst (λ (y : Link). Precedes y link) (lies_once r0 key near.0 link there lies) near.2)

pub take_more : (gone : List Link) (link : Link) (h0 h1 h2 : List Head) (r0 r1 r2 : List LinkRecord) → AreTaken gone h0 r0 h1 r1 → AreTaken (link ∷ []) h1 r1 h2 r2
    → AreTaken (gone ++ link ∷ []) h0 r0 h2 r2
take_more gone link h0 h1 h2 r0 r1 r2 all one = record {
  children = one.children ∙ all.children;
  len = one.len ∙ all.len;
  ascend = one.ascend;
  chained = one.chained;
  links = λ x. (
    λ has.
        let last = (one.links x).0 has in
        let before = (all.links x).0 last.0 in
        (before.0, λ at. elim (Contains-append_cases gone (link ∷ []) x at) [ inl earlier ↦ before.1 earlier | inr here ↦ last.1 here ]),
    λ both. (one.links x).1 (
      (all.links x).1 (both.0, λ at. both.1 (Contains-append_left gone (link ∷ []) x at)),
      λ at. both.1 (Contains-append_right gone (link ∷ []) x at),
    ),
  );
  kept = λ k x lies stays. one.kept k x (all.kept k x lies (λ at. stays (Contains-append_left gone (link ∷ []) x at)))
      (λ at. stays (Contains-append_right gone (link ∷ []) x at));
}

-- what comes at a key isn't before the link
pub past_link : (records : List LinkRecord) (key : ℕ) (other link : Link) → LiesAt records key other → (¬ Precedes other link) → (x : Link) → LiesAt records key x → ¬ Precedes x link
past_link records key other link lies not_before x at less = not_before (subst (λ (y : Link). Precedes y link) (lies_once records key x other at lies) less)

-- what comes before in a list is lower
pub told_less : (records : List LinkRecord) (place : Option ℕ) (link : Link) → ((p : ℕ) → place ≡ Some p → (x : Link) × LiesAt records p x × Precedes x link)
    → (p : ℕ) → place ≡ Some p → (x : Link) × LiesAt records p x × (order x link ≡ Less)
told_less records place link nearer p is = (let near = nearer p is in (near.0, near.1, near.2.1))

pub place_within : (records : List LinkRecord) (link : Link) (place : Option ℕ) → IsPlace records link place → IfSome place (λ p. p < length records)
place_within records link None none = tt
place_within records link (Some p) near = lies_within records p near.0 near.1

-- behind the place of a link that is there comes its record
pub next_key : (heads : List Head) (records : List LinkRecord) (link : Link) (place next : Option ℕ) → AreChained heads records → IsPlace records link place → (has : HasLink records link)
    → next ≡ next_of heads records link.child place → next ≡ Some has.0
next_key heads records link place next chained here has is = is ∙ next_lies heads records link place chained here has

pub taken_key : (heads : List Head) (records : List LinkRecord) (link : Link) (place next : Option ℕ) (key : ℕ) → AreChained heads records → IsPlace records link place → HasLink records link
    → next ≡ next_of heads records link.child place → next ≡ Some key → LiesAt records key link
taken_key heads records link place next key chained here has is some =
    subst (λ (n : ℕ). LiesAt records n link) (some_same (sym (next_key heads records link place next chained here has is) ∙ some)) has.1

pub led_within : (child : Oid) (place next : Option ℕ) (h0 : List Head) (r0 : List LinkRecord) (h1 : List Head) (r1 : List LinkRecord) (key : ℕ) (link : Link) → LiesAt r0 key link
    → IsLed child place next h0 r0 h1 r1 → key < length r1
led_within child place next h0 r0 h1 r1 key link lies led = omega (arith, lies_within r0 key link lies, led.len)

-- the same where the place was found in slices of the records
pub put_through : (h0 h1 : List Head) (r0 r1 r2 s1 s2 s3 : List LinkRecord) → s1 ≡ r0 → s2 ≡ r0 → s3 ≡ r1 → (link : Link) (place next : Option ℕ) (key : ℕ) → AreChained h0 r0 → (¬ HasLink r0 link)
    → IsPlace s1 link place → next ≡ next_of h0 s2 link.child place → IsWritten r0 key (record { edge = Some link; after = next }) r1
    → IsLed link.child place (Some key) h0 s3 h1 r2 → ArePut (link ∷ []) r0 h1 r2
put_through h0 h1 r0 r1 r2 s1 s2 s3 first second third link place next key chained new here next_at put led =
    put_one h0 h1 r0 r1 r2 link place next key chained new (subst (λ (r : List LinkRecord). IsPlace r link place) first here)
    (subst (λ (r : List LinkRecord). next ≡ next_of h0 r link.child place) second next_at) put
    (subst (λ (r : List LinkRecord). IsLed link.child place (Some key) h0 r h1 r2) third led)

-- what was written through a slice of a whole list is the list then
pub with_all : {X : Type 0} (new old : List X) (n : ℕ) → n ≡ length new → take n (new ++ drop (length new) old) ≡ new
with_all new old n is = take-append-le n new (drop (length new) old) (omega (arith, is)) ∙ take_all n new (omega (arith, is))

pub same_length : (old new : List Head) → map (λ (h : Head). h.child) new ≡ map (λ (h : Head). h.child) old → length new ≡ length old
same_length old new same = sym (length-map new (λ (h : Head). h.child)) ∙ ap length same ∙ length-map old (λ (h : Head). h.child)
