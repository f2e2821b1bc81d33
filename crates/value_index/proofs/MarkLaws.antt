-- Objects that are marked: which of them entries name, and which leave.
use Rattle.std.proofs.Common.{◌≡◌, ◌==◌, ◌+◌, ◌<◌, ◌&&◌, ◌||◌, ℕ, Bool, true, false, not, cond, Equal, Err, List, [], ◌∷◌, ◌++◌, map, length, get_or, take, drop, All, subst, refl, sym, ap, ◌∙◌, arith}
use Rattle.std.specs.Prelude.{filter, slice_set}
use Rattle.std.specs.Ordering.{nat_cmp}
use Rattle.std.specs.List.Sorted.{IsBinarySearchResult}
use Rattle.std.proofs.lemmas.Bool.{false_from_ne_true}
use Rattle.std.proofs.lemmas.Bool.Decides.{nat_tests}
use Rattle.std.proofs.lemmas.List.{take-append-drop, get_or_default, get_or-map, length-take-le, length-map, map-append, set_at, length-set}
use Rattle.std.proofs.lemmas.List.Elements.{All-tail}
use Rattle.lore_base.proofs.MemberLaws.{Contains-same}
use Rattle.list_laws.proofs.MemberLaws.{All-from_members}
use Rattle.list_laws.proofs.OrderLaws.{less_from_cmp, same_from_cmp}
use Rattle.list_laws.proofs.PartLaws.{drop_more_read}
use Rattle.index_traits.specs.Entries.{entry_of}
use Rattle.sorted_list.proofs.SingleLaws.{all_below, all_above}
use Rattle.value_index.specs.Types.{Oid, Value, Whole, Chars, Flag, Complex, Entry, Kind, Wholes, Texts, Flags}
use Rattle.value_orders.specs.Kinds.{is_of}
use Rattle.value_orders.specs.Held.{object_cmp, AscendByObject, has_value}
use Rattle.value_index.specs.inside.Leaving.{names, own_entries}
use Rattle.value_orders.specs.EntryOrder.{object_total}
use Rattle.value_index.specs.inside.Leaving.{is_staying, leaving_of}
use Rattle.value_index.specs.inside.Marks.{is_complex, marked_if, marked, marked_by}
use Rattle.value_orders.specs.Orders.{Orders, AreSortedOrders}
use Rattle.value_orders.proofs.HeldLaws.{none-live, written-whole}
use Rattle.value_orders.proofs.OrderLaws.{atomic-in_order}

map_same : {X : Type 0} (f : X → X) (xs : List X) → All (λ x. f x ≡ x) xs → map f xs ≡ xs
map_same f [] all = refl
map_same {X} f (x ∷ xs) all =
    ap (λ (y : X). y ∷ map f xs) (all 0 x (omega arith)) ∙ ap (λ (l : List X). x ∷ l) (map_same f xs (All-tail (λ y. f y ≡ y) x xs all))

map_as : {X : Type 0} (f g h : X → X) → ((x : X) → f (g x) ≡ h x) → (xs : List X) → map f (map g xs) ≡ map h xs
map_as f g h same [] = refl
map_as {X} f g h same (x ∷ xs) = ap (λ (y : X). y ∷ map f (map g xs)) (same x) ∙ ap (λ (l : List X). h x ∷ l) (map_as f g h same xs)

-- ---- one object is marked

not_marked : (kind : Kind) (oid : Oid) (object : Oid × Value) → (oid.0 ≡ object.0.0 → ⊥) → marked kind oid object ≡ object
not_marked kind oid object other =
    let test : (oid.0 == object.0.0) ≡ false = false_from_ne_true (oid.0 == object.0.0) (λ h. other (let same : oid.0 ≡ object.0.0 = grind (arith, nat_tests) in same)) in
    ap (λ (b : Bool). marked_if (b && is_of kind object.1) object) test

pub mark-here : (kind : Kind) (objects : List (Oid × Value)) → AscendByObject objects → (oid : Oid) (place : ℕ) (d : Oid × Value) → place < length objects
    → nat_cmp (get_or objects place d).0.0 oid.0 ≡ Equal
    → slice_set objects place (marked_if (is_of kind (get_or objects place d).1) (get_or objects place d)) ≡ map (marked kind oid) objects
mark-here kind objects ascend oid place d lt equal =
    let x = get_or objects place d in
    let front = take place objects in
    let back = drop (place + 1) objects in
    let new = marked_if (is_of kind x.1) x in
    let number : x.0.0 ≡ oid.0 = same_from_cmp _ _ equal in
    let whole : objects ≡ front ++ x ∷ back
    = sym (take-append-drop place objects) ∙ ap (λ (l : List (Oid × Value)). front ++ l) (drop_more_read objects place x lt (sym (get_or_default objects place x d lt))) in
    let long : length front ≡ place = length-take-le place objects (omega (arith, lt)) in
    let parts = subst (λ (l : List (Oid × Value)). AscendByObject l) whole ascend in
    let below = all_below object_cmp object_total front back x parts in
    let above = all_above object_cmp object_total front back x parts in
    let front_same : map (marked kind oid) front ≡ front = map_same (marked kind oid) front (λ k e at.
    not_marked kind oid (get_or front k e) (λ same. omega (arith, less_from_cmp (get_or front k e).0.0 x.0.0 (below k e at), number, same))) in
    let back_same : map (marked kind oid) back ≡ back = map_same (marked kind oid) back (λ k e at.
    not_marked kind oid (get_or back k e) (λ same. omega (arith, less_from_cmp x.0.0 (get_or back k e).0.0 (above k e at), number, same))) in
    let test : (oid.0 == x.0.0) ≡ true = (let same : oid.0 ≡ x.0.0 = sym number in grind (arith, nat_tests)) in
    let here : marked kind oid x ≡ new = ap (λ (b : Bool). marked_if (b && is_of kind x.1) x) test in
    ap (λ (l : List (Oid × Value)). slice_set l place new) whole ∙ set_at front x back new place long
    ∙ sym (ap (map (marked kind oid)) whole ∙ map-append (marked kind oid) front (x ∷ back)
    ∙ ap (λ (l : List (Oid × Value)). l ++ map (marked kind oid) (x ∷ back)) front_same
    ∙ ap (λ (o : Oid × Value). front ++ o ∷ map (marked kind oid) back) here
    ∙ ap (λ (l : List (Oid × Value)). front ++ new ∷ l) back_same)

pub mark-gap : (kind : Kind) (objects : List (Oid × Value)) → AscendByObject objects → (oid : Oid) (place : ℕ)
    → IsBinarySearchResult (λ (o : Oid × Value). nat_cmp o.0.0 oid.0) objects (Err place) → map (marked kind oid) objects ≡ objects
mark-gap kind objects ascend oid place gap =
    map_same (marked kind oid) objects (λ k d lt.
    let object = get_or objects k d in
    not_marked kind oid object (λ number.
    let same : ◌≡◌ {A = Oid × Value} object (oid, object.1) = ap (λ n. (record { 0 = n }, object.1)) (sym number) in
    none-live objects ascend oid place gap (object.1, Contains-same objects object (oid, object.1) same (k, lt, get_or_default objects k object d lt))))

-- the same of a vector that was searched and written through a slice
pub marked-seen : (kind : Kind) (objects searched slice written : List (Oid × Value)) (oid : Oid) (place : ℕ) → searched ≡ objects → slice ≡ objects → AscendByObject objects
    → place < length searched → ((d : Oid × Value) → nat_cmp (get_or searched place d).0.0 oid.0 ≡ Equal)
    → ((d : Oid × Value) → written ≡ slice_set slice place (marked_if (is_of kind (get_or slice place d).1) (get_or slice place d))) → {n : ℕ} → n ≡ length slice
    → take n (written ++ drop (length written) objects) ≡ map (marked kind oid) objects
marked-seen kind objects searched slice written oid place searched_are slice_is ascend lt equal is {n} long =
    let d : Oid × Value = (oid, Complex) in
    let set : written ≡ slice_set objects place (marked_if (is_of kind (get_or objects place d).1) (get_or objects place d))
    = is d ∙ ap (λ (l : List (Oid × Value)). slice_set l place (marked_if (is_of kind (get_or l place d).1) (get_or l place d))) slice_is in
    let as_long : length written ≡ length objects = ap length set ∙ length-set objects place (marked_if (is_of kind (get_or objects place d).1) (get_or objects place d)) in
    written-whole written objects n (omega (arith, long, as_long, ap length slice_is)) ∙ set
    ∙ mark-here kind objects ascend oid place d (subst (λ (l : List (Oid × Value)). place < length l) searched_are lt)
    (subst (λ (l : List (Oid × Value)). nat_cmp (get_or l place d).0.0 oid.0 ≡ Equal) searched_are (equal d))

pub mark-absent : (kind : Kind) (objects searched : List (Oid × Value)) (oid : Oid) (place : ℕ) → searched ≡ objects → AscendByObject objects
    → IsBinarySearchResult (λ (o : Oid × Value). nat_cmp o.0.0 oid.0) searched (Err place) → objects ≡ map (marked kind oid) objects
mark-absent kind objects searched oid place seen ascend gap =
    sym (mark-gap kind objects ascend oid place (subst (λ (l : List (Oid × Value)). IsBinarySearchResult (λ (o : Oid × Value). nat_cmp o.0.0 oid.0) l (Err place)) seen gap))

-- ---- objects that entries name, one after another

pub marked-none : (kind : Kind) (objects : List (Oid × Value)) → objects ≡ map (marked_by kind []) objects
marked-none kind objects = sym (map_same (marked_by kind []) objects (λ k d lt. refl))

either_way : (b : Bool) (value : Value) → cond b value value ≡ value
either_way true value = refl
either_way false value = refl

-- the value of a marked object
abbrev value_if : Kind → Bool → Value → Value
value_if kind named value = cond (named && is_of kind value) Complex value

-- values of another kind stay
still : (kind : Kind) (named : Bool) (value : Value) → is_of kind value ≡ false → value_if kind named value ≡ value
still kind true value other = ap (λ (b : Bool). cond b Complex value) other
still kind false value other = refl

value-more : (kind : Kind) (named next : Bool) (value : Value) → value_if kind next (value_if kind named value) ≡ value_if kind (named || next) value
value-more kind false next value = refl
value-more kind true next value =
    elim (is_of kind value) as (λ (b : Bool). is_of kind value ≡ b → value_if kind next (cond b Complex value) ≡ cond b Complex value) [
      | true ↦ λ _. either_way (next && is_of kind Complex) Complex
      | false ↦ λ other. still kind next value other
    ] refl

names-more : (entries : List Entry) (last : Entry) (oid : Oid) → names (entries ++ last ∷ []) oid ≡ (names entries oid || (last.object.0 == oid.0))
names-more [] last oid = elim (last.object.0 == oid.0) as (λ (b : Bool). (b || false) ≡ b) [ true ↦ refl | false ↦ refl ]
names-more (first ∷ rest) last oid =
    elim (first.object.0 == oid.0) as (λ (b : Bool). (b || names (rest ++ last ∷ []) oid) ≡ ((b || names rest oid) || (last.object.0 == oid.0))) [
      | true ↦ refl
      | false ↦ names-more rest last oid
    ]

marked_one_more : (kind : Kind) (entries : List Entry) (last : Entry) (object : Oid × Value)
    → marked kind last.object (marked_by kind entries object) ≡ marked_by kind (entries ++ last ∷ []) object
marked_one_more kind entries last object =
    ap (λ (v : Value). (object.0, v)) (value-more kind (names entries object.0) (last.object.0 == object.0.0) object.1
    ∙ ap (λ (b : Bool). value_if kind b object.1) (sym (names-more entries last object.0)))

pub marked-more : (kind : Kind) (entries : List Entry) (last : Entry) (objects : List (Oid × Value))
    → map (marked kind last.object) (map (marked_by kind entries) objects) ≡ map (marked_by kind (entries ++ last ∷ [])) objects
marked-more kind entries last objects = map_as (marked kind last.object) (marked_by kind entries) (marked_by kind (entries ++ last ∷ [])) (marked_one_more kind entries last) objects

-- marked objects ascend as before
pub marked-ascend : (kind : Kind) (entries : List Entry) (objects : List (Oid × Value)) → AscendByObject objects → AscendByObject (map (marked_by kind entries) objects)
marked-ascend kind entries objects ascend i j d lt len =
    let within : j < length objects = omega (arith, len, length-map objects (marked_by kind entries)) in
    rw (get_or-map (marked_by kind entries) objects i d d (omega (arith, lt, within)), get_or-map (marked_by kind entries) objects j d d within) (ascend i j d lt within)

-- ---- those that are not marked leave

-- the test of the order in which the entries of a value's object stand
abbrev own_of_three : Bool → Bool → Bool → Value → Bool
own_of_three wholes texts flags (Whole number) = wholes
own_of_three wholes texts flags (Chars text) = texts
own_of_three wholes texts flags (Flag flag) = flags
own_of_three wholes texts flags Complex = false

own_named : (wholes texts flags : List Entry) (oid : Oid) (value : Value)
    → own_of_three (names wholes oid) (names texts oid) (names flags oid) value ≡ names (own_entries wholes texts flags value) oid
own_named wholes texts flags oid (Whole number) = refl
own_named wholes texts flags oid (Chars text) = refl
own_named wholes texts flags oid (Flag flag) = refl
own_named wholes texts flags oid Complex = refl

-- after the three kinds the value is complex if an entry of its own order names the object
three : (a b c : Bool) (value : Value) → value_if Flags c (value_if Texts b (value_if Wholes a value)) ≡ cond (own_of_three a b c value) Complex value
three true b c (Whole number) = ap (value_if Flags c) (still Texts b Complex refl) ∙ still Flags c Complex refl
three false b c (Whole number) = ap (value_if Flags c) (still Texts b (Whole number) refl) ∙ still Flags c (Whole number) refl
three a true c (Chars text) = ap (λ (v : Value). value_if Flags c (value_if Texts true v)) (still Wholes a (Chars text) refl) ∙ still Flags c Complex refl
three a false c (Chars text) = ap (λ (v : Value). value_if Flags c (value_if Texts false v)) (still Wholes a (Chars text) refl) ∙ still Flags c (Chars text) refl
three a b true (Flag flag) =
    ap (λ (v : Value). value_if Flags true (value_if Texts b v)) (still Wholes a (Flag flag) refl) ∙ ap (value_if Flags true) (still Texts b (Flag flag) refl)
three a b false (Flag flag) =
    ap (λ (v : Value). value_if Flags false (value_if Texts b v)) (still Wholes a (Flag flag) refl) ∙ ap (value_if Flags false) (still Texts b (Flag flag) refl)
three a b c Complex =
    ap (λ (v : Value). value_if Flags c (value_if Texts b v)) (still Wholes a Complex refl) ∙ ap (value_if Flags c) (still Texts b Complex refl) ∙ still Flags c Complex refl

told_complex : (value : Value) → (value ≡ Complex → ⊥) → is_complex value ≡ false
told_complex (Whole number) atomic = refl
told_complex (Chars text) atomic = refl
told_complex (Flag flag) atomic = refl
told_complex Complex atomic = absurd (atomic refl)

-- an object is left out of what leaves if it is marked or given a value
leave_one : (named has : Bool) (oid : Oid) (value : Value) → is_complex value ≡ false → (rest : List (Oid × Value))
    → cond (not (is_complex (cond named Complex value) || has)) ((oid, cond named Complex value) ∷ rest) rest ≡ cond (not (has || named)) ((oid, value) ∷ rest) rest
leave_one true true oid value atomic rest = refl
leave_one true false oid value atomic rest = refl
leave_one false true oid value atomic rest = ap (λ (b : Bool). cond (not (b || true)) ((oid, value) ∷ rest) rest) atomic
leave_one false false oid value atomic rest = ap (λ (b : Bool). cond (not (b || false)) ((oid, value) ∷ rest) rest) atomic

pub marked-leave : (come : List (Oid × Value)) (wholes texts flags : List Entry) (gone : List (Oid × Value)) → All (λ (o : Oid × Value). o.1 ≡ Complex → ⊥) gone
    → filter (λ (o : Oid × Value). not (is_complex o.1 || has_value come o.0))
    (map (marked_by Flags flags) (map (marked_by Texts texts) (map (marked_by Wholes wholes) gone))) ≡ leaving_of come wholes texts flags gone
marked-leave come wholes texts flags [] atomic = refl
marked-leave come wholes texts flags (first ∷ gone) atomic =
    let left = filter (λ (o : Oid × Value). not (is_complex o.1 || has_value come o.0))
    (map (marked_by Flags flags) (map (marked_by Texts texts) (map (marked_by Wholes wholes) gone))) in
    let oid = first.0 in
    let has = has_value come oid in
    ap (λ (v : Value). cond (not (is_complex v || has)) ((oid, v) ∷ left) left) (three (names wholes oid) (names texts oid) (names flags oid) first.1)
    ∙ leave_one (own_of_three (names wholes oid) (names texts oid) (names flags oid) first.1) has oid first.1 (told_complex first.1 (atomic 0 first (omega arith))) left
    ∙ ap (λ (b : Bool). cond (not (has || b)) (first ∷ left) left) (own_named wholes texts flags oid first.1)
    ∙ ap (λ (l : List (Oid × Value)). cond (not (is_staying come wholes texts flags first)) (first ∷ l) l)
    (marked-leave come wholes texts flags gone (All-tail (λ (o : Oid × Value). o.1 ≡ Complex → ⊥) first gone atomic))

-- the values that orders hold are atomic
pub held-atomic : (orders : Orders) → AreSortedOrders orders → All (λ (o : Oid × Value). o.1 ≡ Complex → ⊥) orders.values
held-atomic orders sorted =
    All-from_members (λ (o : Oid × Value). o.1 ≡ Complex → ⊥) orders.values (λ o at.
    let own = sorted.are.values.only o at in
    atomic-in_order orders sorted (entry_of own.0 o.1 o.0) own.1)
